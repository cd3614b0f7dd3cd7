-- Which word was found: each word has a number, by which the tests tell them apart.
use Rattle.std.specs.Prelude.{ℕ, Bool, ◌==◌}
use Rattle.words.specs.declared.signs.Sign.{Sign}
use Rattle.words.specs.declared.signs.Sign.TheVariants.{Open, Close, Less, Greater, Comma, Semicolon, Same, Equals, Differs, AtLeast, AtMost, Star, Becomes}
use Rattle.words.specs.declared.words.Word.{Word}
use Rattle.words.specs.declared.words.Word.TheVariants.{Name, Value, Sign as SignWord}

-- the number of a sign
abbrev pub sign_code : Sign → ℕ
sign_code Open = 2
sign_code Close = 3
sign_code Less = 4
sign_code Greater = 5
sign_code Comma = 6
sign_code Semicolon = 7
sign_code Same = 8
sign_code Equals = 9
sign_code Differs = 10
sign_code AtLeast = 11
sign_code AtMost = 12
sign_code Star = 13
sign_code Becomes = 14

-- the number of a word
abbrev pub code : Word → ℕ
code Name = 0
code Value = 1
code (SignWord s) = sign_code s

-- whether a word is a name
abbrev pub is_named : Word → Bool
is_named w = code w == 0

-- whether a word is a value
abbrev pub is_value : Word → Bool
is_value w = code w == 1

-- whether a word is a certain sign
abbrev pub is_sign : Word → Sign → Bool
is_sign w s = code w == sign_code s
