-- What the word readers say on each way, and the part that they are handed.
use Rattle.std.proofs.Common.{◌≡◌, ℕ, ◌+◌, ◌-◌, ◌<◌, min, Bool, true, false, cond, eqb, List, [], ◌∷◌, length, get_or, take, drop, Some, None, Option, Result, sym, refl, ap, ◌∙◌, arith}
use Rattle.std.specs.List.{prefix_len}
use Rattle.std.proofs.lemmas.List.{take_rest, length-drop}
use Rattle.std.proofs.lemmas.Bool.{both_ways, ne_eqb}
use Rattle.std.specs.Option.{option_map}
use Rattle.fixed.specs.Spelling.{name_byte}
use Rattle.site.specs.declared.refusals.Refusal.{Refusal}
use Rattle.site.specs.declared.refusals.Cause.TheVariants.{TextEnds, Unexpected}
use Rattle.site.specs.Refusals.{refuse}
use Rattle.words.specs.declared.signs.Sign.{Sign}
use Rattle.words.specs.declared.words.Found.{Found}
use Rattle.words.specs.declared.words.Word.{Word}
use Rattle.words.specs.declared.words.Word.TheVariants.{Name, Value}
use Rattle.words.specs.Words.{blank, value_byte, sign_of, signed, found, word_of, value_of, word_at, value_at, as_word, leading, due_of, due_at, due_from, moved}
use Rattle.words.proofs.Parts.{rest_from}

pub due_at_rest : (b : Bool) (part : List ℕ) (n : ℕ) → n ≡ prefix_len blank part → due_of b n (take (length part - n) (drop n part)) ≡ due_at b part
due_at_rest true part n e = ap (value_of n) (take_rest part n) ∙ ap (λ k. value_of k (drop k part)) e
due_at_rest false part n e = ap (word_of n) (take_rest part n) ∙ ap (λ k. word_of k (drop k part)) e

pub length_rest : (part : List ℕ) (n : ℕ) → length (take (length part - n) (drop n part)) ≡ length part - n
length_rest part n = ap length (take_rest part n) ∙ length-drop n part

pub some_leads : (p : ℕ → Bool) (bs : List ℕ) → eqb (length bs) 0 ≡ false → p (get_or bs 0 0) ≡ true → 0 < prefix_len p bs
some_leads p [] e h = absurd (both_ways _ e refl)
some_leads p (b ∷ bs) e h = rw h (omega arith)

-- places are counted from the start of the text
module _ (text : List ℕ) (at start : ℕ) (s : start ≡ min at (length text)) where
  pub due_moved : (b : Bool) (r : Result Found Refusal) → r ≡ due_at b (take (length text - start) (drop start text)) → moved start r ≡ due_from b text at
  due_moved true r e = ap (moved start) (e ∙ ap value_at (rest_from text at start s)) ∙ ap (λ n. moved n (value_at (drop at text))) s
  due_moved false r e = ap (moved start) (e ∙ ap word_at (rest_from text at start s)) ∙ ap (λ n. moved n (word_at (drop at text))) s

module _ (n : ℕ) (bs : List ℕ) where
  pub word_ended : eqb (length bs) 0 ≡ true → word_of n bs ≡ refuse TextEnds n
  word_ended e = rw e

  pub value_ended : eqb (length bs) 0 ≡ true → value_of n bs ≡ refuse TextEnds n
  value_ended e = rw e

  module _ (some : eqb (length bs) 0 ≡ false) where
    pub named : (k : ℕ) → k ≡ prefix_len name_byte bs → name_byte (get_or bs 0 0) ≡ true → word_of n bs ≡ found Name n (n + k)
    named k e f = rw (some, f, ← e)

    pub at_sign : (s : Option (Sign × ℕ)) → s ≡ sign_of (get_or bs 0 0) (get_or bs 1 0) → name_byte (get_or bs 0 0) ≡ false → word_of n bs ≡ signed n s
    at_sign s e f = rw (some, f) (ap (signed n) (sym e))

    pub no_value : (k : ℕ) → k ≡ prefix_len value_byte bs → eqb k 0 ≡ true → value_of n bs ≡ refuse Unexpected n
    no_value k e f = rw (some, ← e, f)

    pub valued : (k : ℕ) → k ≡ prefix_len value_byte bs → eqb k 0 ≡ false → value_of n bs ≡ found Value n (n + k)
    valued k e f = rw (some, ← e, f)

-- the word that leads, in its place
abbrev pub placed : ℕ → Option (Word × ℕ) → Result Found Refusal
placed n (Some p) = found p.0 n (n + p.1)
placed n None = refuse Unexpected n

sign_placed : (n : ℕ) (s : Option (Sign × ℕ)) → signed n s ≡ placed n (option_map as_word s)
sign_placed n (Some s) = refl
sign_placed n None = refl

pub due_placed : (b : Bool) (n : ℕ) (bs : List ℕ) → eqb (length bs) 0 ≡ false → due_of b n bs ≡ placed n (leading b bs)
due_placed b n [] e = absurd (both_ways _ e refl)
due_placed true n (x ∷ xs) e = rw e (go (eqb (prefix_len value_byte (x ∷ xs)) 0))
  where
    go : (t : Bool) → cond t (refuse Unexpected n) (found Value n (n + prefix_len value_byte (x ∷ xs))) ≡ placed n (cond t None (Some (Value, prefix_len value_byte (x ∷ xs))))
    go true = refl
    go false = refl
due_placed false n (x ∷ xs) e = rw e (go (name_byte x) refl)
  where
    go : (t : Bool) → name_byte x ≡ t → cond (name_byte x) (found Name n (n + prefix_len name_byte (x ∷ xs))) (signed n (sign_of x (get_or xs 0 0))) ≡ placed n (leading false (x ∷ xs))
    go true h = let m : eqb (1 + prefix_len name_byte xs) 0 ≡ false = ne_eqb _ 0 (λ z. omega arith) in rw (h, m) refl
    go false h = rw h (sign_placed n (sign_of x (get_or xs 0 0)))
