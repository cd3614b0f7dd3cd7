-- Which word a test of its kind tells of.
use Rattle.std.proofs.Common.{◌≡◌, ℕ, true, false, cond, eqb, List, sym, refl, ap, ◌∙◌, subst}
use mathlib.Core.Bool.{false≢true}
use Rattle.std.proofs.lemmas.Bool.{eqb-true}
use Rattle.words.specs.declared.signs.Sign.{Sign}
use Rattle.words.specs.declared.signs.Sign.TheVariants.{Open, Close, Less, Greater, Comma, Semicolon, Same, Equals, Differs, AtLeast, AtMost, Star, Becomes}
use Rattle.words.specs.Tests.{sign_code, is_sign, is_named, is_value}
use Rattle.words.specs.Writing.{Token, name, value, sign, spelling, Stands, kind}

-- the sign of a number
abbrev sign_for : ℕ → Sign
sign_for n =
    cond (eqb n 2) Open (cond (eqb n 3) Close (cond (eqb n 4) Less (cond (eqb n 5) Greater (cond (eqb n 6) Comma (cond (eqb n 7) Semicolon
    (cond (eqb n 8) Same (cond (eqb n 9) Equals (cond (eqb n 10) Differs (cond (eqb n 11) AtLeast (cond (eqb n 12) AtMost (cond (eqb n 13) Star Becomes)))))))))))

sign_for_lem : (s : Sign) → sign_for (sign_code s) ≡ s
sign_for_lem Open = refl
sign_for_lem Close = refl
sign_for_lem Less = refl
sign_for_lem Greater = refl
sign_for_lem Comma = refl
sign_for_lem Semicolon = refl
sign_for_lem Same = refl
sign_for_lem Equals = refl
sign_for_lem Differs = refl
sign_for_lem AtLeast = refl
sign_for_lem AtMost = refl
sign_for_lem Star = refl
sign_for_lem Becomes = refl

not_low : (s : Sign) (k : ℕ) → eqb k 0 ≡ true → eqb k (sign_code s) ≡ false
not_low s k e = ap (λ n. eqb n (sign_code s)) (eqb-true k 0 e) ∙ go s
  where
    go : (g : Sign) → eqb 0 (sign_code g) ≡ false
    go Open = refl
    go Close = refl
    go Less = refl
    go Greater = refl
    go Comma = refl
    go Semicolon = refl
    go Same = refl
    go Equals = refl
    go Differs = refl
    go AtLeast = refl
    go AtMost = refl
    go Star = refl
    go Becomes = refl

no_name : (s : Sign) → eqb (sign_code s) 0 ≡ false
no_name Open = refl
no_name Close = refl
no_name Less = refl
no_name Greater = refl
no_name Comma = refl
no_name Semicolon = refl
no_name Same = refl
no_name Equals = refl
no_name Differs = refl
no_name AtLeast = refl
no_name AtMost = refl
no_name Star = refl
no_name Becomes = refl

no_value : (s : Sign) → eqb (sign_code s) 1 ≡ false
no_value Open = refl
no_value Close = refl
no_value Less = refl
no_value Greater = refl
no_value Comma = refl
no_value Semicolon = refl
no_value Same = refl
no_value Equals = refl
no_value Differs = refl
no_value AtLeast = refl
no_value AtMost = refl
no_value Star = refl
no_value Becomes = refl

name_no_sign : (s : Sign) → eqb 0 (sign_code s) ≡ true → ⊥
name_no_sign s e = false≢true (sym (not_low s 0 refl) ∙ e)

value_no_sign : (s : Sign) → eqb 1 (sign_code s) ≡ true → ⊥
value_no_sign s e = false≢true (sym (no_value s) ∙ ap (λ n. eqb n 1) (sym (eqb-true 1 (sign_code s) e)))

sign_is : (t : Token) (g : Sign) → is_sign (kind t) g ≡ true → t ≡ sign g
sign_is (name n) g e = absurd (name_no_sign g e)
sign_is (value n) g e = absurd (value_no_sign g e)
sign_is (sign s) g e = ap sign (sym (sign_for_lem s) ∙ ap sign_for (eqb-true (sign_code s) (sign_code g) e) ∙ sign_for_lem g)

name_is : (t : Token) → is_named (kind t) ≡ true → t ≡ name (spelling t)
name_is (name n) e = refl
name_is (value n) e = absurd (false≢true e)
name_is (sign s) e = absurd (false≢true (sym (no_name s) ∙ e))

value_is : (t : Token) → is_value (kind t) ≡ true → t ≡ value (spelling t)
value_is (name n) e = absurd (false≢true e)
value_is (value n) e = refl
value_is (sign s) e = absurd (false≢true (sym (no_value s) ∙ e))

module _ {text : List ℕ} {at : ℕ} {t : Token} {from to : ℕ} (st : Stands text at t from to) where
  pub as_sign : (g : Sign) → is_sign (kind t) g ≡ true → Stands text at (sign g) from to
  as_sign g e = subst (λ u. Stands text at u from to) (sign_is t g e) st

  pub as_name : is_named (kind t) ≡ true → Stands text at (name (spelling t)) from to
  as_name e = subst (λ u. Stands text at u from to) (name_is t e) st

  pub as_value : is_value (kind t) ≡ true → Stands text at (value (spelling t)) from to
  as_value e = subst (λ u. Stands text at u from to) (value_is t e) st
