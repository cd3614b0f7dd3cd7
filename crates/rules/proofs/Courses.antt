-- A section goes over a text as the words that stand there move it: forwards by each word, and with whatever each word keeps.
use Rattle.std.proofs.Common.{◌≡◌, ℕ, zero, suc, Bool, true, false, cond, ◌⊎◌, List, length, Ok, Err, Result, sym, refl, ap, ◌∙◌, subst, inl, inr}
use Rattle.site.specs.declared.refusals.Cause.TheVariants.{TextEnds}
use Rattle.site.specs.declared.refusals.Refusal.{Refusal}
use Rattle.site.specs.Refusals.{refuse}
use Rattle.words.specs.declared.words.Found.{Found as Read}
use Rattle.sections.specs.Meeting.{Section, onward, met, turn, turns}
use Rattle.words.specs.Words.{bytes_of, due_from}
use Rattle.words.specs.Writing.{Token, spelling, valued, Stands, kind}
use Rattle.sections.proofs.Folds.{Sofar, one_more}
use Rattle.words.proofs.Standing.{no_way, found, reads, bytes_are, goes_on, stays_within, read_back}

pub onward_ok : {A B : Type 0} (go : A → Result B Refusal) (b : B) (m : Result A Refusal) → onward go m ≡ Ok b → (a : A) × (m ≡ Ok a) × (go a ≡ Ok b)
onward_ok go b (Ok a) e = (a, refl, e)
onward_ok go b (Err x) e = absurd (no_way e)

pub which : {X : Type 0} (b : Bool) (m n : Result X Refusal) (x : X) → cond b m n ≡ Ok x → ((b ≡ true) × (m ≡ Ok x)) ⊎ ((b ≡ false) × (n ≡ Ok x))
which true m n x e = inl (refl, e)
which false m n x e = inr (refl, e)

pub ok_same : {X : Type 0} {x y : X} → ◌≡◌ {A = Result X Refusal} (Ok x) (Ok y) → x ≡ y
ok_same e = cc

module _ {S : Type 0} {M : Section S} {text : List ℕ} where
  -- a word that stands there moves the section
  pub by : {s : S} {at : ℕ} {goal : Result (S × ℕ) Refusal} {t : Token} {from to : ℕ} (s' : S) → Sofar M text s at goal → M.done s ≡ false → M.due s ≡ valued t → Stands text at t from to → M.meet s (kind t) (spelling t) from ≡ Ok s' → Sofar M text s' to goal
  by {at = at} {t = t} {from = from} {to = to} s' h undone d st e =
      one_more h (found (kind t) from to) s' {bs = spelling t} undone (ap (λ b. due_from b text at) d ∙ reads st) (sym (bytes_are st (kind t))) e (goes_on st) (stays_within st)

module _ {S : Type 0} (M : Section S) (text : List ℕ) where
  abbrev Kept : (S → ℕ → Type 0) → Type 0
  Kept Inv = (s : S) (at : ℕ) (t : Token) (from to : ℕ) (s' : S) → Inv s at → Stands text at t from to → valued t ≡ M.due s → M.meet s (kind t) (spelling t) from ≡ Ok s' → Inv s' to

  still : (Inv : S → ℕ → Type 0) (s u : S) (at end : ℕ) → Inv s at → M.done s ≡ true → ◌≡◌ {A = Result (S × ℕ) Refusal} (Ok (s, at)) (Ok (u, end)) → Inv u end × (M.done u ≡ true)
  still Inv s u at end h d e =
      let f : ◌≡◌ {A = S × ℕ} (s, at) (u, end) = ok_same e in
      (subst (λ (p : S × ℕ). Inv p.0 p.1) f h, subst (λ (p : S × ℕ). M.done p.0 ≡ true) f d)

  stepped : (Inv : S → ℕ → Type 0) → Kept Inv → (s : S) (at : ℕ) (p : S × ℕ) → Inv s at → turn M text s at ≡ Ok p → Inv p.0 p.1
  stepped Inv keeps s at p h e =
      let r = onward_ok (met M text s) p (due_from (M.due s) text at) e in
      let f : Read = r.0 in
      let m = onward_ok (λ u. Ok (u, f.to)) p (M.meet s f.word (bytes_of text f) f.from) r.2 in
      let w = read_back text at (M.due s) f r.1 in
      let bytes : bytes_of text f ≡ spelling w.token = bytes_are w.stands f.word in
      let moves : M.meet s (kind w.token) (spelling w.token) f.from ≡ Ok m.0 =
      sym (ap (λ k. M.meet s k (spelling w.token) f.from) w.word) ∙ sym (ap (λ l. M.meet s f.word l f.from) bytes) ∙ m.1 in
      let is : ◌≡◌ {A = S × ℕ} (m.0, f.to) p = ok_same m.2 in
      subst (λ (q : S × ℕ). Inv q.0 q.1) is (keeps s at w.token f.from f.to m.0 h w.stands w.as_due moves)

  -- what each word keeps holds at the end
  pub kept_through : (Inv : S → ℕ → Type 0) → Kept Inv → (k : ℕ) (s u : S) (at end : ℕ) → Inv s at → turns M k text s at ≡ Ok (u, end) → Inv u end × (M.done u ≡ true)
  kept_through Inv keeps zero s u at end h e = elim (which (M.done s) (Ok (s, at)) (refuse TextEnds (length text)) (u, end) e) [
    | inl p ↦ still Inv s u at end h p.0 p.1
    | inr p ↦ absurd (no_way p.1)
  ]
  kept_through Inv keeps (suc k) s u at end h e = elim (which (M.done s) (Ok (s, at)) (onward (λ p. turns M k text p.0 p.1) (turn M text s at)) (u, end) e) [
    | inl p ↦ still Inv s u at end h p.0 p.1
    | inr p ↦
        (let q = onward_ok (λ p. turns M k text p.0 p.1) (u, end) (turn M text s at) p.1 in
        kept_through Inv keeps k q.0.0 u q.0.1 end (stepped Inv keeps s at q.0 h q.1) q.2)
  ]
