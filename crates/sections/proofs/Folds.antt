-- What a section that is being read keeps, word by word.
use Rattle.std.proofs.Common.{◌≡◌, ℕ, zero, suc, ◌+◌, ◌<◌, ◌≤◌, min, Bool, true, false, List, length, Ok, Err, Result, sym, ap, ◌∙◌, arith}
use Rattle.std.proofs.lemmas.List.{drop_all}
use Rattle.site.specs.declared.refusals.Refusal.{Refusal}
use Rattle.site.specs.declared.refusals.Cause.TheVariants.{TextEnds}
use Rattle.site.specs.Refusals.{refuse}
use Rattle.words.specs.declared.words.Found.{Found}
use Rattle.words.specs.Words.{bytes_of, word_at, value_at, moved, due_from}
use Rattle.sections.specs.Meeting.{Section, onward, met, turn, turns, viewed}

-- from a state at a place, reading on gives the goal
pub record Sofar {S : Type 0} (M : Section S) (text : List ℕ) (s : S) (at : ℕ) (goal : Result (S × ℕ) Refusal) : Type 0 where
  pub fuel : ℕ
  pub enough : length text ≤ at + fuel
  pub same : turns M fuel text s at ≡ goal

-- at the end of the text and past it no word is left
past_any : (b : Bool) (text : List ℕ) (at : ℕ) → length text ≤ at → due_from b text at ≡ refuse TextEnds (length text)
past_any true text at h = ap (λ l. moved (min at (length text)) (value_at l)) (drop_all at text h) ∙ (let e : min at (length text) + 0 ≡ length text = omega arith in ap (refuse TextEnds) e)
past_any false text at h = ap (λ l. moved (min at (length text)) (word_at l)) (drop_all at text h) ∙ (let e : min at (length text) + 0 ≡ length text = omega arith in ap (refuse TextEnds) e)

module _ {S : Type 0} (M : Section S) where
  on : (k : ℕ) (text : List ℕ) (s : S) (at : ℕ) (t : S) (to : ℕ) (goal : Result (S × ℕ) Refusal) → length text ≤ at + k → turns M k text s at ≡ goal → M.done s ≡ false → turn M text s at ≡ Ok (t, to) → at < to → to ≤ length text → Sofar M text t to goal
  on zero text s at t to goal en e go is up within = absurd (omega arith)
  on (suc k) text s at t to goal en e go is up within = record {
    fuel = k;
    enough = omega arith;
    same = sym (ap (onward (λ p. turns M k text p.0 p.1)) is) ∙ (rw go at e);
  }

  off : (k : ℕ) (text : List ℕ) (s : S) (at : ℕ) (f : Refusal) (goal : Result (S × ℕ) Refusal) → length text ≤ at + k → turns M k text s at ≡ goal → M.done s ≡ false → turn M text s at ≡ Err f → Err f ≡ goal
  off zero text s at f goal en e go is =
      let p = ap (onward (met M text s)) (past_any (M.due s) text at (omega arith)) in
      let q = rw go at e in
      sym is ∙ p ∙ q
  off (suc k) text s at f goal en e go is = sym (ap (onward (λ p. turns M k text p.0 p.1)) is) ∙ (rw go at e)

module _ {S : Type 0} {M : Section S} {text : List ℕ} {s : S} {at : ℕ} {goal : Result (S × ℕ) Refusal} (h : Sofar M text s at goal) where
  -- a word was read and met
  pub one_more : (f : Found) (t : S) {bs : List ℕ} → M.done s ≡ false → due_from (M.due s) text at ≡ Ok f → bs ≡ bytes_of text f → M.meet s f.word bs f.from ≡ Ok t → at < f.to → f.to ≤ length text → Sofar M text t f.to goal
  one_more f t go was b is = on M h.fuel text s at t f.to goal h.enough h.same go (ap (onward (met M text s)) was ∙ ap (onward (λ u. Ok (u, f.to))) (ap (λ x. M.meet s f.word x f.from) (sym b) ∙ is))

  -- no word was read
  pub unread : (e : Refusal) → M.done s ≡ false → due_from (M.due s) text at ≡ Err e → Err e ≡ goal
  unread e go was = off M h.fuel text s at e goal h.enough h.same go (ap (onward (met M text s)) was)

  -- a word was read and refused
  pub unmet : (f : Found) (e : Refusal) {bs : List ℕ} → M.done s ≡ false → due_from (M.due s) text at ≡ Ok f → bs ≡ bytes_of text f → M.meet s f.word bs f.from ≡ Err e → Err e ≡ goal
  unmet f e go was b is = off M h.fuel text s at e goal h.enough h.same go (ap (onward (met M text s)) was ∙ ap (onward (λ u. Ok (u, f.to))) (ap (λ x. M.meet s f.word x f.from) (sym b) ∙ is))

  pub ended : M.done s ≡ true → Ok (s, at) ≡ goal
  ended e = all h.fuel h.same
    where
      all : (k : ℕ) → turns M k text s at ≡ goal → Ok (s, at) ≡ goal
      all zero q = rw e at q
      all (suc k) q = rw e at q

-- a reader that passes a refusal on
pub passed_on : {R S : Type 0} (v : R → S) {goal : Result (S × ℕ) Refusal} (r : Result (R × ℕ) Refusal) (e e' : Refusal) → r ≡ Err e → e ≡ e' → Err e' ≡ goal → viewed v r ≡ goal
passed_on v r e e' p q g = ap (viewed v) p ∙ ap Err q ∙ g

-- a word or a value was read, as was due
pub as_due : (text : List ℕ) (at : ℕ) {b b' : Bool} {r : Result Found Refusal} → r ≡ due_from b text at → b ≡ b' → due_from b' text at ≡ r
as_due text at e f = ap (λ x. due_from x text at) (sym f) ∙ sym e
