-- The fields of a map, one turn of the reader at a time.
use Rattle.std.proofs.Common.{◌≡◌, ℕ, zero, suc, ◌+◌, ◌-◌, ◌<◌, ◌≤◌, false, eqb, List, length, take, drop, Ok, Err, Result, sym, ap, ◌∙◌, arith, length-drop}
use Rattle.std.proofs.lemmas.List.{take_rest, drop-drop}
use Rattle.std.proofs.lemmas.Bool.{lt-ltb, le-ltb, eq-eqb, ne_eqb}
use Rattle.site.specs.declared.refusals.Cause.TheVariants.{CutShort}
use Rattle.site.specs.declared.refusals.Refusal.{Refusal}
use Rattle.site.specs.Plans.{Plan}
use Rattle.site.specs.Fields.{declare}
use Rattle.site.specs.Maps.{blank, span, front, one_field, fields, onward, placed}
use Rattle.site.specs.Refusals.{refuse}

-- at `at` the plan is s and these bytes are left, and they come to what the whole map comes to
pub record Sofar (bytes : List ℕ) (at : ℕ) (s : Plan) (rest : List ℕ) : Type 0 where
  pub fuel : ℕ
  pub upto : at + length rest ≡ length bytes
  pub enough : length rest ≤ fuel
  pub same : fields fuel at s rest ≡ fields (length bytes) 0 blank bytes

abbrev Whole : List ℕ → Result Plan Refusal
Whole bytes = fields (length bytes) 0 blank bytes

more : (k at : ℕ) (s t : Plan) (bytes rest : List ℕ) → at + length rest ≡ length bytes → length rest ≤ k → fields k at s rest ≡ Whole bytes → span rest ≤ length rest → one_field at s rest ≡ Ok t → Sofar bytes (at + span rest) t (drop (span rest) rest)
more zero at s t bytes rest pl en e fit is = absurd (omega arith)
more (suc k) at s t bytes rest pl en e fit is =
    let some : eqb (length rest) 0 ≡ false = ne_eqb (length rest) 0 (λ z. omega arith) in
    let left = length-drop (span rest) rest in
    record {
      fuel = k;
      upto = omega arith;
      enough = omega arith;
      same = sym (ap (onward (λ u. fields k (at + span rest) u (drop (span rest) rest))) is) ∙ (rw some at e);
    }

stop : (k at : ℕ) (s : Plan) (bytes rest : List ℕ) (f : Refusal) → length rest ≤ k → fields k at s rest ≡ Whole bytes → 0 < length rest → one_field at s rest ≡ Err f → Err f ≡ Whole bytes
stop zero at s bytes rest f en e pos is = absurd (omega arith)
stop (suc k) at s bytes rest f en e pos is =
    let some : eqb (length rest) 0 ≡ false = ne_eqb (length rest) 0 (λ z. omega arith) in
    sym (ap (onward (λ u. fields k (at + span rest) u (drop (span rest) rest))) is) ∙ (rw some at e)

end : (k at : ℕ) (s : Plan) (bytes rest : List ℕ) → fields k at s rest ≡ Whole bytes → length rest ≡ 0 → Ok s ≡ Whole bytes
end zero at s bytes rest e z = e
end (suc k) at s bytes rest e z = let none = eq-eqb (length rest) 0 z in rw none at e

module _ {bytes : List ℕ} {at : ℕ} {s : Plan} {rest : List ℕ} (h : Sofar bytes at s rest) where
  pub one_more : (t : Plan) → span rest ≤ length rest → one_field at s rest ≡ Ok t → Sofar bytes (at + span rest) t (drop (span rest) rest)
  one_more t = more h.fuel at s t bytes rest h.upto h.enough h.same

  pub stops : (f : Refusal) → 0 < length rest → one_field at s rest ≡ Err f → Err f ≡ Whole bytes
  stops f = stop h.fuel at s bytes rest f h.enough h.same

  pub ends_here : length rest ≡ 0 → Ok s ≡ Whole bytes
  ends_here = end h.fuel at s bytes rest h.same

module _ (p : ℕ) (s : Plan) (bs : List ℕ) where
  pub short : length bs < 3 → one_field p s bs ≡ refuse CutShort p
  short h = let a = lt-ltb (length bs) 3 h in rw a

  pub cut : 3 ≤ length bs → length bs < span bs → one_field p s bs ≡ refuse CutShort p
  cut h l = let a = le-ltb (length bs) 3 h in let b = lt-ltb (length bs) (span bs) l in rw (a, b)

  pub judged : 3 ≤ length bs → span bs ≤ length bs → one_field p s bs ≡ placed p (declare s (front bs))
  judged h l = let a = le-ltb (length bs) 3 h in let b = le-ltb (length bs) (span bs) l in rw (a, b)

-- the bytes after a field's first three
abbrev pub tail : List ℕ → List ℕ
tail bs = take (length bs - 3) (drop 3 bs)

pub length_tail : (bs : List ℕ) → length (tail bs) ≡ length bs - 3
length_tail bs = ap length (take_rest bs 3) ∙ length-drop 3 bs

pub front_is : (bs : List ℕ) (n : ℕ) → take n (drop 3 bs) ≡ take (n - 0) (tail bs)
front_is bs n = let z : n - 0 ≡ n = omega arith in rw (z, take_rest bs 3)

pub after_is : (bs : List ℕ) (n : ℕ) → take (length (tail bs) - n) (drop n (tail bs)) ≡ drop (3 + n) bs
after_is bs n = take_rest (tail bs) n ∙ ap (drop n) (take_rest bs 3) ∙ drop-drop n 3 bs
