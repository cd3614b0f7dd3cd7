-- Whether each node has a link, node by node.
use Rattle.std.proofs.Common.{◌≡◌, ℕ, zero, suc, ◌<◌, Bool, true, false, List, length, MatchBool, sym, refl, ◌∙◌, subst, ⊎_elim, arith}
use Rattle.std.specs.List.{AllWithin, HoldsAt, range_with_len}
use Rattle.std.proofs.lemmas.List.FromFn.{get_or-range_with_len, length-range_with_len}
use Rattle.std.proofs.lemmas.Bool.{and_left, and_right, and_parts, and_from, cases_eq}
use Rattle.site.specs.declared.parts.Link.{Link}
use Rattle.site.specs.Links.{linked}
use Rattle.site.specs.Maps.{every_node_linked}
use Rattle.site.specs.Promises.{AllLinked}

pub linked_lacks : (ls : List Link) (n k : ℕ) → k < n → linked ls k ≡ false → every_node_linked ls n ≡ false
linked_lacks ls zero k lt e = absurd (omega arith)
linked_lacks ls (suc n) k lt e =
    ⊎_elim (λ q. and_left (linked ls n) _ (rw q at e)) (λ ne. and_right (linked ls n) _ (linked_lacks ls n k (omega arith) e)) (cases_eq k n)

pub all_linked : (ls : List Link) (n : ℕ) → every_node_linked ls n ≡ true → AllLinked n ls
all_linked ls zero a = λ k lt. absurd (omega arith)
all_linked ls (suc n) a = λ k lt.
    ⊎_elim (λ q. rw q (and_parts (linked ls n) _ a).0) (λ ne. all_linked ls n (and_parts (linked ls n) _ a).1 k (omega arith)) (cases_eq k n)

pub linked_all : (ls : List Link) (n : ℕ) → AllLinked n ls → every_node_linked ls n ≡ true
linked_all ls zero a = refl
linked_all ls (suc n) a = and_from _ _ (a n (omega arith)) (linked_all ls n (λ k lt. a k (omega arith)))

-- whether each of the first n nodes has a link, as asked of one after another
pub asked : (ls : List Link) (n : ℕ) (r : Bool) → MatchBool r (AllWithin (λ k. linked ls k ≡ true) (range_with_len 0 n) 0 (length (range_with_len 0 n))) ((k : ℕ) × (k < length (range_with_len 0 n)) × HoldsAt (λ k. linked ls k ≡ false) (range_with_len 0 n) k) → r ≡ every_node_linked ls n
asked ls n true a = sym (linked_all ls n (λ k lt. subst (λ j. linked ls j ≡ true) (get_or-range_with_len 0 n k 0 lt ∙ omega arith) (a k 0 (omega arith) (omega (arith, lt, length-range_with_len 0 n)))))
asked ls n false h =
    let lt : h.0 < n = omega (arith, h.1, length-range_with_len 0 n) in
    sym (linked_lacks ls n h.0 lt (subst (λ j. linked ls j ≡ false) (get_or-range_with_len 0 n h.0 0 lt ∙ omega arith) (h.2 0)))
