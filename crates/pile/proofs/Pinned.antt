-- The checker's own kinds give one certain point.
use Rattle.std.proofs.Common.{◌≡◌, ℕ, ◌<◌, Bool, List, ◌++◌, get_or, Some, None, Option, sym, ap, ◌∙◌, ⊎_elim, arith}
use Rattle.std.proofs.lemmas.List.{same_lists, get_or_default}
use Rattle.std.proofs.lemmas.Bool.{cases_order, both_ways}
use Rattle.address.specs.declared.entry.Entry.{Entry}
use Rattle.address.specs.Addresses.{entries, address_sense}
use Rattle.address.specs.Choices.{fixed_at, Kept, LeastFree}
use Rattle.day.specs.Days.{day_sense}
use Rattle.kind.specs.Pairs.{pair_sense}
use Rattle.kind.specs.Sense.{Sense, Least, OneGiven}
use Rattle.clock.specs.Windows.{clock_sense}

least_once : (f g : ℕ → Bool) (p q : ℕ) → Least f g p → Least f g q → p ≡ q
least_once f g p q l m =
    ⊎_elim (λ e. e)
    (⊎_elim (λ h. absurd (m.none_below p h l.in_first l.in_second)) (λ h. absurd (l.none_below q h m.in_first m.in_second)))
    (cases_order p q)

pub clock_once : OneGiven clock_sense
clock_once a b p q l m = least_once _ _ p q l m

pub day_once : OneGiven day_sense
day_once a b p q l m = least_once _ _ p q l m

free_once : (i : ℕ) (es : List Entry) (v w : ℕ) → LeastFree i es v → LeastFree i es w → v ≡ w
free_once i es v w l m =
    ⊎_elim (λ e. e)
    (⊎_elim (λ h. absurd (both_ways _ l.free (m.least v h))) (λ h. absurd (both_ways _ m.free (l.least w h))))
    (cases_order v w)

kept_once : (o : Option ℕ) (i : ℕ) (es : List Entry) (v w : ℕ) → Kept o i es v → Kept o i es w → v ≡ w
kept_once (Some x) i es v w e f = e ∙ sym f
kept_once None i es v w l m = free_once i es v w l m

pub address_once : OneGiven address_sense
address_once a b p q l m =
    same_lists p q (l.chosen.four ∙ sym m.chosen.four)
    (λ i d h. let in' : i < 4 = omega (arith, l.chosen.four) in
    get_or_default p i d 0 h ∙ kept_once (fixed_at i (entries a ++ entries b)) i (entries a ++ entries b) (get_or p i 0) (get_or q i 0) (l.chosen.part i in') (m.chosen.part i in') ∙ get_or_default q i 0 d (omega (arith, m.chosen.four)))

pub pair_once : {C D P Q : Type 0} (f : Sense C P) (g : Sense D Q) → OneGiven f → OneGiven g → OneGiven (pair_sense f g)
pair_once f g s t a b p q l m = ap (λ x. (x, p.1)) (s _ _ _ _ l.0 m.0) ∙ ap (λ y. (q.0, y)) (t _ _ _ _ l.1 m.1)
