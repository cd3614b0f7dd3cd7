-- What a comparison that is taken does to a set.
use Rattle.std.proofs.Common.{◌≡◌, ℕ, ◌+◌, ◌<◌, min, Bool, true, false, ◌&&◌, ltb, List, [], ◌∷◌, ◌++◌, length, get_or, take, set, Some, None, sym, refl, ap, ◌∙◌, ⊎_elim, arith}
use Rattle.std.proofs.lemmas.List.FromFn.{get_or-map-range_with_len}
use Rattle.std.proofs.lemmas.List.{take_more_set}
use Rattle.std.proofs.lemmas.Bool.{cases_lt, cond-true, lt-ltb, le-ltb}
use Rattle.address.specs.declared.address.Address.{Address}
use Rattle.clock.specs.declared.clock.Clock.{Clock}
use Rattle.kind.specs.declared.comparison.Sign.{Sign}
use Rattle.kind.specs.declared.comparison.Sign.TheVariants.{AtLeast, AtMost}
use Rattle.day.specs.declared.day.Day.{Day}
use Rattle.address.specs.declared.entry.Entry.{Entry}
use Rattle.address.specs.Addresses.{in_set, added}
use Rattle.day.specs.Days.{left, stands_to, compared}
use Rattle.address.specs.Entries.{agrees, all_agree}
use Rattle.kind.specs.Taking.{Taking, after, became}
use Rattle.clock.specs.Windows.{from, to, between, second_of_day, in_window, lower_bound, upper_bound, bounded}
use Rattle.address.proofs.Choices.{all_agree_both}

pub starts_at : (c : Clock) (s p : ℕ) → c.lower ≡ None → in_window (after c (bounded c AtLeast (Some s))) p ≡ (second_of_day p && between s (to c) p)
starts_at c s p none = ap (λ o. in_window (after c (lower_bound c o s)) p) none

pub ends_at : (c : Clock) (s p : ℕ) → c.upper ≡ None → in_window (after c (bounded c AtMost (Some s))) p ≡ (second_of_day p && between (from c) s p)
ends_at c s p none = ap (λ o. in_window (after c (upper_bound c o s)) p) none

and_assoc : (a b c : Bool) → (a && (b && c)) ≡ ((a && b) && c)
and_assoc true b c = refl
and_assoc false b c = refl

pub days_together : (c : Day) (s : Sign) (d p : ℕ) → left (after c (compared c s (Some d))) p ≡ (left c p && stands_to s p d)
days_together c s d p =
    ⊎_elim
    (λ h. ap (λ b. ltb p 7 && b) (get_or-map-range_with_len (λ k. get_or c.days k false && stands_to s k d) 0 7 p p false h (omega arith)) ∙ and_assoc (ltb p 7) (get_or c.days p false) (stands_to s p d))
    (λ h. let off = le-ltb p 7 h in rw off)
    (cases_lt p 7)

pub addresses_together : (a : Address) (e : Entry) (p : List ℕ) → a.count < 8 → length a.slots ≡ 8 → in_set (after a (added a e)) p ≡ (in_set a p && agrees p e)
addresses_together a e p room long =
    let taken : added a e ≡ became (record { count = a.count + 1; slots = set a.slots a.count e }) = cond-true _ _ _ (lt-ltb a.count 8 room) in
    let now' : min (a.count + 1) 8 ≡ a.count + 1 = omega arith in
    let then' : min a.count 8 ≡ a.count = omega arith in
    let grown : take (a.count + 1) (set a.slots a.count e) ≡ take a.count a.slots ++ (e ∷ []) = take_more_set a.slots a.count e (omega arith) in
    ap (λ (t : Taking Address). in_set (after a t) p) taken
    ∙ ap (λ n. all_agree p (take n (set a.slots a.count e))) now'
    ∙ ap (all_agree p) grown
    ∙ all_agree_both p (take a.count a.slots) (e ∷ [])
    ∙ ap (λ n. all_agree p (take n a.slots) && all_agree p (e ∷ [])) (sym then')
    ∙ ap (λ y. in_set a p && y) (and_true (agrees p e))
  where
    and_true : (y : Bool) → (y && true) ≡ y
    and_true true = refl
    and_true false = refl
