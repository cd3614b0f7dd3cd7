-- Why the chosen address decides: if any address agrees with all comparisons, the chosen one does.
use Rattle.std.proofs.Common.{◌≡◌, ℕ, ◌<◌, Bool, true, false, not, ◌&&◌, ◌⊎◌, List, [], ◌∷◌, ◌++◌, get_or, Some, None, Option, sym, refl, ap, ◌∙◌, subst, inl, inr, ⊎_elim, arith, lit<}
use Rattle.std.proofs.lemmas.Bool.{both_ways, and_from, and_parts, or_parts, cases_Bool, eqb-true, not-true}
use Rattle.std.specs.Option.{option_or}
use Rattle.address.specs.declared.entry.Entry.{Entry}
use Rattle.address.specs.declared.entry.Entry.TheVariants.{In, Out}
use Rattle.address.specs.declared.block.Block.{Block}
use Rattle.kind.specs.Sense.{Commons}
use Rattle.std.specs.Prelude.{MatchOption}
use Rattle.std.specs.Bool.{then_some}
use Rattle.address.specs.declared.address.Address.{Address}
use Rattle.address.specs.Addresses.{entries, in_set, address_sense}
use Rattle.address.specs.Blocks.{at_part, part_at, fits, is_number, covers}
use Rattle.address.specs.Choices.{fixed_at, excluded_at, Kept, PartOf, LeastFree, Chosen}
use Rattle.address.specs.Entries.{agrees, all_agree, fixed, excludes}

-- two lists, one after the other
pub all_agree_both : (p : List ℕ) (xs ys : List Entry) → all_agree p (xs ++ ys) ≡ (all_agree p xs && all_agree p ys)
all_agree_both p [] ys = refl
all_agree_both p (x ∷ xs) ys = ap (λ b. agrees p x && b) (all_agree_both p xs ys) ∙ and_assoc (agrees p x) (all_agree p xs) (all_agree p ys)
  where
    and_assoc : (a b c : Bool) → (a && (b && c)) ≡ ((a && b) && c)
    and_assoc true b c = refl
    and_assoc false b c = refl

-- what the first comparison that fixes a part gives, and what follows where it does not
some_none : (v : ℕ) → Some v ≡ None → ⊥
some_none v h = let z : ◌≡◌ {A = ℕ} 0 1 = cc in omega arith

picked : (o t u : Option ℕ) (w : ℕ) → option_or o t ≡ Some w → (t ≡ Some w → u ≡ Some w) → option_or o u ≡ Some w
picked (Some v) t u w h k = h
picked None t u w h k = k h

passed : (o t : Option ℕ) → option_or o t ≡ None → (o ≡ None) × (t ≡ None)
passed (Some v) t h = absurd (some_none v h)
passed None t h = (refl, h)

pub fixed_first : (i w : ℕ) (xs ys : List Entry) → fixed_at i xs ≡ Some w → fixed_at i (xs ++ ys) ≡ Some w
fixed_first i w [] ys h = absurd (some_none w (sym h))
fixed_first i w (x ∷ xs) ys h = picked (fixed i x) (fixed_at i xs) (fixed_at i (xs ++ ys)) w h (fixed_first i w xs ys)

pub fixed_second : (i : ℕ) (xs ys : List Entry) → fixed_at i xs ≡ None → fixed_at i (xs ++ ys) ≡ fixed_at i ys
fixed_second i [] ys h = refl
fixed_second i (x ∷ xs) ys h =
    let none = passed (fixed i x) (fixed_at i xs) h in
    ap (λ o. option_or o (fixed_at i (xs ++ ys))) none.0 ∙ fixed_second i xs ys none.1

-- what is fixed in one list, or else in another, is fixed in both together
pub fixed_both : (i : ℕ) (xs ys : List Entry) → fixed_at i (xs ++ ys) ≡ option_or (fixed_at i xs) (fixed_at i ys)
fixed_both i [] ys = refl
fixed_both i (x ∷ xs) ys = ap (option_or (fixed i x)) (fixed_both i xs ys) ∙ or_assoc (fixed i x) (fixed_at i xs) (fixed_at i ys)
  where
    or_assoc : (o p q : Option ℕ) → option_or o (option_or p q) ≡ option_or (option_or o p) q
    or_assoc None p q = refl
    or_assoc (Some v) p q = refl

-- a covered address fits each part
covers_part : (b : Block) (p : List ℕ) (i : ℕ) → i < 4 → covers b p ≡ true → at_part b p i ≡ true
covers_part b p i h c =
    let c0 = and_parts _ _ c in
    let c1 = and_parts _ _ c0.1 in
    let c2 = and_parts _ _ c1.1 in
    let P : ℕ → Type 0 = λ k. at_part b p k ≡ true in
    ⊎_elim (λ e. subst P (sym e) c0.0)
    (⊎_elim (λ e. subst P (sym e) c1.0)
    (⊎_elim (λ e. subst P (sym e) c2.0) (λ e. subst P (sym e) c2.1)))
    (four i h)
  where
    four : (i : ℕ) → i < 4 → (i ≡ 0) ⊎ ((i ≡ 1) ⊎ ((i ≡ 2) ⊎ (i ≡ 3)))
    four i h = grind arith

-- a part that an `==` fixes is that of every address in its block
fixes_agrees : (q : List ℕ) (i w : ℕ) (e : Entry) → i < 4 → agrees q e ≡ true → fixed i e ≡ Some w → w ≡ get_or q i 0
fixes_agrees q i w (In b) h agree fix = eqb-true w (get_or q i 0) (sym (ap (λ o. fits o (get_or q i 0)) fix) ∙ covers_part b q i h agree)
fixes_agrees q i w (Out b) h agree fix = absurd (some_none w (sym fix))

fixed_agrees : (q : List ℕ) (i w : ℕ) (es : List Entry) → i < 4 → all_agree q es ≡ true → fixed_at i es ≡ Some w → w ≡ get_or q i 0
fixed_agrees q i w [] h all e = absurd (some_none w (sym e))
fixed_agrees q i w (x ∷ xs) h all e =
    let both = and_parts (agrees q x) (all_agree q xs) all in
    here (fixed i x) refl e both (λ k. fixed_agrees q i w xs h both.1 k)
  where
    here : (o : Option ℕ) → fixed i x ≡ o → option_or o (fixed_at i xs) ≡ Some w → (agrees q x ≡ true) × (all_agree q xs ≡ true) → (fixed_at i xs ≡ Some w → w ≡ get_or q i 0) → w ≡ get_or q i 0
    here (Some v) is k both later = fixes_agrees q i w x h both.0 (is ∙ k)
    here None is k both later = later k

-- at a part, two addresses are alike, or a comparison does not speak of the first one's value there
abbrev NearOne : List ℕ → List ℕ → Entry → ℕ → Type 0
NearOne c q e i = (get_or c i 0 ≡ get_or q i 0) ⊎ ((fixed i e ≡ None) × (excludes i (get_or c i 0) e ≡ false))

part_on : (c q : List ℕ) (b : Block) (i : ℕ) → NearOne c q (In b) i → at_part b q i ≡ true → at_part b c i ≡ true
part_on c q b i (inl same) at = ap (fits (part_at b i)) same ∙ at
part_on c q b i (inr silent) at = ap (λ o. fits o (get_or c i 0)) silent.0

unnamed : (o : Option ℕ) (v w : ℕ) → is_number o v ≡ false → fits o v ≡ true → fits o w ≡ true
unnamed None v w no' yes' = refl
unnamed (Some m) v w no' yes' = absurd (both_ways _ no' yes')

part_back : (c q : List ℕ) (b : Block) (i : ℕ) → NearOne c q (Out b) i → at_part b c i ≡ true → at_part b q i ≡ true
part_back c q b i (inl same) at = ap (fits (part_at b i)) (sym same) ∙ at
part_back c q b i (inr silent) at = unnamed (part_at b i) (get_or c i 0) (get_or q i 0) silent.1 at

covers_by : (b d : Block) (p q : List ℕ) → ((i : ℕ) → i < 4 → at_part b p i ≡ true → at_part d q i ≡ true) → covers b p ≡ true → covers d q ≡ true
covers_by b d p q part all =
    let on = λ (i : ℕ) (h : i < 4). part i h (covers_part b p i h all) in
    and_from _ _ (on 0 (lit< tt)) (and_from _ _ (on 1 (lit< tt)) (and_from _ _ (on 2 (lit< tt)) (on 3 (lit< tt))))

agrees_on : (c q : List ℕ) (e : Entry) → ((i : ℕ) → i < 4 → NearOne c q e i) → agrees q e ≡ true → agrees c e ≡ true
agrees_on c q (In b) near agree = covers_by b b q c (λ i h. part_on c q b i (near i h)) agree
agrees_on c q (Out b) near agree =
    ⊎_elim
    (λ in'. absurd (both_ways _ (not-true _ agree) (covers_by b b c q (λ i h. part_back c q b i (near i h)) in')))
    (λ not_in. ap not not_in)
    (cases_Bool (covers b c))

-- the same of a list of comparisons
abbrev Near : List ℕ → List ℕ → List Entry → ℕ → Type 0
Near c q es i = (get_or c i 0 ≡ get_or q i 0) ⊎ ((fixed_at i es ≡ None) × (excluded_at i (get_or c i 0) es ≡ false))

near_head : (c q : List ℕ) (x : Entry) (xs : List Entry) (i : ℕ) → Near c q (x ∷ xs) i → NearOne c q x i
near_head c q x xs i (inl same) = inl same
near_head c q x xs i (inr silent) = inr ((passed (fixed i x) (fixed_at i xs) silent.0).0, (or_parts _ _ silent.1).0)

near_tail : (c q : List ℕ) (x : Entry) (xs : List Entry) (i : ℕ) → Near c q (x ∷ xs) i → Near c q xs i
near_tail c q x xs i (inl same) = inl same
near_tail c q x xs i (inr silent) = inr ((passed (fixed i x) (fixed_at i xs) silent.0).1, (or_parts _ _ silent.1).1)

all_agree_on : (c q : List ℕ) (es : List Entry) → ((i : ℕ) → i < 4 → Near c q es i) → all_agree q es ≡ true → all_agree c es ≡ true
all_agree_on c q [] near all = refl
all_agree_on c q (x ∷ xs) near all =
    let both = and_parts (agrees q x) (all_agree q xs) all in
    and_from _ _
    (agrees_on c q x (λ i h. near_head c q x xs i (near i h)) both.0)
    (all_agree_on c q xs (λ i h. near_tail c q x xs i (near i h)) both.1)

near_from : (c q : List ℕ) (es : List Entry) (i : ℕ) → i < 4 → all_agree q es ≡ true → (o : Option ℕ) → fixed_at i es ≡ o → Kept o i es (get_or c i 0) → Near c q es i
near_from c q es i h all (Some w) e kept = inl (kept ∙ fixed_agrees q i w es h all e)
near_from c q es i h all None e kept = inr (e, kept.free)

-- if any address agrees with all comparisons, the chosen one does
pub chosen_agrees : (es : List Entry) (c q : List ℕ) → Chosen es c → all_agree q es ≡ true → all_agree c es ≡ true
chosen_agrees es c q chosen all = all_agree_on c q es (λ i h. near_from c q es i h all (fixed_at i es) refl (chosen.part i h)) all

-- so if two sets have an address in common, the chosen one is in both
pub chosen_decides : (xs ys : List Entry) (c q : List ℕ) → Chosen (xs ++ ys) c → all_agree q xs ≡ true → all_agree q ys ≡ true → (all_agree c xs ≡ true) × (all_agree c ys ≡ true)
chosen_decides xs ys c q chosen first second =
    and_parts _ _ (sym (all_agree_both c xs ys) ∙ chosen_agrees (xs ++ ys) c q chosen (all_agree_both q xs ys ∙ and_from _ _ first second))

-- so the chosen one is the common one, if it is in both
pub chosen_common : (a b : Address) (p : List ℕ) (t : Bool) → Chosen (entries a ++ entries b) p → t ≡ (in_set a p && in_set b p) → Commons address_sense a b (then_some t p)
chosen_common a b p true chosen e =
    let both = and_parts _ _ (sym e) in
    record { chosen = chosen; in_first = both.0; in_second = both.1 }
chosen_common a b p false chosen e = λ q first second.
    let both = chosen_decides (entries a) (entries b) p q chosen first second in
    both_ways _ (sym e) (and_from _ _ both.0 both.1)

-- the number that fixes a part, or else the least free one
pub part_kept : (i : ℕ) (xs ys : List Entry) (o : Option ℕ) (v : ℕ) → MatchOption (fixed_at i xs) (o ≡ fixed_at i ys) (λ w. o ≡ Some w) → MatchOption o (LeastFree i (xs ++ ys) v) (λ w. v ≡ w) → PartOf (xs ++ ys) i v
part_kept i xs ys o v first then' = subst (λ q. Kept q i (xs ++ ys) v) (or_is (fixed_at i xs) first ∙ sym (fixed_both i xs ys)) (kept o then')
  where
    or_is : (q : Option ℕ) → MatchOption q (o ≡ fixed_at i ys) (λ w. o ≡ Some w) → o ≡ option_or q (fixed_at i ys)
    or_is None h = h
    or_is (Some w) h = h

    kept : (q : Option ℕ) → MatchOption q (LeastFree i (xs ++ ys) v) (λ w. v ≡ w) → Kept q i (xs ++ ys) v
    kept None h = h
    kept (Some w) h = h
