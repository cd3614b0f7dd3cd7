-- One element more, and names for what spells them.
use Rattle.std.proofs.Common.{◌≡◌, ℕ, ◌+◌, ◌<◌, List, [], ◌∷◌, ◌++◌, map, take, length, get_or, Option, sym, refl, ap, ◌∙◌, arith, append_assoc}
use Rattle.std.proofs.lemmas.List.Folds.{flat_map-map}
use Rattle.std.proofs.lemmas.Grind.{common_steps}
use Rattle.std.proofs.lemmas.Option.{unwrap_or-slice_get}
use Rattle.std.specs.List.{flat_map, enumerate_from, slice_get}
use Rattle.std.specs.Option.{option_map, unwrap_or}
use Rattle.fixed.specs.declared.naming.Name.{Name}
use Rattle.fixed.specs.Names.{spelling}
use Rattle.sheet.specs.Sheets.{Appended, each_from, shown}

enumerate-append : {X : Type 0} (n k : ℕ) (xs : List X) (y : X) → n + length xs ≡ k → enumerate_from n (xs ++ y ∷ []) ≡ enumerate_from n xs ++ (k, y) ∷ []
enumerate-append n k [] y e = grind arith
enumerate-append n k (x ∷ xs) y e = let more = enumerate-append (n + 1) k xs y (omega arith) in grind (arith, more)

pub each_step : {X : Type 0} (text : ℕ → X → List ℕ) (xs : List X) (i : ℕ) (d : X) → i < length xs → each_from text 0 (take (i + 1) xs) ≡ each_from text 0 (take i xs) ++ text i (get_or xs i d)
each_step text xs i d lt = grind (arith, common_steps, enumerate-append 0 i (take i xs) (get_or xs i d))

enumerate-map : {X Y : Type 0} (f : X → Y) (n : ℕ) (xs : List X) → enumerate_from n (map f xs) ≡ map (λ p. (p.0, f p.1)) (enumerate_from n xs)
enumerate-map f n [] = refl
enumerate-map f n (x ∷ xs) = ap (λ l. (n, f x) ∷ l) (enumerate-map f (n + 1) xs)

-- a text for each element's image
pub each_map : {X Y : Type 0} (f : X → Y) (text : ℕ → Y → List ℕ) (i : ℕ) (xs : List X) → each_from text i (map f xs) ≡ each_from (λ k x. text k (f x)) i xs
each_map f text i xs = ap (flat_map (λ p. text p.0 p.1)) (enumerate-map f i xs) ∙ flat_map-map _ _ (enumerate_from i xs)

-- what is shown of a name that was looked up by its number
pub shown_at : (xs : List (List ℕ)) (i : ℕ) (o : Option Name) → option_map spelling o ≡ slice_get xs i → shown o ≡ get_or xs i []
shown_at xs i o e = ap (λ q. unwrap_or q []) e ∙ unwrap_or-slice_get xs i []

-- a text, and then the rest
pub then : {was now end x rest : List ℕ} → Appended was x now → Appended now rest end → Appended was (x ++ rest) end
then {was} {now} {end} {x} {rest} e f = record { is = f.is ∙ ap (λ l. l ++ rest) e.is ∙ append_assoc was x rest }

-- the same text under another name
pub named : {was now x : List ℕ} (y : List ℕ) → x ≡ y → Appended was x now → Appended was y now
named {was} y e h = record { is = h.is ∙ ap (λ l. was ++ l) e }

-- what is written so far, and one text more
pub each_more : {X : Type 0} {before now : List ℕ} (was : List ℕ) (text : ℕ → X → List ℕ) (xs : List X) (i : ℕ) (d : X) → Appended was (each_from text 0 (take i xs)) before → i < length xs → Appended before (text i (get_or xs i d)) now → Appended was (each_from text 0 (take (i + 1) xs)) now
each_more was text xs i d so lt e = named _ (sym (each_step text xs i d lt)) (then so e)
