-- When a name is added to a table, and what the table then holds.
use Rattle.std.proofs.Common.{◌≡◌, ℕ, zero, suc, ◌<◌, Bool, true, false, ltb, List, [], ◌∷◌, ◌++◌, length, is_some, Some, None, Ok, Err, Option, Result, refl, ap, arith}
use Rattle.std.specs.Option.{option_map}
use Rattle.std.specs.Str.{bytes_eq}
use Rattle.std.proofs.lemmas.Slice.Eq.{bytes_eq-Decides}
use Rattle.std.proofs.lemmas.Bool.{ltb-true, lt-ltb, cond_both}
use Rattle.std.proofs.lemmas.Bool.Decides.{not_from_Decides}
use Rattle.fixed.specs.declared.roster.NameFault.{NameFault}
use Rattle.fixed.specs.Rosters.{number_of, known, enrol, Absent}
use Rattle.fixed.specs.Spelling.{is_name}
use Rattle.fixed.proofs.Numbering.{absent_number}

-- what stands where a name was added
pub record Enrolled (room : ℕ) (xs : List (List ℕ)) (n : List ℕ) (ys : List (List ℕ)) : Type 0 where
  pub good : is_name n ≡ true
  pub new : known n xs ≡ false
  pub room_left : length xs < room
  pub longer : ys ≡ xs ++ n ∷ []

abbrev Told : ℕ → List (List ℕ) → List ℕ → Result (List (List ℕ)) NameFault → Type 0
Told room xs n (Ok ys) = Enrolled room xs n ys
Told room xs n (Err e) = Unit {0}

told : (room : ℕ) (xs : List (List ℕ)) (n : List ℕ) → Told room xs n (enrol room xs n)
told room xs n =
    cond_both (is_name n) _ _ (Told room xs n)
    (λ good. cond_both (known n xs) _ _ (Told room xs n) (λ _. tt)
    (λ new. cond_both (ltb (length xs) room) _ _ (Told room xs n)
    (λ lt. record { good = good; new = new; room_left = ltb-true _ _ lt; longer = refl })
    (λ _. tt)))
    (λ _. tt)

pub enrolled : (room : ℕ) (xs : List (List ℕ)) (n : List ℕ) (ys : List (List ℕ)) → enrol room xs n ≡ Ok ys → Enrolled room xs n ys
enrolled room xs n ys e = let t = told room xs n in rw e at t

pub enrols : (room : ℕ) (xs : List (List ℕ)) (n : List ℕ) → is_name n ≡ true → known n xs ≡ false → length xs < room → enrol room xs n ≡ Ok (xs ++ n ∷ [])
enrols room xs n good new lt = let fits : ltb (length xs) room ≡ true = lt-ltb _ _ lt in rw (good, new, fits)

-- a name that is not known stands nowhere, and the other way round
some_not : (o : Option ℕ) → is_some (option_map suc o) ≡ false → is_some o ≡ false
some_not None e = refl
some_not (Some k) e = e

unlike : (b : Bool) (n x : List ℕ) (xs : List (List ℕ)) → bytes_eq x n ≡ b → known n (x ∷ xs) ≡ false → (known n xs ≡ false → Absent n xs) → Absent n (x ∷ xs)
unlike true n x xs s e rest k lt q = let z = rw s at e in let w : ◌≡◌ {A = ℕ} 0 1 = cc in omega arith
unlike false n x xs s e rest zero lt q = not_from_Decides (bytes_eq x n) (bytes_eq-Decides x n) s q
unlike false n x xs s e rest (suc k) lt q = rest (some_not (number_of n xs) (rw s at e)) k (omega arith) q

pub known_absent : (n : List ℕ) (xs : List (List ℕ)) → known n xs ≡ false → Absent n xs
known_absent n [] e = λ k lt. absurd (omega arith)
known_absent n (x ∷ xs) e = unlike (bytes_eq x n) n x xs refl e (known_absent n xs)

pub absent_known : (n : List ℕ) (xs : List (List ℕ)) → Absent n xs → known n xs ≡ false
absent_known n xs a = ap is_some (absent_number n xs a)
