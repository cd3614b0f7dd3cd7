-- What a book holds, and what each call does to it.
use Rattle.std.specs.Prelude.{◌≡◌, ℕ, min, List, ◌∷◌, map, length, take}
use Rattle.kind.specs.Sense.{Sense}
use Rattle.site.specs.Plans.{Plan}
use Rattle.site.specs.Sites.{plan}
use Rattle.rules.specs.Rules.{Ruling, rule_of}
use Rattle.book.specs.declared.book.Book.{Book}
use Rattle.book.specs.Drawing.{Touching}
use Rattle.pairs.specs.Lists.{Has}
use Rattle.book.specs.Runs.{Step, Right, LedTo, StandByCalls, after, standing}

-- the map of the book's site
abbrev pub map_of : {C : Type 0} → Book C → Plan
map_of b = plan b.site.now

-- the rules that stand in a book, in order of admission
abbrev pub rules : {C : Type 0} → Book C → List (Ruling C)
rules b = map rule_of (take b.len b.slots.now)

-- how many rules a book can hold: 64, or fewer if fewer places are lent
abbrev pub room : {C : Type 0} → Book C → ℕ
room b = min 64 (length b.slots.now)

-- the history led to the book as it is
abbrev pub Led : {C P : Type 0} → Sense C P → List (Step P) → Book C → Type 0
Led k h b = LedTo (map_of b) k (room b) h (rules b)

-- a call took the book from old to new: what stood is what every history says and goes by its calls alone, the ports of
-- each rule are those of its own paths, the answer is right, what stands is what stood after the call, and the call
-- lengthens every history
pub record Takes {C P : Type 0} (k : Sense C P) (old new : Book C) (c : Step P) : Type 0 where
  pub stood : (h : List (Step P)) → Led k h old → rules old ≡ standing (map_of old) k h
  pub by_calls : (h : List (Step P)) → Led k h old → StandByCalls (map_of old) k h (rules old)
  pub touching : (h : List (Step P)) → Led k h old → (r : Ruling C) → Has (rules old) r → Touching (map_of old) r
  pub right : Right (map_of old) k (room old) (rules old) c
  pub stands : rules new ≡ after (map_of old) k c (rules old)
  pub same_map : map_of new ≡ map_of old
  pub as_large : room new ≡ room old
  pub runs : (h : List (Step P)) → Led k h old → Led k (c ∷ h) new
