-- Two kinds side by side: points are pairs, and both halves must hold.
use Rattle.std.specs.Prelude.{ℕ, ◌&&◌, List, ◌∷◌, ◌++◌}
use Rattle.kind.specs.declared.both.Both.{Both}
use Rattle.kind.specs.Taking.{Taking, became, not_mine, bad_value, doubled}
use Rattle.kind.specs.Sense.{Sense}
use Rattle.kind.specs.Texts.{shown}

-- what the second half makes of a comparison that the first says is not its own
abbrev pub by_second : {C D : Type 0} → C → Taking D → Taking (Both C D)
by_second c (became d) = became (record { first = c; second = d })
by_second c not_mine = not_mine
by_second c bad_value = bad_value
by_second c doubled = doubled

-- the first half is offered a comparison, and the second exactly when the first says not mine
abbrev pub by_first : {C D : Type 0} → Both C D → Taking C → Taking D → Taking (Both C D)
by_first b (became c) t = became (record { first = c; second = b.second })
by_first b not_mine t = by_second b.first t
by_first b bad_value t = bad_value
by_first b doubled t = doubled

-- the meaning of a pair of kinds
abbrev pub pair_sense : {C D P Q : Type 0} → Sense C P → Sense D Q → Sense (Both C D) (P × Q)
pair_sense f g = record {
  on_ground = λ p. f.on_ground p.0 && g.on_ground p.1;
  holds = λ c p. f.holds c.first p.0 && g.holds c.second p.1;
  everywhere = record { first = f.everywhere; second = g.everywhere };
  taken = λ c word sign value. by_first c (f.taken c.first word sign value) (g.taken c.second word sign value);
  gives = λ a b p. f.gives a.first b.first p.0 × g.gives a.second b.second p.1;
}

-- the text of a pair: both texts with a blank between
abbrev pub pair_text : {C D P Q : Type 0} → Sense C P → Sense D Q → (P → List ℕ) → (Q → List ℕ) → P × Q → List ℕ
pair_text f g s t p = shown f s p.0 ++ (32 ∷ shown g t p.1)
