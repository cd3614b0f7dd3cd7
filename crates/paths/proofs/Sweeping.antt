-- The steps of the search over all start nodes, and over the links of one node.
use Rattle.std.proofs.Common.{◌≡◌, ℕ, suc, ◌+◌, ◌-◌, ◌<◌, ◌≤◌, Bool, false, List, [], ◌++◌, length, get_or, sym, refl, ap, ◌∙◌, subst, arith}
use Rattle.std.proofs.lemmas.List.{length-append, get_or-replicate}
use Rattle.paths.specs.declared.pattern.Item.{Item}
use Rattle.paths.specs.declared.roads.Step.{Step}
use Rattle.paths.specs.declared.tally.Tally.{Tally}
use Rattle.paths.specs.Live.{start}
use Rattle.paths.specs.Walks.{Walk, unmarked, walks, gather, Counted}
use Rattle.paths.specs.Found.{starting}
use Rattle.paths.proofs.Counting.{Going, gather_append}

pub starting_more : (items : List Item) (roads : List (List Step)) (n k : ℕ) → n < k
    → starting items roads n (k - n) ≡ walks items roads unmarked n (start items) ++ starting items roads (n + 1) (k - (n + 1))
unfolding starting
starting_more items roads n k h =
    let e : k - n ≡ suc (k - (n + 1)) = omega arith in
    ap (starting items roads n) e

pub starting_all : (items : List Item) (roads : List (List Step)) (n k : ℕ) → k ≤ n → starting items roads n (k - n) ≡ []
unfolding starting
starting_all items roads n k h =
    let e : k - n ≡ 0 = omega arith in
    ap (starting items roads n) e

pub unmarked_long : length unmarked ≡ 48
unfolding unmarked
unmarked_long = refl

pub unmarked_at : (n : ℕ) → n < 48 → get_or unmarked n false ≡ false
unfolding unmarked
unmarked_at n h = get_or-replicate 48 n false false h

-- before the first node
pub sweep_none : (last : ℕ) (all : List Walk) (b e : Tally) → e.count ≡ b.count → e.found.bits ≡ b.found.bits → b.count ≤ 65536 → Going last all all 0 b e
sweep_none last all b e c f h = record { room = omega arith; count = ap (λ x. x + length all) c; found = ap (λ x. gather last 0 x all) f }

-- one node more, over budget in it, and past the last
module _ (last : ℕ) (items : List Item) (roads : List (List Step)) (n k live used : ℕ) (v : List Bool) (b e : Tally)
    (lt : n < k) (clean : v ≡ unmarked) (at : live ≡ start items) (none : used ≡ 0)
    (g : Going last (starting items roads 0 k) (starting items roads n (k - n)) 0 b e) where
  pub sweep_more : (e' : Tally) → Counted last e used (walks items roads v n live) e'
      → Going last (starting items roads 0 k) (starting items roads (n + 1) (k - (n + 1))) 0 b e'
  sweep_more e' c =
      let c₁ : Counted last e 0 (walks items roads v n live) e' = subst (λ x. Counted last e x (walks items roads v n live) e') none c in
      let c₂ : Counted last e 0 (walks items roads unmarked n live) e' = subst (λ v. Counted last e 0 (walks items roads v n live) e') clean c₁ in
      let c₃ : Counted last e 0 (walks items roads unmarked n (start items)) e' = subst (λ x. Counted last e 0 (walks items roads unmarked n x) e') at c₂ in
      let q = starting_more items roads n k lt in
      record {
        room = omega (arith, c₃.within, c₃.count);
        count = omega (arith, c₃.count, g.count, ap length q, length-append (walks items roads unmarked n (start items)) (starting items roads (n + 1) (k - (n + 1))));
        found = ap (λ f. gather last 0 f (starting items roads (n + 1) (k - (n + 1)))) c₃.found
            ∙ sym (gather_append last 0 e.found.bits (walks items roads unmarked n (start items)) (starting items roads (n + 1) (k - (n + 1))))
            ∙ sym (ap (gather last 0 e.found.bits) q) ∙ g.found;
      }

  pub sweep_over : 65536 < e.count + length (walks items roads v n live) → 65536 < b.count + length (starting items roads 0 k)
  sweep_over c =
      let c₂ : 65536 < e.count + length (walks items roads unmarked n live) = subst (λ v. 65536 < e.count + length (walks items roads v n live)) clean c in
      let c₃ : 65536 < e.count + length (walks items roads unmarked n (start items)) = subst (λ x. 65536 < e.count + length (walks items roads unmarked n x)) at c₂ in
      omega (arith, c₃, g.count, ap length (starting_more items roads n k lt), length-append (walks items roads unmarked n (start items)) (starting items roads (n + 1) (k - (n + 1))))

pub sweep_all : (last : ℕ) (items : List Item) (roads : List (List Step)) (n k : ℕ) (b e : Tally) → k ≤ n
    → Going last (starting items roads 0 k) (starting items roads n (k - n)) 0 b e → Counted last b 0 (starting items roads 0 k) e
unfolding gather
sweep_all last items roads n k b e h g =
    let q = starting_all items roads n k h in
    record {
      within = omega (arith, g.count, g.room, ap length q);
      count = omega (arith, g.count, ap length q);
      found = sym (ap (gather last 0 e.found.bits) q) ∙ g.found;
    }
