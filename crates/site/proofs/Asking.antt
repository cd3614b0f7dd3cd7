-- What is asked of a site's links.
use Rattle.std.proofs.Common.{◌≡◌, ℕ, ◌+◌, ◌<◌, ◌≤◌, true, false, List, [], ◌∷◌, ◌++◌, length, get_or, drop, sym, ap, ◌∙◌, arith}
use Rattle.std.proofs.lemmas.List.{at_drop_more, at_drop_all, append_assoc, append-nil, length_push}
use Rattle.site.specs.declared.parts.Link.{Link}
use Rattle.site.specs.Links.{nowhere, ends, links_from, links_at}

-- the links of a node found so far, and those still to be found
pub record Found (ls : List Link) (n i : ℕ) (numbers : List ℕ) : Type 0 where
  pub few : length numbers ≤ i
  pub rest : numbers ++ links_from i (drop i ls) n ≡ links_at ls n

module _ (ls : List Link) (n i : ℕ) (numbers : List ℕ) (h : Found ls n i numbers) where
  pub passed : i < length ls → ends (get_or ls i nowhere) n ≡ false → Found ls n (i + 1) numbers
  passed lt e = record {
    few = let f = h.few in omega arith;
    rest = ap (λ l. numbers ++ l) (sym (at_drop_more (λ l. links_from i l n) ls i nowhere lt ∙ (rw e))) ∙ h.rest;
  }

  pub noted : (after : List ℕ) → i < length ls → ends (get_or ls i nowhere) n ≡ true → after ≡ numbers ++ i ∷ [] → Found ls n (i + 1) after
  noted after lt e is =
      let f = h.few in
      record {
        few = let long = ap length is ∙ length_push numbers i in omega arith;
        rest =
            ap (λ l. l ++ links_from (i + 1) (drop (i + 1) ls) n) is
            ∙ append_assoc numbers (i ∷ []) (links_from (i + 1) (drop (i + 1) ls) n)
            ∙ ap (λ l. numbers ++ l) (sym (at_drop_more (λ l. links_from i l n) ls i nowhere lt ∙ (rw e)))
            ∙ h.rest;
      }

  pub found_all : length ls ≤ i → numbers ≡ links_at ls n
  found_all le = sym (append-nil numbers) ∙ ap (λ l. numbers ++ l) (sym (at_drop_all (λ l. links_from i l n) ls i le)) ∙ h.rest
