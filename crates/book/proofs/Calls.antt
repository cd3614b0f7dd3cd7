-- What a call makes of a book, from what is right.
use Rattle.std.proofs.Common.{◌≡◌, ℕ, ◌≤◌, true, List, ◌∷◌, length, Some, None, Err, Option, Result, MatchOption, sym, refl, ap, ◌∙◌, subst, inl, inr}
use Rattle.std.specs.Option.{ok_or}
use Rattle.kind.specs.Sense.{Sense}
use Rattle.site.specs.declared.refusals.Cause.TheVariants.{NotTouched}
use Rattle.site.specs.declared.refusals.Refusal.{Refusal}
use Rattle.site.specs.Plans.{Plan}
use Rattle.paths.specs.declared.ports.Port.{Port}
use Rattle.paths.specs.PortSets.{is_port}
use Rattle.rules.specs.Rules.{Ruling}
use Rattle.pairs.specs.Places.{Placed}
use Rattle.deciding.specs.declared.settling.Decision.{Decision}
use Rattle.book.specs.Drawing.{DrawnAt, NoneDrawn}
use Rattle.book.specs.declared.book.Book.{Book}
use Rattle.book.specs.Books.{map_of, rules, room, Led, Takes}
use Rattle.book.specs.Runs.{Step, decide, route, Right, no_port_or_class, off_ground, routes, untouched, LedTo, Routed, after}
use Rattle.book.proofs.Reader.{sealed}
use Rattle.book.proofs.Admitting.{by_calls}
use Rattle.book.proofs.Laws.{stands_so, touching_so, lengthened, routed}

module _ {C P : Type 0} (k : Sense C P) where
  -- a call that leaves the book as it was
  pub keeps : (b : Book C) (c : Step P) → Right (map_of b) k (room b) (rules b) c → after (map_of b) k c (rules b) ≡ rules b → Takes k b b c
  keeps b c x e = record { stood = stands_so (map_of b) k; by_calls = λ h l. by_calls (map_of b) k h l; touching = λ h l. touching_so (map_of b) k (sealed b.site.now) h l; right = x; stands = sym e; same_map = refl; as_large = refl; runs = lengthened (map_of b) k c x (sym e) refl }

  -- a call that alters what stands
  pub changes : (b b' : Book C) (c : Step P) → Right (map_of b) k (room b) (rules b) c → rules b' ≡ after (map_of b) k c (rules b) → map_of b' ≡ map_of b → room b' ≡ room b → Takes k b b' c
  changes b b' c x e same m = record {
    stood = stands_so (map_of b) k;
    by_calls = λ h l. by_calls (map_of b) k h l;
    touching = λ h l. touching_so (map_of b) k (sealed b.site.now) h l;
    right = x;
    stands = e;
    same_map = same;
    as_large = m;
    runs = λ h l. subst (λ z. LedTo z k (room b') (c ∷ h) (rules b')) (sym same) (lengthened (map_of b) k c x e m h l);
  }

  -- a route, with its law
  pub asked : (b : Book C) (position : ℕ) (port : Port) (old new : List ℕ) (a : Result ℕ Refusal) → Right (map_of b) k (room b) (rules b) (route position port old a new)
      → (h : List (Step P)) → Led k h b → Routed (map_of b) k h position port old a new
  asked b position port old new a x = routed (map_of b) k (sealed b.site.now) position port old new a x

module _ {C P : Type 0} (s : Plan) (k : Sense C P) (room : ℕ) (rs : List (Ruling C)) where
  -- the place of a question is none
  pub misplaced : (port : Port) (class : ℕ) (point : P) (a : Result Decision Refusal) (y : Refusal) → a ≡ Err y → Placed s k port class point (Err y) → Right s k room rs (decide port class point a)
  misplaced port class point a y p (inl w) = subst (λ z. Right s k room rs (decide port class point z)) (sym (p ∙ ap Err w.0)) (no_port_or_class w.1)
  misplaced port class point a y p (inr w) = subst (λ z. Right s k room rs (decide port class point z)) (sym (p ∙ ap Err w.0)) (off_ground w.1.port_is w.1.class_is w.1.point_is)

  -- a route is drawn, or refused
  pub right_route : (position : ℕ) (port : Port) (old new : List ℕ) (o : Option ℕ) (a : Result ℕ Refusal) (e : Refusal) → a ≡ ok_or o e → e ≡ record { cause = NotTouched; place = 0 } → 48 ≤ length old → is_port s.links port ≡ true
      → MatchOption o ((new ≡ old) × NoneDrawn s rs position port) (λ n. DrawnAt s rs position port old n new) → Right s k room rs (route position port old a new)
  right_route position port old new None a e p q le on w =
      subst (λ z. Right s k room rs (route position port old a z)) (sym w.0) (subst (λ z. Right s k room rs (route position port old z old)) (sym (p ∙ ap Err q)) (untouched le on w.1))
  right_route position port old new (Some n) a e p q le on w = subst (λ z. Right s k room rs (route position port old z new)) (sym p) (routes le w)
