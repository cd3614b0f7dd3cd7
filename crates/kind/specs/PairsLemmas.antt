-- A pair of lawful kinds is lawful.
use Rattle.std.proofs.lemmas.Bool.{and_from, and_parts}
use Rattle.kind.specs.Sense.{Sense, Laws}
use Rattle.kind.specs.Pairs.{pair_sense}

pub pair_laws : {C D P Q : Type 0} (f : Sense C P) (g : Sense D Q) → Laws f → Laws g → Laws (pair_sense f g)
pair_laws f g l m = record {
  some_ground = ((l.some_ground.0, m.some_ground.0), and_from _ _ l.some_ground.1 m.some_ground.1);
  within = λ c p h. let both = and_parts _ _ h in and_from _ _ (l.within c.first p.0 both.0) (m.within c.second p.1 both.1);
  open_holds = λ p h. let both = and_parts _ _ h in and_from _ _ (l.open_holds p.0 both.0) (m.open_holds p.1 both.1);
  given_first = λ a b p h. and_from _ _ (l.given_first _ _ _ h.0) (m.given_first _ _ _ h.1);
  given_second = λ a b p h. and_from _ _ (l.given_second _ _ _ h.0) (m.given_second _ _ _ h.1);
}
