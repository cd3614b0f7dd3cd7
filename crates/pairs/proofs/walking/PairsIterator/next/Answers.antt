use Rattle.std.proofs.Common.{◌<◌, length, sym, subst}
use Rattle.std.proofs.lemmas.Bool.{ltb-true}
use Rattle.pairs.specs.Walking.{left}
use Rattle.pairs.proofs.Lasting.{same_row, next_row}
use Rattle.pairs.proofs.walking.PairsIterator.next.Goals as goal
use Rattle.pairs.proofs.walking.PairsIterator.next.Goals.{then-self, else-self}

pub returns-clause-goes : goal.returns-clause-goes
returns-clause-goes g c =
    let s = c.args.self.now in
    let n = length s.rules.now in
    let within : s.second < n = ltb-true s.second n (sym c.in_ok-other.ensures.lookup.0) in
    let less : left (length c.if-self.self.rules.now) c.if-self.self.first c.if-self.self.second < left n s.first s.second = elim c.if-self.branch [
      | then-self w ↦ subst (λ (z : _). left (length z.rules.now) z.first z.second < left n s.first s.second) (sym w.self-is) (same_row n s.first s.second s.in_turn within)
      | else-self w ↦ subst (λ (z : _). left (length z.rules.now) z.first z.second < left n s.first s.second) (sym w.self-is) (next_row n s.first s.second s.in_turn within)
    ] in
    record { on = λ _. (tt, tt, less); keeps = tt; rests = λ _. tt }
