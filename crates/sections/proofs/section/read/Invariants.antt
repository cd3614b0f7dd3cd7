use Rattle.std.proofs.Common.{◌-◌, ◌≤◌, length}
use Rattle.sections.specs.Meeting.{read_section}
use Rattle.sections.proofs.Folds.{Sofar}
use Rattle.sections.proofs.section.read.Given as goal

abbrev pub invariant-loop-due : goal.invariant-loop-due
invariant-loop-due g l = record {
  read : Sofar (g.S.Section.course l.section) l.text (g.S.Section.view l.section) l.at (read_section (g.S.Section.course l.initial.section) l.text (g.S.Section.view l.initial.section) l.initial.at);
  inside : l.initial.at ≤ length l.text → l.at ≤ length l.text;
}

abbrev pub decreases-loop-due : goal.decreases-loop-due
decreases-loop-due g l = length l.text - l.at
