use Rattle.std.proofs.Common.{◌≡◌, ◌<◌, ◌≤◌, ◌^◌, length, IfSome, refl, arith}
use Rattle.std.specs.Fmt.{with_newline}
use Rattle.console.specs.declared.answers.NoAnswer.{NoAnswer}
use Rattle.console.specs.declared.answers.NoAnswer.TheVariants.{TooLong, Refused, Failed}
use Rattle.console.specs.Answers.{reason}
use Rattle.console.proofs.Gathered.{gathered, refused_short}
use Rattle.console.proofs.answers.write_line.Goals as goal

pub returns-in-Ok : goal.returns-in-Ok
returns-in-Ok g c =
    let short : (w : NoAnswer) → c.args.why ≡ w → IfSome (with_newline (reason w)) (λ bs. length bs ≤ 35) = elim [
      | TooLong ↦ λ e. omega arith
      | Refused r ↦ λ e. (
          let known = rw e at c.well_formed in
          let fits : r.place < 2 ^ 64 = omega (arith, known) in
          let m = refused_short r.cause r.place fits in
          omega (arith, m))
      | Failed error ↦ λ e. tt
    ] in
    gathered 35 (omega arith) (with_newline (reason c.args.why)) c.new-line.result c.writeln.new.self c.write_all.result _ _ c.as_slice.result.now c.new-line.ensures (short c.args.why refl) c.in-Ok.ensures.writes c.as_slice.ensures c.write_all.ensures.bytes
