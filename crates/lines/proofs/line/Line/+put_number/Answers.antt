use Rattle.std.proofs.Common.{◌+◌, ◌%◌, [], ◌∷◌, ◌++◌, take, ap, ◌∙◌, arith}
use Rattle.lines.specs.Lines.{written}
use Rattle.lines.proofs.Cutting.{number_one, number_more, decimal_short}
use Rattle.lines.proofs.line.Line.+put_number.Goals as goal
use Rattle.lines.proofs.line.Line.+put_number.Goals.{then-n-ge10, else-n-ge10}

pub returns : goal.returns
returns t c = record {
  text = elim c.if-n-ge10.branch [
    | then-n-ge10 w ↦ number_more c.args.n (written c.args.self.now) (written c.if-n-ge10.self) (written c.put.new.self) w.if-n-ge10.true (omega arith) (ap written w.self-is ∙ w.put_number.ensures.text) c.put.ensures
    | else-n-ge10 w ↦ number_one c.args.n (written c.args.self.now) (written c.put.new.self) w.if-n-ge10.false (c.put.ensures ∙ ap (λ z. take 128 (written z ++ (48 + c.args.n % 10) ∷ [])) w.self-is)
  ];
  short = decimal_short c.args.n (omega arith);
}
