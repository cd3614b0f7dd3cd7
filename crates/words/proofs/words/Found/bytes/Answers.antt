use Rattle.words.proofs.Parts.{between}
use Rattle.words.proofs.words.Found.bytes.Goals as goal

pub returns : goal.returns
returns c = between c.args.text.now c.args.self.now.from c.args.self.now.to c.min-from.result c.min-to.result c.min-to.ensures c.min-from.ensures
