use Rattle.std.proofs.Common.{subst, sym}
use Rattle.std.specs.Str.{IsUtf8}
use Rattle.fixed.specs.Names.{spelling}
use Rattle.fixed.proofs.Lettered.{text, read}
use Rattle.fixed.proofs.naming.Name.as_str.Goals as goal

pub unwrap-requires : goal.unwrap-requires
unwrap-requires c = read _ _ _ _ c.from_utf8.ensures.cases (subst IsUtf8 (sym c.as_bytes.ensures) (text (spelling c.args.self.now) c.args.self.now.proper))
