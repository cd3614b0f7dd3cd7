use Rattle.std.proofs.Common.{length}
use Rattle.site.specs.Sites.{plan}
use Rattle.paths.proofs.Lowest.{first_is_lowest}
use Rattle.paths.proofs.ports.PortSet.lowest_common.Goals as goal

pub returns : goal.returns
returns c = first_is_lowest (length (plan c.args.site.now).nodes) (plan c.args.site.now).links c.args.self.now c.args.other.now c.args.site.now.two_ended c.first_common.result (rw c.links.ensures at c.first_common.ensures)
