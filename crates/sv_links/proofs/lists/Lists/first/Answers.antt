use Rattle.std.proofs.Common.{◌∙◌}
use Rattle.sv_links.proofs.Kept.{first-read}
use Rattle.sv_links.proofs.lists.Lists.first.Goals as goal

pub returns-clause-head : goal.returns-clause-head
returns-clause-head c = c.next.ensures ∙ first-read c.self.inside c.args.self.now c.args.list c.self.invariant c.self.view_is
