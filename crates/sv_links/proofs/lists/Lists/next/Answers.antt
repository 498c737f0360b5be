use Rattle.std.proofs.Common.{◌∙◌}
use Rattle.sv_links.proofs.Kept.{next-read}
use Rattle.sv_links.proofs.lists.Lists.next.Goals as goal

pub returns-clause-next : goal.returns-clause-next
returns-clause-next c = λ k on. c.next.ensures ∙ next-read c.self.inside c.args.self.now c.in_ok-list.list k c.args.x c.self.invariant c.self.view_is on
