-- Past a hole the first present page is the same.
use Rattle.std.proofs.Common.{sym, ap, ◌∙◌}
use Rattle.sv_inode.specs.Contents.{block_there}
use Rattle.sv_inode.proofs.PagesHeld.{past_hole, there_is}
use Rattle.sv_inode.proofs.range.look_past.Goals as goal

pub returns-in-None-clause-ahead : goal.returns-in-None-clause-ahead
returns-in-None-clause-ahead g c =
    c.requires.ahead
    ∙ past_hole (g.S.Stake.origin c.args.s.now).sizes (g.S.Stake.held c.args.s.now) c.args.a.now c.args.page c.args.end c.requires.page
    (sym (there_is (g.S.Stake.origin c.args.s.now).sizes (g.S.Stake.held c.args.s.now) c.args.a.now c.args.page c.args.end c.requires.page)
    ∙ (ap (block_there c.args.page) (sym c.requires.ahead) ∙ (sym c.block_at.ensures ∙ c.in-None.is)))
