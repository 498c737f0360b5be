use Rattle.std.proofs.Common.{◌∙◌, IfOk, sym, subst}
use Rattle.sv_form.specs.Node.{Node}
use Rattle.sv_store.specs.Held.{Origin}
use Rattle.sv_inode.specs.StandsFor.{StandsFor}
use Rattle.sv_turn.specs.Passes.{pass_view}
use Rattle.sv_plain.specs.declared.history.op.Op.TheVariants.{Stat}
use Rattle.sv_files.specs.View.{seen_by}
use Rattle.sv_files.specs.FileRule.{StandsAs}
use Rattle.sv_files.specs.Adding.{KeepsAll}
use Rattle.sv_files.proofs.StatLegal.{locked-one, stat-legal, still-locked}
use Rattle.sv_files.proofs.stat.stat_inode.Goals as goal

pub answer-requires-clause-still : goal.answer-requires-clause-still
answer-requires-clause-still g c κs within =
    still-locked c.requires.can.0.mount c.requires.can.0.proc _ _ c.args.ino _ c.lock_inode-locked.result.core _
    (seen_by g.S.Stake.held g.S.Stake.lent g.S.Stake.origin g.S.Stake.faults g.S.Stake.forced c.lock_inode-locked.result.stake)
    (seen_by g.S.Stake.held g.S.Stake.lent g.S.Stake.origin g.S.Stake.faults g.S.Stake.forced c.body_of-body.new.locked.stake)
    c.requires.can.0.is c.lock_inode-locked.ensures.view c.lock_inode-locked.ensures.seen
    (c.body_of-body.ensures.number ∙ c.lock_inode-locked.ensures.number) c.body_of-body.ensures.core c.body_of-body.ensures.stake.lines
    c.body_of-body.ensures.stake.away c.body_of-body.ensures.stake.home c.body_of-body.ensures.stake.as_forced
    c.body_of-body.ensures.cause.no_less

pub answer-requires-clause-legal : goal.answer-requires-clause-legal
answer-requires-clause-legal g c κs within =
    let z = seen_by g.S.Stake.held g.S.Stake.lent g.S.Stake.origin g.S.Stake.faults g.S.Stake.forced c.lock_inode-locked.result.stake in
    subst (λ q. KeepsAll (pass_view c.lock_inode-locked.new.pass) (record { process = c.args.process; op = Stat c.args.ino; reply = q }))
    (sym c.status.ensures)
    (stat-legal c.requires.can.0.mount c.requires.can.0.proc (pass_view c.lock_inode-locked.new.pass) c.args.ino c.args.process
    c.lock_inode-locked.result.core z c.body_of-body.result
    (locked-one c.requires.can.0.mount c.requires.can.0.proc _ _ c.args.ino c.lock_inode-locked.result.core z
    c.requires.can.0.is c.lock_inode-locked.ensures.view)
    c.lock_inode-locked.ensures.seen c.requires.can.0.process c.requires.can.1
    (subst (λ n. IfOk c.body_of-body.result (λ body. (o : Origin) (node : Node)
    → StandsAs o n c.lock_inode-locked.result.core z node → StandsFor o z.held body node)) c.lock_inode-locked.ensures.number
    c.body_of-body.ensures.node))
