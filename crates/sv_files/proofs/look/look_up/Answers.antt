use Rattle.std.proofs.Common.{◌∙◌, sym, subst}
use Rattle.sv_form.specs.Node.{Node}
use Rattle.sv_store.specs.Held.{Origin}
use Rattle.sv_turn.specs.Passes.{pass_view}
use Rattle.sv_plain.specs.declared.history.op.Op.TheVariants.{Look}
use Rattle.sv_files.specs.View.{seen_by}
use Rattle.sv_files.specs.FileRule.{StandsAs}
use Rattle.sv_files.specs.Adding.{KeepsAll}
use Rattle.sv_files.specs.Looking.{Searches}
use Rattle.sv_files.proofs.LookLegal.{look-finds, look-misses}
use Rattle.sv_files.proofs.StatLegal.{locked-one, still-locked}
use Rattle.sv_files.proofs.look.look_up.Goals as goal

pub answer_found-requires-clause-still : goal.answer_found-requires-clause-still
answer_found-requires-clause-still g c κs within =
    still-locked c.requires.can.0.mount c.requires.can.0.proc _ _ c.args.dir _ c.lock_inode-locked.result.core _
    (seen_by g.S.Stake.held g.S.Stake.lent g.S.Stake.origin g.S.Stake.faults g.S.Stake.forced c.lock_inode-locked.result.stake)
    (seen_by g.S.Stake.held g.S.Stake.lent g.S.Stake.origin g.S.Stake.faults g.S.Stake.forced c.search-locked.result.0.stake)
    c.requires.can.0.is c.lock_inode-locked.ensures.view c.lock_inode-locked.ensures.seen
    (c.search-locked.ensures.number ∙ c.lock_inode-locked.ensures.number) c.search-locked.ensures.core c.search-locked.ensures.stake.lines
    c.search-locked.ensures.stake.away c.search-locked.ensures.stake.home c.search-locked.ensures.stake.as_forced
    c.search-locked.ensures.no_less

pub answer_found-requires-clause-finds : goal.answer_found-requires-clause-finds
answer_found-requires-clause-finds g c κs within =
    let z = seen_by g.S.Stake.held g.S.Stake.lent g.S.Stake.origin g.S.Stake.faults g.S.Stake.forced c.lock_inode-locked.result.stake in
    look-finds c.requires.can.0.mount c.requires.can.0.proc (pass_view c.lock_inode-locked.new.pass) c.args.dir c.args.process
    c.lock_inode-locked.result.core z c.args.name c.in-Ok.child
    (locked-one c.requires.can.0.mount c.requires.can.0.proc _ _ c.args.dir c.lock_inode-locked.result.core z
    c.requires.can.0.is c.lock_inode-locked.ensures.view)
    c.lock_inode-locked.ensures.seen c.requires.can.0.process c.requires.can.1
    (subst (λ r. (o : Origin) (node : Node) → StandsAs o c.args.dir c.lock_inode-locked.result.core z node
    → Searches o.sizes.block_size node c.args.name r) c.in-Ok.is
    (subst (λ n. (o : Origin) (node : Node) → StandsAs o n c.lock_inode-locked.result.core z node
    → Searches o.sizes.block_size node c.args.name c.search-locked.result.1) c.lock_inode-locked.ensures.number
    c.search-locked.ensures.found))

pub answer-requires-clause-still : goal.answer-requires-clause-still
answer-requires-clause-still g c κs within =
    still-locked c.requires.can.0.mount c.requires.can.0.proc _ _ c.args.dir _ c.lock_inode-locked.result.core _
    (seen_by g.S.Stake.held g.S.Stake.lent g.S.Stake.origin g.S.Stake.faults g.S.Stake.forced c.lock_inode-locked.result.stake)
    (seen_by g.S.Stake.held g.S.Stake.lent g.S.Stake.origin g.S.Stake.faults g.S.Stake.forced c.search-locked.result.0.stake)
    c.requires.can.0.is c.lock_inode-locked.ensures.view c.lock_inode-locked.ensures.seen
    (c.search-locked.ensures.number ∙ c.lock_inode-locked.ensures.number) c.search-locked.ensures.core c.search-locked.ensures.stake.lines
    c.search-locked.ensures.stake.away c.search-locked.ensures.stake.home c.search-locked.ensures.stake.as_forced
    c.search-locked.ensures.no_less

pub answer-requires-clause-legal : goal.answer-requires-clause-legal
answer-requires-clause-legal g c κs within =
    let z = seen_by g.S.Stake.held g.S.Stake.lent g.S.Stake.origin g.S.Stake.faults g.S.Stake.forced c.lock_inode-locked.result.stake in
    subst (λ q. KeepsAll (pass_view c.lock_inode-locked.new.pass)
    (record { process = c.args.process; op = Look c.args.dir c.args.name; reply = q })) (sym c.reply.ensures)
    (look-misses c.requires.can.0.mount c.requires.can.0.proc (pass_view c.lock_inode-locked.new.pass) c.args.dir c.args.process
    c.lock_inode-locked.result.core z c.args.name c.in-Err.miss
    (locked-one c.requires.can.0.mount c.requires.can.0.proc _ _ c.args.dir c.lock_inode-locked.result.core z
    c.requires.can.0.is c.lock_inode-locked.ensures.view)
    c.lock_inode-locked.ensures.seen c.requires.can.0.process c.requires.can.1
    (subst (λ r. (o : Origin) (node : Node) → StandsAs o c.args.dir c.lock_inode-locked.result.core z node
    → Searches o.sizes.block_size node c.args.name r) c.in-Err.is
    (subst (λ n. (o : Origin) (node : Node) → StandsAs o n c.lock_inode-locked.result.core z node
    → Searches o.sizes.block_size node c.args.name c.search-locked.result.1) c.lock_inode-locked.ensures.number
    c.search-locked.ensures.found)))
