use Rattle.sv_turn.specs.Passes.{pass_view}
use Rattle.sv_buf.proofs.Fitting.{fit-flushed}
use Rattle.sv_buf.proofs.stake.CacheStakeStake.flush.Goals as goal

pub flush_all-requires-clause-resting : goal.flush_all-requires-clause-resting
flush_all-requires-clause-resting g c =
    let fit = c.args.self.now.fit in record { sizes = fit.sizes; some = fit.some; calm = fit.calm; home = fit.home }

pub invariant_of-self-clause-fit : goal.invariant_of-self-clause-fit
invariant_of-self-clause-fit g c = fit-flushed c.flush_all.result (pass_view c.args.self.now.pass) (pass_view c.flush_all.new.pass)
    c.flush_all.ensures.ok c.flush_all.ensures.err c.args.self.now.fit
