use Rattle.sv_turn.specs.Passes.{pass_view}
use Rattle.sv_buf.proofs.Fitting.{fit-got}
use Rattle.sv_buf.proofs.ahead.get_ahead.Goals as goal

pub read_ahead-requires-clause-fit : goal.read_ahead-requires-clause-fit
read_ahead-requires-clause-fit g c = fit-got c.get.result (pass_view c.args.pass.now) (pass_view c.get.new.pass) c.args.block
    c.get.ensures.view c.get.ensures.err c.requires.fit
