use Rattle.std.proofs.Common.{◌∙◌, ap}
use Rattle.sv_turn.specs.Passes.{pass_view}
use Rattle.sv_buf.specs.View.{View, lent_of}
use Rattle.sv_buf.proofs.Lists.{lent-without}
use Rattle.sv_buf.proofs.Fitting.{fit-back}
use Rattle.sv_buf.proofs.stake.CacheStakeStake.brelse.Goals as goal

pub returns-clause-lends : goal.returns-clause-lends
returns-clause-lends g c = ap (λ (v : View). lent_of v.loans) c.take_back.ensures.view
    ∙ lent-without c.args.buf.block (pass_view c.args.self.now.pass).loans

pub invariant_of-self-clause-fit : goal.invariant_of-self-clause-fit
invariant_of-self-clause-fit g c = fit-back (pass_view c.args.self.now.pass) (pass_view c.take_back.new.pass) c.args.buf.block
    c.take_back.ensures.view c.args.self.now.fit
