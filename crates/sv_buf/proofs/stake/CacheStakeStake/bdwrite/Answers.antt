use Rattle.std.proofs.Common.{◌∙◌, ap}
use Rattle.sv_turn.specs.Passes.{pass_view}
use Rattle.sv_buf.specs.View.{View, held_of, lent_of}
use Rattle.sv_buf.proofs.Lists.{lent-without}
use Rattle.sv_buf.proofs.Putting.{held-put, fit-put}
use Rattle.sv_buf.proofs.stake.CacheStakeStake.bdwrite.Goals as goal

pub returns-clause-lends : goal.returns-clause-lends
returns-clause-lends g c = ap (λ (v : View). lent_of v.loans) c.take_put.ensures.view
    ∙ lent-without c.args.buf.block (pass_view c.args.self.now.pass).loans

pub returns-clause-held : goal.returns-clause-held
returns-clause-held g c = ap (λ (v : View). held_of v.lines) c.take_put.ensures.view
    ∙ held-put c.args.buf.block c.args.buf.bytes (pass_view c.args.self.now.pass).lines

pub invariant_of-self-clause-fit : goal.invariant_of-self-clause-fit
invariant_of-self-clause-fit g c = fit-put (pass_view c.args.self.now.pass) (pass_view c.take_put.new.pass) c.args.buf.block
    c.args.buf.bytes c.take_put.ensures.view c.take_put.ensures.size c.args.self.now.fit
