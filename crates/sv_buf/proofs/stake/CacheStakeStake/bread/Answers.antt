use Rattle.std.proofs.Common.{◌≡◌, ◌∙◌, ℕ, List, ap}
use Rattle.sv_turn.specs.Passes.{pass_view}
use Rattle.sv_store.specs.Held.{with}
use Rattle.sv_store.specs.Calls.{Gets}
use Rattle.sv_buf.specs.View.{View, held_of, lent_of}
use Rattle.sv_buf.specs.Changes.{calm_view, lent_view}
use Rattle.sv_buf.specs.Stake.{pass_held, pass_lent, pass_origin}
use Rattle.sv_buf.proofs.Lists.{lent-with}
use Rattle.sv_buf.proofs.Writing.{if_ok}
use Rattle.sv_buf.proofs.Fitting.{fit-got}
use Rattle.sv_buf.proofs.stake.CacheStakeStake.bread.Goals as goal

pub returns-clause-ok : goal.returns-clause-ok
returns-clause-ok g c =
    if_ok c.get.result (λ buf. (id : List ℕ) → Gets (record { id = id; sizes = (pass_view c.args.self.now.pass).opening.sizes })
    (held_of (pass_view c.args.self.now.pass).lines) c.args.b buf)
    (Gets (pass_origin c.args.self.now.pass) (pass_held c.args.self.now.pass) c.args.b)
    (λ buf gets. gets (pass_origin c.args.self.now.pass).id) c.get.ensures.gets

pub returns-clause-lends : goal.returns-clause-lends
returns-clause-lends g c =
    if_ok c.get.result (λ buf. (k : ℕ) × (pass_view c.get.new.pass ≡ lent_view k c.args.b buf.bytes
    (calm_view (pass_view c.args.self.now.pass))))
    (λ buf. pass_lent c.get.new.pass ≡ with c.args.b buf.bytes (pass_lent c.args.self.now.pass))
    (λ buf lent. ap (λ (v : View). lent_of v.loans) lent.1 ∙ lent-with lent.0 c.args.b buf.bytes (pass_view c.args.self.now.pass).loans)
    c.get.ensures.view

pub invariant_of-self-clause-fit : goal.invariant_of-self-clause-fit
invariant_of-self-clause-fit g c = fit-got c.get.result (pass_view c.args.self.now.pass) (pass_view c.get.new.pass) c.args.b
    c.get.ensures.view c.get.ensures.err c.args.self.now.fit
