use Rattle.std.proofs.Common.{◌≡◌, ◌∙◌, ℕ, List, ap}
use Rattle.sv_turn.specs.Passes.{pass_view}
use Rattle.sv_store.specs.Held.{with}
use Rattle.sv_store.specs.Calls.{Gets}
use Rattle.sv_buf.specs.View.{View, held_of, lent_of}
use Rattle.sv_buf.specs.Changes.{calm_view, lent_view}
use Rattle.sv_buf.specs.Running.{IsFit}
use Rattle.sv_buf.specs.Meeting.{MayFail}
use Rattle.sv_buf.specs.Stake.{pass_held, pass_lent, pass_origin}
use Rattle.sv_buf.proofs.Lists.{lent-with}
use Rattle.sv_buf.proofs.Writing.{if_ok}
use Rattle.sv_buf.proofs.Fitting.{fit-calm, ended-ahead}
use Rattle.sv_buf.proofs.stake.CacheStakeStake.breada.Goals as goal

pub returns-clause-ok : goal.returns-clause-ok
returns-clause-ok g c =
    if_ok c.get_ahead.result (λ buf. (id : List ℕ) → Gets (record { id = id; sizes = (pass_view c.args.self.now.pass).opening.sizes })
    (held_of (pass_view c.args.self.now.pass).lines) c.args.b buf)
    (Gets (pass_origin c.args.self.now.pass) (pass_held c.args.self.now.pass) c.args.b)
    (λ buf gets. gets (pass_origin c.args.self.now.pass).id) c.get_ahead.ensures.gets

pub returns-clause-lends : goal.returns-clause-lends
returns-clause-lends g c =
    if_ok c.get_ahead.result (λ buf. (k : ℕ) × MayFail (lent_view k c.args.b buf.bytes (calm_view (pass_view c.args.self.now.pass)))
    (pass_view c.get_ahead.new.pass))
    (λ buf. pass_lent c.get_ahead.new.pass ≡ with c.args.b buf.bytes (pass_lent c.args.self.now.pass))
    (λ buf lent. ap (λ (v : View). lent_of v.loans) lent.1.is ∙ lent-with lent.0 c.args.b buf.bytes
    (pass_view c.args.self.now.pass).loans)
    c.get_ahead.ensures.view

pub invariant_of-self-clause-fit : goal.invariant_of-self-clause-fit
invariant_of-self-clause-fit g c = ended-ahead c.get_ahead.result (pass_view c.args.self.now.pass) (pass_view c.get_ahead.new.pass)
    c.args.b IsFit c.get_ahead.ensures.view c.get_ahead.ensures.err
    (λ loans f. fit-calm (pass_view c.args.self.now.pass) loans f c.args.self.now.fit)
