use Rattle.std.proofs.Common.{◌≡◌, ◌∙◌, ℕ, Result, Ok, Err, IfOk, replicate, sym, ap}
use Rattle.sv_turn.specs.Passes.{pass_view}
use Rattle.sv_store.specs.Held.{put, with}
use Rattle.sv_store.specs.Calls.{GetsZeros}
use Rattle.sv_buf.specs.View.{View, held_of, lent_of}
use Rattle.sv_buf.specs.Changes.{calm_view, lent_view, filled_view}
use Rattle.sv_buf.specs.Stake.{pass_held, pass_lent, pass_origin}
use Rattle.sv_buf.proofs.Lists.{lent-with}
use Rattle.sv_buf.proofs.Putting.{held-put}
use Rattle.sv_buf.proofs.Writing.{if_ok}
use Rattle.sv_buf.proofs.Fitting.{fit-zeros}
use Rattle.sv_buf.proofs.stake.CacheStakeStake.fresh.Goals as goal

both_ok : {T E : Type 0} (r : Result T E) (P Q R : T → Type 0) → ((x : T) → P x → Q x → R x) → IfOk r P → IfOk r Q → IfOk r R
both_ok (Ok x) P Q R f p q = f x p q
both_ok (Err e) P Q R f p q = tt

pub get_zeros-requires-clause-whole : goal.get_zeros-requires-clause-whole
get_zeros-requires-clause-whole g c = record { at = c.requires.whole.at }

pub returns-clause-ok : goal.returns-clause-ok
returns-clause-ok g c =
    both_ok c.get_zeros.result (λ buf. buf.block ≡ c.args.b) (λ buf. buf.bytes ≡ replicate 1024 0)
    (GetsZeros (pass_origin c.args.self.now.pass) c.args.b)
    (λ buf block zeros. record { block = block; zeros = zeros ∙ ap (λ (n : ℕ). replicate n 0) (sym c.args.self.now.fit.sizes.block_size) })
    c.get_zeros.ensures.block c.get_zeros.ensures.zeros

pub returns-clause-lends : goal.returns-clause-lends
returns-clause-lends g c =
    if_ok c.get_zeros.result (λ buf. (k : ℕ) × (pass_view c.get_zeros.new.pass ≡ lent_view k c.args.b buf.bytes
    (filled_view c.args.b buf.bytes (calm_view (pass_view c.args.self.now.pass)))))
    (λ buf. pass_lent c.get_zeros.new.pass ≡ with c.args.b buf.bytes (pass_lent c.args.self.now.pass))
    (λ buf lent. ap (λ (v : View). lent_of v.loans) lent.1 ∙ lent-with lent.0 c.args.b buf.bytes (pass_view c.args.self.now.pass).loans)
    c.get_zeros.ensures.view

pub returns-clause-puts : goal.returns-clause-puts
returns-clause-puts g c =
    if_ok c.get_zeros.result (λ buf. (k : ℕ) × (pass_view c.get_zeros.new.pass ≡ lent_view k c.args.b buf.bytes
    (filled_view c.args.b buf.bytes (calm_view (pass_view c.args.self.now.pass)))))
    (λ buf. pass_held c.get_zeros.new.pass ≡ put c.args.b buf.bytes (pass_held c.args.self.now.pass))
    (λ buf lent. ap (λ (v : View). held_of v.lines) lent.1 ∙ held-put c.args.b buf.bytes (pass_view c.args.self.now.pass).lines)
    c.get_zeros.ensures.view

pub invariant_of-self-clause-fit : goal.invariant_of-self-clause-fit
invariant_of-self-clause-fit g c = fit-zeros c.get_zeros.result (pass_view c.args.self.now.pass) (pass_view c.get_zeros.new.pass)
    c.args.b c.get_zeros.ensures.view c.get_zeros.ensures.zeros c.get_zeros.ensures.err c.args.self.now.fit
