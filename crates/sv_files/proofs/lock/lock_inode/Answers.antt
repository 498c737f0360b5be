use Rattle.std.proofs.Common.{◌∷◌, refl, sym, subst}
use Rattle.sv_turn.specs.Passes.{pass_view}
use Rattle.sv_store.specs.Held.{InRange}
use Rattle.sv_files.specs.View.{seen_by}
use Rattle.sv_files.specs.FileRule.{Holds}
use Rattle.sv_files.specs.Adding.{StandsForSome, locked_view}
use Rattle.sv_files.proofs.Locking.{home-seen, locks-one, same-stakes}
use Rattle.sv_files.proofs.NotedLines.{lock-seen}
use Rattle.sv_files.proofs.lock.lock_inode.Goals as goal

pub leave_locked-requires-clause-rule : goal.leave_locked-requires-clause-rule
leave_locked-requires-clause-rule g c κs within = (
  c.loop.state,
  c.loop.invariant.3,
  λ others h.
      subst (λ k. Holds (seen_by g.S.Stake.held g.S.Stake.lent g.S.Stake.origin g.S.Stake.faults g.S.Stake.forced)
      (record c.loop.state { stakes = c.take_stake.new.stakes }) (locked_view c.args.number k
      (seen_by g.S.Stake.held g.S.Stake.lent g.S.Stake.origin g.S.Stake.faults g.S.Stake.forced c.in-Some-take_stake.stake)
      (pass_view c.loop.pass) ∷ others)) (sym c.kept_in-core.ensures)
      (locks-one (seen_by g.S.Stake.held g.S.Stake.lent g.S.Stake.origin g.S.Stake.faults g.S.Stake.forced) c.loop.state
      (record c.loop.state { stakes = c.take_stake.new.stakes }) (pass_view c.loop.pass) others c.args.number
      c.in-Some-take_stake.stake (sym c.in-Some-take_stake.ensures.taken) c.take_stake.ensures.away refl refl refl refl
      (subst (λ z. InRange z (g.S.Stake.held c.in-Some-take_stake.stake)) c.geometry-sizes.ensures.value c.geometry-sizes.ensures.range) h),
)

pub returns-in-Some-take_stake-clause-seen : goal.returns-in-Some-take_stake-clause-seen
returns-in-Some-take_stake-clause-seen g c =
    let is = home-seen _ c.loop.state (pass_view c.loop.pass ∷ c.loop.invariant.4.0) c.args.number c.in-Some-take_stake.stake
    c.loop.invariant.4.1 (sym c.in-Some-take_stake.ensures.taken) in
    lock-seen c.args.number c.kept_in-core.result _
    (subst (λ z. InRange z (g.S.Stake.held c.in-Some-take_stake.stake)) c.geometry-sizes.ensures.value c.geometry-sizes.ensures.range)
    is.stands.lent

pub returns-in-Some-take_stake-clause-stands : goal.returns-in-Some-take_stake-clause-stands
returns-in-Some-take_stake-clause-stands g c =
    subst (λ k. StandsForSome c.args.number k (seen_by g.S.Stake.held g.S.Stake.lent g.S.Stake.origin g.S.Stake.faults
    g.S.Stake.forced c.in-Some-take_stake.stake)) (sym c.kept_in-core.ensures)
    (home-seen _ c.loop.state (pass_view c.loop.pass ∷ c.loop.invariant.4.0) c.args.number c.in-Some-take_stake.stake
    c.loop.invariant.4.1 (sym c.in-Some-take_stake.ensures.taken))

pub sleep_on-state-requires-clause-rule : goal.sleep_on-state-requires-clause-rule
sleep_on-state-requires-clause-rule g c = (
  c.loop.state,
  c.loop.invariant.3,
  λ others h.
      same-stakes _ c.loop.state (record c.loop.state { stakes = c.take_stake.new.stakes }) (pass_view c.loop.pass ∷ others)
      c.in-None-take_stake.ensures.none refl refl refl refl h,
)
