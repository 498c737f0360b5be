use Rattle.std.proofs.Common.{◌≡◌}
use Rattle.sv_turn.specs.Passes.{pass_view, HasEntered, IsPassOf, IsSamePass}
use Rattle.sv_turn.specs.Steps.{IsKept}
use Rattle.sv_files.specs.View.{seen_by}
use Rattle.sv_files.specs.FileRule.{Holds}
use Rattle.sv_files.specs.Adding.{locked_view}
use Rattle.sv_files.proofs.lock.lock_inode.Given as goal

abbrev pub invariant-loop : goal.invariant-loop
invariant-loop g l =
    IsPassOf l.turn l.pass × IsSamePass l.fn.pass l.pass × (pass_view l.pass ≡ pass_view l.fn.pass) × HasEntered l.pass l.state
    × IsKept (Holds (seen_by g.S.Stake.held g.S.Stake.lent g.S.Stake.origin g.S.Stake.faults g.S.Stake.forced)) l.state (pass_view l.pass)

abbrev pub ghosts-leave_locked : goal.ghosts-leave_locked
ghosts-leave_locked g a = record {
  next = λ v. locked_view a.locked.now.number a.locked.now.core
      (seen_by g.S.Stake.held g.S.Stake.lent g.S.Stake.origin g.S.Stake.faults g.S.Stake.forced a.locked.now.stake) v;
}
