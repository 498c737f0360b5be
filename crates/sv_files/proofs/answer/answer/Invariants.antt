use Rattle.sv_files.specs.View.{seen_by}
use Rattle.sv_files.specs.Adding.{ended_view, failed_view, home_faults}
use Rattle.sv_files.proofs.answer.answer.Given as goal

abbrev pub ghosts-leave_answered : goal.ghosts-leave_answered
ghosts-leave_answered g a = record {
  next = λ v. ended_view a.state.history.entries.items (home_faults (seen_by g.S.Stake.held g.S.Stake.lent g.S.Stake.origin g.S.Stake.faults
      g.S.Stake.forced) a.state.stakes.items a.number) v;
}

abbrev pub ghosts-leave_home : goal.ghosts-leave_home
ghosts-leave_home g a = record {
  next = λ v. failed_view (home_faults (seen_by g.S.Stake.held g.S.Stake.lent g.S.Stake.origin g.S.Stake.faults
      g.S.Stake.forced) a.state.stakes.items a.number) v;
}
