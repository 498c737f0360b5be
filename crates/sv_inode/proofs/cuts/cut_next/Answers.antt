-- The part that finds no place in the list is merged again.
use Rattle.std.proofs.Common.{ap, ◌∙◌}
use Rattle.sv_store.specs.Held.{Both}
use Rattle.sv_super.specs.Core.{less}
use Rattle.sv_inode.proofs.GivenBack.{both-back, less-apart}
use Rattle.sv_inode.proofs.cuts.cut_next.Goals as goal

pub merge-requires-clause-lines : goal.merge-requires-clause-lines
merge-requires-clause-lines g c = record {
  apart = less-apart (g.S.Stake.held c.args.s.now) c.args.b c.in_ok-part.ensures.mine
      (ap (λ q. g.S.Stake.held q.1) c.in-Err.ensures.value_returned ∙ c.in_ok-part.ensures.theirs);
  away = ap (λ q. g.S.Stake.lent q.1) c.in-Err.ensures.value_returned ∙ c.in_ok-part.ensures.part_lent;
}

pub returns-in-Err-clause-err : goal.returns-in-Err-clause-err
returns-in-Err-clause-err g c =
    c.merge.ensures.held
    ∙ (ap (λ q. Both q (g.S.Stake.held c.in-Err.failed.value.1)) c.in_ok-part.ensures.mine
    ∙ (ap (Both (less c.args.b (g.S.Stake.held c.args.s.now)))
    (ap (λ q. g.S.Stake.held q.1) c.in-Err.ensures.value_returned ∙ c.in_ok-part.ensures.theirs)
    ∙ both-back c.args.b (g.S.Stake.held c.args.s.now)))
