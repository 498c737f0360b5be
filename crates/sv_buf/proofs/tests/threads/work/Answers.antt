-- The stake still has all lines of its cache.
use Rattle.std.proofs.Common.{◌∙◌, ap, sym, subst}
use Rattle.sv_store.specs.Held.{SameLines}
use Rattle.sv_buf.specs.Stake.{pass_held, pass_lent, pass_origin}
use Rattle.sv_buf.proofs.Ending.{all-kept}
use Rattle.sv_buf.proofs.tests.threads.work.Goals as goal

pub stop_all-requires : goal.stop_all-requires
stop_all-requires g c =
    let kept = c.share-stake.ensures.kept in
    let back = c.give_up-first.ensures in
    record {
      all = all-kept c.args.cache.now.turn c.args.first c.give_up-first.result c.requires.all
          (ap pass_origin back.same ∙ kept.home ∙ ap pass_origin c.stake-stake.ensures)
          back.own.1 back.fit
          (subst (λ p. SameLines (pass_held p) (pass_held c.args.first)) (sym back.same)
          (subst (λ p. SameLines (pass_held c.share-stake.result.0.pass) (pass_held p)) c.stake-stake.ensures kept.lines))
          (ap pass_lent back.same ∙ kept.away ∙ ap pass_lent c.stake-stake.ensures);
    }
