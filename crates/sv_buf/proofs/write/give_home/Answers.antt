use Rattle.std.proofs.Common.{◌∷◌, sym, subst}
use Rattle.sv_turn.specs.Passes.{pass_view}
use Rattle.sv_buf.specs.Running.{IsRunning, seen_by}
use Rattle.sv_buf.proofs.write.give_home.Goals as goal

pub leave-requires-clause-rule : goal.leave-requires-clause-rule
leave-requires-clause-rule g c = (
  c.requires.pending.may.0,
  c.requires.pending.may.1,
  λ others h.
      subst (λ q. IsRunning (seen_by g.D.Medium.content g.D.Medium.reads g.D.Medium.writes g.D.Medium.faults)
      (record c.args.state { core = q }) (g.N.NewView.next (pass_view c.args.pass.now) ∷ others)) (sym c.give_back.ensures.after)
      (c.requires.pending.may.2 others h),
)
