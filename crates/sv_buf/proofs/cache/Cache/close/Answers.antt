use Rattle.std.proofs.Common.{◌∙◌, sym, subst}
use Rattle.sv_form.specs.declared.geometry.Geometry.{Geometry}
use Rattle.sv_form.specs.Geometry.{IsGeometry}
use Rattle.sv_turn.specs.Passes.{pass_view, first_view}
use Rattle.sv_buf.specs.Running.{seen_by}
use Rattle.sv_buf.specs.Closing.{lines_held}
use Rattle.sv_buf.proofs.Closing.{closing-weight, closing-count}
use Rattle.sv_buf.proofs.cache.Cache.close.Goals as goal

pub close-requires-clause-whole : goal.close-requires-clause-whole
close-requires-clause-whole g c =
    let e = c.join_all-pass.ensures in
    closing-weight (first_view c.args.self.turn).opening (pass_view c.join_all-pass.result) (first_view c.args.self.turn)
    (lines_held c.args.passes.items) (subst (λ (s : Geometry). IsGeometry s) (sym c.args.self.same_sizes) c.args.self.sized)
    c.requires.lines e.lines (e.workers ∙ c.requires.worker) c.args.self.whole

pub finish-requires-clause-count : goal.finish-requires-clause-count
finish-requires-clause-count g c =
    closing-count (seen_by g.D.Medium.content g.D.Medium.reads g.D.Medium.writes g.D.Medium.faults) c.close.result
    (pass_view c.join_all-pass.result) (first_view c.args.self.turn).opening c.args.self.buffers c.close.ensures
    c.join_all-pass.ensures.quiet c.args.self.counted
