use Rattle.std.proofs.Common.{◌≡◌, ◌∙◌, ◌+◌, ◌-◌, [], ap, refl, subst}
use Rattle.sv_turn.specs.Passes.{IsPassOf, pass_view}
use Rattle.sv_files.specs.Beginning.{AreAdded, first_proc}
use Rattle.sv_files.specs.View.{View, of_one}
use Rattle.sv_files.proofs.Beginnings.{adds-first, two-left, view-first}
use Rattle.sv_files.proofs.begin.+hand_out.Goals as goal

pub cut_first-others-requires-clause-some : goal.cut_first-others-requires-clause-some
cut_first-others-requires-clause-some g t c κs within =
    two-left c.args.process c.args.left (pass_view c.args.pass).procs c.requires.procs c.if-left-eq0.false

pub returns : goal.returns
returns g t c =
    adds-first (λ q p. IsPassOf c.args.turn.now p.pass × (pass_view p.pass ≡ of_one (pass_view c.args.pass).mount (first_proc q) [])
    × (p.process ≡ q)) c.args.process c.args.left c.args.passes.now.items c.push_reserved-2.new.self.items
    c.hand_out.new.passes.items _ c.if-left-eq0.false c.push_reserved-2.ensures.items (
      c.cut_first-others.ensures.same.0.0 ∙ c.requires.own,
      view-first (pass_view c.args.pass) _ c.args.process c.args.left c.cut_first-others.ensures.first c.requires.procs c.requires.free
          c.if-left-eq0.false,
      refl,
    )
    (subst (λ m. AreAdded (λ q p. IsPassOf c.args.turn.now p.pass × (pass_view p.pass ≡ of_one m (first_proc q) [])
    × (p.process ≡ q)) (c.args.process + 1) (c.args.left - 1) c.push_reserved-2.new.self.items c.hand_out.new.passes.items)
    (ap (λ (v : View). v.mount) c.cut_first-others.ensures.others) c.hand_out.ensures)
