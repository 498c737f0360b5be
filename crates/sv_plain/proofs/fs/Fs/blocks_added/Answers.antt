use Rattle.std.proofs.Common.{◌≡◌, [], ◌∷◌, Some, sym, ap, ◌∙◌}
use Rattle.std.specs.FinMap as map
use Rattle.sv_plain.specs.Totals.{at_or_0}
use Rattle.sv_plain.specs.Needs.{blocks_added}
use Rattle.sv_plain.specs.Fs.{Fs}
use Rattle.sv_plain.proofs.PageAdds.{kept-adds}
use Rattle.sv_plain.proofs.fs.Fs.blocks_added.Goals as goal

pub returns-in-Some-clause-added : goal.returns-in-Some-clause-added
returns-in-Some-clause-added c =
    let a = c.self.inside in
    let there : map.get a.blocks c.args.i ≡ Some c.in-Some.blocks.now = ap (map.get a.blocks) (sym c.from.ensures) ∙ sym c.in-Some.ensures in
    c.page_need.ensures.need
    ∙ kept-adds a c.args.i c.args.page c.in-Some.blocks.now c.self.invariant there
    ∙ ap (λ (fs : Fs). at_or_0 (λ node. blocks_added fs.block node (c.args.page ∷ [])) (map.get fs.nodes c.args.i)) c.self.view_is
