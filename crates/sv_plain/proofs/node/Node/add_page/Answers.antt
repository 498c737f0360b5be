use Rattle.std.proofs.Common.{◌≡◌, ap, ◌∙◌}
use Rattle.std.specs.Cmp.{nat_cmp_total}
use Rattle.std.specs.FinMap as map
use Rattle.std.specs.FinMap.{nat_cmp-IsAntisymmetric}
use Rattle.sv_form.specs.Node.{Node}
use Rattle.sv_plain.proofs.Undone.{remove-insert}
use Rattle.sv_plain.proofs.node.Node.add_page.Goals as goal

pub returns-in_default-clause-node : goal.returns-in_default-clause-node
returns-in_default-clause-node c =
    let a = c.self.inside in
    let absent = ap (λ (n : Node). map.get n.pages c.args.page) c.self.view_is ∙ c.requires.absent in
    let pages : c.remove.new.self ≡ a.pages =
    c.remove.ensures ∙ ap (λ m. map.remove m c.args.page) c.in_ok-insert.ensures.put ∙ remove-insert nat_cmp_total nat_cmp-IsAntisymmetric a.pages c.args.page c.args.bytes absent in
    ap (λ m. record { kind = a.kind; mode = a.mode; links = a.links; size = a.size; pages = m }) pages ∙ c.self.view_is
