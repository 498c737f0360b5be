use Rattle.std.proofs.Common.{◌≡◌, Some, IsSome, option_and_then, sym, ap, subst, refl, ◌∙◌}
use Rattle.std.specs.Ordering.{nat_cmp}
use Rattle.std.specs.Cmp.{nat_cmp_total}
use Rattle.std.specs.FinMap as map
use Rattle.sv_form.specs.Node.{Node}
use Rattle.sv_form.specs.declared.kind.Kind.TheVariants.{File}
use Rattle.sv_plain.specs.Fs.{Fs, node_without_pages}
use Rattle.sv_plain.proofs.tests.add_one_file.Goals as goal

pub put_page-requires-clause-there : goal.put_page-requires-clause-there
put_page-requires-clause-there c =
    let there : map.get c.add_node.new.self.nodes 3 ≡ Some (node_without_pages File 420 1 11264) =
    ap (λ (fs : Fs). map.get fs.nodes 3) c.in_ok-add_node.ensures.added ∙ map.get-insert nat_cmp_total c.args.fs.now.nodes 3 (node_without_pages File 420 1 11264) 3 in
    subst IsSome (sym there) refl

pub put_page-requires-clause-absent : goal.put_page-requires-clause-absent
put_page-requires-clause-absent c =
    let there : map.get c.add_node.new.self.nodes 3 ≡ Some (node_without_pages File 420 1 11264) =
    ap (λ (fs : Fs). map.get fs.nodes 3) c.in_ok-add_node.ensures.added ∙ map.get-insert nat_cmp_total c.args.fs.now.nodes 3 (node_without_pages File 420 1 11264) 3 in
    ap (λ o. option_and_then (λ (n : Node). map.get n.pages 10) o) there ∙ map.get-empty nat_cmp 10
