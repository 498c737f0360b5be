use Rattle.std.proofs.Common.{◌≡◌, Some, IsSome, option_and_then, sym, refl, ap, subst, ◌∙◌}
use Rattle.std.specs.Ordering.{nat_cmp}
use Rattle.std.specs.FinMap as map
use Rattle.sv_form.specs.declared.kind.Kind.TheVariants.{Dir}
use Rattle.sv_form.specs.Node.{Node}
use Rattle.sv_plain.specs.Fs.{Fs, node_without_pages}
use Rattle.sv_plain.specs.Entered.{first_page}
use Rattle.sv_plain.proofs.KeepsFile.{get_new}
use Rattle.sv_plain.proofs.MadeSteps.{added-undone, directory-steps}
use Rattle.sv_plain.proofs.fs.Fs.add_directory.Goals as goal

pub put_page-requires-clause-there : goal.put_page-requires-clause-there
put_page-requires-clause-there c =
    let empty : Node = node_without_pages Dir c.args.mode 2 32 in
    let there : map.get c.add_node.new.self.nodes c.args.i ≡ Some empty =
    ap (λ (fs : Fs). map.get fs.nodes c.args.i) c.in_ok-add_node.ensures.added ∙ get_new c.args.self.now.nodes c.args.i empty in
    subst IsSome (sym there) refl

pub put_page-requires-clause-absent : goal.put_page-requires-clause-absent
put_page-requires-clause-absent c =
    let empty : Node = node_without_pages Dir c.args.mode 2 32 in
    let there : map.get c.add_node.new.self.nodes c.args.i ≡ Some empty =
    ap (λ (fs : Fs). map.get fs.nodes c.args.i) c.in_ok-add_node.ensures.added ∙ get_new c.args.self.now.nodes c.args.i empty in
    ap (option_and_then (λ (n : Node). map.get n.pages 0)) there ∙ map.get-empty nat_cmp 0

pub returns-in_default-clause-refused : goal.returns-in_default-clause-refused
returns-in_default-clause-refused c =
    added-undone c.args.self.now c.add_node.new.self c.put_page.new.self c.remove_node.new.self c.args.i (node_without_pages Dir c.args.mode 2 32)
    c.requires.absent c.in_ok-add_node.ensures.added c.in_default.ensures.refused c.remove_node.ensures

pub returns-clause-added : goal.returns-clause-added
returns-clause-added c =
    directory-steps c.args.self.now c.add_node.new.self c.put_page.new.self c.args.i c.args.d c.args.mode c.in_ok-bytes.bytes
    c.in_ok-add_node.ensures.added c.in-Ok.ensures.added (c.in_ok-bytes.ensures ∙ ap (λ b. first_page b c.args.i c.args.d) c.block_size.ensures.same)
