use Rattle.std.proofs.Common.{◌≡◌, IsSome, sym, ap, subst, ◌∙◌}
use Rattle.std.specs.FinMap as map
use Rattle.sv_form.specs.Node.{Node}
use Rattle.sv_plain.specs.Fs.{Fs, changed}
use Rattle.sv_plain.specs.Change.{new_node}
use Rattle.sv_plain.specs.Entered.{with_sized_page}
use Rattle.sv_plain.specs.Step.{links_made}
use Rattle.sv_plain.proofs.ClearedEntry.{still-there}
use Rattle.sv_plain.proofs.KeepsReferences.{some_item}
use Rattle.sv_plain.proofs.KeepsFile.{still_some}
use Rattle.sv_plain.proofs.KeepsCreated.{absent-free}
use Rattle.sv_plain.proofs.MadeSteps.{added-undone, made-steps, free-apart}
use Rattle.sv_plain.proofs.fs.Fs.make.Goals as goal

pub refer_and_put-requires-clause-there : goal.refer_and_put-requires-clause-there
refer_and_put-requires-clause-there c =
    let fs : Fs = c.args.self.now in
    let y : Node = new_node fs.block c.args.i c.args.d c.args.mode c.args.kind in
    subst (λ (s : Fs). IsSome (map.get s.nodes c.args.d)) (sym c.in_ok-add_made.ensures.added) (still_some fs.nodes c.args.i c.args.d y c.requires.there)

pub returns-in_default-clause-refused : goal.returns-in_default-clause-refused
returns-in_default-clause-refused c =
    let fs : Fs = c.args.self.now in
    added-undone fs c.add_made.new.self c.refer_and_put.new.self c.remove_node.new.self c.args.i (new_node fs.block c.args.i c.args.d c.args.mode c.args.kind)
    (absent-free fs c.args.i c.requires.free).2 c.in_ok-add_made.ensures.added c.in_default.ensures.refused c.remove_node.ensures

pub set_links-requires : goal.set_links-requires
set_links-requires c =
    let fs : Fs = c.args.self.now in
    let page = c.in_ok-page.page in
    let y : Node = new_node fs.block c.args.i c.args.d c.args.mode c.args.kind in
    let f : Node → Node = with_sized_page page.number page.bytes page.size in
    let nodes : c.refer_and_put.new.self.nodes ≡ changed (map.insert fs.nodes c.args.i y) c.args.d f =
    ap (λ (s : Fs). s.nodes) c.in-Ok.ensures.put ∙ ap (λ (s : Fs). changed s.nodes c.args.d f) c.in_ok-add_made.ensures.added in
    subst (λ m. IsSome (map.get m c.args.d)) (sym nodes)
    (still-there (map.insert fs.nodes c.args.i y) c.args.d c.args.d f (still_some fs.nodes c.args.i c.args.d y c.requires.there))

pub returns-clause-made : goal.returns-clause-made
returns-clause-made c =
    let fs : Fs = c.args.self.now in
    let page = c.in_ok-page.page in
    let old = some_item (map.get fs.nodes c.args.d) c.requires.there in
    made-steps fs c.add_made.new.self c.refer_and_put.new.self c.set_links.new.self c.args.process c.args.d c.args.i page.number page.size c.links_made-links.result c.args.mode page.bytes c.args.name.now c.args.kind
    old.0 old.1 (free-apart fs c.args.d c.args.i c.requires.there (absent-free fs c.args.i c.requires.free).2)
    c.in_ok-add_made.ensures.added c.in-Ok.ensures.put c.in-Ok-set_links.ensures.put c.in_ok-page.ensures.entered
    (c.links_made-links.ensures ∙ ap (links_made c.args.kind) c.links_of.ensures)
