use Rattle.std.proofs.Common.{◌≡◌, ◌/◌, ℕ, Option, Some, true, sym, subst}
use Rattle.sv_form.specs.Node.{Node}
use Rattle.sv_plain.specs.Names.{is_entry}
use Rattle.sv_plain.proofs.NameNotes.{for_some, slot-named, some_slots, whole_entries}
use Rattle.sv_plain.proofs.node.Node.indexed_place.Goals as goal

pub returns : goal.returns
returns c =
    let block = c.args.block in
    let name = c.args.name.now in
    let a = c.self.inside in
    let node : Node = record { kind = a.kind; mode = a.mode; links = a.links; size = a.size; pages = a.pages } in
    for_some c.place.result _ (λ (place : Option ℕ). (j : ℕ) → is_entry block c.args.self.now name j ≡ true → place ≡ Some j)
    (λ place only j e.
    (let named = slot-named block (block / 16) node (some_slots block c.if-block-ne0.false c.requires)
    (whole_entries block c.if-block-ne0.false) j name
    (subst (λ (n : Node). is_entry block n name j ≡ true) (sym c.self.view_is) e) in
    only j named.0 named.1))
    c.place.ensures
