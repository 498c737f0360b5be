use Rattle.std.proofs.Common.{◌≡◌, ◌==◌, ◌/◌, ◌∙◌, false, sym, subst}
use Rattle.std.proofs.lemmas.Bool.{ne_eqb}
use Rattle.sv_form.specs.Node.{Node, entry_inode}
use Rattle.sv_plain.proofs.NameNotes.{slot-inode, some_slots, whole_entries}
use Rattle.sv_plain.proofs.node.Node.full_before.Goals as goal

pub returns : goal.returns
returns c = λ k low.
    (let block = c.args.block in
    let a = c.self.inside in
    let node : Node = record { kind = a.kind; mode = a.mode; links = a.links; size = a.size; pages = a.pages } in
    let slot = slot-inode block (block / 16) node (some_slots block c.if-block-ne0.false c.requires)
    (whole_entries block c.if-block-ne0.false) k in
    subst (λ (n : Node). (entry_inode block n k == 0) ≡ false) c.self.view_is (ne_eqb (entry_inode block node k) 0
    (λ e. c.first_empty.ensures k low (sym slot ∙ e))))
