use Rattle.std.proofs.Common.{◌≡◌, ◌<◌, ◌+◌, ◌*◌, ℕ, List, Option, Some, option_copied, subst, ◌∙◌}
use Rattle.sv_form.specs.FileBytes.{page_byte}
use Rattle.sv_plain.specs.NameIndex.{Notes, slot_inode, slot_key}
use Rattle.sv_plain.proofs.NameNotes.{same-inode, same-key}
use Rattle.sv_plain.proofs.maps.name_index.NameIndex.change_entry.Goals as goal

pub returns-then-is_same-clause-put : goal.returns-then-is_same-clause-put
returns-then-is_same-clause-put c =
    let index = c.args.self.now in
    let j : ℕ = c.args.first + c.args.r in
    let r : ℕ = c.args.r in
    let before : Option (List ℕ) = option_copied c.args.before in
    let after : Option (List ℕ) = Some c.args.after.now in
    let same : (i : ℕ) → i < 16 → page_byte before (16 * r + i) ≡ page_byte after (16 * r + i) =
    λ i low. c.present.ensures (16 * r + i) ∙ c.if-is_same.ensures i low in
    λ was.
    subst (λ (k : ℕ). Notes index j (slot_inode after r) k) (same-key before after r same)
    (subst (λ (n : ℕ). Notes index j n (slot_key before r)) (same-inode before after r same) was)
