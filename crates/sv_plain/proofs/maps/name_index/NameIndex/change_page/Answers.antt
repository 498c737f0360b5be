use Rattle.std.proofs.Common.{◌≡◌, ◌*◌, ℕ, List, Option, Some, option_copied, subst, ◌∙◌, arith}
use Rattle.sv_plain.proofs.NameNotes.{PageNotes, page-more, page-ends}
use Rattle.sv_plain.proofs.maps.name_index.NameIndex.change_page.Goals as goal

pub loop-r-preserved : goal.loop-r-preserved
loop-r-preserved c =
    let old = c.args.self.now in
    let first : ℕ = c.args.page * old.slots in
    let before : Option (List ℕ) = option_copied c.args.before in
    let after : Option (List ℕ) = Some c.args.after.now in
    record {
      slots = c.if-not-change_entry.ensures.slots ∙ c.loop-r.invariant.slots;
      notes = page-more old c.loop-r.self c.change_entry.new.self first old.slots c.loop-r.r before after (omega arith)
          c.if-not-change_entry.ensures.put c.if-not-change_entry.ensures.kept c.loop-r.invariant.notes;
    }

pub returns : goal.returns
returns c =
    let old = c.args.self.now in
    let all : c.loop-r.r ≡ old.slots = omega arith in
    page-ends old c.loop-r.self c.args.page (option_copied c.args.before) c.args.after.now c.loop-r.invariant.slots
    (subst (λ (r : ℕ). PageNotes old c.loop-r.self (c.args.page * old.slots) old.slots r (option_copied c.args.before)
    (Some c.args.after.now)) all c.loop-r.invariant.notes)
