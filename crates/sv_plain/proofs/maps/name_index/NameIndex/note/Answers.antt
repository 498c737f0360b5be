use Rattle.std.proofs.Common.{◌≡◌, ◌≢◌, ℕ, sym, subst}
use Rattle.std.proofs.lemmas.Bool.{OnTrue_at, OnTrue_from}
use Rattle.sv_plain.specs.NameIndex.{Notes}
use Rattle.sv_plain.proofs.NameNotes.{empty-put, empty-kept, name-kept}
use Rattle.sv_plain.proofs.maps.name_index.NameIndex.note.Goals as goal

pub returns-then-after-eq0-clause-put : goal.returns-then-after-eq0-clause-put
returns-then-after-eq0-clause-put c =
    OnTrue_from c.note_empty.result _
    (λ ok. subst (λ (n : ℕ). Notes c.note_empty.new.self c.args.j n c.args.after.key) (sym c.if-after-eq0.true)
    (empty-put c.args.self.now c.note_empty.new.self c.args.j (OnTrue_at ok c.note_empty.ensures) c.args.after.key))

pub returns-then-after-eq0-clause-kept : goal.returns-then-after-eq0-clause-kept
returns-then-after-eq0-clause-kept c =
    OnTrue_from c.note_empty.result _ (λ ok. empty-kept c.args.self.now c.note_empty.new.self c.args.j (OnTrue_at ok c.note_empty.ensures))

pub returns-clause-kept : goal.returns-clause-kept
returns-clause-kept c =
    OnTrue_from c.note_name.result _
    (λ ok. name-kept c.args.self.now c.note_name.new.self c.args.j c.args.after.key
    (OnTrue_at ok c.note_name.ensures.new) (OnTrue_at ok c.note_name.ensures.places) (OnTrue_at ok c.note_name.ensures.empty)
    (OnTrue_at ok c.note_name.ensures.covered))
