use Rattle.std.proofs.Common.{◌++◌, ◌∙◌, ℕ, List, codes, ap, append_assoc}
use Rattle.std.specs.String.{string_bytes}
use Rattle.std.proofs.lemmas.Result.{IfOk-equal}
use Rattle.sv_journal.specs.Spelling.{made_text, place_text}
use Rattle.sv_journal.proofs.line.push_op.Goals as goal

pub returns-in_ok-push_place-in-Create : goal.returns-in_ok-push_place-in-Create
returns-in_ok-push_place-in-Create c =
    let place = place_text (codes "create") c.in-Create.dir c.in-Create.name in
    let made = made_text c.in-Create.kind c.in-Create.mode in
    rw c.in-Create.is
    (IfOk-equal c.push_made.result _ _ _ c.push_made.ensures
    (ap (λ (front : List ℕ). front ++ made) c.in_ok-push_place-in-Create.ensures ∙ append_assoc (string_bytes c.args.text.now) place made))
