-- A copy is added exactly where a line of the entry is chosen.
use Rattle.std.proofs.Common.{◌++◌, ◌∷◌, [], Some, cond, sym, ap, ◌∙◌}
use Rattle.std.specs.List.{list_any}
use Rattle.std.proofs.lemmas.List.{append-nil}
use Rattle.sv_store.specs.Held.{in_ranges}
use Rattle.sv_store.specs.OwnBlock.{copied}
use Rattle.sv_store.proofs.OwnParts.{left-one}
use Rattle.sv_store.proofs.own_block.add_copy.Goals as goal

pub returns-in_ok-push_back : goal.returns-in_ok-push_back
returns-in_ok-push_back c =
    c.in_ok-push_back.ensures.items
    ∙ ap (λ q. c.args.copies.now ++ q)
    (ap (λ q. q ∷ []) (c.in_ok-copy.ensures ∙ ap (λ q. record { block = c.args.own.now.block; lines = q; kept = c.args.own.now.kept; spare = Some c.args.own.now.kept }) c.in_ok-chosen.ensures)
    ∙ (sym (ap (λ q. cond q (copied (in_ranges c.args.lines.now) c.args.own.now ∷ []) []) (sym (ap (list_any (λ x. x)) (c.as_slice.ensures.value ∙ c.in_ok-chosen.ensures)) ∙ (sym c.is_any.ensures ∙ c.if-is_any.true)))
    ∙ sym (left-one (copied (in_ranges c.args.lines.now)) c.args.own.now)))

pub returns-else-is_any : goal.returns-else-is_any
returns-else-is_any c =
    sym (append-nil c.args.copies.now)
    ∙ ap (λ q. c.args.copies.now ++ q)
    (sym (ap (λ q. cond q (copied (in_ranges c.args.lines.now) c.args.own.now ∷ []) []) (sym (ap (list_any (λ x. x)) (c.as_slice.ensures.value ∙ c.in_ok-chosen.ensures)) ∙ (sym c.is_any.ensures ∙ c.if-is_any.false)))
    ∙ sym (left-one (copied (in_ranges c.args.lines.now)) c.args.own.now))
