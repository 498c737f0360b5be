-- The first entry stays where it holds a line.
use Rattle.std.proofs.Common.{◌++◌, drop, sym, ap, ◌∙◌}
use Rattle.std.proofs.lemmas.List.{take-append-drop}
use Rattle.sv_store.proofs.OwnParts.{settle-keeps, settle-drops}
use Rattle.sv_store.proofs.own_cut.drop_empty.Goals as goal

pub returns-then-holds_any : goal.returns-then-holds_any
returns-then-holds_any c =
    sym (ap (λ q. q ++ drop 1 c.args.blocks.now) (settle-keeps c.args.blocks.now c.in-Some.own.now c.requires c.in-Some.ensures.lookup (sym c.holds_any.ensures ∙ c.if-holds_any.true)) ∙ take-append-drop 1 c.args.blocks.now)

pub returns : goal.returns
returns c =
    c.pop_front-gone.ensures.rest
    ∙ sym (ap (λ q. q ++ drop 1 c.args.blocks.now) (settle-drops c.args.blocks.now c.in-Some.own.now c.requires c.in-Some.ensures.lookup (sym c.holds_any.ensures ∙ c.if-holds_any.false)))
