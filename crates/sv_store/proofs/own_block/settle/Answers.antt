-- The first entry stays where it holds a line.
use Rattle.std.proofs.Common.{◌++◌, drop, sym, ap, ◌∙◌}
use Rattle.std.proofs.lemmas.List.{append-nil}
use Rattle.sv_store.proofs.OwnParts.{settle-keeps, settle-drops}
use Rattle.sv_store.proofs.own_block.settle.Goals as goal

pub returns-then-holds_any : goal.returns-then-holds_any
returns-then-holds_any c =
    c.turn.ensures
    ∙ ap (λ q. drop 1 c.args.blocks.now ++ q) (sym (settle-keeps c.args.blocks.now c.in-Some.own.now c.requires c.in-Some.ensures.lookup (sym c.holds_any.ensures ∙ c.if-holds_any.true)))

pub returns-else-holds_any : goal.returns-else-holds_any
returns-else-holds_any c =
    c.pop_front-gone.ensures.rest
    ∙ (sym (append-nil (drop 1 c.args.blocks.now))
    ∙ ap (λ q. drop 1 c.args.blocks.now ++ q) (sym (settle-drops c.args.blocks.now c.in-Some.own.now c.requires c.in-Some.ensures.lookup (sym c.holds_any.ensures ∙ c.if-holds_any.false))))
