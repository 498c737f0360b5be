-- Each turn adds whether one line more is chosen.
use Rattle.std.proofs.Common.{◌&&◌, ◌++◌, ◌∷◌, [], false, get_or, take, sym, ap, ◌∙◌}
use Rattle.sv_store.specs.Held.{in_ranges}
use Rattle.sv_store.specs.OwnBlock.{masked_lines}
use Rattle.sv_store.proofs.OwnParts.{masked_lines-more}
use Rattle.sv_store.proofs.own_block.chosen_lines.Goals as goal

pub loop-l-init : goal.loop-l-init
unfolding masked_lines
loop-l-init c = c.new-chosen.ensures.items

pub loop-l-preserved : goal.loop-l-preserved
loop-l-preserved c =
    c.in_ok-push.ensures.items
    ∙ (ap (λ q. q ++ (get_or c.args.held.now c.loop-l.l false && c.is_in-inside.result) ∷ []) c.loop-l.invariant
    ∙ (ap (λ q. masked_lines (in_ranges c.args.lines.now c.args.b) 0 (take c.loop-l.l c.args.held.now) ++ (get_or c.args.held.now c.loop-l.l false && q) ∷ []) c.is_in-inside.ensures
    ∙ sym (masked_lines-more (in_ranges c.args.lines.now c.args.b) c.args.held.now c.loop-l.l c.loop-l-test.true)))
