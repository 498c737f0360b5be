-- Each turn adds what is chosen of one entry more, as long as there was memory.
use Rattle.std.proofs.Common.{◌≡◌, ◌<◌, ◌++◌, ◌∷◌, ◌||◌, [], Bool, true, false, Result, Ok, Err, is_err, OnOk, get_or, take, length, refl, sym, ap, ◌∙◌, arith, rules}
use Rattle.std.proofs.lemmas.Bool.{false≢true}
use Rattle.std.proofs.lemmas.Grind.{common_steps}
use Rattle.std.proofs.lemmas.List.{append-nil, places}
use Rattle.sv_store.specs.Held.{in_ranges}
use Rattle.sv_store.specs.OwnBlock.{copied, left}
use Rattle.sv_store.proofs.OwnParts.{left-nil, left-more}
use Rattle.sv_store.proofs.own_block.copies_of.Goals as goal

or-false : (a b : Bool) → (a || b) ≡ false → (a ≡ false) × (b ≡ false)
or-false true b h = absurd (false≢true (sym h))
or-false false b h = (refl, h)

from_ok : {T E : Type 0} (r : Result T E) (P : Type 0) → is_err r ≡ false → OnOk r P → P
from_ok (Ok x) P e h = h
from_ok (Err x) P e h = absurd (false≢true (sym e))

pub loop-turned-init : goal.loop-turned-init
loop-turned-init c = record {
  blocks = sym (append-nil c.args.blocks.now);
  last = c.len-turned-end.ensures.value;
  made = λ _. c.new-copies.ensures ∙ sym (left-nil (copied (in_ranges c.args.lines.now)));
}

pub loop-turned-preserved : goal.loop-turned-preserved
loop-turned-preserved c = record {
  blocks = grind (arith, common_steps);
  last = c.loop-turned.invariant.last;
  made = λ whole.
      (let both = or-false c.loop-turned.failed c.is_err-failed.result whole in
      from_ok c.add_copy-added.result _ (sym c.is_err-failed.ensures.value ∙ both.1) c.add_copy-added.ensures
      ∙ (ap (λ q. q ++ left (copied (in_ranges c.args.lines.now)) (c.in-Some.own.now ∷ [])) (c.loop-turned.invariant.made both.0)
      ∙ (ap (λ q. left (copied (in_ranges c.args.lines.now)) (take c.loop-turned._turned c.args.blocks.now) ++ left (copied (in_ranges c.args.lines.now)) (q ∷ [])) own-is
      ∙ sym (left-more (copied (in_ranges c.args.lines.now)) c.args.blocks.now c.loop-turned._turned c.in-Some.own.now below))));
}
  where
    below : c.loop-turned._turned < length c.args.blocks.now
    below = omega (arith, c.loop-turned.invariant.last)

    own-is : c.in-Some.own.now ≡ get_or c.args.blocks.now c.loop-turned._turned c.in-Some.own.now
    own-is = c.in-Some.ensures.lookup ∙ (ap (λ q. get_or q 0 c.in-Some.own.now) c.loop-turned.invariant.blocks ∙ search (rules, places))
