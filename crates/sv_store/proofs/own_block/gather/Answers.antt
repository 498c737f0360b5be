-- Each turn copies the lines of one entry more.
use Rattle.std.proofs.Common.{◌≡◌, ◌<◌, ◌++◌, ◌∷◌, [], ℕ, List, Option, length, get_or, take, sym, ap, ◌∙◌, subst, IfSome, arith, rules}
use Rattle.std.proofs.lemmas.Grind.{common_steps}
use Rattle.std.proofs.lemmas.List.{append-nil, take_more, places}
use Rattle.sv_store.specs.Held.{line_of}
use Rattle.sv_store.specs.OwnBlock.{OwnBlock, held_of}
use Rattle.sv_store.proofs.OwnLaws.{held_of-nil}
use Rattle.sv_store.proofs.OwnSteps.{gather-more}
use Rattle.sv_store.proofs.own_block.gather.Goals as goal

pub loop-turned-init : goal.loop-turned-init
loop-turned-init c = record {
  blocks = sym (append-nil c.args.blocks.now);
  last = c.len-turned-end.ensures.value;
  lines = λ m. (let P : Option (List ℕ) → Type 0 = λ q. IfSome q (λ x. line_of c.args.into.now m ≡ x) in subst P (sym (held_of-nil c.args.b m)) tt);
}

pub loop-turned-preserved : goal.loop-turned-preserved
loop-turned-preserved c = record {
  blocks = grind (arith, common_steps);
  last = c.loop-turned.invariant.last;
  lines = λ m. (let P : List OwnBlock → Type 0 = λ q. IfSome (held_of q c.args.b m) (λ x. line_of c.copy_lines.new.into m ≡ x) in
      subst P (ap (λ q. take c.loop-turned._turned c.args.blocks.now ++ q ∷ []) own-is ∙ sym (take_more c.args.blocks.now c.loop-turned._turned c.in-Some.own.now below))
      (gather-more (take c.loop-turned._turned c.args.blocks.now) c.in-Some.own.now c.args.b c.loop-turned.into c.copy_lines.new.into c.loop-turned.invariant.lines c.copy_lines.ensures m));
}
  where
    below : c.loop-turned._turned < length c.args.blocks.now
    below = omega (arith, c.loop-turned.invariant.last)

    own-is : c.in-Some.own.now ≡ get_or c.args.blocks.now c.loop-turned._turned c.in-Some.own.now
    own-is = c.in-Some.ensures.lookup ∙ (ap (λ q. get_or q 0 c.in-Some.own.now) c.loop-turned.invariant.blocks ∙ search (rules, places))
