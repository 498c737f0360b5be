-- Each turn copies the lines of one entry more.
use Rattle.std.proofs.Common.{◌≡◌, ◌<◌, ◌*◌, ◌++◌, ◌∷◌, [], ℕ, List, Option, length, get_or, take, sym, ap, ◌∙◌, subst, IfSome, arith, rules}
use Rattle.std.proofs.lemmas.Grind.{common_steps}
use Rattle.std.proofs.lemmas.List.{append-nil, take_more, places}
use Rattle.std.proofs.lemmas.List.Elements.{All-get_or}
use Rattle.sv_store.specs.Held.{line_of}
use Rattle.sv_store.specs.Content.{block_bytes}
use Rattle.sv_store.specs.OwnBlock.{OwnBlock, held_of}
use Rattle.sv_store.proofs.OwnLaws.{held_of-nil}
use Rattle.sv_store.proofs.OwnSteps.{gather-more}
use Rattle.sv_store.proofs.own_block.copy_all.Goals as goal

pub loop-turned-init : goal.loop-turned-init
loop-turned-init c = record {
  blocks = sym (append-nil c.args.blocks.now);
  last = c.len-turned-end.ensures.value;
  count = c.requires.count;
  bytes = c.requires.bytes;
  lines = λ b m. (let P : Option (List ℕ) → Type 0 = λ q. IfSome q (λ x. line_of (block_bytes c.args.content.now b) m ≡ x) in subst P (sym (held_of-nil b m)) tt);
}

pub copy_out-requires-clause-place : goal.copy_out-requires-clause-place
copy_out-requires-clause-place c = omega (arith, low, c.loop-turned.invariant.count)
  where
    below : c.loop-turned._turned < length c.args.blocks.now
    below = omega (arith, c.loop-turned.invariant.last)

    own-is : c.in-Some.own.now ≡ get_or c.args.blocks.now c.loop-turned._turned c.in-Some.own.now
    own-is = c.in-Some.ensures.lookup ∙ (ap (λ q. get_or q 0 c.in-Some.own.now) c.loop-turned.invariant.blocks ∙ search (rules, places))

    low : c.in-Some.own.now.block < c.args.sizes.blocks
    low = let P : OwnBlock → Type 0 = λ e. e.block < c.args.sizes.blocks in subst P (sym own-is) (All-get_or P c.args.blocks.now c.loop-turned._turned c.in-Some.own.now below c.requires.sound.block)

pub copy_out-requires-clause-kept : goal.copy_out-requires-clause-kept
copy_out-requires-clause-kept c = size ∙ sym (c.loop-turned.invariant.bytes c.in-Some.own.now.block low)
  where
    below : c.loop-turned._turned < length c.args.blocks.now
    below = omega (arith, c.loop-turned.invariant.last)

    own-is : c.in-Some.own.now ≡ get_or c.args.blocks.now c.loop-turned._turned c.in-Some.own.now
    own-is = c.in-Some.ensures.lookup ∙ (ap (λ q. get_or q 0 c.in-Some.own.now) c.loop-turned.invariant.blocks ∙ search (rules, places))

    low : c.in-Some.own.now.block < c.args.sizes.blocks
    low = let P : OwnBlock → Type 0 = λ e. e.block < c.args.sizes.blocks in subst P (sym own-is) (All-get_or P c.args.blocks.now c.loop-turned._turned c.in-Some.own.now below c.requires.sound.block)

    size : length c.in-Some.own.now.kept ≡ c.args.sizes.block_size
    size = let P : OwnBlock → Type 0 = λ e. length e.kept ≡ c.args.sizes.block_size in subst P (sym own-is) (All-get_or P c.args.blocks.now c.loop-turned._turned c.in-Some.own.now below c.requires.sound.kept)

pub copy_out-requires-clause-lines : goal.copy_out-requires-clause-lines
copy_out-requires-clause-lines c = size ∙ sym (c.loop-turned.invariant.bytes c.in-Some.own.now.block low)
  where
    below : c.loop-turned._turned < length c.args.blocks.now
    below = omega (arith, c.loop-turned.invariant.last)

    own-is : c.in-Some.own.now ≡ get_or c.args.blocks.now c.loop-turned._turned c.in-Some.own.now
    own-is = c.in-Some.ensures.lookup ∙ (ap (λ q. get_or q 0 c.in-Some.own.now) c.loop-turned.invariant.blocks ∙ search (rules, places))

    low : c.in-Some.own.now.block < c.args.sizes.blocks
    low = let P : OwnBlock → Type 0 = λ e. e.block < c.args.sizes.blocks in subst P (sym own-is) (All-get_or P c.args.blocks.now c.loop-turned._turned c.in-Some.own.now below c.requires.sound.block)

    size : length c.in-Some.own.now.lines * 64 ≡ c.args.sizes.block_size
    size = let P : OwnBlock → Type 0 = λ e. length e.lines * 64 ≡ c.args.sizes.block_size in subst P (sym own-is) (All-get_or P c.args.blocks.now c.loop-turned._turned c.in-Some.own.now below c.requires.sound.lines)

pub loop-turned-preserved : goal.loop-turned-preserved
loop-turned-preserved c = record {
  blocks = grind (arith, common_steps);
  last = c.loop-turned.invariant.last;
  count = c.copy_out.ensures.count ∙ c.loop-turned.invariant.count;
  bytes = λ b low. c.copy_out.ensures.sizes b ∙ c.loop-turned.invariant.bytes b low;
  lines = λ b m. (let P : List OwnBlock → Type 0 = λ q. IfSome (held_of q b m) (λ x. line_of (block_bytes c.copy_out.new.content b) m ≡ x) in
      subst P (ap (λ q. take c.loop-turned._turned c.args.blocks.now ++ q ∷ []) own-is ∙ sym (take_more c.args.blocks.now c.loop-turned._turned c.in-Some.own.now below))
      (gather-more (take c.loop-turned._turned c.args.blocks.now) c.in-Some.own.now b (block_bytes c.loop-turned.content b) (block_bytes c.copy_out.new.content b) (c.loop-turned.invariant.lines b) (c.copy_out.ensures.lines b) m));
}
  where
    below : c.loop-turned._turned < length c.args.blocks.now
    below = omega (arith, c.loop-turned.invariant.last)

    own-is : c.in-Some.own.now ≡ get_or c.args.blocks.now c.loop-turned._turned c.in-Some.own.now
    own-is = c.in-Some.ensures.lookup ∙ (ap (λ q. get_or q 0 c.in-Some.own.now) c.loop-turned.invariant.blocks ∙ search (rules, places))
