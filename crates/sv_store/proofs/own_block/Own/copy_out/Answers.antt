-- One block's bytes change, where its lines are held.
use Rattle.std.proofs.Common.{◌≡◌, ◌<◌, ℕ, length, get_or, unwrap_or, sym, ap, ◌∙◌, subst}
use Rattle.std.specs.Vec.{with_items}
use Rattle.sv_store.specs.Held.{line_of}
use Rattle.sv_store.specs.OwnBlock.{OwnBlock, line_in}
use Rattle.sv_store.specs.Content.{block_bytes}
use Rattle.sv_store.proofs.OwnContent.{block-at, copied-sizes, copied-lines, written}
use Rattle.sv_store.proofs.own_block.Own.copy_out.Goals as goal

pub copy_lines-requires-clause-kept : goal.copy_lines-requires-clause-kept
copy_lines-requires-clause-kept c =
    c.requires.kept
    ∙ (ap (λ q. length (block_bytes c.args.content.now q)) at
    ∙ (ap length (block-at c.args.content.now c.self.inside.block c.index-content-at.result below) ∙ sym (ap length c.as_mut_slice.ensures.value)))
  where
    at : c.args.self.now.block ≡ c.self.inside.block
    at = sym (ap (λ q. q.block) c.self.view_is)

    below : c.self.inside.block < length c.args.content.now
    below = let P : ℕ → Type 0 = λ q. q < length c.args.content.now in subst P at c.requires.place

pub copy_lines-requires-clause-lines : goal.copy_lines-requires-clause-lines
copy_lines-requires-clause-lines c =
    c.requires.lines
    ∙ (ap (λ q. length (block_bytes c.args.content.now q)) at
    ∙ (ap length (block-at c.args.content.now c.self.inside.block c.index-content-at.result below) ∙ sym (ap length c.as_mut_slice.ensures.value)))
  where
    at : c.args.self.now.block ≡ c.self.inside.block
    at = sym (ap (λ q. q.block) c.self.view_is)

    below : c.self.inside.block < length c.args.content.now
    below = let P : ℕ → Type 0 = λ q. q < length c.args.content.now in subst P at c.requires.place

pub returns-clause-sizes : goal.returns-clause-sizes
returns-clause-sizes c = copied-sizes c.args.content.now c.index-content-at.result (with_items (get_or c.args.content.now c.self.inside.block c.index-content-at.result) c.copy_lines.new.into) c.self.inside.block below (ap length (written (get_or c.args.content.now c.self.inside.block c.index-content-at.result) c.copy_lines.new.into same) ∙ same)
  where
    at : c.args.self.now.block ≡ c.self.inside.block
    at = sym (ap (λ q. q.block) c.self.view_is)

    below : c.self.inside.block < length c.args.content.now
    below = let P : ℕ → Type 0 = λ q. q < length c.args.content.now in subst P at c.requires.place

    same : length c.copy_lines.new.into ≡ length (get_or c.args.content.now c.self.inside.block c.index-content-at.result).items
    same = c.copy_lines.auto.into ∙ ap length c.as_mut_slice.ensures.value

pub returns-clause-lines : goal.returns-clause-lines
returns-clause-lines c =
    copied-lines c.args.self.now c.args.content.now c.index-content-at.result (with_items (get_or c.args.content.now c.self.inside.block c.index-content-at.result) c.copy_lines.new.into) c.self.inside.block at below (λ l. ap (λ q. line_of q l) (written (get_or c.args.content.now c.self.inside.block c.index-content-at.result) c.copy_lines.new.into same) ∙ lines l)
  where
    at : c.args.self.now.block ≡ c.self.inside.block
    at = sym (ap (λ q. q.block) c.self.view_is)

    below : c.self.inside.block < length c.args.content.now
    below = let P : ℕ → Type 0 = λ q. q < length c.args.content.now in subst P at c.requires.place

    lines : (l : ℕ) → line_of c.copy_lines.new.into l ≡ unwrap_or (line_in c.args.self.now c.self.inside.block l) (line_of (get_or c.args.content.now c.self.inside.block c.index-content-at.result).items l)
    lines l = c.copy_lines.ensures l ∙ ap (λ q. unwrap_or (line_in c.args.self.now c.self.inside.block l) (line_of q l)) c.as_mut_slice.ensures.value

    same : length c.copy_lines.new.into ≡ length (get_or c.args.content.now c.self.inside.block c.index-content-at.result).items
    same = c.copy_lines.auto.into ∙ ap length c.as_mut_slice.ensures.value
