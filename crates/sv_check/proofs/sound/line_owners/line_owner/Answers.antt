use Rattle.std.proofs.Common.{◌≡◌, ◌≤◌, ◌<◌, ◌+◌, ◌-◌, ◌*◌, ◌/◌, ◌⊎◌, ◌∙◌, ℕ, false, get_or, slice_index, inl, inr, ap, sym, arith}
use Rattle.sv_check.specs.BlockOwners.{block_owner, place_of}
use Rattle.sv_check.proofs.OwnedLines.{of_block, of_free, of_used}
use Rattle.sv_check.proofs.sound.line_owners.line_owner.Goals as goal
use Rattle.sv_check.proofs.sound.line_owners.line_owner.Goals.{then-block-lt-FIRST_INODES-via-then-block-lt-FIRST_INODES, then-block-lt-FIRST_INODES-via-else-block-lt-FIRST_INODES+then-sizes-block}

pub returns-then-block-lt-FIRST_INODES : goal.returns-then-block-lt-FIRST_INODES
returns-then-block-lt-FIRST_INODES c = λ image used owners none.
    let same : c.args.line / c.block_lines-lines.result ≡ (place_of c.args.sizes.now c.args.line).block = ap (λ (s : ℕ). c.args.line / s) c.block_lines-lines.ensures in
    let is : slice_index c.args.owners.now (c.args.line / c.block_lines-lines.result) ≡ block_owner c.args.sizes.now image (place_of c.args.sizes.now c.args.line).block =
    owners (c.args.line / c.block_lines-lines.result) ∙ ap (block_owner c.args.sizes.now image) same in
    let out : ((place_of c.args.sizes.now c.args.line).block < 2) ⊎ (c.args.sizes.now.first_data ≤ (place_of c.args.sizes.now c.args.line).block) =
    elim c.then-block-lt-FIRST_INODES.branch as (λ _. ((place_of c.args.sizes.now c.args.line).block < 2) ⊎ (c.args.sizes.now.first_data ≤ (place_of c.args.sizes.now c.args.line).block)) [
      | then-block-lt-FIRST_INODES-via-then-block-lt-FIRST_INODES w ↦ inl (omega (arith, same, w.if-block-lt-FIRST_INODES.true))
      | then-block-lt-FIRST_INODES-via-else-block-lt-FIRST_INODES+then-sizes-block w ↦ inr (omega (arith, same, w.if-sizes-block.true))
    ] in
    of_block c.args.sizes.now image c.requires.sizes none c.args.line _ out is

pub returns-then-used-before : goal.returns-then-used-before
returns-then-used-before c = λ image used owners none.
    let same : c.args.line / c.block_lines-lines.result ≡ (place_of c.args.sizes.now c.args.line).block = ap (λ (s : ℕ). c.args.line / s) c.block_lines-lines.ensures in
    let lines : c.block_lines-lines.result ≡ 16 = c.block_lines-lines.ensures ∙ ap (λ (s : ℕ). s / 64) c.requires.sizes.block_size in
    let before : c.args.line - 2 * c.block_lines-lines.result ≡ c.args.line - 32 = ap (λ (s : ℕ). c.args.line - 2 * s) lines in
    of_used c.args.sizes.now image c.requires.sizes none c.args.line (omega (arith, same, c.if-block-lt-FIRST_INODES.false)) (omega (arith, same, c.if-sizes-block.false)) c.args.used.now false _ used
    (ap (λ (k : ℕ). get_or c.args.used.now k false) (sym before) ∙ c.if-used-before.true) (ap (λ (k : ℕ). k + 1) before)

pub returns : goal.returns
returns c = λ image used owners none.
    let same : c.args.line / c.block_lines-lines.result ≡ (place_of c.args.sizes.now c.args.line).block = ap (λ (s : ℕ). c.args.line / s) c.block_lines-lines.ensures in
    let lines : c.block_lines-lines.result ≡ 16 = c.block_lines-lines.ensures ∙ ap (λ (s : ℕ). s / 64) c.requires.sizes.block_size in
    let before : c.args.line - 2 * c.block_lines-lines.result ≡ c.args.line - 32 = ap (λ (s : ℕ). c.args.line - 2 * s) lines in
    of_free c.args.sizes.now image c.requires.sizes none c.args.line (omega (arith, same, c.if-block-lt-FIRST_INODES.false)) (omega (arith, same, c.if-sizes-block.false)) c.args.used.now false used
    (ap (λ (k : ℕ). get_or c.args.used.now k false) (sym before) ∙ c.if-used-before.false)
