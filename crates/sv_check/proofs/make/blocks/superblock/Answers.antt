-- The pieces are put one after the other.
use Rattle.std.proofs.Common.{◌∙◌, ℕ, List, length, ap}
use Rattle.sv_check.specs.Mkfs.{inode_cache}
use Rattle.sv_check.proofs.BlockBytes.{superblock_spelled}
use Rattle.sv_check.proofs.make.blocks.superblock.Goals as goal

pub returns : goal.returns
returns c =
    superblock_spelled c.args.sizes.now c.new-block.ensures c.fill_to.ensures.bytes c.put32.ensures.bytes c.put16.ensures.bytes c.put16-2.ensures.bytes c.put32-2.ensures.bytes c.put16-3.ensures.bytes c.put16-4.ensures.bytes
    c.put_all32.ensures.bytes c.fill_to-2.ensures.bytes c.put_all16.ensures.bytes (c.len.ensures.value ∙ ap (λ (xs : List ℕ). length xs) c.free_cache-free.ensures)
    (c.len-2.ensures.value ∙ ap (λ (xs : List ℕ). length xs) (c.inode_cache-inodes.ensures ∙ ap (λ (k : ℕ). inode_cache k) c.inode_count.ensures))
    (c.as_slice.ensures.value ∙ c.free_cache-free.ensures) (c.as_slice-2.ensures.value ∙ (c.inode_cache-inodes.ensures ∙ ap (λ (k : ℕ). inode_cache k) c.inode_count.ensures))
