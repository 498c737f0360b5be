-- The lists of free blocks in an image made anew: the superblock has the last of them, and each link block its own.
use Rattle.std.proofs.Common.{◌≡◌, ◌≤◌, ◌<◌, ◌+◌, ◌-◌, ◌*◌, ◌%◌, ◌/◌, ◌++◌, ◌∙◌, ℕ, zero, suc, true, List, [], take, length, get_or, slice_index, replicate, refl, sym, ap, subst, arith}
use Rattle.std.specs.List.{flat_map}
use Rattle.std.proofs.Math.Seq.{take-append_seam}
use Rattle.std.proofs.lemmas.List.{append-nil}
use Rattle.sv_form.specs.declared.geometry.Geometry.{Geometry}
use Rattle.sv_form.specs.declared.link_block.LinkBlock.{LinkBlock}
use Rattle.sv_form.specs.Geometry.{inode_count}
use Rattle.sv_form.specs.Image.{block_of}
use Rattle.sv_form.specs.LinkBlock.{AreBlocks, IsLinkBlock}
use Rattle.sv_form.specs.Number.{number32}
use Rattle.sv_check.specs.Chain.{free_list, list_in, reads_list}
use Rattle.sv_check.specs.Mkfs as mkfs
use Rattle.sv_check.specs.MadeBlocks.{filled_to, link_block_bytes, little16, little32, made_blocks}
use Rattle.sv_check.proofs.BlockBytes.{link_is}
use Rattle.sv_check.proofs.ChainStart.{free_list-read}
use Rattle.sv_check.proofs.ListReads.{list_of, spelled_list}
use Rattle.sv_check.proofs.MadeLengths.{list_length}
use Rattle.sv_check.proofs.MadeParts.{block_is}
use Rattle.sv_check.proofs.MadeSized.{spelled_in}
use Rattle.sv_check.proofs.MadeSuper.{super_of}
use Rattle.sv_check.proofs.SpelledNumbers.{behind32, length32, list32}

-- ---- numbers down to one

down_some : (least n k : ℕ) → k < n → least ≤ get_or (mkfs.down_to least n) k 0
down_some least zero k low = absurd (omega (arith, low))
down_some least (suc n) zero low = omega arith
down_some least (suc n) (suc k) low = down_some least n k (omega (arith, low))

-- the numbers of a link block's list, but its link, are past that block
list_blocks : (blocks b : ℕ) → AreBlocks (mkfs.list_in blocks b)
list_blocks blocks b zero some low none = omega (arith, some)
list_blocks blocks b (suc k) some low none =
    let past : b + 1 ≤ get_or (mkfs.down_to (b + 1) (b + 50 - (b + 1))) k 0 = down_some (b + 1) (b + 50 - (b + 1)) k (omega (arith, low, list_length blocks b)) in
    omega (arith, past, none)

-- ---- a link block reads as its list

abbrev of_list : List ℕ → LinkBlock
of_list list = record { numbers = record { items = list } }

link_length : (list : List ℕ) → length list ≡ 50 → length (link_block_bytes list) ≡ 204
unfolding link_block_bytes
link_length list long = omega (arith, length32 list, long)

table_reads : (list : List ℕ) (k : ℕ) → length list ≡ 50 → k < 50 → number32 (link_block_bytes list) (4 + 4 * k) ≡ slice_index list k
unfolding link_block_bytes
table_reads list k long low =
    behind32 (little16 (length list) ++ little16 0) (flat_map little32 list) 4 (4 + 4 * k) (4 * k) refl refl
    ∙ (ap (λ (q : List ℕ). number32 q (4 * k)) (sym (append-nil (flat_map little32 list)))
    ∙ list32 list [] 50 k low (λ j h. absurd (omega (arith, h, long))))

zero_reads : (list : List ℕ) (k : ℕ) → 2 ≤ k → k < 4 → slice_index (link_block_bytes list) k ≡ 0
unfolding link_block_bytes
zero_reads list zero low high = absurd (omega (arith, low))
zero_reads list (suc zero) low high = absurd (omega (arith, low))
zero_reads list (suc (suc zero)) low high = refl
zero_reads list (suc (suc (suc zero))) low high = refl
zero_reads list (suc (suc (suc (suc k)))) low high = absurd (omega (arith, high))

count_reads : (list : List ℕ) → slice_index (link_block_bytes list) 0 + 256 * slice_index (link_block_bytes list) 1 ≡ length list
unfolding link_block_bytes
count_reads list = let e : length list % 256 + 256 * (length list / 256) ≡ length list = omega arith in e

spells_list : (list : List ℕ) → length list ≡ 50 → AreBlocks list → IsLinkBlock (link_block_bytes list) (of_list list)
spells_list list long blocks = record {
  size = link_length list long;
  numbers = record { count = count_reads list; some = omega (arith, long); fits = omega (arith, long); table = λ k low. table_reads list k long low };
  zero = zero_reads list;
  blocks = blocks;
}

front_is : (list : List ℕ) → length list ≡ 50 → take 204 (filled_to 1024 (link_block_bytes list)) ≡ link_block_bytes list
front_is list long =
    subst (λ (k : ℕ). take k (filled_to 1024 (link_block_bytes list)) ≡ link_block_bytes list) (link_length list long)
    (take-append_seam (link_block_bytes list) (replicate (1024 - length (link_block_bytes list)) 0))

reads_back : (list block : List ℕ) → length list ≡ 50 → AreBlocks list → block ≡ filled_to 1024 (link_block_bytes list) → IsLinkBlock (take 204 block) (of_list list)
reads_back list block long blocks is =
    subst (λ (q : List ℕ). IsLinkBlock q (of_list list)) (sym (ap (λ (q : List ℕ). take 204 q) is ∙ front_is list long)) (spells_list list long blocks)

-- block b of the image reads as its list
pub record HasList (g : Geometry) (image : List ℕ) (b : ℕ) : Type 0 where
  pub reads : reads_list (block_of g image b) ≡ true
  pub list : list_in (block_of g image b) ≡ mkfs.list_in g.blocks b

pub has_list : (g : Geometry) (n b : ℕ) → g.block_size ≡ 1024 → 3 ≤ g.first_data → g.first_data < b → b < n → (g.blocks - b) % 50 ≡ 0 → HasList g (made_blocks g n) b
has_list g n b size first behind low last =
    let block : List ℕ = block_of g (made_blocks g n) b in
    let is : block ≡ filled_to 1024 (link_block_bytes (mkfs.list_in g.blocks b)) =
    block_is g n b size low ∙ ap (λ (q : List ℕ). filled_to 1024 q) (link_is g b (omega (arith, behind)) (omega (arith, first, behind)) (omega (arith, behind)) (omega (arith, behind)) last) in
    let spelled : IsLinkBlock (take 204 block) (of_list (mkfs.list_in g.blocks b)) = reads_back (mkfs.list_in g.blocks b) block (list_length g.blocks b) (list_blocks g.blocks b) is in
    record { reads = spelled_list block (of_list (mkfs.list_in g.blocks b)) spelled; list = sym (list_of block (of_list (mkfs.list_in g.blocks b)) spelled) }

-- the list in the superblock
pub first_list : (g : Geometry) (n m : ℕ) → m ≡ suc n → free_list (made_blocks g m) ≡ mkfs.free_cache g
unfolding super_of
first_list g n m is = free_list-read (made_blocks g m) (super_of g.first_data g.blocks (mkfs.free_cache g) (mkfs.inode_cache (inode_count g))) (spelled_in g n m is)
