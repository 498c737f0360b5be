-- The first three conditions of a sound image hold of an image made anew.
use Rattle.std.proofs.Common.{◌≡◌, ◌-◌, ◌*◌, ◌++◌, ◌∙◌, ℕ, suc, List, [], length, take, drop, replicate, refl, sym, ap, subst, arith, append_assoc}
use Rattle.std.specs.List.{flat_map, range_with_len}
use Rattle.sv_form.specs.declared.geometry.Geometry.{Geometry}
use Rattle.sv_form.specs.declared.superblock.Super.{Super}
use Rattle.sv_form.specs.Geometry.{IsGeometry, inode_count}
use Rattle.sv_form.specs.Image.{geometry_of, superblock_of}
use Rattle.sv_form.specs.Superblock.{IsSuper}
use Rattle.sv_form.proofs.Images.{geometry_of-spelled}
use Rattle.sv_check.specs.Mkfs.{CanBeMade, free_cache, inode_cache, made_geometry}
use Rattle.sv_check.specs.MadeBlocks.{filled_to, head_bytes, little16, little32, made_block, made_blocks, made_image, superblock_bytes}
use Rattle.sv_check.specs.MadeSizes.{HaveTheirSizes}
use Rattle.sv_check.proofs.BlockBytes.{first_is}
use Rattle.sv_check.proofs.MadeLengths.{blocks_length, cache_length, cache_some, inodes_length, pieces, start_length}
use Rattle.sv_check.proofs.MadeParts.{between}
use Rattle.sv_check.proofs.MadeSuper.{front_of, super_of, whole_is_super, whole_length, whole_of}
use Rattle.sv_check.proofs.SpelledNumbers.{length16, length32}

regroup : (start head free zeros inodes last rest : List ℕ) → ((start ++ head ++ free ++ zeros) ++ inodes ++ last) ++ rest ≡ start ++ ((head ++ ((free ++ zeros) ++ (inodes ++ last))) ++ rest)
regroup start head free zeros inodes last rest = simp append_assoc refl

whole_super : Geometry → List ℕ
whole_super g = whole_of g.first_data g.blocks (free_cache g) (inode_cache (inode_count g))

front_blocks : (g : Geometry) (n : ℕ) → (rest : List ℕ) × (made_blocks g (suc n) ≡ filled_to 512 [] ++ (whole_super g ++ rest))
unfolding whole_super whole_of front_of superblock_bytes
front_blocks g n =
    let rest : List ℕ = flat_map (made_block g) (range_with_len 1 n) in
    let free : List ℕ = flat_map little32 (free_cache g) in
    let inodes : List ℕ = flat_map little16 (inode_cache (inode_count g)) in
    let f : ℕ = length (free_cache g) in
    let i : ℕ = length (inode_cache (inode_count g)) in
    let first : filled_to 1024 (superblock_bytes g) ≡ (filled_to 512 [] ++ head_bytes g ++ free ++ replicate (200 - 4 * f) 0) ++ inodes ++ replicate (296 - 2 * i) 0 =
    pieces (filled_to 512 []) (head_bytes g) free inodes f i start_length refl (length32 (free_cache g)) (length16 (inode_cache (inode_count g))) (cache_length g) (inodes_length (inode_count g)) in (
      rest,
      ap (λ (q : List ℕ). filled_to 1024 q ++ rest) (first_is g 0 refl) ∙ (ap (λ (q : List ℕ). q ++ rest) first
          ∙ regroup (filled_to 512 []) (head_bytes g) free (replicate (200 - 4 * f) 0) inodes (replicate (296 - 2 * i) 0) rest),
    )

super_is : (g : Geometry) (n : ℕ) → superblock_of (made_blocks g (suc n)) ≡ whole_super g
unfolding superblock_of whole_super
super_is g n =
    let front = front_blocks g n in
    ap (λ (q : List ℕ). take 512 (drop 512 q)) front.1
    ∙ between 512 512 (filled_to 512 []) (whole_super g) front.0 start_length (whole_length g.first_data g.blocks (free_cache g) (inode_cache (inode_count g)) (cache_length g) (inodes_length (inode_count g)))

pub spelled_in : (g : Geometry) (n m : ℕ) → m ≡ suc n → IsSuper (superblock_of (made_blocks g m)) (super_of g.first_data g.blocks (free_cache g) (inode_cache (inode_count g)))
unfolding whole_super
spelled_in g n m is =
    let s : Super = super_of g.first_data g.blocks (free_cache g) (inode_cache (inode_count g)) in
    subst (λ (k : ℕ). IsSuper (superblock_of (made_blocks g k)) s) (sym is)
    (subst (λ (q : List ℕ). IsSuper q s) (sym (super_is g n))
    (whole_is_super g.first_data g.blocks (free_cache g) (inode_cache (inode_count g)) (cache_some g) (cache_length g) (inodes_length (inode_count g))))

fits : (blocks inodes : ℕ) → CanBeMade blocks inodes → IsGeometry (made_geometry blocks inodes)
fits blocks inodes made = record {
  block_size = refl;
  least_blocks = made.least_blocks;
  most_blocks = made.most_blocks;
  least_first = omega (arith, made.least_inodes);
  most_first = omega (arith, made.most_inodes);
  some_data = made.some_data;
}

pub have_sizes : HaveTheirSizes
unfolding super_of
have_sizes blocks inodes made =
    let g : Geometry = made_geometry blocks inodes in
    let s : Super = super_of g.first_data g.blocks (free_cache g) (inode_cache (inode_count g)) in
    let spelled : IsSuper (superblock_of (made_image blocks inodes)) s = spelled_in g (blocks - 1) blocks (omega (arith, made.least_blocks)) in
    let same : geometry_of (made_image blocks inodes) ≡ g = geometry_of-spelled (made_image blocks inodes) s spelled in
    let long : length (made_image blocks inodes) ≡ blocks * 1024 = blocks_length g 0 blocks in (
      record {
        magic = record { long = omega (arith, long, made.least_blocks); magic = spelled.magic };
        type = record { type = spelled.block_type };
        sizes = record {
          reads = (s, spelled);
          bounds = subst (λ (q : Geometry). IsGeometry q) (sym same) (fits blocks inodes made);
          length = subst (λ (q : Geometry). length (made_image blocks inodes) ≡ q.blocks * q.block_size) (sym same) long;
        };
      },
      same,
    )
