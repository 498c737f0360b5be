-- Each block of an image made anew, on its own.
use Rattle.std.proofs.Common.{◌≡◌, ◌<◌, ◌+◌, ◌-◌, ◌*◌, ◌++◌, ◌∙◌, ℕ, List, length, take, drop, refl, ap, subst, arith, append_assoc}
use Rattle.std.specs.List.{flat_map, range_with_len}
use Rattle.std.proofs.Math.Seq.{drop-append_seam, take-append_seam}
use Rattle.std.proofs.lemmas.Grind.{flat_map-append}
use Rattle.sv_form.specs.declared.geometry.Geometry.{Geometry}
use Rattle.sv_form.specs.Image.{block_of}
use Rattle.sv_plain.proofs.PagesPut.{range-append}
use Rattle.sv_check.specs.Mkfs.{made_geometry}
use Rattle.sv_check.specs.MadeBlocks.{made_block, made_blocks}
use Rattle.sv_check.specs.MadeSizes.{HaveTheirBlocks}
use Rattle.sv_check.proofs.MadeLengths.{block_length, blocks_length}
use Rattle.sv_check.proofs.MakingSteps.{blocks_more}

-- a part between two others
pub between : (n m : ℕ) (start part rest : List ℕ) → length start ≡ n → length part ≡ m → take m (drop n (start ++ (part ++ rest))) ≡ part
between n m start part rest before long =
    let dropped : drop n (start ++ (part ++ rest)) ≡ part ++ rest = subst (λ (k : ℕ). drop k (start ++ (part ++ rest)) ≡ part ++ rest) before (drop-append_seam start (part ++ rest)) in
    ap (λ (q : List ℕ). take m q) dropped ∙ subst (λ (k : ℕ). take k (part ++ rest) ≡ part) long (take-append_seam part rest)

blocks_split : (g : Geometry) (n b : ℕ) → b < n → made_blocks g n ≡ made_blocks g b ++ (made_block g b ++ flat_map (made_block g) (range_with_len (b + 1) (n - (b + 1))))
blocks_split g n b low =
    let count : n ≡ b + 1 + (n - (b + 1)) = omega arith in
    let at : 0 + (b + 1) ≡ b + 1 = omega arith in
    let last : List ℕ = flat_map (made_block g) (range_with_len (b + 1) (n - (b + 1))) in
    ap (λ (k : ℕ). made_blocks g k) count
    ∙ (ap (λ (q : List ℕ). flat_map (made_block g) q) (range-append 0 (b + 1) (n - (b + 1)))
    ∙ (flat_map-append (made_block g) (range_with_len 0 (b + 1)) (range_with_len (0 + (b + 1)) (n - (b + 1)))
    ∙ (ap (λ (k : ℕ). made_blocks g (b + 1) ++ flat_map (made_block g) (range_with_len k (n - (b + 1)))) at
    ∙ (ap (λ (q : List ℕ). q ++ last) (blocks_more g b) ∙ append_assoc (made_blocks g b) (made_block g b) last))))

pub block_is : (g : Geometry) (n b : ℕ) → g.block_size ≡ 1024 → b < n → block_of g (made_blocks g n) b ≡ made_block g b
unfolding block_of
block_is g n b size low =
    let width : b * g.block_size + g.block_size - b * g.block_size ≡ 1024 = omega (arith, size) in
    let place : b * g.block_size ≡ b * 1024 = ap (λ (k : ℕ). b * k) size in
    ap (λ (k : ℕ). take k (drop (b * g.block_size) (made_blocks g n))) width
    ∙ (ap (λ (k : ℕ). take 1024 (drop k (made_blocks g n))) place
    ∙ (ap (λ (q : List ℕ). take 1024 (drop (b * 1024) q)) (blocks_split g n b low)
    ∙ between (b * 1024) 1024 (made_blocks g b) (made_block g b) (flat_map (made_block g) (range_with_len (b + 1) (n - (b + 1)))) (blocks_length g 0 b) (block_length g b)))

pub have_blocks : HaveTheirBlocks
have_blocks blocks inodes b low = block_is (made_geometry blocks inodes) blocks b refl low
