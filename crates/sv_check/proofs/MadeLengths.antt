-- How long the blocks of an image made anew are.
use Rattle.std.proofs.Common.{◌≡◌, ◌≤◌, ◌+◌, ◌-◌, ◌*◌, ◌%◌, ◌++◌, ◌∙◌, min, ℕ, zero, suc, List, [], length, replicate, refl, inl, inr, sym, ap, subst, arith, length-append}
use Rattle.std.specs.List.{flat_map, range_with_len}
use Rattle.std.proofs.lemmas.Bool.{cases_eq, cases_lt}
use Rattle.std.proofs.lemmas.List.{length-replicate}
use Rattle.sv_form.specs.declared.geometry.Geometry.{Geometry}
use Rattle.sv_form.specs.Geometry.{inode_count}
use Rattle.sv_check.specs.Mkfs.{down_to, free_cache, inode_cache, list_in}
use Rattle.sv_check.specs.MadeBlocks.{block_content, filled_to, head_bytes, link_block_bytes, little16, little32, made_block, root_inode_bytes, root_page_bytes, superblock_bytes}
use Rattle.sv_check.proofs.BlockBytes.{before_is, first_is, free_is, inodes_are, link_is, root_is}
use Rattle.sv_check.proofs.SpelledNumbers.{length16, length32}

down_length : (least n : ℕ) → length (down_to least n) ≡ n
down_length least zero = refl
down_length least (suc n) = let e : length (down_to least n) ≡ n = down_length least n in omega arith

pub list_length : (blocks b : ℕ) → length (list_in blocks b) ≡ 50
list_length blocks b = let e : length (down_to (b + 1) (b + 50 - (b + 1))) ≡ b + 50 - (b + 1) = down_length (b + 1) (b + 50 - (b + 1)) in omega (arith, e)

pub cache_some : (g : Geometry) → 1 ≤ length (free_cache g)
cache_some g = omega arith

pub cache_length : (g : Geometry) → length (free_cache g) ≤ 50
cache_length g =
    let n : ℕ = (g.blocks - (g.first_data + 1)) % 50 in
    let e : length (down_to (g.first_data + 1) (g.first_data + 1 + n - (g.first_data + 1))) ≡ g.first_data + 1 + n - (g.first_data + 1) = down_length (g.first_data + 1) (g.first_data + 1 + n - (g.first_data + 1)) in
    omega (arith, e)

pub inodes_length : (count : ℕ) → length (inode_cache count) ≤ 100
inodes_length count = omega (arith, down_length 3 (min 100 (count - 2)))

-- zero bytes up to a place make the bytes as long
filled_length : (place : ℕ) (bytes : List ℕ) → length bytes ≤ place → length (filled_to place bytes) ≡ place
filled_length place bytes fits =
    let zeros : List ℕ = replicate (place - length bytes) 0 in
    let many : length zeros ≡ place - length bytes = length-replicate (place - length bytes) 0 in
    let sum : length bytes + length zeros ≡ place = omega (arith, many) in
    length-append bytes zeros ∙ sum

-- the pieces of block 0, with zero bytes behind each of the two caches
pub pieces : (start head free inodes : List ℕ) (f i : ℕ) → length start ≡ 512 → length head ≡ 16 → length free ≡ 4 * f → length inodes ≡ 2 * i → f ≤ 50 → i ≤ 100
    → filled_to 1024 (filled_to 728 (start ++ head ++ free) ++ inodes) ≡ (start ++ head ++ free ++ replicate (200 - 4 * f) 0) ++ inodes ++ replicate (296 - 2 * i) 0
pieces start head free inodes f i e0 e1 e2 e3 some few =
    let front : length (start ++ head ++ free) ≡ 528 + 4 * f = length-append (start ++ head) free ∙ (let e : length (start ++ head) ≡ length start + length head = length-append start head in omega (arith, e, e0, e1, e2)) in
    let filled : 728 - length (start ++ head ++ free) ≡ 200 - 4 * f = omega (arith, front) in
    let inner : filled_to 728 (start ++ head ++ free) ≡ start ++ head ++ free ++ replicate (200 - 4 * f) 0 = ap (λ (n : ℕ). start ++ head ++ free ++ replicate n 0) filled in
    let whole : length (filled_to 728 (start ++ head ++ free) ++ inodes) ≡ 728 + 2 * i =
    length-append (filled_to 728 (start ++ head ++ free)) inodes ∙ (let e : length (filled_to 728 (start ++ head ++ free)) ≡ 728 = filled_length 728 (start ++ head ++ free) (omega (arith, front)) in omega (arith, e, e3)) in
    let rest : 1024 - length (filled_to 728 (start ++ head ++ free) ++ inodes) ≡ 296 - 2 * i = omega (arith, whole) in
    ap (λ (n : ℕ). filled_to 728 (start ++ head ++ free) ++ inodes ++ replicate n 0) rest ∙ ap (λ (q : List ℕ). q ++ inodes ++ replicate (296 - 2 * i) 0) inner

pub start_length : length (filled_to 512 []) ≡ 512
start_length = filled_length 512 [] (omega arith)

super_fits : (g : Geometry) → length (superblock_bytes g) ≤ 1024
unfolding superblock_bytes
super_fits g =
    let start : List ℕ = filled_to 512 [] in
    let head : List ℕ = head_bytes g in
    let free : List ℕ = flat_map little32 (free_cache g) in
    let two : length (start ++ head) ≡ 528 = length-append start head ∙ (let e : length head ≡ 16 = refl in omega (arith, e, start_length)) in
    let three : length (start ++ head ++ free) ≤ 728 =
    let e : length (start ++ head ++ free) ≡ length (start ++ head) + length free = length-append (start ++ head) free in omega (arith, e, two, length32 (free_cache g), cache_length g) in
    let four : length (filled_to 728 (start ++ head ++ free)) ≡ 728 = filled_length 728 (start ++ head ++ free) three in
    let five : length (filled_to 728 (start ++ head ++ free) ++ flat_map little16 (inode_cache (inode_count g))) ≡ length (filled_to 728 (start ++ head ++ free)) + length (flat_map little16 (inode_cache (inode_count g))) =
    length-append (filled_to 728 (start ++ head ++ free)) (flat_map little16 (inode_cache (inode_count g))) in
    omega (arith, five, four, length16 (inode_cache (inode_count g)), inodes_length (inode_count g))

inode_fits : (page : ℕ) → length (root_inode_bytes page) ≤ 1024
unfolding root_inode_bytes
inode_fits page = omega arith

page_fits : length root_page_bytes ≤ 1024
unfolding root_page_bytes
page_fits = omega arith

link_fits : (list : List ℕ) → length list ≡ 50 → length (link_block_bytes list) ≤ 1024
unfolding link_block_bytes
link_fits list long = omega (arith, length32 list)

content_fits : (g : Geometry) (b : ℕ) → length (block_content g b) ≤ 1024
content_fits g b =
    elim (cases_eq b 0) as (λ _. length (block_content g b) ≤ 1024) [
      | inl is ↦ subst (λ (q : List ℕ). length q ≤ 1024) (sym (first_is g b is)) (super_fits g)
      | inr some ↦ elim (cases_eq b 2) as (λ _. length (block_content g b) ≤ 1024) [
        | inl is ↦ subst (λ (q : List ℕ). length q ≤ 1024) (sym (inodes_are g b some is)) (inode_fits g.first_data)
        | inr list ↦ elim (cases_eq b g.first_data) as (λ _. length (block_content g b) ≤ 1024) [
          | inl is ↦ subst (λ (q : List ℕ). length q ≤ 1024) (sym (root_is g b some list is)) page_fits
          | inr root ↦ elim (cases_lt b g.first_data) as (λ _. length (block_content g b) ≤ 1024) [
            | inl is ↦ subst (λ (q : List ℕ). length q ≤ 1024) (sym (before_is g b some list root is)) (omega arith)
            | inr free ↦ elim (cases_eq ((g.blocks - b) % 50) 0) as (λ _. length (block_content g b) ≤ 1024) [
              | inl is ↦ subst (λ (q : List ℕ). length q ≤ 1024) (sym (link_is g b some list root free is)) (link_fits (list_in g.blocks b) (list_length g.blocks b))
              | inr is ↦ subst (λ (q : List ℕ). length q ≤ 1024) (sym (free_is g b some list root free is)) (omega arith)
            ]
          ]
        ]
      ]
    ]

-- each block has its 1,024 bytes
pub block_length : (g : Geometry) (b : ℕ) → length (made_block g b) ≡ 1024
block_length g b = filled_length 1024 (block_content g b) (content_fits g b)

pub blocks_length : (g : Geometry) (a n : ℕ) → length (flat_map (made_block g) (range_with_len a n)) ≡ n * 1024
blocks_length g a zero = refl
blocks_length g a (suc n) =
    let first : length (made_block g a) ≡ 1024 = block_length g a in
    let rest : length (flat_map (made_block g) (range_with_len (a + 1) n)) ≡ n * 1024 = blocks_length g (a + 1) n in
    let sum : length (made_block g a) + length (flat_map (made_block g) (range_with_len (a + 1) n)) ≡ suc n * 1024 = omega (arith, first, rest) in
    length-append (made_block g a) (flat_map (made_block g) (range_with_len (a + 1) n)) ∙ sum
