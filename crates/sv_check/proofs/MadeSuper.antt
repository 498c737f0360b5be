-- The superblock of an image made anew.
use Rattle.std.proofs.Common.{◌≡◌, ◌<◌, ◌≤◌, ◌+◌, ◌-◌, ◌*◌, ◌/◌, ◌%◌, ◌++◌, ◌∙◌, ℕ, List, length, get_or, replicate, refl, ap, arith, append_assoc, length-append}
use Rattle.std.specs.List.{flat_map}
use Rattle.std.proofs.lemmas.List.{get_or-append_right, get_or-replicate, length-replicate}
use Rattle.sv_form.specs.declared.superblock.Super.{Super}
use Rattle.sv_form.specs.Number.{number16, number32, IsZero}
use Rattle.sv_form.specs.Superblock.{IsSuper, magic}
use Rattle.sv_check.specs.MadeBlocks.{little16, little32}
use Rattle.sv_check.proofs.SpelledNumbers.{behind16, behind32, length16, length32, list16, list32, zeros_are}

-- the sixteen bytes at its front
unfoldable pub front_of : (first blocks free inodes : ℕ) → List ℕ
front_of first blocks free inodes = little32 magic ++ little16 2 ++ little16 first ++ little32 blocks ++ little16 free ++ little16 inodes

-- its pieces: the front, the free blocks and zero bytes up to 200, the free inodes and zero bytes to the end
unfoldable pub whole_of : (first blocks : ℕ) (free inodes : List ℕ) → List ℕ
whole_of first blocks free inodes =
    front_of first blocks (length free) (length inodes) ++ ((flat_map little32 free ++ replicate (200 - 4 * length free) 0) ++ (flat_map little16 inodes ++ replicate (296 - 2 * length inodes) 0))

unfoldable pub super_of : (first blocks : ℕ) (free inodes : List ℕ) → Super
super_of first blocks free inodes = record { block_type = 2; first_data = first; blocks = blocks; free = record { items = free }; inodes = record { items = inodes } }

table_length : (free : List ℕ) → length free ≤ 50 → length (flat_map little32 free ++ replicate (200 - 4 * length free) 0) ≡ 200
table_length free fits =
    let zeros : List ℕ = replicate (200 - 4 * length free) 0 in
    let many : length zeros ≡ 200 - 4 * length free = length-replicate (200 - 4 * length free) 0 in
    let sum : length (flat_map little32 free) + length zeros ≡ 200 = omega (arith, length32 free, many) in
    length-append (flat_map little32 free) zeros ∙ sum

end_length : (inodes : List ℕ) → length inodes ≤ 100 → length (flat_map little16 inodes ++ replicate (296 - 2 * length inodes) 0) ≡ 296
end_length inodes fits =
    let zeros : List ℕ = replicate (296 - 2 * length inodes) 0 in
    let many : length zeros ≡ 296 - 2 * length inodes = length-replicate (296 - 2 * length inodes) 0 in
    let sum : length (flat_map little16 inodes) + length zeros ≡ 296 = omega (arith, length16 inodes, many) in
    length-append (flat_map little16 inodes) zeros ∙ sum

front_length : (first blocks free inodes : ℕ) → length (front_of first blocks free inodes) ≡ 16
unfolding front_of
front_length first blocks free inodes = refl

pub whole_length : (first blocks : ℕ) (free inodes : List ℕ) → length free ≤ 50 → length inodes ≤ 100 → length (whole_of first blocks free inodes) ≡ 512
unfolding whole_of
whole_length first blocks free inodes some few =
    let front : List ℕ = front_of first blocks (length free) (length inodes) in
    let table : List ℕ = flat_map little32 free ++ replicate (200 - 4 * length free) 0 in
    let rest : List ℕ = flat_map little16 inodes ++ replicate (296 - 2 * length inodes) 0 in
    length-append front (table ++ rest) ∙ (ap (λ (n : ℕ). length front + n) (length-append table rest) ∙ omega (arith, front_length first blocks (length free) (length inodes), table_length free some, end_length inodes few))

-- ---- the numbers of the front

first_reads : (first blocks free inodes : ℕ) (rest : List ℕ) → number16 (front_of first blocks free inodes ++ rest) 6 ≡ first
unfolding front_of
first_reads first blocks free inodes rest = let e : first % 256 + 256 * (first / 256) ≡ first = omega arith in e

blocks_read : (first blocks free inodes : ℕ) (rest : List ℕ) → number32 (front_of first blocks free inodes ++ rest) 8 ≡ blocks
unfolding front_of
blocks_read first blocks free inodes rest =
    let e : (blocks % 65536) % 256 + 256 * ((blocks % 65536) / 256) + 65536 * ((blocks / 65536) % 256 + 256 * ((blocks / 65536) / 256)) ≡ blocks = omega arith in e

free_reads : (first blocks free inodes : ℕ) (rest : List ℕ) → number16 (front_of first blocks free inodes ++ rest) 12 ≡ free
unfolding front_of
free_reads first blocks free inodes rest = let e : free % 256 + 256 * (free / 256) ≡ free = omega arith in e

inodes_read : (first blocks free inodes : ℕ) (rest : List ℕ) → number16 (front_of first blocks free inodes ++ rest) 14 ≡ inodes
unfolding front_of
inodes_read first blocks free inodes rest = let e : inodes % 256 + 256 * (inodes / 256) ≡ inodes = omega arith in e

magic_reads : (first blocks free inodes : ℕ) (rest : List ℕ) → number32 (front_of first blocks free inodes ++ rest) 0 ≡ magic
unfolding front_of
magic_reads first blocks free inodes rest = refl

type_reads : (first blocks free inodes : ℕ) (rest : List ℕ) → number16 (front_of first blocks free inodes ++ rest) 4 ≡ 2
unfolding front_of
type_reads first blocks free inodes rest = refl

-- ---- the two caches, and what stands behind them

free_table : (first blocks : ℕ) (free inodes : List ℕ) → length free ≤ 50 → (k : ℕ) → k < 50 → number32 (whole_of first blocks free inodes) (16 + 4 * k) ≡ get_or free k 0
unfolding whole_of
free_table first blocks free inodes some k low =
    let zeros : List ℕ = replicate (200 - 4 * length free) 0 in
    let rest : List ℕ = flat_map little16 inodes ++ replicate (296 - 2 * length inodes) 0 in
    behind32 (front_of first blocks (length free) (length inodes)) ((flat_map little32 free ++ zeros) ++ rest) 16 (16 + 4 * k) (4 * k) (front_length first blocks (length free) (length inodes)) refl
    ∙ (ap (λ (q : List ℕ). number32 q (4 * k)) (append_assoc (flat_map little32 free) zeros rest)
    ∙ list32 free (zeros ++ rest) 50 k low (zeros_are (200 - 4 * length free) (4 * 50 - 4 * length free) rest (omega arith)))

inode_table : (first blocks : ℕ) (free inodes : List ℕ) → length free ≤ 50 → (k : ℕ) → k < 100 → number16 (whole_of first blocks free inodes) (216 + 2 * k) ≡ get_or inodes k 0
unfolding whole_of
inode_table first blocks free inodes some k low =
    let table : List ℕ = flat_map little32 free ++ replicate (200 - 4 * length free) 0 in
    let zeros : List ℕ = replicate (296 - 2 * length inodes) 0 in
    behind16 (front_of first blocks (length free) (length inodes)) (table ++ (flat_map little16 inodes ++ zeros)) 16 (216 + 2 * k) (200 + 2 * k) (front_length first blocks (length free) (length inodes)) (omega arith)
    ∙ (behind16 table (flat_map little16 inodes ++ zeros) 200 (200 + 2 * k) (2 * k) (table_length free some) refl
    ∙ list16 inodes zeros 100 k low (λ j h. get_or-replicate (296 - 2 * length inodes) j 0 0 (omega arith)))

behind_zero : (first blocks : ℕ) (free inodes : List ℕ) → length free ≤ 50 → length inodes ≤ 100 → IsZero (whole_of first blocks free inodes) 416 512
unfolding whole_of
behind_zero first blocks free inodes some few k low high =
    let front : List ℕ = front_of first blocks (length free) (length inodes) in
    let table : List ℕ = flat_map little32 free ++ replicate (200 - 4 * length free) 0 in
    let zeros : List ℕ = replicate (296 - 2 * length inodes) 0 in
    get_or-append_right front (table ++ (flat_map little16 inodes ++ zeros)) 16 k 0 (front_length first blocks (length free) (length inodes)) (omega arith)
    ∙ (get_or-append_right table (flat_map little16 inodes ++ zeros) 200 (k - 16) 0 (table_length free some) (omega arith)
    ∙ (get_or-append_right (flat_map little16 inodes) zeros (2 * length inodes) (k - 16 - 200) 0 (length16 inodes) (omega arith)
    ∙ get_or-replicate (296 - 2 * length inodes) (k - 16 - 200 - 2 * length inodes) 0 0 (omega arith)))

pub whole_is_super : (first blocks : ℕ) (free inodes : List ℕ) → 1 ≤ length free → length free ≤ 50 → length inodes ≤ 100 → IsSuper (whole_of first blocks free inodes) (super_of first blocks free inodes)
unfolding whole_of super_of
whole_is_super first blocks free inodes least some few =
    let rest : List ℕ = (flat_map little32 free ++ replicate (200 - 4 * length free) 0) ++ (flat_map little16 inodes ++ replicate (296 - 2 * length inodes) 0) in
    record {
      size = whole_length first blocks free inodes some few;
      magic = magic_reads first blocks (length free) (length inodes) rest;
      block_type = type_reads first blocks (length free) (length inodes) rest;
      first_data = first_reads first blocks (length free) (length inodes) rest;
      blocks = blocks_read first blocks (length free) (length inodes) rest;
      free = record { count = free_reads first blocks (length free) (length inodes) rest; some = least; fits = some; table = free_table first blocks free inodes some };
      inodes = record { count = inodes_read first blocks (length free) (length inodes) rest; fits = few; table = inode_table first blocks free inodes some };
      rest = behind_zero first blocks free inodes some few;
    }
