-- Conditions 8 and 9 of a sound image: no page lies past the size, no indirect block is empty, and the last page ends in
-- zero bytes.
use Rattle.std.specs.Prelude.{◌==◌, ◌&&◌, ◌+◌, ◌-◌, ◌*◌, ℕ, Bool, not, List, Option, drop, length, nat_le, nat_lt, find, if◌then◌else◌}
use Rattle.std.specs.List.{list_any}
use Rattle.sv_form.specs.declared.geometry.Geometry.{Geometry}
use Rattle.sv_form.specs.Image.{block_of, inode_of}
use Rattle.sv_plain.specs.Front.{size_of}
use Rattle.sv_check.specs.InodeList.{used_inodes, all_zero}
use Rattle.sv_check.specs.Walk.{Reached, reached, filled}

-- inode n reaches a block of that kind
abbrev pub some_reached : Geometry → List ℕ → (ℕ → Reached → Bool) → ℕ → Bool
some_reached g image test n = list_any (test (size_of (inode_of g image n))) (reached g image (inode_of g image n))

-- a page that begins at or past the size, or an indirect block without a number
abbrev pub is_past : Geometry → List ℕ → ℕ → Reached → Bool
is_past g image size r = if r.height == 0 then nat_le size (r.page * g.block_size) else (length (filled g (block_of g image r.block)) == 0)

-- condition 8, PastSize: where it fails, and None where it holds
unfoldable pub past_size_flaw : Geometry → List ℕ → Option ℕ
past_size_flaw g image = find (some_reached g image (is_past g image)) (used_inodes g image)

-- the page that has the last byte of a file
abbrev pub is_last : Geometry → ℕ → Reached → Bool
is_last g size r = (r.height == 0) && nat_lt (r.page * g.block_size) size && nat_le size (r.page * g.block_size + g.block_size)

-- the last page, and one of its bytes past the size is not 0
abbrev pub has_tail : Geometry → List ℕ → ℕ → Reached → Bool
has_tail g image size r = is_last g size r && not (all_zero (drop (size - r.page * g.block_size) (block_of g image r.block)))

-- condition 9, Tail: where it fails, and None where it holds
unfoldable pub tail_flaw : Geometry → List ℕ → Option ℕ
tail_flaw g image = find (some_reached g image (has_tail g image)) (used_inodes g image)
