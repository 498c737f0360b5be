-- Whose each block is, where no condition of the walk fails, and whose each line.
use Rattle.std.specs.Prelude.{◌==◌, ◌/◌, ◌%◌, ℕ, Bool, List, map, unwrap_or, find}
use Rattle.std.specs.List.{list_any, range_with_len}
use Rattle.sv_form.specs.declared.geometry.Geometry.{Geometry}
use Rattle.sv_form.specs.declared.place.Place.{Place}
use Rattle.sv_form.specs.Geometry.{block_lines, line_count}
use Rattle.sv_form.specs.Image.{inode_of}
use Rattle.sv_check.specs.InodeList.{used_inodes}
use Rattle.sv_check.specs.Sound.{line_owner}
use Rattle.sv_check.specs.Walk.{reached}

-- inode n reaches block b
abbrev pub reaches : Geometry → List ℕ → ℕ → ℕ → Bool
reaches g image b n = list_any (λ r. r.block == b) (reached g image (inode_of g image n))

-- the first used inode that reaches block b, 0 for none
unfoldable pub block_owner : Geometry → List ℕ → ℕ → ℕ
block_owner g image b = unwrap_or (find (reaches g image b) (used_inodes g image)) 0

-- the place of a line, from its number in the image
abbrev pub place_of : Geometry → ℕ → Place
place_of g line = record { block = line / block_lines g; line = line % block_lines g }

-- the owner of each line, block by block
unfoldable pub line_owners : Geometry → List ℕ → List ℕ
line_owners g image = map (λ line. line_owner g image (place_of g line)) (range_with_len 0 (line_count g))
