-- Whose lines of an image are.
use Rattle.std.specs.Prelude.{◌≡◌, ◌==◌, ◌<◌, ◌≤◌, ◌+◌, ◌*◌, ◌++◌, ◌∷◌, [], ℕ, List, length, map, slice_index, All, filter, if◌then◌else◌}
use Rattle.std.specs.Global.{Vec}
use Rattle.std.specs.List.{flat_map, range_with_len, slice_index_or}
use Rattle.sv_form.specs.declared.geometry.Geometry.{Geometry}
use Rattle.sv_form.specs.declared.place.Place.{Place}
use Rattle.sv_form.specs.declared.owners.LineRange.{LineRange}
use Rattle.sv_form.specs.Geometry.{block_lines, line_count, line_number}
use Rattle.sv_form.specs.OwnerTable.{OwnerTable}

-- the owner of the line at a place, 0 for none
abbrev pub owner_of : OwnerTable → Place → ℕ
owner_of t p = slice_index t.owners (line_number t.geometry p)

-- the lines whose owner is n, by their numbers in the image, ascending
abbrev pub owned : List ℕ → ℕ → List ℕ
owned owners n = filter (λ k. slice_index owners k == n) (range_with_len 0 (length owners))

-- the lines of a range, by their numbers in the image
abbrev pub range_lines : Geometry → LineRange → List ℕ
range_lines g r = range_with_len (r.block * block_lines g + r.first) r.count

-- a range has a line, and stays within one block of the image
pub record IsRange (g : Geometry) (r : LineRange) : Type 0 where
  pub some : 1 ≤ r.count
  pub block : r.block < g.blocks
  pub within : r.first + r.count ≤ block_lines g

-- the ranges at a place of a table
abbrev pub ranges_at : List (Vec LineRange) → ℕ → List LineRange
ranges_at all n = slice_index_or (map (λ ranges. ranges.items) all) n []

-- the ranges of inode n after a line was met: they have it where it is the inode's
pub record HasMore (t : OwnerTable) (line n : ℕ) (old new : List LineRange) : Type 0 where
  pub lines : flat_map (range_lines t.geometry) new
      ≡ flat_map (range_lines t.geometry) old ++ (if slice_index t.owners line == n then line ∷ [] else [])
  pub each : All (IsRange t.geometry) new

-- The lines of the ranges, one range after the other, are exactly those whose owner is n: they ascend, and each stands
-- in one range.
pub record AreLinesOf (t : OwnerTable) (n : ℕ) (ranges : List LineRange) : Type 0 where
  pub lines : flat_map (range_lines t.geometry) ranges ≡ owned t.owners n
  pub each : All (IsRange t.geometry) ranges
