-- What a contract sees of the owners: the sizes of the image, and one inode number for each of its lines, block by block.
use Rattle.std.specs.Prelude.{◌≡◌, ℕ, List, length}
use Rattle.sv_form.specs.declared.geometry.Geometry.{Geometry}
use Rattle.sv_form.specs.Geometry.{IsGeometry, line_count}

pub record OwnerTable : Type 0 where
  pub geometry : Geometry
  pub owners : List ℕ

-- the sizes are those of an image, and each line has its number
pub record IsOwnerTable (t : OwnerTable) : Type 0 where
  pub sizes : IsGeometry t.geometry
  pub lines : length t.owners ≡ line_count t.geometry
