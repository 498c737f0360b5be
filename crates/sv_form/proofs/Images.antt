-- What the superblock of an image says of the image.
use Rattle.std.proofs.Common.{◌≡◌, ℕ, List, refl, sym, ap}
use Rattle.sv_form.specs.declared.geometry.Geometry.{Geometry}
use Rattle.sv_form.specs.declared.superblock.Super.{Super}
use Rattle.sv_form.specs.Image.{superblock_of, geometry_of}
use Rattle.sv_form.specs.Superblock.{IsSuper, sizes_of}

-- the sizes of the image are those of the superblock that its bytes spell
pub geometry_of-spelled : (image : List ℕ) (s : Super) → IsSuper (superblock_of image) s → geometry_of image ≡ sizes_of s
geometry_of-spelled image s spelled =
    let blocks = spelled.blocks in let first = spelled.first_data in cc
