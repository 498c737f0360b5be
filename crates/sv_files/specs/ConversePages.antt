-- From held lines back to an image: what the pages of the nodes say of the conditions 8 and 9, and of the tree.
use Rattle.std.specs.Prelude.{◌≡◌, ℕ, Bool, List, None}
use Rattle.sv_form.specs.Geometry.{IsGeometry}
use Rattle.sv_form.specs.Image.{geometry_of}
use Rattle.sv_store.specs.Held.{Held, Origin}
use Rattle.sv_plain.specs.Fs.{Fs}
use Rattle.sv_check.specs.PastSize.{past_size_flaw, tail_flaw}
use Rattle.sv_check.specs.Sound.{tree}
use Rattle.sv_files.specs.ConverseInodes.{HasNumbersOf, HoldsAllInodes}
use Rattle.sv_files.specs.ConverseLines.{IsSizedAs}
use Rattle.sv_files.specs.ConverseNames.{IsAtRest}

-- the conditions 8 and 9 hold
pub record IsPagedWell (image : List ℕ) : Type 0 where
  pub past_size : past_size_flaw (geometry_of image) image ≡ None
  pub tail : tail_flaw (geometry_of image) image ≡ None

-- An image that has the lines of the nodes of a whole file system at rest has no page past a size, no indirect block without a
-- number, and zero bytes after the end of each last page.
abbrev pub NodesArePagedWell : Type 0
NodesArePagedWell =
    (image : List ℕ) (o : Origin) (fs : Fs) (parts : ℕ → Held) (others : Held) (used : List Bool) → IsGeometry o.sizes
    → IsSizedAs o.sizes image → HasNumbersOf o fs → IsAtRest fs
    → HoldsAllInodes o image fs parts others used → IsPagedWell image

-- The tree of such an image is the nodes.
abbrev pub NodesAreTree : Type 0
NodesAreTree =
    (image : List ℕ) (o : Origin) (fs : Fs) (parts : ℕ → Held) (others : Held) (used : List Bool) → IsGeometry o.sizes
    → IsSizedAs o.sizes image → HasNumbersOf o fs → IsAtRest fs
    → HoldsAllInodes o image fs parts others used → tree image ≡ fs.nodes
