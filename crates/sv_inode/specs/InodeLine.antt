-- The line that an inode has in the inode list, once its body was put there.
use Rattle.std.specs.Prelude.{◌≡◌, ◌≢◌, ◌⊎◌, ℕ, List, Some}
use Rattle.sv_form.specs.Geometry.{inode_place}
use Rattle.sv_form.specs.Inode.{IsInode}
use Rattle.sv_form.specs.declared.geometry.Geometry.{Geometry}
use Rattle.sv_form.specs.declared.inode.DiskInode.TheVariants.{Used}
use Rattle.sv_form.specs.declared.inode.InodeBody.{InodeBody}
use Rattle.sv_store.specs.Held.{Held}

-- the line of inode n spells this body, and all other lines are as they were
pub record PutsInode (g : Geometry) (n : ℕ) (body : InodeBody) (old new : Held) : Type 0 where
  pub line : List ℕ
  pub there : new (inode_place g n).block (inode_place g n).line ≡ Some line
  pub spelled : IsInode line (Used body)
  pub others : (b l : ℕ) → (b ≢ (inode_place g n).block) ⊎ (l ≢ (inode_place g n).line) → new b l ≡ old b l
