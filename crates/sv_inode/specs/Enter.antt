-- A name is entered into a directory: where, and what that takes.
use Rattle.std.specs.Prelude.{◌≤◌, ◌+◌, ◌*◌, ℕ, Result, Ok, Err, unwrap_or}
use Rattle.sv_form.specs.Node.{Node, entry_count}
use Rattle.sv_form.specs.NodeNames.{empty_place}
use Rattle.sv_form.specs.PagePath.{greatest_size}
use Rattle.sv_form.specs.declared.inode.InodeBody.{InodeBody}
use Rattle.sv_store.specs.Held.{Held, Origin}
use Rattle.sv_inode.specs.StandsFor.{StandsFor}
use Rattle.sv_inode.specs.Write.{write_need}

-- the place of the first empty entry, or else that after the last one
abbrev pub entry_place : ℕ → Node → ℕ
entry_place block node = unwrap_or (empty_place block node) (entry_count node)

-- The directory has room for one entry more below the greatest size, and this takes at most so many blocks.
pub record FitsEntry (o : Origin) (h : Held) (body : InodeBody) (left : ℕ) : Type 0 where
  pub node : Node
  pub stands : StandsFor o h body node
  pub end : 16 * entry_place o.sizes.block_size node + 16 ≤ greatest_size o.sizes
  pub enough : write_need o.sizes h body.addresses (16 * entry_place o.sizes.block_size node) 16 ≤ left

-- how many bytes are put: all of an entry, or none where this was refused
abbrev pub entered_by : {T E : Type 0} → Result T E → ℕ
entered_by (Ok x) = 16
entered_by (Err e) = 0

-- the node that the directory stands for then
abbrev pub if_entered : {T E : Type 0} → Result T E → Node → Node → Node
if_entered (Ok x) old new = new
if_entered (Err e) old new = old
