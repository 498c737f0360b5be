-- The bytes of a node and, of a directory, its entries: its bytes below its size, cut into pieces of sixteen.
use Rattle.std.specs.Prelude.{◌≡◌, ◌<◌, ◌*◌, ◌==◌, ℕ, List, Some, None, if◌then◌else◌}
use Rattle.sv_form.specs.declared.entry.Entry.{Entry}
use Rattle.sv_form.specs.Entries as pieces
use Rattle.sv_form.specs.Node.{Node, bytes_of, entry_count, entry_inode, entry_name}

-- the bytes of a node, from the first to its size
abbrev pub node_bytes : ℕ → Node → List ℕ
node_bytes block node = bytes_of block node 0 node.size

-- the sixteen bytes of the entry at a place, from 0
abbrev pub entry_bytes : ℕ → Node → ℕ → List ℕ
entry_bytes block node j = bytes_of block node (16 * j) 16

-- the directory has that entry at that place
abbrev pub HasEntry : ℕ → Node → ℕ → Entry → Type 0
HasEntry block node j e = pieces.HasEntry (entry_count node) (entry_bytes block node) j e

-- what stands at a place, where an entry is spelled there
abbrev pub entry_at : ℕ → Node → ℕ → Entry
entry_at block node j = record {
  inode = entry_inode block node j;
  name = if entry_inode block node j == 0 then None else Some (entry_name block node j);
}

-- each piece is the spelling of an entry
abbrev pub HasEntries : ℕ → Node → Type 0
HasEntries block node = (j : ℕ) → j < entry_count node → HasEntry block node j (entry_at block node j)
