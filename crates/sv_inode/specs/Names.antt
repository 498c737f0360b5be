-- The entry of a directory that has a name, as it is looked for in the bytes of a page.
use Rattle.std.specs.Prelude.{◌≡◌, ◌<◌, ◌+◌, ◌*◌, ◌==◌, ◌&&◌, ℕ, Bool, true, false, not, List, Option, Some, None, slice_range}
use Rattle.sv_form.specs.Entries.{until_zero}
use Rattle.sv_form.specs.Node.{Node, entry_inode}
use Rattle.sv_form.specs.NodeNames.{is_entry, same_bytes}
use Rattle.sv_form.specs.Number.{number16}

-- the entry that begins at this byte of a page has this name
abbrev pub is_named : List ℕ → List ℕ → ℕ → Bool
is_named page name at = not (number16 page at == 0) && same_bytes (until_zero (slice_range page (at + 2) (at + 16))) name

-- it has the name that is sought, or is empty where none is
abbrev pub is_sought : List ℕ → Option (List ℕ) → ℕ → Bool
is_sought page None at = number16 page at == 0
is_sought page (Some name) at = is_named page name at

-- entry j of a page is sought, and its inode
abbrev pub is_sought_at : List ℕ → Option (List ℕ) → ℕ → Bool
is_sought_at page name j = is_sought page name (16 * j)

abbrev pub inode_in : List ℕ → ℕ → ℕ
inode_in page j = number16 page (16 * j)

-- all entries of a hole are empty
abbrev pub is_sought_in_hole : Option (List ℕ) → ℕ → Bool
is_sought_in_hole None j = true
is_sought_in_hole (Some name) j = false

-- entry j of a directory is sought
abbrev pub is_at : ℕ → Node → Option (List ℕ) → ℕ → Bool
is_at block node None j = entry_inode block node j == 0
is_at block node (Some name) j = is_entry block node name j

-- among so many places this is the first that passes the test, with what stands there
pub record IsFirst (test : ℕ → Bool) (inodes : ℕ → ℕ) (count : ℕ) (found : ℕ × ℕ) : Type 0 where
  pub within : found.0 < count
  pub here : test found.0 ≡ true
  pub before : (k : ℕ) → k < found.0 → test k ≡ false
  pub inode : found.1 ≡ inodes found.0

-- the first place that passes the test, or that none does
abbrev pub Finds : (ℕ → Bool) → (ℕ → ℕ) → ℕ → Option (ℕ × ℕ) → Type 0
Finds test inodes count None = (k : ℕ) → k < count → test k ≡ false
Finds test inodes count (Some found) = IsFirst test inodes count found
