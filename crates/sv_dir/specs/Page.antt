-- A page of a directory, as its entries.
use Rattle.std.specs.Prelude.{◌≡◌, ◌<◌, ◌≤◌, ◌+◌, ◌*◌, ◌/◌, ◌%◌, ℕ, List, Some, None, length, slice_range}
use Rattle.sv_form.specs.Entries as pieces
use Rattle.sv_form.specs.declared.entry.Entry.{Entry}

-- at most 1,024 bytes, sixteen for each entry
pub record IsPage (page : List ℕ) : Type 0 where
  pub most : length page ≤ 1024
  pub whole : length page % 16 ≡ 0

abbrev pub entry_count : List ℕ → ℕ
entry_count page = length page / 16

-- the sixteen bytes of the entry at a place, from 0
abbrev pub piece : List ℕ → ℕ → List ℕ
piece page place = slice_range page (16 * place) (16 * place + 16)

-- the page has that entry at that place
abbrev pub HasEntry : List ℕ → ℕ → Entry → Type 0
HasEntry page place e = pieces.HasEntry (entry_count page) (piece page) place e

abbrev pub HasNamed : List ℕ → List ℕ → ℕ → ℕ → Type 0
HasNamed page name place inode = HasEntry page place (record { inode = inode; name = Some name })

abbrev pub HasEmpty : List ℕ → ℕ → Type 0
HasEmpty page place = HasEntry page place (record { inode = 0; name = None })

-- the first entry of that name stands here and names that inode
pub record FirstNamed (page : List ℕ) (name : List ℕ) (place : ℕ) (inode : ℕ) : Type 0 where
  pub here : HasNamed page name place inode
  pub first : (k i : ℕ) → k < place → HasNamed page name k i → ⊥

-- the first empty entry stands here
pub record FirstEmpty (page : List ℕ) (place : ℕ) : Type 0 where
  pub here : HasEmpty page place
  pub first : (k : ℕ) → k < place → HasEmpty page k → ⊥
