-- The entries of a directory, as the image has them.
use Rattle.std.specs.Prelude.{◌≡◌, ◌≢◌, ◌-◌, ◌<◌, ◌++◌, ℕ, List, [], length, drop, replicate, slice_index, unwrap_or, MatchOption}
use Rattle.sv_form.specs.Name.{IsName}
use Rattle.sv_form.specs.Number.{number16, AreBytes}
use Rattle.sv_form.specs.declared.entry.Entry.{Entry}

-- an entry can be spelled where its name is missing exactly if its inode is 0
abbrev pub HasSpelling : Entry → Type 0
HasSpelling e = MatchOption e.name (e.inode ≡ 0) (λ name. (e.inode ≢ 0) × IsName name)

-- a name in the fourteen bytes that an entry has for it, filled with zero bytes
abbrev pub filled : List ℕ → List ℕ
filled name = name ++ replicate (14 - length name) 0

-- sixteen bytes spell an entry: the inode's number in two of them, its name in fourteen
pub record IsEntry (bytes : List ℕ) (e : Entry) : Type 0 where
  pub len : length bytes ≡ 16
  pub inode : number16 bytes 0 ≡ e.inode
  pub name : drop 2 bytes ≡ filled (unwrap_or e.name [])
  pub spelled : HasSpelling e

-- no bytes spell two entries
abbrev pub SpellsOneEntry : Type 0
SpellsOneEntry = (bytes : List ℕ) (e f : Entry) → IsEntry bytes e → IsEntry bytes f → e ≡ f

-- no entry has two spellings
abbrev pub HasOneSpelling : Type 0
HasOneSpelling = (a b : List ℕ) (e : Entry) → AreBytes a → AreBytes b → IsEntry a e → IsEntry b e → a ≡ b
