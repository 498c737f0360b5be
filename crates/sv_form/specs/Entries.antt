-- The entries of a directory (Bach, chapter 4.3), over a reader of its pieces: the sixteen bytes at each place, from 0.
use Rattle.std.specs.Prelude.{◌<◌, ◌==◌, ℕ, zero, suc, List, [], ◌∷◌, take, drop, if◌then◌else◌}
use Rattle.sv_form.specs.declared.entry.Entry.{Entry}
use Rattle.sv_form.specs.Entry.{IsEntry}
use Rattle.sv_form.specs.Number.{number16}

-- a reader: the piece at a place
abbrev pub Pieces : Type 0
Pieces = ℕ → List ℕ

-- of so many pieces the one at this place spells that entry
pub record HasEntry (count : ℕ) (piece : Pieces) (place : ℕ) (e : Entry) : Type 0 where
  pub within : place < count
  pub spelled : IsEntry (piece place) e

-- the first so many pieces of these bytes
abbrev pub pieces : ℕ → List ℕ → List (List ℕ)
pieces zero bytes = []
pieces (suc n) bytes = take 16 bytes ∷ pieces n (drop 16 bytes)

-- the front of these bytes up to the first zero
abbrev pub until_zero : List ℕ → List ℕ
until_zero [] = []
until_zero (b ∷ bs) = if b == 0 then [] else b ∷ until_zero bs

-- the inode that a piece names, 0 where it is empty, and its name
abbrev pub named_by : List ℕ → ℕ
named_by piece = number16 piece 0

abbrev pub name_in : List ℕ → List ℕ
name_in piece = until_zero (drop 2 piece)
