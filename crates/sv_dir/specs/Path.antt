-- What a path says.
use Rattle.std.specs.Prelude.{◌≡◌, ◌≢◌, ◌<◌, ◌≤◌, ◌==◌, nat_le, not, ◌&&◌, if◌then◌else◌, ◌↔◌, ℕ, Bool, true, false, List, [], ◌∷◌, length}
use Rattle.std.specs.Prelude.{slice_index, slice_index_or, take, filter, All, Contains, IsTrue}
use Rattle.std.specs.List.{slice_split, list_all}
use Rattle.sv_form.specs.Name.{IsName}
use Rattle.sv_dir.specs.declared.path.BadPath.{BadPath}
use Rattle.sv_dir.specs.declared.path.BadPath.TheVariants as bad
use Rattle.sv_dir.specs.declared.path.PathWords.{PathWords}

abbrev pub is_slash : ℕ → Bool
is_slash byte = byte == 47

-- a piece that has a byte
abbrev pub is_some_piece : List ℕ → Bool
is_some_piece [] = false
is_some_piece (byte ∷ piece) = true

-- what stands between the slashes of a path, without the empty pieces
unfoldable pub pieces : List ℕ → List (List ℕ)
pieces path = filter is_some_piece (slice_split is_slash path)

-- the path is split so: it begins at the root exactly if its first byte is a slash, and each piece is a name
pub record IsSplit (path : List ℕ) (words : PathWords) : Type 0 where
  pub some : path ≢ []
  pub absolute : IsTrue words.absolute ↔ (slice_index path 0 ≡ 47)
  pub names : words.names ≡ pieces path
  pub each : All IsName (pieces path)

-- the piece at that place, from 0, is the first that is no name
pub record FirstBad (path : List ℕ) (place : ℕ) : Type 0 where
  pub within : place < length (pieces path)
  pub before : All IsName (take place (pieces path))

abbrev pub piece_at : List ℕ → ℕ → List ℕ
piece_at path place = slice_index_or (pieces path) place []

-- why a path is refused; want of memory is tied to nothing
abbrev pub Refuses : List ℕ → BadPath → Type 0
Refuses path bad.Empty = path ≡ []
Refuses path (bad.TooLong place) = FirstBad path place × (14 < length (piece_at path place))
Refuses path (bad.BadByte place) = FirstBad path place × (length (piece_at path place) ≤ 14) × Contains (piece_at path place) 0
Refuses path bad.NoMemory = Unit {0}

-- the same, where it is not the whole path that is refused
abbrev pub RefusesPiece : List ℕ → BadPath → Type 0
RefusesPiece path bad.Empty = ⊥
RefusesPiece path (bad.TooLong place) = Refuses path (bad.TooLong place)
RefusesPiece path (bad.BadByte place) = Refuses path (bad.BadByte place)
RefusesPiece path bad.NoMemory = Unit {0}

-- the same of the piece alone that stands at that place
abbrev pub RefusesName : List ℕ → ℕ → BadPath → Type 0
RefusesName piece at bad.Empty = ⊥
RefusesName piece at (bad.TooLong place) = (place ≡ at) × (14 < length piece)
RefusesName piece at (bad.BadByte place) = (place ≡ at) × (length piece ≤ 14) × Contains piece 0
RefusesName piece at bad.NoMemory = ⊥

-- a path begins with this piece, which has a byte and no slash, after slashes, and goes on with the rest
pub record IsFirstPiece (path piece rest : List ℕ) : Type 0 where
  pub cut : pieces path ≡ piece ∷ pieces rest
  pub some : 0 < length piece
  pub plain : All (λ b. b ≢ 47) piece
  pub shorter : length rest < length path

abbrev pub has_no_zero : List ℕ → Bool
has_no_zero piece = list_all (λ byte. not (byte == 0)) piece

-- a piece of a path, which has some byte and no slash, is a name
abbrev pub is_name : List ℕ → Bool
is_name piece = nat_le (length piece) 14 && has_no_zero piece

-- how many names a path has, and none where one of its pieces is no name
abbrev pub name_count : List ℕ → ℕ
name_count path = if list_all is_name (pieces path) then length (pieces path) else 0

-- the path is refused for this reason, and not for want of memory
abbrev pub IsRefused : List ℕ → BadPath → Type 0
IsRefused path why = Refuses path why × (why ≢ bad.NoMemory)

abbrev pub IsSplitOneWay : Type 0
IsSplitOneWay = (path : List ℕ) (words others : PathWords) → IsSplit path words → IsSplit path others → (words.names ≡ others.names)
    × (words.absolute ≡ others.absolute)

abbrev pub IsRefusedOneWay : Type 0
IsRefusedOneWay = (path : List ℕ) (why other : BadPath) → IsRefused path why → IsRefused path other → why ≡ other

abbrev pub IsSplitOrRefused : Type 0
IsSplitOrRefused = (path : List ℕ) (words : PathWords) (why : BadPath) → IsSplit path words → IsRefused path why → ⊥
