-- Numbers on the image: each stands in little-endian order, its lowest byte first.
use Rattle.std.specs.Prelude.{◌≡◌, ◌≤◌, ◌<◌, ◌+◌, ◌*◌, ℕ, List, length, slice_index}

-- the number of 2 bytes at that place
abbrev pub number16 : List ℕ → ℕ → ℕ
number16 bytes at = slice_index bytes at + 256 * slice_index bytes (at + 1)

-- the number of 3 bytes at that place
abbrev pub number24 : List ℕ → ℕ → ℕ
number24 bytes at = number16 bytes at + 65536 * slice_index bytes (at + 2)

-- the number of 4 bytes at that place
abbrev pub number32 : List ℕ → ℕ → ℕ
number32 bytes at = number16 bytes at + 65536 * number16 bytes (at + 2)

-- each byte from one place up to another is 0
abbrev pub IsZero : List ℕ → ℕ → ℕ → Type 0
IsZero bytes from upto = (k : ℕ) → from ≤ k → k < upto → slice_index bytes k ≡ 0

-- A table of so many places has these numbers in its first ones, and 0 in those that are not used.
abbrev pub IsTable : (ℕ → ℕ) → ℕ → List ℕ → Type 0
IsTable number places list = (k : ℕ) → k < places → number k ≡ slice_index list k

-- the bytes before one place, and those from another on, stay as they were
pub record ChangesOnly (old new : List ℕ) (from upto : ℕ) : Type 0 where
  pub len : length new ≡ length old
  pub before : (k : ℕ) → k < from → slice_index new k ≡ slice_index old k
  pub after : (k : ℕ) → upto ≤ k → slice_index new k ≡ slice_index old k

-- each number of the list is a byte
abbrev pub AreBytes : List ℕ → Type 0
AreBytes bytes = (k : ℕ) → slice_index bytes k < 256

-- A list of 1 to 50 block numbers that stands in the bytes: its count at one place, and a table of 50 places of 4 bytes
-- at another.
pub record IsBlockList (bytes : List ℕ) (count_at at : ℕ) (list : List ℕ) : Type 0 where
  pub count : number16 bytes count_at ≡ length list
  pub some : 1 ≤ length list
  pub fits : length list ≤ 50
  pub table : IsTable (λ k. number32 bytes (at + 4 * k)) 50 list
