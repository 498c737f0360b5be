-- The words of the command line.
use Rattle.std.specs.Prelude.{◌≡◌, ◌<◌, ◌^◌, ℕ, List, [], ◌∷◌, codes, decimal}
use Rattle.sv_check.specs.Mkfs.{CanBeMade}

-- what the words may ask for
pub data Command : Type 0 where
  -- write the bytes of a regular file
  cat : (image : List ℕ) (inode : ℕ) → Command
  -- write one line on a sound image
  check : (image : List ℕ) → Command
  -- make an image of so many blocks for so many inodes
  mkfs : (image : List ℕ) (blocks inodes : ℕ) → Command
  -- write the listing that a journal over an image leads to
  replay : (image journal : List ℕ) → Command

-- The words ask for this. A number is decimal digits, without sign or leading zero, `0` itself aside. Those of `mkfs` are
-- numbers that an image has.
abbrev pub Asks : List (List ℕ) → Command → Type 0
Asks words (cat image inode) = (inode < 2 ^ 32) × (words ≡ codes "cat" ∷ image ∷ decimal inode ∷ [])
Asks words (check image) = words ≡ codes "check" ∷ image ∷ []
Asks words (mkfs image blocks inodes) = CanBeMade blocks inodes × (words ≡ codes "mkfs" ∷ image ∷ decimal blocks ∷ decimal inodes ∷ [])
Asks words (replay image journal) = words ≡ codes "replay" ∷ image ∷ journal ∷ []
