-- A file made by hand, for tests. Block 50 is its single indirect block, with page 51; block 60 is its triple one, over
-- block 61, then block 62, then page 63. Each of these four blocks has one number that is not 0, and no other block has any.
use Rattle.std.specs.Prelude.{◌==◌, ℕ, List, if◌then◌else◌, replicate, set}

-- where the first byte of that number stands
abbrev pub sample_place : ℕ → ℕ
sample_place b = if b == 50 then 12 else (if b == 60 then 4 else (if b == 61 then 8 else (if b == 62 then 16 else 0)))

-- the number
abbrev pub sample_number : ℕ → ℕ
sample_number b = if b == 50 then 51 else (if b == 60 then 61 else (if b == 61 then 62 else (if b == 62 then 63 else 0)))

-- the bytes of a block
unfoldable pub sample_bytes : ℕ → List ℕ
sample_bytes b = set (replicate 1024 0) (sample_place b) (sample_number b)
