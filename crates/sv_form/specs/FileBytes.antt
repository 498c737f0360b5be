-- The bytes of a file, over a reader of its pages.
use Rattle.std.specs.Prelude.{◌/◌, ◌%◌, ◌==◌, ℕ, List, map, Option, Some, None, slice_index, if◌then◌else◌}
use Rattle.std.specs.List.{range_with_len}

-- a reader: byte r of page p
abbrev pub PageBytes : Type 0
PageBytes = ℕ → ℕ → ℕ

-- byte k of a file: it is in the page k / block
abbrev pub byte_at : ℕ → PageBytes → ℕ → ℕ
byte_at block read k = read (k / block) (k % block)

-- `count` bytes of a file, from `from` on
abbrev pub bytes_at : ℕ → PageBytes → ℕ → ℕ → List ℕ
bytes_at block read from count = map (byte_at block read) (range_with_len from count)

-- byte r of a page with these bytes, and 0 where the page is absent
abbrev pub page_byte : Option (List ℕ) → ℕ → ℕ
page_byte None r = 0
page_byte (Some bytes) r = slice_index bytes r

-- byte r of a page that stands in block b, by a reader of blocks, and 0 where the page is a hole
abbrev pub block_byte : (ℕ → ℕ → ℕ) → ℕ → ℕ → ℕ
block_byte bytes b r = if b == 0 then 0 else bytes b r
