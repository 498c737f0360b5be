-- The bytes of a file, read out of the held lines by way of its address tree.
use Rattle.std.specs.Prelude.{◌+◌, ◌-◌, ◌/◌, ◌%◌, ◌==◌, ℕ, zero, suc, List, [], Option, Some, None, map, slice_index, unwrap_or}
use Rattle.std.specs.Prelude.{if◌then◌else◌}
use Rattle.std.specs.List.{range_with_len}
use Rattle.sv_form.specs.FileBytes.{PageBytes, byte_at, bytes_at}
use Rattle.sv_form.specs.declared.geometry.Geometry.{Geometry}
use Rattle.sv_store.specs.Held.{Held}
use Rattle.sv_bmap.specs.Tree.{no_hole, page_block}

-- byte r of a page: it stands in line r / 64 of the page's block, and is 0 in a hole
abbrev pub part_byte : Held → Option ℕ → ℕ → ℕ
part_byte h None r = 0
part_byte h (Some b) r = slice_index (unwrap_or (h b (r / 64)) []) (r % 64)

-- so many bytes of a page, from one on
unfoldable pub part_bytes : Held → Option ℕ → ℕ → ℕ → List ℕ
part_bytes h block from count = map (part_byte h block) (range_with_len from count)

-- the block of a page, none for a hole
abbrev pub block_of : Geometry → Held → List ℕ → ℕ → Option ℕ
block_of g h a page = no_hole (page_block g h a page)

-- this page, where it has a block, and else what comes after it
abbrev pub or_after : ℕ → Option ℕ → Option (ℕ × ℕ) → Option (ℕ × ℕ)
or_after page None after = after
or_after page (Some b) after = Some (page, b)

-- the first page that is present among so many pages, with its block
abbrev pub first_present : Geometry → Held → List ℕ → ℕ → ℕ → Option (ℕ × ℕ)
first_present g h a page zero = None
first_present g h a page (suc n) = or_after page (block_of g h a page) (first_present g h a (page + 1) n)

-- the first page that is present from one page on and before another
unfoldable pub present_before : Geometry → Held → List ℕ → ℕ → ℕ → Option (ℕ × ℕ)
present_before g h a page end = first_present g h a page (end - page)

-- the block of this page, where it is the one that is present
abbrev pub block_there : ℕ → Option (ℕ × ℕ) → Option ℕ
block_there page None = None
block_there page (Some present) = if present.0 == page then Some present.1 else None

-- the block of the page that is present
abbrev pub ahead_block : Option (ℕ × ℕ) → Option ℕ
ahead_block None = None
ahead_block (Some present) = Some present.1

-- the reader of the file's pages
abbrev pub page_bytes : Geometry → Held → List ℕ → PageBytes
page_bytes g h a = λ page r. part_byte h (block_of g h a page) r

-- byte k of the file
unfoldable pub file_byte : Geometry → Held → List ℕ → ℕ → ℕ
file_byte g h a k = byte_at g.block_size (page_bytes g h a) k

-- so many bytes of the file, from one on
unfoldable pub file_bytes : Geometry → Held → List ℕ → ℕ → ℕ → List ℕ
file_bytes g h a at count = bytes_at g.block_size (page_bytes g h a) at count
