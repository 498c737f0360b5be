-- The bytes of a file that has direct blocks alone.
use Rattle.std.specs.Prelude.{ℕ, List, map, slice_index}
use Rattle.std.specs.List.{range_with_len}
use Rattle.sv_form.specs.declared.geometry.Geometry.{Geometry}
use Rattle.sv_form.specs.Number.{number24, number32}
use Rattle.sv_form.specs.Inode.{address_place}
use Rattle.sv_form.specs.FileBytes.{byte_at, block_byte}
use Rattle.sv_form.specs.Image.{block_of}

-- the size in bytes, and address k, that stand in the inode's bytes
abbrev pub size_of : List ℕ → ℕ
size_of inode = number32 inode 8

abbrev pub address_of : List ℕ → ℕ → ℕ
address_of inode k = number24 inode (address_place k)

-- byte k of the block that an address names, or 0 where the address is 0
unfoldable pub page_byte : Geometry → List ℕ → ℕ → ℕ → ℕ
page_byte g image address k = block_byte (λ b. slice_index (block_of g image b)) address k

-- byte k of a file whose pages stand at these addresses
unfoldable pub file_byte : Geometry → List ℕ → (ℕ → ℕ) → ℕ → ℕ
file_byte g image address k = byte_at g.block_size (λ p. page_byte g image (address p)) k

-- the bytes of a file of that size whose pages stand at these addresses
unfoldable pub file_bytes : Geometry → List ℕ → (ℕ → ℕ) → ℕ → List ℕ
file_bytes g image address size = map (file_byte g image address) (range_with_len 0 size)
