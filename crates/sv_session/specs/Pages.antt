-- The bytes of a page, and what is gathered of them before it is written.
use Rattle.std.specs.Prelude.{◌≡◌, ◌≢◌, ◌⊎◌, ℕ, List, [], Option, map}
use Rattle.std.specs.List.{range_with_len}
use Rattle.sv_dev.specs.Told.{grown}
use Rattle.sv_form.specs.declared.geometry.Geometry.{Geometry}
use Rattle.sv_form.specs.Geometry.{IsDataBlock}
use Rattle.sv_plain.specs.Front.{page_byte}

-- an address is 0, which is a hole, or a data block
abbrev pub IsHoleOrData : Geometry → ℕ → Type 0
IsHoleOrData g address = address ≢ 0 → IsDataBlock g address

-- the bytes of the page that an address names, as many as a block has
abbrev pub page_bytes : Geometry → List ℕ → ℕ → List ℕ
page_bytes g image address = map (page_byte g image address) (range_with_len 0 g.block_size)

-- what was gathered is gathered still and nothing is written, or it is all written and nothing is gathered
abbrev pub IsGathered : (before after : Option (List ℕ)) (gathered left : List ℕ) → Type 0
IsGathered before after gathered left = ((after ≡ before) × (left ≡ gathered)) ⊎ ((after ≡ grown before gathered) × (left ≡ []))
