-- All blocks with their bytes, in order, as vectors.
use Rattle.std.specs.Prelude.{ℕ, List, [], map}
use Rattle.std.specs.Global.{Vec}
use Rattle.std.specs.List.{slice_index_or}

-- the bytes of block b, none past the last block
unfoldable pub block_bytes : List (Vec ℕ) → ℕ → List ℕ
block_bytes content b = slice_index_or (map (λ bytes. bytes.items) content) b []
