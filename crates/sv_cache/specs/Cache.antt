-- The buffer cache as it is drawn on paper (Bach, chapter 3.1): headers, and the free list.
use Rattle.std.specs.Prelude.{◌≡◌, ◌<◌, ◌≤◌, ◌==◌, ℕ, Bool, false, List, Option, Some, None, length, nat_lt, position, slice_index_or}
use Rattle.std.specs.Prelude.{replicate}
use Rattle.std.specs.List.{range_with_len}
use Rattle.sv_form.specs.declared.geometry.Geometry.{Geometry}
use Rattle.sv_links.specs.Arrangement.{times}

-- A buffer: the block that its header names, the header's flags, and its bytes while they are not lent out.
pub record Buffer : Type 0 where
  pub block : Option ℕ
  pub valid : Bool
  pub delayed : Bool
  pub marked : Bool
  pub bytes : Option (List ℕ)

-- The whole cache: all buffers by their number, the numbers of the free ones in the order of the free list, and the
-- device while it is not out.
pub record Cache (D : Type 0) : Type 0 where
  pub geometry : Geometry
  pub buffers : List Buffer
  pub free : List ℕ
  pub device : Option D

-- a buffer that names no block and has no bytes, read past the last buffer
abbrev pub no_buffer : Buffer
no_buffer = record { block = None; valid = false; delayed = false; marked = false; bytes = None }

-- the buffer with this number
abbrev pub buffer_at : {D : Type 0} → Cache D → ℕ → Buffer
buffer_at c k = slice_index_or c.buffers k no_buffer

-- whether the bytes of buffer k are still to be written
abbrev pub is_delayed : {D : Type 0} → Cache D → ℕ → Bool
is_delayed c k = (buffer_at c k).delayed

-- whether a header that may name a block names b
abbrev pub is_block : Option ℕ → ℕ → Bool
is_block None b = false
is_block (Some a) b = a == b

-- the number of the buffer that names block b
abbrev pub holder : {D : Type 0} → Cache D → ℕ → Option ℕ
holder c b = position (λ x. is_block x.block b) c.buffers

-- buffer k is on the free list
abbrev pub IsFree : {D : Type 0} → Cache D → ℕ → Type 0
IsFree c k = 0 < times k c.free

-- the same as a test
abbrev pub is_free : {D : Type 0} → Cache D → ℕ → Bool
is_free c k = nat_lt 0 (times k c.free)

-- buffer k is there and not on the free list
pub record IsBusy {D : Type 0} (c : Cache D) (k : ℕ) : Type 0 where
  pub in_range : k < length c.buffers
  pub busy : times k c.free ≡ 0

-- how many buffers a cache may have
pub record IsBufferCount (n : ℕ) : Type 0 where
  pub least : 4 ≤ n
  pub most : n ≤ 65536

-- a buffer that names no block, of zero bytes
abbrev pub new_buffer : ℕ → Buffer
new_buffer size = record { block = None; valid = false; delayed = false; marked = false; bytes = Some (replicate size 0) }

-- a new cache: no buffer names a block, all are free in ascending order, and the device is at home
abbrev pub new_cache : {D : Type 0} → D → ℕ → Geometry → Cache D
new_cache disk n g = record { geometry = g; buffers = replicate n (new_buffer g.block_size); free = range_with_len 0 n; device = Some disk }
