-- What lending and release leave (Bach, chapter 3.3, algorithm brelse).
use Rattle.std.specs.Prelude.{ℕ, true, false, List, [], ◌∷◌, ◌++◌, Some, None, slice_set}
use Rattle.sv_cache.specs.declared.scenario.Release.{Release}
use Rattle.sv_cache.specs.declared.scenario.Release.TheVariants.{Valid, Old, Invalid, Delayed, FailedWrite}
use Rattle.sv_cache.specs.Cache.{Cache, Buffer, buffer_at}

-- the cache after the bytes of buffer k are moved out
abbrev pub after_lend : {D : Type 0} → Cache D → ℕ → Cache D
after_lend c k = record c { buffers = slice_set c.buffers k (record (buffer_at c k) { bytes = None }) }

-- the buffer after a release
abbrev pub released : Buffer → List ℕ → Release → Buffer
released x bytes Valid = record { block = x.block; valid = true; delayed = false; marked = false; bytes = Some bytes }
released x bytes Old = record { block = x.block; valid = true; delayed = false; marked = false; bytes = Some bytes }
released x bytes Invalid = record { block = x.block; valid = false; delayed = false; marked = false; bytes = Some bytes }
released x bytes Delayed = record { block = x.block; valid = true; delayed = true; marked = x.marked; bytes = Some bytes }
released x bytes FailedWrite = record { block = x.block; valid = true; delayed = true; marked = true; bytes = Some bytes }

-- the free list after buffer k is released: to the tail, or to the head where it should be reused soon
abbrev pub freed : List ℕ → ℕ → Release → List ℕ
freed free k Valid = free ++ k ∷ []
freed free k Delayed = free ++ k ∷ []
freed free k Old = k ∷ free
freed free k Invalid = k ∷ free
freed free k FailedWrite = k ∷ free

-- the cache after buffer k is released with these bytes
abbrev pub after_release : {D : Type 0} → Cache D → ℕ → List ℕ → Release → Cache D
after_release c k bytes how = record c { buffers = slice_set c.buffers k (released (buffer_at c k) bytes how); free = freed c.free k how }
