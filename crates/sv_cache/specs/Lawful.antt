-- What holds of the cache at all times (Bach, chapter 3.1 and 3.2).
use Rattle.std.specs.Prelude.{◌≡◌, ◌<◌, ◌≤◌, ◌==◌, ◌%◌, ℕ, List, Option, Some, None, length, IsSome}
use Rattle.sv_links.specs.Arrangement.{list_at, times, one_if}
use Rattle.sv_cache.specs.Cache.{Cache, buffer_at, IsFree}
use Rattle.sv_cache.specs.declared.TheConstants.{HASH_QUEUES}
use Rattle.sv_cache.specs.declared.cache.Buffers.{Buffers}

-- a block is named by at most one buffer
pub record OneBufferABlock {D : Type 0} (c : Cache D) : Type 0 where
  pub same : (j k b : ℕ) → (buffer_at c j).block ≡ Some b → (buffer_at c k).block ≡ Some b → j ≡ k

-- a buffer is free or busy: it is on the free list once, with its bytes, or not at all
pub record OneStateABuffer {D : Type 0} (c : Cache D) : Type 0 where
  pub once : (k : ℕ) → times k c.free ≤ 1
  pub in_range : (k : ℕ) → IsFree c k → k < length c.buffers
  pub home : (k : ℕ) → IsFree c k → IsSome (buffer_at c k).bytes

-- the bytes of a buffer are one block
pub record WholeBlocks {D : Type 0} (c : Cache D) : Type 0 where
  pub size : (k : ℕ) (bytes : List ℕ) → (buffer_at c k).bytes ≡ Some bytes → length bytes ≡ c.geometry.block_size

pub record IsLawful {D : Type 0} (c : Cache D) : Type 0 where
  pub one_buffer : OneBufferABlock c
  pub one_state : OneStateABuffer c
  pub whole : WholeBlocks c

-- how often a buffer whose header names this block, or none, stands on hash queue q
abbrev pub on_queue : Option ℕ → ℕ → ℕ
on_queue None q = 0
on_queue (Some b) q = one_if (b % HASH_QUEUES == q)

-- what is kept, seen as a cache
abbrev pub cache : {D : Type 0} → Buffers D → Cache D
cache a = record { geometry = a.geometry; buffers = a.headers.items; free = list_at a.free 0; device = a.device }

-- A buffer that names block b is on the hash queue of b once and on no other; one that names none is on no queue.
pub record OneQueue {D : Type 0} (a : Buffers D) : Type 0 where
  pub queued : (k q : ℕ) → times k (list_at a.queues q) ≡ on_queue (buffer_at (cache a) k).block q

-- the lists are as many and as long as they need be
pub record HasLists {D : Type 0} (a : Buffers D) : Type 0 where
  pub queues : length a.queues.lists ≡ HASH_QUEUES
  pub queued : a.queues.numbers ≡ length a.headers.items
  pub free : length a.free.lists ≡ 1
  pub freed : a.free.numbers ≡ length a.headers.items

pub record IsKept {D : Type 0} (a : Buffers D) : Type 0 where
  pub lawful : IsLawful (cache a)
  pub one_queue : OneQueue a
  pub lists : HasLists a
