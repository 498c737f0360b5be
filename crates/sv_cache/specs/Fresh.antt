-- Buffers that name no block yet are used before any other (Bach, chapter 3.3: the free list is used from its head).
use Rattle.std.specs.Prelude.{◌≡◌, ◌<◌, ◌≤◌, ℕ, false, List, [], ◌∷◌, Some, None, length, count_by, is_some}
use Rattle.sv_links.specs.Arrangement.{times}
use Rattle.sv_cache.specs.declared.scenario.Scenario.{Scenario}
use Rattle.sv_cache.specs.declared.scenario.Scenario.TheVariants.{Taken}
use Rattle.sv_cache.specs.declared.scenario.Release.{Release}
use Rattle.sv_cache.specs.declared.scenario.Release.TheVariants.{Valid, Old, Invalid, Delayed, FailedWrite}
use Rattle.sv_cache.specs.Cache.{Cache, buffer_at, is_delayed, IsFree}

-- buffer k names a block
abbrev pub Names : {D : Type 0} → Cache D → ℕ → Type 0
Names c k = (b : ℕ) × ((buffer_at c k).block ≡ Some b)

-- each buffer on the list names a block
abbrev pub AllName : {D : Type 0} → Cache D → List ℕ → Type 0
AllName c xs = (k : ℕ) → 0 < times k xs → Names c k

-- behind a buffer that names a block stands none that names none
abbrev pub NamedLast : {D : Type 0} → Cache D → List ℕ → Type 0
NamedLast c [] = Unit {0}
NamedLast c (k ∷ ks) = (Names c k → AllName c ks) × NamedLast c ks

-- A buffer that names no block is free and not delayed, and on the free list these stand first.
pub record IsFreshFirst {D : Type 0} (c : Cache D) : Type 0 where
  pub free : (k : ℕ) → k < length c.buffers → (buffer_at c k).block ≡ None → IsFree c k
  pub clean : (k : ℕ) → (buffer_at c k).block ≡ None → is_delayed c k ≡ false
  pub first : NamedLast c c.free

-- how many buffers name a block
abbrev pub named_count : {D : Type 0} → Cache D → ℕ
named_count c = count_by (λ x. is_some x.block) c.buffers

-- there are at least as many buffers as blocks, and fewer buffers than blocks name a block
pub record HasUnused {D : Type 0} (c : Cache D) : Type 0 where
  pub enough : c.geometry.blocks ≤ length c.buffers
  pub fewer : named_count c < c.geometry.blocks

-- the search took a buffer that named no block
pub record TakesUnused {D : Type 0} (c : Cache D) (found : Scenario) : Type 0 where
  pub buffer : ℕ
  pub taken : found ≡ Taken buffer
  pub unused : (buffer_at c buffer).block ≡ None

-- a release to the tail of the free list
abbrev pub IsToTail : Release → Type 0
IsToTail Valid = Unit {0}
IsToTail Delayed = Unit {0}
IsToTail Old = ⊥
IsToTail Invalid = ⊥
IsToTail FailedWrite = ⊥
