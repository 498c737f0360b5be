-- What a search for a block meets, and what it does (Bach, chapter 3.3, algorithm getblk).
use Rattle.std.specs.Prelude.{◌≡◌, ℕ, true, false, List, [], ◌∷◌, Option, Some, None, slice_set, if◌then◌else◌}
use Rattle.sv_links.specs.Arrangement.{without}
use Rattle.sv_cache.specs.declared.scenario.Scenario.{Scenario}
use Rattle.sv_cache.specs.declared.scenario.Scenario.TheVariants.{Hit, Taken, Delayed, Empty, Busy}
use Rattle.sv_cache.specs.Cache.{Cache, Buffer, buffer_at, holder, is_delayed, is_free, IsFree, IsBusy}

-- the head of the free list is to be reused for a block that no buffer names
abbrev pub reuses : {D : Type 0} → Cache D → List ℕ → Scenario
reuses c [] = Empty
reuses c (k ∷ _) = if is_delayed c k then Delayed k else Taken k

abbrev pub meets : {D : Type 0} → Cache D → Option ℕ → Scenario
meets c (Some k) = if is_free c k then Hit k else Busy k
meets c None = reuses c c.free

-- the scenario that a search for block b meets
abbrev pub scenario_of : {D : Type 0} → Cache D → ℕ → Scenario
scenario_of c b = meets c (holder c b)

-- a buffer that is given to block b: it keeps its bytes, which say nothing of the block
abbrev pub renamed : Buffer → ℕ → Buffer
renamed x b = record { block = Some b; valid = false; delayed = false; marked = false; bytes = x.bytes }

-- the cache after a search for block b that met the scenario
abbrev pub after_search : {D : Type 0} → Cache D → ℕ → Scenario → Cache D
after_search c b (Hit k) = record c { free = without k c.free }
after_search c b (Delayed k) = record c { free = without k c.free }
after_search c b (Taken k) = record c { buffers = slice_set c.buffers k (renamed (buffer_at c k) b); free = without k c.free }
after_search c b Empty = c
after_search c b (Busy k) = c

-- no buffer names block b
abbrev pub IsUnnamed : {D : Type 0} → Cache D → ℕ → Type 0
IsUnnamed c b = (j : ℕ) → (buffer_at c j).block ≡ Some b → ⊥

-- buffer k stands at the head of the free list, and no buffer names block b
pub record IsReused {D : Type 0} (c : Cache D) (b k : ℕ) : Type 0 where
  pub unnamed : IsUnnamed c b
  pub others : List ℕ
  pub head : c.free ≡ k ∷ others

-- why a search for block b meets a scenario
abbrev pub IsCause : {D : Type 0} → Cache D → ℕ → Scenario → Type 0
IsCause c b (Hit k) = ((buffer_at c k).block ≡ Some b) × IsFree c k
IsCause c b (Busy k) = ((buffer_at c k).block ≡ Some b) × IsBusy c k
IsCause c b Empty = IsUnnamed c b × (c.free ≡ [])
IsCause c b (Delayed k) = IsReused c b k × (is_delayed c k ≡ true)
IsCause c b (Taken k) = IsReused c b k × (is_delayed c k ≡ false)
