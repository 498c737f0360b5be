-- The buffer that names a block: by all headers, and by its hash queue.
use Rattle.std.proofs.Common.{◌≡◌, ℕ, ◌<◌, ◌%◌, List, [], ◌∷◌, Bool, true, false, length, find, ltb, Option, Some, None, refl, sym, ap, ◌∙◌, arith, inl, inr, subst, cond}
use Rattle.std.specs.List.{position_or_len, slice_get}
use Rattle.std.proofs.lemmas.Bool.{cases_lt, cases_Bool, cond-true, cond-false, eq-eqb, eqb-true, lt-ltb, le-ltb, ltb-true, ltb-false, false≢true, false_from_ne_true}
use Rattle.std.proofs.lemmas.List.{get_or_past}
use Rattle.std.proofs.lemmas.List.Sums.{position_or_len_is, passes_at_first}
use Rattle.sv_links.specs.Arrangement.{list_at, times}
use Rattle.sv_links.proofs.Times.{one-if_same}
use Rattle.sv_links.proofs.Walk.{find-some, find-none}
use Rattle.sv_cache.specs.declared.TheConstants.{HASH_QUEUES}
use Rattle.sv_cache.specs.declared.cache.Buffers.{Buffers}
use Rattle.sv_cache.specs.declared.scenario.Scenario.TheVariants.{Hit, Taken, Delayed, Empty, Busy}
use Rattle.sv_cache.specs.Cache.{Cache, Buffer, buffer_at, no_buffer, is_block, holder, is_free}
use Rattle.sv_cache.specs.Getblk.{scenario_of, meets, reuses, IsCause, IsUnnamed}
use Rattle.sv_cache.specs.Lawful.{IsLawful, IsKept, OneBufferABlock, on_queue, cache}

pub is_block-true : (o : Option ℕ) (b : ℕ) → is_block o b ≡ true → o ≡ Some b
is_block-true None b h = absurd (false≢true h)
is_block-true (Some a) b h = ap Some (eqb-true a b h)

pub is_block-same : (o : Option ℕ) (b : ℕ) → o ≡ Some b → is_block o b ≡ true
is_block-same o b h = ap (λ p. is_block p b) h ∙ eq-eqb b b refl

-- only a buffer that is there names a block
pub named-inside : {D : Type 0} (c : Cache D) (k b : ℕ) → (buffer_at c k).block ≡ Some b → k < length c.buffers
named-inside c k b h =
    elim (cases_lt k (length c.buffers)) [
      | inl inside ↦ inside
      | inr past ↦ let none : (buffer_at c k).block ≡ None = ap (λ (x : Buffer). x.block) (get_or_past c.buffers k no_buffer past) in absurd cc
    ]

pub holder-named : {D : Type 0} (c : Cache D) (k b : ℕ) → OneBufferABlock c → (buffer_at c k).block ≡ Some b → holder c b ≡ Some k
holder-named c k b one h =
    let inside = named-inside c k b h in
    let place : position_or_len (λ (x : Buffer). is_block x.block b) c.buffers ≡ k =
    position_or_len_is (λ (x : Buffer). is_block x.block b) c.buffers k no_buffer (omega arith)
    (λ j below. false_from_ne_true (is_block (buffer_at c j).block b) (λ t. let same : j ≡ k = one.same j k b (is_block-true (buffer_at c j).block b t) h in absurd (omega arith)))
    (λ _. is_block-same (buffer_at c k).block b h) in
    let e = cond-true (ltb (position_or_len (λ (x : Buffer). is_block x.block b) c.buffers) (length c.buffers)) (Some (position_or_len (λ (x : Buffer). is_block x.block b) c.buffers)) None (lt-ltb _ _ (omega arith)) in
    e ∙ ap Some place

pub holder-unnamed : {D : Type 0} (c : Cache D) (b : ℕ) → IsUnnamed c b → holder c b ≡ None
holder-unnamed c b unnamed =
    let place : position_or_len (λ (x : Buffer). is_block x.block b) c.buffers ≡ length c.buffers =
    position_or_len_is (λ (x : Buffer). is_block x.block b) c.buffers (length c.buffers) no_buffer (omega arith)
    (λ j below. false_from_ne_true (is_block (buffer_at c j).block b) (λ t. unnamed j (is_block-true (buffer_at c j).block b t)))
    (λ h. absurd (omega arith)) in
    cond-false (ltb (position_or_len (λ (x : Buffer). is_block x.block b) c.buffers) (length c.buffers)) (Some (position_or_len (λ (x : Buffer). is_block x.block b) c.buffers)) None (le-ltb _ _ (omega arith))

pub unnamed-holder : {D : Type 0} (c : Cache D) (b : ℕ) → OneBufferABlock c → holder c b ≡ None → IsUnnamed c b
unnamed-holder c b one h = λ j named. let e = holder-named c j b one named in absurd cc

pub named-holder : {D : Type 0} (c : Cache D) (k b : ℕ) → holder c b ≡ Some k → (buffer_at c k).block ≡ Some b
named-holder c k b h =
    elim (cases_lt (position_or_len (λ (x : Buffer). is_block x.block b) c.buffers) (length c.buffers)) [
      | inl inside ↦
          let e = cond-true (ltb (position_or_len (λ (x : Buffer). is_block x.block b) c.buffers) (length c.buffers)) (Some (position_or_len (λ (x : Buffer). is_block x.block b) c.buffers)) None (lt-ltb _ _ inside) in
          let same : position_or_len (λ (x : Buffer). is_block x.block b) c.buffers ≡ k = cc in
          is_block-true (buffer_at c k).block b (ap (λ i. is_block (buffer_at c i).block b) (sym same) ∙ passes_at_first (λ (x : Buffer). is_block x.block b) c.buffers no_buffer inside)
      | inr past ↦
          let e = cond-false (ltb (position_or_len (λ (x : Buffer). is_block x.block b) c.buffers) (length c.buffers)) (Some (position_or_len (λ (x : Buffer). is_block x.block b) c.buffers)) None (le-ltb _ _ past) in absurd cc
    ]

-- whether buffer k names block b
abbrev pub names : {D : Type 0} → Cache D → ℕ → ℕ → Bool
names c b k = is_block (buffer_at c k).block b

-- the hash queue of b has the buffer that names b, and no other buffer names it
queue-holder_by : {D : Type 0} (a : Buffers D) (b : ℕ) → IsKept a → (r : Option ℕ) → find (names (cache a) b) (list_at a.queues (b % HASH_QUEUES)) ≡ r → r ≡ holder (cache a) b
queue-holder_by a b kept None h =
    let unnamed : IsUnnamed (cache a) b = λ j named.
    let stands : times j (list_at a.queues (b % HASH_QUEUES)) ≡ 1 = kept.one_queue.queued j (b % HASH_QUEUES) ∙ ap (λ o. on_queue o (b % HASH_QUEUES)) named ∙ one-if_same (b % HASH_QUEUES) (b % HASH_QUEUES) refl in
    let fails = find-none (names (cache a) b) (list_at a.queues (b % HASH_QUEUES)) j h (omega arith) in
    let passes = is_block-same (buffer_at (cache a) j).block b named in
    absurd cc in
    sym (holder-unnamed (cache a) b unnamed)
queue-holder_by a b kept (Some k) h =
    let found = find-some (names (cache a) b) (list_at a.queues (b % HASH_QUEUES)) k h in
    sym (holder-named (cache a) k b kept.lawful.one_buffer (is_block-true (buffer_at (cache a) k).block b found.0))

pub queue-holder : {D : Type 0} (a : Buffers D) (b : ℕ) → IsKept a → find (names (cache a) b) (list_at a.queues (b % HASH_QUEUES)) ≡ holder (cache a) b
queue-holder a b kept = queue-holder_by a b kept (find (names (cache a) b) (list_at a.queues (b % HASH_QUEUES))) refl

-- what stands at the head of the free list
pub reuses-head : {D : Type 0} (c : Cache D) (free : List ℕ) (k : ℕ) → slice_get free 0 ≡ Some k → reuses c free ≡ cond (buffer_at c k).delayed (Delayed k) (Taken k)
reuses-head c [] k h = absurd cc
reuses-head c (j ∷ js) k h = let same : j ≡ k = cc in ap (λ i. cond (buffer_at c i).delayed (Delayed i) (Taken i)) same

pub reuses-empty : {D : Type 0} (c : Cache D) (free : List ℕ) → slice_get free 0 ≡ None → reuses c free ≡ Empty
reuses-empty c [] h = refl
reuses-empty c (j ∷ js) h = absurd cc

free-cause_by : {D : Type 0} (c : Cache D) (b k : ℕ) (ks : List ℕ) → IsUnnamed c b → c.free ≡ k ∷ ks → (t : Bool) → (buffer_at c k).delayed ≡ t → IsCause c b (cond t (Delayed k) (Taken k))
free-cause_by c b k ks unnamed is true e = (record { unnamed = unnamed; others = ks; head = is }, e)
free-cause_by c b k ks unnamed is false e = (record { unnamed = unnamed; others = ks; head = is }, e)

pub free-cause : {D : Type 0} (c : Cache D) (b : ℕ) → IsUnnamed c b → (free : List ℕ) → c.free ≡ free → IsCause c b (reuses c free)
free-cause c b unnamed [] is = (unnamed, is)
free-cause c b unnamed (k ∷ ks) is = free-cause_by c b k ks unnamed is (buffer_at c k).delayed refl

none_free : {D : Type 0} (c : Cache D) (k : ℕ) → is_free c k ≡ false → times k c.free ≡ 0
none_free c k e = omega (arith, ltb-false 0 (times k c.free) e)

held-cause : {D : Type 0} (c : Cache D) (b k : ℕ) → k < length c.buffers → (buffer_at c k).block ≡ Some b → IsCause c b (meets c (Some k))
held-cause c b k inside named =
    elim (cases_Bool (is_free c k)) [
      | inl e ↦ subst (λ r. IsCause c b r) (sym (cond-true (is_free c k) (Hit k) (Busy k) e)) (named, ltb-true 0 (times k c.free) e)
      | inr e ↦ subst (λ r. IsCause c b r) (sym (cond-false (is_free c k) (Hit k) (Busy k) e)) (named, record { in_range = inside; busy = none_free c k e })
    ]

cause_by : {D : Type 0} (c : Cache D) (b : ℕ) → IsLawful c → (h : Option ℕ) → holder c b ≡ h → IsCause c b (meets c h)
cause_by c b lawful None h = free-cause c b (unnamed-holder c b lawful.one_buffer h) c.free refl
cause_by c b lawful (Some k) h = let named = named-holder c k b h in held-cause c b k (named-inside c k b named) named

-- a search has the cause of the scenario that it meets
pub cause-scenario : {D : Type 0} (c : Cache D) (b : ℕ) → IsLawful c → IsCause c b (scenario_of c b)
cause-scenario c b lawful = cause_by c b lawful (holder c b) refl
