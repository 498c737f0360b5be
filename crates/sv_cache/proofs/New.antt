-- A new cache is lawful.
use Rattle.std.proofs.Common.{◌≡◌, ℕ, zero, suc, ◌<◌, List, [], ◌∷◌, length, get_or, replicate, Some, None, IsSome, refl, sym, ap, ◌∙◌, arith, inl, inr, subst}
use Rattle.std.specs.List.{range_with_len}
use Rattle.std.proofs.lemmas.Bool.{cases_lt}
use Rattle.std.proofs.lemmas.List.{get_or_past, get_or-replicate, length-replicate}
use Rattle.sv_links.specs.Arrangement.{Arrangement, list_at, times}
use Rattle.sv_links.proofs.Walk.{times-range_past, times-range_le}
use Rattle.sv_form.specs.declared.geometry.Geometry.{Geometry}
use Rattle.sv_cache.specs.declared.TheConstants.{HASH_QUEUES}
use Rattle.sv_cache.specs.declared.cache.Buffers.{Buffers}
use Rattle.sv_cache.specs.Cache.{Buffer, buffer_at, no_buffer, new_buffer, new_cache}
use Rattle.sv_cache.specs.Lawful.{IsLawful, IsKept, on_queue, cache}

-- a buffer of a new cache names no block
pub new-block : {D : Type 0} (d : D) (n : ℕ) (g : Geometry) (k : ℕ) → (buffer_at (new_cache d n g) k).block ≡ None
new-block d n g k =
    elim (cases_lt k n) [
      | inl h ↦ ap (λ (x : Buffer). x.block) (get_or-replicate n k (new_buffer g.block_size) no_buffer h)
      | inr h ↦ ap (λ (x : Buffer). x.block) (get_or_past (replicate n (new_buffer g.block_size)) k no_buffer (omega (arith, length-replicate n (new_buffer g.block_size))))
    ]

free-inside : (n k : ℕ) → 0 < times k (range_with_len 0 n) → k < n
free-inside n k on = elim (cases_lt k n) [ inl h ↦ h | inr h ↦ absurd (omega (arith, times-range_past k 0 n (omega arith))) ]

pub lawful-new : {D : Type 0} (d : D) (n : ℕ) (g : Geometry) → IsLawful (new_cache d n g)
lawful-new d n g = record {
  one_buffer = record { same = λ j k b p q. let none = new-block d n g j in absurd cc };
  one_state = record {
    once = λ k. times-range_le k 0 n;
    in_range = λ k on. omega (arith, free-inside n k on, length-replicate n (new_buffer g.block_size));
    home = λ k on. subst (λ (x : Buffer). IsSome x.bytes) (sym (get_or-replicate n k (new_buffer g.block_size) no_buffer (free-inside n k on))) refl;
  };
  whole = record {
    size = λ k bytes p. elim (cases_lt k n) [
      | inl h ↦
          let has = ap (λ (x : Buffer). x.bytes) (get_or-replicate n k (new_buffer g.block_size) no_buffer h) in
          let same : bytes ≡ replicate g.block_size 0 = cc in
          ap length same ∙ length-replicate g.block_size 0
      | inr h ↦
          let none = ap (λ (x : Buffer). x.bytes) (get_or_past (replicate n (new_buffer g.block_size)) k no_buffer (omega (arith, length-replicate n (new_buffer g.block_size)))) in
          absurd cc
    ];
  };
}

-- empty lists hold nothing
pub times-empty : (m q k : ℕ) → times k (get_or (replicate m []) q []) ≡ 0
times-empty zero q k = refl
times-empty (suc m) zero k = refl
times-empty (suc m) (suc q) k = times-empty m q k

-- what `new` puts together, seen as a cache
pub view-new : {D : Type 0} (a : Buffers D) (d : D) (n : ℕ) (g : Geometry) → a.headers.items ≡ replicate n (new_buffer g.block_size) → a.free ≡ record { numbers = n; lists = range_with_len 0 n ∷ [] } → a.geometry ≡ g → a.device ≡ Some d → cache a ≡ new_cache d n g
view-new a d n g headers free geometry device =
    let list : list_at a.free 0 ≡ range_with_len 0 n = ap (λ f. list_at f 0) free in
    cc

pub kept-new : {D : Type 0} (a : Buffers D) (d : D) (n : ℕ) (g : Geometry) → a.headers.items ≡ replicate n (new_buffer g.block_size) → a.queues ≡ record { numbers = n; lists = replicate HASH_QUEUES [] } → a.free ≡ record { numbers = n; lists = range_with_len 0 n ∷ [] } → a.geometry ≡ g → a.device ≡ Some d → IsKept a
kept-new a d n g headers queues free geometry device =
    let view = view-new a d n g headers free geometry device in
    let size : length a.headers.items ≡ n = ap length headers ∙ length-replicate n (new_buffer g.block_size) in
    record {
      lawful = subst (λ v. IsLawful v) (sym view) (lawful-new d n g);
      one_queue = record {
        queued = λ k q.
            let none : (buffer_at (cache a) k).block ≡ None = ap (λ v. (buffer_at v k).block) view ∙ new-block d n g k in
            ap (λ f. times k (list_at f q)) queues ∙ times-empty HASH_QUEUES q k ∙ sym (ap (λ o. on_queue o q) none);
      };
      lists = record {
        queues = ap (λ (f : Arrangement). length f.lists) queues ∙ length-replicate {A = List ℕ} HASH_QUEUES [];
        queued = ap (λ (f : Arrangement). f.numbers) queues ∙ sym size;
        free = ap (λ (f : Arrangement). length f.lists) free;
        freed = ap (λ (f : Arrangement). f.numbers) free ∙ sym size;
      };
    }
