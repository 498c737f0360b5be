-- What is kept stays a lawful cache over its lists.
use Rattle.std.proofs.Common.{◌≡◌, ℕ, ◌+◌, ◌<◌, ◌==◌, ◌%◌, List, [], ◌∷◌, ◌++◌, Bool, true, false, length, get_or, set, map, Some, None, refl, sym, ap, ◌∙◌, arith, inl, inr, subst, if◌then◌else◌, add-zero, zero-add}
use Rattle.std.specs.Vec.{with_item}
use Rattle.std.proofs.lemmas.Bool.{cases_eq, cond-true, cond-false, eq-eqb, ne_eqb}
use Rattle.std.proofs.lemmas.List.{get_or-set_same, get_or-set_other, get_or_read, length-set, length-map}
use Rattle.sv_links.specs.Arrangement.{Arrangement, list_at, times, without, one_if}
use Rattle.sv_links.proofs.Times.{get_or-without}
use Rattle.sv_links.proofs.Times.{times-without_same, times-without_other, times-push, one-if_same, none-if_other}
use Rattle.sv_cache.specs.declared.TheConstants.{HASH_QUEUES}
use Rattle.sv_cache.specs.declared.scenario.Release.{Release}
use Rattle.sv_cache.specs.declared.cache.Buffers.{Buffers}
use Rattle.sv_cache.specs.Cache.{Buffer, Cache, buffer_at, no_buffer, IsBusy}
use Rattle.sv_cache.specs.Getblk.{renamed, IsUnnamed}
use Rattle.sv_cache.specs.Brelse.{after_release, released, freed}
use Rattle.sv_cache.specs.Lawful.{IsLawful, IsKept, OneQueue, HasLists, on_queue, cache}
use Rattle.sv_cache.proofs.Laws.{changed, changed-same, changed-other, changed-block, lawful-lend, lawful-release, lawful-taken_off, lawful-renamed, released-block}

-- what stands behind a pointer is seen as what was read through it
pub seen : {D : Type 0} {a b : Buffers D} {v : Cache D} → b ≡ a → cache a ≡ v → cache b ≡ v
seen {v} is view = subst (λ x. cache x ≡ v) (sym is) view

pub kept_there : {D : Type 0} {a b : Buffers D} → b ≡ a → IsKept a → IsKept b
kept_there is kept = subst (λ x. IsKept x) (sym is) kept

-- what is read of a buffer is the buffer
pub header-buffer : {D : Type 0} (a : Buffers D) (k : ℕ) (x : Buffer) → k < length a.headers.items → x ≡ get_or a.headers.items k x → x ≡ buffer_at (cache a) k
header-buffer a k x inside at = get_or_read a.headers.items k x inside at no_buffer

lists-changed : {D : Type 0} (a : Buffers D) (k : ℕ) (x : Buffer) → HasLists a → HasLists (record a { headers = with_item a.headers k x })
lists-changed a k x has = record {
  queues = has.queues;
  queued = has.queued ∙ sym (length-set a.headers.items k x);
  free = has.free;
  freed = has.freed ∙ sym (length-set a.headers.items k x);
}

queue-changed : {D : Type 0} (a : Buffers D) (k : ℕ) (x : Buffer) → OneQueue a → k < length a.headers.items → x.block ≡ (buffer_at (cache a) k).block → OneQueue (record a { headers = with_item a.headers k x })
queue-changed a k x one inside same = record { queued = λ j q. one.queued j q ∙ ap (λ b. on_queue b q) (sym (changed-block (cache a) k x inside same j)) }

pub kept-lend : {D : Type 0} (a : Buffers D) (k : ℕ) (x : Buffer) → IsKept a → IsBusy (cache a) k → x ≡ record (buffer_at (cache a) k) { bytes = None } → IsKept (record a { headers = with_item a.headers k x })
kept-lend a k x kept busy is =
    let y : Buffer = record (buffer_at (cache a) k) { bytes = None } in
    subst (λ z. IsKept (record a { headers = with_item a.headers k z })) (sym is) (record {
      lawful = lawful-lend (cache a) k kept.lawful busy;
      one_queue = queue-changed a k y kept.one_queue busy.in_range refl;
      lists = lists-changed a k y kept.lists;
    })

pub view-release : {D : Type 0} (a : Buffers D) (k : ℕ) (bytes : List ℕ) (how : Release) (x : Buffer) (f : Arrangement) → x ≡ released (buffer_at (cache a) k) bytes how → list_at f 0 ≡ freed (list_at a.free 0) k how → cache (record a { headers = with_item a.headers k x; free = f }) ≡ after_release (cache a) k bytes how
view-release a k bytes how x f is free =
    ap (λ (y : Buffer). record (cache a) { buffers = set a.headers.items k y; free = list_at f 0 }) is
    ∙ ap (λ (l : List ℕ). record (cache a) { buffers = set a.headers.items k (released (buffer_at (cache a) k) bytes how); free = l }) free

pub kept-release : {D : Type 0} (a : Buffers D) (k : ℕ) (bytes : List ℕ) (how : Release) (x : Buffer) (f : Arrangement) → IsKept a → IsBusy (cache a) k → length bytes ≡ a.geometry.block_size → x ≡ released (buffer_at (cache a) k) bytes how → list_at f 0 ≡ freed (list_at a.free 0) k how → length f.lists ≡ 1 → f.numbers ≡ a.free.numbers → IsKept (record a { headers = with_item a.headers k x; free = f })
kept-release a k bytes how x f kept busy size is free one numbers = record {
  lawful = subst (λ v. IsLawful v) (sym (view-release a k bytes how x f is free)) (lawful-release (cache a) k bytes how kept.lawful busy size);
  one_queue = let q = queue-changed a k x kept.one_queue busy.in_range (ap (λ (y : Buffer). y.block) is ∙ released-block (buffer_at (cache a) k) bytes how) in record { queued = q.queued };
  lists = let l = lists-changed a k x kept.lists in record { queues = l.queues; queued = l.queued; free = one; freed = numbers ∙ l.freed };
}

-- the free list where it is ys now
pub list-set : (f : Arrangement) (ys : List ℕ) → length f.lists ≡ 1 → list_at (record f { lists = set f.lists 0 ys }) 0 ≡ ys
list-set f ys one = get_or-set_same f.lists 0 ys [] (omega arith)

-- buffer k is put on the free list, which is ys then
pub record Freed {D : Type 0} (a : Buffers D) (k : ℕ) (bytes : List ℕ) (how : Release) (x : Buffer) (f : Arrangement) (ys : List ℕ) : Type 0 where
  pub busy : IsBusy (cache a) k
  pub size : length bytes ≡ a.geometry.block_size
  pub buffer : x ≡ released (buffer_at (cache a) k) bytes how
  pub pushed : f ≡ record a.free { lists = set a.free.lists 0 ys }
  pub place : ys ≡ freed (list_at a.free 0) k how

freed-list : {D : Type 0} (a : Buffers D) (k : ℕ) (bytes : List ℕ) (how : Release) (x : Buffer) (f : Arrangement) (ys : List ℕ) → IsKept a → Freed a k bytes how x f ys → list_at f 0 ≡ freed (list_at a.free 0) k how
freed-list a k bytes how x f ys kept p = ap (λ g. list_at g 0) p.pushed ∙ list-set a.free ys kept.lists.free ∙ p.place

pub freed-kept : {D : Type 0} (a : Buffers D) (k : ℕ) (bytes : List ℕ) (how : Release) (x : Buffer) (f : Arrangement) (ys : List ℕ) → IsKept a → Freed a k bytes how x f ys → IsKept (record a { headers = with_item a.headers k x; free = f })
freed-kept a k bytes how x f ys kept p =
    kept-release a k bytes how x f kept p.busy p.size p.buffer (freed-list a k bytes how x f ys kept p)
    (ap (λ (g : Arrangement). length g.lists) p.pushed ∙ length-set a.free.lists 0 ys ∙ kept.lists.free)
    (ap (λ (g : Arrangement). g.numbers) p.pushed)

pub freed-view : {D : Type 0} (a : Buffers D) (k : ℕ) (bytes : List ℕ) (how : Release) (x : Buffer) (f : Arrangement) (ys : List ℕ) → IsKept a → Freed a k bytes how x f ys → cache (record a { headers = with_item a.headers k x; free = f }) ≡ after_release (cache a) k bytes how
freed-view a k bytes how x f ys kept p = view-release a k bytes how x f p.buffer (freed-list a k bytes how x f ys kept p)

-- the free list without k
pub list-unlinked : (f : Arrangement) (k : ℕ) → list_at (record f { lists = map (without k) f.lists }) 0 ≡ without k (list_at f 0)
list-unlinked f k = get_or-without k f.lists 0

pub view-taken_off : {D : Type 0} (a : Buffers D) (k : ℕ) (f : Arrangement) → f ≡ record a.free { lists = map (without k) a.free.lists } → cache (record a { free = f }) ≡ record (cache a) { free = without k (list_at a.free 0) }
view-taken_off a k f is = ap (λ (l : List ℕ). record (cache a) { free = l }) (ap (λ g. list_at g 0) is ∙ list-unlinked a.free k)

pub kept-taken_off : {D : Type 0} (a : Buffers D) (k : ℕ) (f : Arrangement) → IsKept a → f ≡ record a.free { lists = map (without k) a.free.lists } → IsKept (record a { free = f })
kept-taken_off a k f kept is = record {
  lawful = subst (λ v. IsLawful v) (sym (view-taken_off a k f is)) (lawful-taken_off (cache a) k kept.lawful);
  one_queue = record { queued = kept.one_queue.queued };
  lists = record {
    queues = kept.lists.queues;
    queued = kept.lists.queued;
    free = ap (λ (g : Arrangement). length g.lists) is ∙ length-map a.free.lists (without k) ∙ kept.lists.free;
    freed = ap (λ (g : Arrangement). g.numbers) is ∙ kept.lists.freed;
  };
}

-- n where a test holds
abbrev counted_if : Bool → ℕ → ℕ
counted_if t n = if t then n else 0

counted_if-zero : (t : Bool) → counted_if t 0 ≡ 0
counted_if-zero true = refl
counted_if-zero false = refl

-- buffer k is named by block b now, and stands at the tail of the hash queue of b
pub record Renamed {D : Type 0} (a : Buffers D) (k b : ℕ) (x : Buffer) (left moved : Arrangement) : Type 0 where
  pub inside : k < length a.headers.items
  pub unnamed : IsUnnamed (cache a) b
  pub buffer : x ≡ renamed (buffer_at (cache a) k) b
  pub left_all : left ≡ record a.queues { lists = map (without k) a.queues.lists }
  pub moved_to : moved ≡ record left { lists = set left.lists (b % HASH_QUEUES) (list_at left (b % HASH_QUEUES) ++ k ∷ []) }

pub left-lists : (f : Arrangement) (k : ℕ) → (q : ℕ) → list_at (record f { lists = map (without k) f.lists }) q ≡ without k (list_at f q)
left-lists f k q = get_or-without k f.lists q

pub left-absent : (f g : Arrangement) (k : ℕ) → g ≡ record f { lists = map (without k) f.lists } → (q : ℕ) → times k (list_at g q) ≡ 0
left-absent f g k is q = ap (λ h. times k (list_at h q)) is ∙ ap (times k) (left-lists f k q) ∙ times-without_same k (list_at f q)

-- how often a number stands on a queue, once k has moved
moved-times : {D : Type 0} (a : Buffers D) (k b : ℕ) (x : Buffer) (left moved : Arrangement) → IsKept a → Renamed a k b x left moved → (j r : ℕ) → times j (list_at moved r) ≡ times j (list_at left r) + counted_if (b % HASH_QUEUES == r) (one_if (k == j))
moved-times a k b x left moved kept p j r =
    let q : ℕ = b % HASH_QUEUES in
    let size : length left.lists ≡ HASH_QUEUES = ap (λ (g : Arrangement). length g.lists) p.left_all ∙ length-map a.queues.lists (without k) ∙ kept.lists.queues in
    let inside : q < length left.lists = omega arith in
    let lists : list_at moved r ≡ get_or (set left.lists q (list_at left q ++ k ∷ [])) r [] = ap (λ g. list_at g r) p.moved_to in
    elim (cases_eq q r) [
      | inl e ↦
          let here : list_at moved r ≡ list_at left r ++ k ∷ [] = lists ∙ ap (λ i. get_or (set left.lists q (list_at left q ++ k ∷ [])) i []) (sym e) ∙ get_or-set_same left.lists q (list_at left q ++ k ∷ []) [] inside ∙ ap (λ i. list_at left i ++ k ∷ []) e in
          ap (times j) here ∙ times-push k j (list_at left r) ∙ ap (λ n. times j (list_at left r) + n) (sym (cond-true (q == r) (one_if (k == j)) 0 (eq-eqb q r e)))
      | inr n ↦
          let there : list_at moved r ≡ list_at left r = lists ∙ get_or-set_other left.lists q r (list_at left q ++ k ∷ []) [] (λ s. n (sym s)) in
          ap (times j) there ∙ sym (add-zero (times j (list_at left r))) ∙ ap (λ m. times j (list_at left r) + m) (sym (cond-false (q == r) (one_if (k == j)) 0 (ne_eqb q r n)))
    ]

renamed-queue : {D : Type 0} (a : Buffers D) (k b : ℕ) (x : Buffer) (left moved : Arrangement) → IsKept a → Renamed a k b x left moved → (j r : ℕ) → times j (list_at moved r) ≡ on_queue (buffer_at (changed (cache a) k x) j).block r
renamed-queue a k b x left moved kept p j r =
    let count = moved-times a k b x left moved kept p j r in
    let before : list_at left r ≡ without k (list_at a.queues r) = ap (λ g. list_at g r) p.left_all ∙ left-lists a.queues k r in
    elim (cases_eq j k) [
      | inl e ↦
          let named : (buffer_at (changed (cache a) k x) j).block ≡ Some b = ap (λ (i : ℕ). (buffer_at (changed (cache a) k x) i).block) e ∙ ap (λ (y : Buffer). y.block) (changed-same (cache a) k x p.inside) ∙ ap (λ (y : Buffer). y.block) p.buffer in
          let none : times j (list_at left r) ≡ 0 = ap (times j) before ∙ subst (λ i. times i (without k (list_at a.queues r)) ≡ 0) (sym e) (times-without_same k (list_at a.queues r)) in
          let one : one_if (k == j) ≡ 1 = one-if_same k j (sym e) in
          count ∙ ap (λ n. n + counted_if (b % HASH_QUEUES == r) (one_if (k == j))) none ∙ zero-add _ ∙ ap (counted_if (b % HASH_QUEUES == r)) one ∙ sym (ap (λ o. on_queue o r) named)
      | inr n ↦
          let other : one_if (k == j) ≡ 0 = none-if_other k j (λ s. n (sym s)) in
          let nothing : counted_if (b % HASH_QUEUES == r) (one_if (k == j)) ≡ 0 = ap (counted_if (b % HASH_QUEUES == r)) other ∙ counted_if-zero (b % HASH_QUEUES == r) in
          let same : (buffer_at (changed (cache a) k x) j).block ≡ (buffer_at (cache a) j).block = ap (λ (y : Buffer). y.block) (changed-other (cache a) k j x n) in
          count ∙ ap (λ m. times j (list_at left r) + m) nothing ∙ add-zero (times j (list_at left r)) ∙ ap (times j) before ∙ times-without_other k j (list_at a.queues r) n ∙ kept.one_queue.queued j r ∙ sym (ap (λ o. on_queue o r) same)
    ]

pub renamed-kept : {D : Type 0} (a : Buffers D) (k b : ℕ) (x : Buffer) (left moved : Arrangement) → IsKept a → Renamed a k b x left moved → IsKept (record a { headers = with_item a.headers k x; queues = moved })
renamed-kept a k b x left moved kept p =
    let q = b % HASH_QUEUES in
    let l1 = lists-changed a k x kept.lists in
    record {
      lawful = let l = lawful-renamed (cache a) k b kept.lawful p.inside p.unnamed in subst (λ (y : Buffer). IsLawful (changed (cache a) k y)) (sym p.buffer) l;
      one_queue = record { queued = renamed-queue a k b x left moved kept p };
      lists = record {
        queues = ap (λ (g : Arrangement). length g.lists) p.moved_to ∙ length-set left.lists q (list_at left q ++ k ∷ []) ∙ ap (λ (g : Arrangement). length g.lists) p.left_all ∙ length-map a.queues.lists (without k) ∙ kept.lists.queues;
        queued = ap (λ (g : Arrangement). g.numbers) p.moved_to ∙ ap (λ (g : Arrangement). g.numbers) p.left_all ∙ l1.queued;
        free = l1.free;
        freed = l1.freed;
      };
    }

pub renamed-view : {D : Type 0} (a : Buffers D) (k b : ℕ) (x : Buffer) (left moved : Arrangement) → Renamed a k b x left moved → cache (record a { headers = with_item a.headers k x; queues = moved }) ≡ changed (cache a) k (renamed (buffer_at (cache a) k) b)
renamed-view a k b x left moved p = ap (changed (cache a) k) p.buffer
