-- Buffers that name no block stay first on the free list, and are taken first.
use Rattle.std.proofs.Common.{◌≡◌, ℕ, suc, ◌+◌, ◌<◌, ◌==◌, List, [], ◌∷◌, ◌++◌, Bool, false, length, get_or, cond, count_by, replicate, Option, Some, None, refl, sym, ap, ◌∙◌, arith, inl, inr, subst}
use Rattle.std.specs.List.{range_with_len}
use Rattle.std.specs.Option.{is_some}
use Rattle.std.proofs.lemmas.Bool.{cases_eq, cases_lt, cases_Bool, cond-true, cond-false}
use Rattle.std.proofs.lemmas.List.{length-set, get_or-replicate, get_or_past, length-replicate}
use Rattle.std.proofs.lemmas.List.Sums.{sum_by-cons}
use Rattle.sv_links.specs.Arrangement.{times, without, one_if}
use Rattle.sv_links.proofs.Times.{one-if_same, none-if_other, times-without_same, times-without_other, times-push, without-cons_same, without-cons_other}
use Rattle.sv_links.proofs.Walk.{times-range_in}
use Rattle.sv_form.specs.declared.geometry.Geometry.{Geometry}
use Rattle.sv_cache.specs.declared.scenario.Scenario.{Scenario}
use Rattle.sv_cache.specs.declared.scenario.Scenario.TheVariants.{Hit, Taken, Delayed, Empty, Busy}
use Rattle.sv_cache.specs.declared.scenario.Release.{Release}
use Rattle.sv_cache.specs.declared.scenario.Release.TheVariants as release
use Rattle.sv_cache.specs.Cache.{Cache, Buffer, buffer_at, no_buffer, new_buffer, new_cache, is_delayed, IsFree, IsBusy}
use Rattle.sv_cache.specs.Getblk.{scenario_of, meets, reuses, after_search, renamed, IsCause, IsReused, IsUnnamed}
use Rattle.sv_cache.specs.Brelse.{after_lend, after_release, released, freed}
use Rattle.sv_cache.specs.Fresh.{Names, NamedLast, IsFreshFirst, HasUnused, TakesUnused, IsToTail, named_count}
use Rattle.sv_cache.specs.Lawful.{IsLawful}
use Rattle.sv_cache.proofs.Laws.{changed, changed-same, changed-other, changed-block, released-block}
use Rattle.sv_cache.proofs.Holder.{holder-unnamed}
use Rattle.sv_cache.proofs.New.{new-block}

-- what one cache names, another does
abbrev SameNames : {D : Type 0} → Cache D → Cache D → Type 0
SameNames c d = (k : ℕ) → (buffer_at d k).block ≡ (buffer_at c k).block

names-from : {D : Type 0} (c d : Cache D) (k : ℕ) → (buffer_at d k).block ≡ (buffer_at c k).block → Names c k → Names d k
names-from c d k same n = (n.0, same ∙ n.1)

-- on a list of buffers whose blocks stay
last-same : {D : Type 0} (c d : Cache D) (xs : List ℕ) → ((k : ℕ) → 0 < times k xs → (buffer_at d k).block ≡ (buffer_at c k).block) → NamedLast c xs → NamedLast d xs
last-same c d [] same h = tt
last-same c d (k ∷ ks) same h =
    let one = one-if_same k k refl in
    let here : (buffer_at d k).block ≡ (buffer_at c k).block = same k (omega arith) in (
      λ n. λ j on. names-from c d j (same j (omega arith)) (h.0 (names-from d c k (sym here) n) j on),
      last-same c d ks (λ j on. same j (omega arith)) h.1,
    )

less-without : (k j : ℕ) (xs : List ℕ) → 0 < times j (without k xs) → 0 < times j xs
less-without k j xs on =
    elim (cases_eq j k) [
      | inl e ↦ let z : times j (without k xs) ≡ 0 = subst (λ i. times i (without k xs) ≡ 0) (sym e) (times-without_same k xs) in absurd (omega arith)
      | inr n ↦ omega (arith, times-without_other k j xs n)
    ]

last-without : {D : Type 0} (c : Cache D) (k : ℕ) (xs : List ℕ) → NamedLast c xs → NamedLast c (without k xs)
last-without c k [] h = tt
last-without c k (x ∷ xs) h =
    elim (cases_eq x k) [
      | inl e ↦ subst (λ ys. NamedLast c ys) (sym (without-cons_same k x xs e)) (last-without c k xs h.1)
      | inr n ↦ subst (λ ys. NamedLast c ys) (sym (without-cons_other k x xs n)) (λ named. λ j on. h.0 named j (less-without k j xs on), last-without c k xs h.1)
    ]

last-push : {D : Type 0} (c : Cache D) (k : ℕ) (xs : List ℕ) → Names c k → NamedLast c xs → NamedLast c (xs ++ k ∷ [])
last-push c k [] named h = (λ _. λ j on. absurd (omega arith), tt)
last-push c k (x ∷ xs) named h = (
  λ n. λ j on. elim (cases_eq k j) [
    | inl e ↦ subst (λ i. Names c i) e named
    | inr d ↦ h.0 n j (omega (arith, times-push k j xs, none-if_other k j d))
  ],
  last-push c k xs named h.1,
)

-- a buffer that is delayed, or busy, names a block
named_by : (o : Option ℕ) → (o ≡ None → ⊥) → (b : ℕ) × (o ≡ Some b)
named_by None h = absurd (h refl)
named_by (Some b) h = (b, refl)

named-by : {D : Type 0} (c : Cache D) (k : ℕ) → ((buffer_at c k).block ≡ None → ⊥) → Names c k
named-by c k h = named_by (buffer_at c k).block h

fresh-off : {D : Type 0} (c : Cache D) (k : ℕ) → IsFreshFirst c → Names c k → IsFreshFirst (record c { free = without k c.free })
fresh-off c k fresh named = record {
  free = λ j inside none. elim (cases_eq j k) [
    | inl e ↦ let other : (buffer_at c k).block ≡ None = subst (λ i. (buffer_at c i).block ≡ None) e none in let is = named.1 in absurd cc
    | inr n ↦ omega (arith, times-without_other k j c.free n, fresh.free j inside none)
  ];
  clean = fresh.clean;
  first = last-same c (record c { free = without k c.free }) (without k c.free) (λ j on. refl) (last-without c k c.free fresh.first);
}

fresh-taken : {D : Type 0} (c : Cache D) (k b : ℕ) → IsLawful c → IsFreshFirst c → IsFree c k → IsFreshFirst (after_search c b (Taken k))
fresh-taken c k b lawful fresh on =
    let x : Buffer = renamed (buffer_at c k) b in
    let d = after_search c b (Taken k) in
    let inside = lawful.one_state.in_range k on in
    let at_k : (j : ℕ) → j ≡ k → (buffer_at d j).block ≡ Some b = λ j e. ap (λ (i : ℕ). (buffer_at d i).block) e ∙ ap (λ (y : Buffer). y.block) (changed-same c k x inside) in
    record {
      free = λ j in_range none. elim (cases_eq j k) [
        | inl e ↦ let is = at_k j e in absurd cc
        | inr n ↦
            let was : (buffer_at c j).block ≡ None = sym (ap (λ (y : Buffer). y.block) (changed-other c k j x n)) ∙ none in
            omega (arith, times-without_other k j c.free n, fresh.free j (omega (arith, length-set c.buffers k x)) was)
      ];
      clean = λ j none. elim (cases_eq j k) [
        | inl e ↦ let is = at_k j e in absurd cc
        | inr n ↦
            let was : (buffer_at c j).block ≡ None = sym (ap (λ (y : Buffer). y.block) (changed-other c k j x n)) ∙ none in
            ap (λ (y : Buffer). y.delayed) (changed-other c k j x n) ∙ fresh.clean j was
      ];
      first = last-same c d (without k c.free)
          (λ j there. elim (cases_eq j k) [
            | inl e ↦ let z : times j (without k c.free) ≡ 0 = subst (λ i. times i (without k c.free) ≡ 0) (sym e) (times-without_same k c.free) in absurd (omega arith)
            | inr n ↦ ap (λ (y : Buffer). y.block) (changed-other c k j x n)
          ])
          (last-without c k c.free fresh.first);
    }

head-is-free : {D : Type 0} (c : Cache D) (b k : ℕ) → IsReused c b k → IsFree c k
head-is-free c b k r = let one = one-if_same k k refl in let count = ap (times k) r.head in omega arith

-- a search keeps the unused buffers first
pub fresh-search : {D : Type 0} (c : Cache D) (b : ℕ) (r : Scenario) → IsLawful c → IsCause c b r → IsFreshFirst c → IsFreshFirst (after_search c b r)
fresh-search c b (Hit k) lawful cause fresh = fresh-off c k fresh (b, cause.0)
fresh-search c b (Delayed k) lawful cause fresh = fresh-off c k fresh (named-by c k (λ none. let clean = fresh.clean k none in let dirty = cause.1 in absurd cc))
fresh-search c b (Taken k) lawful cause fresh = fresh-taken c k b lawful fresh (head-is-free c b k cause.0)
fresh-search c b Empty lawful cause fresh = fresh
fresh-search c b (Busy k) lawful cause fresh = fresh

pub fresh-lend : {D : Type 0} (c : Cache D) (k : ℕ) → IsFreshFirst c → k < length c.buffers → IsFreshFirst (after_lend c k)
fresh-lend c k fresh inside =
    let x : Buffer = record (buffer_at c k) { bytes = None } in
    let blocks = changed-block c k x inside refl in
    record {
      free = λ j in_range none. fresh.free j (omega (arith, length-set c.buffers k x)) (sym (blocks j) ∙ none);
      clean = λ j none. elim (cases_eq j k) [
        | inl e ↦ ap (λ (i : ℕ). (buffer_at (changed c k x) i).delayed) e ∙ ap (λ (y : Buffer). y.delayed) (changed-same c k x inside) ∙ ap (λ (i : ℕ). (buffer_at c i).delayed) (sym e) ∙ fresh.clean j (sym (blocks j) ∙ none)
        | inr n ↦ ap (λ (y : Buffer). y.delayed) (changed-other c k j x n) ∙ fresh.clean j (sym (blocks j) ∙ none)
      ];
      first = last-same c (after_lend c k) c.free (λ j on. blocks j) fresh.first;
    }

to-tail : (free : List ℕ) (k : ℕ) (how : Release) → IsToTail how → freed free k how ≡ free ++ k ∷ []
to-tail free k release.Valid h = refl
to-tail free k release.Delayed h = refl
to-tail free k release.Old h = absurd h
to-tail free k release.Invalid h = absurd h
to-tail free k release.FailedWrite h = absurd h

-- a release to the tail keeps the unused buffers first
pub fresh-release : {D : Type 0} (c : Cache D) (k : ℕ) (bytes : List ℕ) (how : Release) → IsFreshFirst c → IsBusy c k → IsToTail how → IsFreshFirst (after_release c k bytes how)
fresh-release c k bytes how fresh busy tail =
    let x : Buffer = released (buffer_at c k) bytes how in
    let d = after_release c k bytes how in
    let blocks : (j : ℕ) → (buffer_at d j).block ≡ (buffer_at c j).block = changed-block c k x busy.in_range (released-block (buffer_at c k) bytes how) in
    let named = named-by c k (λ none. let free = fresh.free k busy.in_range none in let off = busy.busy in absurd (omega arith)) in
    let order = to-tail c.free k how tail in
    record {
      free = λ j in_range none.
          let was = fresh.free j (omega (arith, length-set c.buffers k x)) (sym (blocks j) ∙ none) in
          let count : times j (freed c.free k how) ≡ times j c.free + one_if (k == j) = ap (times j) order ∙ times-push k j c.free in
          omega arith;
      clean = λ j none. elim (cases_eq j k) [
        | inl e ↦ let other : (buffer_at c k).block ≡ None = subst (λ i. (buffer_at c i).block ≡ None) e (sym (blocks j) ∙ none) in let is = named.1 in absurd cc
        | inr n ↦ ap (λ (y : Buffer). y.delayed) (changed-other c k j x n) ∙ fresh.clean j (sym (blocks j) ∙ none)
      ];
      first = subst (λ ys. NamedLast d ys) (sym order) (last-same c d (c.free ++ k ∷ []) (λ j on. blocks j) (last-push c k c.free named fresh.first));
    }

last-none : {D : Type 0} (c : Cache D) (xs : List ℕ) → ((k : ℕ) → Names c k → ⊥) → NamedLast c xs
last-none c [] h = tt
last-none c (x ∷ xs) h = (λ n. absurd (h x n), last-none c xs h)

-- in a new cache no buffer is used yet
pub fresh-new : {D : Type 0} (d : D) (n : ℕ) (g : Geometry) → IsFreshFirst (new_cache d n g)
fresh-new d n g = record {
  free = λ k inside none. omega (arith, times-range_in k 0 n (omega arith) (omega (arith, length-replicate n (new_buffer g.block_size))));
  clean = λ k none. elim (cases_lt k n) [
    | inl h ↦ ap (λ (x : Buffer). x.delayed) (get_or-replicate n k (new_buffer g.block_size) no_buffer h)
    | inr h ↦ ap (λ (x : Buffer). x.delayed) (get_or_past (replicate n (new_buffer g.block_size)) k no_buffer (omega (arith, length-replicate n (new_buffer g.block_size))))
  ];
  first = last-none (new_cache d n g) (range_with_len 0 n) (λ k named. let none = new-block d n g k in let is = named.1 in absurd cc);
}

none-from : {X : Type 0} (o : Option X) → is_some o ≡ false → o ≡ None
none-from None h = refl
none-from (Some x) h = absurd cc

-- where not all pass, one fails
one-fails : (p : Buffer → Bool) (xs : List Buffer) → count_by p xs < length xs → (j : ℕ) × (j < length xs) × (p (get_or xs j no_buffer) ≡ false)
one-fails p [] h = absurd (omega arith)
one-fails p (x ∷ xs) h =
    elim (cases_Bool (p x)) [
      | inl e ↦
          let count : count_by p (x ∷ xs) ≡ 1 + count_by p xs = sum_by-cons (λ y. cond (p y) 1 0) x xs ∙ ap (λ n. n + count_by p xs) (cond-true (p x) 1 0 e) in
          let rest = one-fails p xs (omega arith) in
          let inside : rest.0 < length xs = rest.1 in
          (suc rest.0, omega arith, rest.2)
      | inr e ↦ (0, omega arith, e)
    ]

unused-head_by : {D : Type 0} (c : Cache D) (j k : ℕ) (ks : List ℕ) → IsFreshFirst c → j < length c.buffers → (buffer_at c j).block ≡ None → c.free ≡ k ∷ ks → (o : Option ℕ) → (buffer_at c k).block ≡ o → TakesUnused c (reuses c (k ∷ ks))
unused-head_by c j k ks fresh inside none is None at = record {
  buffer = k;
  taken = cond-false (is_delayed c k) (Delayed k) (Taken k) (fresh.clean k at);
  unused = at;
}
unused-head_by c j k ks fresh inside none is (Some b) at =
    let on : 0 < times j (k ∷ ks) = subst (λ ys. 0 < times j ys) is (fresh.free j inside none) in
    let order = subst (λ ys. NamedLast c ys) is fresh.first in
    elim (cases_eq k j) [
      | inl e ↦ let other : (buffer_at c j).block ≡ Some b = subst (λ i. (buffer_at c i).block ≡ Some b) e at in absurd cc
      | inr n ↦ let named = order.0 (b, at) j (omega (arith, none-if_other k j n)) in let is_named = named.1 in absurd cc
    ]

unused-head : {D : Type 0} (c : Cache D) (j : ℕ) → IsFreshFirst c → j < length c.buffers → (buffer_at c j).block ≡ None → (free : List ℕ) → c.free ≡ free → TakesUnused c (reuses c free)
unused-head c j fresh inside none [] is = let on = fresh.free j inside none in let count : times j c.free ≡ 0 = ap (times j) is in absurd (omega arith)
unused-head c j fresh inside none (k ∷ ks) is = unused-head_by c j k ks fresh inside none is (buffer_at c k).block refl

-- While a buffer names no block, a search for a block that no buffer names takes such a buffer.
pub takes-unused : {D : Type 0} (c : Cache D) (b : ℕ) → IsFreshFirst c → HasUnused c → IsUnnamed c b → TakesUnused c (scenario_of c b)
takes-unused c b fresh has unnamed =
    let free : named_count c < length c.buffers = let enough = has.enough in let fewer = has.fewer in omega arith in
    let found = one-fails (λ (x : Buffer). is_some x.block) c.buffers free in
    let head = unused-head c found.0 fresh found.1 (none-from (buffer_at c found.0).block found.2) c.free refl in
    subst (λ r. TakesUnused c r) (sym (ap (meets c) (holder-unnamed c b unnamed))) head

-- the device has no part in it
pub fresh-device : {D : Type 0} (c : Cache D) (o : Option D) → IsFreshFirst c → IsFreshFirst (record c { device = o })
fresh-device c o fresh = record {
  free = fresh.free;
  clean = fresh.clean;
  first = last-same c (record c { device = o }) c.free (λ j on. refl) fresh.first;
}
