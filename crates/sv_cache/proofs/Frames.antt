-- What a call leaves of the buffers that it is not about, and what a search gives.
use Rattle.std.proofs.Common.{◌≡◌, ◌≢◌, ℕ, List, Option, Some, None, IsSome, IfSome, refl, sym, ap, ◌∙◌, arith, subst}
use Rattle.std.proofs.lemmas.List.{length-set}
use Rattle.sv_links.specs.Arrangement.{times, without}
use Rattle.sv_links.proofs.Times.{one-if_same, none-if_other, times-without_same, times-without_other}
use Rattle.sv_cache.specs.declared.scenario.Scenario.{Scenario}
use Rattle.sv_cache.specs.declared.scenario.Scenario.TheVariants.{Hit, Taken, Delayed, Empty, Busy}
use Rattle.sv_cache.specs.declared.scenario.Release.{Release}
use Rattle.sv_cache.specs.Cache.{Cache, Buffer, buffer_at, IsFree, IsBusy}
use Rattle.sv_cache.specs.Getblk.{after_search, renamed, IsCause, IsReused}
use Rattle.sv_cache.specs.Brelse.{after_lend, after_release, released}
use Rattle.sv_cache.specs.Held.{IsHeld, given}
use Rattle.sv_cache.specs.Lawful.{IsLawful}
use Rattle.sv_cache.proofs.Laws.{changed-same, changed-other, times-freed}

-- a held buffer is not the one at the head of the free list
head-free : {D : Type 0} (c : Cache D) (b k : ℕ) → IsReused c b k → IsFree c k
head-free c b k r = let one = one-if_same k k refl in let count = ap (times k) r.head in omega arith

held-other : {D : Type 0} (c : Cache D) (k j : ℕ) → IsHeld c k → IsFree c j → k ≢ j
held-other c k j h free = λ e. let none : times j c.free ≡ 0 = subst (λ i. times i c.free ≡ 0) e h.busy.busy in absurd (omega arith)

held-off : {D : Type 0} (c : Cache D) (k j : ℕ) → IsHeld c k → IsFree c j → IsHeld (record c { free = without j c.free }) k
held-off c k j h free = record {
  busy = record { in_range = h.busy.in_range; busy = times-without_other j k c.free (held-other c k j h free) ∙ h.busy.busy };
  home = h.home;
}

-- a search keeps what others hold
pub held-search : {D : Type 0} (c : Cache D) (b : ℕ) (r : Scenario) (k : ℕ) → IsCause c b r → IsHeld c k → IsHeld (after_search c b r) k
held-search c b (Hit j) k cause h = held-off c k j h cause.1
held-search c b (Delayed j) k cause h = held-off c k j h (head-free c b j cause.0)
held-search c b Empty k cause h = h
held-search c b (Busy j) k cause h = h
held-search c b (Taken j) k cause h =
    let free = head-free c b j cause.0 in
    let off = held-off c k j h free in
    let other = held-other c k j h free in
    record {
      busy = record { in_range = let inside = h.busy.in_range in omega (arith, length-set c.buffers j (renamed (buffer_at c j) b)); busy = off.busy.busy };
      home = subst (λ (x : Buffer). IsSome x.bytes) (sym (changed-other c j k (renamed (buffer_at c j) b) other)) h.home;
    }

free-held : {D : Type 0} (c : Cache D) (k : ℕ) → IsLawful c → IsFree c k → IsHeld (record c { free = without k c.free }) k
free-held c k lawful free = record {
  busy = record { in_range = lawful.one_state.in_range k free; busy = times-without_same k c.free };
  home = lawful.one_state.home k free;
}

-- a search gives a buffer that is held then
pub given-held : {D : Type 0} (c : Cache D) (b : ℕ) (r : Scenario) (k : ℕ) → IsLawful c → IsCause c b r → given r ≡ Some k → IsHeld (after_search c b r) k
given-held c b (Hit j) k lawful cause e = let same : j ≡ k = cc in subst (λ i. IsHeld (record c { free = without j c.free }) i) same (free-held c j lawful cause.1)
given-held c b (Delayed j) k lawful cause e = let same : j ≡ k = cc in subst (λ i. IsHeld (record c { free = without j c.free }) i) same (free-held c j lawful (head-free c b j cause.0))
given-held c b Empty k lawful cause e = absurd cc
given-held c b (Busy j) k lawful cause e = absurd cc
given-held c b (Taken j) k lawful cause e =
    let free = head-free c b j cause.0 in
    let held = free-held c j lawful free in
    let same : j ≡ k = cc in
    let x : Buffer = renamed (buffer_at c j) b in
    subst (λ i. IsHeld (after_search c b (Taken j)) i) same (record {
      busy = record { in_range = let inside = held.busy.in_range in omega (arith, length-set c.buffers j x); busy = held.busy.busy };
      home = subst (λ (y : Buffer). IsSome y.bytes) (sym (changed-same c j x (lawful.one_state.in_range j free))) held.home;
    })

if_some : (o : Option ℕ) (P : ℕ → Type 0) → ((k : ℕ) → o ≡ Some k → P k) → IfSome o P
if_some None P h = tt
if_some (Some k) P h = h k refl

-- the same, where the cache after the search is known to be d
pub given-if_held : {D : Type 0} (c d : Cache D) (b : ℕ) (r : Scenario) → IsLawful c → IsCause c b r → d ≡ after_search c b r → IfSome (given r) (IsHeld d)
given-if_held c d b r lawful cause is = if_some (given r) (IsHeld d) (λ k e. subst (λ v. IsHeld v k) (sym is) (given-held c b r k lawful cause e))

-- a buffer that is lent is still busy, and its bytes are out
pub lent-busy : {D : Type 0} (c : Cache D) (k : ℕ) → IsBusy c k → IsBusy (after_lend c k) k
lent-busy c k busy = record { in_range = let inside = busy.in_range in omega (arith, length-set c.buffers k (record (buffer_at c k) { bytes = None })); busy = busy.busy }

pub lent-out : {D : Type 0} (c : Cache D) (k : ℕ) → IsBusy c k → (buffer_at (after_lend c k) k).bytes ≡ None
lent-out c k busy = ap (λ (x : Buffer). x.bytes) (changed-same c k (record (buffer_at c k) { bytes = None }) busy.in_range)

pub held-lend : {D : Type 0} (c : Cache D) (k j : ℕ) → k ≢ j → IsHeld c k → IsHeld (after_lend c j) k
held-lend c k j other h = record {
  busy = record { in_range = let inside = h.busy.in_range in omega (arith, length-set c.buffers j (record (buffer_at c j) { bytes = None })); busy = h.busy.busy };
  home = subst (λ (x : Buffer). IsSome x.bytes) (sym (changed-other c j k (record (buffer_at c j) { bytes = None }) other)) h.home;
}

pub held-release : {D : Type 0} (c : Cache D) (k j : ℕ) (bytes : List ℕ) (how : Release) → k ≢ j → IsHeld c k → IsHeld (after_release c j bytes how) k
held-release c k j bytes how other h = record {
  busy = record {
    in_range = let inside = h.busy.in_range in omega (arith, length-set c.buffers j (released (buffer_at c j) bytes how));
    busy = let off = h.busy.busy in omega (arith, times-freed c.free j k how, none-if_other j k (λ e. other (sym e)));
  };
  home = subst (λ (x : Buffer). IsSome x.bytes) (sym (changed-other c j k (released (buffer_at c j) bytes how) other)) h.home;
}
