-- One step of a pass: the state and its view change, and the rule holds with all other views as before.
use Rattle.std.proofs.Common.{◌≡◌, ◌≢◌, ◌+◌, ◌*◌, ◌<◌, ◌≤◌, ◌==◌, ◌&&◌, ℕ, false, cond, List, ◌∷◌, length, get_or, Option, Some, None, is_some, IsSome, IfSome, IfNone, refl, sym, ap, ◌∙◌, subst, arith, nat_lt}
use Rattle.std.specs.List.{sum_by, count_by, All}
use Rattle.std.proofs.lemmas.List.Sums.{sum_by-cons, get_or-le-sum_by}
use Rattle.std.proofs.lemmas.List.Elements.{All-cons, All-tail}
use Rattle.sv_dev.specs.Causes.{last_count}
use Rattle.sv_links.specs.Arrangement.{times, one_if}
use Rattle.sv_links.proofs.Times.{one-if_same}
use Rattle.sv_cache.specs.Cache.{Cache, Buffer, buffer_at, is_delayed}
use Rattle.sv_cache.proofs.Laws.{changed, changed-other}
use Rattle.sv_buf.specs.declared.state.State.{State}
use Rattle.sv_buf.specs.View.{View, Device, Opening, Lending, Moving, workers, faults, hits, outs, moving_times, devices}
use Rattle.sv_buf.specs.Running.{FaultsCaused, IsAway, IsLent, IsMoving, IsCurrent, IsSeen, IsKept, IsRunning}
use Rattle.sv_buf.proofs.Views.{All-each}

-- the faults that this view counts more are caused by the device
abbrev pub FaultsMove : Device → Device → View → View → Type 0
FaultsMove d e v w = e.faults < last_count → (d.faults + w.faults ≤ e.faults + v.faults) × (d.faults ≤ e.faults)

pub faults-moved : (opening : Opening) (d e : Device) (v w : View) (us : List View) → FaultsCaused opening d (v ∷ us)
    → FaultsMove d e v w → FaultsCaused opening e (w ∷ us)
faults-moved opening d e v w us h move = λ low.
    let m = move low in let a = m.0 in let b = m.1 in
    omega (arith, sum_by-cons faults v us, sum_by-cons faults w us, h (omega arith))

-- what the parts of the rule that count say of the caller's own part
pub record Counts {D : Type 0} (s t : State D) (v w : View) : Type 0 where
  pub buffers : length t.core.buffers ≡ length s.core.buffers
  pub sizes : t.core.geometry ≡ s.core.geometry
  pub state : (k : ℕ) → times k s.core.free + times k s.requests.waiting + outs k v ≡ times k t.core.free + times k t.requests.waiting +
      outs k w
  pub device : one_if (is_some s.core.device) + devices v ≡ one_if (is_some t.core.device) + devices w
  pub lines : (b l : ℕ) → hits b l w ≡ hits b l v
  pub workers : w.workers ≡ v.workers
  pub queued : (k : ℕ) → 0 < times k t.requests.waiting → IsSome (buffer_at t.core k).bytes

-- what another view notes is still so
abbrev pub Stays : {D : Type 0} → Cache D → (ℕ → List ℕ) → Device → Cache D → (ℕ → List ℕ) → Device → Opening → List View → Type 0
Stays c current d e next f opening us = (u : View) → ((g : View → ℕ) → g u ≤ sum_by g us) → IsSeen c current d opening u
    → IsSeen e next f opening u

pub step : {D : Type 0} (seen : D → Device) (s t : State D) (v w : View) (us : List View) (h : IsRunning seen s (v ∷ us))
    (kept : IsKept seen t) → kept.opening ≡ h.kept.opening → Counts s t v w → FaultsMove h.kept.device kept.device v w
    → IsSeen t.core kept.current kept.device h.kept.opening w → Stays s.core h.kept.current h.kept.device t.core kept.current
    kept.device h.kept.opening us → IsRunning seen t (w ∷ us)
step seen s t v w us h kept opening counts move mine others = record {
  kept = kept;
  each = subst (λ o. All (IsSeen t.core kept.current kept.device o) (w ∷ us)) (sym opening)
      (All-cons (IsSeen t.core kept.current kept.device h.kept.opening) w us mine (All-each
      (IsSeen s.core h.kept.current h.kept.device h.kept.opening) (IsSeen t.core kept.current kept.device h.kept.opening) us others
      (All-tail (IsSeen s.core h.kept.current h.kept.device h.kept.opening) v us h.each)));
  one_state = record {
    once = λ k.
        let e = counts.state k in
        let whole = h.one_state.once k in
        let same : one_if (nat_lt k (length t.core.buffers)) ≡ one_if (nat_lt k (length s.core.buffers)) = ap (λ n. one_if (nat_lt k n))
        counts.buffers in
        omega (arith, sum_by-cons (outs k) v us, sum_by-cons (outs k) w us);
    queued = counts.queued;
  };
  one_device = record {
    once = let e = counts.device in let whole = h.one_device.once in omega
        (arith, sum_by-cons devices v us, sum_by-cons devices w us);
  };
  lines_once = record {
    once = λ b l.
        let total : sum_by (hits b l) (w ∷ us) ≡ sum_by (hits b l) (v ∷ us) = sum_by-cons (hits b l) w us
        ∙ (ap (λ n. n + sum_by (hits b l) us) (counts.lines b l) ∙ sym (sum_by-cons (hits b l) v us)) in
        subst (λ g. sum_by (hits b l) (w ∷ us) ≡ one_if (nat_lt b g.blocks && nat_lt (l * 64) g.block_size)) (sym counts.sizes) (total
        ∙ h.lines_once.once b l);
  };
  faults_caused = subst (λ o. FaultsCaused o kept.device (w ∷ us)) (sym opening) (faults-moved h.kept.opening h.kept.device kept.device
      v w us h.faults_caused move);
  one_worker = let e = counts.workers in let whole = h.one_worker in omega (arith, sum_by-cons workers v us, sum_by-cons workers w us);
}

-- a buffer that waits is as it was where the one that changed does not wait
pub queued-apart : {D : Type 0} (c : Cache D) (k : ℕ) (x : Buffer) (free : List ℕ) (device : Option D) (waiting : List ℕ)
    → times k waiting ≡ 0 → ((j : ℕ) → 0 < times j waiting → IsSome (buffer_at c j).bytes) → (j : ℕ) → 0 < times j waiting
    → IsSome (buffer_at (record (changed c k x) { free = free; device = device }) j).bytes
queued-apart c k x free device waiting none all j on =
    let n : j ≢ k = (λ e. let z : times j waiting ≡ 0 = subst (λ i. times i waiting ≡ 0) (sym e) none in absurd (omega arith)) in
    subst (λ (y : Buffer). IsSome y.bytes) (sym (changed-other c k j x n)) (all j on)

-- an element of a list of loans is counted under its buffer
pub lent-counted : (xs : List Lending) (k : ℕ) (d : Lending) → k < length xs → 0 < count_by (λ x. x.buffer == (get_or xs k d).buffer) xs
lent-counted xs k d below =
    let one : cond ((get_or xs k d).buffer == (get_or xs k d).buffer) 1 0 ≡ 1 = one-if_same (get_or xs k d).buffer
    (get_or xs k d).buffer refl in
    let least = get_or-le-sum_by (λ (x : Lending). cond (x.buffer == (get_or xs k d).buffer) 1 0) xs k d below in
    omega (arith, one, least)

-- a buffer that this view has out is as it was
pub record SameAway {D : Type 0} (c : Cache D) (current : ℕ → List ℕ) (e : Cache D) (next : ℕ → List ℕ) (k b : ℕ) : Type 0 where
  pub out : IsAway e k b
  pub delayed : is_delayed e k ≡ is_delayed c k
  pub bytes : next b ≡ current b

lent-same : {D : Type 0} (c : Cache D) (current : ℕ → List ℕ) (e : Cache D) (next : ℕ → List ℕ) (x : Lending)
    → SameAway c current e next x.buffer x.block → IsLent c current x → IsLent e next x
lent-same c current e next x same h = record { out = same.out; bytes = h.bytes ∙ sym same.bytes }

moving-same : {D : Type 0} (c : Cache D) (current : ℕ → List ℕ) (e : Cache D) (next : ℕ → List ℕ) (m : Option Moving)
    → ((x : Moving) → m ≡ Some x → IsAway c x.buffer x.block → SameAway c current e next x.buffer x.block)
    → IfSome m (IsMoving c current) → IfSome m (IsMoving e next)
moving-same c current e next None same h = tt
moving-same c current e next (Some x) same h = let s = same x refl h.out in record {
  out = s.out;
  noted = noted x.bytes s h.noted;
  on_device = on x.bytes s h.on_device;
}
  where
    noted : (o : Option (List ℕ)) → SameAway c current e next x.buffer x.block → IfSome o (λ y. y ≡ current x.block)
        → IfSome o (λ y. y ≡ next x.block)
    noted None s q = tt
    noted (Some y) s q = q ∙ sym s.bytes

    on : (o : Option (List ℕ)) → SameAway c current e next x.buffer x.block → IfNone o (is_delayed c x.buffer ≡ false)
        → IfNone o (is_delayed e x.buffer ≡ false)
    on None s q = s.delayed ∙ q
    on (Some y) s q = tt

-- what a view notes is still so where the buffers that it has out are as they were, its lines are current, and so is its device
pub seen-changed : {D : Type 0} (c : Cache D) (current : ℕ → List ℕ) (d : Device) (e : Cache D) (next : ℕ
    → List ℕ) (f : Device) (opening : Opening) (u : View)
    → ((k b : ℕ) → 0 < outs k u → IsAway c k b → SameAway c current e next k b) → All (IsCurrent next) u.lines
    → IfSome u.device (λ x. x ≡ f)
    → IsSeen c current d opening u → IsSeen e next f opening u
seen-changed c current d e next f opening u away lines device h = record {
  opened = h.opened;
  lent = λ k x below. lent-same c current e next (get_or u.loans k x) (away (get_or u.loans k x).buffer (get_or u.loans k x).block
      (let m = lent-counted u.loans k x below in omega arith) (h.lent k x below).out) (h.lent k x below);
  moves = moving-same c current e next u.moving (λ x is out. away x.buffer x.block
      (let m : moving_times x.buffer u.moving ≡ 1 = ap (moving_times x.buffer) is
      ∙ one-if_same x.buffer x.buffer refl in omega arith) out) h.moves;
  device_seen = device;
  lines = lines;
}
