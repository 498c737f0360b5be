-- A buffer is taken off the free list, lent, queued for the worker, and comes back.
use Rattle.std.proofs.Common.{◌≡◌, ◌≢◌, ◌+◌, ◌<◌, ◌≤◌, ◌==◌, ℕ, Bool, true, false, cond, List, ◌∷◌, length, Option, Some, None, IfSome, IfNone, nat_lt, refl, sym, ap, ◌∙◌, subst, arith, inl, inr}
use Rattle.std.specs.List.{sum_by}
use Rattle.std.proofs.lemmas.Bool.{cases_eq}
use Rattle.std.proofs.lemmas.List.{length-set}
use Rattle.std.proofs.lemmas.List.Sums.{sum_by-cons}
use Rattle.std.proofs.lemmas.List.Elements.{All-cons, All-head}
use Rattle.sv_links.specs.Arrangement.{times, without, one_if}
use Rattle.sv_links.proofs.Times.{one-if_same, none-if_other, times-without_same, times-without_other}
use Rattle.sv_cache.specs.Cache.{Cache, Buffer, buffer_at, IsFree}
use Rattle.sv_cache.specs.Lawful.{IsLawful}
use Rattle.sv_cache.proofs.Laws.{changed, changed-same, changed-other}
use Rattle.sv_buf.specs.declared.state.State.{State}
use Rattle.sv_buf.specs.View.{View, Device, Lending, outs, moving_times}
use Rattle.sv_buf.specs.Changes.{moving_view, lent_view}
use Rattle.sv_buf.specs.Running.{IsAway, IsLent, IsMoving, IsSeen, IsKept, IsRunning}
use Rattle.sv_buf.proofs.Bytes.{TakesPlace, current-changed, current-as}
use Rattle.sv_buf.proofs.Steps.{step, SameAway, seen-changed, queued-apart}

-- no other view has out what stands on the free list, waits, or is out here
module _ {D : Type 0} where
  pub none_out : (seen : D → Device) (s : State D) (v : View) (us : List View) (h : IsRunning seen s (v ∷ us)) (k : ℕ)
      → 0 < times k s.core.free + times k s.requests.waiting + outs k v
      → (u : View) → ((g : View → ℕ) → g u ≤ sum_by g us) → outs k u ≡ 0
  none_out seen s v us h k some u below =
      let whole = h.one_state.once k in
      let mine = sum_by-cons (outs k) v us in
      let theirs = below (outs k) in
      let most : one_if (nat_lt k (length s.core.buffers)) ≤ 1 = at_most (nat_lt k (length s.core.buffers)) in
      omega arith
    where
      at_most : (t : Bool) → one_if t ≤ 1
      at_most true = omega arith
      at_most false = omega arith

  -- the caller's own view has out nothing of what stands on the free list
  pub none_out-mine : (seen : D → Device) (s : State D) (v : View) (us : List View) (h : IsRunning seen s (v ∷ us)) (k : ℕ)
      → 0 < times k s.core.free → (times k s.core.free ≡ 1) × (times k s.requests.waiting ≡ 0) × (outs k v ≡ 0)
  none_out-mine seen s v us h k some =
      let whole = h.one_state.once k in
      let mine = sum_by-cons (outs k) v us in
      let most : one_if (nat_lt k (length s.core.buffers)) ≤ 1 = at_most (nat_lt k (length s.core.buffers)) in
      (omega arith, omega arith, omega arith)
    where
      at_most : (t : Bool) → one_if t ≤ 1
      at_most true = omega arith
      at_most false = omega arith

  -- a buffer that is out and is not the one that changes is as it was
  pub apart-away : (c : Cache D) (current : ℕ → List ℕ) (k : ℕ) (x : Buffer) (free : List ℕ) (device : Option D) (u : View) → outs k u ≡ 0
      → (j b : ℕ) → 0 < outs j u → IsAway c j b → SameAway c current (record (changed c k x) { free = free; device = device }) current j b
  apart-away c current k x free device u none j b out away =
      let n : j ≢ k = (λ e. let z : outs j u ≡ 0 = subst (λ i. outs i u ≡ 0) (sym e) none in absurd (omega arith)) in
      let same = changed-other c k j x n in
      record {
        out = record { named = ap (λ (y : Buffer). y.block) same ∙ away.named; away = ap (λ (y : Buffer). y.bytes) same ∙ away.away };
        delayed = ap (λ (y : Buffer). y.delayed) same;
        bytes = refl;
      }

  -- nothing of the buffers changes
  pub same-away : (c : Cache D) (current : ℕ → List ℕ) (free : List ℕ) (device : Option D) (j b : ℕ) → IsAway c j b
      → SameAway c current (record c { free = free; device = device }) current j b
  same-away c current free device j b away = record { out = record { named = away.named; away = away.away }; delayed = refl; bytes = refl }

  -- what is kept where buffer k becomes x
  abbrev pub kept-changed : (seen : D → Device) (s : State D) (h : IsKept seen s) (k : ℕ) (x : Buffer) (free : List ℕ)
      → TakesPlace s.core h.current k x → IsLawful (record (changed s.core k x) { free = free })
      → IsKept seen (record s { core = record (changed s.core k x) { free = free } })
  kept-changed seen s h k x free place lawful = record {
    current = h.current;
    device = h.device;
    opening = h.opening;
    lawful = lawful;
    sizes = h.sizes;
    same_sizes = h.same_sizes;
    same_count = h.same_count ∙ sym (length-set s.core.buffers k x);
    few = omega (arith, h.few, length-set s.core.buffers k x);
    room = h.room ∙ sym (length-set s.core.buffers k x);
    bytes = current-as (changed s.core k x) (record (changed s.core k x) { free = free }) h.current h.device h.device refl refl refl
        (current-changed s.core h.current h.device k x h.bytes place);
    device_home = h.device_home;
  }

  -- the buffer that is taken: what it becomes, and what the view notes of it
  pub record Takes (c : Cache D) (current : ℕ → List ℕ) (k b : ℕ) (x : Buffer) (noted : Option (List ℕ)) : Type 0 where
    pub free : IsFree c k
    pub place : TakesPlace c current k x
    pub named : x.block ≡ Some b
    pub gone : x.bytes ≡ None
    pub bytes : IfSome noted (λ y. y ≡ current b)
    pub on_device : IfNone noted (x.delayed ≡ false)

  takes-at : (seen : D → Device) (s : State D) (v : View) (us : List View) (h : IsRunning seen s (v ∷ us)) (k b : ℕ) (x : Buffer)
      (noted : Option (List ℕ)) → v.moving ≡ None → Takes s.core h.kept.current k b x noted
      → IsLawful (record (changed s.core k x) { free = without k s.core.free })
      → IsRunning seen (record s { core = record (changed s.core k x) { free = without k s.core.free } }) (moving_view k b noted v ∷ us)
  takes-at seen s v us h k b x noted calm p lawful =
      let c = s.core in
      let mine = All-head (IsSeen s.core h.kept.current h.kept.device h.kept.opening) v us h.each in
      let alone = none_out-mine seen s v us h k p.free in
      let here : buffer_at (changed s.core k x) k ≡ x = changed-same s.core k x p.place.inside in
      step seen s (record s { core = record (changed s.core k x) { free = without k s.core.free } }) v (moving_view k b noted v) us h
      (kept-changed seen s h.kept k x (without k s.core.free) p.place lawful) refl
      (record {
        buffers = length-set s.core.buffers k x;
        sizes = refl;
        state = λ j. elim (cases_eq j k) [
          | inl e ↦
              let one : one_if (k == j) ≡ 1 = one-if_same k j (sym e) in
              let off : times j (without k s.core.free) ≡ 0 = subst (λ i. times i (without k s.core.free) ≡ 0) (sym e)
              (times-without_same k s.core.free) in
              let on : times j s.core.free ≡ 1 = subst (λ i. times i s.core.free ≡ 1) (sym e) alone.0 in
              let still : moving_times j v.moving ≡ 0 = ap (moving_times j) calm in
              omega arith
          | inr n ↦
              let none : one_if (k == j) ≡ 0 = none-if_other k j (λ q. n (sym q)) in
              let same = times-without_other k j s.core.free n in
              let still : moving_times j v.moving ≡ 0 = ap (moving_times j) calm in
              omega arith
        ];
        device = refl;
        lines = λ e l. refl;
        workers = refl;
        queued = queued-apart s.core k x (without k s.core.free) s.core.device s.requests.waiting alone.1 h.one_state.queued;
      })
      (λ low. (omega arith, omega arith))
      (record {
        opened = mine.opened;
        lent = (seen-changed s.core h.kept.current h.kept.device (record (changed s.core k x) { free = without k s.core.free })
            h.kept.current h.kept.device h.kept.opening v
            (apart-away s.core h.kept.current k x (without k s.core.free) s.core.device v alone.2) mine.lines mine.device_seen mine).lent;
        moves = record {
          out = record { named = ap (λ (y : Buffer). y.block) here ∙ p.named; away = ap (λ (y : Buffer). y.bytes) here ∙ p.gone };
          noted = p.bytes;
          on_device = subst (λ (y : Buffer). IfNone noted (y.delayed ≡ false)) (sym here) p.on_device;
        };
        device_seen = mine.device_seen;
        lines = mine.lines;
      })
      (λ u below q. seen-changed s.core h.kept.current h.kept.device (record (changed s.core k x) { free = without k s.core.free })
      h.kept.current h.kept.device h.kept.opening u
      (apart-away s.core h.kept.current k x (without k s.core.free) s.core.device u
      (none_out seen s v us h k (omega (arith, alone.0)) u below)) q.lines q.device_seen q)

  pub takes : (seen : D → Device) (s : State D) (e : Cache D) (v : View) (us : List View) (h : IsRunning seen s (v ∷ us)) (k b : ℕ)
      (x : Buffer) (noted : Option (List ℕ)) → v.moving ≡ None → Takes s.core h.kept.current k b x noted
      → e ≡ record (changed s.core k x) { free = without k s.core.free } → IsLawful e
      → IsRunning seen (record s { core = e }) (moving_view k b noted v ∷ us)
  takes seen s e v us h k b x noted calm p is lawful =
      subst (λ q. IsRunning seen (record s { core = q }) (moving_view k b noted v ∷ us)) (sym is)
      (takes-at seen s v us h k b x noted calm p (subst (λ q. IsLawful q) is lawful))

  -- the bytes that were taken are lent
  pub lends : (seen : D → Device) (s : State D) (v : View) (us : List View) (k b : ℕ) (bytes : List ℕ) → v.moving ≡ None
      → IsRunning seen s (moving_view k b (Some bytes) v ∷ us) → IsRunning seen s (lent_view k b bytes v ∷ us)
  lends seen s v us k b bytes calm h =
      let w = moving_view k b (Some bytes) v in
      let mine = All-head (IsSeen s.core h.kept.current h.kept.device h.kept.opening) (moving_view k b (Some bytes) v) us h.each in
      step seen s s (moving_view k b (Some bytes) v) (lent_view k b bytes v) us h h.kept refl
      (record {
        buffers = refl;
        sizes = refl;
        state = λ j.
            let still : moving_times j v.moving ≡ 0 = ap (moving_times j) calm in
            let more = sum_by-cons (λ (y : Lending). cond (y.buffer == j) 1 0) (record { buffer = k; block = b; bytes = bytes }) v.loans in
            omega arith;
        device = refl;
        lines = λ e l. refl;
        workers = refl;
        queued = h.one_state.queued;
      })
      (λ low. (omega arith, omega arith))
      (record {
        opened = mine.opened;
        lent = All-cons (IsLent s.core h.kept.current) (record { buffer = k; block = b; bytes = bytes }) v.loans
            (record { out = mine.moves.out; bytes = mine.moves.noted }) mine.lent;
        moves = subst (λ m. IfSome m (IsMoving s.core h.kept.current)) (sym calm) tt;
        device_seen = mine.device_seen;
        lines = mine.lines;
      })
      (λ u below q. q)
