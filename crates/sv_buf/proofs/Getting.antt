-- A search met a buffer: what may be left with then.
use Rattle.std.proofs.Common.{◌≡◌, ◌+◌, ◌<◌, ◌≤◌, ◌==◌, ◌++◌, ℕ, zero, suc, Bool, true, false, List, [], ◌∷◌, length, set, Option, Some, None, IsSome, IfSome, IfNone, refl, sym, ap, ◌∙◌, subst, arith, inl, inr, nat_lt}
use Rattle.std.specs.List.{sum_by}
use Rattle.std.proofs.lemmas.Bool.{cases_eq, ltb-true, false≢true, false_from_ne_true}
use Rattle.std.proofs.lemmas.List.{length-set}
use Rattle.std.proofs.lemmas.List.Sums.{sum_by-cons}
use Rattle.std.proofs.lemmas.List.Elements.{All-head}
use Rattle.sv_links.specs.Arrangement.{times, without, one_if}
use Rattle.sv_links.proofs.Times.{one-if_same, none-if_other, times-push, times-without_same, times-without_other, length-lt_numbers}
use Rattle.sv_turn.specs.declared.pass.Pass.{Pass}
use Rattle.sv_turn.specs.Passes.{pass_view, HasEntered}
use Rattle.sv_cache.specs.declared.scenario.Scenario.TheVariants as met
use Rattle.sv_cache.specs.declared.scenario.Release.{Release}
use Rattle.sv_cache.specs.declared.scenario.Release.TheVariants as how
use Rattle.sv_cache.specs.Cache.{Cache, Buffer, buffer_at, is_delayed, IsBusy}
use Rattle.sv_cache.specs.Getblk.{after_search, renamed, IsCause, IsReused}
use Rattle.sv_cache.specs.Brelse.{after_lend, after_release, released, freed}
use Rattle.sv_cache.specs.Lawful.{IsLawful}
use Rattle.sv_cache.proofs.Laws.{changed, changed-same, times-freed}
use Rattle.sv_cache.proofs.Holder.{named-inside}
use Rattle.sv_buf.specs.declared.state.State.{State}
use Rattle.sv_buf.specs.View.{View, Device, Moving, weight, outs, moving_times, lent_times}
use Rattle.sv_buf.specs.Changes.{calm_view, moving_view}
use Rattle.sv_buf.specs.Running.{IsMoving, IsSeen, IsRunning}
use Rattle.sv_buf.specs.Pending.{IsPending}
use Rattle.sv_buf.proofs.Bytes.{TakesPlace, current-as}
use Rattle.sv_buf.proofs.Steps.{step, seen-changed, queued-apart}
use Rattle.sv_buf.proofs.Taking.{none_out, none_out-mine, apart-away, kept-changed, Takes, takes, same-away}

-- a step from one state and view that may be left with to others
pub pending-step : {R S V : Type 0} (holds : S → List V → Type 0) (p : Pass R S V) (s t : S) (w x : V) → IsPending holds p s w
    → ((others : List V) → holds s (w ∷ others) → holds t (x ∷ others)) → IsPending holds p t x
pending-step holds p s t w x h f = record {
  may = (h.may.0, h.may.1, λ others q. f others (h.may.2 others q));
  others = h.others;
  so = f
      h.others h.so;
}

-- a pass that came in may leave with what it found
pub pending-entered : {R S V : Type 0} (holds : S → List V → Type 0) (p : Pass R S V) (s : S) (others : List V) → HasEntered p s
    → holds s (pass_view p ∷ others) → IsPending holds p s (pass_view p)
pending-entered holds p s others inside so = record { may = (s, inside, λ us q. q); others = others; so = so }

pub set-set : (xs : List Buffer) (k : ℕ) (x y : Buffer) → set (set xs k x) k y ≡ set xs k y
set-set [] k x y = refl
set-set (z ∷ zs) zero x y = refl
set-set (z ∷ zs) (suc k) x y = ap (λ (l : List Buffer). z ∷ l) (set-set zs k x y)

module _ {D : Type 0} where
  -- a free buffer whose block was looked for, with its bytes
  pub hit-takes : (seen : D → Device) (s : State D) (v : View) (us : List View) (h : IsRunning seen s (v ∷ us)) (k b : ℕ)
      (noted : Option (List ℕ)) → IsCause s.core b (met.Hit k)
      → IfSome noted (λ y. ((buffer_at s.core k).valid ≡ true) × ((buffer_at s.core k).bytes ≡ Some y))
      → IfNone noted ((buffer_at s.core k).valid ≡ false)
      → Takes s.core h.kept.current k b (record (buffer_at s.core k) { bytes = None }) noted
  hit-takes seen s v us h k b noted cause some none = record {
    free = cause.1;
    place = record {
      inside = named-inside s.core k b cause.0;
      in_range = h.kept.bytes.in_range k;
      home = λ e y named valid has. absurd (let q : None ≡ Some y = has in cc);
      valid = h.kept.bytes.delayed_valid k;
      stays = λ d. (d, refl);
    };
    named = cause.0;
    gone = refl;
    bytes = noted-is noted some;
    on_device = on noted none;
  }
    where
      noted-is : (o : Option (List ℕ)) → IfSome o (λ y. ((buffer_at s.core k).valid ≡ true) × ((buffer_at s.core k).bytes ≡ Some y))
          → IfSome o (λ y. y ≡ h.kept.current b)
      noted-is None q = tt
      noted-is (Some y) q = h.kept.bytes.home k b y cause.0 q.0 q.1

      on : (o : Option (List ℕ)) → IfNone o ((buffer_at s.core k).valid ≡ false)
          → IfNone o ((record (buffer_at s.core k) { bytes = None }).delayed ≡ false)
      on None q = false_from_ne_true (is_delayed s.core k) (λ d. false≢true (sym q ∙ h.kept.bytes.delayed_valid k d))
      on (Some y) q = tt

  pub hits_lent : (seen : D → Device) (s : State D) (c e : Cache D) (v : View) (us : List View) (h : IsRunning seen s (v ∷ us))
      (k b : ℕ) (noted : Option (List ℕ)) → v.moving ≡ None → IsCause s.core b (met.Hit k)
      → c ≡ after_search s.core b (met.Hit k) → e ≡ after_lend c k → IsLawful e
      → IfSome noted (λ y. ((buffer_at e k).valid ≡ true) × ((buffer_at c k).bytes ≡ Some y))
      → IfNone noted ((buffer_at e k).valid ≡ false) → IsRunning seen (record s { core = e }) (moving_view k b noted v ∷ us)
  hits_lent seen s c e v us h k b noted calm cause searched lent lawful some none =
      let inside = named-inside s.core k b cause.0 in
      let is : e ≡ after_lend (after_search s.core b (met.Hit k)) k = lent ∙ ap (λ q. after_lend q k) searched in
      let flag : (buffer_at e k).valid ≡ (buffer_at s.core k).valid = ap (λ q. (buffer_at q k).valid) is
      ∙ ap (λ (y : Buffer). y.valid) (changed-same s.core k (record (buffer_at s.core k) { bytes = None }) inside) in
      let had : (buffer_at c k).bytes ≡ (buffer_at s.core k).bytes = ap (λ q. (buffer_at q k).bytes) searched in
      takes seen s e v us h k b (record (buffer_at s.core k) { bytes = None }) noted calm
      (hit-takes seen s v us h k b noted cause (by noted flag had some) (at noted flag none)) is lawful
    where
      by : (o : Option (List ℕ)) → (buffer_at e k).valid ≡ (buffer_at s.core k).valid
          → (buffer_at c k).bytes ≡ (buffer_at s.core k).bytes → IfSome o (λ y. ((buffer_at e k).valid ≡ true) ×
          ((buffer_at c k).bytes ≡ Some y)) → IfSome o (λ y. ((buffer_at s.core k).valid ≡ true) × ((buffer_at s.core k).bytes ≡ Some y))
      by None flag had q = tt
      by (Some y) flag had q = (sym flag ∙ q.0, sym had ∙ q.1)

      at : (o : Option (List ℕ)) → (buffer_at e k).valid ≡ (buffer_at s.core k).valid → IfNone o ((buffer_at e k).valid ≡ false)
          → IfNone o ((buffer_at s.core k).valid ≡ false)
      at None flag q = sym flag ∙ q
      at (Some y) flag q = tt

  -- the head of the free list, which is not still to be written, for a block that no buffer names
  pub takes_lent : (seen : D → Device) (s : State D) (c e : Cache D) (v : View) (us : List View) (h : IsRunning seen s (v ∷ us))
      (k b : ℕ) → v.moving ≡ None → 0 < weight v → b < v.opening.sizes.blocks → IsCause s.core b (met.Taken k)
      → c ≡ after_search s.core b (met.Taken k) → e ≡ after_lend c k → IsLawful e
      → IsRunning seen (record s { core = e }) (moving_view k b None v ∷ us)
  takes_lent seen s c e v us h k b calm some low cause searched lent lawful =
      let mine = All-head (IsSeen s.core h.kept.current h.kept.device h.kept.opening) v us h.each in
      let sizes : v.opening.sizes ≡ s.core.geometry = ap (λ o. o.sizes) (mine.opened some) ∙ h.kept.same_sizes in
      let below : b < s.core.geometry.blocks = subst (λ g. b < g.blocks) sizes low in
      let at_head : times k s.core.free ≡ one_if (k == k) + times k cause.0.others = ap (times k) cause.0.head in
      let free : 0 < times k s.core.free = omega (arith, one-if_same k k refl) in
      let inside : k < length s.core.buffers = h.kept.lawful.one_state.in_range k free in
      let x : Buffer = record (renamed (buffer_at s.core k) b) { bytes = None } in
      let is : e ≡ after_lend (after_search s.core b (met.Taken k)) k = lent ∙ ap (λ q. after_lend q k) searched in
      let there : buffer_at (after_search s.core b (met.Taken k)) k ≡ renamed (buffer_at s.core k) b = changed-same s.core k
      (renamed (buffer_at s.core k) b) inside in
      let same : after_lend (after_search s.core b (met.Taken k)) k ≡ record (changed s.core k
      (record (renamed (buffer_at s.core k) b) { bytes = None })) { free = without k s.core.free } =
      ap (λ (y : Buffer). record s.core {
        buffers = set (set s.core.buffers k (renamed (buffer_at s.core k) b)) k
            (record y { bytes = None });
        free = without k s.core.free;
      }) there
      ∙ ap (λ l. record s.core { buffers = l; free = without k s.core.free }) (set-set s.core.buffers k (renamed (buffer_at s.core k) b)
      (record (renamed (buffer_at s.core k) b) { bytes = None })) in
      takes seen s e v us h k b (record (renamed (buffer_at s.core k) b) { bytes = None }) None calm
      (record {
        free = free;
        place = record {
          inside = inside;
          in_range = λ f named. let q : b ≡ f = cc in subst (λ i. i < s.core.geometry.blocks) q below;
          home = λ f y named valid has. absurd (false≢true valid);
          valid = λ d. absurd (false≢true d);
          stays = λ d. absurd (false≢true (sym cause.1 ∙ d));
        };
        named = refl;
        gone = refl;
        bytes = tt;
        on_device = refl;
      }) (is ∙ same) lawful

  -- a buffer that was taken for a block is not valid
  pub taken-unread : (seen : D → Device) (s : State D) (c e : Cache D) (ws : List View) (h : IsRunning seen s ws) (k b : ℕ)
      → IsCause s.core b (met.Taken k) → c ≡ after_search s.core b (met.Taken k) → e ≡ after_lend c k → (buffer_at e k).valid ≡ false
  taken-unread seen s c e ws h k b cause searched lent =
      let at_head : times k s.core.free ≡ one_if (k == k) + times k cause.0.others = ap (times k) cause.0.head in
      let free : 0 < times k s.core.free = omega (arith, one-if_same k k refl) in
      let inside : k < length s.core.buffers = h.kept.lawful.one_state.in_range k free in
      let still : k < length (after_search s.core b (met.Taken k)).buffers = omega
      (arith, inside, length-set s.core.buffers k (renamed (buffer_at s.core k) b)) in
      let is : e ≡ after_lend (after_search s.core b (met.Taken k)) k = lent ∙ ap (λ q. after_lend q k) searched in
      let there : buffer_at (after_search s.core b (met.Taken k)) k ≡ renamed (buffer_at s.core k) b = changed-same s.core k
      (renamed (buffer_at s.core k) b) inside in
      ap (λ q. (buffer_at q k).valid) is
      ∙ (ap (λ (y : Buffer). y.valid) (changed-same (after_search s.core b (met.Taken k)) k
      (record (buffer_at (after_search s.core b (met.Taken k)) k) { bytes = None }) still)
      ∙ ap (λ (y : Buffer). y.valid) there)

  -- the head of the free list, which is still to be written, is queued for the worker
  pub queues : (seen : D → Device) (s : State D) (c : Cache D) (v : View) (us : List View) (h : IsRunning seen s (v ∷ us)) (k b : ℕ)
      (waiting : List ℕ) → IsCause s.core b (met.Delayed k) → c ≡ after_search s.core b (met.Delayed k) → IsLawful c
      → waiting ≡ s.requests.waiting ++ k ∷ [] → IsRunning seen (record s
      { core = c; requests = record s.requests { waiting = waiting } }) (v ∷ us)
  queues seen s c v us h k b waiting cause searched lawful queued =
      subst (λ q. IsRunning seen (record s { core = q; requests = record s.requests { waiting = waiting } }) (v ∷ us)) (sym searched)
      (subst (λ w. IsRunning seen (record s {
        core = record s.core { free = without k s.core.free };
        requests = record s.requests
            { waiting = w };
      }) (v ∷ us)) (sym queued) at)
    where
      at : IsRunning seen (record s {
        core = record s.core { free = without k s.core.free };
        requests = record s.requests
            { waiting = s.requests.waiting ++ k ∷ [] };
      }) (v ∷ us)
      at =
          let mine = All-head (IsSeen s.core h.kept.current h.kept.device h.kept.opening) v us h.each in
          let at_head : times k s.core.free ≡ one_if (k == k) + times k cause.0.others = ap (times k) cause.0.head in
          let free : 0 < times k s.core.free = omega (arith, one-if_same k k refl) in
          let alone = none_out-mine seen s v us h k free in
          step seen s (record s {
            core = record s.core { free = without k s.core.free };
            requests = record s.requests
                { waiting = s.requests.waiting ++ k ∷ [] };
          }) v v us h
          (record {
            current = h.kept.current;
            device = h.kept.device;
            opening = h.kept.opening;
            lawful = subst (λ q. IsLawful q) searched lawful;
            sizes = h.kept.sizes;
            same_sizes = h.kept.same_sizes;
            same_count = h.kept.same_count;
            few = h.kept.few;
            room = h.kept.room;
            bytes = current-as s.core (record s.core { free = without k s.core.free }) h.kept.current h.kept.device h.kept.device refl
                refl refl h.kept.bytes;
            device_home = h.kept.device_home;
          }) refl
          (record {
            buffers = refl;
            sizes = refl;
            state = λ j. elim (cases_eq j k) [
              | inl e ↦
                  let one : one_if (k == j) ≡ 1 = one-if_same k j (sym e) in
                  let off : times j (without k s.core.free) ≡ 0 = subst (λ i. times i (without k s.core.free) ≡ 0) (sym e)
                  (times-without_same k s.core.free) in
                  let on : times j s.core.free ≡ 1 = subst (λ i. times i s.core.free ≡ 1) (sym e) alone.0 in
                  omega (arith, times-push k j s.requests.waiting)
              | inr n ↦
                  let none : one_if (k == j) ≡ 0 = none-if_other k j (λ q. n (sym q)) in
                  let same = times-without_other k j s.core.free n in
                  omega (arith, times-push k j s.requests.waiting)
            ];
            device = refl;
            lines = λ e l. refl;
            workers = refl;
            queued = λ j on. elim (cases_eq j k) [
              | inl e ↦ subst (λ i. IsSome (buffer_at s.core i).bytes) (sym e) (h.kept.lawful.one_state.home k free)
              | inr n ↦
                  let none : one_if (k == j) ≡ 0 = none-if_other k j (λ q. n (sym q)) in
                  h.one_state.queued j (omega (arith, times-push k j s.requests.waiting))
            ];
          })
          (λ low. (omega arith, omega arith))
          (seen-changed s.core h.kept.current h.kept.device (record s.core { free = without k s.core.free }) h.kept.current
          h.kept.device h.kept.opening v
          (λ j f out away. same-away s.core h.kept.current (without k s.core.free) s.core.device j f away) mine.lines mine.device_seen mine)
          (λ u below q. seen-changed s.core h.kept.current h.kept.device (record s.core { free = without k s.core.free }) h.kept.current
          h.kept.device h.kept.opening u
          (λ j f out away. same-away s.core h.kept.current (without k s.core.free) s.core.device j f away) q.lines q.device_seen q)

  -- there is room for a buffer in the queue
  pub has_room : (seen : D → Device) (s : State D) (v : View) (us : List View) (h : IsRunning seen s (v ∷ us)) (k b : ℕ)
      → IsReused s.core b k → length s.requests.waiting < s.requests.capacity
  has_room seen s v us h k b cause =
      let at_head : times k s.core.free ≡ one_if (k == k) + times k cause.others = ap (times k) cause.head in
      let free : 0 < times k s.core.free = omega (arith, one-if_same k k refl) in
      let alone = none_out-mine seen s v us h k free in
      let few : length s.requests.waiting < length s.core.buffers = length-lt_numbers (length s.core.buffers) s.requests.waiting k
      (λ y. once y (nat_lt y (length s.core.buffers)) (h.one_state.once y))
      (λ y on. inside y (nat_lt y (length s.core.buffers)) refl on (h.one_state.once y))
      alone.1 (h.kept.lawful.one_state.in_range k free) in
      subst (λ n. length s.requests.waiting < n) (sym h.kept.room) few
    where
      once : (y : ℕ) (t : Bool) → times y s.core.free + times y s.requests.waiting + sum_by (outs y) (v ∷ us) ≡ one_if t
          → times y s.requests.waiting ≤ 1
      once y true e = omega arith
      once y false e = omega arith

      inside : (y : ℕ) (t : Bool) → nat_lt y (length s.core.buffers) ≡ t → 0 < times y s.requests.waiting
          → times y s.core.free + times y s.requests.waiting + sum_by (outs y) (v ∷ us) ≡ one_if (nat_lt y (length s.core.buffers))
          → y < length s.core.buffers
      inside y true at on e = ltb-true y (length s.core.buffers) at
      inside y false at on e = let z : one_if (nat_lt y (length s.core.buffers)) ≡ 0 = ap one_if at in absurd (omega arith)

  -- the buffer that is in transfer here is busy, and its bytes are out
  pub record MovingHere (s : State D) (w : View) (k : ℕ) : Type 0 where
    pub busy : IsBusy s.core k
    pub away : (buffer_at s.core k).bytes ≡ None
    pub size : s.core.geometry.block_size ≡ 1024

  pub moving-here : (seen : D → Device) (s : State D) (v : View) (us : List View) (h : IsRunning seen s (v ∷ us)) (m : Moving)
      → v.moving ≡ Some m → MovingHere s v m.buffer
  moving-here seen s v us h m at =
      let mine = All-head (IsSeen s.core h.kept.current h.kept.device h.kept.opening) v us h.each in
      let moves = subst (λ o. IfSome o (IsMoving s.core h.kept.current)) at mine.moves in
      let whole = h.one_state.once m.buffer in
      let part = sum_by-cons (outs m.buffer) v us in
      let one : moving_times m.buffer v.moving ≡ 1 = ap (moving_times m.buffer) at ∙ one-if_same m.buffer m.buffer refl in
      let most = at_most (nat_lt m.buffer (length s.core.buffers)) in
      record {
        busy = record { in_range = named-inside s.core m.buffer m.block moves.out.named; busy = omega arith };
        away = moves.out.away;
        size = h.kept.sizes.block_size;
      }
    where
      at_most : (t : Bool) → one_if t ≤ 1
      at_most true = omega arith
      at_most false = omega arith

  -- a buffer that was to be read comes back
  pub given-read : (seen : D → Device) (s : State D) (v : View) (us : List View) (k b : ℕ) (bytes : List ℕ) (way : Release)
      (h : IsRunning seen s (moving_view k b None v ∷ us)) → v.moving ≡ None
      → TakesPlace s.core h.kept.current k (released (buffer_at s.core k) bytes way)
      → IsLawful (after_release s.core k bytes way)
      → IsRunning seen (record s { core = after_release s.core k bytes way }) (v ∷ us)
  given-read seen s v us k b bytes way h calm place legal =
      let mine = All-head (IsSeen s.core h.kept.current h.kept.device h.kept.opening) (moving_view k b None v) us h.each in
      let out : outs k (moving_view k b None v) ≡ lent_times k v + 1 = ap (λ n. lent_times k v + n) (one-if_same k k refl) in
      let whole = h.one_state.once k in
      let part = sum_by-cons (outs k) (moving_view k b None v) us in
      let most = at_most (nat_lt k (length s.core.buffers)) in
      let still : moving_times k v.moving ≡ 0 = ap (moving_times k) calm in
      let none : outs k v ≡ 0 = omega arith in
      let as_v : IsSeen s.core h.kept.current h.kept.device h.kept.opening v = record {
        opened = mine.opened;
        lent = mine.lent;
        moves = subst (λ m. IfSome m (IsMoving s.core h.kept.current)) (sym calm) tt;
        device_seen = mine.device_seen;
        lines = mine.lines;
      } in
      step seen s (record s { core = after_release s.core k bytes way }) (moving_view k b None v) v us h
      (kept-changed seen s h.kept k (released (buffer_at s.core k) bytes way) (freed s.core.free k way) place legal) refl
      (record {
        buffers = length-set s.core.buffers k (released (buffer_at s.core k) bytes way);
        sizes = refl;
        state = λ j. let quiet : moving_times j v.moving ≡ 0 = ap (moving_times j) calm in omega
            (arith, times-freed s.core.free k j way);
        device = refl;
        lines = λ f l. refl;
        workers = refl;
        queued = queued-apart s.core k (released (buffer_at s.core k) bytes way) (freed s.core.free k way)
            s.core.device s.requests.waiting (omega arith) h.one_state.queued;
      })
      (λ low. (omega arith, omega arith))
      (seen-changed s.core h.kept.current h.kept.device (after_release s.core k bytes way) h.kept.current h.kept.device
      h.kept.opening v
      (apart-away s.core h.kept.current k (released (buffer_at s.core k) bytes way) (freed s.core.free k way)
      s.core.device v none) mine.lines mine.device_seen as_v)
      (λ u below q. seen-changed s.core h.kept.current h.kept.device (after_release s.core k bytes way) h.kept.current
      h.kept.device h.kept.opening u
      (apart-away s.core h.kept.current k (released (buffer_at s.core k) bytes way) (freed s.core.free k way)
      s.core.device u
      (none_out seen s (moving_view k b None v) us h k (omega arith) u below)) q.lines q.device_seen q)
    where
      at_most : (t : Bool) → one_if t ≤ 1
      at_most true = omega arith
      at_most false = omega arith

  -- it comes back with bytes that say nothing
  pub unread-place : (seen : D → Device) (s : State D) (v : View) (us : List View) (k b : ℕ) (bytes : List ℕ)
      (h : IsRunning seen s (moving_view k b None v ∷ us))
      → TakesPlace s.core h.kept.current k (released (buffer_at s.core k) bytes how.Invalid)
  unread-place seen s v us k b bytes h =
      let mine = All-head (IsSeen s.core h.kept.current h.kept.device h.kept.opening) (moving_view k b None v) us h.each in
      record {
        inside = named-inside s.core k b mine.moves.out.named;
        in_range = h.kept.bytes.in_range k;
        home = λ f y named valid has. absurd (false≢true valid);
        valid = λ d. absurd (false≢true d);
        stays = λ d. absurd (false≢true (sym mine.moves.on_device ∙ d));
      }

  pub unread : (seen : D → Device) (s : State D) (e : Cache D) (v : View) (us : List View) (k b : ℕ) (bytes : List ℕ)
      (h : IsRunning seen s (moving_view k b None v ∷ us)) → v.moving ≡ None
      → e ≡ after_release s.core k bytes how.Invalid → IsLawful e → IsRunning seen (record s { core = e }) (v ∷ us)
  unread seen s e v us k b bytes h calm is lawful =
      subst (λ q. IsRunning seen (record s { core = q }) (v ∷ us)) (sym is)
      (given-read seen s v us k b bytes how.Invalid h calm (unread-place seen s v us k b bytes h) (subst (λ q. IsLawful q) is lawful))

module _ {R D : Type 0} where
  -- a buffer that was found by its block, lent as it is
  pub hit-valid : (seen : D → Device) (p : Pass R (State D) View) (s : State D) (c e : Cache D) (v : View) (k b : ℕ) (bytes : List ℕ)
      → IsPending (IsRunning seen) p s v → v.moving ≡ None → v.device ≡ None → IsCause s.core b (met.Hit k)
      → c ≡ after_search s.core b (met.Hit k) → e ≡ after_lend c k → IsLawful e → (buffer_at c k).bytes ≡ Some bytes
      → (buffer_at e k).valid ≡ true → IsPending (IsRunning seen) p (record s { core = e }) (moving_view k b (Some bytes) (calm_view v))
  hit-valid seen p s c e v k b bytes pending calm home cause searched lent lawful has valid =
      pending-step (IsRunning seen) p s (record s { core = e }) v (moving_view k b (Some bytes) (calm_view v)) pending (λ others h.
      subst (λ o. IsRunning seen (record s { core = e }) (record (moving_view k b (Some bytes) v) { device = o } ∷ others)) home
      (hits_lent seen s c e v others h k b (Some bytes) calm cause searched lent lawful (valid, has) tt))

  -- the same, to be read
  pub hit-invalid : (seen : D → Device) (p : Pass R (State D) View) (s : State D) (c e : Cache D) (v : View) (k b : ℕ)
      → IsPending (IsRunning seen) p s v → v.moving ≡ None → IsCause s.core b (met.Hit k)
      → c ≡ after_search s.core b (met.Hit k) → e ≡ after_lend c k → IsLawful e → (buffer_at e k).valid ≡ false
      → IsPending (IsRunning seen) p (record s { core = e }) (moving_view k b None v)
  hit-invalid seen p s c e v k b pending calm cause searched lent lawful valid =
      pending-step (IsRunning seen) p s (record s { core = e }) v (moving_view k b None v) pending
      (λ others h. hits_lent seen s c e v others h k b None calm cause searched lent lawful tt valid)

  -- a buffer that was taken for the block, to be read
  pub taken-invalid : (seen : D → Device) (p : Pass R (State D) View) (s : State D) (c e : Cache D) (v : View) (k b : ℕ)
      → IsPending (IsRunning seen) p s v → v.moving ≡ None → 0 < weight v → b < v.opening.sizes.blocks → IsCause s.core b (met.Taken k)
      → c ≡ after_search s.core b (met.Taken k) → e ≡ after_lend c k → IsLawful e
      → IsPending (IsRunning seen) p (record s { core = e }) (moving_view k b None v)
  taken-invalid seen p s c e v k b pending calm some low cause searched lent lawful =
      pending-step (IsRunning seen) p s (record s { core = e }) v (moving_view k b None v) pending
      (λ others h. takes_lent seen s c e v others h k b calm some low cause searched lent lawful)

  -- a buffer that is queued for the worker
  pub asked : (seen : D → Device) (p : Pass R (State D) View) (s : State D) (c : Cache D) (t : State D) (v : View) (k b : ℕ)
      → IsPending (IsRunning seen) p s v → IsCause s.core b (met.Delayed k) → c ≡ after_search s.core b (met.Delayed k) → IsLawful c
      → t ≡ record s { core = c; requests = record s.requests { waiting = s.requests.waiting ++ k ∷ [] } }
      → IsPending (IsRunning seen) p t v
  asked seen p s c t v k b pending cause searched lawful is =
      subst (λ q. IsPending (IsRunning seen) p q v) (sym is)
      (pending-step (IsRunning seen) p s (record s {
        core = c;
        requests = record s.requests { waiting = s.requests.waiting ++ k ∷ [] };
      }) v v pending (λ others h. queues seen s c v others h k b (s.requests.waiting ++ k ∷ []) cause searched lawful refl))

-- a search that changed nothing
pub same_core : {D : Type 0} (seen : D → Device) (s : State D) (e : Cache D) (ws : List View) → e ≡ s.core → IsRunning seen s ws
    → IsRunning seen (record s { core = e }) ws
same_core seen s e ws is h = subst (λ q. IsRunning seen (record s { core = q }) ws) (sym is) h
