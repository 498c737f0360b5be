-- A buffer that was taken for a block is queued, to be read by the worker.
use Rattle.std.proofs.Common.{◌≡◌, ◌+◌, ◌<◌, ◌==◌, ◌++◌, ℕ, List, [], ◌∷◌, length, IsSome, refl, sym, ap, ◌∙◌, subst, arith, inl, inr}
use Rattle.std.proofs.lemmas.Bool.{cases_eq, false≢true}
use Rattle.std.proofs.lemmas.List.{length-set}
use Rattle.std.proofs.lemmas.List.Elements.{All-head}
use Rattle.sv_links.specs.Arrangement.{times, without, one_if}
use Rattle.sv_links.proofs.Times.{one-if_same, none-if_other, times-push, times-without_same, times-without_other}
use Rattle.sv_turn.specs.declared.pass.Pass.{Pass}
use Rattle.sv_cache.specs.declared.scenario.Scenario.TheVariants as met
use Rattle.sv_cache.specs.Cache.{Cache, Buffer, buffer_at}
use Rattle.sv_cache.specs.Getblk.{after_search, renamed, IsCause}
use Rattle.sv_cache.specs.Lawful.{IsLawful}
use Rattle.sv_cache.proofs.Laws.{changed, changed-same}
use Rattle.sv_buf.specs.declared.state.State.{State}
use Rattle.sv_buf.specs.View.{View, Device, weight}
use Rattle.sv_buf.specs.Running.{IsSeen, IsRunning}
use Rattle.sv_buf.specs.Pending.{IsPending}
use Rattle.sv_buf.specs.Meeting.{MayFail}
use Rattle.sv_buf.specs.Changes.{failed_view}
use Rattle.sv_buf.proofs.Bytes.{TakesPlace, current-changed, current-as}
use Rattle.sv_buf.proofs.Steps.{step, seen-changed, queued-apart}
use Rattle.sv_buf.proofs.Taking.{none_out, none_out-mine, apart-away}
use Rattle.sv_buf.proofs.Getting.{pending-step}
use Rattle.sv_buf.proofs.Clearing.{head-free}

module _ {D : Type 0} where
  queues_read-at : (seen : D → Device) (s : State D) (v : View) (us : List View) (h : IsRunning seen s (v ∷ us)) (k b : ℕ)
      → IsCause s.core b (met.Taken k) → TakesPlace s.core h.kept.current k (renamed (buffer_at s.core k) b)
      → IsLawful (record (changed s.core k (renamed (buffer_at s.core k) b)) { free = without k s.core.free })
      → IsRunning seen (record s {
        core = record (changed s.core k (renamed (buffer_at s.core k) b)) { free = without k s.core.free };
        requests = record s.requests { waiting = s.requests.waiting ++ k ∷ [] };
      }) (v ∷ us)
  queues_read-at seen s v us h k b cause place lawful =
      let x : Buffer = renamed (buffer_at s.core k) b in
      let mine = All-head (IsSeen s.core h.kept.current h.kept.device h.kept.opening) v us h.each in
      let free = head-free s.core b k cause.0 in
      let alone = none_out-mine seen s v us h k free in
      let here : buffer_at (changed s.core k (renamed (buffer_at s.core k) b)) k ≡ renamed (buffer_at s.core k) b = changed-same s.core k
      (renamed (buffer_at s.core k) b) place.inside in
      let long : length (changed s.core k (renamed (buffer_at s.core k) b)).buffers ≡ length s.core.buffers = length-set s.core.buffers k
      (renamed (buffer_at s.core k) b) in
      step seen s (record s {
        core = record (changed s.core k (renamed (buffer_at s.core k) b)) { free = without k s.core.free };
        requests = record s.requests { waiting = s.requests.waiting ++ k ∷ [] };
      }) v v us h
      (record {
        current = h.kept.current;
        device = h.kept.device;
        opening = h.kept.opening;
        lawful = lawful;
        sizes = h.kept.sizes;
        same_sizes = h.kept.same_sizes;
        same_count = h.kept.same_count ∙ sym long;
        few = omega (arith, h.kept.few, long);
        room = h.kept.room ∙ sym long;
        bytes = current-as (changed s.core k (renamed (buffer_at s.core k) b))
            (record (changed s.core k (renamed (buffer_at s.core k) b)) { free = without k s.core.free }) h.kept.current h.kept.device
            h.kept.device refl refl refl
            (current-changed s.core h.kept.current h.kept.device k (renamed (buffer_at s.core k) b) h.kept.bytes place);
        device_home = h.kept.device_home;
      }) refl
      (record {
        buffers = long;
        sizes = refl;
        state = λ j. elim (cases_eq j k) [
          | inl e ↦
              let one : one_if (k == j) ≡ 1 = one-if_same k j (sym e) in
              let off : times j (without k s.core.free) ≡ 0 = subst (λ i. times i (without k s.core.free) ≡ 0) (sym e)
              (times-without_same k s.core.free) in
              let on : times j s.core.free ≡ 1 = subst (λ i. times i s.core.free ≡ 1) (sym e) alone.0 in
              omega (arith, times-push k j s.requests.waiting)
          | inr n ↦
              let none : one_if (k == j) ≡ 0 = none-if_other k j (λ q. n (sym q)) in
              let same = times-without_other k j s.core.free n in
              omega (arith, times-push k j s.requests.waiting)
        ];
        device = refl;
        lines = λ e l. refl;
        workers = refl;
        queued = λ j on. elim (cases_eq j k) [
          | inl e ↦
              subst (λ i. IsSome (buffer_at (changed s.core k (renamed (buffer_at s.core k) b)) i).bytes) (sym e)
              (subst (λ (y : Buffer). IsSome y.bytes) (sym here) (h.kept.lawful.one_state.home k free))
          | inr n ↦
              let none : one_if (k == j) ≡ 0 = none-if_other k j (λ q. n (sym q)) in
              queued-apart s.core k (renamed (buffer_at s.core k) b) (without k s.core.free) s.core.device s.requests.waiting alone.1
              h.one_state.queued j (omega (arith, times-push k j s.requests.waiting))
        ];
      })
      (λ low. (omega arith, omega arith))
      (seen-changed s.core h.kept.current h.kept.device
      (record (changed s.core k (renamed (buffer_at s.core k) b)) { free = without k s.core.free }) h.kept.current h.kept.device
      h.kept.opening v
      (apart-away s.core h.kept.current k (renamed (buffer_at s.core k) b) (without k s.core.free) s.core.device v alone.2)
      mine.lines mine.device_seen mine)
      (λ u below q. seen-changed s.core h.kept.current h.kept.device
      (record (changed s.core k (renamed (buffer_at s.core k) b)) { free = without k s.core.free }) h.kept.current h.kept.device
      h.kept.opening u
      (apart-away s.core h.kept.current k (renamed (buffer_at s.core k) b) (without k s.core.free) s.core.device u
      (none_out seen s v us h k (omega (arith, alone.0)) u below)) q.lines q.device_seen q)

  -- the head of the free list, which is not still to be written, is queued for a block that no buffer names
  pub queues_read : (seen : D → Device) (s : State D) (c : Cache D) (v : View) (us : List View) (h : IsRunning seen s (v ∷ us)) (k b : ℕ)
      → 0 < weight v → b < v.opening.sizes.blocks → IsCause s.core b (met.Taken k) → c ≡ after_search s.core b (met.Taken k) → IsLawful c
      → IsRunning seen (record s { core = c; requests = record s.requests { waiting = s.requests.waiting ++ k ∷ [] } }) (v ∷ us)
  queues_read seen s c v us h k b some low cause searched lawful =
      let mine = All-head (IsSeen s.core h.kept.current h.kept.device h.kept.opening) v us h.each in
      let sizes : v.opening.sizes ≡ s.core.geometry = ap (λ o. o.sizes) (mine.opened some) ∙ h.kept.same_sizes in
      let below : b < s.core.geometry.blocks = subst (λ g. b < g.blocks) sizes low in
      subst (λ q. IsRunning seen (record s { core = q; requests = record s.requests { waiting = s.requests.waiting ++ k ∷ [] } }) (v ∷ us))
      (sym searched)
      (queues_read-at seen s v us h k b cause (record {
        inside = h.kept.lawful.one_state.in_range k (head-free s.core b k cause.0);
        in_range = λ f named. let q : b ≡ f = cc in subst (λ i. i < s.core.geometry.blocks) q below;
        home = λ f y named valid has. absurd (false≢true valid);
        valid = λ d. absurd (false≢true d);
        stays = λ d. absurd (false≢true (sym cause.1 ∙ d));
      }) (subst (λ q. IsLawful q) searched lawful))

module _ {R D : Type 0} where
  pub asked_read : (seen : D → Device) (p : Pass R (State D) View) (s : State D) (c : Cache D) (v : View) (k b : ℕ)
      → IsPending (IsRunning seen) p s v → 0 < weight v → b < v.opening.sizes.blocks → IsCause s.core b (met.Taken k)
      → c ≡ after_search s.core b (met.Taken k) → IsLawful c
      → IsPending (IsRunning seen) p (record s { core = c; requests = record s.requests { waiting = s.requests.waiting ++ k ∷ [] } }) v
  asked_read seen p s c v k b pending some low cause searched lawful =
      pending-step (IsRunning seen) p s (record s { core = c; requests = record s.requests { waiting = s.requests.waiting ++ k ∷ [] } })
      v v pending (λ others h. queues_read seen s c v others h k b some low cause searched lawful)

-- no transfer has failed
pub none-failed : (v w : View) → w ≡ v → MayFail v w
none-failed v w is = record { count = v.faults; no_less = omega arith; no_more = omega arith; is = is }

-- one has failed
pub one-failed : (v w : View) → w ≡ failed_view v → MayFail v w
one-failed v w is = record { count = v.faults + 1; no_less = omega arith; no_more = omega arith; is = is }
