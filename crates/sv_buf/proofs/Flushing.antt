-- A buffer that is still to be written is taken while the cache runs, and written.
use Rattle.std.proofs.Common.{◌≡◌, ◌+◌, ◌<◌, ◌||◌, ℕ, zero, suc, Bool, true, false, List, ◌∷◌, length, set, Option, Some, None, Result, Ok, Err, OnOk, IfErr, refl, sym, ap, ◌∙◌, subst, arith, nat_lt}
use Rattle.std.specs.Prelude.{is_err}
use Rattle.std.proofs.lemmas.Bool.{lt-ltb}
use Rattle.std.proofs.lemmas.List.Elements.{All-head}
use Rattle.sv_links.specs.Arrangement.{without}
use Rattle.sv_cache.specs.Cache.{Cache, buffer_at, is_delayed, IsFree}
use Rattle.sv_cache.specs.Lawful.{IsLawful}
use Rattle.sv_store.specs.declared.refusal.Refusal.{Refusal}
use Rattle.sv_store.specs.declared.refusal.Refusal.TheVariants.{Fault}
use Rattle.sv_buf.specs.declared.state.State.{State}
use Rattle.sv_buf.specs.View.{View, Device, weight}
use Rattle.sv_buf.specs.Changes.{moving_view, device_view, calm_view, failed_view, forced_view, flushed_view}
use Rattle.sv_buf.specs.Running.{IsSeen, IsRunning}
use Rattle.sv_buf.specs.Resting.{IsResting}
use Rattle.sv_buf.proofs.Steps.{step}
use Rattle.sv_buf.proofs.Taking.{takes}
use Rattle.sv_buf.proofs.Getting.{hit-takes}
use Rattle.sv_buf.proofs.Writing.{calm-is}

module _ {D : Type 0} where
  -- that a pass has asked for writes is no part of the rule
  pub forces : (seen : D → Device) (s : State D) (v : View) (us : List View) → IsRunning seen s (v ∷ us)
      → IsRunning seen s (forced_view v ∷ us)
  forces seen s v us h =
      let mine = All-head (IsSeen s.core h.kept.current h.kept.device h.kept.opening) v us h.each in
      step seen s s v (forced_view v) us h h.kept refl
      (record { buffers = refl; sizes = refl; state = λ j. refl; device = refl; lines = λ e l. refl; workers = refl; queued = h.one_state.queued })
      (λ low. (omega arith, omega arith))
      (record { opened = mine.opened; lent = mine.lent; moves = mine.moves; device_seen = mine.device_seen; lines = mine.lines })
      (λ u below q. q)

  -- a buffer of those that the cache was opened with is there
  pub inside-counted : (seen : D → Device) (s : State D) (v w : View) (us : List View) (k : ℕ) → IsRunning seen s (w ∷ us) → w ≡ v
      → 0 < weight v → k < v.opening.buffers → k < length s.core.buffers
  inside-counted seen s v w us k h same some below =
      let q : IsRunning seen s (v ∷ us) = subst (λ x. IsRunning seen s (x ∷ us)) same h in
      let mine = All-head (IsSeen s.core q.kept.current q.kept.device q.kept.opening) v us q.each in
      let counted : v.opening.buffers ≡ length s.core.buffers = ap (λ o. o.buffers) (mine.opened some) ∙ q.kept.same_count in
      omega (arith, counted)

  -- a block that a buffer names is one of the disk
  pub named-below : (seen : D → Device) (s : State D) (v w : View) (us : List View) (k b : ℕ) → IsRunning seen s (w ∷ us) → w ≡ v
      → 0 < weight v → (buffer_at s.core k).block ≡ Some b → b < v.opening.sizes.blocks
  named-below seen s v w us k b h same some named =
      let q : IsRunning seen s (v ∷ us) = subst (λ x. IsRunning seen s (x ∷ us)) same h in
      let mine = All-head (IsSeen s.core q.kept.current q.kept.device q.kept.opening) v us q.each in
      let sizes : v.opening.sizes ≡ s.core.geometry = ap (λ o. o.sizes) (mine.opened some) ∙ q.kept.same_sizes in
      subst (λ g. b < g.blocks) (sym sizes) (q.kept.bytes.in_range k b named)

  -- a free buffer that is still to be written is taken for that
  pub takes-unwritten : (seen : D → Device) (s : State D) (e : Cache D) (v w : View) (us : List View) (k b : ℕ) (bytes : List ℕ)
      → IsRunning seen s (w ∷ us) → w ≡ v → v.moving ≡ None → IsFree s.core k → (buffer_at s.core k).block ≡ Some b
      → is_delayed s.core k ≡ true → (buffer_at s.core k).bytes ≡ Some bytes
      → e ≡ record s.core { buffers = set s.core.buffers k (record (buffer_at s.core k) { bytes = None }); free = without k s.core.free }
      → IsLawful e → IsRunning seen (record s { core = e }) (moving_view k b (Some bytes) (forced_view w) ∷ us)
  takes-unwritten seen s e v w us k b bytes p same calm free named delayed has is lawful =
      let h = forces seen s w us p in
      takes seen s e (forced_view w) us h k b (record (buffer_at s.core k) { bytes = None }) (Some bytes)
      (ap (λ (x : View). x.moving) same ∙ calm)
      (hit-takes seen s (forced_view w) us h k b (Some bytes) (named, free) (h.kept.bytes.delayed_valid k delayed, has) tt) is lawful

-- the view of a pass that was left as it is, but for its transfer
pub calm-moved : (u w x : View) (d : Device) (k b : ℕ) (o : Option (List ℕ)) → w ≡ moving_view k b o u → x ≡ device_view d w
    → u.moving ≡ None → u.device ≡ None → calm_view x ≡ u
calm-moved u w x d k b o first second calm home = ap calm_view (second ∙ ap (device_view d) first) ∙ calm-is u calm home

pub brings-moved : (u w x : View) (d : Device) (k b : ℕ) (o : Option (List ℕ)) → w ≡ moving_view k b o u → x ≡ device_view d w
    → u.moving ≡ None → u.device ≡ None → x ≡ device_view d (moving_view k b o (calm_view x))
brings-moved u w x d k b o first second calm home =
    second ∙ (ap (device_view d) first
    ∙ ap (λ q. device_view d (moving_view k b o q)) (sym (calm-moved u w x d k b o first second calm home)))

-- after the buffers below i, of which so many could not be written
abbrev pub so_far : ℕ → ℕ → View → View
so_far n i v = record v { faults = v.faults + n; forced = nat_lt 0 i || v.forced }

pub so_far-begins : (v : View) → v ≡ so_far 0 0 v
so_far-begins v = let same : v.faults ≡ v.faults + 0 = omega arith in ap (λ n. record v { faults = n }) same

pub so_far-rests : (v w : View) (n i : ℕ) → w ≡ so_far n i v → IsResting v → IsResting w
so_far-rests v w n i is h = subst IsResting (sym is) (record { sizes = h.sizes; some = h.some; calm = h.calm; home = h.home })

so_far-ends : (v w : View) (n i : ℕ) → w ≡ so_far n i v → 0 < i → w ≡ flushed_view n v
so_far-ends v w n i is some = is ∙ ap (λ (t : Bool). record v { faults = v.faults + n; forced = t || v.forced }) (lt-ltb 0 i some)

-- the next buffer was written, or was not to be, or could not be
pub so_far-next : {T : Type 0} (r : Result T Refusal) (v w x : View) (n i : ℕ) (f : Bool) → f ≡ nat_lt 0 n → w ≡ so_far n i v
    → OnOk r (x ≡ forced_view w) → IfErr r (λ e. (e ≡ Fault) × (x ≡ failed_view (forced_view w)))
    → (m : ℕ) × ((f || is_err r) ≡ nat_lt 0 m) × (x ≡ so_far m (i + 1) v)
so_far-next (Ok y) v w x n i f was is ok err = (n, or-false f ∙ was, ok ∙ (ap forced_view is ∙ now))
  where
    or-false : (t : Bool) → (t || false) ≡ t
    or-false true = refl
    or-false false = refl

    now : forced_view (so_far n i v) ≡ so_far n (i + 1) v
    now = ap (λ (t : Bool). record v { faults = v.faults + n; forced = t || v.forced }) (sym (lt-ltb 0 (i + 1) (omega arith)))
so_far-next (Err y) v w x n i f was is ok err = (
  n + 1,
  or-true f ∙ sym (lt-ltb 0 (n + 1) (omega arith)),
  err.1 ∙ (ap (λ q. failed_view (forced_view q)) is ∙ now),
)
  where
    or-true : (t : Bool) → (t || true) ≡ true
    or-true true = refl
    or-true false = refl

    more : v.faults + n + 1 ≡ v.faults + (n + 1)
    more = omega arith

    now : failed_view (forced_view (so_far n i v)) ≡ so_far (n + 1) (i + 1) v
    now = ap (λ m. record v { faults = m; forced = true }) more
        ∙ ap (λ (t : Bool). record v { faults = v.faults + (n + 1); forced = t || v.forced }) (sym (lt-ltb 0 (i + 1) (omega arith)))

-- all buffers were gone through, and no write failed
pub flushed-ok : (v w : View) (n i : ℕ) (f : Bool) → f ≡ nat_lt 0 n → f ≡ false → w ≡ so_far n i v → 0 < i → w ≡ forced_view v
flushed-ok v w zero i f was fails is some =
    let same : v.faults + 0 ≡ v.faults = omega arith in
    so_far-ends v w 0 i is some ∙ ap (λ m. record v { faults = m; forced = true }) same
flushed-ok v w (suc n) i f was fails is some =
    absurd (let e : true ≡ false = sym (was ∙ lt-ltb 0 (suc n) (omega arith)) ∙ fails in cc)

pub flushed-err : (v w : View) (n i : ℕ) (f : Bool) → f ≡ nat_lt 0 n → f ≡ true → w ≡ so_far n i v → 0 < i
    → (m : ℕ) × (0 < m) × (w ≡ flushed_view m v)
flushed-err v w zero i f was has is some = absurd (let e : false ≡ true = sym was ∙ has in cc)
flushed-err v w (suc n) i f was has is some = (suc n, omega arith, so_far-ends v w (suc n) i is some)
