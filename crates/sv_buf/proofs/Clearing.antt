-- A buffer that a search met is still to be written: it is taken for a transfer, or queued.
use Rattle.std.proofs.Common.{◌≡◌, ◌+◌, ◌<◌, ◌==◌, ◌++◌, ℕ, true, List, [], ◌∷◌, length, Some, None, refl, sym, ap, ◌∙◌, subst, arith}
use Rattle.std.proofs.lemmas.List.Elements.{All-head}
use Rattle.sv_links.specs.Arrangement.{times, one_if}
use Rattle.sv_links.proofs.Times.{one-if_same}
use Rattle.sv_turn.specs.declared.pass.Pass.{Pass}
use Rattle.sv_turn.specs.Passes.{pass_view}
use Rattle.sv_cache.specs.Cache.{Cache, Buffer, buffer_at, IsFree}
use Rattle.sv_cache.specs.Getblk.{IsReused}
use Rattle.sv_cache.specs.Brelse.{after_lend}
use Rattle.sv_cache.specs.Lawful.{IsLawful}
use Rattle.sv_cache.proofs.Laws.{changed-same}
use Rattle.sv_cache.proofs.Holder.{named-inside}
use Rattle.sv_buf.specs.declared.state.State.{State}
use Rattle.sv_buf.specs.View.{View, Device}
use Rattle.sv_buf.specs.Changes.{calm_view, moving_view}
use Rattle.sv_buf.specs.Running.{IsSeen, IsRunning, IsFit}
use Rattle.sv_buf.specs.Pending.{IsPending}
use Rattle.sv_buf.specs.Meeting.{IsMet}
use Rattle.sv_buf.proofs.Getting.{hit-valid, asked, has_room}

module _ {D : Type 0} where
  -- the head of the free list is free
  pub head-free : (c : Cache D) (b k : ℕ) → IsReused c b k → IsFree c k
  head-free c b k cause =
      let at_head : times k c.free ≡ one_if (k == k) + times k cause.others = ap (times k) cause.head in
      omega (arith, one-if_same k k refl)

module _ {R D : Type 0} where
  -- the buffer that was met is as it was before the search
  met-named : (seen : D → Device) (p : Pass R (State D) View) (t : State D) (k b : ℕ) (m : IsMet (IsRunning seen) p t k)
      → (buffer_at t.core k).block ≡ Some b → (buffer_at m.from.core k).block ≡ Some b
  met-named seen p t k b m named = sym (ap (λ (q : Cache D). (buffer_at q k).block) m.searched) ∙ named

  -- it is taken for a transfer
  pub met-moving : (seen : D → Device) (p : Pass R (State D) View) (t : State D) (e : Cache D) (k b : ℕ) (bytes : List ℕ)
      → IsMet (IsRunning seen) p t k → IsFit (pass_view p) → (buffer_at t.core k).block ≡ Some b
      → (buffer_at t.core k).bytes ≡ Some bytes → e ≡ after_lend t.core k → IsLawful e
      → IsPending (IsRunning seen) p (record t { core = e }) (moving_view k b (Some bytes) (calm_view (pass_view p)))
  met-moving seen p t e k b bytes m fit named has lent lawful =
      let was : (buffer_at t.core k).valid ≡ (buffer_at m.from.core k).valid = ap (λ (q : Cache D). (buffer_at q k).valid) m.searched in
      let valid : (buffer_at e k).valid ≡ true = ap (λ (q : Cache D). (buffer_at q k).valid) lent
      ∙ (ap (λ (y : Buffer). y.valid) (changed-same t.core k (record (buffer_at t.core k) { bytes = None })
      (named-inside t.core k b named))
      ∙ (was ∙ m.pending.so.kept.bytes.delayed_valid k m.cause.1)) in
      subst (λ (q : State D). IsPending (IsRunning seen) p q (moving_view k b (Some bytes) (calm_view (pass_view p))))
      (sym (ap (λ (q : State D). record q { core = e }) m.rest))
      (hit-valid seen p m.from t.core e (pass_view p) k b bytes m.pending fit.calm fit.home
      (met-named seen p t k b m named, head-free m.from.core m.block k m.cause.0) m.searched lent lawful has valid)

  -- its block is one of the disk
  pub met-below : (seen : D → Device) (p : Pass R (State D) View) (t : State D) (k b : ℕ) → IsMet (IsRunning seen) p t k
      → IsFit (pass_view p) → (buffer_at t.core k).block ≡ Some b → b < (pass_view p).opening.sizes.blocks
  met-below seen p t k b m fit named =
      let h = m.pending.so in
      let mine = All-head (IsSeen m.from.core h.kept.current h.kept.device h.kept.opening) (pass_view p) m.pending.others h.each in
      let sizes : (pass_view p).opening.sizes ≡ m.from.core.geometry = ap (λ o. o.sizes) (mine.opened fit.some) ∙ h.kept.same_sizes in
      subst (λ g. b < g.blocks) (sym sizes) (h.kept.bytes.in_range k b (met-named seen p t k b m named))

  -- there is room for it in the queue
  pub met-room : (seen : D → Device) (p : Pass R (State D) View) (t : State D) (k : ℕ) → IsMet (IsRunning seen) p t k
      → length t.requests.waiting < t.requests.capacity
  met-room seen p t k m =
      subst (λ (q : State D). length q.requests.waiting < q.requests.capacity) (sym m.rest)
      (has_room seen m.from (pass_view p) m.pending.others m.pending.so k m.block m.cause.0)

  -- it is queued
  pub met-asked : (seen : D → Device) (p : Pass R (State D) View) (t r : State D) (k : ℕ) → IsMet (IsRunning seen) p t k
      → r ≡ record t { requests = record t.requests { waiting = t.requests.waiting ++ k ∷ [] } }
      → IsPending (IsRunning seen) p r (pass_view p)
  met-asked seen p t r k m is =
      asked seen p m.from t.core r (pass_view p) k m.block m.pending m.cause m.searched m.lawful
      (is ∙ ap (λ (q : State D). record q { requests = record q.requests { waiting = q.requests.waiting ++ k ∷ [] } }) m.rest)
