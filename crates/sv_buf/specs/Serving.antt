-- The worker: a buffer that it has taken off the queue, and a failure that it need not count.
use Rattle.std.specs.Prelude.{◌≡◌, ◌+◌, ◌≤◌, ◌∷◌, ℕ, true, Some}
use Rattle.sv_cache.specs.Cache.{Cache, buffer_at}
use Rattle.sv_buf.specs.declared.state.State.{State}
use Rattle.sv_buf.specs.View.{View}
use Rattle.sv_buf.specs.Changes.{calm_view}

-- buffer k waits again, before all others
abbrev pub queued_again : {D : Type 0} → State D → ℕ → State D
queued_again s k = record s { requests = record s.requests { waiting = k ∷ s.requests.waiting } }

-- the transfer of v is over, and w counts at most one failure more
pub record MayCount (v w : View) : Type 0 where
  pub faults : ℕ
  pub few : faults ≤ v.faults + 1
  pub calm : w ≡ record (calm_view v) { faults = faults }

-- the bytes of buffer k are those of its block, if it names one
pub record IsRead {D : Type 0} (c : Cache D) (k : ℕ) : Type 0 where
  pub valid : (b : ℕ) → (buffer_at c k).block ≡ Some b → (buffer_at c k).valid ≡ true
