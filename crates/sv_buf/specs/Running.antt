-- The rule of the running cache: what holds of the state and of all views whenever the turn is free.
use Rattle.std.specs.Prelude.{◌≡◌, ◌+◌, ◌*◌, ◌<◌, ◌≤◌, ◌&&◌, ℕ, true, false, List, length, sum_by, Some, None, is_some, IsSome, IfSome, IfNone}
use Rattle.std.specs.Prelude.{nat_lt}
use Rattle.std.specs.List.{All}
use Rattle.sv_dev.specs.Causes.{last_count}
use Rattle.sv_form.specs.Geometry.{IsGeometry}
use Rattle.sv_form.specs.Image.{block_of}
use Rattle.sv_links.specs.Arrangement.{times, one_if}
use Rattle.sv_cache.specs.Cache.{Cache, buffer_at, is_delayed}
use Rattle.sv_cache.specs.Lawful.{IsLawful}
use Rattle.sv_store.specs.Held.{line_of, InRange}
use Rattle.sv_buf.specs.declared.state.State.{State}
use Rattle.sv_buf.specs.View.{View, Noted, Lending, Moving, Device, Opening, weight, workers, faults, hits, outs, devices, held_of}

-- what a device is seen as
abbrev pub seen_by : {D : Type 0} → (D → List ℕ) → (D → ℕ) → (D → ℕ) → (D → ℕ) → D → Device
seen_by content reads writes faults d = record { content = content d; reads = reads d; writes = writes d; faults = faults d }

-- the faults of all views are caused by the device, or its count stands at its last value
abbrev pub FaultsCaused : Opening → Device → List View → Type 0
FaultsCaused opening device views = device.faults < last_count → opening.disk.faults + sum_by faults views ≤ device.faults

-- the line has the bytes that its block has now
abbrev pub IsCurrent : (ℕ → List ℕ) → Noted → Type 0
IsCurrent current n = n.bytes ≡ line_of (current n.block) n.line

-- buffer k names block b, and its bytes are out
pub record IsAway {D : Type 0} (c : Cache D) (k b : ℕ) : Type 0 where
  pub named : (buffer_at c k).block ≡ Some b
  pub away : (buffer_at c k).bytes ≡ None

-- a buffer that is lent has the bytes of its block
pub record IsLent {D : Type 0} (c : Cache D) (current : ℕ → List ℕ) (x : Lending) : Type 0 where
  pub out : IsAway c x.buffer x.block
  pub bytes : x.bytes ≡ current x.block

-- a buffer in transfer has the bytes of its block, or they are on the device
pub record IsMoving {D : Type 0} (c : Cache D) (current : ℕ → List ℕ) (x : Moving) : Type 0 where
  pub out : IsAway c x.buffer x.block
  pub noted : IfSome x.bytes (λ y. y ≡ current x.block)
  pub on_device : IfNone x.bytes (is_delayed c x.buffer ≡ false)

-- what one view notes is so
pub record IsSeen {D : Type 0} (c : Cache D) (current : ℕ → List ℕ) (device : Device) (opening : Opening) (v : View) : Type 0 where
  pub opened : 0 < weight v → v.opening ≡ opening
  pub lent : All (IsLent c current) v.loans
  pub moves : IfSome v.moving (IsMoving c current)
  pub device_seen : IfSome v.device (λ d. d ≡ device)
  pub lines : All (IsCurrent current) v.lines

-- The current bytes of each block: those of its buffer where these are in and valid; those of the device where no buffer of it is
-- still to be written.
pub record HasCurrent {D : Type 0} (c : Cache D) (current : ℕ → List ℕ) (device : Device) : Type 0 where
  pub home : (k b : ℕ) (y : List ℕ) → (buffer_at c k).block ≡ Some b → (buffer_at c k).valid ≡ true → (buffer_at c k).bytes ≡ Some y
      → y ≡ current b
  pub delayed_valid : (k : ℕ) → is_delayed c k ≡ true → (buffer_at c k).valid ≡ true
  pub clean : (b : ℕ) → b < c.geometry.blocks → ((k : ℕ) → (buffer_at c k).block ≡ Some b → is_delayed c k ≡ false)
      → block_of c.geometry device.content b ≡ current b
  pub in_range : (k b : ℕ) → (buffer_at c k).block ≡ Some b → b < c.geometry.blocks
  pub size : (b : ℕ) → b < c.geometry.blocks → length (current b) ≡ c.geometry.block_size
  pub whole : length device.content ≡ c.geometry.blocks * c.geometry.block_size

-- each buffer is free, queued, lent or in transfer; one that is queued has its bytes in
pub record OneState {D : Type 0} (s : State D) (views : List View) : Type 0 where
  pub once : (k : ℕ) → times k s.core.free + times k s.requests.waiting + sum_by (outs k) views ≡ one_if (nat_lt k (length s.core.buffers))
  pub queued : (k : ℕ) → 0 < times k s.requests.waiting → IsSome (buffer_at s.core k).bytes

-- the device is at home, or out with one pass
pub record OneDevice {D : Type 0} (c : Cache D) (views : List View) : Type 0 where
  pub once : one_if (is_some c.device) + sum_by devices views ≡ 1

-- each line of the image is held once
pub record LinesOnce {D : Type 0} (c : Cache D) (views : List View) : Type 0 where
  pub once : (b l : ℕ) → sum_by (hits b l) views ≡ one_if (nat_lt b c.geometry.blocks && nat_lt (l * 64) c.geometry.block_size)

-- what holds of the state, whatever the views are
pub record IsKept {D : Type 0} (seen : D → Device) (s : State D) : Type 0 where
  pub current : ℕ → List ℕ
  pub device : Device
  pub opening : Opening
  pub lawful : IsLawful s.core
  pub sizes : IsGeometry s.core.geometry
  pub same_sizes : opening.sizes ≡ s.core.geometry
  pub same_count : opening.buffers ≡ length s.core.buffers
  pub few : length s.core.buffers ≤ 65536
  pub room : s.requests.capacity ≡ length s.core.buffers
  pub bytes : HasCurrent s.core current device
  pub device_home : IfSome s.core.device (λ d. seen d ≡ device)

-- the rule
pub record IsRunning {D : Type 0} (seen : D → Device) (s : State D) (views : List View) : Type 0 where
  pub kept : IsKept seen s
  pub each : All (IsSeen s.core kept.current kept.device kept.opening) views
  pub one_state : OneState s views
  pub one_device : OneDevice s.core views
  pub lines_once : LinesOnce s.core views
  pub faults_caused : FaultsCaused kept.opening kept.device views
  pub one_worker : sum_by workers views ≡ 1

-- a stake may stand for this view: it notes lines of the disk, each once, it is not the worker's, and nothing is in transfer
pub record IsFit (v : View) : Type 0 where
  pub sizes : IsGeometry v.opening.sizes
  pub range : InRange v.opening.sizes (held_of v.lines)
  pub some : 0 < weight v
  pub calm : v.moving ≡ None
  pub home : v.device ≡ None
  pub once : (b l : ℕ) → hits b l v ≤ 1
  pub no_worker : v.workers ≡ 0
