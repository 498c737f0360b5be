-- The end of a cache: all passes come back, and what is still to be written is written.
use Rattle.std.specs.Prelude.{◌≡◌, ◌+◌, ◌*◌, ◌<◌, ◌≤◌, ◌&&◌, ℕ, true, List, [], length, Some, None, IsSome, sum_by, count_by, nat_lt}
use Rattle.std.specs.List.{flat_map}
use Rattle.sv_dev.specs.Causes.{last_count}
use Rattle.sv_form.specs.declared.geometry.Geometry.{Geometry}
use Rattle.sv_form.specs.Geometry.{IsGeometry}
use Rattle.sv_links.specs.Arrangement.{times, one_if}
use Rattle.sv_turn.specs.declared.pass.Pass.{Pass}
use Rattle.sv_turn.specs.declared.turn.Turn.{Turn}
use Rattle.sv_turn.specs.Passes.{pass_view, IsOut, IsPassOf, first_view}
use Rattle.sv_cache.specs.Cache.{Cache, buffer_at, is_delayed}
use Rattle.sv_cache.specs.Lawful.{IsLawful}
use Rattle.sv_store.specs.Held.{Held}
use Rattle.sv_buf.specs.View.{View, Noted, Device, Opening, weight, is_at}
use Rattle.sv_buf.specs.Running.{HasCurrent}
use Rattle.sv_buf.specs.Start.{of_disk}

-- what a pass stands for that has come back: it has lines or is the worker's, nothing is lent, and nothing is in transfer
pub record IsQuiet (o : Opening) (v : View) : Type 0 where
  pub opening : v.opening ≡ o
  pub some : 0 < weight v
  pub nothing_lent : v.loans ≡ []
  pub calm : v.moving ≡ None
  pub home : v.device ≡ None

-- a pass of the turn has come back
pub record IsBack {R S : Type 0} (t : Turn R S View) (p : Pass R S View) : Type 0 where
  pub own : IsPassOf t p
  pub away : IsOut p
  pub quiet : IsQuiet (first_view t).opening (pass_view p)

module _ {R S : Type 0} where
  -- the lines that these passes hold
  abbrev pub lines_held : List (Pass R S View) → List Noted
  lines_held ps = flat_map (λ (p : Pass R S View). (pass_view p).lines) ps

  -- how many failed transfers they count
  abbrev pub faults_counted : List (Pass R S View) → ℕ
  faults_counted ps = sum_by (λ (p : Pass R S View). (pass_view p).faults) ps

  -- how many of them are the worker's
  abbrev pub workers_counted : List (Pass R S View) → ℕ
  workers_counted ps = sum_by (λ (p : Pass R S View). (pass_view p).workers) ps

-- each line of a disk of these sizes is noted once
pub record AreAllLines (g : Geometry) (ns : List Noted) : Type 0 where
  pub once : (b l : ℕ) → count_by (is_at b l) ns ≡ one_if (nat_lt b g.blocks && nat_lt (l * 64) g.block_size)

-- the buffers have their bytes in, and the device has what is not still to be written
pub record IsAtHome {D : Type 0} (c : Cache D) (current : ℕ → List ℕ) (device : Device) : Type 0 where
  pub lawful : IsLawful c
  pub sizes : IsGeometry c.geometry
  pub bytes : HasCurrent c current device
  pub home : (k : ℕ) → k < length c.buffers → IsSome (buffer_at c k).bytes

-- The buffers below n are written, but for those of the blocks of this list; each of these is one failed write more than there were.
pub record IsWritten {D : Type 0} (c : Cache D) (current : ℕ → List ℕ) (device : Device) (before : ℕ) (failed : List ℕ) (n : ℕ) : Type 0 where
  pub at_home : IsAtHome c current device
  pub done : (k b : ℕ) → k < n → (buffer_at c k).block ≡ Some b → is_delayed c k ≡ true → 0 < times b failed
  pub counted : device.faults < last_count → before + length failed ≤ device.faults

-- A disk after its cache was closed: it has the held lines, but for the blocks of this list, whose writes have failed. Its count of
-- faults has risen by as many, and by the faults of the passes, or stands at its last value.
pub record IsClosed (o : Opening) (held : Held) (faults : ℕ) (failed : List ℕ) (device : Device) : Type 0 where
  pub whole : length device.content ≡ o.sizes.blocks * o.sizes.block_size
  pub lines : (b l : ℕ) → times b failed ≡ 0 → of_disk o.sizes device.content b l ≡ held b l
  pub counted : device.faults < last_count → o.disk.faults + faults + length failed ≤ device.faults

-- the cache is of the same sizes, and the device is as far from home
pub record SameShape {D : Type 0} (c e : Cache D) : Type 0 where
  pub geometry : e.geometry ≡ c.geometry
  pub count : length e.buffers ≡ length c.buffers
  pub device : e.device ≡ c.device
