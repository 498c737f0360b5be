-- The views that a cache begins with.
use Rattle.std.specs.Prelude.{◌≡◌, ◌*◌, ◌&&◌, ℕ, zero, suc, false, List, [], ◌∷◌, ◌++◌, length, Option, Some, None, nat_lt, if◌then◌else◌}
use Rattle.sv_form.specs.declared.geometry.Geometry.{Geometry}
use Rattle.sv_form.specs.Geometry.{IsGeometry, block_lines}
use Rattle.sv_form.specs.Image.{block_of}
use Rattle.sv_cache.specs.Cache.{Cache, IsBufferCount, new_cache}
use Rattle.sv_store.specs.Held.{Held, line_of}
use Rattle.sv_buf.specs.View.{View, Noted, Opening, Device, no_device}

-- the lines of block b below line n, with the block's current bytes
unfoldable pub block_notes : (ℕ → List ℕ) → ℕ → ℕ → List Noted
block_notes current b zero = []
block_notes current b (suc n) = record { block = b; line = n; bytes = line_of (current b) n } ∷ block_notes current b n

-- the lines below line n of all blocks below block b
unfoldable pub all_notes : (ℕ → List ℕ) → ℕ → ℕ → List Noted
all_notes current n zero = []
all_notes current n (suc b) = block_notes current b n ++ all_notes current n b

-- all lines of the disk, and the worker
abbrev pub whole_view : Opening → View
whole_view o = record {
  opening = o;
  lines = all_notes (block_of o.sizes o.disk.content) (block_lines o.sizes) o.sizes.blocks;
  loans = [];
  moving = None;
  device = None;
  faults = 0;
  forced = false;
  workers = 1;
}

-- all lines of the disk
abbrev pub lines_view : Opening → View
lines_view o = record (whole_view o) { workers = 0 }

-- the worker
abbrev pub worker_view : Opening → View
worker_view o = record (whole_view o) { lines = [] }

-- the lines of a disk with these bytes
unfoldable pub of_disk : Geometry → List ℕ → Held
of_disk g content = λ b l. if nat_lt b g.blocks && nat_lt (l * 64) g.block_size then Some (line_of (block_of g content b) l) else None

-- what is seen of the device, while it is at home
abbrev pub seen_at_home : {D : Type 0} → (D → Device) → Option D → Device
seen_at_home seen (Some d) = seen d
seen_at_home seen None = no_device

-- what a cache of this core is opened with
abbrev pub opened_with : {D : Type 0} → (D → Device) → Cache D → Opening
opened_with seen c = record { sizes = c.geometry; buffers = length c.buffers; disk = seen_at_home seen c.device }

-- the core is a new one, over a disk of these sizes
pub record IsNew {D : Type 0} (seen : D → Device) (c : Cache D) (n : ℕ) (g : Geometry) : Type 0 where
  pub disk : D
  pub is : c ≡ new_cache disk n g
  pub sizes : IsGeometry g
  pub count : IsBufferCount n
  pub whole : length (seen disk).content ≡ g.blocks * g.block_size
