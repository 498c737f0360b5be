-- What a pass of the cache stands for. No value of a view is made: it stands in proofs alone.
use Rattle.std.specs.Prelude.{◌+◌, ◌==◌, ◌&&◌, ℕ, Bool, false, List, [], ◌∷◌, length, count_by, Option, Some, None, is_some, if◌then◌else◌}
use Rattle.sv_form.specs.declared.geometry.Geometry.{Geometry}
use Rattle.sv_links.specs.Arrangement.{one_if}
use Rattle.sv_store.specs.Held.{Held, Lent, with}

-- a line that is held, with its bytes
pub record Noted : Type 0 where
  pub block : ℕ
  pub line : ℕ
  pub bytes : List ℕ

-- a buffer that is lent, with the block that it names and the bytes with which it was lent
pub record Lending : Type 0 where
  pub buffer : ℕ
  pub block : ℕ
  pub bytes : List ℕ

-- a buffer in transfer, with the block that it names and its bytes; it has none while they are read
pub record Moving : Type 0 where
  pub buffer : ℕ
  pub block : ℕ
  pub bytes : Option (List ℕ)

-- what is seen of a device
pub record Device : Type 0 where
  pub content : List ℕ
  pub reads : ℕ
  pub writes : ℕ
  pub faults : ℕ

-- what a cache was opened with
pub record Opening : Type 0 where
  pub sizes : Geometry
  pub buffers : ℕ
  pub disk : Device

-- The lines that a pass holds, the buffers that it has lent out, the one that it transfers, the device while it has it out, and how
-- many transfers that it ran have failed. `forced` is whether it asked for a write, `workers` is 1 for the worker's pass.
pub record View : Type 0 where
  pub opening : Opening
  pub lines : List Noted
  pub loans : List Lending
  pub moving : Option Moving
  pub device : Option Device
  pub faults : ℕ
  pub forced : Bool
  pub workers : ℕ

abbrev pub workers : View → ℕ
workers v = v.workers

abbrev pub faults : View → ℕ
faults v = v.faults

-- how large a part of the whole a view is: its lines, and one more for the worker
abbrev pub weight : View → ℕ
weight v = length v.lines + v.workers

abbrev pub no_device : Device
no_device = record { content = []; reads = 0; writes = 0; faults = 0 }

abbrev pub no_opening : Opening
no_opening = record { sizes = record { block_size = 0; blocks = 0; first_data = 0 }; buffers = 0; disk = no_device }

-- the view of a pass that stands for nothing any more
abbrev pub blank : View
blank = record { opening = no_opening; lines = []; loans = []; moving = None; device = None; faults = 0; forced = false; workers = 0 }

-- this is line l of block b
abbrev pub is_at : ℕ → ℕ → Noted → Bool
is_at b l n = (n.block == b) && (n.line == l)

-- how often line l of block b is held
abbrev pub hits : ℕ → ℕ → View → ℕ
hits b l v = count_by (is_at b l) v.lines

-- the bytes of the lines that are held
unfoldable pub held_of : List Noted → Held
held_of [] = λ b l. None
held_of (n ∷ ns) = λ b l. if is_at b l n then Some n.bytes else held_of ns b l

-- the bytes with which blocks are lent
unfoldable pub lent_of : List Lending → Lent
lent_of [] = λ b. None
lent_of (x ∷ xs) = with x.block x.bytes (lent_of xs)

-- how often buffer k is lent
abbrev pub lent_times : ℕ → View → ℕ
lent_times k v = count_by (λ x. x.buffer == k) v.loans

abbrev pub moving_times : ℕ → Option Moving → ℕ
moving_times k None = 0
moving_times k (Some x) = one_if (x.buffer == k)

-- how often buffer k is lent or in transfer
abbrev pub outs : ℕ → View → ℕ
outs k v = lent_times k v + moving_times k v.moving

-- whether the pass has the device out, as a number
abbrev pub devices : View → ℕ
devices v = one_if (is_some v.device)
