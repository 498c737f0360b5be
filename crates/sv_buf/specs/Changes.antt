-- What the calls make of a view.
use Rattle.std.specs.Prelude.{◌+◌, ◌==◌, ◌++◌, ◌||◌, ℕ, List, [], ◌∷◌, map, not, true, false, Option, Some, None, filter, if◌then◌else◌}
use Rattle.sv_form.specs.declared.owners.LineRange.{LineRange}
use Rattle.sv_store.specs.Held.{line_of, in_ranges}
use Rattle.sv_buf.specs.View.{Noted, Lending, Device, View}

-- buffer k of block b is taken, for a transfer or to be lent
abbrev pub moving_view : ℕ → ℕ → Option (List ℕ) → View → View
moving_view k b bytes v = record v { moving = Some (record { buffer = k; block = b; bytes = bytes }) }

-- nothing is in transfer
abbrev pub calm_view : View → View
calm_view v = record v { moving = None; device = None }

-- it has the device out as well
abbrev pub device_view : Device → View → View
device_view d v = record v { device = Some d }

-- buffer k of block b is lent with these bytes
abbrev pub lent_view : ℕ → ℕ → List ℕ → View → View
lent_view k b bytes v = record v { loans = record { buffer = k; block = b; bytes = bytes } ∷ v.loans }

-- one more transfer has failed
abbrev pub failed_view : View → View
failed_view v = record v { faults = v.faults + 1 }

-- it has asked for writes
abbrev pub forced_view : View → View
forced_view v = record v { forced = true }

-- it has asked for writes, of which so many have failed
abbrev pub flushed_view : ℕ → View → View
flushed_view n v = record v { faults = v.faults + n; forced = true }

-- the loans without those of block b
abbrev pub loans_without : ℕ → List Lending → List Lending
loans_without b xs = filter (λ x. not (x.block == b)) xs

-- block b has come back as it was lent
abbrev pub back_view : ℕ → View → View
back_view b v = record v { loans = loans_without b v.loans }

-- a line, where it is one of block b with these bytes
abbrev pub put_line : ℕ → List ℕ → Noted → Noted
put_line b bytes n = if n.block == b then record n { bytes = line_of bytes n.line } else n

-- block b has come back with new bytes
abbrev pub put_view : ℕ → List ℕ → View → View
put_view b bytes v = record v { lines = map (put_line b bytes) v.lines; loans = loans_without b v.loans }

-- the lines of block b that are held are those of these bytes
abbrev pub filled_view : ℕ → List ℕ → View → View
filled_view b bytes v = record v { lines = map (put_line b bytes) v.lines }

-- block b has come back with new bytes, to be written at once
abbrev pub written_view : ℕ → List ℕ → View → View
written_view b bytes v = record v { lines = map (put_line b bytes) v.lines; loans = loans_without b v.loans; forced = true }

-- the lines that do not stand in the ranges are left, with all else
abbrev pub kept_view : List LineRange → View → View
kept_view lines v = record v { lines = filter (λ n. not (in_ranges lines n.block n.line)) v.lines }

-- the lines that stand in the ranges, and nothing else
abbrev pub parted_view : List LineRange → View → View
parted_view lines v = record v {
  lines = filter (λ n. in_ranges lines n.block n.line) v.lines;
  loans = [];
  faults = 0;
  forced = false;
  workers = 0;
}

-- what both stand for
abbrev pub merged_view : View → View → View
merged_view v w = record v {
  lines = v.lines ++ w.lines;
  faults = v.faults + w.faults;
  forced = v.forced || w.forced;
  workers =
      v.workers + w.workers;
}
