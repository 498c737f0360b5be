-- What a history that is replayed leads to, and where it cannot go on.
use Rattle.std.specs.Prelude.{◌≡◌, ◌<◌, ◌⊎◌, ℕ, false, List, length, take, Some, slice_get}
use Rattle.sv_plain.specs.declared.history.entry.Entry.{Entry}
use Rattle.sv_plain.specs.Fs.{Fs}
use Rattle.sv_plain.specs.History.{IsLegal, after}
use Rattle.sv_plain.specs.Step.{condition, replies}
use Rattle.sv_journal.specs.declared.replay_fault.ReplayFault.{ReplayFault}
use Rattle.sv_journal.specs.declared.replay_fault.ReplayFault.TheVariants as fault

-- the entry may not stand here: its op may not be asked, or is never answered so
abbrev pub IsIllegal : Fs → Entry → Type 0
IsIllegal fs e = (condition fs e.process e.op ≡ false) ⊎ (replies fs e.process e.op e.reply ≡ false)

-- entry i is the first that may not stand where it does
pub record IsFirstIllegal (h : List Entry) (fs : Fs) (i : ℕ) : Type 0 where
  pub within : i < length h
  pub before : IsLegal (take i h) fs
  pub entry : Entry
  pub is : slice_get h i ≡ Some entry
  pub illegal : IsIllegal (after (take i h) fs) entry

-- why a history is not replayed to its end: want of memory needs no cause
abbrev pub IsRefusedAt : List Entry → Fs → ReplayFault → Type 0
IsRefusedAt h fs (fault.Place i) = IsFirstIllegal h fs i
IsRefusedAt h fs fault.NoMemory = Unit {0}

-- the same of one entry, which stands at place i
abbrev pub IsRefusedHere : Fs → Entry → ℕ → ReplayFault → Type 0
IsRefusedHere fs e i (fault.Place at) = (at ≡ i) × IsIllegal fs e
IsRefusedHere fs e i fault.NoMemory = Unit {0}
