-- Counts of faults, and what a refusal says of them. A count is a u64: it only rises, and stands still at its end.
use Rattle.std.specs.Prelude.{◌≡◌, ◌<◌, ◌≤◌, ◌⊎◌, ◌+◌, ◌-◌, ◌^◌, ℕ, min, Result, Ok, Err, OnErr, IsErrOf}
use Rattle.sv_dev.specs.declared.fault.Failed.{Failed}
use Rattle.sv_dev.specs.declared.fault.HostFault.{HostFault}
use Rattle.sv_dev.specs.declared.fault.HostFault.TheVariants as host

-- the last value of a count
abbrev pub last_count : ℕ
last_count = 2 ^ 64 - 1

-- a count after n more
abbrev pub counted : ℕ → ℕ → ℕ
counted count n = min (count + n) last_count

-- the count is greater than it was, or stands at its last value
abbrev pub Rose : ℕ → ℕ → Type 0
Rose old new = (old < new) ⊎ (new ≡ last_count)

-- the count did not fall, and a call of a disk, source or sink failed only where it rose
pub record HasCause {T : Type 0} (old new : ℕ) (result : Result T Failed) : Type 0 where
  pub no_less : old ≤ new
  pub failed : OnErr result (Rose old new)

-- the count did not fall, and a call of a host failed only where it rose; want of memory needs no cause
pub record HasHostCause {T : Type 0} (old new : ℕ) (result : Result T HostFault) : Type 0 where
  pub no_less : old ≤ new
  pub failed : IsErrOf result host.Failed → Rose old new

-- a host's count of faults after a call that answered this: a failure is one more, want of memory is none
abbrev pub more_faults : ℕ → HostFault → ℕ
more_faults count host.Failed = counted count 1
more_faults count host.NoMemory = count

abbrev pub faults_after : {T : Type 0} → ℕ → Result T HostFault → ℕ
faults_after count (Ok value) = count
faults_after count (Err fault) = more_faults count fault
