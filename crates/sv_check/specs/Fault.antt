-- What each answer of a check other than success says.
use Rattle.std.specs.Prelude.{ℕ}
use Rattle.sv_check.specs.Condition.{number_of}
use Rattle.sv_check.specs.declared.fault.CheckFault.{CheckFault}
use Rattle.sv_check.specs.declared.fault.CheckFault.TheVariants.{Refused, Fault, NoMemory}

-- a refusal says that this condition fails first and here, a fault that the device failed; want of memory is free
abbrev pub Says : (ℕ → ℕ → Type 0) → Type 0 → Type 0 → CheckFault → Type 0
Says refused fault memory (Refused condition place) = refused (number_of condition) place
Says refused fault memory Fault = fault
Says refused fault memory NoMemory = memory
