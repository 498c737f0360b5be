-- Why the writing of a journal ended early.
use Rattle.sv_journal.specs.declared.write_fault.WriteFault.{WriteFault}
use Rattle.sv_journal.specs.declared.write_fault.WriteFault.TheVariants.{Fault, NoMemory}

-- a fault has this cause; want of memory needs none
abbrev pub HasCauseOf : Type 0 → WriteFault → Type 0
HasCauseOf cause Fault = cause
HasCauseOf cause NoMemory = Unit {0}
