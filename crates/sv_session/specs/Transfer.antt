-- Why a transfer from the disk to a sink ended early.
use Rattle.sv_session.specs.declared.stop.Stop.{Stop}
use Rattle.sv_session.specs.declared.stop.Stop.TheVariants.{Words, Refused, DeviceFault, FileFault, WriteFault, NoMemory, JournalRefused}
use Rattle.sv_session.specs.declared.stop.Stop.TheVariants.{NoSuchFile}

-- the disk failed, or the sink did
abbrev pub Transfers : (device write : Type 0) → Stop → Type 0
Transfers device write DeviceFault = device
Transfers device write WriteFault = write
Transfers device write Words = ⊥
Transfers device write (Refused condition place) = ⊥
Transfers device write FileFault = ⊥
Transfers device write NoMemory = ⊥
Transfers device write (JournalRefused line) = ⊥
Transfers device write NoSuchFile = ⊥
