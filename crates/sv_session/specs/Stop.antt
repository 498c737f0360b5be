-- Why a command ends without having done its work: the status, and the line that is noted.
use Rattle.std.specs.Prelude.{◌≡◌, ◌⊎◌, ◌≤◌, ℕ, List, [], ◌++◌, length, take, Option, codes, decimal}
use Rattle.sv_dev.specs.Causes.{Rose}
use Rattle.sv_dev.specs.Told.{grown}
use Rattle.sv_dev.specs.declared.fault.HostFault.{HostFault}
use Rattle.sv_dev.specs.declared.fault.HostFault.TheVariants as host
use Rattle.sv_check.specs.Condition.{number_of, word_of}
use Rattle.sv_check.specs.declared.condition.Condition.{Condition}
use Rattle.sv_check.specs.declared.fault.CheckFault.{CheckFault}
use Rattle.sv_check.specs.declared.fault.CheckFault.TheVariants as check
use Rattle.sv_check.specs.declared.loading.tree.LoadFault.{LoadFault}
use Rattle.sv_check.specs.declared.loading.tree.LoadFault.TheVariants as load
use Rattle.sv_check.specs.declared.make.image.MakeFault.{MakeFault}
use Rattle.sv_check.specs.declared.make.image.MakeFault.TheVariants as make
use Rattle.sv_journal.specs.declared.gathering.GatherFault.{GatherFault}
use Rattle.sv_journal.specs.declared.gathering.GatherFault.TheVariants as gather
use Rattle.sv_journal.specs.declared.journal_fault.JournalFault.{JournalFault}
use Rattle.sv_journal.specs.declared.journal_fault.JournalFault.TheVariants as journal
use Rattle.sv_session.specs.declared.stop.Stop.{Stop}
use Rattle.sv_session.specs.declared.stop.Stop.TheVariants.{Words, Refused, DeviceFault, FileFault, WriteFault, NoMemory, JournalRefused}
use Rattle.sv_session.specs.declared.stop.Stop.TheVariants.{NoSuchFile}

-- the exit status of the program
abbrev pub status_of : Stop → ℕ
status_of Words = 1
status_of (Refused condition place) = 2
status_of DeviceFault = 4
status_of FileFault = 5
status_of WriteFault = 6
status_of NoMemory = 7
status_of (JournalRefused line) = 8
status_of NoSuchFile = 9

-- the line of a refused image: the condition's number and word, and the place
abbrev pub refusal_of : Condition → ℕ → List ℕ
refusal_of condition place =
    codes "svfs: image refused: " ++ (decimal (number_of condition) ++ (codes " " ++ (word_of condition ++ (codes " " ++ (decimal place ++ codes "\n")))))

-- the line of a journal that is refused at that line
abbrev pub journal_refusal_of : ℕ → List ℕ
journal_refusal_of line = codes "svfs: journal line " ++ (decimal line ++ codes " refused\n")

-- the line that is noted
abbrev pub noted_line : Stop → List ℕ
noted_line Words = codes "svfs: words not understood\n"
noted_line (Refused condition place) = refusal_of condition place
noted_line DeviceFault = codes "svfs: device fault\n"
noted_line FileFault = codes "svfs: file fault\n"
noted_line WriteFault = codes "svfs: write fault\n"
noted_line NoMemory = codes "svfs: out of memory\n"
noted_line (JournalRefused line) = journal_refusal_of line
noted_line NoSuchFile = codes "svfs: no such file\n"

-- the line went to a sink as a whole, or a front of it did and the sink failed
abbrev pub Noted : Option (List ℕ) → Option (List ℕ) → ℕ → ℕ → List ℕ → Type 0
Noted old new faults_before faults line =
    (n : ℕ) × (n ≤ length line) × (new ≡ grown old (take n line)) × ((n ≡ length line) ⊎ Rose faults_before faults)

-- the stop that a check's answer, a host's, and those of a load, a making, a gathering and a reading lead to
abbrev pub stop_of_check : CheckFault → Stop
stop_of_check (check.Refused condition place) = Refused condition place
stop_of_check check.Fault = DeviceFault
stop_of_check check.NoMemory = NoMemory

abbrev pub stop_of_host : HostFault → Stop
stop_of_host host.Failed = FileFault
stop_of_host host.NoMemory = NoMemory

abbrev pub stop_of_load : LoadFault → Stop
stop_of_load load.Fault = DeviceFault
stop_of_load load.NoMemory = NoMemory

abbrev pub stop_of_make : MakeFault → Stop
stop_of_make make.Limits = Words
stop_of_make make.Fault = DeviceFault
stop_of_make make.NoMemory = NoMemory

abbrev pub stop_of_gather : GatherFault → Stop
stop_of_gather gather.Fault = FileFault
stop_of_gather gather.NoMemory = NoMemory

abbrev pub stop_of_journal : JournalFault → Stop
stop_of_journal (journal.Line line) = JournalRefused line
stop_of_journal journal.NoMemory = NoMemory
