-- What `mkfs` answers, for each way that it ends.
use Rattle.std.specs.Prelude.{◌≡◌, ◌⊎◌, ◌*◌, ℕ, List, Some, replicate}
use Rattle.sv_dev.specs.Names.{Both, SameElsewhere, Under}
use Rattle.sv_check.specs.MadeBlocks.{made_image}
use Rattle.sv_session.specs.declared.stop.Stop.{Stop}
use Rattle.sv_session.specs.declared.stop.Stop.TheVariants.{Words, Refused, DeviceFault, FileFault, WriteFault, NoMemory, JournalRefused}
use Rattle.sv_session.specs.declared.stop.Stop.TheVariants.{NoSuchFile}

-- where the host tells its images, these bytes stand under that name now, and under each other name what stood there
abbrev pub StandsAlone : Under → Under → List ℕ → List ℕ → Type 0
StandsAlone old new name bytes = Both old new (λ before after. SameElsewhere name before after × (after name ≡ Some bytes))

-- the image of so many blocks for so many inodes stands under that name
abbrev pub Makes : Under → Under → List ℕ → ℕ → ℕ → Type 0
Makes old new name blocks inodes = StandsAlone old new name (made_image blocks inodes)

-- as many zero bytes as so many blocks have
abbrev pub zero_blocks : ℕ → List ℕ
zero_blocks blocks = replicate (blocks * 1024) 0

-- under that name stands what stood there, or zero bytes, or the image
abbrev pub MayHaveMade : Under → Under → List ℕ → ℕ → ℕ → Type 0
MayHaveMade old new name blocks inodes =
    Both old new (λ before after. SameElsewhere name before after
    × ((after name ≡ before name) ⊎ ((after name ≡ Some (zero_blocks blocks)) ⊎ (after name ≡ Some (made_image blocks inodes)))))

-- each stop has its cause, a count of faults that rose; want of memory is free
abbrev pub StopsMaking : (device file : Type 0) → Stop → Type 0
StopsMaking device file Words = ⊥
StopsMaking device file (Refused condition place) = ⊥
StopsMaking device file DeviceFault = device
StopsMaking device file FileFault = file
StopsMaking device file WriteFault = ⊥
StopsMaking device file NoMemory = Unit {0}
StopsMaking device file (JournalRefused line) = ⊥
StopsMaking device file NoSuchFile = ⊥

-- What a stop leaves under the names. A disk that failed is not kept: the zero bytes stand there that it began with.
abbrev pub LeavesUnmade : Under → Under → List ℕ → ℕ → ℕ → Stop → Type 0
LeavesUnmade old new name blocks inodes Words = new ≡ old
LeavesUnmade old new name blocks inodes (Refused condition place) = new ≡ old
LeavesUnmade old new name blocks inodes DeviceFault = StandsAlone old new name (zero_blocks blocks)
LeavesUnmade old new name blocks inodes FileFault = MayHaveMade old new name blocks inodes
LeavesUnmade old new name blocks inodes WriteFault = new ≡ old
LeavesUnmade old new name blocks inodes NoMemory = MayHaveMade old new name blocks inodes
LeavesUnmade old new name blocks inodes (JournalRefused line) = new ≡ old
LeavesUnmade old new name blocks inodes NoSuchFile = new ≡ old
