-- Which calls of a disk in memory fail, and what its log holds of a call.
use Rattle.std.specs.Prelude.{◌≡◌, ◌==◌, ◌⊎◌, ◌++◌, ◌∷◌, [], ℕ, Bool, true, false, List}
use Rattle.std.specs.List.{list_any}
use Rattle.sv_dev.specs.declared.mem_disk.Access.{Access}
use Rattle.sv_dev.specs.declared.mem_disk.Fail.{Fail}
use Rattle.sv_dev.specs.declared.mem_disk.Fail.TheVariants.{Read, Write, AllReads, AllWrites}

-- does this entry name the read with that number
abbrev pub names_read : ℕ → Fail → Bool
names_read number (Read named) = named == number
names_read number AllReads = true
names_read number (Write named) = false
names_read number AllWrites = false

-- does this entry name the write with that number
abbrev pub names_write : ℕ → Fail → Bool
names_write number (Read named) = false
names_write number AllReads = false
names_write number (Write named) = named == number
names_write number AllWrites = true

-- does an entry of the list name the read with that number
abbrev pub fails_read : List Fail → ℕ → Bool
fails_read fails number = list_any (names_read number) fails

-- does an entry of the list name the write with that number
abbrev pub fails_write : List Fail → ℕ → Bool
fails_write fails number = list_any (names_write number) fails

-- the log has this access more, or stays as it was for want of memory
abbrev pub Logs : List Access → List Access → Access → Type 0
Logs old new access = (new ≡ old ++ access ∷ []) ⊎ (new ≡ old)
