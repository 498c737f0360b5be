-- How large the numbers of an entry are, and what its names and bytes are: what the fields of an entry can hold.
use Rattle.std.specs.Prelude.{◌<◌, ◌^◌, ℕ, List, FitsSigned}
use Rattle.std.specs.Int.{w64}
use Rattle.sv_form.specs.Name.{IsName}
use Rattle.sv_form.specs.Number.{AreBytes}
use Rattle.sv_plain.specs.declared.history.entry.Entry.{Entry}
use Rattle.sv_plain.specs.declared.history.need.Need.{Need}
use Rattle.sv_plain.specs.declared.history.need.Need.TheVariants as need
use Rattle.sv_plain.specs.declared.history.op.Op.{Op}
use Rattle.sv_plain.specs.declared.history.op.Op.TheVariants.{Look, Drop, Create, AddLink, Enter, SubLink, Unlink, Rmdir, OpenFile, CloseFile}
use Rattle.sv_plain.specs.declared.history.op.Op.TheVariants.{DupFile, Read, Write, Seek, Trunc, Stat, Promise, Forgo, Sync, Purge}
use Rattle.sv_plain.specs.declared.history.reply.Reply.{Reply}
use Rattle.sv_plain.specs.declared.history.reply.Reply.TheVariants.{Found, Made, Removed, Opened, Got, Wrote, FaultAfter, At, Status, Granted}

-- the number of a process, or from where a seek counts
abbrev pub IsByte : ℕ → Type 0
IsByte n = n < 2 ^ 8

-- the number of an inode or a file, a mode, or a count of links
abbrev pub IsShort : ℕ → Type 0
IsShort n = n < 2 ^ 16

-- a count of bytes or blocks, a size, or a file's offset
abbrev pub IsLong : ℕ → Type 0
IsLong n = n < 2 ^ 32

-- a name, whose bytes are bytes
abbrev pub IsCalled : List ℕ → Type 0
IsCalled name = IsName name × AreBytes name

-- a name in a directory
abbrev pub IsPlace : ℕ → List ℕ → Type 0
IsPlace dir name = IsShort dir × IsCalled name

abbrev pub NeedFits : Need → Type 0
NeedFits (need.Write file count) = IsShort file × IsLong count
NeedFits (need.Enter dir name) = IsPlace dir name
NeedFits (need.Make dir name) = IsPlace dir name

abbrev pub OpFits : Op → Type 0
OpFits (Look dir name) = IsPlace dir name
OpFits (Drop ino) = IsShort ino
OpFits (Create dir name kind mode) = IsPlace dir name × IsShort mode
OpFits (AddLink ino) = IsShort ino
OpFits (Enter dir name ino) = IsPlace dir name × IsShort ino
OpFits (SubLink ino) = IsShort ino
OpFits (Unlink dir name) = IsPlace dir name
OpFits (Rmdir dir name) = IsPlace dir name
OpFits (OpenFile ino mode) = IsShort ino
OpFits (CloseFile file) = IsShort file
OpFits (DupFile file) = IsShort file
OpFits (Read file count) = IsShort file × IsLong count
OpFits (Write file bytes) = IsShort file × AreBytes bytes
OpFits (Seek file offset whence) = IsShort file × FitsSigned w64 offset × IsByte whence
OpFits (Trunc ino) = IsShort ino
OpFits (Stat ino) = IsShort ino
OpFits (Promise what) = NeedFits what
OpFits Forgo = Unit {0}
OpFits Sync = Unit {0}
OpFits Purge = Unit {0}

abbrev pub ReplyFits : Reply → Type 0
ReplyFits (Found ino) = IsShort ino
ReplyFits (Made ino) = IsShort ino
ReplyFits (Removed ino) = IsShort ino
ReplyFits (Opened file) = IsShort file
ReplyFits (Got bytes) = AreBytes bytes
ReplyFits (Wrote count) = IsLong count
ReplyFits (FaultAfter count) = IsLong count
ReplyFits (At offset) = IsLong offset
ReplyFits (Status kind mode links size) = IsShort mode × IsShort links × IsLong size
ReplyFits (Granted count) = IsLong count
ReplyFits _ = Unit {0}

pub record Fits (e : Entry) : Type 0 where
  pub process : IsByte e.process
  pub op : OpFits e.op
  pub reply : ReplyFits e.reply
