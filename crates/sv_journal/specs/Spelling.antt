-- The text of a journal: a first line with the number of processes and of the places for in-core inodes, and then a line
-- for each entry. Words are split by one space, and each line is ended by a newline byte.
use Rattle.std.specs.Prelude.{◌++◌, ◌==◌, ℕ, List, length, codes, false, if◌then◌else◌}
use Rattle.std.specs.List.{flat_map}
use Rattle.std.specs.Fmt.{decimal, digits, signed_decimal}
use Rattle.hex.specs.Hex.{encode_lower}
use Rattle.sv_form.specs.declared.kind.Kind.{Kind}
use Rattle.sv_form.specs.declared.kind.Kind.TheVariants.{File, Dir}
use Rattle.sv_plain.specs.declared.history.entry.Entry.{Entry}
use Rattle.sv_plain.specs.declared.fs.mode.Mode.{Mode}
use Rattle.sv_plain.specs.declared.fs.mode.Mode.TheVariants.{R, W, RW}
use Rattle.sv_plain.specs.declared.history.need.Need.{Need}
use Rattle.sv_plain.specs.declared.history.need.Need.TheVariants as need
use Rattle.sv_plain.specs.declared.history.op.Op.{Op}
use Rattle.sv_plain.specs.declared.history.op.Op.TheVariants.{Look, Drop, Create, AddLink, Enter, SubLink, Unlink, Rmdir, OpenFile, CloseFile}
use Rattle.sv_plain.specs.declared.history.op.Op.TheVariants.{DupFile, Read, Write, Seek, Trunc, Stat, Promise, Forgo, Sync, Purge}
use Rattle.sv_plain.specs.declared.history.reply.Reply.{Reply}
use Rattle.sv_plain.specs.declared.history.reply.Reply.TheVariants.{Found, NotFound, NotDir, Gone, Full, Fault, Kept, Freed, Late, LateMemory, Made}
use Rattle.sv_plain.specs.declared.history.reply.Reply.TheVariants.{ManyLinks, NoInode, Raised, IsDir, Entered, Exists, Lowered, Removed, Plain}
use Rattle.sv_plain.specs.declared.history.reply.Reply.TheVariants.{NotEmpty, Opened, Dupped, Got, Wrote, FaultAfter, At, Bad, Done, Status}
use Rattle.sv_plain.specs.declared.history.reply.Reply.TheVariants.{Granted, NoSpace, TooBig}

-- ---- words

-- a number after a word
abbrev pub numbered : List ℕ → ℕ → List ℕ
numbered word n = word ++ codes " " ++ decimal n

-- octal without leading zeros
abbrev pub octal : ℕ → List ℕ
octal n = digits 8 false n

-- the bytes' digits, or a dash for none
abbrev pub bytes_text : List ℕ → List ℕ
bytes_text bytes = if length bytes == 0 then codes "-" else encode_lower bytes

abbrev pub kind_text : Kind → List ℕ
kind_text File = codes "f"
kind_text Dir = codes "d"

abbrev pub mode_text : Mode → List ℕ
mode_text R = codes "r"
mode_text W = codes "w"
mode_text RW = codes "rw"

-- a word, a directory, and a name in it
abbrev pub place_text : List ℕ → ℕ → List ℕ → List ℕ
place_text word dir name = word ++ codes " " ++ decimal dir ++ codes " " ++ encode_lower name

-- what is made, behind the place where it is
abbrev pub made_text : Kind → ℕ → List ℕ
made_text kind mode = codes " " ++ kind_text kind ++ codes " " ++ octal mode

-- ---- lines

abbrev pub need_text : Need → List ℕ
need_text (need.Write file count) = codes "promise write " ++ decimal file ++ codes " " ++ decimal count
need_text (need.Enter dir name) = place_text (codes "promise enter") dir name
need_text (need.Make dir name) = place_text (codes "promise make") dir name

abbrev pub op_text : Op → List ℕ
op_text (Look dir name) = place_text (codes "look") dir name
op_text (Drop ino) = numbered (codes "drop") ino
op_text (Create dir name kind mode) = place_text (codes "create") dir name ++ made_text kind mode
op_text (AddLink ino) = numbered (codes "addlink") ino
op_text (Enter dir name ino) = place_text (codes "enter") dir name ++ codes " " ++ decimal ino
op_text (SubLink ino) = numbered (codes "sublink") ino
op_text (Unlink dir name) = place_text (codes "unlink") dir name
op_text (Rmdir dir name) = place_text (codes "rmdir") dir name
op_text (OpenFile ino mode) = numbered (codes "open") ino ++ codes " " ++ mode_text mode
op_text (CloseFile file) = numbered (codes "close") file
op_text (DupFile file) = numbered (codes "dup") file
op_text (Read file count) = numbered (codes "read") file ++ codes " " ++ decimal count
op_text (Write file bytes) = numbered (codes "write") file ++ codes " " ++ bytes_text bytes
op_text (Seek file offset whence) = numbered (codes "seek") file ++ codes " " ++ signed_decimal offset ++ codes " " ++ decimal whence
op_text (Trunc ino) = numbered (codes "trunc") ino
op_text (Stat ino) = numbered (codes "stat") ino
op_text (Promise what) = need_text what
op_text Forgo = codes "forgo"
op_text Sync = codes "sync"
op_text Purge = codes "purge"

abbrev pub reply_text : Reply → List ℕ
reply_text (Found ino) = numbered (codes "found") ino
reply_text NotFound = codes "notfound"
reply_text NotDir = codes "notdir"
reply_text Gone = codes "gone"
reply_text Full = codes "full"
reply_text Fault = codes "fault"
reply_text Kept = codes "kept"
reply_text Freed = codes "freed"
reply_text Late = codes "late"
reply_text LateMemory = codes "latememory"
reply_text (Made ino) = numbered (codes "made") ino
reply_text ManyLinks = codes "manylinks"
reply_text NoInode = codes "noinode"
reply_text Raised = codes "raised"
reply_text IsDir = codes "isdir"
reply_text Entered = codes "entered"
reply_text Exists = codes "exists"
reply_text Lowered = codes "lowered"
reply_text (Removed ino) = numbered (codes "removed") ino
reply_text Plain = codes "plain"
reply_text NotEmpty = codes "notempty"
reply_text (Opened file) = numbered (codes "opened") file
reply_text Dupped = codes "dupped"
reply_text (Got bytes) = codes "got " ++ bytes_text bytes
reply_text (Wrote count) = numbered (codes "wrote") count
reply_text (FaultAfter count) = numbered (codes "faultafter") count
reply_text (At offset) = numbered (codes "at") offset
reply_text Bad = codes "bad"
reply_text Done = codes "done"
reply_text (Status kind mode links size) = codes "is " ++ kind_text kind ++ codes " " ++ octal mode ++ codes " " ++ decimal links ++ codes
    " " ++ decimal size
reply_text (Granted count) = numbered (codes "granted") count
reply_text NoSpace = codes "nospace"
reply_text TooBig = codes "toobig"

-- the line of an entry: who asked, for what, and what was answered
abbrev pub entry_line : Entry → List ℕ
entry_line e = decimal e.process ++ codes " " ++ op_text e.op ++ codes " = " ++ reply_text e.reply ++ codes "\n"

-- the first line: 1 is the form's number
abbrev pub head_line : ℕ → ℕ → List ℕ
head_line processes table = codes "svj 1 " ++ decimal processes ++ codes " " ++ decimal table ++ codes "\n"

unfoldable pub journal_text : ℕ → ℕ → List Entry → List ℕ
journal_text processes table entries = head_line processes table ++ flat_map entry_line entries
