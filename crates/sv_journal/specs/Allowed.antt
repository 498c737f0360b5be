-- What a journal may hold: which replies stand behind which op, which process asks for what, and how large its numbers
-- are. Whether the replies are those that the file system gives is another matter, and not said here.
use Rattle.std.specs.Prelude.{◌≡◌, ◌≤◌, ◌==◌, ℕ, Bool, true, false}
use Rattle.sv_plain.specs.declared.history.entry.Entry.{Entry}
use Rattle.sv_plain.specs.declared.history.op.Op.{Op}
use Rattle.sv_plain.specs.declared.history.op.Op.TheVariants.{Look, Drop, Create, AddLink, Enter, SubLink, Unlink, Rmdir, OpenFile, CloseFile}
use Rattle.sv_plain.specs.declared.history.op.Op.TheVariants.{DupFile, Read, Write, Seek, Trunc, Stat, Promise, Forgo, Sync, Purge}
use Rattle.sv_plain.specs.declared.history.reply.Reply.{Reply}
use Rattle.sv_plain.specs.declared.history.reply.Reply.TheVariants.{Found, NotFound, NotDir, Gone, Full, Fault, Kept, Freed, Late, LateMemory, Made}
use Rattle.sv_plain.specs.declared.history.reply.Reply.TheVariants.{ManyLinks, NoInode, Raised, IsDir, Entered, Exists, Lowered, Removed, Plain}
use Rattle.sv_plain.specs.declared.history.reply.Reply.TheVariants.{NotEmpty, Opened, Dupped, Got, Wrote, FaultAfter, At, Bad, Done, Status}
use Rattle.sv_plain.specs.declared.history.reply.Reply.TheVariants.{Granted, NoSpace, TooBig}

-- ---- which replies an op has

abbrev pub answers_look : Reply → Bool
answers_look NotDir = true
answers_look Gone = true
answers_look NotFound = true
answers_look Full = true
answers_look (Found ino) = true
answers_look Fault = true
answers_look _ = false

-- of drop and close, where something may go
abbrev pub answers_last : Reply → Bool
answers_last Kept = true
answers_last Freed = true
answers_last Late = true
answers_last LateMemory = true
answers_last _ = false

abbrev pub answers_create : Reply → Bool
answers_create NotDir = true
answers_create Gone = true
answers_create Full = true
answers_create (Found ino) = true
answers_create ManyLinks = true
answers_create NoInode = true
answers_create (Made ino) = true
answers_create Fault = true
answers_create _ = false

abbrev pub answers_add_link : Reply → Bool
answers_add_link IsDir = true
answers_add_link Gone = true
answers_add_link ManyLinks = true
answers_add_link Raised = true
answers_add_link Fault = true
answers_add_link _ = false

abbrev pub answers_enter : Reply → Bool
answers_enter NotDir = true
answers_enter Gone = true
answers_enter Exists = true
answers_enter Entered = true
answers_enter Fault = true
answers_enter _ = false

abbrev pub answers_sub_link : Reply → Bool
answers_sub_link Lowered = true
answers_sub_link _ = false

abbrev pub answers_unlink : Reply → Bool
answers_unlink NotDir = true
answers_unlink Gone = true
answers_unlink NotFound = true
answers_unlink Full = true
answers_unlink IsDir = true
answers_unlink (Removed ino) = true
answers_unlink Fault = true
answers_unlink _ = false

abbrev pub answers_rmdir : Reply → Bool
answers_rmdir NotDir = true
answers_rmdir Gone = true
answers_rmdir NotFound = true
answers_rmdir Full = true
answers_rmdir Plain = true
answers_rmdir NotEmpty = true
answers_rmdir (Removed ino) = true
answers_rmdir Fault = true
answers_rmdir _ = false

abbrev pub answers_open : Reply → Bool
answers_open IsDir = true
answers_open (Opened file) = true
answers_open Fault = true
answers_open _ = false

abbrev pub answers_dup : Reply → Bool
answers_dup Dupped = true
answers_dup _ = false

abbrev pub answers_read : Reply → Bool
answers_read (Got bytes) = true
answers_read Fault = true
answers_read _ = false

abbrev pub answers_write : Reply → Bool
answers_write (Wrote count) = true
answers_write (FaultAfter count) = true
answers_write _ = false

abbrev pub answers_seek : Reply → Bool
answers_seek Bad = true
answers_seek (At offset) = true
answers_seek _ = false

abbrev pub answers_trunc : Reply → Bool
answers_trunc IsDir = true
answers_trunc Done = true
answers_trunc Fault = true
answers_trunc _ = false

abbrev pub answers_stat : Reply → Bool
answers_stat (Status kind mode links size) = true
answers_stat Fault = true
answers_stat _ = false

abbrev pub answers_promise : Reply → Bool
answers_promise TooBig = true
answers_promise NoSpace = true
answers_promise (Granted count) = true
answers_promise Fault = true
answers_promise _ = false

abbrev pub answers_forgo : Reply → Bool
answers_forgo Done = true
answers_forgo _ = false

abbrev pub answers_sync : Reply → Bool
answers_sync Done = true
answers_sync Fault = true
answers_sync _ = false

abbrev pub answers_purge : Reply → Bool
answers_purge Done = true
answers_purge Late = true
answers_purge LateMemory = true
answers_purge _ = false

abbrev pub is_reply_of : Op → Reply → Bool
is_reply_of (Look dir name) reply = answers_look reply
is_reply_of (Drop ino) reply = answers_last reply
is_reply_of (Create dir name kind mode) reply = answers_create reply
is_reply_of (AddLink ino) reply = answers_add_link reply
is_reply_of (Enter dir name ino) reply = answers_enter reply
is_reply_of (SubLink ino) reply = answers_sub_link reply
is_reply_of (Unlink dir name) reply = answers_unlink reply
is_reply_of (Rmdir dir name) reply = answers_rmdir reply
is_reply_of (OpenFile ino mode) reply = answers_open reply
is_reply_of (CloseFile file) reply = answers_last reply
is_reply_of (DupFile file) reply = answers_dup reply
is_reply_of (Read file count) reply = answers_read reply
is_reply_of (Write file bytes) reply = answers_write reply
is_reply_of (Seek file offset whence) reply = answers_seek reply
is_reply_of (Trunc ino) reply = answers_trunc reply
is_reply_of (Stat ino) reply = answers_stat reply
is_reply_of (Promise what) reply = answers_promise reply
is_reply_of Forgo reply = answers_forgo reply
is_reply_of Sync reply = answers_sync reply
is_reply_of Purge reply = answers_purge reply

-- ---- entries

abbrev pub is_purge : Op → Bool
is_purge Purge = true
is_purge _ = false

-- an entry of one of the processes 1 to `processes`, or a purge of the system
pub record IsJournalEntry (processes : ℕ) (e : Entry) : Type 0 where
  pub process : e.process ≤ processes
  pub system : is_purge e.op ≡ (e.process == 0)
  pub reply : is_reply_of e.op e.reply ≡ true

-- how many processes a journal speaks of, and how many inodes their table holds
pub record AreSizes (processes table : ℕ) : Type 0 where
  pub some : 1 ≤ processes
  pub few : processes ≤ 16
  pub least : 2 ≤ table
  pub most : table ≤ 400
