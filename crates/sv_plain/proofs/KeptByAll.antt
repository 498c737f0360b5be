-- A file system stays whole by a step of any op.
use Rattle.std.proofs.Common.{ℕ, sym, subst}
use Rattle.sv_plain.specs.declared.history.op.Op.{Op}
use Rattle.sv_plain.specs.declared.history.op.Op.TheVariants.{Look, Drop, Create, AddLink, Enter, SubLink, Unlink, Rmdir, OpenFile, CloseFile, DupFile, Read, Write, Seek, Trunc, Stat, Promise, Forgo, Sync, Purge}
use Rattle.sv_plain.specs.declared.history.reply.Reply.{Reply}
use Rattle.sv_plain.specs.Fs.{Fs}
use Rattle.sv_plain.specs.Whole.{IsWhole}
use Rattle.sv_plain.specs.Names.{has_reference}
use Rattle.sv_plain.specs.Step.{is_dots}
use Rattle.sv_plain.specs.Laws.{EntersName, KeepsWhole}
use Rattle.sv_plain.proofs.Got.{and_left, and_right, not_true}
use Rattle.sv_plain.proofs.KeepsLinks.{keeps-add_link, keeps-sub_link, keeps-trunc}
use Rattle.sv_plain.proofs.KeepsCreate.{keeps-create}
use Rattle.sv_plain.proofs.KeepsEntered.{keeps-enter}
use Rattle.sv_plain.proofs.KeepsNames.{keeps-unlink}
use Rattle.sv_plain.proofs.KeepsRmdir.{keeps-rmdir}
use Rattle.sv_plain.proofs.KeepsWhole.{keeps-look, keeps-drop, keeps-open, keeps-close, keeps-dup, keeps-read, keeps-seek, keeps-promised, keeps-forgone}
use Rattle.sv_plain.proofs.KeepsPurge.{keeps-purge}
use Rattle.sv_plain.proofs.KeepsWrite.{keeps-write}

pub keeps-step : (op : Op) → EntersName op → KeepsWhole op
keeps-step (Look dir name) _ fs after p reply w s = subst IsWhole (sym s.changed) (keeps-look fs p dir name reply w s.right)
keeps-step (Drop ino) _ fs after p reply w s = subst IsWhole (sym s.changed) (keeps-drop fs p ino reply w s.allowed s.right)
keeps-step (Create dir name kind mode) is_name fs after p reply w s = subst IsWhole (sym s.changed) (keeps-create fs p dir name kind mode reply w is_name s.allowed s.right)
keeps-step (AddLink ino) _ fs after p reply w s = subst IsWhole (sym s.changed) (keeps-add_link fs p ino reply w (and_left (has_reference fs p ino) _ s.allowed) (and_right (has_reference fs p ino) _ s.allowed) s.right)
keeps-step (Enter dir name ino) is_name fs after p reply w s = subst IsWhole (sym s.changed) (keeps-enter fs p dir name ino reply w is_name s.allowed s.right)
keeps-step (SubLink ino) _ fs after p reply w s = subst IsWhole (sym s.changed) (keeps-sub_link fs p ino reply w (and_right (has_reference fs p ino) _ s.allowed))
keeps-step (Unlink dir name) _ fs after p reply w s = subst IsWhole (sym s.changed) (keeps-unlink fs p dir name reply w (not_true (is_dots name) (and_right (has_reference fs p dir) _ s.allowed)) s.right)
keeps-step (Rmdir dir name) _ fs after p reply w s = subst IsWhole (sym s.changed) (keeps-rmdir fs p dir name reply w (not_true (is_dots name) (and_right (has_reference fs p dir) _ s.allowed)) s.right)
keeps-step (OpenFile ino mode) _ fs after p reply w s = subst IsWhole (sym s.changed) (keeps-open fs p ino mode reply w (and_left (has_reference fs p ino) _ s.allowed) s.right)
keeps-step (CloseFile file) _ fs after p reply w s = subst IsWhole (sym s.changed) (keeps-close fs file reply w s.right)
keeps-step (DupFile file) _ fs after p reply w s = subst IsWhole (sym s.changed) (keeps-dup fs file reply w)
keeps-step (Read file count) _ fs after p reply w s = subst IsWhole (sym s.changed) (keeps-read fs file count reply w s.right)
keeps-step (Write file bytes) _ fs after p reply w s = subst IsWhole (sym s.changed) (keeps-write fs p file bytes reply w s.allowed s.right)
keeps-step (Seek file offset whence) _ fs after p reply w s = subst IsWhole (sym s.changed) (keeps-seek fs file offset whence reply w s.right)
keeps-step (Trunc ino) _ fs after p reply w s = subst IsWhole (sym s.changed) (keeps-trunc fs p ino reply w s.allowed s.right)
keeps-step (Stat ino) _ fs after p reply w s = subst IsWhole (sym s.changed) w
keeps-step (Promise need) _ fs after p reply w s = subst IsWhole (sym s.changed) (keeps-promised fs p need reply w s.right)
keeps-step Forgo _ fs after p reply w s = subst IsWhole (sym s.changed) (keeps-forgone fs p reply w)
keeps-step Sync _ fs after p reply w s = subst IsWhole (sym s.changed) w
keeps-step Purge _ fs after p reply w s = keeps-purge fs after reply w s.changed
