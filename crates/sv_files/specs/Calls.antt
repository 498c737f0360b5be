-- What the calls of the file turn ask of a pass, and what they add.
use Rattle.std.specs.Prelude.{◌≡◌, ◌<◌, ◌≤◌, ℕ, true, List, [], length, map, Result, Ok, Err}
use Rattle.sv_form.specs.declared.inode.InodeBody.{InodeBody}
use Rattle.sv_store.specs.declared.refusal.Refusal.{Refusal}
use Rattle.sv_turn.specs.Turning.{total}
use Rattle.sv_plain.specs.Fs.{Fs}
use Rattle.sv_plain.specs.History.{IsLegal, Leads, own}
use Rattle.sv_plain.specs.Whole.{IsWhole}
use Rattle.sv_plain.specs.declared.history.entry.Entry.{Entry}
use Rattle.sv_plain.specs.declared.history.op.Op.{Op}
use Rattle.sv_plain.specs.declared.history.op.Op.TheVariants as op
use Rattle.sv_plain.specs.declared.history.reply.Reply.{Reply}
use Rattle.sv_plain.specs.declared.history.reply.Reply.TheVariants as reply
use Rattle.sv_files.specs.View.{View, Mount, Proc, Each, first_fs, of_one, times}
use Rattle.sv_files.specs.FileRule.{faulty, is_faulty}
use Rattle.sv_files.specs.Adding.{answered, failed}

-- the view is that of process p alone, which has locked nothing
pub record IsViewOf (p : ℕ) (v : View) : Type 0 where
  pub mount : Mount
  pub proc : Proc
  pub is : v ≡ of_one mount proc []
  pub process : proc.process ≡ p

-- the op is a Stat of an inode to which the process has a reference
abbrev pub CanStat : Proc → Op → Type 0
CanStat p (op.Stat ino) = 0 < times ino p.references
CanStat p _ = ⊥

-- the reply of a Stat: what the body says, or that it could not be read
abbrev pub status_of : Result InodeBody Refusal → Reply
status_of (Ok body) = reply.Status body.kind body.mode body.links body.size
status_of (Err refusal) = reply.Fault

-- The process has this entry more, and counts so many failed calls more; at least one where the reply says that one failed.
pub record Adds (old new : View) (e : Entry) : Type 0 where
  pub more : ℕ
  pub is : new ≡ record old { procs = map (answered e more) old.procs }
  pub cause : is_faulty e.reply ≡ true → 0 < more

-- The process has no entry more, and counts so many failed calls more.
pub record AddsNothing (old new : View) : Type 0 where
  pub more : ℕ
  pub is : new ≡ record old { procs = map (failed more) old.procs }

-- What is known of a history once all passes are one: it is legal from what was mounted, and leads to a whole file system; the view
-- has each process's entries in order, and counts at least as many failed calls as there are entries that say that one failed.
pub record HasHistory (v : View) (history : List Entry) : Type 0 where
  pub mount : Mount
  pub known : 0 < length v.procs → v.mount ≡ mount
  pub last : Fs
  pub leads : Leads history (first_fs mount) last
  pub legal : IsLegal history (first_fs mount)
  pub whole : IsWhole last
  pub entries : Each (λ p. own history p.process ≡ p.entries) v.procs
  pub faults : Each (λ p. total faulty p.entries ≤ p.faults) v.procs
