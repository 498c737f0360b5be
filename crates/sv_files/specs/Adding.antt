-- What a call makes of its pass, in terms of the pass's own view alone.
use Rattle.std.specs.Prelude.{◌≡◌, ◌≤◌, ◌<◌, ◌+◌, ◌-◌, ◌==◌, ◌++◌, ℕ, true, List, [], ◌∷◌, map, Option, Some}
use Rattle.sv_dev.specs.Causes.{last_count}
use Rattle.sv_form.specs.Geometry.{IsNumber, inode_place}
use Rattle.sv_form.specs.Inode.{IsInode}
use Rattle.sv_form.specs.Node.{Node}
use Rattle.sv_form.specs.PagePath.{greatest_size}
use Rattle.sv_form.specs.declared.inode.DiskInode.TheVariants.{Used}
use Rattle.sv_form.specs.declared.inode.InodeBody.{InodeBody}
use Rattle.sv_store.specs.Held.{Held, Origin, nothing_lent}
use Rattle.sv_plain.specs.declared.history.entry.Entry.{Entry}
use Rattle.sv_plain.specs.declared.history.op.Op.{Op}
use Rattle.sv_plain.specs.declared.history.op.Op.TheVariants as op
use Rattle.sv_plain.specs.declared.history.reply.Reply.{Reply}
use Rattle.sv_plain.specs.declared.history.reply.Reply.TheVariants as reply
use Rattle.sv_plain.specs.Fs.{Fs}
use Rattle.sv_plain.specs.Names.{references_of}
use Rattle.sv_plain.specs.Step.{Step}
use Rattle.sv_plain.specs.Totals.{one_if}
use Rattle.sv_plain.specs.Whole.{IsWhole}
use Rattle.sv_files.specs.declared.in_core.InCore.{InCore}
use Rattle.sv_files.specs.View.{View, Mount, Proc, Lock, Seen, Each, lock_of, lock_seen, of_one, times}
use Rattle.sv_files.specs.FileRule.{IsNodeOf, StandsAs, at_home, home_at, is_faulty}

-- the view of a pass of one process that has locked one inode
pub record HasOneLock (v : View) (k : Lock) : Type 0 where
  pub mount : Mount
  pub proc : Proc
  pub is : v ≡ of_one mount proc (k ∷ [])

-- How many failed calls a process counts when a stake comes back: what its count rose by, and one more where the count stands at
-- its last value. So it is at least 1 wherever a call of the stake failed.
abbrev pub rise : ℕ → ℕ → ℕ
rise before now = (now - before) + one_if (now == last_count)

abbrev pub locks_rise : List Lock → ℕ → ℕ
locks_rise [] now = 0
locks_rise (k ∷ ks) now = rise k.faults now

-- a process after so many calls failed, and after one entry more besides
abbrev pub failed : ℕ → Proc → Proc
failed n p = record p { faults = p.faults + n }

-- the references of a process after a step with this reply
abbrev pub references_after : Op → Reply → List ℕ → List ℕ
references_after (op.Look dir name) (reply.Found i) references = i ∷ references
references_after _ _ references = references

abbrev pub answered : Entry → ℕ → Proc → Proc
answered e n p = record p {
  references = references_after e.op e.reply p.references;
  faults = p.faults + n;
  entries = p.entries ++ e ∷ [];
}

-- the view with an inode locked
abbrev pub locked_view : ℕ → Option InCore → Seen → View → View
locked_view n core z v = record v { locks = lock_of n core z ∷ v.locks }

-- the view once the stake is back with this count of faults: without an entry, and with one
abbrev pub failed_view : ℕ → View → View
failed_view now v = record v { procs = map (failed (locks_rise v.locks now)) v.procs; locks = [] }

abbrev pub answered_view : Entry → ℕ → View → View
answered_view e now v = record v { procs = map (answered e (locks_rise v.locks now)) v.procs; locks = [] }

-- the count of faults of the stake of inode n, which is at home
abbrev pub home_faults : {S : Type 0} → (S → Seen) → List (Option S) → ℕ → ℕ
home_faults seen stakes n = at_home seen (λ z. z.faults) (home_at stakes n)

-- the view after the last entry of a history
abbrev pub ended_view : List Entry → ℕ → View → View
ended_view [] now v = v
ended_view (e ∷ []) now v = answered_view e now v
ended_view (x ∷ y ∷ h) now v = ended_view (y ∷ h) now v

-- the stake holds what the lock notes, and lends nothing; its count of faults did not fall
pub record IsStill (k : Lock) (n : ℕ) (core : Option InCore) (z : Seen) : Type 0 where
  pub number : k.number ≡ n
  pub core_same : k.core ≡ core
  pub held : z.held ≡ (lock_seen k).held
  pub lent : z.lent ≡ nothing_lent
  pub origin : z.origin ≡ k.origin
  pub forced : z.forced ≡ k.forced
  pub no_less : k.faults ≤ z.faults

-- What the pass's own view says of a file system: it is whole, the references of its processes are those of the view, each locked
-- inode stands for its node, and its blocks have the size of the image's.
pub record Sees (v : View) (fs : Fs) : Type 0 where
  pub whole : IsWhole fs
  pub references : Each (λ p. (i : ℕ) → references_of fs p.process i ≡ times i p.references) v.procs
  pub locked : Each (λ k. IsNodeOf k.origin fs.nodes k.number k.core (lock_seen k)) v.locks
  pub block : Each (λ k. fs.block ≡ k.origin.sizes.block_size) v.locks

-- In each file system that the view allows, the entry is a step that changes nothing.
pub record KeepsAll (v : View) (e : Entry) : Type 0 where
  pub none : (references : List ℕ) → references_after e.op e.reply references ≡ references
  pub steps : (fs : Fs) → Sees v fs → Step fs e.process e.op e.reply fs

-- it is an entry of the pass's process
abbrev pub IsEntryOf : View → Entry → Type 0
IsEntryOf v e = Each (λ p. p.process ≡ e.process) v.procs

-- the reply says that a call failed only where the count of the locked inode's stake rose
abbrev pub HasCauseIn : View → ℕ → Entry → Type 0
HasCauseIn v now e = is_faulty e.reply ≡ true → 0 < locks_rise v.locks now

-- the stake holds the line of inode n, which spells a used inode
pub record HoldsUsedLine (o : Origin) (h : Held) (n : ℕ) : Type 0 where
  pub number : IsNumber o.sizes n
  pub body : InodeBody
  pub line : List ℕ
  pub there : h (inode_place o.sizes n).block (inode_place o.sizes n).line ≡ Some line
  pub spelled : IsInode line (Used body)

-- some node, no larger than a file can be, is what the stake of inode n stands for
pub record StandsForSome (n : ℕ) (core : Option InCore) (z : Seen) : Type 0 where
  pub origin : Origin
  pub node : Node
  pub stands : StandsAs origin n core z node
  pub size : node.size ≤ greatest_size origin.sizes
