-- The rule of the file turn: what holds of the state and of all views whenever the turn is free. It has named parts, each over the
-- fields that it names, so that what changes none of them keeps it.
use Rattle.std.specs.Prelude.{◌≡◌, ◌+◌, ◌*◌, ◌<◌, ◌≤◌, ◌==◌, ◌&&◌, ℕ, zero, suc, Bool, true, false, List, [], ◌∷◌, ◌++◌, length, min}
use Rattle.std.specs.Prelude.{Option, Some, None, is_some, nat_lt, nat_eq, slice_index}
use Rattle.std.specs.Ordering.{nat_cmp}
use Rattle.std.specs.FinMap as map
use Rattle.indexmap.specs.IndexMap as table
use Rattle.sv_dev.specs.Causes.{last_count}
use Rattle.sv_form.specs.Geometry.{IsNumber, inode_count, inode_place}
use Rattle.sv_form.specs.Inode.{IsInode}
use Rattle.sv_form.specs.Node.{Node}
use Rattle.sv_form.specs.PagePath.{greatest_size}
use Rattle.sv_form.specs.declared.geometry.Geometry.{Geometry}
use Rattle.sv_form.specs.declared.inode.DiskInode.TheVariants.{Used}
use Rattle.sv_form.specs.declared.inode.InodeBody.{InodeBody}
use Rattle.sv_turn.specs.Turning.{total}
use Rattle.sv_store.specs.Held.{Origin, nothing_lent}
use Rattle.sv_inode.specs.StandsFor.{StandsFor}
use Rattle.sv_inode.specs.Truncate.{HoldsOnly}
use Rattle.sv_plain.specs.declared.history.entry.Entry.{Entry}
use Rattle.sv_plain.specs.declared.history.op.Op.{Op}
use Rattle.sv_plain.specs.declared.history.op.Op.TheVariants as op
use Rattle.sv_plain.specs.declared.history.reply.Reply.{Reply}
use Rattle.sv_plain.specs.declared.history.reply.Reply.TheVariants as reply
use Rattle.sv_plain.specs.Fs.{Fs, places_taken}
use Rattle.sv_plain.specs.History.{Leads, own}
use Rattle.sv_plain.specs.Names.{references_of}
use Rattle.sv_plain.specs.Shares.{shares_of}
use Rattle.sv_plain.specs.Totals.{one_if}
use Rattle.sv_plain.specs.Whole.{IsWhole}
use Rattle.sv_files.specs.declared.in_core.InCore.{InCore}
use Rattle.sv_files.specs.declared.state.State.{State}
use Rattle.sv_files.specs.View.{View, Mount, Proc, Lock, Seen, Each, first_fs, lock_seen, times, all_procs, all_locks}

-- ---- the history

-- The history leads from what was mounted to fs, which is whole and has the sizes of the image.
pub record Follows (m : Mount) (history : List Entry) (fs : Fs) : Type 0 where
  pub leads : Leads history (first_fs m) fs
  pub whole : IsWhole fs
  pub block : fs.block ≡ m.origin.sizes.block_size
  pub inodes : fs.inodes ≡ inode_count m.origin.sizes
  pub greatest : fs.greatest ≡ greatest_size m.origin.sizes

-- ---- inodes at home or locked

-- the body is the one in core; of an inode that is not in core, and of one that no step has changed there, the line spells it
abbrev pub HasBody : Option InCore → List ℕ → InodeBody → Type 0
HasBody None line body = IsInode line (Used body)
HasBody (Some c) line body = (body ≡ c.body) × (c.changed ≡ false → IsInode line (Used body))

-- a stake of this image, which lends nothing, has inode n stand for the node, with what is kept of the inode in core
pub record StandsAs (o : Origin) (n : ℕ) (core : Option InCore) (z : Seen) (node : Node) : Type 0 where
  pub body : InodeBody
  pub line : List ℕ
  pub number : IsNumber o.sizes n
  pub there : z.held (inode_place o.sizes n).block (inode_place o.sizes n).line ≡ Some line
  pub has : HasBody core line body
  pub stands : StandsFor o z.held body node
  pub only : HoldsOnly o z.held n body.addresses
  pub lent : z.lent ≡ nothing_lent
  pub origin : z.origin ≡ o

-- it stands for node n
pub record IsNodeOf (o : Origin) (nodes : map.FinMap nat_cmp Node) (n : ℕ) (core : Option InCore) (z : Seen) : Type 0 where
  pub node : Node
  pub known : map.get nodes n ≡ Some node
  pub stands : StandsAs o n core z node

-- the stake of inode n that is at home
abbrev pub home_at : {S : Type 0} → List (Option S) → ℕ → Option S
home_at [] n = None
home_at (x ∷ xs) zero = x
home_at (x ∷ xs) (suc n) = home_at xs n

-- a locked inode is kept in core as the lock notes it, and stands for its node
pub record IsLocked (o : Origin) (nodes : map.FinMap nat_cmp Node) (core : ℕ → Option InCore) (k : Lock) : Type 0 where
  pub core_same : core k.number ≡ k.core
  pub stands : IsNodeOf o nodes k.number k.core (lock_seen k)

abbrev pub locks_on : ℕ → Lock → ℕ
locks_on n k = one_if (k.number == n)

-- There is a place for each inode; each node's inode is at home, or locked by exactly one pass; and nothing else is.
pub record Homes {S : Type 0} (seen : S → Seen) (o : Origin) (nodes : map.FinMap nat_cmp Node) (stakes : List (Option S))
    (core : ℕ → Option InCore) (locks : List Lock) : Type 0 where
  pub size : length stakes ≡ inode_count o.sizes + 1
  pub once : (n : ℕ) → one_if (is_some (home_at stakes n)) + total (locks_on n) locks ≡ one_if (map.contains_key nodes n)
  pub home : (n : ℕ) (s : S) → home_at stakes n ≡ Some s → IsNodeOf o nodes n (core n) (seen s)
  pub away : Each (IsLocked o nodes core) locks

-- ---- processes

abbrev pub names : ℕ → Proc → ℕ
names q p = one_if (p.process == q)

-- what a view says of a process is so
pub record IsAgreed (m : Mount) (fs : Fs) (history : List Entry) (p : Proc) : Type 0 where
  pub most : p.process ≤ m.processes
  pub references : (i : ℕ) → references_of fs p.process i ≡ times i p.references
  pub entries : own history p.process ≡ p.entries

-- The views agree with the history and with where it leads, and no two speak of one process.
pub record Agrees (m : Mount) (fs : Fs) (history : List Entry) (procs : List Proc) : Type 0 where
  pub once : (q : ℕ) → total (names q) procs ≤ 1
  pub each : Each (IsAgreed m fs history) procs

-- how many entries a process is owed: each of its references is given back by one
abbrev pub owes : Proc → ℕ
owes p = length p.references

-- ---- how often inodes are referred to

-- The counts are the shares of each inode, and so many inodes have some. The table of in-core inodes has a place for each of them.
pub record Counts (fs : Fs) (counts : List ℕ) (taken places : ℕ) : Type 0 where
  pub size : length counts ≡ fs.inodes + 1
  pub each : (i : ℕ) → i ≤ fs.inodes → slice_index counts i ≡ shares_of fs i
  pub all : taken ≡ places_taken fs.inodes fs.references fs.files
  pub room : fs.places ≡ places

-- ---- all stakes together

-- f of each stake: of the one that holds all that no node uses, of those at home, and of those that are out
abbrev pub at_home : {S : Type 0} → (S → Seen) → (Seen → ℕ) → Option S → ℕ
at_home seen f None = 0
at_home seen f (Some s) = f (seen s)

abbrev pub over_all : {S : Type 0} → (S → Seen) → (Seen → ℕ) → S → List (Option S) → List Lock → ℕ
over_all seen f rest stakes locks = f (seen rest) + (total (at_home seen f) stakes + total (λ k. f (lock_seen k)) locks)

abbrev pub has_line : ℕ → ℕ → Seen → ℕ
has_line b l z = one_if (is_some (z.held b l))

-- line l of block b is one of the image
abbrev pub is_line : Geometry → ℕ → ℕ → Bool
is_line g b l = nat_lt b g.blocks && nat_lt (l * 64) g.block_size

-- Each line of the image is held by one stake; the stake of all that no node uses is of this image too.
pub record Lines {S : Type 0} (seen : S → Seen) (o : Origin) (rest : S) (stakes : List (Option S)) (locks : List Lock) : Type 0 where
  pub origin : (seen rest).origin ≡ o
  pub once : (b l : ℕ) → over_all seen (has_line b l) rest stakes locks ≡ one_if (is_line o.sizes b l)

-- the reply says that a device call failed
abbrev pub is_faulty : Reply → Bool
is_faulty reply.Fault = true
is_faulty (reply.FaultAfter n) = true
is_faulty reply.Late = true
is_faulty _ = false

abbrev pub faulty : Entry → ℕ
faulty e = one_if (is_faulty e.reply)

abbrev pub proc_faults : Proc → ℕ
proc_faults p = p.faults

-- A process has no more entries that say so than device calls of its own have failed; and all that have failed are counted by stakes.
pub record Counted {S : Type 0} (seen : S → Seen) (rest : S) (stakes : List (Option S)) (locks : List Lock) (procs : List Proc)
    : Type 0 where
  pub each : Each (λ p. total faulty p.entries ≤ p.faults) procs
  pub all : min (total proc_faults procs) last_count ≤ over_all seen (λ z. z.faults) rest stakes locks

abbrev pub is_sync : Op → Bool
is_sync op.Sync = true
is_sync _ = false

abbrev pub syncs : Entry → ℕ
syncs e = one_if (is_sync e.op)

abbrev pub forcings : Seen → ℕ
forcings z = one_if z.forced

-- Where no step was a sync, and the stake that was mounted was not forced, no stake is forced.
pub record Unforced {S : Type 0} (seen : S → Seen) (m : Mount) (history : List Entry) (rest : S) (stakes : List (Option S))
    (locks : List Lock) : Type 0 where
  pub none : total syncs history ≡ 0 → m.forced ≡ false → over_all seen forcings rest stakes locks ≡ 0

-- ---- the rule

-- what is kept of inode n in core
abbrev pub core_of : {S : Type 0} → State S → ℕ → Option InCore
core_of s n = table.get nat_eq s.table n

-- What the turn guards: the history with the number of entries that are owed, the stakes at home, what is kept in core, the stake of
-- the rest, and the counts of shares with the numbers of places that are taken and that there are.
pub record Guarded (S : Type 0) : Type 0 where
  pub history : List Entry
  pub owed : ℕ
  pub stakes : List (Option S)
  pub core : ℕ → Option InCore
  pub rest : S
  pub counts : List ℕ
  pub taken : ℕ
  pub places : ℕ

abbrev pub guarded : {S : Type 0} → State S → Guarded S
guarded s = record {
  history = s.history.entries.items;
  owed = s.history.owed;
  stakes = s.stakes.items;
  core = core_of s;
  rest = s.rest.stake;
  counts = s.references.counts.items;
  taken = s.references.taken;
  places = s.references.places;
}

-- The parts, over what is guarded, all processes and all locks. The history leads to fs.
pub record Parts {S : Type 0} (seen : S → Seen) (m : Mount) (fs : Fs) (g : Guarded S) (procs : List Proc) (locks : List Lock)
    : Type 0 where
  pub follows : Follows m g.history fs
  pub homes : Homes seen m.origin fs.nodes g.stakes g.core locks
  pub agrees : Agrees m fs g.history procs
  pub shared : Counts fs g.counts g.taken g.places
  pub owed : g.owed ≡ total owes procs
  pub lines : Lines seen m.origin g.rest g.stakes locks
  pub counted : Counted seen g.rest g.stakes locks procs
  pub unforced : Unforced seen m g.history g.rest g.stakes locks

-- a view that stands for something knows what was mounted
abbrev pub IsMountOf : Mount → View → Type 0
IsMountOf m v = 0 < length v.procs → v.mount ≡ m

pub record Holds {S : Type 0} (seen : S → Seen) (s : State S) (views : List View) : Type 0 where
  pub mount : Mount
  pub fs : Fs
  pub same : Each (IsMountOf mount) views
  pub parts : Parts seen mount fs (guarded s) (all_procs views) (all_locks views)

-- The processes are divided, and nothing is locked.
pub record IsCut (v a b : View) : Type 0 where
  pub mount : (a.mount ≡ v.mount) × (b.mount ≡ v.mount)
  pub procs : v.procs ≡ a.procs ++ b.procs
  pub locks : (v.locks ≡ []) × (a.locks ≡ []) × (b.locks ≡ [])
  pub some : (0 < length a.procs) × (0 < length b.procs)
