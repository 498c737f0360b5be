-- What a pass of the file turn stands for. No value of a view is made: it stands in proofs alone.
use Rattle.std.specs.Prelude.{◌==◌, ◌&&◌, ◌++◌, ℕ, zero, suc, Bool, false, List, [], ◌∷◌, length, Option, Some, None}
use Rattle.std.specs.Prelude.{if◌then◌else◌}
use Rattle.sv_turn.specs.Turning.{total}
use Rattle.sv_store.specs.Held.{Held, Lent, Origin, nothing_lent}
use Rattle.sv_plain.specs.declared.history.entry.Entry.{Entry}
use Rattle.sv_plain.specs.Fs.{Fs, begun, empty_fs}
use Rattle.sv_plain.specs.Totals.{one_if}
use Rattle.sv_files.specs.declared.in_core.InCore.{InCore}

-- what is seen of a stake
pub record Seen : Type 0 where
  pub held : Held
  pub lent : Lent
  pub origin : Origin
  pub faults : ℕ
  pub forced : Bool

abbrev pub seen_by : {S : Type 0} → (S → Held) → (S → Lent) → (S → Origin) → (S → ℕ) → (S → Bool) → S → Seen
seen_by held lent origin faults forced s =
    record { held = held s; lent = lent s; origin = origin s; faults = faults s; forced = forced s }

-- What all passes have in common: the tree that was mounted, how many processes there are, the size of the table of in-core
-- inodes, where the stake of the whole image came from, and whether it was forced.
pub record Mount : Type 0 where
  pub tree : Fs
  pub processes : ℕ
  pub places : ℕ
  pub origin : Origin
  pub forced : Bool

-- the file system as it was mounted
abbrev pub first_fs : Mount → Fs
first_fs m = begun m.tree m.processes m.places

-- What a view says of one process: its inodes, each as often as it has a reference to it, how many device calls have failed
-- that ran for its steps, and its entries of the history.
pub record Proc : Type 0 where
  pub process : ℕ
  pub references : List ℕ
  pub faults : ℕ
  pub entries : List Entry

-- a line that is held, with its bytes
pub record Noted : Type 0 where
  pub block : ℕ
  pub line : ℕ
  pub bytes : List ℕ

-- An inode that the pass has locked: what is kept of it in core, and what was seen of its stake as it was taken, the lines that it
-- held among it. It lent nothing.
pub record Lock : Type 0 where
  pub number : ℕ
  pub core : Option InCore
  pub lines : List Noted
  pub origin : Origin
  pub faults : ℕ
  pub forced : Bool

-- the lines that are noted, as they are held
unfoldable pub held_of : List Noted → Held
held_of [] = λ b l. None
held_of (x ∷ xs) = λ b l. if (x.block == b) && (x.line == l) then Some x.bytes else held_of xs b l

-- a line, where it is held, as a note; those of the first lines of a block; and those of the first blocks
abbrev pub note : ℕ → ℕ → Option (List ℕ) → List Noted
note b l None = []
note b l (Some bytes) = record { block = b; line = l; bytes = bytes } ∷ []

unfoldable pub noted_lines : Held → ℕ → ℕ → List Noted
noted_lines h b zero = []
noted_lines h b (suc l) = note b l (h b l) ++ noted_lines h b l

unfoldable pub noted_blocks : Held → ℕ → ℕ → List Noted
noted_blocks h zero lines = []
noted_blocks h (suc b) lines = noted_lines h b lines ++ noted_blocks h b lines

-- the stake as the lock notes it, and what a lock notes of a stake
abbrev pub lock_seen : Lock → Seen
lock_seen k = record { held = held_of k.lines; lent = nothing_lent; origin = k.origin; faults = k.faults; forced = k.forced }

abbrev pub lock_of : ℕ → Option InCore → Seen → Lock
lock_of n core z = record {
  number = n;
  core = core;
  lines = noted_blocks z.held z.origin.sizes.blocks z.origin.sizes.block_size;
  origin = z.origin;
  faults = z.faults;
  forced = z.forced;
}

-- The processes that the pass stands for, and the inodes that it has locked.
pub record View : Type 0 where
  pub mount : Mount
  pub procs : List Proc
  pub locks : List Lock

-- how large a part of the whole a view is: its processes
abbrev pub weight : View → ℕ
weight v = length v.procs

abbrev pub no_origin : Origin
no_origin = record { id = []; sizes = record { block_size = 0; blocks = 0; first_data = 0 } }

abbrev pub no_mount : Mount
no_mount = record { tree = empty_fs no_origin.sizes; processes = 0; places = 0; origin = no_origin; forced = false }

-- the view of a pass that stands for nothing any more
abbrev pub blank : View
blank = record { mount = no_mount; procs = []; locks = [] }

-- the view of a pass of one process
abbrev pub of_one : Mount → Proc → List Lock → View
of_one m p locks = record { mount = m; procs = p ∷ []; locks = locks }

-- all processes, and all locks, of some views
abbrev pub all_procs : List View → List Proc
all_procs [] = []
all_procs (v ∷ vs) = v.procs ++ all_procs vs

abbrev pub all_locks : List View → List Lock
all_locks [] = []
all_locks (v ∷ vs) = v.locks ++ all_locks vs

-- how often a number stands in a list
abbrev pub times : ℕ → List ℕ → ℕ
times n xs = total (λ m. one_if (m == n)) xs

-- each element has the property
abbrev pub Each : {A : Type 0} → (A → Type 0) → List A → Type 0
Each P [] = Unit {0}
Each P (x ∷ xs) = P x × Each P xs
