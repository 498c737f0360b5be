-- What a name leads to in a directory, and what is answered of it.
use Rattle.std.specs.Prelude.{◌≡◌, ◌≢◌, ◌<◌, ◌+◌, ◌==◌, ℕ, Bool, true, false, List, Option, Some, None, Result, Ok, Err}
use Rattle.std.specs.Prelude.{if◌then◌else◌, set, slice_index}
use Rattle.sv_form.specs.Node.{Node, is_dir}
use Rattle.sv_form.specs.NodeNames.{child_of}
use Rattle.sv_form.specs.declared.inode.InodeBody.{InodeBody}
use Rattle.sv_store.specs.declared.refusal.Refusal.{Refusal}
use Rattle.sv_plain.specs.Fs.{Fs}
use Rattle.sv_plain.specs.Names.{child, has_reference, is_open_to_names}
use Rattle.sv_plain.specs.declared.history.op.Op.{Op}
use Rattle.sv_plain.specs.declared.history.op.Op.TheVariants as op
use Rattle.sv_plain.specs.declared.history.reply.Reply.{Reply}
use Rattle.sv_plain.specs.declared.history.reply.Reply.TheVariants as reply
use Rattle.sv_plain.specs.Totals.{one_if}
use Rattle.sv_files.specs.declared.references.References.{References}
use Rattle.sv_files.specs.declared.search.Miss.{Miss}
use Rattle.sv_files.specs.declared.search.Miss.TheVariants as miss
use Rattle.sv_files.specs.View.{View, Proc, times}
use Rattle.sv_files.specs.Adding.{Sees}

-- the op is a Look in a directory to which the process has a reference
abbrev pub CanLook : Proc → Op → Type 0
CanLook p (op.Look dir name) = 0 < times dir p.references
CanLook p _ = ⊥

-- why no name can be looked up in an inode with this body, if none can
abbrev pub closed_of : InodeBody → Option Miss
closed_of body = if is_dir body.kind then (if body.links == 0 then Some miss.Gone else None) else Some miss.NotDir

-- what is told of a search that was made
abbrev pub told_of : Result (Option ℕ) Refusal → Result ℕ Miss
told_of (Ok (Some c)) = Ok c
told_of (Ok None) = Err miss.NotFound
told_of (Err refusal) = Err miss.Fault

-- what the name leads to in the node, or why it leads nowhere; that the device failed is not said here
abbrev pub Searches : ℕ → Node → List ℕ → Result ℕ Miss → Type 0
Searches block node name (Ok c) = (is_dir node.kind ≡ true) × (node.links ≢ 0) × (child_of block node name ≡ Some c)
Searches block node name (Err miss.NotDir) = is_dir node.kind ≡ false
Searches block node name (Err miss.Gone) = (is_dir node.kind ≡ true) × (node.links ≡ 0)
Searches block node name (Err miss.NotFound) = (is_dir node.kind ≡ true) × (node.links ≢ 0) × (child_of block node name ≡ None)
Searches block node name (Err miss.Fault) = Unit {0}

-- the reply of a Look that found nothing, and of one that found a child, for which the table may have no place
abbrev pub miss_reply : Miss → Reply
miss_reply miss.NotDir = reply.NotDir
miss_reply miss.Gone = reply.Gone
miss_reply miss.NotFound = reply.NotFound
miss_reply miss.Fault = reply.Fault

abbrev pub found_reply : Bool → ℕ → Reply
found_reply true c = reply.Full
found_reply false c = reply.Found c

-- What a look-up that found inode c makes of the counts and of the number of entries that are owed: one more each, unless the
-- table has no place.
abbrev pub IsNoted : References → References → ℕ → ℕ → Bool → ℕ → Type 0
IsNoted old new owed owed' true c = (new ≡ old) × (owed' ≡ owed)
IsNoted old new owed owed' false c = (new.counts.items ≡ set old.counts.items c (slice_index old.counts.items c + 1))
    × (new.taken ≡ old.taken + one_if (slice_index old.counts.items c == 0)) × (new.places ≡ old.places) × (owed' ≡ owed + 1)

-- the process may look the name up, and it leads to inode c
pub record IsFound (fs : Fs) (process dir : ℕ) (name : List ℕ) (c : ℕ) : Type 0 where
  pub allowed : has_reference fs process dir ≡ true
  pub live : is_open_to_names fs dir ≡ true
  pub leads : child fs dir name ≡ Some c

-- so it is in each file system that the view allows
abbrev pub FindsAll : View → ℕ → ℕ → List ℕ → ℕ → Type 0
FindsAll v process dir name c = (fs : Fs) → Sees v fs → IsFound fs process dir name c
