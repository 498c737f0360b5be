-- What steps change.
use Rattle.std.specs.Prelude.{◌+◌, ◌-◌, ℕ, not, List, [], ◌∷◌, ◌++◌, replicate, Option, Some, None, nat_le, if◌then◌else◌}
use Rattle.std.specs.Ordering.{nat_cmp}
use Rattle.std.specs.FinMap as fmap
use Rattle.sv_form.specs.Pair.{pair_cmp}
use Rattle.sv_form.specs.declared.kind.Kind.{Kind}
use Rattle.sv_form.specs.declared.kind.Kind.TheVariants.{File, Dir}
use Rattle.sv_form.specs.Node.{Node}
use Rattle.sv_form.specs.NodeNames.{spelling}
pub use Rattle.sv_form.specs.NodeNames.{with_entry, without_entry}
use Rattle.sv_plain.specs.declared.fs.opening.Opening.{Opening}
use Rattle.sv_plain.specs.Fs.{Fs}
use Rattle.sv_plain.specs.Names.{references_of, is_lost}

-- ---- the bytes of a node

-- the sixteen bytes of an entry
abbrev pub entry_bytes : ℕ → List ℕ → List ℕ
entry_bytes inode name = spelling inode name

-- a node with other links
abbrev pub with_links : (ℕ → ℕ) → Node → Node
with_links f node = record node { links = f node.links }

-- a new file, and a new directory i in directory d: `.` and `..`
abbrev pub new_node : ℕ → ℕ → ℕ → ℕ → Kind → Node
new_node block i d mode File = record { kind = File; mode = mode; links = 1; size = 0; pages = fmap.empty }
new_node block i d mode Dir = record {
  kind = Dir;
  mode = mode;
  links = 2;
  size = 32;
  pages = fmap.insert fmap.empty 0 (entry_bytes i (46 ∷ []) ++ entry_bytes d (46 ∷ 46 ∷ []) ++ replicate (block - 32) 0);
}

-- ---- counts that rise and fall

-- one reference more, and one less: none is left where there was one
abbrev pub one_more : Fs → ℕ → ℕ → fmap.FinMap pair_cmp ℕ
one_more fs p i = fmap.insert fs.references (p, i) (references_of fs p i + 1)

abbrev pub one_less : Fs → ℕ → ℕ → fmap.FinMap pair_cmp ℕ
one_less fs p i = if nat_le (references_of fs p i) 1 then fmap.remove fs.references (p, i) else fmap.insert fs.references (p, i)
    (references_of fs p i - 1)

-- a promise less the blocks used; a process without one has none then either
abbrev pub spent_from : fmap.FinMap nat_cmp ℕ → ℕ → ℕ → Option ℕ → fmap.FinMap nat_cmp ℕ
spent_from promises p blocks None = promises
spent_from promises p blocks (Some had) = fmap.insert promises p (had - blocks)

abbrev pub spent : Fs → ℕ → ℕ → fmap.FinMap nat_cmp ℕ
spent fs p blocks = spent_from fs.promises p blocks (fmap.get fs.promises p)

-- ---- files

abbrev pub at_file : fmap.FinMap nat_cmp Opening → ℕ → (Opening → Opening) → Option Opening → fmap.FinMap nat_cmp Opening
at_file files n f None = files
at_file files n f (Some file) = fmap.insert files n (f file)

-- the files with what f makes of file n
abbrev pub changed_file : Fs → ℕ → (Opening → Opening) → fmap.FinMap nat_cmp Opening
changed_file fs n f = at_file fs.files n f (fmap.get fs.files n)

abbrev pub with_offset : ℕ → Opening → Opening
with_offset offset file = record file { offset = offset }

-- one share less: the file goes with the last
abbrev pub unshared : Fs → ℕ → Option Opening → fmap.FinMap nat_cmp Opening
unshared fs n None = fs.files
unshared fs n (Some file) = if nat_le file.count 1 then fmap.remove fs.files n else fmap.insert fs.files n
    (record file { count = file.count - 1 })

-- ---- whole states

abbrev pub with_reference : Fs → ℕ → ℕ → Fs
with_reference fs p i = record fs { references = one_more fs p i }

abbrev pub without_reference : Fs → ℕ → ℕ → Fs
without_reference fs p i = record fs { references = one_less fs p i }

abbrev pub without_share : Fs → ℕ → Fs
without_share fs n = record fs { files = unshared fs n (fmap.get fs.files n) }

abbrev pub without_node : Fs → ℕ → Fs
without_node fs i = record fs { nodes = fmap.remove fs.nodes i }

-- without each node that no name leads to and that nothing refers to
abbrev pub without_lost : Fs → Fs
without_lost fs = record fs { nodes = fmap.retain_keys fs.nodes (λ i. not (is_lost fs i)) }
