-- Names in directories, and what else a step asks of the state.
use Rattle.std.specs.Prelude.{◌==◌, ◌&&◌, ℕ, Bool, true, false, not, List, Option, Some, None, is_some, option_and_then}
use Rattle.std.specs.List.{range_with_len, count_by}
use Rattle.std.specs.FinMap as map
use Rattle.sv_form.specs.declared.kind.Kind.{Kind}
use Rattle.sv_form.specs.declared.kind.Kind.TheVariants.{File, Dir}
use Rattle.sv_form.specs.Node.{is_dir}
pub use Rattle.sv_form.specs.NodeNames.{same_bytes, is_entry, child_of}
unfoldable pub use Rattle.sv_form.specs.NodeNames.{place_of, empty_place, has_more}
use Rattle.sv_plain.specs.Totals.{total, at_or_0, one_if}
use Rattle.sv_plain.specs.Fs.{Fs, is_referenced, places_taken}

-- a test of what is there, which fails where nothing is
abbrev pub some_and : {X : Type 0} → Option X → (X → Bool) → Bool
some_and None test = false
some_and (Some x) test = test x

abbrev pub same_kind : Kind → Kind → Bool
same_kind File File = true
same_kind Dir Dir = true
same_kind File Dir = false
same_kind Dir File = false

-- ---- a node by its number

abbrev pub is_directory : Fs → ℕ → Bool
is_directory fs i = some_and (map.get fs.nodes i) (λ node. is_dir node.kind)

abbrev pub links_of : Fs → ℕ → ℕ
links_of fs i = at_or_0 (λ node. node.links) (map.get fs.nodes i)

-- a directory that has links, so that names can be looked up and entered
abbrev pub is_open_to_names : Fs → ℕ → Bool
is_open_to_names fs d = is_directory fs d && not (links_of fs d == 0)

-- the inode that a name in directory d leads to
abbrev pub child : Fs → ℕ → List ℕ → Option ℕ
child fs d name = option_and_then (λ node. child_of fs.block node name) (map.get fs.nodes d)

-- names can be looked up in d, and this one leads nowhere
abbrev pub is_missing : Fs → ℕ → List ℕ → Bool
is_missing fs d name = is_open_to_names fs d && not (is_some (child fs d name))

-- names can be looked up in d, and this one leads to an inode that passes the test
abbrev pub child_passes : Fs → ℕ → List ℕ → (ℕ → Bool) → Bool
child_passes fs d name test = is_open_to_names fs d && some_and (child fs d name) test

-- ---- what a process has

abbrev pub references_of : Fs → ℕ → ℕ → ℕ
references_of fs p i = at_or_0 (λ n. n) (map.get fs.references (p, i))

abbrev pub has_reference : Fs → ℕ → ℕ → Bool
has_reference fs p i = not (references_of fs p i == 0)

abbrev pub promise_of : Fs → ℕ → ℕ
promise_of fs p = at_or_0 (λ n. n) (map.get fs.promises p)

-- the process has a pending link on inode i
abbrev pub is_pending : Fs → ℕ → ℕ → Bool
is_pending fs p i = some_and (map.get fs.pending p) (λ inode. inode == i)

-- ---- files and the table

-- a file of the file table has inode i
abbrev pub is_opened : Fs → ℕ → Bool
is_opened fs i = not (total (λ _ f. one_if (f.inode == i)) fs.files == 0)

-- f is the lowest number that no file has
abbrev pub is_lowest_unused : Fs → ℕ → Bool
is_lowest_unused fs f = not (map.contains_key fs.files f) && (count_by (λ n. not (map.contains_key fs.files n)) (range_with_len 0 f) == 0)

-- the table has no place for an inode that is not referred to
abbrev pub is_table_full : Fs → Bool
is_table_full fs = places_taken fs.inodes fs.references fs.files == fs.places

-- nothing is referred to
abbrev pub is_idle : Fs → Bool
is_idle fs = (map.len fs.references == 0) && (map.len fs.files == 0)

-- a node that no name leads to and that nothing refers to
abbrev pub is_lost : Fs → ℕ → Bool
is_lost fs i = map.contains_key fs.nodes i && (links_of fs i == 0) && not (is_referenced fs i)
