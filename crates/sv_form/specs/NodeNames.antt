-- Names in a directory: where one stands, which inode it leads to, and a directory with one name more or less.
use Rattle.std.specs.Prelude.{◌-◌, ◌*◌, ◌/◌, ◌%◌, ◌==◌, ◌&&◌, ℕ, Bool, not, List, [], ◌∷◌, replicate, Option, option_map, unwrap_or, nat_eq}
use Rattle.std.specs.List.{range_with_len, position, count_by}
use Rattle.std.specs.Cmp.Lexicographic.{pointwise}
use Rattle.sv_form.specs.Entry.{filled}
use Rattle.sv_form.specs.Node.{Node, entry_count, entry_inode, entry_name}
use Rattle.sv_form.specs.NodeChanges.{put}

abbrev pub same_bytes : List ℕ → List ℕ → Bool
same_bytes = pointwise nat_eq

-- entry j has this name
abbrev pub is_entry : ℕ → Node → List ℕ → ℕ → Bool
is_entry block node name j = not (entry_inode block node j == 0) && same_bytes (entry_name block node j) name

-- the first entry with this name, and the first empty one
unfoldable pub place_of : ℕ → Node → List ℕ → Option ℕ
place_of block node name = position (is_entry block node name) (range_with_len 0 (entry_count node))

unfoldable pub empty_place : ℕ → Node → Option ℕ
empty_place block node = position (λ j. entry_inode block node j == 0) (range_with_len 0 (entry_count node))

-- the inode that the name leads to
abbrev pub child_of : ℕ → Node → List ℕ → Option ℕ
child_of block node name = option_map (entry_inode block node) (place_of block node name)

-- it has an entry besides the first two
unfoldable pub has_more : ℕ → Node → Bool
has_more block node = not (count_by (λ j. not (entry_inode block node j == 0)) (range_with_len 2 (entry_count node - 2)) == 0)

-- the sixteen bytes that spell an entry with this inode and name
abbrev pub spelling : ℕ → List ℕ → List ℕ
spelling inode name = inode % 256 ∷ inode / 256 ∷ filled name

-- a directory with one name more, in the first empty entry or else at the end
abbrev pub with_entry : ℕ → ℕ → List ℕ → Node → Node
with_entry block inode name node = put block node (16 * unwrap_or (empty_place block node) (entry_count node)) (spelling inode name)

-- a directory whose entry of that name is empty
abbrev pub without_entry : ℕ → List ℕ → Node → Node
without_entry block name node = put block node (16 * unwrap_or (place_of block node name) 0) (replicate 16 0)
