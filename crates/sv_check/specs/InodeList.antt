-- Conditions 4 and 5 of a sound image: each inode reads, and has a size that it may have. Here an inode is its 64 bytes.
use Rattle.std.specs.Prelude.{◌==◌, ◌&&◌, ◌||◌, ◌/◌, ◌%◌, ℕ, Bool, not, List, map, Option, slice_index, nat_lt, filter, find}
use Rattle.std.specs.List.{range_with_len, list_all}
use Rattle.sv_form.specs.declared.geometry.Geometry.{Geometry}
use Rattle.sv_form.specs.Geometry.{inode_count}
use Rattle.sv_form.specs.Image.{inode_of}
use Rattle.sv_form.specs.Number.{number16}
use Rattle.sv_form.specs.PagePath.{greatest_size}
use Rattle.sv_plain.specs.Front.{size_of}

-- the numbers of the inode list, from 1 on
abbrev pub inode_numbers : Geometry → List ℕ
inode_numbers g = range_with_len 1 (inode_count g)

-- all bytes are 0
abbrev pub all_zero : List ℕ → Bool
all_zero bytes = list_all (λ b. b == 0) bytes

-- a free inode is zero bytes
abbrev pub is_free : List ℕ → Bool
is_free inode = all_zero inode

-- the upper four bits of the first number: 8 for a regular file, 4 for a directory
abbrev pub kind_bits : List ℕ → ℕ
kind_bits inode = number16 inode 0 / 4096

abbrev pub is_regular : List ℕ → Bool
is_regular inode = kind_bits inode == 8

abbrev pub is_directory : List ℕ → Bool
is_directory inode = kind_bits inode == 4

-- how many entries the inode says that it is named by
abbrev pub links_of : List ℕ → ℕ
links_of inode = number16 inode 2

-- the bytes are those of an inode: free, or of one of the two kinds and with the byte after the addresses 0
abbrev pub reads_inode : List ℕ → Bool
reads_inode inode = is_free inode || ((is_regular inode || is_directory inode) && (slice_index inode 51 == 0))

-- the numbers of the inodes that are not free, ascending
unfoldable pub used_inodes : Geometry → List ℕ → List ℕ
used_inodes g image = filter (λ n. not (is_free (inode_of g image n))) (inode_numbers g)

-- whether each inode is used, in the order of their numbers
unfoldable pub used_flags : Geometry → List ℕ → List Bool
used_flags g image = map (λ n. not (is_free (inode_of g image n))) (inode_numbers g)

-- the links of each inode, in the order of their numbers
unfoldable pub link_counts : Geometry → List ℕ → List ℕ
link_counts g image = map (λ n. links_of (inode_of g image n)) (inode_numbers g)

-- inode n does not read, or is inode 1 and not free
abbrev pub is_misread : ℕ → List ℕ → Bool
is_misread n inode = not (reads_inode inode) || ((n == 1) && not (is_free inode))

-- condition 4, Kind: where it fails, and None where it holds
unfoldable pub kind_flaw : Geometry → List ℕ → Option ℕ
kind_flaw g image = find (λ n. is_misread n (inode_of g image n)) (inode_numbers g)

-- a size over the greatest one, or that of a directory which has no place for `.` and `..` or a part of an entry
abbrev pub is_missized : Geometry → List ℕ → Bool
is_missized g inode = nat_lt (greatest_size g) (size_of inode) || (is_directory inode
    && (nat_lt (size_of inode) 32 || not (size_of inode % 16 == 0)))

-- condition 5, Size: where it fails, and None where it holds
unfoldable pub size_flaw : Geometry → List ℕ → Option ℕ
size_flaw g image = find (λ n. is_missized g (inode_of g image n)) (inode_numbers g)
