-- Condition 16 of a sound image: an inode's links are the entries that name it.
use Rattle.std.specs.Prelude.{◌==◌, ◌||◌, ℕ, Bool, not, List, Option, nat_lt, find, count_by}
use Rattle.sv_form.specs.declared.geometry.Geometry.{Geometry}
use Rattle.sv_form.specs.Image.{inode_of}
use Rattle.sv_check.specs.InodeList.{used_inodes, links_of}
use Rattle.sv_check.specs.Directories.{Naming, namings}

-- how many entries of all directories name inode n
abbrev pub times_named : List Naming → ℕ → ℕ
times_named all n = count_by (λ e. e.inode == n) all

-- links are under 1, over 1,000, or not the number of entries that name inode n
abbrev pub has_wrong_links : List Naming → ℕ → List ℕ → Bool
has_wrong_links all n inode = nat_lt (links_of inode) 1 || nat_lt 1000 (links_of inode) || not (links_of inode == times_named all n)

-- condition 16, Links: where it fails, and None where it holds
unfoldable pub links_flaw : Geometry → List ℕ → Option ℕ
links_flaw g image = find (λ n. has_wrong_links (namings g image) n (inode_of g image n)) (used_inodes g image)
