-- Worked rows: directories below one another, and changes of them that break the rules of `.` and `..`.
use Rattle.std.proofs.Common.{◌≡◌, ◌++◌, ℕ, List, [], ◌∷◌, replicate, Some, None, refl}
use Rattle.sv_form.specs.Image.{block_of, line_of, superblock_of}
use Rattle.sv_check.specs.InodeList.{used_inodes, kind_flaw, size_flaw}
use Rattle.sv_check.specs.Walk.{reached_under, reached, walk, first_bad, range_flaw, twice_flaw}
use Rattle.sv_check.specs.PastSize.{past_size_flaw, tail_flaw}
use Rattle.sv_check.specs.Chain.{chain_from, chain, first_broken, chain_flaw, lost_flaw}
use Rattle.sv_check.specs.InodeCache.{first_uncacheable, cache_flaw}
use Rattle.sv_check.specs.Directories.{root_flaw, directories, contents, entries, entry_flaw, namings, rises_to_root, dots_flaw}
use Rattle.sv_check.specs.Links.{links_flaw}
use Rattle.sv_check.specs.Sound.{flaw_from_4}
use Rattle.sv_check.proofs.MadeImages.{superblock, inode, directory_755, free_inode, entry, block, front_blocks}

abbrev head_d : List ℕ
head_d = superblock 3 8 3 (0 ∷ 6 ∷ 7 ∷ []) 0 []

abbrev dot : List ℕ
dot = 46 ∷ []

abbrev dots : List ℕ
dots = 46 ∷ 46 ∷ []

abbrev d : List ℕ
d = 100 ∷ []

abbrev e : List ℕ
e = 101 ∷ []

-- an image of eight blocks whose inodes 2 to 4 are directories with one page each, with these links and entries
abbrev image_of : (links_2 : ℕ) (page_2 : List ℕ) (links_3 : ℕ) (page_3 : List ℕ) (links_4 : ℕ) (page_4 : List ℕ) (size : ℕ) → List ℕ
image_of links_2 page_2 links_3 page_3 links_4 page_4 size =
    front_blocks head_d ++ block (free_inode ++ inode directory_755 links_2 size (3 ∷ []) ++ inode directory_755 links_3 size (4 ∷ []) ++ inode directory_755 links_4 size (5 ∷ []))
    ++ block page_2 ++ block page_3 ++ block page_4 ++ replicate 2048 0

-- directory 3 stands in the root, and 4 in 3
pub nested : flaw_from_4 (image_of 3 (entry 2 dot ++ entry 2 dots ++ entry 3 d) 3 (entry 3 dot ++ entry 2 dots ++ entry 4 e) 2 (entry 4 dot ++ entry 3 dots) 48) ≡ None
unfolding block_of line_of superblock_of used_inodes kind_flaw size_flaw Rattle.sv_form.specs.AddressTree.reached_under Rattle.sv_form.specs.AddressTree.reached walk first_bad range_flaw twice_flaw past_size_flaw tail_flaw chain_from chain first_broken chain_flaw lost_flaw first_uncacheable cache_flaw root_flaw directories contents entries entry_flaw namings rises_to_root dots_flaw links_flaw flaw_from_4
nested = refl

-- directories 3 and 4 stand in one another, and no way leads from them to the root
pub circle : flaw_from_4 (image_of 2 (entry 2 dot ++ entry 2 dots) 3 (entry 3 dot ++ entry 4 dots ++ entry 4 e) 3 (entry 4 dot ++ entry 3 dots ++ entry 3 d) 48) ≡ Some (15, 3)
unfolding block_of line_of superblock_of used_inodes kind_flaw size_flaw Rattle.sv_form.specs.AddressTree.reached_under Rattle.sv_form.specs.AddressTree.reached walk first_bad range_flaw twice_flaw past_size_flaw tail_flaw chain_from chain first_broken chain_flaw lost_flaw first_uncacheable cache_flaw root_flaw directories contents entries entry_flaw namings rises_to_root dots_flaw links_flaw flaw_from_4
circle = refl

-- the `..` of directory 4 names the root, and 4 stands in 3
pub wrong_dots : flaw_from_4 (image_of 4 (entry 2 dot ++ entry 2 dots ++ entry 3 d) 2 (entry 3 dot ++ entry 2 dots ++ entry 4 e) 2 (entry 4 dot ++ entry 2 dots) 48) ≡ Some (15, 4)
unfolding block_of line_of superblock_of used_inodes kind_flaw size_flaw Rattle.sv_form.specs.AddressTree.reached_under Rattle.sv_form.specs.AddressTree.reached walk first_bad range_flaw twice_flaw past_size_flaw tail_flaw chain_from chain first_broken chain_flaw lost_flaw first_uncacheable cache_flaw root_flaw directories contents entries entry_flaw namings rises_to_root dots_flaw links_flaw flaw_from_4
wrong_dots = refl

-- directory 3 stands in the root twice
pub named_twice : flaw_from_4 (image_of 3 (entry 2 dot ++ entry 2 dots ++ entry 3 d ++ entry 3 e) 3 (entry 3 dot ++ entry 2 dots ++ entry 4 e) 2 (entry 4 dot ++ entry 3 dots) 64) ≡ Some (15, 3)
unfolding block_of line_of superblock_of used_inodes kind_flaw size_flaw Rattle.sv_form.specs.AddressTree.reached_under Rattle.sv_form.specs.AddressTree.reached walk first_bad range_flaw twice_flaw past_size_flaw tail_flaw chain_from chain first_broken chain_flaw lost_flaw first_uncacheable cache_flaw root_flaw directories contents entries entry_flaw namings rises_to_root dots_flaw links_flaw flaw_from_4
named_twice = refl

-- entry 1 of directory 3 has another name, so nothing leads on from it; 4 stands in 3
pub no_dots : flaw_from_4 (image_of 3 (entry 2 dot ++ entry 2 dots ++ entry 3 d) 3 (entry 3 dot ++ entry 2 d ++ entry 4 e) 2 (entry 4 dot ++ entry 3 dots) 48) ≡ Some (15, 3)
unfolding block_of line_of superblock_of used_inodes kind_flaw size_flaw Rattle.sv_form.specs.AddressTree.reached_under Rattle.sv_form.specs.AddressTree.reached walk first_bad range_flaw twice_flaw past_size_flaw tail_flaw chain_from chain first_broken chain_flaw lost_flaw first_uncacheable cache_flaw root_flaw directories contents entries entry_flaw namings rises_to_root dots_flaw links_flaw flaw_from_4
no_dots = refl

-- entry 0 of directory 4 names directory 3
pub no_dot : flaw_from_4 (image_of 3 (entry 2 dot ++ entry 2 dots ++ entry 3 d) 3 (entry 3 dot ++ entry 2 dots ++ entry 4 e) 2 (entry 3 dot ++ entry 3 dots) 48) ≡ Some (15, 4)
unfolding block_of line_of superblock_of used_inodes kind_flaw size_flaw Rattle.sv_form.specs.AddressTree.reached_under Rattle.sv_form.specs.AddressTree.reached walk first_bad range_flaw twice_flaw past_size_flaw tail_flaw chain_from chain first_broken chain_flaw lost_flaw first_uncacheable cache_flaw root_flaw directories contents entries entry_flaw namings rises_to_root dots_flaw links_flaw flaw_from_4
no_dot = refl

-- entry 2 of directory 4 is the one that is `..`
pub dots_later : flaw_from_4 (image_of 3 (entry 2 dot ++ entry 2 dots ++ entry 3 d) 3 (entry 3 dot ++ entry 2 dots ++ entry 4 e) 2 (entry 4 dot ++ entry 3 d ++ entry 3 dots) 48) ≡ Some (15, 3)
unfolding block_of line_of superblock_of used_inodes kind_flaw size_flaw Rattle.sv_form.specs.AddressTree.reached_under Rattle.sv_form.specs.AddressTree.reached walk first_bad range_flaw twice_flaw past_size_flaw tail_flaw chain_from chain first_broken chain_flaw lost_flaw first_uncacheable cache_flaw root_flaw directories contents entries entry_flaw namings rises_to_root dots_flaw links_flaw flaw_from_4
dots_later = refl

-- no entry names directory 4
pub unnamed : flaw_from_4 (image_of 3 (entry 2 dot ++ entry 2 dots ++ entry 3 d) 2 (entry 3 dot ++ entry 2 dots) 2 (entry 4 dot ++ entry 3 dots) 48) ≡ Some (15, 4)
unfolding block_of line_of superblock_of used_inodes kind_flaw size_flaw Rattle.sv_form.specs.AddressTree.reached_under Rattle.sv_form.specs.AddressTree.reached walk first_bad range_flaw twice_flaw past_size_flaw tail_flaw chain_from chain first_broken chain_flaw lost_flaw first_uncacheable cache_flaw root_flaw directories contents entries entry_flaw namings rises_to_root dots_flaw links_flaw flaw_from_4
unnamed = refl
