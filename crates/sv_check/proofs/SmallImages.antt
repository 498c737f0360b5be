-- Worked rows: a small sound image, and changes of it that each break one condition.
use Rattle.std.proofs.Common.{◌≡◌, ◌++◌, ℕ, List, [], ◌∷◌, Some, None, refl}
use Rattle.sv_form.specs.Image.{block_of, line_of, superblock_of}
use Rattle.sv_check.specs.InodeList.{used_inodes, kind_flaw, size_flaw}
use Rattle.sv_check.specs.Walk.{reached_under, reached, walk, first_bad, range_flaw, twice_flaw}
use Rattle.sv_check.specs.PastSize.{past_size_flaw, tail_flaw}
use Rattle.sv_check.specs.Chain.{chain_from, chain, first_broken, chain_flaw, lost_flaw}
use Rattle.sv_check.specs.InodeCache.{first_uncacheable, cache_flaw}
use Rattle.sv_check.specs.Directories.{root_flaw, directories, contents, entries, entry_flaw, namings, rises_to_root, dots_flaw}
use Rattle.sv_check.specs.Links.{links_flaw}
use Rattle.sv_check.specs.Sound.{flaw_from_4}
use Rattle.sv_check.proofs.MadeImages.{filled_to, superblock, inode, directory_755, file_644, free_inode, entry, block, front_blocks}

abbrev head_e : List ℕ
head_e = superblock 3 5 1 (0 ∷ []) 0 []

abbrev root_e : List ℕ
root_e = inode directory_755 2 48 (3 ∷ [])

abbrev file_e : List ℕ
file_e = inode file_644 1 6 (4 ∷ [])

abbrev page_e : List ℕ
page_e = entry 2 (46 ∷ []) ++ entry 2 (46 ∷ 46 ∷ []) ++ entry 3 (97 ∷ [])

-- `hello` and a newline
abbrev hello : List ℕ
hello = 104 ∷ 101 ∷ 108 ∷ 108 ∷ 111 ∷ 10 ∷ []

-- an image of five blocks: two in front, the inodes 1 to 3, the root's page, a file's page
abbrev image_of : (head one two three page bytes : List ℕ) → List ℕ
image_of head one two three page bytes = front_blocks head ++ block (one ++ two ++ three) ++ block page ++ block bytes

-- no condition fails: inode 2 is the root, inode 3 a file of 6 bytes in block 4
pub small_image : flaw_from_4 (image_of head_e free_inode root_e file_e page_e hello) ≡ None
unfolding block_of line_of superblock_of used_inodes kind_flaw size_flaw Rattle.sv_form.specs.AddressTree.reached_under Rattle.sv_form.specs.AddressTree.reached walk first_bad range_flaw twice_flaw past_size_flaw tail_flaw chain_from chain first_broken chain_flaw lost_flaw first_uncacheable cache_flaw root_flaw directories contents entries entry_flaw namings rises_to_root dots_flaw links_flaw flaw_from_4
small_image = refl

-- inode 1 has the bytes of inode 3
pub kind : flaw_from_4 (image_of head_e file_e root_e file_e page_e hello) ≡ Some (4, 1)
unfolding block_of line_of superblock_of used_inodes kind_flaw size_flaw Rattle.sv_form.specs.AddressTree.reached_under Rattle.sv_form.specs.AddressTree.reached walk first_bad range_flaw twice_flaw past_size_flaw tail_flaw chain_from chain first_broken chain_flaw lost_flaw first_uncacheable cache_flaw root_flaw directories contents entries entry_flaw namings rises_to_root dots_flaw links_flaw flaw_from_4
kind = refl

-- the root's size is 40
pub size : flaw_from_4 (image_of head_e free_inode (inode directory_755 2 40 (3 ∷ [])) file_e page_e hello) ≡ Some (5, 2)
unfolding block_of line_of superblock_of used_inodes kind_flaw size_flaw Rattle.sv_form.specs.AddressTree.reached_under Rattle.sv_form.specs.AddressTree.reached walk first_bad range_flaw twice_flaw past_size_flaw tail_flaw chain_from chain first_broken chain_flaw lost_flaw first_uncacheable cache_flaw root_flaw directories contents entries entry_flaw namings rises_to_root dots_flaw links_flaw flaw_from_4
size = refl

-- inode 3 has the address 5
pub range : flaw_from_4 (image_of head_e free_inode root_e (inode file_644 1 6 (5 ∷ [])) page_e hello) ≡ Some (6, 3)
unfolding block_of line_of superblock_of used_inodes kind_flaw size_flaw Rattle.sv_form.specs.AddressTree.reached_under Rattle.sv_form.specs.AddressTree.reached walk first_bad range_flaw twice_flaw past_size_flaw tail_flaw chain_from chain first_broken chain_flaw lost_flaw first_uncacheable cache_flaw root_flaw directories contents entries entry_flaw namings rises_to_root dots_flaw links_flaw flaw_from_4
range = refl

-- inode 3 has the address 3
pub twice : flaw_from_4 (image_of head_e free_inode root_e (inode file_644 1 6 (3 ∷ [])) page_e hello) ≡ Some (7, 3)
unfolding block_of line_of superblock_of used_inodes kind_flaw size_flaw Rattle.sv_form.specs.AddressTree.reached_under Rattle.sv_form.specs.AddressTree.reached walk first_bad range_flaw twice_flaw past_size_flaw tail_flaw chain_from chain first_broken chain_flaw lost_flaw first_uncacheable cache_flaw root_flaw directories contents entries entry_flaw namings rises_to_root dots_flaw links_flaw flaw_from_4
twice = refl

-- inode 3 has the size 0
pub past_size : flaw_from_4 (image_of head_e free_inode root_e (inode file_644 1 0 (4 ∷ [])) page_e hello) ≡ Some (8, 3)
unfolding block_of line_of superblock_of used_inodes kind_flaw size_flaw Rattle.sv_form.specs.AddressTree.reached_under Rattle.sv_form.specs.AddressTree.reached walk first_bad range_flaw twice_flaw past_size_flaw tail_flaw chain_from chain first_broken chain_flaw lost_flaw first_uncacheable cache_flaw root_flaw directories contents entries entry_flaw namings rises_to_root dots_flaw links_flaw flaw_from_4
past_size = refl

-- byte 100 of block 4 is 1
pub tail : flaw_from_4 (image_of head_e free_inode root_e file_e page_e (filled_to 100 hello ++ 1 ∷ [])) ≡ Some (9, 3)
unfolding block_of line_of superblock_of used_inodes kind_flaw size_flaw Rattle.sv_form.specs.AddressTree.reached_under Rattle.sv_form.specs.AddressTree.reached walk first_bad range_flaw twice_flaw past_size_flaw tail_flaw chain_from chain first_broken chain_flaw lost_flaw first_uncacheable cache_flaw root_flaw directories contents entries entry_flaw namings rises_to_root dots_flaw links_flaw flaw_from_4
tail = refl

-- the free block cache is 0, 3
pub free_chain : flaw_from_4 (image_of (superblock 3 5 2 (0 ∷ 3 ∷ []) 0 []) free_inode root_e file_e page_e hello) ≡ Some (10, 3)
unfolding block_of line_of superblock_of used_inodes kind_flaw size_flaw Rattle.sv_form.specs.AddressTree.reached_under Rattle.sv_form.specs.AddressTree.reached walk first_bad range_flaw twice_flaw past_size_flaw tail_flaw chain_from chain first_broken chain_flaw lost_flaw first_uncacheable cache_flaw root_flaw directories contents entries entry_flaw namings rises_to_root dots_flaw links_flaw flaw_from_4
free_chain = refl

-- inode 3 has the address 0
pub lost : flaw_from_4 (image_of head_e free_inode root_e (inode file_644 1 6 []) page_e hello) ≡ Some (11, 4)
unfolding block_of line_of superblock_of used_inodes kind_flaw size_flaw Rattle.sv_form.specs.AddressTree.reached_under Rattle.sv_form.specs.AddressTree.reached walk first_bad range_flaw twice_flaw past_size_flaw tail_flaw chain_from chain first_broken chain_flaw lost_flaw first_uncacheable cache_flaw root_flaw directories contents entries entry_flaw namings rises_to_root dots_flaw links_flaw flaw_from_4
lost = refl

-- the inode cache is 3
pub cached_inode : flaw_from_4 (image_of (superblock 3 5 1 (0 ∷ []) 1 (3 ∷ [])) free_inode root_e file_e page_e hello) ≡ Some (12, 3)
unfolding block_of line_of superblock_of used_inodes kind_flaw size_flaw Rattle.sv_form.specs.AddressTree.reached_under Rattle.sv_form.specs.AddressTree.reached walk first_bad range_flaw twice_flaw past_size_flaw tail_flaw chain_from chain first_broken chain_flaw lost_flaw first_uncacheable cache_flaw root_flaw directories contents entries entry_flaw namings rises_to_root dots_flaw links_flaw flaw_from_4
cached_inode = refl

-- inode 2 is a regular file
pub root : flaw_from_4 (image_of head_e free_inode (inode 0x81ed 2 48 (3 ∷ [])) file_e page_e hello) ≡ Some (13, 2)
unfolding block_of line_of superblock_of used_inodes kind_flaw size_flaw Rattle.sv_form.specs.AddressTree.reached_under Rattle.sv_form.specs.AddressTree.reached walk first_bad range_flaw twice_flaw past_size_flaw tail_flaw chain_from chain first_broken chain_flaw lost_flaw first_uncacheable cache_flaw root_flaw directories contents entries entry_flaw namings rises_to_root dots_flaw links_flaw flaw_from_4
root = refl

-- the name `a` is a slash
pub entry_name : flaw_from_4 (image_of head_e free_inode root_e file_e (filled_to 32 page_e ++ entry 3 (47 ∷ [])) hello) ≡ Some (14, 2)
unfolding block_of line_of superblock_of used_inodes kind_flaw size_flaw Rattle.sv_form.specs.AddressTree.reached_under Rattle.sv_form.specs.AddressTree.reached walk first_bad range_flaw twice_flaw past_size_flaw tail_flaw chain_from chain first_broken chain_flaw lost_flaw first_uncacheable cache_flaw root_flaw directories contents entries entry_flaw namings rises_to_root dots_flaw links_flaw flaw_from_4
entry_name = refl

-- entry `..` names 3
pub dots : flaw_from_4 (image_of head_e free_inode root_e file_e (entry 2 (46 ∷ []) ++ entry 3 (46 ∷ 46 ∷ []) ++ entry 3 (97 ∷ [])) hello) ≡ Some (15, 2)
unfolding block_of line_of superblock_of used_inodes kind_flaw size_flaw Rattle.sv_form.specs.AddressTree.reached_under Rattle.sv_form.specs.AddressTree.reached walk first_bad range_flaw twice_flaw past_size_flaw tail_flaw chain_from chain first_broken chain_flaw lost_flaw first_uncacheable cache_flaw root_flaw directories contents entries entry_flaw namings rises_to_root dots_flaw links_flaw flaw_from_4
dots = refl

-- the root has 3 links
pub links : flaw_from_4 (image_of head_e free_inode (inode directory_755 3 48 (3 ∷ [])) file_e page_e hello) ≡ Some (16, 2)
unfolding block_of line_of superblock_of used_inodes kind_flaw size_flaw Rattle.sv_form.specs.AddressTree.reached_under Rattle.sv_form.specs.AddressTree.reached walk first_bad range_flaw twice_flaw past_size_flaw tail_flaw chain_from chain first_broken chain_flaw lost_flaw first_uncacheable cache_flaw root_flaw directories contents entries entry_flaw namings rises_to_root dots_flaw links_flaw flaw_from_4
links = refl

-- a 0 after the first number of the free block cache
pub free_zero : flaw_from_4 (image_of (superblock 3 5 2 (0 ∷ 0 ∷ []) 0 []) free_inode root_e file_e page_e hello) ≡ Some (10, 0)
unfolding block_of line_of superblock_of used_inodes kind_flaw size_flaw Rattle.sv_form.specs.AddressTree.reached_under Rattle.sv_form.specs.AddressTree.reached walk first_bad range_flaw twice_flaw past_size_flaw tail_flaw chain_from chain first_broken chain_flaw lost_flaw first_uncacheable cache_flaw root_flaw directories contents entries entry_flaw namings rises_to_root dots_flaw links_flaw flaw_from_4
free_zero = refl

-- the inode cache is 4, 5, 4
pub cached_one : flaw_from_4 (image_of (superblock 3 5 1 (0 ∷ []) 3 (4 ∷ 5 ∷ 4 ∷ [])) free_inode root_e file_e page_e hello) ≡ Some (12, 4)
unfolding block_of line_of superblock_of used_inodes kind_flaw size_flaw Rattle.sv_form.specs.AddressTree.reached_under Rattle.sv_form.specs.AddressTree.reached walk first_bad range_flaw twice_flaw past_size_flaw tail_flaw chain_from chain first_broken chain_flaw lost_flaw first_uncacheable cache_flaw root_flaw directories contents entries entry_flaw namings rises_to_root dots_flaw links_flaw flaw_from_4
cached_one = refl

-- the byte after the addresses of inode 3 is not 0
pub misread_byte : flaw_from_4 (image_of head_e free_inode root_e (filled_to 64 (filled_to 51 file_e ++ 1 ∷ [])) page_e hello) ≡ Some (4, 3)
unfolding block_of line_of superblock_of used_inodes kind_flaw size_flaw Rattle.sv_form.specs.AddressTree.reached_under Rattle.sv_form.specs.AddressTree.reached walk first_bad range_flaw twice_flaw past_size_flaw tail_flaw chain_from chain first_broken chain_flaw lost_flaw first_uncacheable cache_flaw root_flaw directories contents entries entry_flaw namings rises_to_root dots_flaw links_flaw flaw_from_4
misread_byte = refl

-- two entries have one name
pub twin_names : flaw_from_4 (image_of head_e free_inode (inode directory_755 2 64 (3 ∷ [])) (inode file_644 2 6 (4 ∷ [])) (page_e ++ entry 3 (97 ∷ [])) hello) ≡ Some (14, 2)
unfolding block_of line_of superblock_of used_inodes kind_flaw size_flaw Rattle.sv_form.specs.AddressTree.reached_under Rattle.sv_form.specs.AddressTree.reached walk first_bad range_flaw twice_flaw past_size_flaw tail_flaw chain_from chain first_broken chain_flaw lost_flaw first_uncacheable cache_flaw root_flaw directories contents entries entry_flaw namings rises_to_root dots_flaw links_flaw flaw_from_4
twin_names = refl

-- two entries name inode 3, which has two links, and an entry between them is empty
pub two_names : flaw_from_4 (image_of head_e free_inode (inode directory_755 2 80 (3 ∷ [])) (inode file_644 2 6 (4 ∷ [])) (page_e ++ entry 0 [] ++ entry 3 (98 ∷ [])) hello) ≡ None
unfolding block_of line_of superblock_of used_inodes kind_flaw size_flaw Rattle.sv_form.specs.AddressTree.reached_under Rattle.sv_form.specs.AddressTree.reached walk first_bad range_flaw twice_flaw past_size_flaw tail_flaw chain_from chain first_broken chain_flaw lost_flaw first_uncacheable cache_flaw root_flaw directories contents entries entry_flaw namings rises_to_root dots_flaw links_flaw flaw_from_4
two_names = refl

-- an entry names inode 4, which is free
pub free_named : flaw_from_4 (image_of head_e free_inode (inode directory_755 2 64 (3 ∷ [])) file_e (page_e ++ entry 4 (98 ∷ [])) hello) ≡ Some (14, 2)
unfolding block_of line_of superblock_of used_inodes kind_flaw size_flaw Rattle.sv_form.specs.AddressTree.reached_under Rattle.sv_form.specs.AddressTree.reached walk first_bad range_flaw twice_flaw past_size_flaw tail_flaw chain_from chain first_broken chain_flaw lost_flaw first_uncacheable cache_flaw root_flaw directories contents entries entry_flaw namings rises_to_root dots_flaw links_flaw flaw_from_4
free_named = refl

-- an entry past the first two is `.`
pub dot_again : flaw_from_4 (image_of head_e free_inode (inode directory_755 2 64 (3 ∷ [])) (inode file_644 2 6 (4 ∷ [])) (page_e ++ entry 3 (46 ∷ [])) hello) ≡ Some (14, 2)
unfolding block_of line_of superblock_of used_inodes kind_flaw size_flaw Rattle.sv_form.specs.AddressTree.reached_under Rattle.sv_form.specs.AddressTree.reached walk first_bad range_flaw twice_flaw past_size_flaw tail_flaw chain_from chain first_broken chain_flaw lost_flaw first_uncacheable cache_flaw root_flaw directories contents entries entry_flaw namings rises_to_root dots_flaw links_flaw flaw_from_4
dot_again = refl

-- an entry past the first two names the root
pub root_named : flaw_from_4 (image_of head_e free_inode (inode directory_755 3 64 (3 ∷ [])) file_e (page_e ++ entry 2 (98 ∷ [])) hello) ≡ Some (15, 2)
unfolding block_of line_of superblock_of used_inodes kind_flaw size_flaw Rattle.sv_form.specs.AddressTree.reached_under Rattle.sv_form.specs.AddressTree.reached walk first_bad range_flaw twice_flaw past_size_flaw tail_flaw chain_from chain first_broken chain_flaw lost_flaw first_uncacheable cache_flaw root_flaw directories contents entries entry_flaw namings rises_to_root dots_flaw links_flaw flaw_from_4
root_named = refl

-- inode 3 has an indirect block without a number
pub empty_indirect : flaw_from_4 (image_of head_e free_inode root_e (inode file_644 1 20000 (0 ∷ 0 ∷ 0 ∷ 0 ∷ 0 ∷ 0 ∷ 0 ∷ 0 ∷ 0 ∷ 0 ∷ 4 ∷ [])) page_e []) ≡ Some (8, 3)
unfolding block_of line_of superblock_of used_inodes kind_flaw size_flaw Rattle.sv_form.specs.AddressTree.reached_under Rattle.sv_form.specs.AddressTree.reached walk first_bad range_flaw twice_flaw past_size_flaw tail_flaw chain_from chain first_broken chain_flaw lost_flaw first_uncacheable cache_flaw root_flaw directories contents entries entry_flaw namings rises_to_root dots_flaw links_flaw flaw_from_4
empty_indirect = refl

-- the single indirect block of inode 3 holds its own number
pub indirect_twice : flaw_from_4 (image_of head_e free_inode root_e (inode file_644 1 20000 (0 ∷ 0 ∷ 0 ∷ 0 ∷ 0 ∷ 0 ∷ 0 ∷ 0 ∷ 0 ∷ 0 ∷ 4 ∷ [])) page_e (4 ∷ [])) ≡ Some (7, 4)
unfolding block_of line_of superblock_of used_inodes kind_flaw size_flaw Rattle.sv_form.specs.AddressTree.reached_under Rattle.sv_form.specs.AddressTree.reached walk first_bad range_flaw twice_flaw past_size_flaw tail_flaw chain_from chain first_broken chain_flaw lost_flaw first_uncacheable cache_flaw root_flaw directories contents entries entry_flaw namings rises_to_root dots_flaw links_flaw flaw_from_4
indirect_twice = refl

-- inode 3 has 10,241 bytes, the first page and holes
pub hole : flaw_from_4 (image_of head_e free_inode root_e (inode file_644 1 10241 (4 ∷ [])) page_e hello) ≡ None
unfolding block_of line_of superblock_of used_inodes kind_flaw size_flaw Rattle.sv_form.specs.AddressTree.reached_under Rattle.sv_form.specs.AddressTree.reached walk first_bad range_flaw twice_flaw past_size_flaw tail_flaw chain_from chain first_broken chain_flaw lost_flaw first_uncacheable cache_flaw root_flaw directories contents entries entry_flaw namings rises_to_root dots_flaw links_flaw flaw_from_4
hole = refl

-- the root has a page within its size that is absent
pub directory_hole : flaw_from_4 (image_of head_e free_inode (inode directory_755 2 1040 (3 ∷ [])) file_e page_e hello) ≡ Some (14, 2)
unfolding block_of line_of superblock_of used_inodes kind_flaw size_flaw Rattle.sv_form.specs.AddressTree.reached_under Rattle.sv_form.specs.AddressTree.reached walk first_bad range_flaw twice_flaw past_size_flaw tail_flaw chain_from chain first_broken chain_flaw lost_flaw first_uncacheable cache_flaw root_flaw directories contents entries entry_flaw namings rises_to_root dots_flaw links_flaw flaw_from_4
directory_hole = refl
