-- Worked rows: the image that is made with 64 blocks and 32 inodes, and changes of it.
use Rattle.std.proofs.Common.{◌≡◌, ◌++◌, ◌-◌, ℕ, List, [], ◌∷◌, map, replicate, Some, None, refl}
use Rattle.std.specs.List.{flat_map, range_with_len}
use Rattle.sv_form.specs.Image.{block_of, line_of, superblock_of}
use Rattle.sv_check.specs.InodeList.{used_inodes, kind_flaw, size_flaw}
use Rattle.sv_check.specs.Walk.{reached_under, reached, walk, first_bad, range_flaw, twice_flaw}
use Rattle.sv_check.specs.PastSize.{past_size_flaw, tail_flaw}
use Rattle.sv_check.specs.Chain.{chain_from, chain, first_broken, chain_flaw, lost_flaw}
use Rattle.sv_check.specs.InodeCache.{first_uncacheable, cache_flaw}
use Rattle.sv_check.specs.Directories.{root_flaw, directories, contents, entries, entry_flaw, namings, rises_to_root, dots_flaw}
use Rattle.sv_check.specs.Links.{links_flaw}
use Rattle.sv_check.specs.Sound.{flaw_from_4}
use Rattle.sv_check.proofs.MadeImages.{filled_to, four, superblock, inode, directory_755, file_644, free_inode, entry, block, front_blocks}

-- the image of 64 blocks and 32 inodes that has nothing but a root: its list of free blocks is 14 down to 5, and then that
-- of block 14; the inode cache is 32 down to 3
abbrev pub head_a : List ℕ
head_a = superblock 4 64 10 (map (λ k. 14 - k) (range_with_len 0 10)) 30 (map (λ k. 32 - k) (range_with_len 0 30))

-- a link block whose list begins with this link, and goes on with 63 down to 15
abbrev pub list_from : ℕ → List ℕ
list_from link = block ((50 ∷ 0 ∷ 0 ∷ 0 ∷ []) ++ four link ++ flat_map (λ k. four (63 - k)) (range_with_len 0 49))

abbrev pub image_of : (head inodes last_list : List ℕ) → List ℕ
image_of head inodes last_list =
    front_blocks head ++ filled_to 2048 inodes ++ block (entry 2 (46 ∷ []) ++ entry 2 (46 ∷ 46 ∷ [])) ++ replicate 9216 0 ++ last_list ++ replicate 50176 0

-- no condition fails
pub made_image : flaw_from_4 (image_of head_a (free_inode ++ inode directory_755 2 32 (4 ∷ [])) (list_from 0)) ≡ None
unfolding block_of line_of superblock_of used_inodes kind_flaw size_flaw Rattle.sv_form.specs.AddressTree.reached_under Rattle.sv_form.specs.AddressTree.reached walk first_bad range_flaw twice_flaw past_size_flaw tail_flaw chain_from chain first_broken chain_flaw lost_flaw first_uncacheable cache_flaw root_flaw directories contents entries entry_flaw namings rises_to_root dots_flaw links_flaw flaw_from_4
made_image = refl

-- inode 3 is a file of 1,024 bytes whose first address is 4
pub file_in_root_page : flaw_from_4 (image_of head_a (free_inode ++ inode directory_755 2 32 (4 ∷ []) ++ inode file_644 1 1024 (4 ∷ [])) (list_from 0)) ≡ Some (7, 4)
unfolding block_of line_of superblock_of used_inodes kind_flaw size_flaw Rattle.sv_form.specs.AddressTree.reached_under Rattle.sv_form.specs.AddressTree.reached walk first_bad range_flaw twice_flaw past_size_flaw tail_flaw chain_from chain first_broken chain_flaw lost_flaw first_uncacheable cache_flaw root_flaw directories contents entries entry_flaw namings rises_to_root dots_flaw links_flaw flaw_from_4
file_in_root_page = refl

-- the link of block 14's list is 14
pub chain_to_itself : flaw_from_4 (image_of head_a (free_inode ++ inode directory_755 2 32 (4 ∷ [])) (list_from 14)) ≡ Some (10, 14)
unfolding block_of line_of superblock_of used_inodes kind_flaw size_flaw Rattle.sv_form.specs.AddressTree.reached_under Rattle.sv_form.specs.AddressTree.reached walk first_bad range_flaw twice_flaw past_size_flaw tail_flaw chain_from chain first_broken chain_flaw lost_flaw first_uncacheable cache_flaw root_flaw directories contents entries entry_flaw namings rises_to_root dots_flaw links_flaw flaw_from_4
chain_to_itself = refl

-- the root has 3 links
pub three_links : flaw_from_4 (image_of head_a (free_inode ++ inode directory_755 3 32 (4 ∷ [])) (list_from 0)) ≡ Some (16, 2)
unfolding block_of line_of superblock_of used_inodes kind_flaw size_flaw Rattle.sv_form.specs.AddressTree.reached_under Rattle.sv_form.specs.AddressTree.reached walk first_bad range_flaw twice_flaw past_size_flaw tail_flaw chain_from chain first_broken chain_flaw lost_flaw first_uncacheable cache_flaw root_flaw directories contents entries entry_flaw namings rises_to_root dots_flaw links_flaw flaw_from_4
three_links = refl
