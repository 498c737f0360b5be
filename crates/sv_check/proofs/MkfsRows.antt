-- Worked rows: an image of 64 blocks for 32 inodes.
use Rattle.std.proofs.Common.{◌≡◌, ◌++◌, [], ◌∷◌, None, refl}
use Rattle.sv_form.specs.Image.{block_of, line_of, superblock_of}
use Rattle.sv_check.specs.InodeList.{used_inodes, kind_flaw, size_flaw}
use Rattle.sv_check.specs.Walk.{reached_under, reached, walk, first_bad, range_flaw, twice_flaw}
use Rattle.sv_check.specs.PastSize.{past_size_flaw, tail_flaw}
use Rattle.sv_check.specs.Chain.{chain_from, chain, first_broken, chain_flaw, lost_flaw}
use Rattle.sv_check.specs.InodeCache.{first_uncacheable, cache_flaw}
use Rattle.sv_check.specs.Directories.{root_flaw, directories, contents, entries, entry_flaw, namings, rises_to_root, dots_flaw}
use Rattle.sv_check.specs.Links.{links_flaw}
use Rattle.sv_check.specs.Sound.{flaw_from_4}
use Rattle.sv_check.specs.Mkfs.{down_to, first_data_for, free_cache, inode_cache, list_in, made_geometry}
use Rattle.sv_check.specs.MadeBlocks.{block_content, link_block_bytes, made_image, root_inode_bytes, root_page_bytes, superblock_bytes}
use Rattle.sv_check.proofs.MadeImages.{directory_755, free_inode, inode}
use Rattle.sv_check.proofs.MadeRows.{head_a, image_of, list_from}

pub first_data_is : first_data_for 32 ≡ 4
first_data_is = refl

pub cache_is : free_cache (made_geometry 64 32) ≡ 14 ∷ 13 ∷ 12 ∷ 11 ∷ 10 ∷ 9 ∷ 8 ∷ 7 ∷ 6 ∷ 5 ∷ []
cache_is = refl

-- 0, and then 63 down to 15
pub block_14_is : list_in 64 14 ≡ 0 ∷ down_to 15 49
block_14_is = refl

pub inodes_are : inode_cache 32 ≡ down_to 3 30
inodes_are = refl

-- the whole image, of which the rows of the check say that no condition fails
pub image_is : made_image 64 32 ≡ image_of head_a (free_inode ++ inode directory_755 2 32 (4 ∷ [])) (list_from 0)
unfolding block_content link_block_bytes root_inode_bytes root_page_bytes superblock_bytes
image_is = refl

-- of 118 blocks the last fifty have the first list, and the fifty before them the next, whose link is block 68
pub block_68_is : list_in 118 68 ≡ 0 ∷ down_to 69 49
block_68_is = refl

pub block_18_is : list_in 118 18 ≡ 68 ∷ down_to 19 49
block_18_is = refl

pub last_list_is : free_cache (made_geometry 118 32) ≡ 18 ∷ down_to 5 13
last_list_is = refl

-- an image without a free block has the list of 0 alone
pub no_free_block : free_cache (made_geometry 4 2) ≡ 0 ∷ []
no_free_block = refl

-- no condition fails on the smallest image, nor on one whose inode list leaves only the root's page
pub smallest_is_sound : flaw_from_4 (made_image 4 2) ≡ None
unfolding block_of line_of superblock_of used_inodes kind_flaw size_flaw Rattle.sv_form.specs.AddressTree.reached_under Rattle.sv_form.specs.AddressTree.reached walk first_bad range_flaw twice_flaw past_size_flaw tail_flaw chain_from chain first_broken chain_flaw lost_flaw first_uncacheable cache_flaw root_flaw directories contents entries entry_flaw namings rises_to_root dots_flaw links_flaw flaw_from_4 block_content link_block_bytes root_inode_bytes root_page_bytes superblock_bytes
smallest_is_sound = refl

pub one_data_block_is_sound : flaw_from_4 (made_image 8 80) ≡ None
unfolding block_of line_of superblock_of used_inodes kind_flaw size_flaw Rattle.sv_form.specs.AddressTree.reached_under Rattle.sv_form.specs.AddressTree.reached walk first_bad range_flaw twice_flaw past_size_flaw tail_flaw chain_from chain first_broken chain_flaw lost_flaw first_uncacheable cache_flaw root_flaw directories contents entries entry_flaw namings rises_to_root dots_flaw links_flaw flaw_from_4 block_content link_block_bytes root_inode_bytes root_page_bytes superblock_bytes
one_data_block_is_sound = refl
