-- The laws on a worked image: 64 blocks and 32 inodes, with a directory `/home` and in it a file `a` of six bytes. An image that is made
-- has the root's page in block 4, and the free blocks 5 to 63, of which the lowest are taken first; its free inodes are 3 to 32, and the
-- lowest are taken first too. So `mkdir /home` takes inode 3 and block 5, the file takes inode 4, and its bytes block 6. Of the cached
-- blocks 14 down to 5 there are 14 down to 7 left, and of the cached inodes 32 down to 3 there are 32 down to 5.
use Rattle.std.proofs.Common.{◌≡◌, ◌++◌, ◌+◌, ◌-◌, ◌/◌, ◌%◌, ℕ, List, [], ◌∷◌, ◌≤◌, ◌∙◌, Bool, true, false}
use Rattle.std.proofs.Common.{None, ap, arith, take, replicate, refl}
use Rattle.std.specs.List.{flat_map, range_with_len}
use Rattle.std.specs.FinMap as fmap
use Rattle.std.specs.FinSet as set
use Rattle.sv_form.specs.declared.geometry.Geometry.{Geometry}
use Rattle.sv_form.specs.declared.kind.Kind.TheVariants.{File}
use Rattle.sv_form.specs.Image.{block_of, geometry_of, inode_of, line_of, superblock_of}
use Rattle.sv_form.specs.Node.{Node, used}
use Rattle.sv_form.specs.PagePath.{path}
use Rattle.sv_form.specs.AddressTree.{child, reached, reached_under}
use Rattle.sv_form.specs.Pair.{pair_cmp}
use Rattle.sv_plain.specs.Blocks.{with_blocks}
use Rattle.sv_plain.proofs.Used.{block_set-empty, block_set-insert}
use Rattle.sv_super.specs.Count.{one_if}
use Rattle.sv_bmap.specs.Need.{need_at, need_of}
use Rattle.sv_bmap.specs.Tree.{number_in}
use Rattle.sv_inode.specs.Write.{write_need}
use Rattle.sv_check.specs.InodeList.{kind_flaw, size_flaw, used_inodes}
use Rattle.sv_check.specs.Walk.{first_bad, range_flaw, twice_flaw, walk}
use Rattle.sv_check.specs.PastSize.{past_size_flaw, tail_flaw}
use Rattle.sv_check.specs.Chain.{chain, chain_flaw, chain_from, first_broken, free_list, lost_flaw}
use Rattle.sv_check.specs.InodeCache.{cache_flaw, first_uncacheable}
use Rattle.sv_check.specs.Directories.{contents, directories, dots_flaw, entries, entry_flaw, namings, rises_to_root, root_flaw}
use Rattle.sv_check.specs.Links.{links_flaw}
use Rattle.sv_check.specs.Sound.{flaw_from_4, line_owner, node_of}
use Rattle.sv_files.specs.RoundTrip.{owned_by}
use Rattle.sv_files.proofs.FreeChainHeld.{order_from}
use Rattle.sv_files.proofs.Hits.{hits}
use Rattle.sv_files.proofs.TreeCodes.{Block, is_code}
use Rattle.sv_files.proofs.TreeUsed.{fresh}

abbrev filled_to : ℕ → List ℕ → List ℕ
filled_to n bytes = take n (bytes ++ replicate n 0)

abbrev two : ℕ → List ℕ
two n = n % 256 ∷ n / 256 ∷ []

abbrev four : ℕ → List ℕ
four n = two n ++ 0 ∷ 0 ∷ []

-- an inode with its first number (kind and mode), links, size and one address
abbrev inode : (kind links size address : ℕ) → List ℕ
inode kind links size address = filled_to 64 (two kind ++ two links ++ replicate 4 0 ++ four size ++ address ∷ [])

abbrev entry : ℕ → List ℕ → List ℕ
entry n name = filled_to 16 (two n ++ name)

abbrev block : List ℕ → List ℕ
block bytes = filled_to 1024 bytes

-- first data block 4, 64 blocks, 8 cached blocks and 28 cached inodes
abbrev superblock : List ℕ
superblock =
    filled_to 512 ((0x53 ∷ 0x56 ∷ 0x35 ∷ 0x46 ∷ 2 ∷ 0 ∷ 4 ∷ 0 ∷ 64 ∷ 0 ∷ 0 ∷ 0 ∷ 8 ∷ 0 ∷ 28 ∷ 0 ∷ [])
    ++ filled_to 200 (flat_map (λ k. four (14 - k)) (range_with_len 0 8)) ++ flat_map (λ k. two (32 - k)) (range_with_len 0 28))

-- `hello` and a newline
abbrev pub hello : List ℕ
hello = 104 ∷ 101 ∷ 108 ∷ 108 ∷ 111 ∷ 10 ∷ []

-- block 14 has fifty numbers: 0, and then 63 down to 15
abbrev pub worked : List ℕ
worked =
    replicate 512 0 ++ superblock ++ replicate 1024 0
    ++ filled_to 2048 (replicate 64 0 ++ inode 0x41ed 3 48 4 ++ inode 0x41ed 2 48 5 ++ inode 0x81a4 1 6 6)
    ++ block (entry 2 (46 ∷ []) ++ entry 2 (46 ∷ 46 ∷ []) ++ entry 3 (104 ∷ 111 ∷ 109 ∷ 101 ∷ []))
    ++ block (entry 3 (46 ∷ []) ++ entry 2 (46 ∷ 46 ∷ []) ++ entry 4 (97 ∷ [])) ++ block hello ++ replicate 7168 0
    ++ block ((50 ∷ 0 ∷ 0 ∷ 0 ∷ []) ++ four 0 ++ flat_map (λ k. four (63 - k)) (range_with_len 0 49)) ++ replicate 50176 0

abbrev pub sizes : Geometry
sizes = record { block_size = 1024; blocks = 64; first_data = 4 }

pub sizes_are : geometry_of worked ≡ sizes
unfolding superblock_of
sizes_are = refl

-- no condition fails
pub no_flaw : flaw_from_4 worked ≡ None
unfolding block_of line_of superblock_of used_inodes kind_flaw size_flaw reached_under reached walk first_bad range_flaw twice_flaw
    past_size_flaw tail_flaw chain_from chain first_broken chain_flaw lost_flaw first_uncacheable cache_flaw root_flaw directories
    contents entries entry_flaw namings rises_to_root dots_flaw links_flaw flaw_from_4
no_flaw = refl

-- the owner of a line
abbrev owner : ℕ → ℕ → ℕ
owner b l = line_owner sizes worked (record { block = b; line = l })

-- the lines of the three inodes, those of their pages, and three lines of nobody: of the superblock, of inode 1 and of block 7
owners_are : owner 2 1 ∷ owner 2 2 ∷ owner 2 3 ∷ owner 4 0 ∷ owner 5 15 ∷ owner 6 7 ∷ owner 0 8 ∷ owner 2 0 ∷ owner 7 0 ∷ []
    ≡ 2 ∷ 3 ∷ 4 ∷ 2 ∷ 3 ∷ 4 ∷ 0 ∷ 0 ∷ 0 ∷ []
unfolding block_of line_of used_inodes reached_under reached line_owner
owners_are = refl

-- the free blocks are taken from 7 up to 63: 7 to 13 out of the superblock, then block 14, and 15 to 63 out of its list
chain_is : order_from sizes worked 64 (free_list worked) ≡ range_with_len 7 57
unfolding block_of superblock_of
chain_is = refl

-- the file is the node of mode 644, which is 420, with one link, six bytes and page 0
abbrev pub file : Node
file = record { kind = File; mode = 420; links = 1; size = 6; pages = fmap.from_entries ((0, block hello) ∷ []) }

node_is : node_of sizes worked (inode_of sizes worked 4) ≡ file
unfolding block_of line_of reached_under reached node_of
node_is = refl

-- it uses one block
used_is : used 1024 file ≡ 1
unfolding used
used_is =
    let one : (q : Block) → hits (is_code q) ((0, 0) ∷ []) ≤ 1 = λ q. at_most (is_code q (0, 0)) in
    ap set.len (block_set-insert 256 fmap.empty 0 (block hello)
    ∙ ap (λ (s : set.FinSet pair_cmp). with_blocks s ((0, 0) ∷ [])) (block_set-empty 256))
    ∙ fresh set.empty ((0, 0) ∷ []) (λ q hit. set.contains-empty pair_cmp q) one
    ∙ ap (λ (k : ℕ). k + 1) (set.len-empty pair_cmp)
  where
    at_most : (t : Bool) → one_if t + 0 ≤ 1
    at_most true = omega arith
    at_most false = omega arith

abbrev pub addresses : List ℕ
addresses = 6 ∷ replicate 12 0

-- what writes of these many bytes at these places take by the address tree: none within page 0; page 1; pages 9 and 10, with the
-- indirect block of page 10; page 65,802, with three indirect blocks
abbrev pub needed : ℕ → ℕ → ℕ
needed at count = write_need sizes (owned_by worked 4) addresses at count

pub needs_are : needed 0 6 ∷ needed 6 1019 ∷ needed 10239 2 ∷ needed 67381248 1 ∷ [] ≡ 0 ∷ 1 ∷ 3 ∷ 4 ∷ []
unfolding block_of line_of superblock_of used_inodes reached_under reached line_owner child number_in path need_at need_of
needs_are = refl
