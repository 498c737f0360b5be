-- How the images of the worked rows are made.
use Rattle.std.proofs.Common.{◌++◌, ◌/◌, ◌%◌, ℕ, List, [], ◌∷◌, take, replicate}
use Rattle.std.specs.List.{flat_map}

-- bytes filled up with zero bytes to n
abbrev pub filled_to : ℕ → List ℕ → List ℕ
filled_to n bytes = take n (bytes ++ replicate n 0)

-- a number in 2, 3 and 4 bytes, for numbers under 65,536
abbrev pub two : ℕ → List ℕ
two n = n % 256 ∷ n / 256 ∷ []

abbrev pub three : ℕ → List ℕ
three n = n % 256 ∷ n / 256 ∷ 0 ∷ []

abbrev pub four : ℕ → List ℕ
four n = n % 256 ∷ n / 256 ∷ 0 ∷ 0 ∷ []

-- the superblock of an image of so many blocks, with a free list and an inode cache of these counts and numbers
abbrev pub superblock : (first_data blocks free_count : ℕ) (free : List ℕ) (inode_count : ℕ) (inodes : List ℕ) → List ℕ
superblock first_data blocks free_count free inode_count inodes =
    filled_to 512 ((0x53 ∷ 0x56 ∷ 0x35 ∷ 0x46 ∷ 2 ∷ 0 ∷ []) ++ two first_data ++ four blocks ++ two free_count ++ two inode_count ++ filled_to 200 (flat_map four free) ++ flat_map two inodes)

-- an inode of 64 bytes, with its first number (kind and mode), links, size and addresses
abbrev pub inode : (kind links size : ℕ) (addresses : List ℕ) → List ℕ
inode kind links size addresses = filled_to 64 (two kind ++ two links ++ (0 ∷ 0 ∷ 0 ∷ 0 ∷ []) ++ four size ++ flat_map three addresses)

abbrev pub directory_755 : ℕ
directory_755 = 0x41ed

abbrev pub file_644 : ℕ
file_644 = 0x81a4

abbrev pub free_inode : List ℕ
free_inode = replicate 64 0

-- a directory entry of 16 bytes
abbrev pub entry : ℕ → List ℕ → List ℕ
entry n name = filled_to 16 (two n ++ name)

abbrev pub block : List ℕ → List ℕ
block bytes = filled_to 1024 bytes

-- the blocks 0 and 1, with this superblock
abbrev pub front_blocks : List ℕ → List ℕ
front_blocks head = replicate 512 0 ++ head ++ replicate 1024 0
