-- Worked rows of the first three conditions: a small sound image with one change.
use Rattle.std.proofs.Common.{◌≡◌, ◌≤◌, ◌++◌, ℕ, List, [], ◌∷◌, take, drop, refl, inl, inr, lit≤, arith}
use Rattle.sv_form.specs.Image.{superblock_of}
use Rattle.sv_check.specs.Sizes.{HasMagic, HasBlockType}
use Rattle.sv_check.specs.Sound.{Flaw}
use Rattle.sv_check.proofs.MadeImages.{superblock, inode, directory_755, file_644, free_inode, entry, block, front_blocks}

abbrev image_of : List ℕ → List ℕ
image_of head =
    front_blocks head ++ block (free_inode ++ inode directory_755 2 48 (3 ∷ []) ++ inode file_644 1 6 (4 ∷ []))
    ++ block (entry 2 (46 ∷ []) ++ entry 2 (46 ∷ 46 ∷ []) ++ entry 3 (97 ∷ [])) ++ block (104 ∷ 101 ∷ 108 ∷ 108 ∷ 111 ∷ 10 ∷ [])

abbrev head_e : List ℕ
head_e = superblock 3 5 1 (0 ∷ []) 0 []

other_magic : ◌≡◌ {A = ℕ} 0x46355600 0x46355653 → ⊥
other_magic e = omega arith

other_type : ◌≡◌ {A = ℕ} 3 2 → ⊥
other_type e = omega arith

one_less : ◌≡◌ {A = ℕ} 5119 5120 → ⊥
one_less e = omega arith

none : 1024 ≤ 0 → ⊥
none le = omega arith

pub has_magic : HasMagic (image_of head_e)
unfolding superblock_of
has_magic = record { long = lit≤ tt; magic = refl }

pub has_type : HasBlockType (image_of head_e)
unfolding superblock_of
has_type = record { type = refl }

-- the first magic byte is 0
pub magic : Flaw (image_of (0 ∷ drop 1 head_e)) 1 0
unfolding superblock_of
magic = inl (inl (record { is_number = refl; is_place = refl; fails = λ has. other_magic has.magic }))

-- the block type is 3
pub block_type : Flaw (image_of (take 4 head_e ++ 3 ∷ drop 5 head_e)) 2 3
unfolding superblock_of
block_type = inl (inr (inl (record { magic = record { long = lit≤ tt; magic = refl }; is_number = refl; is_place = refl; fails = λ has. other_type has.type })))

-- the last byte is cut
pub sizes : Flaw (take 5119 (image_of head_e)) 3 0
unfolding superblock_of
sizes = inl (inr (inr (record { magic = record { long = lit≤ tt; magic = refl }; type = record { type = refl }; is_number = refl; is_place = refl; fails = λ has. one_less has.length })))

-- there are no bytes
pub no_bytes : Flaw [] 1 0
unfolding superblock_of
no_bytes = inl (inl (record { is_number = refl; is_place = refl; fails = λ has. none has.long }))
