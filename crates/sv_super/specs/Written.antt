-- What a flush leaves.
use Rattle.std.specs.Prelude.{◌≡◌, ◌+◌, ◌*◌, ◌==◌, ◌&&◌, ℕ, Bool, false, List, map, nat_le, nat_lt}
use Rattle.std.specs.List.{range_with_len}
use Rattle.sv_form.specs.Geometry.{super_place}
use Rattle.sv_form.specs.Superblock.{IsSuper}
use Rattle.sv_form.specs.declared.geometry.Geometry.{Geometry}
use Rattle.sv_form.specs.declared.superblock.Super.{Super}
use Rattle.sv_store.specs.Held.{Held, SameLines, put}
use Rattle.sv_super.specs.Core.{Head}
use Rattle.sv_super.specs.FreeList.{IsChain, byte_of}

-- the superblock's 512 bytes, by the held lines of its block
unfoldable pub super_bytes : Geometry → Held → List ℕ
super_bytes g h = map (byte_of (h (super_place g).block)) (range_with_len ((super_place g).line * 64) 512)

-- a line is one of the superblock's eight
unfoldable pub is_super_line : Geometry → ℕ → ℕ → Bool
is_super_line g c l = (c == (super_place g).block) && (nat_le (super_place g).line l && nat_lt l ((super_place g).line + 8))

-- the superblock with these sizes, this list and these cached inodes
abbrev pub super_of : Head → List ℕ → List ℕ → Super
super_of head list cached =
    record {
      block_type = head.block_type;
      first_data = head.first_data;
      blocks = head.blocks;
      free = record { items = list };
      inodes = record { items = cached };
    }

-- the held superblock has these sizes, the list with which the chain of these blocks begins, and these cached inodes
pub record IsWritten (g : Geometry) (h : Held) (head : Head) (order cached : List ℕ) : Type 0 where
  pub list : List ℕ
  pub spelled : IsSuper (super_bytes g h) (super_of head list cached)
  pub chain : IsChain h list order

-- the same lines are held, and only those of free blocks, each counted by f, and of the superblock have changed
pub record Rewrites (g : Geometry) (f : ℕ → ℕ) (old new : Held) : Type 0 where
  pub lines : SameLines new old
  pub others : (c l : ℕ) → f c ≡ 0 → is_super_line g c l ≡ false → new c l ≡ old c l

-- the superblock was put, and no other line of its block has changed
pub record PutsSuper (g : Geometry) (old new : Held) (s : Super) : Type 0 where
  pub bytes : List ℕ
  pub puts : new ≡ put (super_place g).block bytes old
  pub spelled : IsSuper (super_bytes g new) s
  pub neighbours : (l : ℕ) → is_super_line g (super_place g).block l ≡ false → new (super_place g).block l ≡ old (super_place g).block l
