-- What each call of a core asks, and what it gives.
use Rattle.std.specs.Prelude.{◌≡◌, ◌≤◌, ◌<◌, ◌+◌, ◌-◌, ◌==◌, ◌&&◌, ◌++◌, ◌⊎◌, ℕ, Bool, true, false, List, [], ◌∷◌}
use Rattle.std.specs.Prelude.{Some, length, replicate, slice_index, nat_le, nat_lt}
use Rattle.sv_dev.specs.Causes.{Rose}
use Rattle.sv_form.specs.Geometry.{IsDataBlock, IsNumber, block_lines, inode_place}
use Rattle.sv_form.specs.OwnerTable.{OwnerTable, IsOwnerTable}
use Rattle.sv_form.specs.Owners.{owner_of}
use Rattle.sv_form.specs.declared.superblock.Super.{Super}
use Rattle.sv_store.specs.Held.{Held, Lent, Origin, HoldsBlock, nothing_lent, put}
use Rattle.sv_super.specs.Core.{Core, Head, HoldsInodes, HoldsSuper, alone, less, line_alone, line_less}
use Rattle.sv_super.specs.Count.{one_if, sum_below, times}
use Rattle.sv_super.specs.FreeList.{HasList, IsChain, IsNext, after}
use Rattle.sv_super.specs.Inodes.{Inodes, filled, is_free_inode, without_last}

-- ---- the mount

-- how many lines of block b belong to an inode
abbrev pub owned_lines : OwnerTable → ℕ → ℕ
owned_lines t b = sum_below (block_lines t.geometry) (λ l. one_if (nat_lt 0 (owner_of t (record { block = b; line = l }))))

-- a free block is a data block of which no line belongs to an inode
abbrev pub is_free : OwnerTable → ℕ → Bool
is_free t b = nat_le t.geometry.first_data b && (nat_lt b t.geometry.blocks && (owned_lines t b == 0))

-- the stake holds the superblock's lines and all free blocks, and the chain that begins with the superblock's list has
-- each free block once, and no other
pub record CanMount (o : Origin) (h : Held) (m : Lent) (t : OwnerTable) (list : List ℕ) : Type 0 where
  pub table : IsOwnerTable t
  pub sizes : t.geometry ≡ o.sizes
  pub lent : m ≡ nothing_lent
  pub super : HoldsSuper o h
  pub order : List ℕ
  pub chain : IsChain h list order
  pub each : (b : ℕ) → times b order ≡ one_if (is_free t b)
  pub whole : (b : ℕ) → 0 < times b order → HoldsBlock o h b

-- the map has a place for each inode, the stake holds the lines of the free ones, which are zero bytes, and the cached
-- numbers are free, each once
pub record CanMountInodes (o : Origin) (h : Held) (used : List Bool) (cached : List ℕ) : Type 0 where
  pub lines : HoldsInodes o h used
  pub free : (n : ℕ) → 0 < times n cached → is_free_inode used n ≡ true
  pub once : (n : ℕ) → times n cached ≤ 1

-- what a superblock says of the sizes
abbrev pub head_of : Super → Head
head_of s = record { block_type = s.block_type; first_data = s.first_data; blocks = s.blocks }

-- ---- a block is taken

-- the last of those set aside
pub record TakesAside {S : Type 0} (old new : Core S) (b : ℕ) : Type 0 where
  pub aside : old.aside ≡ new.aside ++ b ∷ []
  pub chain : new.chain ≡ old.chain

-- where none is set aside, the first of the chain
pub record TakesChained {S : Type 0} (old new : Core S) (b : ℕ) : Type 0 where
  pub none : old.aside ≡ []
  pub aside : new.aside ≡ []
  pub chain : old.chain ≡ b ∷ new.chain

abbrev pub Takes : {S : Type 0} → Core S → Core S → ℕ → Type 0
Takes old new b = TakesAside old new b ⊎ TakesChained old new b

-- A free block has gone, with all its lines and no other, to a part: f counts the free blocks, and n how many there are.
pub record TakesBlock (o : Origin) (f f' : ℕ → ℕ) (n n' : ℕ) (h h' part : Held) (b : ℕ) : Type 0 where
  pub in_data : IsDataBlock o.sizes b
  pub each : (c : ℕ) → f c ≡ one_if (b == c) + f' c
  pub count : n ≡ n' + 1
  pub mine : h' ≡ less b h
  pub theirs : part ≡ alone b h
  pub whole : HoldsBlock o part b

-- A stake that was just cut off one that comes from there: it has lent nothing, counted no fault, and is not forced.
pub record IsNewPart (from : Origin) (m : Lent) (count : ℕ) (pushed : Bool) (o : Origin) : Type 0 where
  pub away : m ≡ nothing_lent
  pub none : count ≡ 0
  pub unforced : pushed ≡ false
  pub home : o ≡ from

-- the same blocks are free, in one order, and the same lines are held with the same bytes
pub record StaysAs {S : Type 0} (held : S → Held) (old new : Core S) : Type 0 where
  pub lines : held new.stake ≡ held old.stake
  pub chain : new.chain ≡ old.chain
  pub aside : new.aside ≡ old.aside

-- ---- a block is freed

-- a block is free besides: f counts the free blocks, and n how many there are
pub record FreesBlock (f f' : ℕ → ℕ) (n n' b : ℕ) : Type 0 where
  pub each : (c : ℕ) → f' c ≡ one_if (b == c) + f c
  pub count : n' ≡ n + 1

-- it becomes the first of the chain
pub record Chains {S : Type 0} (old new : Core S) (b : ℕ) : Type 0 where
  pub chain : new.chain ≡ b ∷ old.chain
  pub aside : new.aside ≡ old.aside

-- it is set aside, and the count of faults rose
pub record SetsAside {S : Type 0} (before now : ℕ) (old new : Core S) (b : ℕ) : Type 0 where
  pub chain : new.chain ≡ old.chain
  pub aside : new.aside ≡ old.aside ++ b ∷ []
  pub rose : Rose before now

abbrev pub Frees : {S : Type 0} → ℕ → ℕ → Core S → Core S → ℕ → Type 0
Frees before now old new b = Chains old new b ⊎ SetsAside before now old new b

-- ---- an inode is taken

-- it is an inode's number, free, and the last of the cache that was filled where it was empty; its line is cut off, and is
-- zero bytes
pub record TakesInode (o : Origin) (h h' part : Held) (old new : Inodes) (n : ℕ) : Type 0 where
  pub number : IsNumber o.sizes n
  pub free : is_free_inode old.used n ≡ true
  pub last : n ≡ slice_index (filled old).cached (length (filled old).cached - 1)
  pub inodes : new ≡ without_last (filled old)
  pub mine : h' ≡ line_less (inode_place o.sizes n) h
  pub theirs : part ≡ line_alone (inode_place o.sizes n) h
  pub zeros : part (inode_place o.sizes n).block (inode_place o.sizes n).line ≡ Some (replicate 64 0)

-- ---- writes

-- the list stands in block b, and no other block has changed
pub record PutsList (old new : Held) (b : ℕ) (list : List ℕ) : Type 0 where
  pub bytes : List ℕ
  pub puts : new ≡ put b bytes old
  pub reads : HasList (new b) list

-- block b is what is taken first from the new list, and the old list is what comes after it
pub record Links (old new : Held) (list list' : List ℕ) (b : ℕ) : Type 0 where
  pub next : IsNext new list' b
  pub then : after new list' ≡ list
  pub bytes : List ℕ
  pub puts : (new ≡ old) ⊎ (new ≡ put b bytes old)
