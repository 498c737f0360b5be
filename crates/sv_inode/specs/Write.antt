-- Bytes are put into a file: the blocks that this takes, and where a write stops.
use Rattle.std.specs.Prelude.{◌≡◌, ◌≤◌, ◌<◌, ◌+◌, ◌/◌, ◌%◌, ◌++◌, ◌∷◌, ◌⊎◌, [], ℕ, Bool, List, Option, Some, None, Result, Ok, Err}
use Rattle.std.specs.Prelude.{length, take, drop, replicate, get_or, vec_capacity}
use Rattle.std.specs.Global.{Vec}
use Rattle.std.specs.List.{All}
use Rattle.std.specs.FinMap as fmap
use Rattle.sv_form.specs.Node.{Node}
use Rattle.sv_form.specs.NodeChanges.{touched}
use Rattle.sv_form.specs.PagePath.{IsPage}
use Rattle.sv_form.specs.declared.geometry.Geometry.{Geometry}
use Rattle.sv_store.specs.Held.{Apart, Both, Held, Lent, Origin, SameLines}
use Rattle.sv_store.specs.declared.refusal.Refusal.{Refusal}
use Rattle.sv_store.specs.declared.refusal.Refusal.TheVariants as refused
use Rattle.sv_super.specs.Calls.{Takes}
use Rattle.sv_super.specs.Core.{Core, free_times, left_of, less}
use Rattle.sv_super.specs.Count.{times}
use Rattle.sv_bmap.specs.Need.{need_of}
use Rattle.sv_bmap.specs.Tree.{page_block}
pub use Rattle.sv_inode.specs.Frames.{HasRisen}
use Rattle.sv_inode.specs.Truncate.{AreBlocks, CanFreeAll, IsCut, IsCutFrom, IsPart, less_all, names_of, only}
use Rattle.sv_inode.specs.declared.stop.WriteStop.{WriteStop}
use Rattle.sv_inode.specs.declared.stop.WriteStop.TheVariants.{Short, NoMemory}

-- how many blocks a write takes: those that make its pages present
abbrev pub write_need : Geometry → Held → List ℕ → ℕ → ℕ → ℕ
write_need g h a at count = need_of g h a (at / g.block_size) (length (touched g.block_size at count))

-- how many bytes a write has put when it ends, of so many
abbrev pub done_by : {T : Type 0} → ℕ → Result T WriteStop → ℕ
done_by all (Ok x) = all
done_by all (Err (Short done)) = done
done_by all (Err (NoMemory done)) = done

-- a write that begins at `at` has stopped at the begin of a page, or at once
abbrev pub IsPageEnd : ℕ → ℕ → ℕ → Type 0
IsPageEnd block at done = (done ≡ 0) ⊎ ((at + done) % block ≡ 0)

-- A write stops short, before all its bytes, where a count of faults rose: that of the inode's stake or that of the core's. Without
-- memory it has put nothing.
abbrev pub StopsAt : ℕ → ℕ → ℕ → Type 0 → WriteStop → Type 0
StopsAt block at all rose (Short done) = (done < all) × (IsPageEnd block at done × rose)
StopsAt block at all rose (NoMemory done) = done ≡ 0

-- Of the free blocks these are taken, so many as were needed: the inode's stake holds their lines now, and the core's does not.
pub record TakesBlocks {S : Type 0} (held : S → Held) (need : ℕ) (old new : Core S) (h k : Held) : Type 0 where
  pub blocks : List ℕ
  pub count : length blocks ≡ need
  pub each : (b : ℕ) → free_times new.chain new.aside b + times b blocks ≡ free_times old.chain old.aside b
  pub mine : SameLines k (Both h (only blocks (held old.stake)))
  pub theirs : SameLines (held new.stake) (less_all blocks (held old.stake))

-- Blocks have moved from the free ones to the file, so many as were needed. Together the two stakes hold the lines that they
-- held, and in the core no line of another block has changed.
pub record MovesBlocks {S : Type 0} (held : S → Held) (need : ℕ) (old new : Core S) (h k : Held) : Type 0 where
  pub takes : TakesBlocks held need old new h k
  pub left : left_of new + need ≡ left_of old
  pub together : SameLines (Both k (held new.stake)) (Both h (held old.stake))
  pub others : (c l : ℕ) → free_times old.chain old.aside c ≡ 0 → held new.stake c l ≡ held old.stake c l

-- So many blocks are taken that were free, each with a stake that has its lines.
pub record IsSupplied {S : Type 0} (held : S → Held) (lent : S → Lent) (origin : S → Origin) (forced : S → Bool) (faults : S → ℕ)
    (count : ℕ) (old new : Core S) (cuts : List (ℕ × S)) : Type 0 where
  pub from : IsCutFrom held lent origin forced faults (origin old.stake) (held old.stake) (held new.stake) cuts
  pub are : AreBlocks (origin old.stake) (held old.stake) (names_of cuts)
  pub taken : (b : ℕ) → free_times new.chain new.aside b + times b (names_of cuts) ≡ free_times old.chain old.aside b
  pub as_many : length cuts ≡ count
  pub left : left_of new + length cuts ≡ left_of old

-- an empty list with room for the stakes of a page's blocks
pub record IsRoom {S : Type 0} (room : Vec S) : Type 0 where
  pub empty : room.items ≡ []
  pub roomy : 4 ≤ vec_capacity room

-- There are as many empty lists as pages, each with room for the stakes of a page's blocks, and the bytes of one page.
pub record HasRooms {S : Type 0} (pages block : ℕ) (rooms : List (Vec S)) (bytes : List ℕ) : Type 0 where
  pub enough : pages ≤ length rooms
  pub empty : All (λ room. room.items ≡ []) rooms
  pub roomy : All (λ room. 4 ≤ vec_capacity room) rooms
  pub size : length bytes ≡ block

-- a write that was refused before it put a byte
abbrev pub stop_of : Refusal → WriteStop
stop_of refused.Fault = Short 0
stop_of refused.NoMemory = NoMemory 0

abbrev pub refusal_by : WriteStop → Refusal
refusal_by (Short done) = refused.Fault
refusal_by (NoMemory done) = refused.NoMemory

-- A free block is taken: it comes with its lines as the last of those that were taken.
pub record TakesCut {S : Type 0} (held : S → Held) (lent : S → Lent) (origin : S → Origin) (forced : S → Bool) (faults : S → ℕ)
    (old new : Core S) (cuts more : List (ℕ × S)) : Type 0 where
  pub b : ℕ
  pub part : S
  pub pushed : more ≡ cuts ++ (b, part) ∷ []
  pub cut : IsCut held lent origin forced faults (origin old.stake) (held old.stake) (b, part)
  pub free : Takes old new b
  pub left : held new.stake ≡ less b (held old.stake)

-- The blocks that were taken are free again: the same blocks are free, the same lines are held, and those of other blocks
-- have the same bytes.
pub record ComesBack {S : Type 0} (held : S → Held) (old new : Core S) : Type 0 where
  pub each : (b : ℕ) → free_times new.chain new.aside b ≡ free_times old.chain old.aside b
  pub lines : SameLines (held new.stake) (held old.stake)
  pub others : (c l : ℕ) → free_times old.chain old.aside c ≡ 0 → held new.stake c l ≡ held old.stake c l

-- ---- one page

-- a page that a file may have, and that is a hole
pub record IsHole (g : Geometry) (h : Held) (a : List ℕ) (page : ℕ) : Type 0 where
  pub is_page : IsPage g page
  pub hole : page_block g h a page ≡ 0

-- so many bytes from byte `from` on lie in a page that a file may have
pub record LiesIn (g : Geometry) (page from count : ℕ) : Type 0 where
  pub is_page : IsPage g page
  pub fits : from + count ≤ g.block_size

-- a page once a piece was put into it
abbrev pub patched : List ℕ → ℕ → List ℕ → List ℕ
patched bytes from piece = take from bytes ++ piece ++ drop (from + length piece) bytes

-- the bytes of a page, zero bytes where it is absent
abbrev pub page_or_zeros : ℕ → Option (List ℕ) → List ℕ
page_or_zeros block None = replicate block 0
page_or_zeros block (Some bytes) = bytes

-- a node once a piece was put into a page
abbrev pub with_piece : ℕ → Node → ℕ → ℕ → List ℕ → Node
with_piece block node page from piece = record node
    { pages = fmap.insert node.pages page (patched (page_or_zeros block (fmap.get node.pages page)) from piece) }

-- Of the blocks that were at hand some are used, so many as were needed, and the others are free again: their lines are with
-- the file and with the core, and no other block's bytes have changed in the core.
pub record PutsBack {S : Type 0} (held : S → Held) (h : Held) (need : ℕ) (names : List ℕ) (old new : Core S)
    (before now : Held) : Type 0 where
  pub used : List ℕ
  pub unused : List ℕ
  pub count : length used ≡ need
  pub each : (b : ℕ) → times b used + times b unused ≡ times b names
  pub mine : SameLines (Both now (only unused h)) (Both before (only names h))
  pub apart : Apart now (only unused h)
  pub free : (b : ℕ) → free_times new.chain new.aside b ≡ free_times old.chain old.aside b + times b unused
  pub left : left_of new + need ≡ left_of old + length names
  pub theirs : SameLines (held new.stake) (Both (held old.stake) (only unused h))
  pub others : (c l : ℕ) → times c names ≡ 0 → held new.stake c l ≡ held old.stake c l

-- ---- what is at hand while pages are written

-- how many bytes have been put when a loop over pages ends
abbrev pub put_by : {T : Type 0} → ℕ → Result T ℕ → ℕ
put_by all (Ok x) = all
put_by all (Err done) = done

-- ---- blocks at hand

-- parts of these blocks, each at the place of its block
pub record ArePaired {S : Type 0} (held : S → Held) (lent : S → Lent) (origin : S → Origin) (forced : S → Bool) (o : Origin) (h : Held)
    (blocks : List ℕ) (parts : List S) : Type 0 where
  pub count : length parts ≡ length blocks
  pub each : (i : ℕ) (b : ℕ) (part : S) → i < length blocks → IsPart held lent origin forced o h (get_or blocks i b, get_or parts i part)

-- Of the blocks at hand the last ones have become part of a file, with their lines; the others are still at hand.
pub record Uses {S : Type 0} (held : S → Held) (lent : S → Lent) (origin : S → Origin) (forced : S → Bool) (o : Origin)
    (h before now : Held) (old new : List (ℕ × S)) : Type 0 where
  pub front : names_of new ≡ take (length new) (names_of old)
  pub fewer : length new ≤ length old
  pub can : CanFreeAll held lent origin forced o h now new
  pub lines : SameLines (Both now (only (names_of new) h)) (Both before (only (names_of old) h))
