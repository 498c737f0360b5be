-- One page more in the address tree.
use Rattle.std.specs.Prelude.{◌≡◌, ◌≢◌, ◌<◌, ◌≤◌, ◌+◌, ◌-◌, ◌*◌, ◌/◌, ◌⊎◌, ℕ, Bool, List, length, map, take, None, Some, IsSome}
use Rattle.std.specs.Prelude.{slice_index}
use Rattle.std.specs.List.{All}
use Rattle.sv_dev.specs.Causes.{Rose}
use Rattle.sv_form.specs.PagePath.{IsPage, block_numbers}
use Rattle.sv_form.specs.declared.geometry.Geometry.{Geometry}
use Rattle.sv_store.specs.Held.{Held, Lent, Origin, HoldsBlock, SameLines, line_of, nothing_lent}
use Rattle.sv_store.specs.declared.refusal.Refusal.{Refusal}
use Rattle.sv_store.specs.declared.refusal.Refusal.TheVariants.{Fault}
use Rattle.sv_bmap.specs.Hang.{Hangs}
use Rattle.sv_bmap.specs.Need.{need_of}
use Rattle.sv_bmap.specs.Parts.{AllApart, part}
use Rattle.sv_bmap.specs.Rows.{HasBytes, LeadsFrom, Links}
use Rattle.sv_bmap.specs.Tree.{IsTree, block_at, page_block, path, slot_of, places_of}

-- the spot of a page: the address above it, and the places on the way down
abbrev pub page_slot : Geometry → ℕ → ℕ
page_slot g page = slot_of (path (block_numbers g) page)

abbrev pub page_places : Geometry → ℕ → List ℕ
page_places g page = places_of (path (block_numbers g) page)

-- The page is a hole, there are as many blocks as it needs, none is 0, and each is held whole by the part at its place.
-- That they differ, and that none is in the tree, follows: no line is held twice.
pub record CanAttach (o : Origin) (h : Held) (a : List ℕ) (page : ℕ) (blocks : List ℕ) (parts : List Held) : Type 0 where
  pub hole : page_block o.sizes h a page ≡ 0
  pub count : length blocks ≡ need_of o.sizes h a page 1
  pub named : (i : ℕ) → i < length blocks → slice_index blocks i ≢ 0
  pub as_many : length parts ≡ length blocks
  pub whole : (i : ℕ) → i < length blocks → HoldsBlock o (part parts i) (slice_index blocks i)
  pub apart : AllApart h parts

-- the lines of the first and of the parts, whatever their bytes, and no other line
pub record HoldsAll (h : Held) (parts : List Held) (new : Held) : Type 0 where
  pub own : (b l : ℕ) → IsSome (h b l) → IsSome (new b l)
  pub theirs : (i : ℕ) → i < length parts → (b l : ℕ) → IsSome (part parts i b l) → IsSome (new b l)
  pub only : (b l : ℕ) → h b l ≡ None → ((i : ℕ) → i < length parts → part parts i b l ≡ None) → new b l ≡ None

-- The last block is the page, with these bytes. The others are its new indirect blocks, the outermost first. Every other
-- page is as it was, and of the lines that were held before only the one with the number that links them has changed.
pub record Attaches (o : Origin) (h new : Held) (a b : List ℕ) (page : ℕ) (blocks : List ℕ) (parts : List Held)
    (bytes : List ℕ) : Type 0 where
  pub tree : IsTree o new b
  pub block : page_block o.sizes new b page ≡ slice_index blocks (length blocks - 1)
  pub content : (l : ℕ) → l * 64 < o.sizes.block_size → new (slice_index blocks (length blocks - 1)) l ≡ Some (line_of bytes l)
  pub row : (i : ℕ) → i < length blocks
      → block_at new b (page_slot o.sizes page)
      (take (length (page_places o.sizes page) + 1 - length blocks + i) (page_places o.sizes page)) ≡ slice_index blocks i
  pub others : (other : ℕ) → IsPage o.sizes other → other ≢ page → page_block o.sizes new b other ≡ page_block o.sizes h a other
  pub kept : (other l : ℕ) → IsPage o.sizes other → other ≢ page → page_block o.sizes h a other ≢ 0 → l * 64 < o.sizes.block_size
      → new (page_block o.sizes h a other) l ≡ h (page_block o.sizes h a other) l
  pub lines : HoldsAll h parts new
  -- the link, and what of the tree and of the held lines stays
  pub parent : ℕ
  pub place : ℕ
  pub hangs : Hangs (block_numbers o.sizes) h new a b (page_slot o.sizes page) (page_places o.sizes page)
      (length (page_places o.sizes page) + 1 - length blocks) parent place blocks
  pub stays : (c l : ℕ) → IsSome (h c l) → (c ≢ 0 → c ≡ parent → l ≢ place / 16) → new c l ≡ h c l

-- The blocks as they stand in the parts, and their link: the last has these bytes, each of the others leads to the next
-- one, and the first is linked.
pub record IsBuilt (o : Origin) (h linked : Held) (a b : List ℕ) (page : ℕ) (blocks : List ℕ) (parts : List Held)
    (bytes : List ℕ) : Type 0 where
  pub last : HasBytes o parts (length blocks - 1) (slice_index blocks (length blocks - 1)) bytes
  pub row : LeadsFrom 0 (block_numbers o.sizes) (page_places o.sizes page)
      (length (page_places o.sizes page) + 1 - length blocks) blocks parts
  pub links : Links (block_numbers o.sizes) h linked a b (page_slot o.sizes page)
      (take (length (page_places o.sizes page) + 1 - length blocks) (page_places o.sizes page)) (slice_index blocks 0)

-- the stakes are still these, each with its lines, and nothing is lent
pub record Keeps {S : Type 0} (held : S → Held) (lent : S → Lent) (origin : S → Origin) (forced : S → Bool) (faults : S → ℕ)
    (old new : List S) : Type 0 where
  pub count : length new ≡ length old
  pub lines : (i : ℕ) → i < length old → SameLines (part (map held new) i) (part (map held old) i)
  pub away : All (λ stake. lent stake ≡ nothing_lent) new
  pub home : map origin new ≡ map origin old
  pub as_forced : map forced new ≡ map forced old
  pub no_less : (i : ℕ) → i < length old → slice_index (map faults old) i ≤ slice_index (map faults new) i

-- a fault is answered where the count of the stake or of a part rose
pub record HasFaultOf (before now : ℕ) (old new : List ℕ) (refusal : Refusal) : Type 0 where
  pub is : refusal ≡ Fault
  pub rose : Rose before now ⊎ ((i : ℕ) × ((i < length old) × Rose (slice_index old i) (slice_index new i)))
