-- An index of the names of a directory: where each name stands, and which places are empty.
use Rattle.std.specs.Prelude.{◌≡◌, ◌≢◌, ◌≤◌, ◌<◌, ◌+◌, ◌*◌, ◌/◌, ◌%◌, ◌^◌, ◌==◌, ℕ, true, List, [], ◌∷◌, map, Option, Some, None}
use Rattle.std.specs.Prelude.{if◌then◌else◌}
use Rattle.std.specs.List.{range_with_len}
use Rattle.std.specs.Ordering.{nat_cmp}
use Rattle.std.specs.BTreeMap as tree
use Rattle.std.specs.FinMap as fmap
use Rattle.std.specs.FinSet as set
use Rattle.sv_form.specs.FileBytes.{page_byte}
use Rattle.sv_plain.specs.declared.maps.name_index.NameIndex.{NameIndex}

-- the number of these bytes up to the first zero, once those before them made `key`: fourteen bytes have room in it
abbrev pub key_from : ℕ → List ℕ → ℕ
key_from key [] = key
key_from key (b ∷ bs) = if b == 0 then key else key_from (key % 2 ^ 120 * 256 + b) bs

abbrev pub name_key : List ℕ → ℕ
name_key = key_from 0

-- entry r of a page: the inode's number, and the number of its name
unfoldable pub slot_inode : Option (List ℕ) → ℕ → ℕ
slot_inode page r = page_byte page (16 * r) + 256 * page_byte page (16 * r + 1)

unfoldable pub slot_key : Option (List ℕ) → ℕ → ℕ
slot_key page r = name_key (map (page_byte page) (range_with_len (16 * r + 2) 14))

-- the index knows of an entry at place j: a name stands where it says, and an empty place is among the first empty ones
pub record Notes (index : NameIndex) (j inode key : ℕ) : Type 0 where
  pub named : inode ≢ 0 → tree.get nat_cmp index.places key ≡ Some j
  pub free : j < index.covered → inode ≡ 0 → set.contains index.empty j ≡ true

-- the entry at a place of a directory with these pages, of which each has so many entries
abbrev pub inode_at : ℕ → fmap.FinMap nat_cmp (List ℕ) → ℕ → ℕ
inode_at slots pages j = slot_inode (fmap.get pages (j / slots)) (j % slots)

abbrev pub name_at : ℕ → fmap.FinMap nat_cmp (List ℕ) → ℕ → ℕ
name_at slots pages j = slot_key (fmap.get pages (j / slots)) (j % slots)

-- it knows of each entry of a directory with these pages
pub record HasIndex (index : NameIndex) (pages : fmap.FinMap nat_cmp (List ℕ)) : Type 0 where
  pub some : 0 < index.slots
  pub few : index.slots ≤ 64
  pub notes : (j : ℕ) → Notes index j (inode_at index.slots pages j) (name_at index.slots pages j)

abbrev pub IsIndexed : Option NameIndex → fmap.FinMap nat_cmp (List ℕ) → Type 0
IsIndexed None pages = Unit
IsIndexed (Some index) pages = HasIndex index pages

-- how many places are known to be noted once place j is
abbrev pub covered_after : ℕ → ℕ → ℕ
covered_after covered j = if covered == j then j + 1 else covered
