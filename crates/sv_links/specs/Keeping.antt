-- How the lists are kept: linked in both directions, and beside them the list of each number.
use Rattle.std.specs.Prelude.{◌≡◌, ◌<◌, ◌==◌, ℕ, Option, Some, None, map, length, slice_index_or}
use Rattle.sv_links.specs.Arrangement.{Arrangement, list_at, times, one_if}
use Rattle.sv_links.specs.Way.{walk, IsLinked}
use Rattle.sv_links.specs.declared.lists.Lists.TheInside.{Inside}

-- what is linked, seen as lists in order
abbrev pub arrangement : Inside → Arrangement
arrangement a = record { numbers = length a.places.items; lists = map (walk a.forwards (length a.places.items)) a.forwards.begins }

-- the list of a number, by the table
abbrev pub place : Inside → ℕ → Option ℕ
place a x = slice_index_or a.places.items x None

-- how often a number with this place stands on list l
abbrev pub stands : Option ℕ → ℕ → ℕ
stands None l = 0
stands (Some k) l = one_if (k == l)

-- The table tells of each number on which list it stands, once, and the links are those of the lists.
pub record IsKept (a : Inside) : Type 0 where
  pub told : (l x : ℕ) → times x (list_at (arrangement a) l) ≡ stands (place a x) l
  pub in_range : (l x : ℕ) → place a x ≡ Some l → l < length a.forwards.begins
  pub linked_up : IsLinked a.forwards a.backwards (arrangement a).lists
  pub forth : length a.forwards.follows ≡ length a.places.items
  pub back : length a.backwards.follows ≡ length a.places.items
