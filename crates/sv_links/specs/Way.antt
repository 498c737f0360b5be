-- Links from number to number, in one direction and in both.
use Rattle.std.specs.Prelude.{◌≡◌, ◌<◌, ℕ, zero, suc, List, [], ◌∷◌, Option, Some, None, length, slice_index_or, slice_set}

-- One direction through all lists: the number with which each list begins, and the number that follows each number.
pub record Way : Type 0 where
  pub begins : List (Option ℕ)
  pub follows : List (Option ℕ)

-- No list begins, and nothing follows.
abbrev pub no_way : Way
no_way = record { begins = []; follows = [] }

-- what follows on list l: after a number, or, after None, at the beginning of the list
abbrev pub next_of : Way → ℕ → Option ℕ → Option ℕ
next_of w l None = slice_index_or w.begins l None
next_of w l (Some x) = slice_index_or w.follows x None

-- the way after a link from there to another number, or to the end
abbrev pub linked : Way → ℕ → Option ℕ → Option ℕ → Way
linked w l None to = record w { begins = slice_set w.begins l to }
linked w l (Some x) to = record w { follows = slice_set w.follows x to }

-- there is a place for what follows
abbrev pub HasPlace : Way → ℕ → Option ℕ → Type 0
HasPlace w l None = l < length w.begins
HasPlace w l (Some x) = x < length w.follows

-- at most n numbers of a list, from this one on
abbrev pub walk : Way → ℕ → Option ℕ → List ℕ
walk w zero at = []
walk w (suc n) None = []
walk w (suc n) (Some x) = x ∷ walk w n (slice_index_or w.follows x None)

-- From p on stand the numbers xs, and then comes q: each is linked to the next, and back.
abbrev pub Runs : (Option ℕ → Option ℕ) → (Option ℕ → Option ℕ) → Option ℕ → List ℕ → Option ℕ → Type 0
Runs forth back p [] q = (forth p ≡ q) × (back q ≡ p)
Runs forth back p (x ∷ xs) q = (forth p ≡ Some x) × (back (Some x) ≡ p) × Runs forth back (Some x) xs q

-- each list runs from its beginning to its end and back
pub record IsLinked (forwards backwards : Way) (lists : List (List ℕ)) : Type 0 where
  pub runs : (l : ℕ) → Runs (next_of forwards l) (next_of backwards l) None (slice_index_or lists l []) None
  pub begins : length forwards.begins ≡ length lists
  pub ends : length backwards.begins ≡ length lists
