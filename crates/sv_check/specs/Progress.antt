-- How far the walk has come: what a step of it leaves, and what it means that it went on or stopped.
use Rattle.std.specs.Prelude.{◌≡◌, ◌==◌, ◌||◌, ◌++◌, ℕ, Bool, true, false, not, List, [], ◌∷◌, map, Some, slice_index, if◌then◌else◌}
use Rattle.sv_form.specs.declared.geometry.Geometry.{Geometry}
use Rattle.sv_check.specs.declared.sound.met.Met.{Met}
use Rattle.sv_check.specs.declared.pages.PageBlock.{PageBlock}
use Rattle.sv_check.specs.declared.walk.Walk.{Walk}
use Rattle.sv_check.specs.Pages.{page_at}
use Rattle.sv_check.specs.PastSize.{is_past, has_tail}
use Rattle.sv_check.specs.Walk.{Reached, first_bad}

-- the inode whose each block is, 0 for none; and whether the present inode has a block that lies past the size or is an
-- empty indirect block, and a last page with a tail; and its pages
pub record Progress : Type 0 where
  pub owner : ℕ → ℕ
  pub past : Bool
  pub tail : Bool
  pub pages : List PageBlock

-- what the walk keeps, as its progress
abbrev pub progress_of : Walk → Progress
progress_of w = record { owner = slice_index w.owner.items; past = w.past; tail = w.tail; pages = w.pages.items }

-- the blocks that were met are those with an owner
abbrev pub met_by : (ℕ → ℕ) → ℕ → Bool
met_by owner b = not (owner b == 0)

-- the owners with that of block b
abbrev pub with_owner : (ℕ → ℕ) → ℕ → ℕ → ℕ → ℕ
with_owner owner b n x = if x == b then n else owner x

-- after one block more of inode n, whose size is given
abbrev pub step : Geometry → List ℕ → ℕ → ℕ → Progress → Reached → Progress
step g image n size p r = record {
  owner = with_owner p.owner r.block n;
  past = p.past || is_past g image size r;
  tail = p.tail || has_tail g image size r;
  pages = p.pages ++ page_at r;
}

-- after these blocks
abbrev pub after : Geometry → List ℕ → ℕ → ℕ → Progress → List Reached → Progress
after g image n size p [] = p
after g image n size p (r ∷ rest) = after g image n size (step g image n size p r) rest

-- what the walk meets at these blocks of inode n
abbrev pub met_at : ℕ → List Reached → List Met
met_at n list = map (λ r. record { inode = n; block = r.block }) list

-- all these blocks were new, and the walk goes on after them
pub record GoesOn (g : Geometry) (image : List ℕ) (n size : ℕ) (p : Progress) (list : List Reached) (q : Progress) : Type 0 where
  pub after : q ≡ after g image n size p list
  pub rest : (rest : List Met) → first_bad g (met_by p.owner) (met_at n list ++ rest) ≡ first_bad g (met_by q.owner) rest

-- one of these blocks was the first bad number of the walk
pub record StopsAt (g : Geometry) (n : ℕ) (p : Progress) (list : List Reached) (bad : ℕ) : Type 0 where
  pub rest : (rest : List Met) → first_bad g (met_by p.owner) (met_at n list ++ rest) ≡ Some (record { inode = n; block = bad })

-- from p on, the walk over these blocks of inode n went on and came to q, or stopped at a bad number
abbrev pub Walks : Geometry → List ℕ → ℕ → ℕ → Progress → List Reached → Bool → ℕ → Progress → Type 0
Walks g image n size p list true bad q = GoesOn g image n size p list q
Walks g image n size p list false bad q = StopsAt g n p list bad
