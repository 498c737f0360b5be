-- How processes begin, and what they have of the files then.
use Rattle.std.specs.Prelude.{◌≡◌, ◌+◌, ◌++◌, ◌==◌, ℕ, zero, suc, List, [], ◌∷◌, if◌then◌else◌}
use Rattle.sv_check.specs.Loaded.{loaded}
use Rattle.sv_files.specs.View.{View, Mount, Proc, Seen}

-- A process begins with two references to the root, for its current directory and for itself. Process 0, which purges at the end, has
-- none.
abbrev pub first_proc : ℕ → Proc
first_proc q = record { process = q; references = if q == 0 then [] else 2 ∷ 2 ∷ []; faults = 0; entries = [] }

-- so many processes from q on, and last process 0
abbrev pub first_procs : ℕ → ℕ → List Proc
first_procs q zero = first_proc 0 ∷ []
first_procs q (suc n) = first_proc q ∷ first_procs (q + 1) n

-- what all passes have in common, where an image was mounted for so many processes with a table of so many places
abbrev pub mount_of : List ℕ → Seen → ℕ → ℕ → Mount
mount_of image whole processes places = record {
  tree = loaded image;
  processes = processes;
  places = places;
  origin = whole.origin;
  forced = whole.forced;
}

-- the view of the one pass that stands for all of them
abbrev pub first_of : Mount → View
first_of m = record { mount = m; procs = first_procs 1 m.processes; locks = [] }

-- the first of some processes, and the others
abbrev pub first_one : List Proc → List Proc
first_one [] = []
first_one (p ∷ ps) = p ∷ []

abbrev pub other_ones : List Proc → List Proc
other_ones [] = []
other_ones (p ∷ ps) = ps

-- Each element is as `first` says of its process: so many processes from q on, and last process 0.
abbrev pub AreFirst : {P : Type 0} → (ℕ → P → Type 0) → ℕ → ℕ → List P → Type 0
AreFirst first q n [] = ⊥
AreFirst first q zero (p ∷ ps) = first 0 p × (ps ≡ [])
AreFirst first q (suc n) (p ∷ ps) = first q p × AreFirst first (q + 1) n ps

-- such elements were added at the end
pub record AreAdded {P : Type 0} (first : ℕ → P → Type 0) (q n : ℕ) (old new : List P) : Type 0 where
  pub added : List P
  pub is : new ≡ old ++ added
  pub are : AreFirst first q n added
