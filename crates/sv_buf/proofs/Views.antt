-- Sums over views.
use Rattle.std.proofs.Common.{◌≤◌, ℕ, List, get_or}
use Rattle.std.specs.List.{sum_by, All}
use Rattle.std.proofs.lemmas.List.Sums.{get_or-le-sum_by}
use Rattle.sv_buf.specs.View.{View}

-- f of the first is no more than f of all, and so for each
pub All-each : (P Q : View → Type 0) (us : List View) → ((u : View) → ((f : View → ℕ) → f u ≤ sum_by f us) → P u → Q u) → All P us
    → All Q us
All-each P Q us step all = λ k d below. step (get_or us k d) (λ f. get_or-le-sum_by f us k d below) (all k d below)
