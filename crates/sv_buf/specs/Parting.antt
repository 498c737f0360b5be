-- How a view is cut in two.
use Rattle.std.specs.Prelude.{◌≡◌, ◌+◌, ◌<◌, ◌++◌, ◌||◌, [], None}
use Rattle.std.specs.List.Sorted.{IsPermutation}
use Rattle.sv_buf.specs.View.{View, weight}

-- Lines and faults are divided, and what is lent stays with the first part. Nothing is in transfer.
pub record IsCut (v a b : View) : Type 0 where
  pub opening : (a.opening ≡ v.opening) × (b.opening ≡ v.opening)
  pub lines : IsPermutation v.lines (a.lines ++ b.lines)
  pub loans : (a.loans ≡ v.loans) × (b.loans ≡ [])
  pub moving : (v.moving ≡ None) × (a.moving ≡ None) × (b.moving ≡ None)
  pub device : (v.device ≡ None) × (a.device ≡ None) × (b.device ≡ None)
  pub faults : v.faults ≡ a.faults + b.faults
  pub forced : v.forced ≡ (a.forced || b.forced)
  pub workers : v.workers ≡ a.workers + b.workers
  pub some : (0 < weight a) × (0 < weight b)
