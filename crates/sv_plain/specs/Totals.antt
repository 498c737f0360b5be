-- Sums over the entries of a finite map.
use Rattle.std.specs.Prelude.{ℕ, Bool, Option, Some, None, if◌then◌else◌}
use Rattle.std.specs.declared.cmp.Ordering.{Ordering}
use Rattle.std.specs.List.{sum_by}
use Rattle.std.specs.FinMap as map

-- the sum of f over all entries
unfoldable pub total : {K X : Type 0} {R : K → K → Ordering} → (K → X → ℕ) → map.FinMap R X → ℕ
total f m = sum_by (λ e. f e.0 e.1) (map.entries m)

-- f of what is there, and 0 where nothing is
abbrev pub at_or_0 : {X : Type 0} → (X → ℕ) → Option X → ℕ
at_or_0 f None = 0
at_or_0 f (Some x) = f x

-- a test, counted
abbrev pub one_if : Bool → ℕ
one_if b = if b then 1 else 0
