-- Sets of blocks that grow.
use Rattle.std.specs.Prelude.{ℕ, List, [], ◌∷◌}
use Rattle.std.specs.FinSet as set
use Rattle.sv_form.specs.Pair.{pair_cmp}

-- the set with these blocks besides
abbrev pub with_blocks : set.FinSet pair_cmp → List (ℕ × ℕ) → set.FinSet pair_cmp
with_blocks s [] = s
with_blocks s (b ∷ bs) = with_blocks (set.insert s b) bs
