-- How far the chain was followed.
use Rattle.std.specs.Prelude.{◌≡◌, ◌++◌, ◌||◌, ℕ, Bool, true, false, List, Some, map, drop, flat_map, slice_index_or}
use Rattle.sv_form.specs.declared.geometry.Geometry.{Geometry}
use Rattle.sv_check.specs.Chain.{Chained, number, chained_number, first_broken, link_of}
use Rattle.sv_check.specs.Walk.{is_among}

-- whether a block was met, from the flags of all
abbrev pub met_in : List Bool → ℕ → Bool
met_in met b = slice_index_or met b false

-- the numbers of a list as the chain meets them: a link of 0 is passed over
abbrev pub met_of_list : List ℕ → List Chained
met_of_list numbers = map number (link_of numbers ++ drop 1 numbers)

-- the numbers in a part of the chain
abbrev pub numbers_of : List Chained → List ℕ
numbers_of part = flat_map chained_number part

-- the blocks that were met, with these
abbrev pub with_each : (ℕ → Bool) → List ℕ → ℕ → Bool
with_each before numbers b = before b || is_among numbers b

-- the chain went on over a part of it, or stopped there at this number, which is the first bad one
abbrev pub Follows : Geometry → List ℕ → (ℕ → Bool) → List Chained → Bool → ℕ → (ℕ → Bool) → Type 0
Follows g image before part true bad now = (rest : List Chained) → first_broken g image before (part ++ rest)
    ≡ first_broken g image now rest
Follows g image before part false bad now = (rest : List Chained) → first_broken g image before (part ++ rest) ≡ Some bad
