-- The bytes of a page, with others put over them.
use Rattle.std.specs.Prelude.{◌+◌, ◌-◌, ◌&&◌, ℕ, List, nat_le, nat_lt, slice_index, if◌then◌else◌}

-- byte r of a page that begins at byte `first`, once n of these bytes were put at `at`
abbrev pub over : List ℕ → ℕ → ℕ → List ℕ → ℕ → ℕ → ℕ
over old first at bytes n r =
    if nat_le at (first + r) && nat_lt (first + r) (at + n) then slice_index bytes (first + r - at)
    else slice_index old r
