-- Counts of those that refer to an inode.
use Rattle.std.specs.Prelude.{◌+◌, ◌-◌, ◌==◌, ℕ}
use Rattle.std.specs.FinMap as map
use Rattle.sv_plain.specs.Totals.{at_or_0, one_if}
use Rattle.sv_plain.specs.declared.maps.holder_counts.HolderCounts.{HolderCounts}

abbrev pub held_of : HolderCounts → ℕ → ℕ
held_of h i = at_or_0 (λ n. n) (map.get h.held i)

-- no count, and so many places taken
abbrev pub places_of : ℕ → HolderCounts
places_of n = record { held = map.empty; taken = n }

-- one more for inode i: it takes a place where it is the first
abbrev pub held_more : HolderCounts → ℕ → HolderCounts
held_more h i = record { held = map.insert h.held i (held_of h i + 1); taken = h.taken + one_if (held_of h i == 0) }

-- one less: the place is given back with the last
abbrev pub held_less : HolderCounts → ℕ → HolderCounts
held_less h i = record { held = map.insert h.held i (held_of h i - 1); taken = h.taken - one_if (held_of h i == 1) }
