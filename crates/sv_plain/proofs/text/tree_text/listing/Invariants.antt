use Rattle.std.proofs.Common.{◌≡◌}
use Rattle.std.specs.String.{string_bytes}
use Rattle.std.specs.List.{range_with_len, flat_map}
use Rattle.std.specs.FinMap as map
use Rattle.sv_plain.specs.Listing.{line_at}
use Rattle.sv_plain.proofs.text.tree_text.listing.Given as goal

abbrev pub invariant-loop-i : goal.invariant-loop-i
invariant-loop-i l = string_bytes l.text ≡ flat_map (λ i. line_at i (map.get l.fs.nodes i)) (range_with_len 0 l.i)
