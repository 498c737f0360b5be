use Rattle.std.proofs.Common.{◌≡◌, ◌*◌, map}
use Rattle.std.specs.List.{range_with_len}
use Rattle.sv_form.specs.Number.{number32}
use Rattle.sv_bmap.proofs.numbers.numbers_in.Given as goal

abbrev pub invariant-loop-k : goal.invariant-loop-k
invariant-loop-k l = record { numbers : l.numbers.items ≡ map (λ k. number32 l.bytes (k * 4)) (range_with_len 0 l.k) }
