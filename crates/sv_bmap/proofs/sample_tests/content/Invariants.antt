use Rattle.std.proofs.Common.{◌≡◌, map}
use Rattle.std.specs.List.{range_with_len}
use Rattle.sv_bmap.specs.Sample.{sample_bytes}
use Rattle.sv_bmap.proofs.sample_tests.content.Given as goal

abbrev pub invariant-loop-block : goal.invariant-loop-block
invariant-loop-block l = record {
  blocks : map (λ bytes. bytes.items) l.blocks.items ≡ map sample_bytes (range_with_len 0 l.block);
}
