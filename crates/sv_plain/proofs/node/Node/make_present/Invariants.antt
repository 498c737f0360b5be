use Rattle.std.proofs.Common.{◌≡◌}
use Rattle.std.specs.List.{range_with_len}
use Rattle.std.specs.FinMap as map
use Rattle.sv_form.specs.Node.{block_set}
use Rattle.sv_plain.specs.Written.{all_present}
use Rattle.sv_plain.proofs.node.Node.make_present.Given as goal

abbrev pub invariant-loop-k : goal.invariant-loop-k
invariant-loop-k l = record {
  node : l.self ≡ record l.initial.self { pages = all_present l.initial.self.pages (range_with_len l.first l.k) };
  mine : l.blocks ≡ block_set l.per (map.keys l.self.pages);
}
