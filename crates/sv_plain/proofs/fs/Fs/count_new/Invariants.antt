use Rattle.std.proofs.Common.{◌≡◌, ◌≤◌, ◌+◌, drop}
use Rattle.std.specs.List.{count_by}
use Rattle.sv_plain.specs.Missing.{node_blocks, is_new}
use Rattle.sv_plain.proofs.fs.Fs.count_new.Given as goal

abbrev pub invariant-loop-block : goal.invariant-loop-block
invariant-loop-block l = record {
  count : l.count + count_by (is_new (node_blocks l.self l.i) l.others) (drop l.block-index l.blocks) ≡ count_by (is_new (node_blocks l.self l.i) l.others) l.blocks;
  few : l.count ≤ l.block-index;
}
