use Rattle.std.proofs.Common.{◌≡◌, ◌≤◌, ◌*◌}
use Rattle.std.specs.List.{range_with_len}
use Rattle.sv_form.specs.Node.{numbers_per}
use Rattle.sv_plain.specs.Missing.{node_blocks, added}
use Rattle.sv_plain.proofs.fs.Fs.pages_need_within.Given as goal

abbrev pub invariant-loop-k : goal.invariant-loop-k
invariant-loop-k l = record {
  need : l.need ≡ added (node_blocks l.self l.i) (numbers_per l.self.block) (range_with_len l.first l.k);
  few : l.need ≤ 4 * l.k;
  room : l.need ≤ l.most;
}
