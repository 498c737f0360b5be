use Rattle.std.proofs.Common.{◌+◌, ◌-◌, length, get_or, map}
use Rattle.sv_form.specs.PagePath.{block_numbers}
use Rattle.sv_bmap.specs.Attach.{Keeps}
use Rattle.sv_bmap.specs.Rows.{HasBytes, LeadsFrom}
use Rattle.sv_bmap.proofs.grow.build.Given as goal

abbrev pub invariant-loop-done : goal.invariant-loop-done
invariant-loop-done g l = record {
  keeps : Keeps g.S.Stake.held g.S.Stake.lent g.S.Stake.origin g.S.Stake.forced g.S.Stake.faults l.fn.parts.items l.parts.items;
  last : HasBytes (g.S.Stake.origin l.fn.s) (map g.S.Stake.held l.parts.items) (length l.blocks - 1)
      (get_or l.blocks (length l.blocks - 1) 0) l.bytes;
  row : LeadsFrom (length l.blocks - 1 - l.done) (block_numbers (g.S.Stake.origin l.fn.s).sizes) l.places
      (length l.places + 1 - length l.blocks) l.blocks (map g.S.Stake.held l.parts.items);
}
