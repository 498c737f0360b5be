use Rattle.std.proofs.Common.{◌≡◌, true}
use Rattle.std.specs.FinMap as map
use Rattle.sv_plain.specs.Names.{is_idle}
use Rattle.sv_plain.specs.Change.{without_lost}
use Rattle.sv_plain.proofs.fs.Fs.remove_lost.Given as goal

abbrev pub invariant-loop-i : goal.invariant-loop-i
invariant-loop-i l = record {
  idle : is_idle l.self ≡ true;
  same : without_lost l.self ≡ without_lost l.fn.self;
}

abbrev pub decreases-loop-i : goal.decreases-loop-i
decreases-loop-i l = map.len l.self.nodes
