use Rattle.std.proofs.Common.{◌∙◌, arith}
use Rattle.sv_dir.proofs.PathLemmas.{skip_slash}
use Rattle.sv_dir.proofs.path.after_slashes.Goals as goal

pub loop-i-preserved : goal.loop-i-preserved
loop-i-preserved c = skip_slash c.args.path.now c.loop-i.i (omega arith) c.if-b-ne47.false ∙ c.loop-i.invariant
