use Rattle.std.proofs.Common.{ap, sym, subst, ◌∙◌, ◌+◌, arith}
use Rattle.std.specs.FinMap as map
use Rattle.sv_plain.specs.Fs.{Fs}
use Rattle.sv_plain.specs.Whole.{IsWhole}
use Rattle.sv_plain.proofs.FirstReferences.{none_yet}
use Rattle.sv_plain.proofs.BegunWhole.{begun-whole}
use Rattle.sv_plain.proofs.beginning.begin.Goals as goal

pub add_first_references-requires-clause-none : goal.add_first_references-requires-clause-none
add_first_references-requires-clause-none c =
    ap (λ (fs : Fs). map.get fs.references (c.loop-k.k + 1, 2)) c.loop-k.invariant ∙ none_yet c.loop-k.k (c.loop-k.k + 1) (omega arith)

pub returns-clause-whole : goal.returns-clause-whole
returns-clause-whole c =
    subst IsWhole (sym c.loop-k.invariant)
    (begun-whole c.args.fs.now c.loop-k.k c.args.table c.requires.whole c.requires.references c.requires.files c.requires.promises c.requires.pending c.requires.some)
