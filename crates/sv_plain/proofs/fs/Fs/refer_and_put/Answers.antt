use Rattle.std.proofs.Common.{ap, ◌∙◌}
use Rattle.sv_plain.specs.Fs.{Fs}
use Rattle.sv_plain.specs.Names.{has_reference}
use Rattle.sv_plain.specs.Change.{without_reference}
use Rattle.sv_plain.proofs.FirstReferences.{one-there, one-taken_back}
use Rattle.sv_plain.proofs.fs.Fs.refer_and_put.Goals as goal

pub remove_reference-requires-clause-there : goal.remove_reference-requires-clause-there
remove_reference-requires-clause-there c =
    ap (λ (fs : Fs). has_reference fs c.args.process c.args.i) (c.in_default.ensures.refused ∙ c.in_ok-add_reference.ensures.added) ∙ one-there c.args.self.now c.args.process c.args.i c.requires.first

pub returns-in_default-clause-refused : goal.returns-in_default-clause-refused
returns-in_default-clause-refused c =
    c.remove_reference.ensures
    ∙ ap (λ (fs : Fs). without_reference fs c.args.process c.args.i) (c.in_default.ensures.refused ∙ c.in_ok-add_reference.ensures.added)
    ∙ one-taken_back c.args.self.now c.args.process c.args.i c.requires.first
