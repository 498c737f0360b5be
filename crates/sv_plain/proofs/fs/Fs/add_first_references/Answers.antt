use Rattle.std.proofs.Common.{ap, ◌∙◌}
use Rattle.sv_plain.specs.Fs.{Fs}
use Rattle.sv_plain.specs.Names.{has_reference}
use Rattle.sv_plain.specs.Change.{with_reference, without_reference}
use Rattle.sv_plain.proofs.FirstReferences.{two-added, one-there, one-taken_back}
use Rattle.sv_plain.proofs.fs.Fs.add_first_references.Goals as goal

pub remove_reference-requires-clause-there : goal.remove_reference-requires-clause-there
remove_reference-requires-clause-there c =
    ap (λ (fs : Fs). has_reference fs c.args.process 2) (c.in_default.ensures.refused ∙ c.in_ok-add_reference.ensures.added) ∙ one-there c.args.self.now c.args.process 2 c.requires.none

pub returns-in_default-clause-refused : goal.returns-in_default-clause-refused
returns-in_default-clause-refused c =
    c.remove_reference.ensures
    ∙ ap (λ (fs : Fs). without_reference fs c.args.process 2) (c.in_default.ensures.refused ∙ c.in_ok-add_reference.ensures.added)
    ∙ one-taken_back c.args.self.now c.args.process 2 c.requires.none

pub returns-clause-added : goal.returns-clause-added
returns-clause-added c =
    c.in-Ok.ensures.added
    ∙ ap (λ (fs : Fs). with_reference fs c.args.process 2) c.in_ok-add_reference.ensures.added
    ∙ two-added c.args.self.now c.args.process 2 c.requires.none
