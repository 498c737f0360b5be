use Rattle.std.proofs.Common.{ap, ◌∙◌}
use Rattle.sv_plain.specs.Fs.{Fs}
use Rattle.sv_plain.proofs.FirstReferences.{kept-forgotten}
use Rattle.sv_plain.proofs.fs.Fs.forget_references.Goals as goal

pub invariant_of-self : goal.invariant_of-self
invariant_of-self c = rw (c.new.ensures, c.new-2.ensures) (kept-forgotten c.self.inside (ap (λ (fs : Fs). fs.files) c.self.view_is ∙ c.requires) c.self.invariant)
