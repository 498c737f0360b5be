use Rattle.std.proofs.Common.{◌≡◌, ap, arith, ◌∙◌, sym}
use Rattle.std.specs.FinMap as map
use Rattle.sv_plain.specs.Fs.{Fs}
use Rattle.sv_plain.specs.Totals.{at_or_0}
use Rattle.sv_plain.specs.Names.{promise_of}
use Rattle.sv_plain.proofs.KeptPromises.{promise-within, kept-forgone}
use Rattle.sv_plain.proofs.fs.Fs.forgo.Goals as goal

pub overflow_sub-self : goal.overflow_sub-self
overflow_sub-self c =
    let had : at_or_0 (λ m. m) (map.get c.self.inside.promises c.args.process) ≡ promise_of c.args.self.now c.args.process = ap (λ (fs : Fs). promise_of fs c.args.process) c.self.view_is in
    omega (arith, promise-within c.self.inside c.args.process c.self.invariant, had)

pub invariant_of-self : goal.invariant_of-self
invariant_of-self c =
    let had : at_or_0 (λ m. m) (map.get c.self.inside.promises c.args.process) ≡ c.from.result = ap (λ (fs : Fs). promise_of fs c.args.process) c.self.view_is ∙ sym c.promise_of.ensures ∙ sym c.from.ensures in
    rw (c.remove.ensures, c.from-2.ensures, ← had) (kept-forgone c.self.inside c.args.process c.self.invariant)
