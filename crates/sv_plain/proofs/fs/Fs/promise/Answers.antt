use Rattle.std.proofs.Common.{◌≡◌, ap, arith, ◌∙◌, sym}
use Rattle.std.specs.FinMap as map
use Rattle.sv_plain.specs.Fs.{Fs}
use Rattle.sv_plain.specs.Totals.{at_or_0}
use Rattle.sv_plain.specs.Names.{promise_of}
use Rattle.sv_plain.proofs.KeptPromises.{promise-within, kept-promise}
use Rattle.sv_plain.proofs.fs.Fs.promise.Goals as goal

pub overflow_sub-others : goal.overflow_sub-others
overflow_sub-others c =
    let had : at_or_0 (λ m. m) (map.get c.self.inside.promises c.args.process) ≡ promise_of c.args.self.now c.args.process = ap (λ (fs : Fs). promise_of fs c.args.process) c.self.view_is in
    omega (arith, promise-within c.self.inside c.args.process c.self.invariant, had)

pub invariant_of-self-2 : goal.invariant_of-self-2
invariant_of-self-2 c =
    let had : at_or_0 (λ m. m) (map.get c.self.inside.promises c.args.process) ≡ c.from.result = ap (λ (fs : Fs). promise_of fs c.args.process) c.self.view_is ∙ sym c.promise_of.ensures ∙ sym c.from.ensures in
    let blocks : c.args.blocks ≡ c.from-4.result = sym c.from-4.ensures in
    rw (c.in_ok-insert.ensures.put, c.from-3.ensures, ← had, c.from-4.ensures) (kept-promise c.self.inside c.args.process c.self.invariant c.args.blocks)
