use Rattle.std.proofs.Common.{◌≡◌, ◌≤◌, ◌-◌, ◌+◌, Some, ap, sym, ◌∙◌, subst, arith}
use Rattle.std.specs.FinMap as map
use Rattle.sv_plain.specs.Fs.{Fs}
use Rattle.sv_plain.specs.Totals.{at_or_0}
use Rattle.sv_plain.specs.Keeping.{IsKept}
use Rattle.sv_plain.proofs.KeptPromises.{promise-within, kept-promise}
use Rattle.sv_plain.proofs.fs.Fs.spend.Goals as goal

pub overflow_sub-self : goal.overflow_sub-self
overflow_sub-self c =
    let there : map.get c.self.inside.promises c.args.process ≡ Some c.in-Some.had = cc in
    let had : at_or_0 (λ m. m) (map.get c.self.inside.promises c.args.process) ≡ c.in-Some.had = ap (at_or_0 (λ m. m)) there in
    omega (arith, promise-within c.self.inside c.args.process c.self.invariant, had, c.from.ensures)

pub invariant_of-self : goal.invariant_of-self
invariant_of-self c =
    let a = c.self.inside in
    let there : map.get a.promises c.args.process ≡ Some c.in-Some.had = cc in
    let had : at_or_0 (λ m. m) (map.get a.promises c.args.process) ≡ c.in-Some.had = ap (at_or_0 (λ m. m)) there in
    let sum : a.promised - at_or_0 (λ m. m) (map.get a.promises c.args.process) + c.saturating_sub-left.result ≡ a.promised - c.from.result =
    omega (arith, promise-within a c.args.process c.self.invariant, had, c.from.ensures) in
    rw (c.in-Ok.ensures.put, c.from-key.ensures, ← sum) (kept-promise a c.args.process c.self.invariant c.saturating_sub-left.result)
