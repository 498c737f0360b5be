use Rattle.std.proofs.Common.{◌≡◌, ◌≤◌, Some, ap, sym, ◌∙◌}
use Rattle.std.specs.FinMap as map
use Rattle.sv_plain.specs.Fs.{Fs}
use Rattle.sv_plain.proofs.KeptHolders.{reference-held, kept-reference-gone, kept-reference-known}
use Rattle.sv_plain.proofs.fs.Fs.remove_reference.Goals as goal

pub remove-requires-then-count-le1-clause-held : goal.remove-requires-then-count-le1-clause-held
remove-requires-then-count-le1-clause-held c =
    let there : map.get c.self.inside.references (c.args.process, c.args.i) ≡ Some c.in-Some.count = cc in
    let within : c.args.i ≤ c.self.inside.inodes = rw (ap (λ (fs : Fs). fs.inodes) c.self.view_is) c.requires.within in
    (reference-held c.self.inside c.args.process c.args.i within c.self.invariant c.in-Some.count there).0

pub remove-requires-then-count-le1-clause-taken : goal.remove-requires-then-count-le1-clause-taken
remove-requires-then-count-le1-clause-taken c =
    let there : map.get c.self.inside.references (c.args.process, c.args.i) ≡ Some c.in-Some.count = cc in
    let within : c.args.i ≤ c.self.inside.inodes = rw (ap (λ (fs : Fs). fs.inodes) c.self.view_is) c.requires.within in
    (reference-held c.self.inside c.args.process c.args.i within c.self.invariant c.in-Some.count there).1

pub invariant_of-self : goal.invariant_of-self
invariant_of-self c =
    let there : map.get c.self.inside.references (c.args.process, c.args.i) ≡ Some c.in-Some.count = cc in
    let within : c.args.i ≤ c.self.inside.inodes = rw (ap (λ (fs : Fs). fs.inodes) c.self.view_is) c.requires.within in
    rw (c.remove.ensures, c.from-first.ensures, c.from-second.ensures, c.remove-then-count-le1.ensures)
    (kept-reference-gone c.self.inside c.args.process c.args.i within c.self.invariant c.in-Some.count there)

pub invariant_of-self-2 : goal.invariant_of-self-2
invariant_of-self-2 c =
    let there : map.get c.self.inside.references (c.args.process, c.args.i) ≡ Some c.in-Some.count = cc in
    let within : c.args.i ≤ c.self.inside.inodes = rw (ap (λ (fs : Fs). fs.inodes) c.self.view_is) c.requires.within in
    rw (c.in-Ok.ensures.put, c.from-first.ensures, c.from-second.ensures)
    (kept-reference-known c.self.inside c.args.process c.args.i within c.self.invariant _ c.in-Some.count there)
