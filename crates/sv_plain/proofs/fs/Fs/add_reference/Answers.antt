use Rattle.std.proofs.Common.{◌≡◌, ◌≤◌, Some, None, ap, sym, ◌∙◌}
use Rattle.std.specs.FinMap as map
use Rattle.sv_form.specs.Pair.{pair_cmp_total, pair_cmp-IsAntisymmetric}
use Rattle.sv_plain.specs.Fs.{Fs}
use Rattle.sv_plain.specs.Keeping.{fs_of}
use Rattle.sv_plain.proofs.Undone.{remove-insert}
use Rattle.sv_plain.proofs.KeptHolders.{kept-reference-new, kept-reference-known}
use Rattle.sv_plain.proofs.fs.Fs.add_reference.Goals as goal

pub invariant_of-self-in-Some : goal.invariant_of-self-in-Some
invariant_of-self-in-Some c =
    let there : map.get c.self.inside.references (c.args.process, c.args.i) ≡ Some c.in-Some.count = cc in
    let within : c.args.i ≤ c.self.inside.inodes = rw (ap (λ (fs : Fs). fs.inodes) c.self.view_is) c.requires in
    rw (c.in_ok-insert.ensures.put, c.from-first.ensures, c.from-second.ensures)
    (kept-reference-known c.self.inside c.args.process c.args.i within c.self.invariant _ c.in-Some.count there)

pub invariant_of-self-in-Ok : goal.invariant_of-self-in-Ok
invariant_of-self-in-Ok c =
    let none : map.get c.self.inside.references (c.args.process, c.args.i) ≡ None = cc in
    let within : c.args.i ≤ c.self.inside.inodes = rw (ap (λ (fs : Fs). fs.inodes) c.self.view_is) c.requires in
    rw (c.in_ok-insert-2.ensures.put, c.from-first.ensures, c.from-second.ensures, c.in-Ok.ensures.added)
    (kept-reference-new c.self.inside c.args.process c.args.i within c.self.invariant 1 none)

pub invariant_of-self-in_default-add : goal.invariant_of-self-in_default-add
invariant_of-self-in_default-add c =
    let a = c.self.inside in
    let none : map.get a.references (c.from-first.result, c.from-second.result) ≡ None = cc in
    let references : c.remove.new.self ≡ a.references =
    c.remove.ensures ∙ (λ i. map.remove (c.in_ok-insert-2.ensures.put i) (c.from-first.result, c.from-second.result))
    ∙ remove-insert pair_cmp_total pair_cmp-IsAntisymmetric a.references (c.from-first.result, c.from-second.result) 1 none in
    rw (references, c.in_default-add.ensures.refused) c.self.invariant

pub returns-in_default-add-clause-refused : goal.returns-in_default-add-clause-refused
returns-in_default-add-clause-refused c =
    let a = c.self.inside in
    let none : map.get a.references (c.from-first.result, c.from-second.result) ≡ None = cc in
    let references : c.remove.new.self ≡ a.references =
    c.remove.ensures ∙ (λ i. map.remove (c.in_ok-insert-2.ensures.put i) (c.from-first.result, c.from-second.result))
    ∙ remove-insert pair_cmp_total pair_cmp-IsAntisymmetric a.references (c.from-first.result, c.from-second.result) 1 none in
    ap (λ references. record (fs_of a) { references = references }) references ∙ c.self.view_is
