use Rattle.std.proofs.Common.{◌≡◌, None, ap, ◌∙◌}
use Rattle.std.specs.Cmp.{nat_cmp_total}
use Rattle.std.specs.FinMap as map
use Rattle.std.specs.FinMap.{nat_cmp-IsAntisymmetric}
use Rattle.sv_plain.specs.Fs.{Fs}
use Rattle.sv_plain.specs.Keeping.{fs_of}
use Rattle.sv_plain.proofs.Undone.{remove-insert}
use Rattle.sv_plain.proofs.KeptHolders.{kept-file-new}
use Rattle.sv_plain.proofs.fs.Fs.add_file.Goals as goal

pub invariant_of-self-in-Ok : goal.invariant_of-self-in-Ok
invariant_of-self-in-Ok c =
    let a = c.self.inside in
    let absent : map.get a.files c.args.n ≡ None = ap (λ (fs : Fs). map.get fs.files c.args.n) c.self.view_is ∙ c.requires.absent in
    rw (c.in_ok-insert.ensures.put, c.from-key.ensures, c.in-Ok.ensures.added)
    (kept-file-new a c.args.n c.self.invariant c.args.file (rw (ap (λ (fs : Fs). fs.inodes) c.self.view_is) c.requires.within) absent)

pub invariant_of-self-in_default : goal.invariant_of-self-in_default
invariant_of-self-in_default c =
    let a = c.self.inside in
    let absent : map.get a.files c.args.n ≡ None = ap (λ (fs : Fs). map.get fs.files c.args.n) c.self.view_is ∙ c.requires.absent in
    let files : c.remove.new.self ≡ a.files =
    c.remove.ensures ∙ (λ i. map.remove (c.in_ok-insert.ensures.put i) c.from-key.result)
    ∙ remove-insert nat_cmp_total nat_cmp-IsAntisymmetric a.files c.from-key.result c.args.file (ap (map.get a.files) c.from-key.ensures ∙ absent) in
    rw (files, c.in_default.ensures.refused) c.self.invariant

pub returns-in_default-clause-refused : goal.returns-in_default-clause-refused
returns-in_default-clause-refused c =
    let a = c.self.inside in
    let absent : map.get a.files c.args.n ≡ None = ap (λ (fs : Fs). map.get fs.files c.args.n) c.self.view_is ∙ c.requires.absent in
    let files : c.remove.new.self ≡ a.files =
    c.remove.ensures ∙ (λ i. map.remove (c.in_ok-insert.ensures.put i) c.from-key.result)
    ∙ remove-insert nat_cmp_total nat_cmp-IsAntisymmetric a.files c.from-key.result c.args.file (ap (map.get a.files) c.from-key.ensures ∙ absent) in
    ap (λ files. record (fs_of a) { files = files }) files ∙ c.self.view_is
