use Rattle.std.proofs.Common.{◌≡◌, ◌≤◌, ◌<◌, nat_le, ap, sym, ◌∙◌, arith}
use Rattle.sv_plain.specs.Names.{references_of}
use Rattle.sv_plain.proofs.LastHolder.{last-one, last-of_more}
use Rattle.sv_plain.proofs.fs.Fs.is_last_reference.Goals as goal

pub returns-then-references_of-gt1 : goal.returns-then-references_of-gt1
returns-then-references_of-gt1 c =
    let many : 1 < references_of c.args.self.now c.args.process c.args.i = omega (arith, c.references_of.ensures) in
    last-of_more c.args.self.now c.args.process c.args.i c.requires many

pub returns : goal.returns
returns c =
    let few : references_of c.args.self.now c.args.process c.args.i ≤ 1 = omega (arith, c.references_of.ensures) in
    ap (λ h. nat_le h 1) c.holder_count.ensures ∙ last-one c.args.self.now c.args.process c.args.i c.requires few
