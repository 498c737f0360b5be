use Rattle.std.proofs.Common.{◌≡◌, ◌≤◌, ◌<◌, nat_le, ap, sym, ◌∙◌, arith}
use Rattle.sv_plain.specs.Names.{links_of}
use Rattle.sv_plain.proofs.LastHolder.{closes-last, closes-shared}
use Rattle.sv_plain.proofs.fs.Fs.closes_last.Goals as goal

pub returns-then-opening-gt1 : goal.returns-then-opening-gt1
returns-then-opening-gt1 c = closes-shared c.args.self.now c.args.file c.args.opening.now c.requires c.if-opening-gt1.true

pub returns : goal.returns
returns c =
    let none : links_of c.args.self.now c.args.opening.now.inode ≡ 0 = omega (arith, c.links_of.ensures) in
    ap (λ h. nat_le h 1) c.holder_count.ensures ∙ closes-last c.args.self.now c.args.file c.args.opening.now c.requires (omega arith) none
