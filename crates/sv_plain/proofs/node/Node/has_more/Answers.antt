use Rattle.std.proofs.Common.{◌≡◌, ◌==◌, ◌<◌, ◌-◌, not, true, false, sym, ◌∙◌, ap, arith}
use Rattle.std.proofs.lemmas.Bool.Decides.{nat_tests}
use Rattle.sv_form.specs.Node.{entry_inode, entry_count}
use Rattle.sv_plain.specs.Names.{has_more}
use Rattle.sv_plain.proofs.Places.{some_from, none_from}
use Rattle.sv_plain.proofs.node.Node.has_more.Goals as goal

pub returns-then-inode_near-ne0 : goal.returns-then-inode_near-ne0
unfolding has_more
returns-then-inode_near-ne0 c =
    let here : not (entry_inode c.args.block c.args.self.now c.loop-j.j == 0) ≡ true = grind (arith, nat_tests, c.inode_near.ensures, c.if-inode_near-ne0.true) in
    sym (some_from (λ k. not (entry_inode c.args.block c.args.self.now k == 0)) c.loop-j.j 2 (entry_count c.args.self.now - 2) (omega arith) (omega arith) here)

pub returns : goal.returns
unfolding has_more
returns c = sym (none_from (λ k. not (entry_inode c.args.block c.args.self.now k == 0)) 2 (entry_count c.args.self.now - 2) (λ k low high. ap not (c.loop-j.invariant.none k low (omega arith))))
