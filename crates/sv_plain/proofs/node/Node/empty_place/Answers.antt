use Rattle.std.proofs.Common.{◌≡◌, ◌==◌, ◌<◌, true, sym, ◌∙◌, ap, arith, eq-eqb}
use Rattle.sv_form.specs.Node.{entry_inode, entry_count}
use Rattle.sv_plain.specs.Names.{empty_place}
use Rattle.sv_plain.proofs.Places.{first_place, no_place}
use Rattle.sv_plain.proofs.node.Node.empty_place.Goals as goal

pub returns-then-inode_near-eq0 : goal.returns-then-inode_near-eq0
unfolding empty_place
returns-then-inode_near-eq0 c =
    let within : c.loop-j.j < entry_count c.args.self.now = omega arith in
    sym (first_place (λ k. entry_inode c.args.block c.args.self.now k == 0) (entry_count c.args.self.now) c.loop-j.j within c.loop-j.invariant.none (eq-eqb _ 0 (sym c.inode_near.ensures ∙ c.if-inode_near-eq0.true)))

pub returns : goal.returns
unfolding empty_place
returns c = sym (no_place (λ k. entry_inode c.args.block c.args.self.now k == 0) (entry_count c.args.self.now) (λ k h. c.loop-j.invariant.none k (omega arith)))
