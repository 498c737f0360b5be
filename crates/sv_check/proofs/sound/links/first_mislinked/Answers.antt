use Rattle.std.proofs.Common.{◌<◌, ◌∙◌, ◌+◌, sym, arith}
use Rattle.sv_form.specs.Geometry.{inode_count}
use Rattle.sv_check.proofs.ChainMet.{find-here, find-step}
use Rattle.sv_check.proofs.ToldTimes.{is_mislinked, links_first}
use Rattle.sv_check.proofs.sound.links.first_mislinked.Goals as goal

pub loop-n-init : goal.loop-n-init
loop-n-init c = record { first = λ image flags counts told. links_first c.args.sizes.now image }

pub returns-then-is_mislinked : goal.returns-then-is_mislinked
returns-then-is_mislinked c = λ image flags counts told.
    let below : c.loop-n.n < inode_count c.args.sizes.now + 1 = omega (arith, c.loop-n-test.true, c.inode_count-n-end.ensures) in
    sym (find-here (is_mislinked c.args.sizes.now image) (inode_count c.args.sizes.now + 1) c.loop-n.n below (sym (c.if-is_mislinked.ensures image flags counts told)))
    ∙ c.loop-n.invariant.first image flags counts told

pub loop-n-preserved : goal.loop-n-preserved
loop-n-preserved c = record {
  first = λ image flags counts told.
      let below : c.loop-n.n < inode_count c.args.sizes.now + 1 = omega (arith, c.loop-n-test.true, c.inode_count-n-end.ensures) in
      sym (find-step (is_mislinked c.args.sizes.now image) (inode_count c.args.sizes.now + 1) c.loop-n.n below (sym (c.if-is_mislinked.ensures image flags counts told)))
      ∙ c.loop-n.invariant.first image flags counts told;
}
