use Rattle.std.proofs.Common.{◌≡◌, ◌∙◌, ◌+◌, ℕ, List, refl, ap, arith}
use Rattle.sv_form.specs.declared.place.Place.{Place}
use Rattle.sv_form.specs.Geometry.{inode_place}
use Rattle.sv_form.specs.Image.{block_of}
use Rattle.sv_check.proofs.InodeSteps.{listed_more, listed-links, listed-used, listed-kind, listed-size, listed-root}
use Rattle.sv_check.proofs.LineReads.{line_of-is}
use Rattle.sv_check.proofs.inodes.read_inode_list.Goals as goal

pub returns-clause-used : goal.returns-clause-used
returns-clause-used g c = listed-used _ _ c.loop-before.before _ c.loop-before.invariant.listed (omega (arith, c.inode_count-before-end.ensures))

pub returns-clause-links : goal.returns-clause-links
returns-clause-links g c = listed-links _ _ c.loop-before.before _ c.loop-before.invariant.listed (omega (arith, c.inode_count-before-end.ensures))

pub returns-clause-kind : goal.returns-clause-kind
returns-clause-kind g c = listed-kind _ _ c.loop-before.before _ c.loop-before.invariant.listed (omega (arith, c.inode_count-before-end.ensures))

pub returns-clause-size : goal.returns-clause-size
returns-clause-size g c = listed-size _ _ c.loop-before.before _ c.loop-before.invariant.listed (omega (arith, c.inode_count-before-end.ensures))

pub returns-clause-root : goal.returns-clause-root
returns-clause-root g c = listed-root _ _ c.loop-before.before _ c.loop-before.invariant.listed (omega (arith, c.inode_count-before-end.ensures)) c.requires.sizes

pub loop-before-preserved : goal.loop-before-preserved
loop-before-preserved g c =
    let at : Place = inode_place c.args.sizes.now (c.loop-before.before + 1) in
    let block : c.turn_to_inode.new.block ≡ block_of c.args.sizes.now (g.D.Disk.content c.args.disk.now) at.block =
    c.in_ok-turn_to_inode.ensures.block ∙ ap (λ (image : List ℕ). block_of c.args.sizes.now image at.block) c.loop-before.invariant.content in
    record {
      content = c.in_ok-turn_to_inode.ensures.content ∙ c.loop-before.invariant.content;
      faults = omega (arith, c.in_ok-turn_to_inode.ensures.cause.no_less);
      size = c.turn_to_inode.auto.block ∙ c.loop-before.invariant.size;
      block = λ _. block;
      listed = listed_more _ _ c.loop-before.before (c.loop-before.before + 1) _ _ _ refl (line_of-is _ _ at at refl _ block c.from-at.result (c.from-at.ensures ∙ ap (λ (p : Place). p.line) c.inode_place.ensures))
          c.loop-before.invariant.listed c.in_ok-add.ensures.used c.in_ok-add.ensures.links c.in_ok-add.ensures.kind c.in_ok-add.ensures.size c.in_ok-add.ensures.root;
    }
