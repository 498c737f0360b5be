use Rattle.std.proofs.Common.{◌∙◌, ◌≤◌, ℕ, List, subst, sym, ap, refl, arith}
use Rattle.sv_form.specs.Geometry.{inode_count}
use Rattle.sv_check.specs.declared.pages.Directory.{Directory}
use Rattle.sv_check.specs.declared.sound.standings.Standing.{Standing}
use Rattle.sv_check.specs.Pages.{is_in_order}
use Rattle.sv_check.specs.Standings.{after, standing_of, told_in}
use Rattle.sv_check.proofs.EntryFlaws.{ahead_first, ahead_on, listed_below}
use Rattle.sv_check.proofs.EntryTakes.{when_true}
use Rattle.sv_check.proofs.ToldEntries.{told_ahead_first, told_ahead_on}
use Rattle.sv_check.proofs.sound.directories.first_disordered.Goals as goal

pub loop-directory-init : goal.loop-directory-init
loop-directory-init g c = record {
  content = refl;
  faults = omega arith;
  size = c.requires.block;
  len = refl;
  told = told_ahead_first c.args.sizes.now (g.D.Disk.content c.args.disk.now) c.args.kept.now (standing_of c.args.standings.now) c.requires.numbers;
  ahead = ahead_first c.args.sizes.now (g.D.Disk.content c.args.disk.now) c.args.kept.now c.requires.numbers;
}

pub is_in_order-requires-clause-number : goal.is_in_order-requires-clause-number
is_in_order-requires-clause-number g c = λ _ _.
    let below = listed_below c.args.sizes.now (g.D.Disk.content c.args.disk.now) c.args.kept.now c.requires.numbers c.loop-directory.directory-index c.directory-item.result c.loop-directory-test.true in
    subst (λ (d : Directory). d.inode ≤ inode_count c.args.sizes.now) (sym c.directory-item.is) below

pub loop-directory-preserved : goal.loop-directory-preserved
loop-directory-preserved g c =
    let image : List ℕ = g.D.Disk.content c.args.disk.now in
    let kept : List Directory = c.args.kept.now in
    let item : Directory = c.directory-item.result in
    let was : ℕ → Standing = standing_of c.loop-directory.standings in
    record {
      content = c.in_ok-is_in_order.ensures.content ∙ c.loop-directory.invariant.content;
      faults = omega (arith, c.in_ok-is_in_order.ensures.faults, c.loop-directory.invariant.faults);
      size = c.in_ok-is_in_order.ensures.size;
      len = c.in_ok-is_in_order.ensures.len ∙ c.loop-directory.invariant.len;
      told = told_ahead_on c.args.sizes.now image kept (standing_of c.args.standings.now) c.loop-directory.directory-index was (standing_of c.is_in_order.new.standings) item c.loop-directory-test.true
          c.loop-directory.invariant.told
          (when_true c.in_ok-is_in_order.field-0 c.if-not-branch.false c.in_ok-is_in_order.ensures.told
          ∙ ap (λ (im : List ℕ). after was (told_in c.args.sizes.now im item.inode)) c.loop-directory.invariant.content
          ∙ ap (λ (d : Directory). after was (told_in c.args.sizes.now image d.inode)) c.directory-item.is);
      ahead = ahead_on c.args.sizes.now image kept c.loop-directory.directory-index item c.loop-directory-test.true c.loop-directory.invariant.ahead
          (sym c.if-not-branch.false ∙ c.in_ok-is_in_order.ensures.order ∙ ap (λ (im : List ℕ). is_in_order c.args.sizes.now im item.inode) c.loop-directory.invariant.content
          ∙ ap (λ (d : Directory). is_in_order c.args.sizes.now image d.inode) c.directory-item.is);
    }
