use Rattle.std.proofs.Common.{◌≡◌, ◌<◌, ◌+◌, ◌∙◌, sym, ap, arith, refl, not, map, true, false, ℕ, List, length, slice_index}
use Rattle.std.proofs.lemmas.List.{append-nil, length-replicate}
use Rattle.sv_form.specs.declared.place.Place.{Place}
use Rattle.sv_form.specs.Geometry.{inode_place, inode_count}
use Rattle.sv_form.specs.Image.{block_of, inode_of}
use Rattle.sv_check.specs.Progress.{progress_of}
use Rattle.sv_check.specs.InodeList.{is_free, reads_inode}
use Rattle.sv_check.specs.Pages.{kept_of}
use Rattle.sv_check.proofs.InodeReads.{no_directory}
use Rattle.sv_check.proofs.InodeSteps.{all_read}
use Rattle.sv_check.proofs.KeptDirectories.{is_dir_at, kept_end, kept_first, kept_inode, kept_on, pages_met}
use Rattle.sv_check.proofs.LineReads.{line_of-is}
use Rattle.sv_check.proofs.OwnedBlocks.{owned_end, owned_first, owned_free, owned_used}
use Rattle.sv_check.proofs.WalkSteps.{went, stopped}
use Rattle.sv_check.proofs.WholeWalk.{nothing-owned, some_if, walks_inode, is_used, at_start, at_free, at_bad, at_used, end-bad, end-past, end-tail, end-met}
use Rattle.sv_check.proofs.sound.whole_walk.BlockWalk.walk_inodes.Goals as goal

pub loop-before-init : goal.loop-before-init
loop-before-init g c = record {
  content = refl;
  faults = omega arith;
  size = c.requires.block;
  block = λ no_inode. absurd (no_inode refl);
  owners = ap (λ (o : List ℕ). length o) c.requires.fresh.owner ∙ length-replicate _ 0;
  no_bad = c.requires.fresh.bad;
  no_past = c.requires.fresh.walk_past;
  no_tail = c.requires.fresh.walk_tail;
  no_pages = c.requires.fresh.pages;
  kept = kept_first _ _ _ (ap (map kept_of) c.requires.fresh.directories);
  owned = owned_first _ _ _ _ c.requires.fresh.owner;
  reached = rw (c.requires.fresh.past, c.requires.fresh.tail) (at_start _ _ _ (nothing-owned _ _ c.requires.fresh.owner));
}

pub loop-before-preserved-then-is_free : goal.loop-before-preserved-then-is_free
loop-before-preserved-then-is_free g c =
    let at : Place = inode_place c.args.sizes.now (c.loop-before.before + 1) in
    let block : c.turn_to_inode.new.block ≡ block_of c.args.sizes.now (g.D.Disk.content c.args.disk.now) at.block =
    c.in_ok-turn_to_inode.ensures.block ∙ ap (λ (image : List ℕ). block_of c.args.sizes.now image at.block) c.loop-before.invariant.content in
    let bytes = line_of-is c.args.sizes.now (g.D.Disk.content c.args.disk.now) at at refl _ block c.from-at.result (c.from-at.ensures ∙ ap (λ (p : Place). p.line) c.inode_place.ensures) in
    let below : c.loop-before.before + 1 < inode_count c.args.sizes.now + 1 = omega (arith, c.loop-before-test.true, c.inode_count-before-end.ensures) in
    let free : is_used c.args.sizes.now (g.D.Disk.content c.args.disk.now) (c.loop-before.before + 1) ≡ false =
    sym (ap not (c.if-is_free.ensures ∙ ap (λ (b : List ℕ). is_free b) bytes)) in
    record {
      content = c.in_ok-turn_to_inode.ensures.content ∙ c.loop-before.invariant.content;
      faults = omega (arith, c.in_ok-turn_to_inode.ensures.cause.no_less, c.loop-before.invariant.faults);
      size = c.turn_to_inode.auto.block ∙ c.loop-before.invariant.size;
      block = λ _. block;
      owners = c.loop-before.invariant.owners;
      no_bad = c.loop-before.invariant.no_bad;
      no_past = c.loop-before.invariant.no_past;
      no_tail = c.loop-before.invariant.no_tail;
      no_pages = c.loop-before.invariant.no_pages;
      kept = kept_on _ _ _ _ _ below c.loop-before.invariant.kept false (no_directory (inode_of c.args.sizes.now (g.D.Disk.content c.args.disk.now) (c.loop-before.before + 1)) (ap (λ (b : List ℕ). is_free b) (sym bytes) ∙ sym c.if-is_free.ensures)) (sym (append-nil _));
      owned = owned_free _ _ _ _ below free c.loop-before.invariant.owned;
      reached = at_free _ _ _ _ _ _ below free c.loop-before.invariant.reached;
    }

pub returns-then-not-branch-clause-bad : goal.returns-then-not-branch-clause-bad
returns-then-not-branch-clause-bad g c =
    let at : Place = inode_place c.args.sizes.now (c.loop-before.before + 1) in
    let block : c.turn_to_inode.new.block ≡ block_of c.args.sizes.now (g.D.Disk.content c.args.disk.now) at.block =
    c.in_ok-turn_to_inode.ensures.block ∙ ap (λ (image : List ℕ). block_of c.args.sizes.now image at.block) c.loop-before.invariant.content in
    let bytes = line_of-is c.args.sizes.now (g.D.Disk.content c.args.disk.now) at at refl _ block c.from-at.result (c.from-at.ensures ∙ ap (λ (p : Place). p.line) c.inode_place.ensures) in
    let below : c.loop-before.before + 1 < inode_count c.args.sizes.now + 1 = omega (arith, c.loop-before-test.true, c.inode_count-before-end.ensures) in
    let used : is_used c.args.sizes.now (g.D.Disk.content c.args.disk.now) (c.loop-before.before + 1) ≡ true =
    sym (ap not (c.if-is_free.ensures ∙ ap (λ (b : List ℕ). is_free b) bytes)) in
    let walks = walks_inode c.args.sizes.now (g.D.Disk.content c.args.disk.now) _ _ (c.loop-before.before + 1) (progress_of c.loop-before.self.walk) (progress_of c.walk_inode.new.self)
    c.in_ok-walk_inode.field-0 c.walk_inode.new.self.bad (c.in_ok-turn_to_inode.ensures.content ∙ c.loop-before.invariant.content) bytes c.in_ok-walk_inode.ensures.walks in
    at_bad _ _ _ (progress_of c.loop-before.self.walk) _ _ below used c.loop-before.invariant.reached _ (stopped _ _ _ _ _ _ _ _ _ c.if-not-branch.true walks)

pub loop-before-preserved : goal.loop-before-preserved
loop-before-preserved g c =
    let at : Place = inode_place c.args.sizes.now (c.loop-before.before + 1) in
    let block : c.turn_to_inode.new.block ≡ block_of c.args.sizes.now (g.D.Disk.content c.args.disk.now) at.block =
    c.in_ok-turn_to_inode.ensures.block ∙ ap (λ (image : List ℕ). block_of c.args.sizes.now image at.block) c.loop-before.invariant.content in
    let bytes = line_of-is c.args.sizes.now (g.D.Disk.content c.args.disk.now) at at refl _ block c.from-at.result (c.from-at.ensures ∙ ap (λ (p : Place). p.line) c.inode_place.ensures) in
    let below : c.loop-before.before + 1 < inode_count c.args.sizes.now + 1 = omega (arith, c.loop-before-test.true, c.inode_count-before-end.ensures) in
    let used : is_used c.args.sizes.now (g.D.Disk.content c.args.disk.now) (c.loop-before.before + 1) ≡ true =
    sym (ap not (c.if-is_free.ensures ∙ ap (λ (b : List ℕ). is_free b) bytes)) in
    let walks = walks_inode c.args.sizes.now (g.D.Disk.content c.args.disk.now) _ _ (c.loop-before.before + 1) (progress_of c.loop-before.self.walk) (progress_of c.walk_inode.new.self)
    c.in_ok-walk_inode.field-0 c.walk_inode.new.self.bad (c.in_ok-turn_to_inode.ensures.content ∙ c.loop-before.invariant.content) bytes c.in_ok-walk_inode.ensures.walks in
    record {
      content = c.in_ok-walk_inode.ensures.content ∙ c.in_ok-turn_to_inode.ensures.content ∙ c.loop-before.invariant.content;
      faults = omega (arith, c.in_ok-walk_inode.ensures.faults, c.in_ok-turn_to_inode.ensures.cause.no_less, c.loop-before.invariant.faults);
      size = c.turn_to_inode.auto.block ∙ c.loop-before.invariant.size;
      block = λ _. block;
      owners = ap (λ v. length v.items) c.clear.ensures.owner ∙ c.in_ok-walk_inode.ensures.owners;
      no_bad = c.loop-before.invariant.no_bad;
      no_past = c.clear.ensures.past;
      no_tail = c.clear.ensures.tail;
      no_pages = c.clear.ensures.pages;
      kept = kept_on _ _ _ _ _ below c.loop-before.invariant.kept (is_dir_at c.args.sizes.now (g.D.Disk.content c.args.disk.now) (c.loop-before.before + 1)) refl
          (kept_inode _ _ (c.loop-before.before + 1) _ _ _ _ bytes
          (pages_met _ _ _ _ _ (progress_of c.walk_inode.new.self) _ (went _ _ _ _ _ _ _ _ _ c.if-not-branch.false walks) c.loop-before.invariant.no_pages)
          (c.in_ok-keep_directory.ensures (ap (λ (b : List ℕ). reads_inode b) bytes
          ∙ all_read c.args.sizes.now (g.D.Disk.content c.args.disk.now) c.requires.kind (c.loop-before.before + 1) (omega arith) below)));
      owned = owned_used _ _ _ _ below used c.loop-before.invariant.owned (progress_of c.walk_inode.new.self) _ (λ e. omega (arith, e))
          (went _ _ _ _ _ _ _ _ _ c.if-not-branch.false walks) (ap (λ v. slice_index v.items) c.clear.ensures.owner);
      reached = at_used _ _ _ (progress_of c.loop-before.self.walk) _ _ below used c.loop-before.invariant.reached (progress_of c.walk_inode.new.self) _ _ _ (λ e. omega (arith, e)) c.loop-before.invariant.no_past
          c.loop-before.invariant.no_tail (went _ _ _ _ _ _ _ _ _ c.if-not-branch.false walks) (ap (λ v. slice_index v.items) c.clear.ensures.owner)
          (some_if _ _ _ _ _ c.or-past.ensures c.then_some.ensures) (some_if _ _ _ _ _ c.or-tail.ensures c.then_some-in-loop-before.ensures);
    }

pub returns-clause-bad : goal.returns-clause-bad
returns-clause-bad g c = c.loop-before.invariant.no_bad ∙ end-bad _ _ _ _ _ _ (omega (arith, c.loop-before-test.false, c.inode_count-before-end.ensures)) c.loop-before.invariant.reached

pub returns-clause-past : goal.returns-clause-past
returns-clause-past g c = λ _. end-past _ _ _ _ _ _ (omega (arith, c.loop-before-test.false, c.inode_count-before-end.ensures)) c.loop-before.invariant.reached

pub returns-clause-tail : goal.returns-clause-tail
returns-clause-tail g c = λ _. end-tail _ _ _ _ _ _ (omega (arith, c.loop-before-test.false, c.inode_count-before-end.ensures)) c.loop-before.invariant.reached

pub returns-clause-directories : goal.returns-clause-directories
returns-clause-directories g c = λ _. kept_end _ _ _ _ (omega (arith, c.loop-before-test.false, c.inode_count-before-end.ensures)) c.loop-before.invariant.kept

pub returns-clause-met : goal.returns-clause-met
returns-clause-met g c = λ _. end-met _ _ _ _ _ _ (omega (arith, c.loop-before-test.false, c.inode_count-before-end.ensures)) c.loop-before.invariant.reached

pub returns-clause-owner : goal.returns-clause-owner
returns-clause-owner g c = λ _. owned_end _ _ _ _ (omega (arith, c.loop-before-test.false, c.inode_count-before-end.ensures)) c.loop-before.invariant.owned
