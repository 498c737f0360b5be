use Rattle.std.proofs.Common.{◌≡◌, ◌<◌, ◌+◌, ◌∙◌, ◌*◌, sym, ap, arith, refl, ℕ, List}
use Rattle.std.specs.List.{list_all, slice_range}
use Rattle.std.specs.FinMap as map
use Rattle.sv_form.specs.declared.place.Place.{Place}
use Rattle.sv_form.specs.Geometry.{inode_place, inode_count}
use Rattle.sv_form.specs.Image.{block_of}
use Rattle.sv_plain.specs.Fs.{Fs}
use Rattle.sv_check.specs.InodeList.{is_free, reads_inode}
use Rattle.sv_check.specs.Loaded.{is_inside, with_inode}
use Rattle.sv_check.specs.Walk.{reached}
use Rattle.sv_check.proofs.LineReads.{line_of-is}
use Rattle.sv_check.proofs.LoadedTree.{absent-yet, loaded-all, loaded-more}
use Rattle.sv_check.proofs.SoundParts.{walked_inside, walked_least, walked_reads}
use Rattle.sv_check.proofs.loading.tree.load_nodes.Goals as goal

pub load_inode-requires-clause-reads : goal.load_inode-requires-clause-reads
load_inode-requires-clause-reads g c = λ _ _.
    let at : Place = inode_place c.args.sizes.now (c.loop-before.before + 1) in
    let block : c.turn_to_inode.new.block ≡ block_of c.args.sizes.now (g.D.Disk.content c.args.disk.now) at.block =
    c.in_ok-turn_to_inode.ensures.block ∙ ap (λ (image : List ℕ). block_of c.args.sizes.now image at.block) c.loop-before.invariant.content in
    let bytes = line_of-is c.args.sizes.now (g.D.Disk.content c.args.disk.now) at at refl _ block c.from-at.result (c.from-at.ensures ∙ ap (λ (p : Place). p.line) c.inode_place.ensures) in
    let below : c.loop-before.before + 1 < inode_count c.args.sizes.now + 1 = omega (arith, c.loop-before-test.true, c.inode_count-before-end.ensures) in
    ap (λ (b : List ℕ). reads_inode b) bytes
    ∙ walked_reads (g.D.Disk.content c.args.disk.now) c.requires.walked c.args.sizes.now c.requires.sizes (c.loop-before.before + 1) (omega arith) below

pub load_inode-requires-clause-least : goal.load_inode-requires-clause-least
load_inode-requires-clause-least g c = λ _ _ used.
    let at : Place = inode_place c.args.sizes.now (c.loop-before.before + 1) in
    let block : c.turn_to_inode.new.block ≡ block_of c.args.sizes.now (g.D.Disk.content c.args.disk.now) at.block =
    c.in_ok-turn_to_inode.ensures.block ∙ ap (λ (image : List ℕ). block_of c.args.sizes.now image at.block) c.loop-before.invariant.content in
    let bytes = line_of-is c.args.sizes.now (g.D.Disk.content c.args.disk.now) at at refl _ block c.from-at.result (c.from-at.ensures ∙ ap (λ (p : Place). p.line) c.inode_place.ensures) in
    let below : c.loop-before.before + 1 < inode_count c.args.sizes.now + 1 = omega (arith, c.loop-before-test.true, c.inode_count-before-end.ensures) in
    walked_least (g.D.Disk.content c.args.disk.now) c.requires.walked c.args.sizes.now c.requires.sizes (c.loop-before.before + 1) (omega arith) below
    (sym (ap (λ (b : List ℕ). is_free b) bytes) ∙ used)

pub load_inode-requires-clause-inside : goal.load_inode-requires-clause-inside
load_inode-requires-clause-inside g c = λ _ _ used.
    let at : Place = inode_place c.args.sizes.now (c.loop-before.before + 1) in
    let content : g.D.Disk.content c.turn_to_inode.new.disk ≡ g.D.Disk.content c.args.disk.now = c.in_ok-turn_to_inode.ensures.content ∙ c.loop-before.invariant.content in
    let block : c.turn_to_inode.new.block ≡ block_of c.args.sizes.now (g.D.Disk.content c.args.disk.now) at.block =
    c.in_ok-turn_to_inode.ensures.block ∙ ap (λ (image : List ℕ). block_of c.args.sizes.now image at.block) c.loop-before.invariant.content in
    let bytes = line_of-is c.args.sizes.now (g.D.Disk.content c.args.disk.now) at at refl _ block c.from-at.result (c.from-at.ensures ∙ ap (λ (p : Place). p.line) c.inode_place.ensures) in
    let below : c.loop-before.before + 1 < inode_count c.args.sizes.now + 1 = omega (arith, c.loop-before-test.true, c.inode_count-before-end.ensures) in
    ap (λ (image : List ℕ). list_all (is_inside c.args.sizes.now) (reached c.args.sizes.now image (slice_range c.turn_to_inode.new.block (64 * c.from-at.result) (64 * c.from-at.result + 64)))) content
    ∙ ap (λ (b : List ℕ). list_all (is_inside c.args.sizes.now) (reached c.args.sizes.now (g.D.Disk.content c.args.disk.now) b)) bytes
    ∙ walked_inside (g.D.Disk.content c.args.disk.now) c.requires.walked c.args.sizes.now c.requires.sizes (c.loop-before.before + 1) (omega arith) below
    (sym (ap (λ (b : List ℕ). is_free b) bytes) ∙ used)

pub load_inode-requires-clause-absent : goal.load_inode-requires-clause-absent
load_inode-requires-clause-absent g c = λ _ _.
    ap (λ (s : Fs). map.get s.nodes (c.loop-before.before + 1)) c.loop-before.invariant.loaded
    ∙ absent-yet c.args.sizes.now (g.D.Disk.content c.args.disk.now) c.loop-before.before (c.loop-before.before + 1) (omega arith)

pub loop-before-preserved : goal.loop-before-preserved
loop-before-preserved g c =
    let at : Place = inode_place c.args.sizes.now (c.loop-before.before + 1) in
    let content : g.D.Disk.content c.turn_to_inode.new.disk ≡ g.D.Disk.content c.args.disk.now = c.in_ok-turn_to_inode.ensures.content ∙ c.loop-before.invariant.content in
    let block : c.turn_to_inode.new.block ≡ block_of c.args.sizes.now (g.D.Disk.content c.args.disk.now) at.block =
    c.in_ok-turn_to_inode.ensures.block ∙ ap (λ (image : List ℕ). block_of c.args.sizes.now image at.block) c.loop-before.invariant.content in
    let bytes = line_of-is c.args.sizes.now (g.D.Disk.content c.args.disk.now) at at refl _ block c.from-at.result (c.from-at.ensures ∙ ap (λ (p : Place). p.line) c.inode_place.ensures) in
    record {
      content = c.in_ok-load_inode.ensures.content ∙ content;
      faults = omega (arith, c.in_ok-load_inode.ensures.faults, c.in_ok-turn_to_inode.ensures.cause.no_less, c.loop-before.invariant.faults);
      size = c.turn_to_inode.auto.block ∙ c.loop-before.invariant.size;
      block = λ _. block;
      loaded = c.in_ok-load_inode.ensures.node
          ∙ ap (λ (image : List ℕ). with_inode c.args.sizes.now image c.loop-before.fs (c.loop-before.before + 1) (slice_range c.turn_to_inode.new.block (64 * c.from-at.result) (64 * c.from-at.result + 64))) content
          ∙ ap (λ (s : Fs). with_inode c.args.sizes.now (g.D.Disk.content c.args.disk.now) s (c.loop-before.before + 1) (slice_range c.turn_to_inode.new.block (64 * c.from-at.result) (64 * c.from-at.result + 64)))
          c.loop-before.invariant.loaded
          ∙ loaded-more c.args.sizes.now (g.D.Disk.content c.args.disk.now) c.loop-before.before (c.loop-before.before + 1) _ refl bytes;
    }

pub returns-clause-tree : goal.returns-clause-tree
returns-clause-tree g c =
    c.loop-before.invariant.loaded ∙ loaded-all (g.D.Disk.content c.args.disk.now) c.args.sizes.now c.requires.sizes c.loop-before.before (omega (arith, c.inode_count-before-end.ensures))
