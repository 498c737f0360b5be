use Rattle.std.proofs.Common.{◌≡◌, ◌∙◌, ℕ, List, None, ap, arith, refl, sym, subst}
use Rattle.sv_form.specs.declared.geometry.Geometry.{Geometry}
use Rattle.sv_form.specs.declared.place.Place.{Place}
use Rattle.sv_form.specs.Geometry.{inode_place}
use Rattle.sv_form.specs.Image.{block_of, inode_of}
use Rattle.sv_check.specs.declared.pages.PageBlock.{PageBlock}
use Rattle.sv_check.specs.FilePages.{AreInData, AreInOrder}
use Rattle.sv_check.specs.Progress.{progress_of}
use Rattle.sv_check.specs.Walk.{first_bad, met_of, nothing_met, reached}
use Rattle.sv_check.proofs.FileBlocks.{are_in_data}
use Rattle.sv_check.proofs.FileWalks.{all_data, never_stops, no_bad_here}
use Rattle.sv_check.proofs.KeptDirectories.{pages_met}
use Rattle.sv_check.proofs.LineReads.{line_of-is}
use Rattle.sv_check.proofs.PageOrder.{reached-ascends, top}
use Rattle.sv_check.proofs.SoundParts.{AreMet, are_met}
use Rattle.sv_check.proofs.WalkSteps.{stopped, went}
use Rattle.sv_check.proofs.WholeWalk.{nothing-owned, walks_inode}
use Rattle.sv_check.proofs.loading.file.read_pages.Goals as goal

pub unreachable-requires : goal.unreachable-requires
unreachable-requires g c =
    let image : List ℕ = g.D.Disk.content c.args.disk.now in
    let at : Place = inode_place c.args.sizes.now c.args.inode in
    let w : AreMet c.args.sizes.now image = subst (λ (x : Geometry). AreMet x image) (sym c.requires.sizes) (are_met image c.requires.sound) in
    let block : c.read_block.new.block ≡ block_of c.args.sizes.now image at.block =
    c.in_ok-read_block.ensures.bytes ∙ ap (λ (p : Place). block_of c.args.sizes.now image p.block) c.inode_place-place.ensures in
    let bytes = line_of-is c.args.sizes.now image at at refl _ block c.from-at.result (c.from-at.ensures ∙ ap (λ (p : Place). p.line) c.inode_place-place.ensures) in
    let walks = walks_inode c.args.sizes.now image _ _ c.args.inode _ (progress_of c.walk_inode.new.self) c.in_ok-walk_inode.field-0 c.walk_inode.new.self.bad
    c.in_ok-read_block.ensures.content bytes c.in_ok-walk_inode.ensures.walks in
    never_stops c.args.sizes.now image c.args.inode c.walk_inode.new.self.bad _
    (no_bad_here c.args.sizes.now image w.size w.range w.twice c.args.inode c.requires.number.least (omega (arith, c.requires.number.most)) c.requires.used)
    (nothing-owned _ _ c.in_ok-no_owners.ensures.owners) (stopped _ _ _ _ _ _ _ _ _ c.if-not-branch.true walks)

pub returns-clause-pages : goal.returns-clause-pages
returns-clause-pages g c =
    let image : List ℕ = g.D.Disk.content c.args.disk.now in
    let at : Place = inode_place c.args.sizes.now c.args.inode in
    let block : c.read_block.new.block ≡ block_of c.args.sizes.now image at.block =
    c.in_ok-read_block.ensures.bytes ∙ ap (λ (p : Place). block_of c.args.sizes.now image p.block) c.inode_place-place.ensures in
    let bytes = line_of-is c.args.sizes.now image at at refl _ block c.from-at.result (c.from-at.ensures ∙ ap (λ (p : Place). p.line) c.inode_place-place.ensures) in
    let walks = walks_inode c.args.sizes.now image _ _ c.args.inode _ (progress_of c.walk_inode.new.self) c.in_ok-walk_inode.field-0 c.walk_inode.new.self.bad
    c.in_ok-read_block.ensures.content bytes c.in_ok-walk_inode.ensures.walks in
    pages_met _ _ _ _ _ (progress_of c.walk_inode.new.self) _ (went _ _ _ _ _ _ _ _ _ c.if-not-branch.false walks) c.new.ensures.items

pub returns-clause-data : goal.returns-clause-data
returns-clause-data g c =
    let image : List ℕ = g.D.Disk.content c.args.disk.now in
    let w : AreMet c.args.sizes.now image = subst (λ (x : Geometry). AreMet x image) (sym c.requires.sizes) (are_met image c.requires.sound) in
    let none : first_bad c.args.sizes.now nothing_met (met_of c.args.sizes.now image c.args.inode) ≡ None =
    no_bad_here c.args.sizes.now image w.size w.range w.twice c.args.inode c.requires.number.least (omega (arith, c.requires.number.most)) c.requires.used in
    subst (λ (ps : List PageBlock). AreInData c.args.sizes.now ps) (sym (returns-clause-pages g c))
    (are_in_data c.args.sizes.now c.args.inode (reached c.args.sizes.now image (inode_of c.args.sizes.now image c.args.inode)) (all_data c.args.sizes.now nothing_met (met_of c.args.sizes.now image c.args.inode) none))

pub returns-clause-ascending : goal.returns-clause-ascending
returns-clause-ascending g c =
    let image : List ℕ = g.D.Disk.content c.args.disk.now in
    subst (λ (ps : List PageBlock). AreInOrder ps) (sym (returns-clause-pages g c))
    (record { high = top c.args.sizes.now image; ascends = reached-ascends c.args.sizes.now image (inode_of c.args.sizes.now image c.args.inode) })
