use Rattle.std.proofs.Common.{◌≡◌, ◌∙◌, ℕ, List, ap, refl, subst}
use Rattle.sv_form.specs.declared.place.Place.{Place}
use Rattle.sv_form.specs.Geometry.{inode_place}
use Rattle.sv_form.specs.Image.{block_of}
use Rattle.sv_check.specs.Blocks.{IsInodeRead}
use Rattle.sv_check.proofs.LineReads.{line_of-is}
use Rattle.sv_check.proofs.blocks.read_inode.Goals as goal

pub returns-clause-inode : goal.returns-clause-inode
returns-clause-inode g c =
    let image : List ℕ = g.D.Disk.content c.args.disk.now in
    let at : Place = inode_place c.args.sizes.now c.args.number in
    let block : c.read_block.new.block ≡ block_of c.args.sizes.now image at.block =
    c.in_ok-read_block.ensures.bytes ∙ ap (λ (p : Place). block_of c.args.sizes.now image p.block) c.inode_place-place.ensures in
    let bytes = line_of-is c.args.sizes.now image at at refl _ block c.from-at.result
    (c.from-at.ensures ∙ ap (λ (p : Place). p.line) c.inode_place-place.ensures) in
    subst (λ (b : List ℕ). IsInodeRead b c.read_line.result) bytes c.read_line.ensures
