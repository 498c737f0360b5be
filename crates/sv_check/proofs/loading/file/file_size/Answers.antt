use Rattle.std.proofs.Common.{◌≡◌, ℕ, List, arith, subst, sym, true}
use Rattle.sv_form.specs.declared.geometry.Geometry.{Geometry}
use Rattle.sv_form.specs.Geometry.{IsNumber}
use Rattle.sv_form.specs.Image.{inode_of}
use Rattle.sv_check.specs.FilePages.{ShowsFile}
use Rattle.sv_check.specs.InodeList.{reads_inode}
use Rattle.sv_check.proofs.FileTexts.{file_size_is}
use Rattle.sv_check.proofs.InodeSteps.{all_read}
use Rattle.sv_check.proofs.SoundParts.{AreMet, are_met}
use Rattle.sv_check.proofs.loading.file.file_size.Goals as goal

pub returns-clause-size : goal.returns-clause-size
returns-clause-size g c =
    let image : List ℕ = g.D.Disk.content c.args.disk.now in
    let w : AreMet c.args.sizes.now image = subst (λ (x : Geometry). AreMet x image) (sym c.requires.sizes) (are_met image c.requires.sound) in
    let reads : reads_inode (inode_of c.args.sizes.now image c.args.inode) ≡ true =
    all_read c.args.sizes.now image w.kind c.args.inode c.requires.number.least (omega (arith, c.requires.number.most)) in
    let shows : ShowsFile (inode_of c.args.sizes.now image c.args.inode) c.regular_size.result =
    c.regular_size.ensures _ c.in_ok-read.ensures.inode reads in
    file_size_is image c.args.inode (subst (λ (x : Geometry). IsNumber x c.args.inode) c.requires.sizes c.requires.number) c.regular_size.result
    (subst (λ (x : Geometry). ShowsFile (inode_of x image c.args.inode) c.regular_size.result) c.requires.sizes shows)
