-- The line stands before the data blocks, so that the tree stays.
use Rattle.std.proofs.Common.{refl, subst}
use Rattle.sv_form.specs.Geometry.{IsGeometry}
use Rattle.sv_form.specs.declared.geometry.Geometry.{Geometry}
use Rattle.sv_inode.proofs.FrontLines.{front-only, front-stands, puts-front}
use Rattle.sv_inode.proofs.OwnLines.{on-either, only-same}
use Rattle.sv_inode.proofs.PiecePut.{stands-since}
use Rattle.sv_inode.proofs.locked.LockedInode.update.Goals as goal

pub returns-clause-node : goal.returns-clause-node
returns-clause-node g c = λ node stands. on-either c.put_line.result
    (λ puts. stands-since c.put_line.ensures.origin refl (front-stands sizes (puts-front sizes c.requires.inode.number puts) stands))
    (λ same. stands-since c.put_line.ensures.origin same stands) c.put_line.ensures.puts c.put_line.ensures.kept
  where
    sizes : IsGeometry (g.S.Stake.origin c.args.self.now.stake).sizes
    sizes = let P : Geometry → Type 0 = λ q. IsGeometry q in subst P c.geometry-disk.ensures.value c.geometry-disk.ensures.sizes

pub returns-clause-only : goal.returns-clause-only
returns-clause-only g c = λ n tree was. on-either c.put_line.result
    (λ puts. front-only sizes (puts-front sizes c.requires.inode.number puts) c.put_line.ensures.lines tree was)
    (λ same. only-same same refl was) c.put_line.ensures.puts c.put_line.ensures.kept
  where
    sizes : IsGeometry (g.S.Stake.origin c.args.self.now.stake).sizes
    sizes = let P : Geometry → Type 0 = λ q. IsGeometry q in subst P c.geometry-disk.ensures.value c.geometry-disk.ensures.sizes
