-- The bytes of the file are those of the node that it stands for.
use Rattle.std.proofs.Common.{◌<◌, subst}
use Rattle.sv_form.specs.declared.geometry.Geometry.{Geometry}
use Rattle.sv_inode.proofs.Nodes.{read_node}
use Rattle.sv_inode.proofs.PagesHeld.{size_some}
use Rattle.sv_inode.proofs.locked.LockedInode.readi.Goals as goal

pub returns-clause-bytes : goal.returns-clause-bytes
returns-clause-bytes g c = λ node stands.
    read_node (g.S.Stake.origin c.args.self.now.stake) (g.S.Stake.held c.args.self.now.stake) c.args.self.now.body node c.args.at
    c.args.count c.saturating_sub.result c.min-count.result c.read_range.result
    (let P : Geometry → Type 0 = λ q. 0 < q.block_size in subst P c.geometry-sizes.ensures.value
    (size_some _ c.geometry-sizes.ensures.sizes)) c.requires.size stands c.saturating_sub.ensures c.min-count.ensures
    c.read_range.ensures.bytes
