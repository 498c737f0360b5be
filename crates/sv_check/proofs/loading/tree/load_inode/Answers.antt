use Rattle.std.proofs.lemmas.Result.{on_ok_weaker}
use Rattle.sv_check.proofs.LoadedNodes.{added-empty, added-there, loaded-inode}
use Rattle.sv_check.proofs.loading.tree.load_inode.Goals as goal

pub load_pages-requires-clause-there : goal.load_pages-requires-clause-there
load_pages-requires-clause-there g c = λ _ _. added-there c.args.sizes.now (g.D.Disk.content c.args.disk.now) c.args.n c.args.fs.now _ _ _ _ _ c.in_ok-add_node.ensures.added

pub load_pages-requires-clause-absent : goal.load_pages-requires-clause-absent
load_pages-requires-clause-absent g c = λ _ _. added-empty c.args.sizes.now (g.D.Disk.content c.args.disk.now) c.args.n c.args.fs.now _ _ _ _ _ c.in_ok-add_node.ensures.added

pub returns-clause-node : goal.returns-clause-node
returns-clause-node g c =
    on_ok_weaker c.load_pages.result
    (loaded-inode c.args.sizes.now (g.D.Disk.content c.args.disk.now) c.args.n c.args.inode.now _ c.in-Some.ensures.used c.args.fs.now _ _ c.in_ok-add_node.ensures.added) c.load_pages.ensures.pages
