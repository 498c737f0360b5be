use Rattle.std.proofs.Common.{◌≡◌, ◌≢◌, ◌≤◌, length}
use Rattle.sv_form.specs.Geometry.{inode_place}
use Rattle.sv_form.specs.Image.{block_of}
use Rattle.sv_check.proofs.LoadedTree.{loaded_to}
use Rattle.sv_check.proofs.loading.tree.load_nodes.Given as goal

abbrev pub invariant-loop-before : goal.invariant-loop-before
invariant-loop-before g l = record {
  content : g.D.Disk.content l.disk ≡ g.D.Disk.content l.fn.disk;
  faults : g.D.Disk.faults l.fn.disk ≤ g.D.Disk.faults l.disk;
  size : length l.block ≡ l.fn.sizes.block_size;
  block : l.before ≢ 0 → l.block ≡ block_of l.fn.sizes (g.D.Disk.content l.fn.disk) (inode_place l.fn.sizes l.before).block;
  loaded : l.fs ≡ loaded_to l.fn.sizes (g.D.Disk.content l.fn.disk) l.before;
}
