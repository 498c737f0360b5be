use Rattle.std.proofs.Common.{◌≡◌, ◌≢◌, ◌≤◌, ◌+◌, [], None, length, false, map, slice_index}
use Rattle.sv_form.specs.Geometry.{inode_place}
use Rattle.sv_form.specs.Image.{block_of}
use Rattle.sv_check.specs.Pages.{kept_of}
use Rattle.sv_check.proofs.KeptDirectories.{IsKept}
use Rattle.sv_check.proofs.OwnedBlocks.{IsOwnedFrom}
use Rattle.sv_check.proofs.WholeWalk.{IsAt}
use Rattle.sv_check.proofs.sound.whole_walk.BlockWalk.walk_inodes.Given as goal

abbrev pub invariant-loop-before : goal.invariant-loop-before
invariant-loop-before g l = record {
  content : g.D.Disk.content l.disk ≡ g.D.Disk.content l.fn.disk;
  faults : g.D.Disk.faults l.fn.disk ≤ g.D.Disk.faults l.disk;
  size : length l.block ≡ l.fn.sizes.block_size;
  block : l.before ≢ 0 → l.block ≡ block_of l.fn.sizes (g.D.Disk.content l.fn.disk) (inode_place l.fn.sizes l.before).block;
  owners : length l.self.walk.owner.items ≡ l.fn.sizes.blocks;
  no_bad : l.self.bad ≡ None;
  no_past : l.self.walk.past ≡ false;
  no_tail : l.self.walk.tail ≡ false;
  no_pages : l.self.walk.pages.items ≡ [];
  kept : IsKept l.fn.sizes (g.D.Disk.content l.fn.disk) (l.before + 1) (map kept_of l.self.directories.items);
  owned : IsOwnedFrom l.fn.sizes (g.D.Disk.content l.fn.disk) (l.before + 1) (slice_index l.self.walk.owner.items);
  reached : IsAt l.fn.sizes (g.D.Disk.content l.fn.disk) (l.before + 1) (slice_index l.self.walk.owner.items) l.self.past l.self.tail;
}
