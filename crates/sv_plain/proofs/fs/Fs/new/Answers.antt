use Rattle.std.proofs.Common.{sym}
use Rattle.sv_plain.proofs.Beginnings.{sized, no_blocks, none_used, none_promised, no_places_taken, none_held}
use Rattle.sv_plain.proofs.fs.Fs.new.Goals as goal

pub invariant_of-result : goal.invariant_of-result
invariant_of-result c = record {
  sized = rw (c.greatest_size.ensures, c.inode_count.ensures) (sized c.args.geometry c.requires);
  blocks = rw (c.new.ensures, c.new-6.ensures) (no_blocks c.args.geometry.block_size);
  used = rw c.new.ensures (sym (none_used c.args.geometry.block_size));
  promised = rw c.new-4.ensures (sym none_promised);
  taken = rw (c.new-2.ensures, c.new-3.ensures, c.new-7.ensures) (sym (no_places_taken c.inode_count.result));
  held = rw (c.new-2.ensures, c.new-3.ensures, c.new-7.ensures) none_held;
}
