-- What was not used is free again.
use Rattle.std.proofs.Common.{arith}
use Rattle.sv_inode.proofs.PutBack.{can-left, puts-back}
use Rattle.sv_inode.proofs.write.put_bytes.Goals as goal

pub free_all-requires-clause-cuts : goal.free_all-requires-clause-cuts
free_all-requires-clause-cuts g c κs within = (
  c.requires.cuts.0,
  can-left c.args.supplies.cuts.items c.write_pages-written.new.supplies.cuts.items
      (c.write_pages-written.ensures.cuts c.requires.cuts.0 c.requires.cuts.1.0) c.requires.origin c.requires.cuts.1.1,
)

pub returns-in-Ok-clause-back : goal.returns-in-Ok-clause-back
returns-in-Ok-clause-back g c = λ h can mine.
    puts-back _ c.args.supplies.cuts.items c.write_pages-written.new.supplies.cuts.items (c.write_pages-written.ensures.cuts h can)
    c.in-Ok.ensures.need c.free_all.ensures.blocks
    (c.free_all.ensures.lines h
    (can-left c.args.supplies.cuts.items c.write_pages-written.new.supplies.cuts.items (c.write_pages-written.ensures.cuts h can)
    c.requires.origin mine))
    c.free_all.ensures.others

pub returns-in-Err-clause-back : goal.returns-in-Err-clause-back
returns-in-Err-clause-back g c = λ h can mine.
    puts-back _ c.args.supplies.cuts.items c.write_pages-written.new.supplies.cuts.items (c.write_pages-written.ensures.cuts h can)
    c.in-Err.ensures.need c.free_all.ensures.blocks
    (c.free_all.ensures.lines h
    (can-left c.args.supplies.cuts.items c.write_pages-written.new.supplies.cuts.items (c.write_pages-written.ensures.cuts h can)
    c.requires.origin mine))
    c.free_all.ensures.others

pub returns-in-Ok-clause-spare : goal.returns-in-Ok-clause-spare
returns-in-Ok-clause-spare g c = record {
  most = omega (arith, c.free_all.ensures.spare);
  least = omega (arith, c.free_all.ensures.spare, c.in-Ok.ensures.need, c.requires.enough, c.requires.spare);
}

pub returns-in-Ok-clause-core : goal.returns-in-Ok-clause-core
returns-in-Ok-clause-core g c = c.free_all.ensures.core

pub returns-in-Err-clause-spare : goal.returns-in-Err-clause-spare
returns-in-Err-clause-spare g c = record {
  most = omega (arith, c.free_all.ensures.spare);
  least = omega (arith, c.free_all.ensures.spare, c.in-Err.ensures.need, c.requires.enough, c.requires.spare);
}

pub returns-in-Err-clause-core : goal.returns-in-Err-clause-core
returns-in-Err-clause-core g c = c.free_all.ensures.core
