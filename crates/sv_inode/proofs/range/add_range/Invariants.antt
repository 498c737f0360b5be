use Rattle.std.proofs.Common.{◌≡◌, ◌≤◌, ◌*◌, ◌-◌, min}
use Rattle.sv_store.specs.Held.{nothing_lent}
use Rattle.sv_inode.specs.Contents.{file_bytes, present_before}
use Rattle.sv_inode.proofs.range.add_range.Given as goal

abbrev pub invariant-loop-page : goal.invariant-loop-page
invariant-loop-page g l = record {
  bytes : l.bytes.items ≡ file_bytes l.sizes (g.S.Stake.held l.fn.s) l.a l.at (min (l.page * l.sizes.block_size) l.end - l.at);
  ahead : l.ahead ≡ present_before l.sizes (g.S.Stake.held l.fn.s) l.a l.page l.pages;
  first : l.first ≤ l.page;
  held : g.S.Stake.held l.s ≡ g.S.Stake.held l.fn.s;
  lends : g.S.Stake.lent l.s ≡ nothing_lent;
  forced : g.S.Stake.forced l.s ≡ g.S.Stake.forced l.fn.s;
  origin : g.S.Stake.origin l.s ≡ g.S.Stake.origin l.fn.s;
  faults : g.S.Stake.faults l.fn.s ≤ g.S.Stake.faults l.s;
}
