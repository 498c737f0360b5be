use Rattle.std.proofs.Common.{◌<◌, IsSome, ◌≡◌, ◌≤◌, ◌+◌, ◌-◌, [], ℕ, length, take, vec_capacity}
use Rattle.std.specs.List.{All}
use Rattle.sv_form.specs.Node.{Node}
use Rattle.sv_form.specs.NodeChanges.{put}
use Rattle.sv_store.specs.Held.{Held, nothing_lent}
use Rattle.sv_bmap.specs.Need.{need_of}
use Rattle.sv_inode.specs.StandsFor.{StandsFor}
use Rattle.sv_inode.specs.Truncate.{CanFreeAll, HoldsOnly}
use Rattle.sv_inode.specs.Write.{Uses}
use Rattle.sv_inode.proofs.PieceEnds.{IsReached}
use Rattle.sv_inode.proofs.write.write_pages.Given as goal

abbrev pub invariant-loop-page : goal.invariant-loop-page
invariant-loop-page g l = record {
  first : l.first ≤ l.page;
  reached : IsReached l.sizes.block_size l.at (length l.from) (l.page - l.first) l.done;
  node : (node : Node) → StandsFor (g.S.Stake.origin l.fn.inode.stake) (g.S.Stake.held l.fn.inode.stake) l.fn.inode.body node
      → StandsFor (g.S.Stake.origin l.inode.stake) (g.S.Stake.held l.inode.stake) l.inode.body
      (put l.sizes.block_size node l.at (take l.done l.from));
  cuts : (h : Held) → CanFreeAll g.S.Stake.held g.S.Stake.lent g.S.Stake.origin g.S.Stake.forced (g.S.Stake.origin l.fn.inode.stake) h
      (g.S.Stake.held l.fn.inode.stake) l.fn.supplies.cuts.items
      → Uses g.S.Stake.held g.S.Stake.lent g.S.Stake.origin g.S.Stake.forced (g.S.Stake.origin l.fn.inode.stake) h
      (g.S.Stake.held l.fn.inode.stake) (g.S.Stake.held l.inode.stake) l.fn.supplies.cuts.items l.supplies.cuts.items;
  needs : (n : ℕ) → l.page + n ≤ l.last + 1
      → need_of (g.S.Stake.origin l.fn.inode.stake).sizes (g.S.Stake.held l.fn.inode.stake) l.fn.inode.body.addresses l.first
      (l.page - l.first + n) + length l.supplies.cuts.items
      ≡ need_of (g.S.Stake.origin l.fn.inode.stake).sizes (g.S.Stake.held l.inode.stake) l.inode.body.addresses l.page n
      + length l.fn.supplies.cuts.items;
  only : (n : ℕ) → HoldsOnly (g.S.Stake.origin l.fn.inode.stake) (g.S.Stake.held l.fn.inode.stake) n l.fn.inode.body.addresses
      → HoldsOnly (g.S.Stake.origin l.fn.inode.stake) (g.S.Stake.held l.inode.stake) n l.inode.body.addresses;
  before : (b k : ℕ) → b < (g.S.Stake.origin l.fn.inode.stake).sizes.first_data → IsSome (g.S.Stake.held l.fn.inode.stake b k)
      → g.S.Stake.held l.inode.stake b k ≡ g.S.Stake.held l.fn.inode.stake b k;
  rooms : l.last + 1 ≤ length l.supplies.rooms.items + l.page;
  empty : All (λ room. room.items ≡ []) l.supplies.rooms.items;
  roomy : All (λ room. 4 ≤ vec_capacity room) l.supplies.rooms.items;
  bytes : length l.supplies.page.items ≡ (g.S.Stake.origin l.fn.inode.stake).sizes.block_size;
  body : l.inode.body ≡ record l.fn.inode.body { size = l.inode.body.size; addresses = l.inode.body.addresses };
  number : l.inode.number ≡ l.fn.inode.number;
  faults : g.S.Stake.faults l.fn.inode.stake ≤ g.S.Stake.faults l.inode.stake;
  lends : g.S.Stake.lent l.inode.stake ≡ nothing_lent;
  forced : g.S.Stake.forced l.inode.stake ≡ g.S.Stake.forced l.fn.inode.stake;
  origin : g.S.Stake.origin l.inode.stake ≡ g.S.Stake.origin l.fn.inode.stake;
}
