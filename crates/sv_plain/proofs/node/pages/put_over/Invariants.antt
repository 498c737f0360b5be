use Rattle.std.proofs.Common.{◌≡◌, ◌≤◌, ◌<◌, ◌-◌, ℕ, length, min, slice_index}
use Rattle.sv_plain.specs.PutOver.{over}
use Rattle.sv_plain.proofs.node.pages.put_over.Given as goal

abbrev pub invariant-loop-k : goal.invariant-loop-k
invariant-loop-k l = record {
  len : length l.page ≡ length l.initial.page;
  begun : min (l.first - l.at) (length l.bytes) ≤ l.k;
  bytes : (r : ℕ) → r < length l.initial.page → slice_index l.page r ≡ over l.initial.page l.first l.at l.bytes l.k r;
}
