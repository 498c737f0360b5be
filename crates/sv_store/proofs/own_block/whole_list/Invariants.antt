use Rattle.std.proofs.Common.{◌≡◌, ◌≤◌, map, take, drop, length, vec_len}
use Rattle.sv_store.specs.OwnBlock.{whole_blocks}
use Rattle.sv_store.proofs.own_block.whole_list.Given as goal

abbrev pub invariant-loop-bytes : goal.invariant-loop-bytes
invariant-loop-bytes l = record {
  place : vec_len l.content ≤ length l.initial.content.items;
  content : l.content.items ≡ take (vec_len l.content) l.initial.content.items;
  list : l.list ≡ whole_blocks l.sizes (vec_len l.content) (drop (vec_len l.content) (map (λ bytes. bytes.items) l.initial.content.items));
}

abbrev pub decreases-loop-bytes : goal.decreases-loop-bytes
decreases-loop-bytes l = vec_len l.content
