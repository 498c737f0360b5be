-- The blocks are taken from the last one on.
use Rattle.std.proofs.Common.{◌≡◌, ◌<◌, ◌+◌, ◌-◌, [], ℕ, Vec, Global, Option, length, map, take, drop, get_or, unwrap_or, vec_len, sym, ap, ◌∙◌, arith}
use Rattle.std.proofs.lemmas.List.{take_all, take-take, get_or-take, get_or-map, length-map}
use Rattle.sv_store.specs.OwnBlock.{whole_block, whole_blocks}
use Rattle.sv_store.proofs.OwnWhole.{whole-none, whole-step}
use Rattle.sv_store.proofs.own_block.whole_list.Goals as goal

pub loop-bytes-init : goal.loop-bytes-init
loop-bytes-init c = record {
  place = omega (arith, c.args.content.ok.0);
  content = sym (take_all (vec_len c.args.content) c.args.content.items (omega (arith, c.args.content.ok.0)));
  list = c.new-list.ensures ∙ whole-none c.args.sizes (map (λ bytes. bytes.items) c.args.content.items) (vec_len c.args.content) (omega (arith, length-map c.args.content.items (λ bytes. bytes.items), c.args.content.ok.0));
}

pub loop-bytes-preserved : goal.loop-bytes-preserved
loop-bytes-preserved c =
    let less : vec_len c.pop.new.self + 1 ≡ vec_len c.loop-bytes.content = c.in-Some.ensures.cases in
    let before : vec_len c.loop-bytes.content - 1 ≡ vec_len c.pop.new.self = omega (arith, less) in
    let below : vec_len c.pop.new.self < length c.args.content.items = omega (arith, less, c.loop-bytes.invariant.place) in
    record {
      place = omega (arith, below);
      content =
          c.in-Some.ensures.rest
          ∙ (ap (take (vec_len c.loop-bytes.content - 1)) c.loop-bytes.invariant.content
          ∙ (take-take (vec_len c.loop-bytes.content - 1) (vec_len c.loop-bytes.content) c.args.content.items (omega arith) ∙ ap (λ q. take q c.args.content.items) before));
      list =
          c.in_ok-push_front.ensures.items
          ∙ whole-step c.args.sizes (map (λ bytes. bytes.items) c.args.content.items) (vec_len c.pop.new.self) c.loop-bytes.list c.in_ok-own.own c.in-Some.bytes.items
          (omega (arith, below, length-map c.args.content.items (λ bytes. bytes.items)))
          (c.loop-bytes.invariant.list ∙ ap (λ q. whole_blocks c.args.sizes q (drop q (map (λ bytes. bytes.items) c.args.content.items))) (sym less))
          (c.in_ok-own.ensures ∙ ap (λ q. whole_block c.args.sizes q c.in-Some.bytes.items) c.len-block.ensures)
          (ap (λ (q : Option (Vec ℕ Global)). (unwrap_or q c.in-Some.bytes).items) (c.in-Some.ensures.value c.in-Some.bytes (omega (arith, less)))
          ∙ (ap (λ q. (get_or q (vec_len c.loop-bytes.content - 1) c.in-Some.bytes).items) c.loop-bytes.invariant.content
          ∙ (ap (λ (q : Vec ℕ Global). q.items) (get_or-take (vec_len c.loop-bytes.content) c.args.content.items (vec_len c.loop-bytes.content - 1) c.in-Some.bytes (omega (arith, less)))
          ∙ (ap (λ q. (get_or c.args.content.items q c.in-Some.bytes).items) before
          ∙ sym (get_or-map (λ bytes. bytes.items) c.args.content.items (vec_len c.pop.new.self) c.in-Some.bytes [] below)))));
    }

pub overflow_cast-block : goal.overflow_cast-block
overflow_cast-block c =
    let less : vec_len c.pop.new.self + 1 ≡ vec_len c.loop-bytes.content = c.in-Some.ensures.cases in
    omega (arith, less, c.len-block.ensures, c.loop-bytes.invariant.place, c.requires.blocks, c.requires.sizes.most_blocks)

pub returns : goal.returns
returns c =
    c.loop-bytes.invariant.list ∙ ap (λ q. whole_blocks c.args.sizes q (drop q (map (λ bytes. bytes.items) c.args.content.items))) c.in_default.ensures.cases.0
