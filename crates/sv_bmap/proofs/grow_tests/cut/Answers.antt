-- Each part is one block more.
use Rattle.std.proofs.Common.{◌≡◌, ◌+◌, length, refl, ap, ◌∙◌, arith}
use Rattle.std.proofs.lemmas.List.{length-map}
use Rattle.sv_store.specs.Held.{Lent, nothing_lent}
use Rattle.sv_store.specs.OwnBlock.{held_of, lent_of}
use Rattle.sv_bmap.proofs.Cut.{origin_of, cut-none, cut-can, cut-pushed, cut-all, all-pushed}
use Rattle.sv_bmap.proofs.grow_tests.cut.Goals as goal

pub loop-k-init : goal.loop-k-init
loop-k-init c =
    let none : length c.new-parts.result.items ≡ 0 = ap length c.new-parts.ensures.items in
    record {
      cut = cut-none _ _ (length-map c.new-parts.result.items (λ s. held_of s.blocks) ∙ none) c.requires.held;
      away = λ k d low. absurd (omega (arith, low, none));
      home = λ k d low. absurd (omega (arith, low, none));
      lends = c.requires.lent;
      origin = refl;
    }

pub part-requires : goal.part-requires
part-requires c = cut-can c.loop-k.k c.loop-k.invariant.cut (omega (arith, c.loop-k-test.true))
    (ap (λ (q : Lent). q (100 + c.loop-k.k)) c.loop-k.invariant.lends)

pub loop-k-preserved : goal.loop-k-preserved
loop-k-preserved c = record {
  cut = cut-pushed (λ s. held_of s.blocks) c.loop-k.parts.items c.add_part.new.parts.items c.in_ok-part.part c.loop-k.k
      c.loop-k.invariant.cut (omega (arith, c.loop-k-test.true)) c.in_ok-part.ensures.ok c.in_ok-add_part.ensures;
  away = all-pushed (λ s. lent_of s.blocks ≡ nothing_lent) _ _ _ c.in_ok-add_part.ensures c.loop-k.invariant.away
      c.in_ok-part.ensures.new_lent;
  home = all-pushed (λ s. origin_of s.tally s.sizes ≡ origin_of c.args.stake.now.tally c.args.stake.now.sizes) _ _ _
      c.in_ok-add_part.ensures c.loop-k.invariant.home (c.in_ok-part.ensures.new_origin ∙ c.loop-k.invariant.origin);
  lends = c.part.ensures.lends ∙ c.loop-k.invariant.lends;
  origin = c.part.ensures.origin ∙ c.loop-k.invariant.origin;
}

pub returns-clause-cut : goal.returns-clause-cut
returns-clause-cut c = cut-all c.loop-k.k 4 (omega (arith, c.loop-k-test.false, c.loop-k.auto.k-end)) c.loop-k.invariant.cut

pub returns-clause-home : goal.returns-clause-home
returns-clause-home c = c.loop-k.invariant.home
