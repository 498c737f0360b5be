-- An entry all of whose lines go is moved as it is.
use Rattle.std.proofs.Common.{◌≡◌, ◌+◌, ◌≤◌, ◌++◌, ◌∷◌, [], true, not, length, drop, get_or, sym, ap, ◌∙◌, subst, arith}
use Rattle.sv_store.specs.Held.{in_ranges}
use Rattle.sv_store.specs.OwnBlock.{OwnBlock, nowhere, masked, left, has_none_else}
use Rattle.sv_store.proofs.OwnParts.{take-one}
use Rattle.sv_store.proofs.OwnCut.{front-is, range-held, whole-gone, moved-whole, shorter}
use Rattle.sv_store.proofs.own_cut.cut_front.Goals as goal

pub holds_only-requires : goal.holds_only-requires
holds_only-requires c =
    (let P : OwnBlock → Type 0 = λ q. c.args.range.first + c.args.range.count ≤ length q.lines in
    subst P (sym (front-is c.args.blocks.now c.in-Some.own.now c.requires.some c.in-Some.ensures.lookup)) (range-held c.args.range (get_or c.args.blocks.now 0 nowhere) c.requires.holds).fits)

pub returns-then-holds_only-clause-blocks : goal.returns-then-holds_only-clause-blocks
returns-then-holds_only-clause-blocks c =
    c.move_front.ensures.blocks
    ∙ sym (ap (λ q. q ++ drop 1 c.args.blocks.now) (ap (left (masked (λ b l. not (in_ranges (c.args.range ∷ []) b l)))) (take-one c.args.blocks.now nowhere c.requires.some) ∙ whole-gone c.args.range (get_or c.args.blocks.now 0 nowhere) (range-held c.args.range (get_or c.args.blocks.now 0 nowhere) c.requires.holds) only))
  where
    only : has_none_else (get_or c.args.blocks.now 0 nowhere).lines c.args.range.first c.args.range.count ≡ true
    only =
        ap (λ (q : OwnBlock). has_none_else q.lines c.args.range.first c.args.range.count) (sym (front-is c.args.blocks.now c.in-Some.own.now c.requires.some c.in-Some.ensures.lookup)) ∙ (sym c.holds_only.ensures ∙ c.if-holds_only.true)

pub returns-then-holds_only-clause-taken : goal.returns-then-holds_only-clause-taken
returns-then-holds_only-clause-taken c = record {
  bytes = c.requires.home.0;
  size = c.requires.home.1.1;
  added =
      c.move_front.ensures.taken
      ∙ ap (λ q. c.args.taken.now ++ q) (take-one c.args.blocks.now nowhere c.requires.some ∙ ap (λ q. q ∷ []) (moved-whole c.args.range (get_or c.args.blocks.now 0 nowhere) c.requires.home.0 (range-held c.args.range (get_or c.args.blocks.now 0 nowhere) c.requires.holds) only c.requires.home.1.0));
}
  where
    only : has_none_else (get_or c.args.blocks.now 0 nowhere).lines c.args.range.first c.args.range.count ≡ true
    only =
        ap (λ (q : OwnBlock). has_none_else q.lines c.args.range.first c.args.range.count) (sym (front-is c.args.blocks.now c.in-Some.own.now c.requires.some c.in-Some.ensures.lookup)) ∙ (sym c.holds_only.ensures ∙ c.if-holds_only.true)

pub returns-clause-fewer : goal.returns-clause-fewer
returns-clause-fewer c = omega (arith, ap length c.lose_front.ensures, shorter (masked (λ b l. not (in_ranges (c.args.range ∷ []) b l))) c.args.blocks.now)
