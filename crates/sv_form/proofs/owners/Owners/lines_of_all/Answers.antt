-- Each line goes to its owner.
use Rattle.std.proofs.Common.{◌≡◌, ◌==◌, ◌∙◌, ◌+◌, ◌<◌, ℕ, All, ap, sym, subst, List, ◌++◌, arith, get_or, if◌then◌else◌, ◌∷◌, []}
use Rattle.std.specs.List.{flat_map}
use Rattle.std.proofs.lemmas.List.Elements.{All-nil}
use Rattle.sv_form.specs.declared.owners.LineRange.{LineRange}
use Rattle.sv_form.specs.Owners.{IsRange, range_lines}
use Rattle.sv_form.proofs.OwnerLemmas.{owned_more}
use Rattle.sv_form.proofs.owners.Owners.lines_of_all.Goals as goal

pub loop-line-init : goal.loop-line-init
loop-line-init c = record {
  count = c.in_ok-all.ensures.count ∙ ap (λ q. q + 1) c.from.ensures;
  lines = λ n low. ap (flat_map (range_lines c.args.self.now.geometry)) (c.in_ok-all.ensures.none n);
  each = λ n low. subst (λ (q : List LineRange). All (IsRange c.args.self.now.geometry) q) (sym (c.in_ok-all.ensures.none n))
      (All-nil (IsRange c.args.self.now.geometry));
}

pub loop-line-preserved : goal.loop-line-preserved
loop-line-preserved c = record {
  count = c.add_to_owner.ensures.count ∙ c.loop-line.invariant.count;
  lines = λ n low.
      (c.in_ok-add_to_owner.ensures.lines n (omega (arith, low, c.loop-line.invariant.count))).lines
      ∙ (ap (λ (l : List ℕ). l
      ++ (if get_or c.args.self.now.owners c.loop-line.line 0 == n then c.loop-line.line ∷ [] else [])) (c.loop-line.invariant.lines n low)
      ∙ sym (owned_more (λ k. get_or c.args.self.now.owners k 0 == n) c.loop-line.line));
  each = λ n low. (c.in_ok-add_to_owner.ensures.lines n (omega (arith, low, c.loop-line.invariant.count))).each;
}
