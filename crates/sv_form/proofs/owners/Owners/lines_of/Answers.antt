use Rattle.std.proofs.Common.{◌==◌, ◌∙◌, ℕ, ap, sym, List, ◌++◌, get_or, if◌then◌else◌, ◌∷◌, []}
use Rattle.sv_form.proofs.OwnerLemmas.{owned_more}
use Rattle.sv_form.proofs.owners.Owners.lines_of.Goals as goal

pub loop-line-preserved : goal.loop-line-preserved
loop-line-preserved c = record {
  lines = c.in_ok-add_owned.ensures.lines
      ∙ ap (λ (l : List ℕ). l ++ (if get_or c.args.self.now.owners c.loop-line.line 0 == c.args.n then c.loop-line.line ∷ [] else [])) c.loop-line.invariant.lines
      ∙ sym (owned_more (λ k. get_or c.args.self.now.owners k 0 == c.args.n) c.loop-line.line);
  each = c.in_ok-add_owned.ensures.ranges;
}
