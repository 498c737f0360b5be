-- After a purge that is done, a whole file system with no pending link is at rest.
use Rattle.std.proofs.Common.{◌≡◌, ◌≢◌, ◌≤◌, ◌==◌, ◌∙◌, ℕ, Bool, not, true, false, Option, Some, None, ap, sym, refl, cond, arith}
use Rattle.std.specs.FinMap as map
use Rattle.sv_form.specs.Node.{Node}
use Rattle.sv_plain.specs.declared.history.op.Op.TheVariants.{Purge}
use Rattle.sv_plain.specs.declared.history.reply.Reply.TheVariants.{Done}
use Rattle.sv_plain.specs.Fs.{Fs}
use Rattle.sv_plain.specs.Names.{is_idle}
use Rattle.sv_plain.specs.Step.{Step}
use Rattle.sv_plain.specs.Unlinked.{has_no_links}
use Rattle.sv_plain.specs.Whole.{IsWhole}
use Rattle.sv_plain.proofs.KeptByAll.{keeps-step}
use Rattle.sv_plain.proofs.Purged.{get-left}
use Rattle.sv_check.proofs.BooleanTests.{and_right}
use Rattle.sv_files.specs.ConverseNames.{IsAtRest, PurgedIsAtRest}

-- a node that stays has links
links_by : (node m : Node) (t : Bool) → (m.links == 0) ≡ t → cond (not t) (Some m) None ≡ Some node → 1 ≤ node.links
links_by node m true is e = let bad : ⊥ = cc e in absurd bad
links_by node m false is e =
    let same : m ≡ node = cc e in
    let some : m.links ≢ 0 = grind (arith, is) in
    let links : m.links ≡ node.links = ap (λ (x : Node). x.links) same in
    omega (arith, some, links)

left_linked : (node : Node) (o : Option Node) → cond (not (has_no_links o)) o None ≡ Some node → 1 ≤ node.links
left_linked node None e = let bad : ⊥ = cc e in absurd bad
left_linked node (Some m) e = links_by node m (m.links == 0) refl e

module _ (fs after : Fs) (whole : IsWhole fs) (settled : (p : ℕ) → map.get fs.pending p ≡ None) (step : Step fs 0 Purge Done after) where
  idle : is_idle fs ≡ true
  idle = and_right (0 == 0) (is_idle fs) step.allowed

  linked : (i : ℕ) (node : Node) → map.get after.nodes i ≡ Some node → 1 ≤ node.links
  linked i node there =
      left_linked node (map.get fs.nodes i)
      (sym (get-left fs idle i) ∙ ap (λ (s : Fs). map.get s.nodes i) (sym step.changed) ∙ there)

  at_rest : IsAtRest after
  at_rest = record {
    whole = keeps-step Purge tt fs after 0 Done whole step;
    linked = linked;
    settled = λ p. ap (λ (s : Fs). map.get s.pending p) step.changed ∙ settled p;
  }

pub purged_at_rest : PurgedIsAtRest
purged_at_rest fs after whole settled step = at_rest fs after whole settled step
