use Rattle.std.proofs.Common.{◌≡◌, OnOk, sym, ap, subst, ◌∙◌}
use Rattle.std.specs.FinSet as set
use Rattle.sv_form.specs.Pair.{pair_cmp, pair_cmp_total, pair_cmp-IsAntisymmetric}
use Rattle.sv_plain.specs.Blocks.{with_blocks}
use Rattle.sv_plain.proofs.Undone.{set_remove-insert, set_insert-known}
use Rattle.sv_plain.proofs.node.blocks.+put_blocks.Goals as goal

pub returns-then-contains-clause-put : goal.returns-then-contains-clause-put
returns-then-contains-clause-put t c =
    let known = set_insert-known pair_cmp_total pair_cmp-IsAntisymmetric c.args.blocks.now c.in-Some.field-0-0.now (sym c.contains.ensures ∙ c.if-contains.true) in
    subst (λ (w : set.FinSet pair_cmp). OnOk c.put_blocks.result (c.put_blocks.new.blocks ≡ w))
    (ap (λ s. with_blocks s c.in-Some.rest.now) (sym known) ∙ ap (with_blocks c.args.blocks.now) (sym c.in-Some.ensures.cases.0))
    c.put_blocks.ensures.put

pub returns-in_default-put_blocks-clause-refused : goal.returns-in_default-put_blocks-clause-refused
returns-in_default-put_blocks-clause-refused t c =
    c.remove.ensures
    ∙ ap (λ s. set.remove s c.in-Some.field-0-0.now) (c.in_default-put_blocks.ensures.refused ∙ c.in_ok-insert.ensures.put)
    ∙ set_remove-insert pair_cmp_total pair_cmp-IsAntisymmetric c.args.blocks.now c.in-Some.field-0-0.now (sym c.contains.ensures ∙ c.if-contains.false)
