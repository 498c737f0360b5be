use Rattle.std.proofs.Common.{◌≡◌, ◌∙◌, List, ℕ, length, sym, subst}
use Rattle.std.proofs.lemmas.Bool.{false≢true}
use Rattle.sv_form.specs.Number.{IsZero}
use Rattle.sv_form.specs.Entry.{filled}
use Rattle.sv_form.proofs.EntryLemmas.{front_is, name_read, no_name_read, IsZero-zeros}
use Rattle.sv_form.proofs.entry.read_name.Goals as goal

pub returns-then-not-is_zero-clause-none : goal.returns-then-not-is_zero-clause-none
returns-then-not-is_zero-clause-none c = λ name named is.
    let cut = front_is name c.args.field.now c.before_zero.result named is c.before_zero.ensures.within c.before_zero.ensures.before c.before_zero.ensures.zero in
    let zeros : c.split_at.result.1.now ≡ _ = c.split_at.ensures.back ∙ cut.1 in
    false≢true (sym c.if-not-is_zero.true ∙ c.is_zero.ensures.1 (subst (λ (r : List ℕ). IsZero r 0 (length c.split_at.result.1.now)) (sym zeros) (IsZero-zeros _ _)))

pub returns-clause-some : goal.returns-clause-some
returns-clause-some c = name_read c.read.result c.split_at.result.0.now c.split_at.result.1.now c.args.field.now c.read.ensures.variant c.read.ensures.value c.split_at.ensures.by_index.0 c.requires (c.is_zero.ensures.0 c.if-not-is_zero.false)

pub returns-clause-none : goal.returns-clause-none
returns-clause-none c = no_name_read c.read.result c.split_at.result.0.now c.read.ensures.variant (λ name. c.args.field.now ≡ filled name) (λ name named is.
    let cut = front_is name c.args.field.now c.before_zero.result named is c.before_zero.ensures.within c.before_zero.ensures.before c.before_zero.ensures.zero in
    c.split_at.ensures.front ∙ cut.0)
