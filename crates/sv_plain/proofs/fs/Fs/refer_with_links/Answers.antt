use Rattle.std.proofs.Common.{◌≡◌, true, sym, ap, subst, ◌∙◌}
use Rattle.sv_plain.specs.Fs.{Fs}
use Rattle.sv_plain.specs.Names.{has_reference}
use Rattle.sv_plain.specs.Change.{with_reference, without_reference}
use Rattle.sv_plain.proofs.TakenBack.{has-one_more, reference-back}
use Rattle.sv_plain.proofs.fs.Fs.refer_with_links.Goals as goal

pub remove_reference-requires-clause-there : goal.remove_reference-requires-clause-there
remove_reference-requires-clause-there c =
    let fs : Fs = c.args.self.now in
    let same : c.set_links.new.self ≡ with_reference fs c.args.process c.args.i = c.in_default.ensures.refused ∙ c.in_ok-add_reference.ensures.added in
    ap (λ (s : Fs). has_reference s c.args.process c.args.i) same ∙ has-one_more fs c.args.process c.args.i

pub returns-in_default-clause-refused : goal.returns-in_default-clause-refused
returns-in_default-clause-refused c =
    let fs : Fs = c.args.self.now in
    let same : c.set_links.new.self ≡ with_reference fs c.args.process c.args.i = c.in_default.ensures.refused ∙ c.in_ok-add_reference.ensures.added in
    c.remove_reference.ensures ∙ ap (λ (s : Fs). without_reference s c.args.process c.args.i) same ∙ reference-back fs c.args.process c.args.i c.requires.whole
