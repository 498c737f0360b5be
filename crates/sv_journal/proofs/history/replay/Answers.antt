use Rattle.std.proofs.Common.{◌≡◌, ◌+◌, ◌++◌, [], ◌∷◌, List, take, sym, ap, subst, ◌∙◌}
use Rattle.std.proofs.lemmas.List.{take_more}
use Rattle.sv_plain.specs.declared.history.entry.Entry.{Entry}
use Rattle.sv_plain.specs.Fs.{Fs}
use Rattle.sv_plain.specs.History.{IsAllowed, IsLegal, after}
use Rattle.sv_plain.specs.Step.{change_of}
use Rattle.sv_journal.proofs.Replayed.{legal-more, after-more}
use Rattle.sv_journal.proofs.history.replay.Goals as goal

pub loop-i-preserved : goal.loop-i-preserved
loop-i-preserved c =
    let fs : Fs = c.args.fs in
    let x : Entry = c.index-entries-i.result in
    let h : List Entry = take c.loop-i.i c.args.entries.now in
    let more : take (c.loop-i.i + 1) c.args.entries.now ≡ h ++ x ∷ [] = take_more c.args.entries.now c.loop-i.i x c.loop-i-test.true ∙ ap (λ e. h ++ e ∷ []) (sym c.index-entries-i.is) in
    record {
      legal = subst (λ es. IsLegal es fs) (sym more) (legal-more h x fs c.loop-i.invariant.legal (subst (λ s. IsAllowed s x) c.loop-i.invariant.after c.in_ok-take.ensures.allowed));
      after = c.in_ok-take.ensures.after ∙ ap (λ s. change_of s x.process x.op x.reply) c.loop-i.invariant.after ∙ sym (after-more h x fs) ∙ sym (ap (λ es. after es fs) more);
      whole = c.in_ok-take.ensures.whole;
    }
