-- A history, one entry longer.
use Rattle.std.proofs.Common.{◌≡◌, List, [], ◌∷◌, ◌++◌, refl}
use Rattle.sv_plain.specs.declared.history.entry.Entry.{Entry}
use Rattle.sv_plain.specs.Fs.{Fs}
use Rattle.sv_plain.specs.History.{IsAllowed, IsLegal, after}
use Rattle.sv_plain.specs.Step.{change_of}

pub legal-more : (h : List Entry) (e : Entry) (a : Fs) → IsLegal h a → IsAllowed (after h a) e → IsLegal (h ++ e ∷ []) a
legal-more [] e a legal allowed = (allowed, tt)
legal-more (x ∷ h) e a legal allowed = (legal.0, legal-more h e (change_of a x.process x.op x.reply) legal.1 allowed)

pub after-more : (h : List Entry) (e : Entry) (a : Fs) → after (h ++ e ∷ []) a ≡ change_of (after h a) e.process e.op e.reply
after-more [] e a = refl
after-more (x ∷ h) e a = after-more h e (change_of a x.process x.op x.reply)
