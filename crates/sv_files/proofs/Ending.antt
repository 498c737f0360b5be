-- What the rule says once one pass stands for all processes.
use Rattle.std.proofs.Common.{◌≡◌, ◌≤◌, List, [], ◌∷◌}
use Rattle.sv_turn.specs.Turning.{total}
use Rattle.sv_plain.specs.History.{own}
use Rattle.sv_plain.proofs.HistorySteps.{leads-legal}
use Rattle.sv_files.specs.declared.state.State.{State}
use Rattle.sv_files.specs.View.{View, Seen, Each, first_fs}
use Rattle.sv_files.specs.FileRule.{Holds, IsAgreed, faulty}
use Rattle.sv_files.specs.Calls.{HasHistory}
use Rattle.sv_files.specs.Laws.{each-left}

module _ {A : Type 0} where
  each-more : (P Q : A → Type 0) (xs : List A) → ((x : A) → P x → Q x) → Each P xs → Each Q xs
  each-more P Q [] all each = tt
  each-more P Q (x ∷ xs) all each = (all x each.0, each-more P Q xs all each.1)

pub ends : {S : Type 0} (seen : S → Seen) (s : State S) (v : View) → Holds seen s (v ∷ []) → HasHistory v s.history.entries.items
ends seen s v h = record {
  mount = h.mount;
  known = h.same.0;
  last = h.fs;
  leads = h.parts.follows.leads;
  legal = leads-legal s.history.entries.items (first_fs h.mount) h.fs h.parts.follows.leads;
  whole = h.parts.follows.whole;
  entries = each-more (IsAgreed h.mount h.fs s.history.entries.items) (λ p. own s.history.entries.items p.process ≡ p.entries) v.procs
      (λ p is. is.entries) (each-left (IsAgreed h.mount h.fs s.history.entries.items) v.procs [] h.parts.agrees.each);
  faults = each-left (λ p. total faulty p.entries ≤ p.faults) v.procs [] h.parts.counted.each;
}
