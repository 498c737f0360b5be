-- A stake comes home, and an entry is added or not: the rule holds of the new state and the new view.
use Rattle.std.proofs.Common.{◌≡◌, ◌<◌, ◌≤◌, ◌++◌, ℕ, Bool, true, false, List, [], ◌∷◌, length, Option, Some, None, set, refl}
use Rattle.std.proofs.Common.{sym, ap, subst, ◌∙◌, arith}
use Rattle.std.specs.Prelude.{nat_eq}
use Rattle.std.proofs.lemmas.List.{length-map}
use Rattle.indexmap.specs.IndexMap.{get}
use Rattle.sv_plain.specs.declared.history.entry.Entry.{Entry}
use Rattle.sv_store.specs.Held.{Origin}
use Rattle.sv_plain.specs.Fs.{Fs}
use Rattle.sv_plain.specs.Names.{references_of}
use Rattle.sv_plain.specs.Totals.{one_if}
use Rattle.sv_files.specs.declared.in_core.InCore.{InCore}
use Rattle.sv_files.specs.declared.state.State.{State}
use Rattle.sv_files.specs.View.{View, Mount, Proc, Lock, Seen, of_one, lock_seen, times, all_procs, all_locks}
use Rattle.sv_files.specs.FileRule.{Counts, Guarded, Holds, IsNodeOf, Parts, at_home, core_of, guarded, home_at, is_faulty}
use Rattle.sv_files.specs.Adding.{HasCauseIn, HasOneLock, IsEntryOf, IsStill, KeepsAll, Sees, answered, answered_view, ended_view, failed}
use Rattle.sv_files.specs.Adding.{failed_view, home_faults, rise}
use Rattle.sv_files.proofs.HomeStakes.{home-set}
use Rattle.sv_files.proofs.Moves.{Moved, adds, away-home, inside-home, unlocks}

pub ended-last : (h : List Entry) (e : Entry) (now : ℕ) (v : View) → ended_view (h ++ e ∷ []) now v ≡ answered_view e now v
ended-last [] e now v = refl
ended-last (x ∷ []) e now v = refl
ended-last (x ∷ y ∷ h) e now v = ended-last (y ∷ h) e now v

one-if-cause : (t : Bool) (r : ℕ) → (t ≡ true → 0 < r) → one_if t ≤ r
one-if-cause true r cause = let some = cause refl in omega (arith, some)
one-if-cause false r cause = omega arith

module _ {S : Type 0} where
  -- what a pass with one lock sees
  sees : (seen : S → Seen) (m mount : Mount) (fs : Fs) (g : Guarded S) (p : Proc) (ps : List Proc) (ks : List Lock) (k : Lock)
      → Parts seen m fs g (p ∷ ps) (k ∷ ks) → Sees (of_one mount p (k ∷ [])) fs
  sees seen m mount fs g p ps ks k h = record {
    whole = h.follows.whole;
    references = (h.agrees.each.0.references, tt);
    locked = (
      subst (λ o. IsNodeOf o fs.nodes k.number k.core (lock_seen k)) (sym h.homes.away.0.stands.stands.origin)
          h.homes.away.0.stands,
      tt,
    );
    block = (h.follows.block ∙ ap (λ (o : Origin). o.sizes.block_size) (sym h.homes.away.0.stands.stands.origin), tt);
  }

  -- in some file system that the entry leads to
  pub record LeadsTo (fs : Fs) (g q : Guarded S) (p : Proc) (e : Entry) : Type 0 where
    pub after : Fs
    pub moved : Moved fs after g q p e

  answers : (seen : S → Seen) (m : Mount) (fs after : Fs) (g q : Guarded S) (p : Proc) (ps : List Proc) (ks : List Lock) (k : Lock) (n : ℕ)
      (x : S) (c : Option InCore) (e : Entry) → IsStill k n c (seen x) → p.process ≡ e.process
      → (is_faulty e.reply ≡ true → 0 < rise k.faults (seen x).faults) → q.stakes ≡ set g.stakes n (Some x) → Moved fs after g q p e
      → Parts seen m fs g (p ∷ ps) (k ∷ ks)
      → Parts seen m after q (answered e (rise k.faults (seen x).faults) p ∷ ps) ks
  answers seen m fs after g q p ps ks k n x c e still mine cause placed moved h =
      adds seen m fs after (record g { stakes = set g.stakes n (Some x) }) q (failed (rise k.faults (seen x).faults) p) ps ks e mine
      (record {
        step = moved.step;
        whole = moved.whole;
        nodes = moved.nodes;
        apart = moved.apart;
        mine = moved.mine;
        history = moved.history;
        core = moved.core;
        rest = moved.rest;
        shared = moved.shared;
        owed = moved.owed;
      }) placed
      (let few = h.counted.each.0 in let one = one-if-cause (is_faulty e.reply) (rise k.faults (seen x).faults) cause in
      omega (arith, few, one))
      (unlocks seen m fs g p ps ks n x k c still h)

  now-home : (seen : S → Seen) (stakes stakes' : List (Option S)) (n : ℕ) (x : S) → stakes' ≡ set stakes n (Some x) → n < length stakes
      → home_faults seen stakes' n ≡ (seen x).faults
  now-home seen stakes stakes' n x placed inside =
      ap (λ xs. home_faults seen xs n) placed ∙ ap (at_home seen (λ z. z.faults)) (home-set stakes n (Some x) inside)

  inside-one : (seen : S → Seen) (s : State S) (m : Mount) (p : Proc) (us : List View) (k : Lock) (n : ℕ) → k.number ≡ n
      → Holds seen s (of_one m p (k ∷ []) ∷ us) → n < length s.stakes.items
  inside-one seen s m p us k n number h =
      inside-home seen h.mount.origin h.fs.nodes s.stakes.items (core_of s) (all_locks us) n k number h.parts.homes

  pub room-one : (seen : S → Seen) (s : State S) (v : View) (us : List View) (k : Lock) (n : ℕ) → HasOneLock v k → k.number ≡ n
      → Holds seen s (v ∷ us) → (home_at s.stakes.items n ≡ None) × (n < length s.stakes.items)
  room-one seen s v us k n one number h =
      let g = subst (λ w. Holds seen s (w ∷ us)) one.is h in (
        away-home seen g.mount.origin g.fs.nodes s.stakes.items (core_of s) (all_locks us) n k number g.parts.homes,
        inside-one seen s one.mount one.proc us k n number g,
      )

  pub sees-one : (seen : S → Seen) (s : State S) (v : View) (us : List View) (k : Lock) → HasOneLock v k → (h : Holds seen s (v ∷ us))
      → Sees v h.fs
  sees-one seen s v us k one h =
      let p = subst (λ (w : View). Parts seen h.mount h.fs (guarded s) (w.procs ++ all_procs us) (w.locks ++ all_locks us)) one.is h.parts in
      subst (λ w. Sees w h.fs) (sym one.is) (sees seen h.mount one.mount h.fs (guarded s) one.proc (all_procs us) (all_locks us) k p)

  -- the entry stands last in t, where the stake is home
  pub answers-one : (seen : S → Seen) (s t : State S) (v : View) (us : List View) (k : Lock) (n : ℕ) (x : S) (c : Option InCore)
      (e : Entry) → (one : HasOneLock v k) → IsStill k n c (seen x) → IsEntryOf v e → HasCauseIn v (seen x).faults e
      → t.stakes.items ≡ set s.stakes.items n (Some x) → t.history.entries.items ≡ s.history.entries.items ++ e ∷ []
      → ((fs : Fs) → Sees v fs → Counts fs s.references.counts.items s.references.taken s.references.places
      → LeadsTo fs (guarded s) (guarded t) one.proc e)
      → Holds seen s (v ∷ us)
      → Holds seen t (ended_view t.history.entries.items (home_faults seen t.stakes.items n) v ∷ us)
  answers-one seen s t v us k n x c e one still mine cause placed added leads h =
      subst (λ w. Holds seen t (ended_view t.history.entries.items (home_faults seen t.stakes.items n) w ∷ us)) (sym one.is)
      (subst (λ w. Holds seen t (w ∷ us)) (sym view) (record {
        mount = g.mount;
        fs = to.after;
        same = (λ some. g.same.0 (omega arith), g.same.1);
        parts = answers seen g.mount g.fs to.after (guarded s) (guarded t) one.proc (all_procs us) (all_locks us) k n x c e still
            (subst (λ w. IsEntryOf w e) one.is mine).0 (subst (λ w. HasCauseIn w (seen x).faults e) one.is cause) placed to.moved g.parts;
      }))
    where
      g : Holds seen s (of_one one.mount one.proc (k ∷ []) ∷ us)
      g = subst (λ w. Holds seen s (w ∷ us)) one.is h

      to : LeadsTo g.fs (guarded s) (guarded t) one.proc e
      to = leads g.fs (subst (λ w. Sees w g.fs) (sym one.is) (sees seen g.mount one.mount g.fs (guarded s) one.proc (all_procs us)
          (all_locks us) k g.parts)) g.parts.shared

      view : ended_view t.history.entries.items (home_faults seen t.stakes.items n) (of_one one.mount one.proc (k ∷ []))
          ≡ answered_view e (seen x).faults (of_one one.mount one.proc (k ∷ []))
      view =
          ap (λ es. ended_view es (home_faults seen t.stakes.items n) (of_one one.mount one.proc (k ∷ []))) added
          ∙ ended-last s.history.entries.items e (home_faults seen t.stakes.items n) (of_one one.mount one.proc (k ∷ []))
          ∙ ap (λ j. answered_view e j (of_one one.mount one.proc (k ∷ []))) (now-home seen s.stakes.items t.stakes.items n x placed
          (inside-one seen s one.mount one.proc us k n still.number g))

  pub fails-one : (seen : S → Seen) (s t : State S) (v : View) (us : List View) (k : Lock) (n : ℕ) (x : S) (c : Option InCore)
      → HasOneLock v k → IsStill k n c (seen x) → guarded t ≡ record (guarded s) { stakes = set s.stakes.items n (Some x) }
      → Holds seen s (v ∷ us)
      → Holds seen t (failed_view (home_faults seen t.stakes.items n) v ∷ us)
  fails-one seen s t v us k n x c one still same h =
      subst (λ w. Holds seen t (failed_view (home_faults seen t.stakes.items n) w ∷ us)) (sym one.is)
      (subst (λ w. Holds seen t (w ∷ us)) (sym view) (record {
        mount = g.mount;
        fs = g.fs;
        same = (λ some. g.same.0 (omega arith), g.same.1);
        parts = subst (λ q. Parts seen g.mount g.fs q (failed (rise k.faults (seen x).faults) one.proc ∷ all_procs us) (all_locks us))
            (sym same) (unlocks seen g.mount g.fs (guarded s) one.proc (all_procs us) (all_locks us) n x k c still g.parts);
      }))
    where
      g : Holds seen s (of_one one.mount one.proc (k ∷ []) ∷ us)
      g = subst (λ w. Holds seen s (w ∷ us)) one.is h

      view : failed_view (home_faults seen t.stakes.items n) (of_one one.mount one.proc (k ∷ []))
          ≡ failed_view (seen x).faults (of_one one.mount one.proc (k ∷ []))
      view =
          ap (λ j. failed_view j (of_one one.mount one.proc (k ∷ []))) (now-home seen s.stakes.items t.stakes.items n x
          (ap (λ (q : Guarded S). q.stakes) same) (inside-one seen s one.mount one.proc us k n still.number g))

  -- a step that changes nothing leads to where it began
  pub keeps-one : (s t : State S) (v : View) (k : Lock) (e : Entry) (one : HasOneLock v k) → KeepsAll v e → IsEntryOf v e
      → t.history.entries.items ≡ s.history.entries.items ++ e ∷ [] → t.history.owed ≡ s.history.owed → t.table ≡ s.table
      → t.rest ≡ s.rest → t.references ≡ s.references → (fs : Fs) → Sees v fs
      → Counts fs s.references.counts.items s.references.taken s.references.places → LeadsTo fs (guarded s) (guarded t) one.proc e
  keeps-one s t v k e one keeps mine added owed table rest references fs sees shared = record {
    after = fs;
    moved = record {
      step = keeps.steps fs sees;
      whole = sees.whole;
      nodes = refl;
      apart = λ r i other. refl;
      mine = subst (λ rs. (i : ℕ) → references_of fs e.process i ≡ times i rs) (sym (keeps.none one.proc.references))
          (subst (λ r. (i : ℕ) → references_of fs r i ≡ times i one.proc.references) (subst (λ w. IsEntryOf w e) one.is mine).0
          (subst (λ w. Sees w fs) one.is sees).references.0);
      history = added;
      core = ap (λ q i. get nat_eq q i) table;
      rest = ap (λ q. q.stake) rest;
      shared = subst (λ r. Counts fs r.counts.items r.taken r.places) (sym references) shared;
      owed = rw (keeps.none one.proc.references, owed) refl;
    };
  }

-- a view keeps its weight
pub same-answered : (e : Entry) (now : ℕ) (v : View) → length (answered_view e now v).procs ≡ length v.procs
same-answered e now v = length-map v.procs _

pub same-ended : (h h' : List Entry) (e : Entry) (now : ℕ) (v : View) → h' ≡ h ++ e ∷ []
    → length (ended_view h' now v).procs ≡ length v.procs
same-ended h h' e now v added =
    ap (λ es. length (ended_view es now v).procs) added ∙ ap (λ (w : View). length w.procs) (ended-last h e now v)
    ∙ same-answered e now v

module _ {S : Type 0} where
  pub ended-home : (seen : S → Seen) (stakes stakes' : List (Option S)) (n : ℕ) (x : S) (h h' : List Entry) (e : Entry) (v : View)
      → stakes' ≡ set stakes n (Some x) → n < length stakes → h' ≡ h ++ e ∷ []
      → ended_view h' (home_faults seen stakes' n) v ≡ answered_view e (seen x).faults v
  ended-home seen stakes stakes' n x h h' e v placed inside added =
      ap (λ es. ended_view es (home_faults seen stakes' n) v) added ∙ ended-last h e (home_faults seen stakes' n) v
      ∙ ap (λ j. answered_view e j v) (now-home seen stakes stakes' n x placed inside)

  pub failed-home : (seen : S → Seen) (stakes stakes' : List (Option S)) (n : ℕ) (x : S) (v : View)
      → stakes' ≡ set stakes n (Some x) → n < length stakes
      → failed_view (home_faults seen stakes' n) v ≡ failed_view (seen x).faults v
  failed-home seen stakes stakes' n x v placed inside = ap (λ j. failed_view j v) (now-home seen stakes stakes' n x placed inside)
