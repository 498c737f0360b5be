-- How a stake goes from its home to a lock and back, and how an entry is added: the rule's parts before and after.
use Rattle.std.proofs.Common.{◌≡◌, ◌≢◌, ◌+◌, ◌-◌, ◌<◌, ◌≤◌, ◌==◌, ◌++◌, ℕ, Bool, true, false, cond, min, List, [], ◌∷◌, length, set}
use Rattle.std.proofs.Common.{Option, Some, None, is_some, refl, sym, ap, subst, ◌∙◌, arith, add-zero}
use Rattle.std.proofs.Math.Nat.{min-le_left, min-le_right, sub-add-min_cancel}
use Rattle.std.proofs.lemmas.Bool.{cases_eq}
use Rattle.std.proofs.lemmas.Bool.Decides.{nat_tests}
use Rattle.std.specs.Ordering.{nat_cmp}
use Rattle.std.specs.FinMap as map
use mathlib.Core.Logic.{inl, inr}
use Rattle.sv_dev.specs.Causes.{last_count}
use Rattle.sv_form.specs.Node.{Node}
use Rattle.sv_form.specs.Geometry.{inode_place}
use Rattle.sv_store.specs.Held.{Origin, nothing_lent}
use Rattle.sv_inode.specs.StandsFor.{StandsFor}
use Rattle.sv_inode.specs.Truncate.{HoldsOnly}
use Rattle.sv_turn.specs.Turning.{total}
use Rattle.sv_plain.specs.declared.history.entry.Entry.{Entry}
use Rattle.sv_plain.specs.Fs.{Fs}
use Rattle.sv_plain.specs.Step.{Step}
use Rattle.sv_plain.specs.History.{own}
use Rattle.sv_plain.specs.Totals.{one_if}
use Rattle.sv_plain.specs.Whole.{IsWhole}
use Rattle.sv_plain.specs.HistoryLaws.{HasSizesOf}
use Rattle.sv_plain.specs.Names.{references_of}
use Rattle.sv_plain.proofs.HistorySteps.{leads-further, leads-sizes, own-further}
use Rattle.std.specs.Prelude.{nat_eq}
use Rattle.indexmap.specs.IndexMap.{get}
use Rattle.sv_files.specs.declared.in_core.InCore.{InCore}
use Rattle.sv_files.specs.declared.state.State.{State}
use Rattle.sv_files.specs.View.{Mount, Proc, Lock, Seen, Each, lock_seen, times}
use Rattle.sv_files.specs.FileRule.{Agrees, Counts, Follows, Guarded, Homes, IsAgreed, IsNodeOf, Lines, Parts, StandsAs}
use Rattle.sv_files.specs.FileRule.{at_home, core_of, faulty, forcings, guarded, has_line, home_at, locks_on, names, over_all, proc_faults, syncs}
use Rattle.sv_files.specs.Adding.{IsStill, failed, references_after, rise}
use Rattle.sv_files.specs.Laws.{total-append}
use Rattle.sv_files.proofs.HomeStakes.{home-set, home-others, home-total, home-inside, length-placed}

pub one-if-same : (a b : ℕ) → a ≡ b → one_if (a == b) ≡ 1
one-if-same a b e = ap one_if (yes a b e)
  where
    yes : (a b : ℕ) → a ≡ b → (a == b) ≡ true
    yes a b e = grind (nat_tests, arith)

pub one-if-apart : (a b : ℕ) → a ≢ b → one_if (a == b) ≡ 0
one-if-apart a b n = ap one_if (apart a b n)
  where
    apart : (a b : ℕ) → a ≢ b → (a == b) ≡ false
    apart a b n = grind (nat_tests, arith)

pub one-if-le : (t : Bool) → one_if t ≤ 1
one-if-le true = omega arith
one-if-le false = omega arith

own-mine : (history : List Entry) (e : Entry) (q : ℕ) → q ≡ e.process → own (history ++ e ∷ []) q ≡ own history q ++ e ∷ []
own-mine history e q mine =
    own-further history e q ∙ ap (λ t. cond t (own history q ++ e ∷ []) (own history q)) (yes e.process q (sym mine))
  where
    yes : (a b : ℕ) → a ≡ b → (a == b) ≡ true
    yes a b e = grind (nat_tests, arith)

own-other : (history : List Entry) (e : Entry) (q : ℕ) → one_if (q == e.process) ≡ 0 → own (history ++ e ∷ []) q ≡ own history q
own-other history e q other =
    own-further history e q ∙ ap (λ t. cond t (own history q ++ e ∷ []) (own history q)) (off (e.process == q) refl)
  where
    turned : (a b : ℕ) → (a == b) ≡ true → one_if (b == a) ≡ 1
    turned a b e = one-if-same b a (sym (same a b e))
      where
        same : (a b : ℕ) → (a == b) ≡ true → a ≡ b
        same a b e = grind (nat_tests, arith)

    off : (t : Bool) → (e.process == q) ≡ t → t ≡ false
    off true is = absurd (omega (arith, turned e.process q is, other))
    off false is = refl

pub none-of : {A : Type 0} (o : Option A) → one_if (is_some o) ≡ 0 → o ≡ None
none-of None e = refl
none-of (Some x) e = absurd (omega (arith, e))

-- what is said of the others, once an entry of process q was added
others-stay : (m : Mount) (fs after : Fs) (history : List Entry) (e : Entry) (ps : List Proc)
    → ((r i : ℕ) → r ≢ e.process → references_of after r i ≡ references_of fs r i) → total (names e.process) ps ≡ 0
    → Each (IsAgreed m fs history) ps → Each (IsAgreed m after (history ++ e ∷ [])) ps
others-stay m fs after history e [] apart none each = tt
others-stay m fs after history e (p ∷ ps) apart none each = (
  record {
    most = each.0.most;
    references = λ i. apart p.process i (other p.process e.process (omega (arith, none))) ∙ each.0.references i;
    entries = own-other history e p.process (omega (arith, none)) ∙ each.0.entries;
  },
  others-stay m fs after history e ps apart (omega (arith, none)) each.1,
)
  where
    other : (a b : ℕ) → one_if (a == b) ≡ 0 → a ≢ b
    other a b none same = absurd (omega (arith, one-if-same a b same, none))

module _ {S : Type 0} where
  abbrev IsSame : (h h' : List Entry) (o o' : ℕ) (x x' : List (Option S)) (f f' : ℕ → Option InCore) (r r' : S) (c c' : List ℕ)
      (t t' p p' : ℕ) → Type 0
  IsSame h h' o o' x x' f f' r r' c c' t t' p p' = (◌≡◌ {A = Guarded S}
      (record { history = h'; owed = o'; stakes = x'; core = f'; rest = r'; counts = c'; taken = t'; places = p' })
      (record { history = h; owed = o; stakes = x; core = f; rest = r; counts = c; taken = t; places = p }))

  same-guarded : (h h' : List Entry) (o o' : ℕ) (x x' : List (Option S)) (f f' : ℕ → Option InCore) (r r' : S) (c c' : List ℕ) (t t' p p' : ℕ)
      → h' ≡ h → o' ≡ o → x' ≡ x → f' ≡ f → r' ≡ r → c' ≡ c → t' ≡ t → p' ≡ p → IsSame h h' o o' x x' f f' r r' c c' t t' p p'
  same-guarded h h' o o' x x' f f' r r' c c' t t' p p' eh eo ex ef er ec et ep = rw (eh, eo, ex, ef, er, ec, et, ep) refl

  -- what is guarded, where the stakes at home alone changed
  pub home-alone : (t s : State S) (stakes : List (Option S)) → t.stakes.items ≡ stakes → t.table ≡ s.table → t.rest ≡ s.rest
      → t.references ≡ s.references → t.history.entries.items ≡ s.history.entries.items → t.history.owed ≡ s.history.owed
      → guarded t ≡ record (guarded s) { stakes = stakes }
  home-alone t s stakes at table rest references entries owed =
      same-guarded s.history.entries.items t.history.entries.items s.history.owed t.history.owed stakes t.stakes.items (core_of s) (core_of t)
      s.rest.stake t.rest.stake s.references.counts.items t.references.counts.items s.references.taken t.references.taken
      s.references.places t.references.places entries owed at (ap (λ q n. get nat_eq q n) table) (ap (λ q. q.stake) rest)
      (ap (λ q. q.counts.items) references) (ap (λ q. q.taken) references) (ap (λ q. q.places) references)

  -- the stake of inode n is taken from its home, and a lock notes it
  over-locked : (seen : S → Seen) (f : Seen → ℕ) (rest : S) (stakes : List (Option S)) (ks : List Lock) (n : ℕ) (x : S) (k : Lock)
      → home_at stakes n ≡ Some x → lock_seen k ≡ seen x
      → over_all seen f rest (set stakes n None) (k ∷ ks) ≡ over_all seen f rest stakes ks
  over-locked seen f rest stakes ks n x k at noted =
      let moved = home-total (at_home seen f) stakes n None (home-inside stakes n x at) in
      let there : at_home seen f (home_at stakes n) ≡ f (seen x) = ap (at_home seen f) at in
      let same : f (lock_seen k) ≡ f (seen x) = ap f noted in
      omega arith

  pub locks : (seen : S → Seen) (m : Mount) (fs : Fs) (g : Guarded S) (ps : List Proc) (ks : List Lock) (n : ℕ) (x : S) (k : Lock)
      → home_at g.stakes n ≡ Some x → k.number ≡ n → k.core ≡ g.core n → lock_seen k ≡ seen x → Parts seen m fs g ps ks
      → Parts seen m fs (record g { stakes = set g.stakes n None }) ps (k ∷ ks)
  locks seen m fs g ps ks n x k at number kept noted h = record {
    follows = h.follows;
    homes = record {
      size = length-placed g.stakes n None ∙ h.homes.size;
      once = once;
      home = home;
      away = (
        record {
          core_same = ap g.core number ∙ sym kept;
          stands = subst (λ z. IsNodeOf m.origin fs.nodes k.number k.core z) (sym noted)
              (subst (λ c. IsNodeOf m.origin fs.nodes k.number c (seen x)) (sym kept)
              (subst (λ i. IsNodeOf m.origin fs.nodes i (g.core n) (seen x)) (sym number) (h.homes.home n x at)));
        },
        h.homes.away,
      );
    };
    agrees = h.agrees;
    shared = h.shared;
    owed = h.owed;
    lines = record {
      origin = h.lines.origin;
      once = λ b l. over-locked seen (has_line b l) g.rest g.stakes ks n x k at noted ∙ h.lines.once b l;
    };
    counted = record {
      each = h.counted.each;
      all = subst (λ t. min (total proc_faults ps) last_count ≤ t)
          (sym (over-locked seen (λ z. z.faults) g.rest g.stakes ks n x k at noted)) h.counted.all;
    };
    unforced = record { none = λ calm first. over-locked seen forcings g.rest g.stakes ks n x k at noted ∙ h.unforced.none calm first };
  }
    where
      empty : home_at (set g.stakes n None) n ≡ None
      empty = home-set g.stakes n None (home-inside g.stakes n x at)

      once : (i : ℕ)
          → one_if (is_some (home_at (set g.stakes n None) i)) + total (locks_on i) (k ∷ ks) ≡ one_if (map.contains_key fs.nodes i)
      once i = elim (cases_eq i n) [
        | inl e ↦
            let old = h.homes.once i in
            let gone : one_if (is_some (home_at (set g.stakes n None) i)) ≡ 0 =
            ap (λ j. one_if (is_some (home_at (set g.stakes n None) j))) e ∙ ap (λ o. one_if (is_some o)) empty in
            let was : one_if (is_some (home_at g.stakes i)) ≡ 1 =
            ap (λ j. one_if (is_some (home_at g.stakes j))) e ∙ ap (λ o. one_if (is_some o)) at in
            let here : locks_on i k ≡ 1 = one-if-same k.number i (number ∙ sym e) in
            omega arith
        | inr apart ↦
            let old = h.homes.once i in
            let stays : one_if (is_some (home_at (set g.stakes n None) i)) ≡ one_if (is_some (home_at g.stakes i)) =
            ap (λ o. one_if (is_some o)) (home-others g.stakes n i None apart) in
            let none : locks_on i k ≡ 0 = one-if-apart k.number i (λ e. apart (sym e ∙ number)) in
            omega arith
      ]

      home : (i : ℕ) (y : S) → home_at (set g.stakes n None) i ≡ Some y → IsNodeOf m.origin fs.nodes i (g.core i) (seen y)
      home i y there = elim (cases_eq i n) [
        | inl e ↦ let none : home_at (set g.stakes n None) i ≡ None = ap (home_at (set g.stakes n None)) e ∙ empty in absurd (cc (none, there))
        | inr apart ↦ h.homes.home i y (sym (home-others g.stakes n i None apart) ∙ there)
      ]

-- what another stake with the same lines stands for
pub stands-still : (o : Origin) (n : ℕ) (core : Option InCore) (z w : Seen) (node : Node) → w.held ≡ z.held → w.lent ≡ nothing_lent
    → w.origin ≡ z.origin → StandsAs o n core z node → StandsAs o n core w node
stands-still o n core z w node held lent origin s = record {
  body = s.body;
  line = s.line;
  number = s.number;
  there = ap (λ h. h (inode_place o.sizes n).block (inode_place o.sizes n).line) held ∙ s.there;
  has = s.has;
  stands = subst (λ h. StandsFor o h s.body node) (sym held) s.stands;
  only = subst (λ h. HoldsOnly o h n s.body.addresses) (sym held) s.only;
  lent = lent;
  origin = origin ∙ s.origin;
}

pub node-still : (o : Origin) (nodes : map.FinMap nat_cmp Node) (k : Lock) (n : ℕ) (core : Option InCore) (z : Seen) → IsStill k n core z
    → IsNodeOf o nodes k.number k.core (lock_seen k) → IsNodeOf o nodes n core z
node-still o nodes k n core z still is =
    subst (λ i. IsNodeOf o nodes i core z) still.number (subst (λ c. IsNodeOf o nodes k.number c z) still.core_same
    (record {
      node = is.node;
      known = is.known;
      stands = stands-still o k.number k.core (lock_seen k) z is.node still.held still.lent still.origin is.stands;
    }))

grow : (a r b c top : ℕ) → c ≡ b + r → min a top ≤ b → min (a + r) top ≤ c
grow a r b c top e h =
    let whole = sub-add-min_cancel a top in
    let left = min-le_left (a + r) top in
    let right = min-le_right (a + r) top in
    omega (arith, whole, left, right, e, h)

-- what a process counts when a stake comes back
pub faults-back : (ps rest home locks before now : ℕ) → before ≤ now → min ps last_count ≤ rest + (home + (before + locks))
    → min (ps + rise before now) last_count ≤ rest + ((home + now) + locks)
faults-back ps rest home locks before now low h = at (now == last_count) refl
  where
    yes : (a b : ℕ) → (a == b) ≡ true → a ≡ b
    yes a b e = grind (nat_tests, arith)

    at : (t : Bool) → (now == last_count) ≡ t → min (ps + rise before now) last_count ≤ rest + ((home + now) + locks)
    at true e =
        let full : now ≡ last_count = yes now last_count e in
        let most = min-le_right (ps + rise before now) last_count in
        omega (arith, full, most)
    at false e =
        let less : rise before now ≡ now - before = ap (λ t. (now - before) + one_if t) e ∙ add-zero (now - before) in
        subst (λ r. min (ps + r) last_count ≤ rest + ((home + now) + locks)) (sym less) (grow ps (now - before)
        (rest + (home + (before + locks))) (rest + ((home + now) + locks)) last_count (omega arith) h)

module _ {S : Type 0} where
  -- a stake that was locked comes home
  pub over-home : (seen : S → Seen) (f : Seen → ℕ) (stakes : List (Option S)) (n : ℕ) (x : S) → home_at stakes n ≡ None → n < length stakes
      → total (at_home seen f) (set stakes n (Some x)) ≡ total (at_home seen f) stakes + f (seen x)
  over-home seen f stakes n x none inside =
      let moved = home-total (at_home seen f) stakes n (Some x) inside in
      let there : at_home seen f (home_at stakes n) ≡ 0 = ap (at_home seen f) none in
      omega arith

  pub over-back : (seen : S → Seen) (f : Seen → ℕ) (rest : S) (stakes : List (Option S)) (ks : List Lock) (n : ℕ) (x : S) (k : Lock)
      → home_at stakes n ≡ None → n < length stakes → f (seen x) ≡ f (lock_seen k)
      → over_all seen f rest (set stakes n (Some x)) ks ≡ over_all seen f rest stakes (k ∷ ks)
  over-back seen f rest stakes ks n x k none inside same = let moved = over-home seen f stakes n x none inside in omega arith

  -- an inode that is locked is not at home
  pub away-home : (seen : S → Seen) (o : Origin) (nodes : map.FinMap nat_cmp Node) (stakes : List (Option S)) (core : ℕ → Option InCore)
      (ks : List Lock) (n : ℕ) (k : Lock) → k.number ≡ n → Homes seen o nodes stakes core (k ∷ ks) → home_at stakes n ≡ None
  away-home seen o nodes stakes core ks n k number h =
      let once = h.once n in
      let most = one-if-le (map.contains_key nodes n) in
      let here : locks_on n k ≡ 1 = one-if-same k.number n number in
      none-of (home_at stakes n) (omega (arith, once, most, here))

  pub inside-home : (seen : S → Seen) (o : Origin) (nodes : map.FinMap nat_cmp Node) (stakes : List (Option S)) (core : ℕ → Option InCore)
      (ks : List Lock) (n : ℕ) (k : Lock) → k.number ≡ n → Homes seen o nodes stakes core (k ∷ ks) → n < length stakes
  inside-home seen o nodes stakes core ks n k number h =
      let most = h.away.0.stands.stands.number.most in
      let size = h.size in
      omega (arith, most, size, number)

  abbrev pub unlocks : (seen : S → Seen) (m : Mount) (fs : Fs) (g : Guarded S) (p : Proc) (ps : List Proc) (ks : List Lock) (n : ℕ) (x : S)
      (k : Lock) (c : Option InCore) → IsStill k n c (seen x) → Parts seen m fs g (p ∷ ps) (k ∷ ks)
      → Parts seen m fs (record g { stakes = set g.stakes n (Some x) }) (failed (rise k.faults (seen x).faults) p ∷ ps) ks
  unlocks seen m fs g p ps ks n x k c still h = record {
    follows = h.follows;
    homes = record {
      size = length-placed g.stakes n (Some x) ∙ h.homes.size;
      once = once;
      home = home;
      away = h.homes.away.1;
    };
    agrees = record {
      once = h.agrees.once;
      each = (
        record {
          most = h.agrees.each.0.most;
          references = h.agrees.each.0.references;
          entries = h.agrees.each.0.entries;
        },
        h.agrees.each.1,
      );
    };
    shared = h.shared;
    owed = h.owed;
    lines = record {
      origin = h.lines.origin;
      once = λ b l. over-back seen (has_line b l) g.rest g.stakes ks n x k none inside (ap (λ q. one_if (is_some (q b l))) still.held)
          ∙ h.lines.once b l;
    };
    counted = record {
      each = (let few = h.counted.each.0 in omega (arith, few), h.counted.each.1);
      all = faults;
    };
    unforced = record {
      none = λ calm first. over-back seen forcings g.rest g.stakes ks n x k none inside (ap one_if still.forced)
          ∙ h.unforced.none calm first;
    };
  }
    where
      none : home_at g.stakes n ≡ None
      none = away-home seen m.origin fs.nodes g.stakes g.core ks n k still.number h.homes

      inside : n < length g.stakes
      inside = inside-home seen m.origin fs.nodes g.stakes g.core ks n k still.number h.homes

      full : home_at (set g.stakes n (Some x)) n ≡ Some x
      full = home-set g.stakes n (Some x) inside

      once : (i : ℕ) → one_if (is_some (home_at (set g.stakes n (Some x)) i)) + total (locks_on i) ks ≡ one_if (map.contains_key fs.nodes i)
      once i = elim (cases_eq i n) [
        | inl e ↦
            let old = h.homes.once i in
            let here : one_if (is_some (home_at (set g.stakes n (Some x)) i)) ≡ 1 =
            ap (λ j. one_if (is_some (home_at (set g.stakes n (Some x)) j))) e ∙ ap (λ o. one_if (is_some o)) full in
            let was : one_if (is_some (home_at g.stakes i)) ≡ 0 =
            ap (λ j. one_if (is_some (home_at g.stakes j))) e ∙ ap (λ o. one_if (is_some o)) none in
            let locked : locks_on i k ≡ 1 = one-if-same k.number i (still.number ∙ sym e) in
            omega arith
        | inr apart ↦
            let old = h.homes.once i in
            let stays : one_if (is_some (home_at (set g.stakes n (Some x)) i)) ≡ one_if (is_some (home_at g.stakes i)) =
            ap (λ o. one_if (is_some o)) (home-others g.stakes n i (Some x) apart) in
            let other : locks_on i k ≡ 0 = one-if-apart k.number i (λ e. apart (sym e ∙ still.number)) in
            omega arith
      ]

      mine : IsNodeOf m.origin fs.nodes n (g.core n) (seen x)
      mine = subst (λ o. IsNodeOf m.origin fs.nodes n o (seen x))
          (sym still.core_same ∙ sym h.homes.away.0.core_same ∙ ap g.core still.number)
          (node-still m.origin fs.nodes k n c (seen x) still h.homes.away.0.stands)

      home : (i : ℕ) (y : S) → home_at (set g.stakes n (Some x)) i ≡ Some y → IsNodeOf m.origin fs.nodes i (g.core i) (seen y)
      home i y there = elim (cases_eq i n) [
        | inl e ↦
            let same : Some x ≡ Some y = sym full ∙ ap (home_at (set g.stakes n (Some x))) (sym e) ∙ there in
            subst (λ j. IsNodeOf m.origin fs.nodes j (g.core j) (seen y)) (sym e)
            (subst (λ z. IsNodeOf m.origin fs.nodes n (g.core n) (seen z)) (cc same) mine)
        | inr apart ↦ h.homes.home i y (sym (home-others g.stakes n i (Some x) apart) ∙ there)
      ]

      faults : min (total proc_faults (failed (rise k.faults (seen x).faults) p ∷ ps)) last_count
          ≤ over_all seen (λ z. z.faults) g.rest (set g.stakes n (Some x)) ks
      faults =
          let back = faults-back (total proc_faults (p ∷ ps)) (seen g.rest).faults (total (at_home seen (λ z. z.faults)) g.stakes)
          (total (λ l. (lock_seen l).faults) ks) k.faults (seen x).faults still.no_less h.counted.all in
          let moved = over-home seen (λ z. z.faults) g.stakes n x none inside in
          let sum : total proc_faults (failed (rise k.faults (seen x).faults) p ∷ ps)
          ≡ total proc_faults (p ∷ ps) + rise k.faults (seen x).faults = omega arith in
          subst (λ t. min t last_count ≤ over_all seen (λ z. z.faults) g.rest (set g.stakes n (Some x)) ks) (sym sum)
          (subst (λ t. min (total proc_faults (p ∷ ps) + rise k.faults (seen x).faults) last_count
          ≤ (seen g.rest).faults + (t + total (λ l. (lock_seen l).faults) ks)) (sym moved) back)

  -- The entry leads from fs to another file system with the same nodes, and what is guarded then is g with it. Of the references,
  -- those of its process alone change.
  pub record Moved (fs after : Fs) (g q : Guarded S) (p : Proc) (e : Entry) : Type 0 where
    pub step : Step fs e.process e.op e.reply after
    pub whole : IsWhole after
    pub nodes : after.nodes ≡ fs.nodes
    pub apart : (r i : ℕ) → r ≢ e.process → references_of after r i ≡ references_of fs r i
    pub mine : (i : ℕ) → references_of after e.process i ≡ times i (references_after e.op e.reply p.references)
    pub history : q.history ≡ g.history ++ e ∷ []
    pub core : q.core ≡ g.core
    pub rest : q.rest ≡ g.rest
    pub shared : Counts after q.counts q.taken q.places
    pub owed : q.owed + length p.references ≡ g.owed + length (references_after e.op e.reply p.references)

  pub adds : (seen : S → Seen) (m : Mount) (fs after : Fs) (g q : Guarded S) (p : Proc) (ps : List Proc) (ks : List Lock) (e : Entry)
      → p.process ≡ e.process → Moved fs after g q p e → q.stakes ≡ g.stakes → total faulty p.entries + faulty e ≤ p.faults
      → Parts seen m fs g (p ∷ ps) ks
      → Parts seen m after q (record p { references = references_after e.op e.reply p.references; entries = p.entries ++ e ∷ [] } ∷ ps) ks
  adds seen m fs after g q p ps ks e mine moved stakes few h = record {
    follows = subst (λ es. Follows m es after) (sym moved.history) (record {
      leads = leads-further g.history e _ fs after h.follows.leads moved.step;
      whole = moved.whole;
      block = sizes.block ∙ h.follows.block;
      inodes = sizes.inodes ∙ h.follows.inodes;
      greatest = sizes.greatest ∙ h.follows.greatest;
    });
    homes = subst (λ xs. Homes seen m.origin after.nodes xs q.core ks) (sym stakes)
        (subst (λ f. Homes seen m.origin after.nodes g.stakes f ks) (sym moved.core)
        (subst (λ ns. Homes seen m.origin ns g.stakes g.core ks) (sym moved.nodes) h.homes));
    agrees = subst (λ es. Agrees m after es (record p {
      references = references_after e.op e.reply p.references;
      entries = p.entries ++ e ∷ [];
    } ∷ ps)) (sym moved.history) (record {
      once = h.agrees.once;
      each = (
        record {
          most = h.agrees.each.0.most;
          references = subst (λ r. (i : ℕ) → references_of after r i ≡ times i (references_after e.op e.reply p.references)) (sym mine)
              moved.mine;
          entries = own-mine g.history e p.process mine ∙ ap (λ es. es ++ e ∷ []) h.agrees.each.0.entries;
        },
        others-stay m fs after g.history e ps moved.apart others h.agrees.each.1,
      );
    });
    shared = moved.shared;
    owed = (let before = h.owed in let owed = moved.owed in omega (arith, before, owed));
    lines = subst (λ xs. Lines seen m.origin q.rest xs ks) (sym stakes)
        (subst (λ r. Lines seen m.origin r g.stakes ks) (sym moved.rest) h.lines);
    counted = record {
      each = (let more = total-append faulty p.entries (e ∷ []) in omega (arith, more, few), h.counted.each.1);
      all = subst (λ xs. min (total proc_faults (p ∷ ps)) last_count ≤ over_all seen (λ z. z.faults) q.rest xs ks) (sym stakes)
          (subst (λ r. min (total proc_faults (p ∷ ps)) last_count ≤ over_all seen (λ z. z.faults) r g.stakes ks) (sym moved.rest)
          h.counted.all);
    };
    unforced = record {
      none = λ calm first. subst (λ xs. over_all seen forcings q.rest xs ks ≡ 0) (sym stakes)
          (subst (λ r. over_all seen forcings r g.stakes ks ≡ 0) (sym moved.rest)
          (h.unforced.none (let more = total-append syncs g.history (e ∷ []) in let was = ap (total syncs) moved.history in
          omega (arith, more, calm, was)) first));
    };
  }
    where
      others : total (names e.process) ps ≡ 0
      others =
          let once = h.agrees.once e.process in
          let here : names e.process p ≡ 1 = one-if-same p.process e.process mine in
          omega (arith, once, here)

      sizes : HasSizesOf fs after
      sizes = leads-sizes (e ∷ []) fs after (after, moved.step, refl)
