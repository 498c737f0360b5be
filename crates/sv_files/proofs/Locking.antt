-- A pass leaves with an inode locked.
use Rattle.std.proofs.Common.{◌≡◌, ◌∷◌, ℕ, List, Some, None, set, refl, sym, ap, subst, arith}
use Rattle.sv_store.specs.Held.{InRange, nothing_lent}
use Rattle.sv_files.specs.declared.state.State.{State}
use Rattle.sv_files.specs.View.{View, Seen, lock_of, all_procs, all_locks}
use Rattle.sv_files.specs.FileRule.{Holds, Parts, core_of, guarded, home_at}
use Rattle.sv_files.specs.Adding.{StandsForSome, locked_view}
use Rattle.sv_files.proofs.Moves.{home-alone, locks}
use Rattle.sv_files.proofs.NotedLines.{lock-seen}

module _ {S : Type 0} where
  pub home-seen : (seen : S → Seen) (s : State S) (views : List View) (n : ℕ) (x : S) → Holds seen s views
      → home_at s.stakes.items n ≡ Some x → StandsForSome n (core_of s n) (seen x)
  home-seen seen s views n x h at =
      let is = h.parts.homes.home n x at in
      let size = (h.parts.follows.whole.nodes n is.node is.known).size in
      let greatest = h.parts.follows.greatest in
      record { origin = h.mount.origin; node = is.node; stands = is.stands; size = omega (arith, size, greatest) }

  pub locks-one : (seen : S → Seen) (s t : State S) (v : View) (us : List View) (n : ℕ) (x : S)
      → home_at s.stakes.items n ≡ Some x → t.stakes.items ≡ set s.stakes.items n None → t.table ≡ s.table → t.rest ≡ s.rest
      → t.references ≡ s.references → t.history ≡ s.history → InRange (seen x).origin.sizes (seen x).held → Holds seen s (v ∷ us)
      → Holds seen t (locked_view n (core_of s n) (seen x) v ∷ us)
  locks-one seen s t v us n x at taken table rest references history range h = record {
    mount = h.mount;
    fs = h.fs;
    same = h.same;
    parts =
        subst (λ q. Parts seen h.mount h.fs q (all_procs (v ∷ us)) (all_locks (locked ∷ us))) (sym (home-alone t s (set s.stakes.items n None)
        taken table rest references (ap (λ q. q.entries.items) history) (ap (λ q. q.owed) history)))
        (locks seen h.mount h.fs (guarded s) (all_procs (v ∷ us)) (all_locks (v ∷ us)) n x (lock_of n (core_of s n) (seen x)) at refl refl
        (lock-seen n (core_of s n) (seen x) range lent) h.parts);
  }
    where
      locked : View
      locked = locked_view n (core_of s n) (seen x) v

      lent : (seen x).lent ≡ nothing_lent
      lent = (h.parts.homes.home n x at).stands.lent

  -- the same stakes, in another vector
  pub same-stakes : (seen : S → Seen) (s t : State S) (views : List View) → t.stakes.items ≡ s.stakes.items → t.table ≡ s.table
      → t.rest ≡ s.rest → t.references ≡ s.references → t.history ≡ s.history → Holds seen s views → Holds seen t views
  same-stakes seen s t views stakes table rest references history h = record {
    mount = h.mount;
    fs = h.fs;
    same = h.same;
    parts = subst (λ q. Parts seen h.mount h.fs q (all_procs views) (all_locks views)) (sym (home-alone t s s.stakes.items stakes table rest
        references (ap (λ q. q.entries.items) history) (ap (λ q. q.owed) history))) h.parts;
  }
