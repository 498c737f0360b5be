-- A cache can be closed with a pass that holds all lines, and the worker's.
use Rattle.std.proofs.Common.{◌≡◌, ◌*◌, ◌<◌, ◌&&◌, ◌++◌, cond, Some, None, ℕ, zero, suc, Bool, true, false, List, [], ◌∷◌, refl, sym, ap, ◌∙◌, subst, arith}
use Rattle.std.specs.Prelude.{Option, IsSome, count_by, nat_lt}
use Rattle.std.specs.List.{All}
use Rattle.std.proofs.lemmas.Bool.{false≢true, lt-ltb, ltb-true, and_parts}
use Rattle.std.proofs.lemmas.List.{append-nil}
use Rattle.std.proofs.lemmas.List.Elements.{All-nil, All-cons}
use Rattle.sv_form.specs.declared.geometry.Geometry.{Geometry}
use Rattle.sv_form.specs.Image.{block_of}
use Rattle.sv_links.specs.Arrangement.{one_if}
use Rattle.sv_turn.specs.declared.pass.Pass.{Pass}
use Rattle.sv_turn.specs.declared.turn.Turn.{Turn}
use Rattle.sv_turn.specs.Passes.{pass_view, first_view, IsOut, IsSamePass}
use Rattle.sv_store.specs.Held.{InRange, SameLines, nothing_lent, line_of}
use Rattle.sv_store.proofs.Holding.{IsSome-same}
use Rattle.sv_buf.specs.View.{View, Noted, is_at, held_of, lent_of}
use Rattle.sv_buf.specs.Running.{IsFit}
use Rattle.sv_buf.specs.Start.{of_disk}
use Rattle.sv_buf.specs.Stake.{pass_held, pass_lent, pass_origin}
use Rattle.sv_buf.specs.Closing.{IsBack, IsQuiet, AreAllLines, lines_held, workers_counted}
use Rattle.sv_buf.specs.Ending.{HoldsAll, HasAll, IsWorkers}
use Rattle.sv_buf.proofs.Cutting.{no_loans, lent-none, origin-same}
use Rattle.sv_buf.proofs.Lists.{held-none, held-some}

-- what is held is noted
noted-held : (b l : ℕ) (ns : List Noted) → IsSome (held_of ns b l) → 0 < count_by (is_at b l) ns
noted-held b l ns some = by (count_by (is_at b l) ns) refl
  where
    by : (n : ℕ) → count_by (is_at b l) ns ≡ n → 0 < count_by (is_at b l) ns
    by zero e = absurd (false≢true (subst (λ (o : Option (List ℕ)). IsSome o) (held-none b l ns e) some))
    by (suc n) e = omega arith

-- what is outside the disk is not noted
outside-none : (g : Geometry) (b l : ℕ) (ns : List Noted) → InRange g (held_of ns)
    → (nat_lt b g.blocks && nat_lt (l * 64) g.block_size) ≡ false → count_by (is_at b l) ns ≡ 0
outside-none g b l ns range out = by (count_by (is_at b l) ns) refl
  where
    by : (n : ℕ) → count_by (is_at b l) ns ≡ n → count_by (is_at b l) ns ≡ 0
    by zero e = e
    by (suc n) e =
        let some = held-some b l ns (omega arith) in
        absurd (false≢true (sym out ∙ rw (lt-ltb b g.blocks (range.block b l some), lt-ltb (l * 64) g.block_size (range.line b l some)) refl))

-- a view that holds all lines notes each once
pub all-lines : (v : View) → IsFit v → HoldsAll v.opening.sizes (held_of v.lines) → AreAllLines v.opening.sizes v.lines
all-lines v fit all = record { once = λ b l. by b l (nat_lt b v.opening.sizes.blocks && nat_lt (l * 64) v.opening.sizes.block_size) refl }
  where
    by : (b l : ℕ) (t : Bool) → (nat_lt b v.opening.sizes.blocks && nat_lt (l * 64) v.opening.sizes.block_size) ≡ t
        → count_by (is_at b l) v.lines ≡ one_if (nat_lt b v.opening.sizes.blocks && nat_lt (l * 64) v.opening.sizes.block_size)
    by b l true e =
        let parts = and_parts (nat_lt b v.opening.sizes.blocks) (nat_lt (l * 64) v.opening.sizes.block_size) e in
        let one : one_if (nat_lt b v.opening.sizes.blocks && nat_lt (l * 64) v.opening.sizes.block_size) ≡ 1 = ap one_if e in
        let some = noted-held b l v.lines (all.at b l (ltb-true b v.opening.sizes.blocks parts.0)
        (ltb-true (l * 64) v.opening.sizes.block_size parts.1)) in
        omega (arith, one, some, fit.once b l)
    by b l false e =
        let none : one_if (nat_lt b v.opening.sizes.blocks && nat_lt (l * 64) v.opening.sizes.block_size) ≡ 0 = ap one_if e in
        outside-none v.opening.sizes b l v.lines fit.range e ∙ sym none

module _ {R S : Type 0} where
  -- both passes have come back
  pub both-back : (t : Turn R S View) (first worker : Pass R S View) → HasAll t first → IsWorkers t worker
      → All (IsBack t) (first ∷ worker ∷ [])
  both-back t first worker has is = All-cons (IsBack t) first (worker ∷ []) mine (All-cons (IsBack t) worker [] theirs (All-nil (IsBack t)))
    where
      mine : IsBack t first
      mine = record {
        own = has.own;
        away = has.away;
        quiet = record {
          opening = has.opened;
          some = has.fit.some;
          nothing_lent = no_loans (pass_view first).loans has.idle;
          calm = has.fit.calm;
          home = has.fit.home;
        };
      }

      theirs : IsBack t worker
      theirs = record {
        own = is.own;
        away = is.away;
        quiet = subst (λ v. IsQuiet (first_view t).opening v) (sym is.view)
            (record { opening = refl; some = omega arith; nothing_lent = refl; calm = refl; home = refl });
      }

  -- and all lines with them
  pub both-lines : (t : Turn R S View) (first worker : Pass R S View) → HasAll t first → IsWorkers t worker
      → AreAllLines (first_view t).opening.sizes (lines_held (first ∷ worker ∷ []))
  both-lines t first worker has is =
      subst (λ ns. AreAllLines (first_view t).opening.sizes ns) (sym lines) (subst (λ o. AreAllLines o.sizes (pass_view first).lines) has.opened
      (all-lines (pass_view first) has.fit (subst (λ o. HoldsAll o.sizes (held_of (pass_view first).lines)) (sym has.opened) has.all)))
    where
      lines : lines_held (first ∷ worker ∷ []) ≡ (pass_view first).lines
      lines = ap (λ (v : View). (pass_view first).lines ++ (v.lines ++ [])) is.view ∙ append-nil (pass_view first).lines

  -- and the worker
  pub both-workers : (t : Turn R S View) (first worker : Pass R S View) → HasAll t first → IsWorkers t worker
      → workers_counted (first ∷ worker ∷ []) ≡ 1
  both-workers t first worker has is = omega (arith, has.fit.no_worker, ap (λ (v : View). v.workers) is.view)

-- all lines of a disk are held
pub disk-holds-all : (g : Geometry) (content : List ℕ) → HoldsAll g (of_disk g content)
unfolding of_disk
disk-holds-all g content = record { at = λ b l in_block in_line. some (line_of (block_of g content b) l) (lt-ltb b g.blocks in_block) (lt-ltb (l * 64) g.block_size in_line) }
  where
    some : {s t : Bool} (y : List ℕ) → s ≡ true → t ≡ true → IsSome (cond {A = Option (List ℕ)} (s && t) (Some y) None)
    some y p q = rw (p, q) refl

-- a view with no loans has lent nothing
pub none-lent : (v : View) → v.loans ≡ [] → lent_of v.loans ≡ nothing_lent
none-lent v none = ap lent_of none ∙ lent-none

module _ {R S : Type 0} where
  -- a pass of the same cache that holds the same lines, and lends as little, has all as well
  pub all-kept : (t : Turn R S View) (old new : Pass R S View) → HasAll t old → pass_origin new ≡ pass_origin old → IsOut new
      → IsFit (pass_view new) → SameLines (pass_held new) (pass_held old) → pass_lent new ≡ pass_lent old → HasAll t new
  all-kept t old new has home away fit lines idle =
      let same = origin-same t old new has.own home in
      record {
        own = same.1;
        away = away;
        fit = fit;
        opened = same.0 ∙ has.opened;
        idle = idle ∙ has.idle;
        all = record { at = λ b l below last. IsSome-same (pass_held old b l) (pass_held new b l) (sym (lines.at b l)) (has.all.at b l below last) };
      }

  -- and so has the same pass with the same view
  pub all-stopped : (t : Turn R S View) (old new : Pass R S View) → HasAll t old → IsSamePass old new → IsOut new
      → pass_view new ≡ pass_view old → HasAll t new
  all-stopped t old new has same away view = record {
    own = same.0 ∙ has.own;
    away = away;
    fit = subst IsFit (sym view) has.fit;
    opened = ap (λ (v : View). v.opening) view ∙ has.opened;
    idle = ap (λ (v : View). lent_of v.loans) view ∙ has.idle;
    all = subst (λ (v : View). HoldsAll (first_view t).opening.sizes (held_of v.lines)) (sym view) has.all;
  }
