-- The passes of a cache are put together, from the last one on.
use Rattle.std.proofs.Common.{◌≡◌, ◌+◌, ◌++◌, ◌||◌, ℕ, Bool, true, false, List, [], ◌∷◌, refl, sym, ap, ◌∙◌, subst, arith}
use Rattle.std.specs.List.{All, sum_by}
use Rattle.std.proofs.lemmas.Grind.{flat_map-append}
use Rattle.std.proofs.lemmas.List.{append-nil, append_assoc, length-append}
use Rattle.std.proofs.lemmas.List.Sums.{sum_by-cons, sum_by-append}
use Rattle.std.proofs.lemmas.List.Sorted.{IsPermutation-append_comm}
use Rattle.std.proofs.lemmas.List.Elements.{All-nil, All-cons, All-head, All-tail}
use Rattle.sv_turn.specs.declared.pass.Pass.{Pass}
use Rattle.sv_turn.specs.declared.turn.Turn.{Turn}
use Rattle.sv_turn.specs.Passes.{pass_view, IsOut, IsPassOf, first_view}
use Rattle.sv_buf.specs.View.{View, Opening}
use Rattle.sv_buf.specs.Changes.{merged_view}
use Rattle.sv_buf.specs.Parting.{IsCut}
use Rattle.sv_buf.specs.Closing.{IsQuiet, IsBack, lines_held, faults_counted, workers_counted}

All-init : {A : Type 0} (P : A → Type 0) (xs ys : List A) → All P (xs ++ ys) → All P xs
All-init P [] ys all = All-nil P
All-init P (x ∷ xs) ys all = All-cons P x xs (All-head P x (xs ++ ys) all) (All-init P xs ys (All-tail P x (xs ++ ys) all))

All-last : {A : Type 0} (P : A → Type 0) (xs : List A) (y : A) → All P (xs ++ y ∷ []) → P y
All-last P [] y all = All-head P y [] all
All-last P (x ∷ xs) y all = All-last P xs y (All-tail P x (xs ++ y ∷ []) all)

-- two views that came back are what one is cut into
pub quiet-cut : (o : Opening) (v w : View) → IsQuiet o v → IsQuiet o w → IsCut (merged_view w v) v w
quiet-cut o v w p q = record {
  opening = (p.opening ∙ sym q.opening, refl);
  lines = IsPermutation-append_comm w.lines v.lines;
  loans = (p.nothing_lent ∙ sym q.nothing_lent, q.nothing_lent);
  moving = (q.calm, p.calm, q.calm);
  device = (q.home, p.home, q.home);
  faults = omega arith;
  forced = or-comm w.forced v.forced;
  workers = omega arith;
  some = (p.some, q.some);
}
  where
    or-comm : (s t : Bool) → (s || t) ≡ (t || s)
    or-comm true true = refl
    or-comm true false = refl
    or-comm false true = refl
    or-comm false false = refl

pub quiet-merged : (o : Opening) (v w : View) → IsQuiet o v → IsQuiet o w → IsQuiet o (merged_view w v)
quiet-merged o v w p q = record {
  opening = q.opening;
  some = let some = q.some in omega (arith, length-append w.lines v.lines);
  nothing_lent = q.nothing_lent;
  calm = q.calm;
  home = q.home;
}

module _ {R S : Type 0} where
  -- what is gathered so far, with what is left, is all
  pub record Gathers (t : Turn R S View) (all left : List (Pass R S View)) (whole : Pass R S View) : Type 0 where
    pub own : IsPassOf t whole
    pub away : IsOut whole
    pub quiet : IsQuiet (first_view t).opening (pass_view whole)
    pub back : All (IsBack t) left
    pub lines : lines_held left ++ (pass_view whole).lines ≡ lines_held all
    pub faults : faults_counted left + (pass_view whole).faults ≡ faults_counted all
    pub workers : workers_counted left + (pass_view whole).workers ≡ workers_counted all

  lines-last : (xs : List (Pass R S View)) (p : Pass R S View) → lines_held (xs ++ p ∷ []) ≡ lines_held xs ++ (pass_view p).lines
  lines-last xs p = flat_map-append (λ (q : Pass R S View). (pass_view q).lines) xs (p ∷ [])
      ∙ ap (λ l. lines_held xs ++ l) (append-nil (pass_view p).lines)

  sum-last : (f : Pass R S View → ℕ) (xs : List (Pass R S View)) (p : Pass R S View) → sum_by f (xs ++ p ∷ []) ≡ sum_by f xs + f p
  sum-last f xs p = omega (arith, sum_by-append f xs (p ∷ []), sum_by-cons f p [])

  pub first-gathered : (t : Turn R S View) (all left : List (Pass R S View)) (p : Pass R S View) → all ≡ left ++ p ∷ []
      → All (IsBack t) all → Gathers t all left p
  first-gathered t all left p is back =
      let each = subst (All (IsBack t)) is back in
      let mine = All-last (IsBack t) left p each in
      record {
        own = mine.own;
        away = mine.away;
        quiet = mine.quiet;
        back = All-init (IsBack t) left (p ∷ []) each;
        lines = sym (ap lines_held is ∙ lines-last left p);
        faults = sym (ap faults_counted is ∙ sum-last (λ (q : Pass R S View). (pass_view q).faults) left p);
        workers = sym (ap workers_counted is ∙ sum-last (λ (q : Pass R S View). (pass_view q).workers) left p);
      }

  pub next-back : (t : Turn R S View) (all left more : List (Pass R S View)) (whole p : Pass R S View) → Gathers t all left whole
      → left ≡ more ++ p ∷ [] → IsBack t p
  next-back t all left more whole p h is = All-last (IsBack t) more p (subst (All (IsBack t)) is h.back)

  pub next-gathered : (t : Turn R S View) (all left more : List (Pass R S View)) (whole p next : Pass R S View)
      → Gathers t all left whole → left ≡ more ++ p ∷ [] → IsPassOf t next → IsOut next
      → pass_view next ≡ merged_view (pass_view p) (pass_view whole) → Gathers t all more next
  next-gathered t all left more whole p next h is own away view =
      let each = subst (All (IsBack t)) is h.back in
      let mine = All-last (IsBack t) more p each in
      record {
        own = own;
        away = away;
        quiet = subst (IsQuiet (first_view t).opening) (sym view)
            (quiet-merged (first_view t).opening (pass_view whole) (pass_view p) h.quiet mine.quiet);
        back = All-init (IsBack t) more (p ∷ []) each;
        lines = ap (λ (v : View). lines_held more ++ v.lines) view
            ∙ (sym (append_assoc (lines_held more) (pass_view p).lines (pass_view whole).lines)
            ∙ (ap (λ l. l ++ (pass_view whole).lines) (sym (ap lines_held is ∙ lines-last more p)) ∙ h.lines));
        faults = omega (
          arith,
          h.faults,
          ap (λ (v : View). v.faults) view,
          ap faults_counted is
              ∙ sum-last (λ (q : Pass R S View). (pass_view q).faults) more p,
        );
        workers = omega (
          arith,
          h.workers,
          ap (λ (v : View). v.workers) view,
          ap workers_counted is
              ∙ sum-last (λ (q : Pass R S View). (pass_view q).workers) more p,
        );
      }

  -- none is left
  pub gathered-all : (t : Turn R S View) (all left : List (Pass R S View)) (whole : Pass R S View) → Gathers t all left whole
      → left ≡ [] → Gathers t all [] whole
  gathered-all t all left whole h none = subst (λ l. Gathers t all l whole) none h
