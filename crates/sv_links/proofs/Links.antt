-- What the links of all lists are after a number was put first on one, or was taken out.
use Rattle.std.proofs.Common.{◌≡◌, ◌≢◌, ℕ, ◌<◌, ◌≤◌, List, ◌∷◌, length, reverse, refl, sym, ap, ◌∙◌, arith, Option, Some, None}
use Rattle.std.proofs.lemmas.List.{get_or-set_same, get_or-set_other, length-set}
use Rattle.sv_links.specs.Arrangement.{times, without}
use Rattle.sv_links.specs.Way.{Runs, Way, next_of, linked, HasPlace}
use Rattle.sv_links.proofs.Runs.{times-reverse, runs-reverse, head-on, after-on, before-on, runs-back, runs-forth, runs-frame, runs-pushed, runs-past, runs-taken}

-- one link

linked-same : (w : Way) (l : ℕ) (at to : Option ℕ) → HasPlace w l at → next_of (linked w l at to) l at ≡ to
linked-same w l None to h = get_or-set_same w.begins l to None h
linked-same w l (Some x) to h = get_or-set_same w.follows x to None h

linked-other : (w : Way) (l k : ℕ) (at to n : Option ℕ) → n ≢ at → next_of (linked w l at to) k n ≡ next_of w k n
linked-other w l k None to None d = absurd (d refl)
linked-other w l k None to (Some y) d = refl
linked-other w l k (Some x) to None d = refl
linked-other w l k (Some x) to (Some y) d = get_or-set_other w.follows x y to None (λ e. d (ap Some e))

-- the beginning of another list
linked-list : (w : Way) (l k : ℕ) (at to : Option ℕ) → k ≢ l → next_of (linked w l at to) k None ≡ next_of w k None
linked-list w l k None to d = get_or-set_other w.begins l k to None d
linked-list w l k (Some x) to d = refl

linked-place : (w : Way) (l : ℕ) (at to n : Option ℕ) → HasPlace w l n → HasPlace (linked w l at to) l n
linked-place w l None to None h = omega (arith, length-set w.begins l to)
linked-place w l None to (Some y) h = h
linked-place w l (Some x) to None h = h
linked-place w l (Some x) to (Some y) h = omega (arith, length-set w.follows x to)

pub linked-begins : (w : Way) (l : ℕ) (at to : Option ℕ) → length (linked w l at to).begins ≡ length w.begins
linked-begins w l None to = length-set w.begins l to
linked-begins w l (Some x) to = refl

pub linked-follows : (w : Way) (l : ℕ) (at to : Option ℕ) → length (linked w l at to).follows ≡ length w.follows
linked-follows w l None to = refl
linked-follows w l (Some x) to = length-set w.follows x to

-- Lists that are linked by w one way and by v the other, each number once and on one list alone.
pub record Tied (w v : Way) (at : ℕ → List ℕ) : Type 0 where
  pub runs : (k : ℕ) → Runs (next_of w k) (next_of v k) None (at k) None
  pub once : (k y : ℕ) → times y (at k) ≤ 1
  pub one_list : (j k y : ℕ) → 0 < times y (at j) → 0 < times y (at k) → j ≡ k
  pub forth : (k y : ℕ) → 0 < times y (at k) → y < length w.follows
  pub back : (k y : ℕ) → 0 < times y (at k) → y < length v.follows

pub tied-reversed : (w v : Way) (at : ℕ → List ℕ) → Tied w v at → Tied v w (λ k. reverse (at k))
tied-reversed w v at t = record {
  runs = λ k. runs-reverse (next_of w k) (next_of v k) None None (at k) (t.runs k);
  once = λ k y. omega (arith, times-reverse y (at k), t.once k y);
  one_list = λ j k y on too. t.one_list j k y (omega (arith, times-reverse y (at j))) (omega (arith, times-reverse y (at k)));
  forth = λ k y on. t.back k y (omega (arith, times-reverse y (at k)));
  back = λ k y on. t.forth k y (omega (arith, times-reverse y (at k)));
}

absent-other : (x y : ℕ) (xs : List ℕ) → times x xs ≡ 0 → 0 < times y xs → y ≢ x
absent-other x y xs absent on e = let same : times y xs ≡ times x xs = ap (λ k. times k xs) e in absurd (omega arith)

place-of : (w : Way) (l : ℕ) (n : Option ℕ) → l < length w.begins → ((y : ℕ) → n ≡ Some y → y < length w.follows) → HasPlace w l n
place-of w l None inside some = inside
place-of w l (Some y) inside some = some y refl

-- the two ways after x was put first on list l

abbrev pub pushed_forth : Way → ℕ → ℕ → Way
pushed_forth w l x = linked (linked w l (Some x) (next_of w l None)) l None (Some x)

abbrev pub pushed_back : Way → Way → ℕ → ℕ → Way
pushed_back w v l x = linked (linked v l (Some x) None) l (next_of w l None) (Some x)

-- x is on no list, and may be put first on list l
pub record Puts (w v : Way) (at : ℕ → List ℕ) (l x : ℕ) : Type 0 where
  pub tied : Tied w v at
  pub absent : (k : ℕ) → times x (at k) ≡ 0
  pub begins : l < length w.begins
  pub ends : l < length v.begins
  pub forth : x < length w.follows
  pub back : x < length v.follows

pub puts-second : (w v : Way) (at : ℕ → List ℕ) (l x : ℕ) → Puts w v at l x → HasPlace v l (next_of w l None)
puts-second w v at l x p = place-of v l (next_of w l None) p.ends (λ y e. p.tied.back l y (head-on (next_of w l) (next_of v l) (at l) y (p.tied.runs l) e))

-- what was first on a list is not x
puts-not_first : (w v : Way) (at : ℕ → List ℕ) (l x : ℕ) → Puts w v at l x → Some x ≢ next_of w l None
puts-not_first w v at l x p e = let on = head-on (next_of w l) (next_of v l) (at l) x (p.tied.runs l) (sym e) in let no = p.absent l in absurd (omega arith)

pub pushed-here : (w v : Way) (at : ℕ → List ℕ) (l x : ℕ) → Puts w v at l x → Runs (next_of (pushed_forth w l x) l) (next_of (pushed_back w v l x) l) None (x ∷ at l) None
pushed-here w v at l x p =
    let second : HasPlace v l (next_of w l None) = puts-second w v at l x p in
    runs-pushed (next_of w l) (next_of v l) (next_of (pushed_forth w l x) l) (next_of (pushed_back w v l x) l) (at l) x (p.tied.runs l) (p.tied.once l) (p.absent l)
    (linked-same (linked w l (Some x) (next_of w l None)) l None (Some x) p.begins)
    (linked-other (linked w l (Some x) (next_of w l None)) l l None (Some x) (Some x) (λ e. cc) ∙ linked-same w l (Some x) (next_of w l None) p.forth)
    (linked-other (linked v l (Some x) None) l l (next_of w l None) (Some x) (Some x) (puts-not_first w v at l x p) ∙ linked-same v l (Some x) None p.back)
    (linked-same (linked v l (Some x) None) l (next_of w l None) (Some x) (linked-place v l (Some x) None (next_of w l None) second))
    (λ y d. linked-other (linked w l (Some x) (next_of w l None)) l l None (Some x) (Some y) (λ e. cc) ∙ linked-other w l l (Some x) (next_of w l None) (Some y) (λ e. let same : y ≡ x = cc in d same))
    (λ n d e. linked-other (linked v l (Some x) None) l l (next_of w l None) (Some x) n d ∙ linked-other v l l (Some x) None n e)

pub pushed-there : (w v : Way) (at : ℕ → List ℕ) (l x k : ℕ) → Puts w v at l x → k ≢ l → Runs (next_of (pushed_forth w l x) k) (next_of (pushed_back w v l x) k) None (at k) None
pushed-there w v at l x k p d =
    runs-frame (next_of w k) (next_of v k) (next_of (pushed_forth w l x) k) (next_of (pushed_back w v l x) k) None None (at k) (p.tied.runs k)
    (linked-list (linked w l (Some x) (next_of w l None)) l k None (Some x) d ∙ linked-list w l k (Some x) (next_of w l None) d)
    (linked-list (linked v l (Some x) None) l k (next_of w l None) (Some x) d ∙ linked-list v l k (Some x) None d)
    (λ y on.
    let away : y ≢ x = absent-other x y (at k) (p.absent k) on in
    let yn : Some y ≢ Some x = λ e. let same : y ≡ x = cc in away same in (
      linked-other (linked w l (Some x) (next_of w l None)) l k None (Some x) (Some y) (λ e. cc) ∙ linked-other w l k (Some x) (next_of w l None) (Some y) yn,
      linked-other (linked v l (Some x) None) l k (next_of w l None) (Some x) (Some y)
          (λ e. d (p.tied.one_list k l y on (head-on (next_of w l) (next_of v l) (at l) y (p.tied.runs l) (sym e))))
          ∙ linked-other v l k (Some x) None (Some y) yn,
    ))

-- x is on list l, and may be taken out
pub record Takes (w v : Way) (at : ℕ → List ℕ) (l x : ℕ) : Type 0 where
  pub tied : Tied w v at
  pub on : 0 < times x (at l)
  pub begins : l < length w.begins
  pub ends : l < length v.begins

-- the way after x was taken out of list l: `back` is the other one
abbrev pub taken_out : Way → Way → ℕ → ℕ → Way
taken_out w v l x = linked w l (next_of v l (Some x)) (next_of w l (Some x))

pub takes-before : (w v : Way) (at : ℕ → List ℕ) (l x : ℕ) → Takes w v at l x → HasPlace w l (next_of v l (Some x))
takes-before w v at l x t = place-of w l (next_of v l (Some x)) t.begins (λ y e. t.tied.forth l y (before-on (next_of w l) (next_of v l) (at l) x y (t.tied.runs l) t.on e))

pub takes-after : (w v : Way) (at : ℕ → List ℕ) (l x : ℕ) → Takes w v at l x → HasPlace v l (next_of w l (Some x))
takes-after w v at l x t = place-of v l (next_of w l (Some x)) t.ends (λ y e. t.tied.back l y (after-on (next_of w l) (next_of v l) (at l) x y (t.tied.runs l) t.on e))

-- only links to x change
taken-forth : (w v : Way) (at : ℕ → List ℕ) (l x k : ℕ) → Takes w v at l x → (n : Option ℕ) → (n ≡ None → k ≢ l) → next_of w k n ≢ Some x → next_of (taken_out w v l x) k n ≡ next_of w k n
taken-forth w v at l x k t None d h = linked-list w l k (next_of v l (Some x)) (next_of w l (Some x)) (d refl)
taken-forth w v at l x k t (Some y) d h =
    linked-other w l k (next_of v l (Some x)) (next_of w l (Some x)) (Some y)
    (λ e. h (ap (next_of w l) e ∙ runs-back (next_of w l) (next_of v l) None None (at l) x (t.tied.runs l) t.on))

taken-back : (w v : Way) (at : ℕ → List ℕ) (l x k : ℕ) → Takes w v at l x → (n : Option ℕ) → (n ≡ None → k ≢ l) → next_of v k n ≢ Some x → next_of (taken_out v w l x) k n ≡ next_of v k n
taken-back w v at l x k t None d h = linked-list v l k (next_of w l (Some x)) (next_of v l (Some x)) (d refl)
taken-back w v at l x k t (Some y) d h =
    linked-other v l k (next_of w l (Some x)) (next_of v l (Some x)) (Some y)
    (λ e. h (ap (next_of v l) e ∙ runs-forth (next_of w l) (next_of v l) None None (at l) x (t.tied.runs l) t.on))

-- the same on list l itself
taken-forth_own : (w v : Way) (at : ℕ → List ℕ) (l x : ℕ) → Takes w v at l x → (n : Option ℕ) → next_of w l n ≢ Some x → next_of (taken_out w v l x) l n ≡ next_of w l n
taken-forth_own w v at l x t n h =
    linked-other w l l (next_of v l (Some x)) (next_of w l (Some x)) n
    (λ e. h (ap (next_of w l) e ∙ runs-back (next_of w l) (next_of v l) None None (at l) x (t.tied.runs l) t.on))

taken-back_own : (w v : Way) (at : ℕ → List ℕ) (l x : ℕ) → Takes w v at l x → (n : Option ℕ) → next_of v l n ≢ Some x → next_of (taken_out v w l x) l n ≡ next_of v l n
taken-back_own w v at l x t n h =
    linked-other v l l (next_of w l (Some x)) (next_of v l (Some x)) n
    (λ e. h (ap (next_of v l) e ∙ runs-forth (next_of w l) (next_of v l) None None (at l) x (t.tied.runs l) t.on))

taken-over : (w v : Way) (l x : ℕ) → HasPlace w l (next_of v l (Some x)) → next_of (taken_out w v l x) l (next_of v l (Some x)) ≡ next_of w l (Some x)
taken-over w v l x h = linked-same w l (next_of v l (Some x)) (next_of w l (Some x)) h

pub taken-here : (w v : Way) (at : ℕ → List ℕ) (l x : ℕ) → Takes w v at l x → Runs (next_of (taken_out w v l x) l) (next_of (taken_out v w l x) l) None (without x (at l)) None
taken-here w v at l x t =
    runs-taken (next_of w l) (next_of v l) (next_of (taken_out w v l x) l) (next_of (taken_out v w l x) l) None None (at l) x (t.tied.runs l) (λ e. cc) (λ e. cc) (t.tied.once l) t.on
    (taken-over w v l x (takes-before w v at l x t)) (taken-over v w l x (takes-after w v at l x t))
    (taken-forth_own w v at l x t) (taken-back_own w v at l x t)

pub taken-there : (w v : Way) (at : ℕ → List ℕ) (l x k : ℕ) → Takes w v at l x → k ≢ l → times x (at k) ≡ 0 → Runs (next_of (taken_out w v l x) k) (next_of (taken_out v w l x) k) None (at k) None
taken-there w v at l x k t d absent =
    runs-past (next_of w k) (next_of v k) (next_of (taken_out w v l x) k) (next_of (taken_out v w l x) k) None None (at k) x (t.tied.runs k) (λ e. cc) (λ e. cc) absent
    (λ n h. taken-forth w v at l x k t n (λ e. d) h) (λ n h. taken-back w v at l x k t n (λ e. d) h)
