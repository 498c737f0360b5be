-- A page of a file is found by its number among its pages, which ascend.
use Rattle.std.proofs.Common.{◌≡◌, ◌≢◌, ◌≤◌, ◌<◌, ◌+◌, ◌==◌, ◌&&◌, ◌++◌, ◌∷◌, [], ◌∙◌, ℕ, suc, Bool, true, false, List, Option, Some, None, ap, refl, subst, cond, if◌then◌else◌, find, option_map, drop, length, get_or, arith}
use Rattle.std.proofs.Math.ListN.{drop_of_length-le}
use Rattle.std.proofs.Math.Seq.{drop-cons}
use Rattle.std.proofs.lemmas.Bool.{eq-eqb}
use Rattle.sv_check.specs.declared.pages.PageBlock.{PageBlock}
use Rattle.sv_check.specs.Pages.{has_number, IsAscending, IsAtPage, pages_among}
use Rattle.sv_check.specs.Walk.{Reached}

-- ---- among all blocks and among the pages

module _ {X : Type 0} (f : ℕ → X) (k : ℕ) where
  abbrev shown : Option Reached → Option X
  shown o = option_map (λ r. f r.block) o

  abbrev page_shown : Option PageBlock → Option X
  page_shown o = option_map (λ p. f p.block) o

  by_number : (r : Reached) (here : Bool) (all : Option Reached) (pages : Option PageBlock) → shown all ≡ page_shown pages
      → shown (cond here (Some r) all) ≡ page_shown (cond here (Some (record { page = r.page; block = r.block })) pages)
  by_number r true all pages same = refl
  by_number r false all pages same = same

  by_height : (r : Reached) (rs : List Reached) (high : Bool) → shown (find (λ q. (q.height == 0) && (q.page == k)) rs) ≡ page_shown (find (has_number k) (pages_among rs))
      → shown (cond (high && (r.page == k)) (Some r) (find (λ q. (q.height == 0) && (q.page == k)) rs))
      ≡ page_shown (find (has_number k) ((if high then record { page = r.page; block = r.block } ∷ [] else []) ++ pages_among rs))
  by_height r rs true same = by_number r (r.page == k) (find (λ q. (q.height == 0) && (q.page == k)) rs) (find (has_number k) (pages_among rs)) same
  by_height r rs false same = same

  pub found_among : (rs : List Reached) → shown (find (λ q. (q.height == 0) && (q.page == k)) rs) ≡ page_shown (find (has_number k) (pages_among rs))
  found_among [] = refl
  found_among (r ∷ rs) = by_height r rs (r.height == 0) (found_among rs)

-- ---- page after page

pub at_first : (ps : List PageBlock) (high : ℕ) → IsAscending 0 ps high → IsAtPage ps 0 high
at_first ps high is = record { ahead = λ j low. refl; ascends = is }

pub other_page : (j k : ℕ) → k ≢ j → (k == j) ≡ false
other_page j k other = grind (arith, other)

pub absent : (low high k : ℕ) (ps : List PageBlock) → IsAscending low ps high → k < low → find (has_number k) ps ≡ None
absent low high k [] is below = refl
absent low high k (p ∷ ps) is below =
    let other : (p.page == k) ≡ false = other_page k p.page (λ e. omega (arith, e, is.0, below)) in
    ap (λ (t : Bool). cond t (Some p) (find (has_number k) ps)) other ∙ absent (p.page + 1) high k ps is.1 (omega (arith, is.0, below))

module _ (ps : List PageBlock) (k high : ℕ) (at : IsAtPage ps k high) where
  module _ (d : PageBlock) (inside : k < length ps) where
    abbrev p : PageBlock
    p = get_or ps k d

    from_here : drop k ps ≡ p ∷ drop (k + 1) ps
    from_here =
        let next : suc k ≡ k + 1 = omega arith in
        drop-cons ps k d inside ∙ ap (λ (j : ℕ). p ∷ drop j ps) next

    ascends_here : IsAscending k (p ∷ drop (k + 1) ps) high
    ascends_here = subst (λ (l : List PageBlock). IsAscending k l high) from_here at.ascends

    pub page_here : p.page ≡ k → find (has_number k) ps ≡ Some (record { page = k; block = p.block })
    page_here e =
        let so : (p.page == k) ≡ true = eq-eqb p.page k e in
        let number : ℕ → Option PageBlock = λ x. Some (record { page = x; block = p.block }) in
        at.ahead k (omega arith) ∙ ap (find (has_number k)) from_here ∙ ap (λ (t : Bool). cond t (Some p) (find (has_number k) (drop (k + 1) ps))) so ∙ ap number e

    pub at_next : p.page ≡ k → IsAtPage ps (k + 1) high
    at_next e = record {
      ahead = λ j low.
          let not_so : (p.page == j) ≡ false = other_page j p.page (λ f. omega (arith, e, f, low)) in
          at.ahead j (omega (arith, low)) ∙ ap (find (has_number j)) from_here ∙ ap (λ (t : Bool). cond t (Some p) (find (has_number j) (drop (k + 1) ps))) not_so;
      ascends = subst (λ (x : ℕ). IsAscending (x + 1) (drop (k + 1) ps) high) e ascends_here.1;
    }

    pub page_past : p.page ≢ k → find (has_number k) ps ≡ None
    page_past other =
        at.ahead k (omega arith) ∙ ap (find (has_number k)) from_here ∙ ap (λ (t : Bool). cond t (Some p) (find (has_number k) (drop (k + 1) ps))) (other_page k p.page other)
        ∙ absent (p.page + 1) high k (drop (k + 1) ps) ascends_here.1 (omega (arith, ascends_here.0, other))

  pub no_page : length ps ≤ k → find (has_number k) ps ≡ None
  no_page over = at.ahead k (omega arith) ∙ ap (find (has_number k)) (drop_of_length-le ps {i = k} over)
