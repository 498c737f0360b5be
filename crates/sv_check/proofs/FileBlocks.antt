-- The block of a page, found by its number among the pages of a file.
use Rattle.std.proofs.Common.{◌≡◌, ◌≢◌, ◌≤◌, ◌<◌, ◌+◌, ◌==◌, ◌++◌, ◌∷◌, [], ◌∙◌, ℕ, suc, Bool, true, false, List, Option, Some, None, ap, refl, sym, subst, cond, if◌then◌else◌, find, option_map, unwrap_or, drop, length, get_or, nat_le, nat_lt, arith}
use Rattle.std.specs.List.{list_all}
use Rattle.std.proofs.Math.ListN.{drop_of_length-le}
use Rattle.std.proofs.Math.Seq.{drop-cons}
use Rattle.std.proofs.lemmas.Bool.{eq-eqb}
use Rattle.sv_form.specs.declared.geometry.Geometry.{Geometry}
use Rattle.sv_form.specs.Geometry.{IsDataBlock}
use Rattle.sv_check.specs.declared.sound.met.Met.{Met}
use Rattle.sv_check.specs.declared.pages.PageBlock.{PageBlock}
use Rattle.sv_check.specs.FilePages.{AreInData, AreInOrder, IsAtBlock, block_at}
use Rattle.sv_check.specs.Pages.{IsAscending, has_number, pages_among}
use Rattle.sv_check.specs.Progress.{met_at}
use Rattle.sv_check.specs.Walk.{Reached, is_data_block}
use Rattle.sv_check.proofs.InodeReads.{and_first, and_second}
use Rattle.sv_check.proofs.PageFinds.{absent, other_page}

-- ---- in data blocks

pub data_of : (g : Geometry) (b : ℕ) → is_data_block g b ≡ true → IsDataBlock g b
data_of g b is =
    let least = and_first (nat_le g.first_data b) (nat_lt b g.blocks) is in
    let most = and_second (nat_le g.first_data b) (nat_lt b g.blocks) is in
    record { least = grind (arith, least); most = grind (arith, most) }

module _ (g : Geometry) (n : ℕ) where
  abbrev IsData : ℕ → Type 0
  IsData b = b ≢ 0 → IsDataBlock g b

  found_data : (b : ℕ) (t : Bool) (rest : Option PageBlock) (page : ℕ) → is_data_block g b ≡ true → IsData (unwrap_or (option_map (λ p. p.block) rest) 0)
      → IsData (unwrap_or (option_map (λ p. p.block) (cond t (Some (record { page = page; block = b })) rest)) 0)
  found_data b true rest page is more = λ _. data_of g b is
  found_data b false rest page is more = more

  reached_data : (r : Reached) (rs : List Reached) (t : Bool) (k : ℕ) → is_data_block g r.block ≡ true → IsData (block_at (pages_among rs) k)
      → IsData (block_at ((if t then record { page = r.page; block = r.block } ∷ [] else []) ++ pages_among rs) k)
  reached_data r rs true k is more = found_data r.block (r.page == k) (find (has_number k) (pages_among rs)) r.page is more
  reached_data r rs false k is more = more

  pub are_in_data : (rs : List Reached) → list_all (λ m. is_data_block g m.block) (met_at n rs) ≡ true → AreInData g (pages_among rs)
  are_in_data [] all k = λ some. absurd (some refl)
  are_in_data (r ∷ rs) all k =
      let here : is_data_block g r.block ≡ true = and_first (is_data_block g r.block) (list_all (λ (m : Met). is_data_block g m.block) (met_at n rs)) all in
      let rest = and_second (is_data_block g r.block) (list_all (λ (m : Met). is_data_block g m.block) (met_at n rs)) all in
      reached_data r rs (r.height == 0) k here (are_in_data rs rest k)

-- ---- page after page

pub at_start : (ps : List PageBlock) (o : AreInOrder ps) → IsAtBlock ps 0 0
at_start ps o = record { ahead = λ j low. refl; high = o.high; ascends = o.ascends }

module _ (ps : List PageBlock) (at k : ℕ) (is : IsAtBlock ps at k) where
  none_here : (find (has_number k) (drop at ps) ≡ None) → 0 ≡ block_at ps k
  none_here none = sym (ap (λ (o : Option PageBlock). unwrap_or (option_map (λ p. p.block) o) 0) (is.ahead k (omega arith) ∙ none))

  pub no_more : length ps ≤ at → (0 ≡ block_at ps k) × IsAtBlock ps at (k + 1)
  no_more over =
      let empty : drop at ps ≡ [] = drop_of_length-le ps {i = at} over in (
        none_here (ap (find (has_number k)) empty),
        record {
          ahead = λ j low. is.ahead j (omega (arith, low));
          high = k + 1;
          ascends = subst (λ (l : List PageBlock). IsAscending (k + 1) l (k + 1)) (sym empty) (omega arith);
        },
      )

  module _ (d : PageBlock) (inside : at < length ps) where
    abbrev p : PageBlock
    p = get_or ps at d

    from_here : drop at ps ≡ p ∷ drop (at + 1) ps
    from_here =
        let next : suc at ≡ at + 1 = omega arith in
        drop-cons ps at d inside ∙ ap (λ (j : ℕ). p ∷ drop j ps) next

    ascends_here : IsAscending k (p ∷ drop (at + 1) ps) is.high
    ascends_here = subst (λ (l : List PageBlock). IsAscending k l is.high) from_here is.ascends

    pub block_here : p.page ≡ k → p.block ≡ block_at ps k
    block_here e =
        let so : (p.page == k) ≡ true = eq-eqb p.page k e in
        sym (ap (λ (o : Option PageBlock). unwrap_or (option_map (λ q. q.block) o) 0)
        (is.ahead k (omega arith) ∙ ap (find (has_number k)) from_here ∙ ap (λ (t : Bool). cond t (Some p) (find (has_number k) (drop (at + 1) ps))) so))

    pub at_next : p.page ≡ k → IsAtBlock ps (at + 1) (k + 1)
    at_next e = record {
      ahead = λ j low.
          let not_so : (p.page == j) ≡ false = other_page j p.page (λ f. omega (arith, e, f, low)) in
          is.ahead j (omega (arith, low)) ∙ ap (find (has_number j)) from_here ∙ ap (λ (t : Bool). cond t (Some p) (find (has_number j) (drop (at + 1) ps))) not_so;
      high = is.high;
      ascends = subst (λ (x : ℕ). IsAscending (x + 1) (drop (at + 1) ps) is.high) e ascends_here.1;
    }

    pub hole_here : p.page ≢ k → (0 ≡ block_at ps k) × IsAtBlock ps at (k + 1)
    hole_here other =
        let past : k + 1 ≤ p.page = omega (arith, ascends_here.0, other) in (
          none_here (ap (find (has_number k)) from_here ∙ ap (λ (t : Bool). cond t (Some p) (find (has_number k) (drop (at + 1) ps))) (other_page k p.page other)
              ∙ absent (p.page + 1) is.high k (drop (at + 1) ps) ascends_here.1 (omega (arith, past))),
          record {
            ahead = λ j low. is.ahead j (omega (arith, low));
            high = is.high;
            ascends = subst (λ (l : List PageBlock). IsAscending (k + 1) l is.high) (sym from_here) (past, ascends_here.1);
          },
        )
