-- The blocks that are missing on the way to a page are the last ones on it.
use Rattle.std.proofs.Common.{◌≡◌, ◌≢◌, ◌+◌, ◌-◌, ◌*◌, ◌<◌, ◌≤◌, ◌==◌, ◌&&◌, ℕ, zero, suc, List, [], ◌∷◌, Bool, true, false, length, max}
use Rattle.std.proofs.Common.{get_or, take, arith, ap, refl, sym, ◌∙◌}
use Rattle.std.proofs.lemmas.Bool.{eqb-true}
use Rattle.std.proofs.lemmas.Bool.Decides.{nat_tests}
use Rattle.sv_form.specs.PagePath.{IsPath, page_of, block_numbers, first_single, first_double, first_triple}
use Rattle.sv_form.specs.declared.geometry.Geometry.{Geometry}
use Rattle.sv_form.specs.declared.page_path.PagePath.{PagePath}
use Rattle.sv_form.specs.declared.page_path.PagePath.TheVariants.{Direct, Single, Double, Triple}
use Rattle.sv_store.specs.Held.{Held}
use Rattle.sv_bmap.specs.Tree.{child, down, slot_of, places_of}
use Rattle.sv_bmap.specs.Need.{counts_at, need_at, need_of}
use Rattle.sv_bmap.proofs.Needs.{flag, count-one, count-two, count-three, count-four, need-is, need-none, need-more, plus, row-grows}
use Rattle.sv_bmap.proofs.Empty.{down-hole}
use Rattle.sv_bmap.proofs.Paths.{child-hole}

-- how many of the blocks on the way are missing
abbrev pub zeros : Held → ℕ → List ℕ → ℕ
zeros h b [] = flag (b == 0)
zeros h b (k ∷ ks) = flag (b == 0) + zeros h (child h b k) ks

-- so many are missing, and these are the last ones
pub record IsGap (h : Held) (b : ℕ) (ks : List ℕ) (count : ℕ) : Type 0 where
  pub few : count ≤ length ks + 1
  pub holes : (i : ℕ) → length ks + 1 - count ≤ i → i ≤ length ks → down h b (take i ks) ≡ 0
  pub there : (m : ℕ) → m < length ks + 1 - count → down h b (take m ks) ≢ 0

pub hole-zeros : (h : Held) (b : ℕ) (ks : List ℕ) → b ≡ 0 → zeros h b ks ≡ length ks + 1
hole-zeros h b [] e = ap (λ q. flag (q == 0)) e ∙ omega arith
hole-zeros h b (k ∷ ks) e = plus (ap (λ q. flag (q == 0)) e) (hole-zeros h (child h b k) ks (child-hole h b k e)) ∙ omega arith

no : (x y : ℕ) → (x == y) ≡ false → x ≢ y
no x y h = grind (nat_tests, arith)

pub gap : (h : Held) (b : ℕ) (ks : List ℕ) → IsGap h b ks (zeros h b ks)
gap h b [] = by (b == 0) refl
  where
    none : (i : ℕ) → i ≤ 0 → down h b (take i []) ≡ b
    none i low = (let e : i ≡ 0 = omega (arith, low) in ap (λ q. down h b (take q [])) e)

    by : (t : Bool) → (b == 0) ≡ t → IsGap h b [] (flag (b == 0))
    by true e = record {
      few = omega (arith, ap flag e);
      holes = λ i low high. none i high ∙ eqb-true b 0 e;
      there = λ m low. absurd (omega (arith, ap flag e, low));
    }
    by false e = record {
      few = omega (arith, ap flag e);
      holes = λ i low high. absurd (omega (arith, ap flag e, low, high));
      there = λ m low z. no b 0 e (sym (none m (omega (arith, ap flag e, low))) ∙ z);
    }
gap h b (k ∷ ks) = by (gap h (child h b k) ks) (b == 0) refl
  where
    by : IsGap h (child h b k) ks (zeros h (child h b k) ks) → (t : Bool) → (b == 0) ≡ t
        → IsGap h b (k ∷ ks) (flag (b == 0) + zeros h (child h b k) ks)
    by rest true e =
        (let hole : b ≡ 0 = eqb-true b 0 e in
        let all : zeros h b (k ∷ ks) ≡ length (k ∷ ks) + 1 = hole-zeros h b (k ∷ ks) hole in
        record {
          few = omega (arith, all);
          holes = λ i low high. down-hole h b (take i (k ∷ ks)) hole;
          there = λ m low. absurd (omega (arith, all, low));
        })
    by rest false e = record {
      few = omega (arith, ap flag e, rest.few);
      holes = holes;
      there = there;
    }
      where
        holes : (i : ℕ) → length (k ∷ ks) + 1 - (flag (b == 0) + zeros h (child h b k) ks) ≤ i → i ≤ length (k ∷ ks)
            → down h b (take i (k ∷ ks)) ≡ 0
        holes zero low high = absurd (omega (arith, ap flag e, rest.few, low))
        holes (suc i) low high = rest.holes i (omega (arith, ap flag e, low)) (omega (arith, high))

        there : (m : ℕ) → m < length (k ∷ ks) + 1 - (flag (b == 0) + zeros h (child h b k) ks) → down h b (take m (k ∷ ks)) ≢ 0
        there zero low = no b 0 e
        there (suc m) low = rest.there m (omega (arith, ap flag e, low))

-- ---- what is missing is what the page needs

and-true : (t : Bool) → (t && true) ≡ t
and-true true = refl
and-true false = refl

own : (page from block : ℕ) → from ≤ page → flag (counts_at page page (record { from = from; block = block })) ≡ flag (block == 0)
own page from block low = ap (λ q. flag ((block == 0) && q)) (same (max page from) page (omega (arith, low)))
    ∙ ap flag (and-true (block == 0))
  where
    same : (x y : ℕ) → x ≡ y → (x == y) ≡ true
    same x y h = grind (nat_tests, arith)

need-own : (g : Geometry) (h : Held) (a : List ℕ) (p : PagePath) (page : ℕ) → IsPath g p → page_of g p ≡ page
    → need_at g h a page page ≡ zeros h (get_or a (slot_of p) 0) (places_of p)
need-own g h a (Direct i) page is at = need-is g g h a (Direct i) page page refl is at
    ∙ (count-one (counts_at page page) _ ∙ own page i (get_or a i 0) (omega (arith, at)))
need-own g h a (Single i) page is at =
    need-is g g h a (Single i) page page refl is at
    ∙ (count-two (counts_at page page) _ _
    ∙ plus (own page (first_single + 0) (get_or a 10 0) (omega (arith, at)))
    (own page (first_single + i) (child h (get_or a 10 0) i) (omega (arith, at))))
need-own g h a (Double i j) page is at =
    let n : ℕ = block_numbers g in
    need-is g g h a (Double i j) page page refl is at
    ∙ (count-three (counts_at page page) _ _ _
    ∙ plus (own page (first_double n + (0 * n + 0)) (get_or a 11 0) (omega (arith, at, row-grows n 0 0 i j (omega arith) (omega arith))))
    (plus (own page (first_double n + (i * n + 0)) (child h (get_or a 11 0) i) (omega (arith, at)))
    (own page (first_double n + (i * n + j)) (child h (child h (get_or a 11 0) i) j) (omega (arith, at)))))
need-own g h a (Triple i j k) page is at =
    let n : ℕ = block_numbers g in
    let x : ℕ = first_triple n in
    let first-rows : 0 * n + 0 ≤ i * n + j = row-grows n 0 0 i j (omega arith) (omega arith) in
    let rows : i * n + 0 ≤ i * n + j = omega arith in
    need-is g g h a (Triple i j k) page page refl is at
    ∙ (count-four (counts_at page page) _ _ _ _
    ∙ plus (own page (x + ((0 * n + 0) * n + 0)) (get_or a 12 0)
    (omega (arith, at, row-grows n (0 * n + 0) 0 (i * n + j) k first-rows (omega arith))))
    (plus (own page (x + ((i * n + 0) * n + 0)) (child h (get_or a 12 0) i)
    (omega (arith, at, row-grows n (i * n + 0) 0 (i * n + j) k rows (omega arith))))
    (plus (own page (x + ((i * n + j) * n + 0)) (child h (child h (get_or a 12 0) i) j) (omega (arith, at)))
    (own page (x + ((i * n + j) * n + k)) (child h (child h (child h (get_or a 12 0) i) j) k) (omega (arith, at))))))

pub need-zeros : (g : Geometry) (h : Held) (a : List ℕ) (p : PagePath) (page : ℕ) → IsPath g p → page_of g p ≡ page
    → need_of g h a page 1 ≡ zeros h (get_or a (slot_of p) 0) (places_of p)
need-zeros g h a p page is at =
    let same : page + 0 ≡ page = omega arith in
    omega (arith, need-more g h a page 0, need-none g h a page, ap (need_at g h a page) same, need-own g h a p page is at)

-- a page that is a hole needs itself at least
pub some-zeros : (h : Held) (b : ℕ) (ks : List ℕ) → down h b ks ≡ 0 → 0 < zeros h b ks
some-zeros h b [] e = omega (arith, ap (λ q. flag (q == 0)) e)
some-zeros h b (k ∷ ks) e = omega (arith, some-zeros h (child h b k) ks e)
