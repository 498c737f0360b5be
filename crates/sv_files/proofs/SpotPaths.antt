-- The path of the page to which a whole way leads, from an address of the inode.
use Rattle.std.proofs.Common.{◌≡◌, ◌≤◌, ◌<◌, ◌+◌, ◌*◌, ◌^◌, ◌==◌, ◌∷◌, [], ◌∙◌, ℕ, Bool, List, inl, inr, ap, sym, refl, subst}
use Rattle.std.proofs.Common.{if◌then◌else◌, length, slice_index, arith}
use Rattle.std.proofs.Math.Nat.{mul-le-mul_right, pow-suc, pow-zero}
use Rattle.std.proofs.lemmas.Bool.{cases_eq, cases_lt}
use Rattle.sv_form.specs.declared.geometry.Geometry.{Geometry}
use Rattle.sv_form.specs.declared.page_path.PagePath.{PagePath}
use Rattle.sv_form.specs.declared.page_path.PagePath.TheVariants.{Direct, Single, Double, Triple}
use Rattle.sv_form.specs.PagePath.{IsPath, block_numbers, first_double, first_triple, page_limit, page_of}
use Rattle.sv_bmap.specs.Tree.{places_of, slot_of}
use Rattle.sv_check.specs.Walk.{first_page, height_of}
use Rattle.sv_check.proofs.BooleanTests.{at_most-test}
use Rattle.sv_files.proofs.EachReached.{offset, offset-none}

pow-one : (n : ℕ) → n ^ 1 ≡ n
pow-one n = grind (arith, pow-suc n 0, pow-zero n)

pow-two : (n : ℕ) → n ^ 2 ≡ n * n
pow-two n = pow-suc n 1 ∙ ap (λ (x : ℕ). x * n) (pow-one n)

module _ (g : Geometry) where
  abbrev per : ℕ
  per = block_numbers g

  -- a path leads to the page at this spot
  pub record HasPathAt (slot : ℕ) (ks : List ℕ) (page : ℕ) : Type 0 where
    pub path : PagePath
    pub is : IsPath g path
    pub page_is : page_of g path ≡ page
    pub slot_is : slot_of path ≡ slot
    pub places_is : places_of path ≡ ks

  direct : (slot : ℕ) (ks : List ℕ) → slot < 10 → length ks ≡ height_of slot
      → HasPathAt slot ks (first_page g slot + offset per (height_of slot) ks)
  direct slot [] low size =
      let none = offset-none per (height_of slot) in
      let first : first_page g slot ≡ slot =
      ap (λ (t : Bool). if t then slot else (if slot == 11 then first_double per else first_triple per))
      (at_most-test slot 10 (omega (arith, low))) in
      record { path = Direct slot; is = low; page_is = omega (arith, none, first); slot_is = refl; places_is = refl }
  direct slot (k ∷ ks) low size = absurd (omega (arith, low, size))

  single : (ks : List ℕ) → length ks ≡ 1 → ((i : ℕ) → i < length ks → slice_index ks i < per)
      → HasPathAt 10 ks (first_page g 10 + offset per 1 ks)
  single [] size low = absurd (omega (arith, size))
  single (i ∷ j ∷ ks) size low = absurd (omega (arith, size))
  single (i ∷ []) size low =
      let one : i * per ^ 0 ≡ i * 1 = ap (λ (x : ℕ). i * x) (pow-zero per) in
      record { path = Single i; is = low 0 (omega arith); page_is = omega (arith, one); slot_is = refl; places_is = refl }

  double : (ks : List ℕ) → length ks ≡ 2 → ((i : ℕ) → i < length ks → slice_index ks i < per)
      → HasPathAt 11 ks (first_page g 11 + offset per 2 ks)
  double [] size low = absurd (omega (arith, size))
  double (i ∷ []) size low = absurd (omega (arith, size))
  double (i ∷ j ∷ k ∷ ks) size low = absurd (omega (arith, size))
  double (i ∷ j ∷ []) size low =
      let one : j * per ^ 0 ≡ j * 1 = ap (λ (x : ℕ). j * x) (pow-zero per) in
      let two : i * per ^ 1 ≡ i * per = ap (λ (x : ℕ). i * x) (pow-one per) in
      record {
        path = Double i j;
        is = (low 0 (omega arith), low 1 (omega arith));
        page_is = omega
            (arith, one, two);
        slot_is = refl;
        places_is = refl;
      }

  triple : (ks : List ℕ) → length ks ≡ 3 → ((i : ℕ) → i < length ks → slice_index ks i < per)
      → HasPathAt 12 ks (first_page g 12 + offset per 3 ks)
  triple [] size low = absurd (omega (arith, size))
  triple (i ∷ []) size low = absurd (omega (arith, size))
  triple (i ∷ j ∷ []) size low = absurd (omega (arith, size))
  triple (i ∷ j ∷ k ∷ l ∷ ks) size low = absurd (omega (arith, size))
  triple (i ∷ j ∷ k ∷ []) size low =
      let one : k * per ^ 0 ≡ k * 1 = ap (λ (x : ℕ). k * x) (pow-zero per) in
      let two : j * per ^ 1 ≡ j * per = ap (λ (x : ℕ). j * x) (pow-one per) in
      let three : i * per ^ 2 ≡ i * (per * per) = ap (λ (x : ℕ). i * x) (pow-two per) in
      let all : (i * per + j) * per ≡ i * (per * per) + j * per = grind arith in
      record {
        path = Triple i j k;
        is = (low 0 (omega arith), low 1 (omega arith), low 2 (omega arith));
        page_is = omega
            (arith, one, two, three, all);
        slot_is = refl;
        places_is = refl;
      }

  pub spot_path : (slot : ℕ) (ks : List ℕ) → slot < 13 → length ks ≡ height_of slot → ((i : ℕ) → i < length ks → slice_index ks i < per)
      → HasPathAt slot ks (first_page g slot + offset per (height_of slot) ks)
  spot_path slot ks among size low =
      elim (cases_lt slot 10) [
        | inl first ↦ direct slot ks first size
        | inr past ↦ elim (cases_eq slot 10) [
          | inl is ↦
              subst (λ (s : ℕ). HasPathAt s ks (first_page g s + offset per (height_of s) ks)) (sym is)
              (single ks (omega (arith, size, is)) low)
          | inr other ↦ elim (cases_eq slot 11) [
            | inl is ↦
                subst (λ (s : ℕ). HasPathAt s ks (first_page g s + offset per (height_of s) ks)) (sym is)
                (double ks (omega (arith, size, is)) low)
            | inr another ↦
                let is : slot ≡ 12 = omega (arith, among, past, other, another) in
                subst (λ (s : ℕ). HasPathAt s ks (first_page g s + offset per (height_of s) ks)) (sym is)
                (triple ks (omega (arith, size, is)) low)
          ]
        ]
      ]

  -- a path leads to a page within the reach of the tree
  pub path-low : (p : PagePath) → IsPath g p → page_of g p < page_limit per
  path-low (Direct i) is = omega (arith, is)
  path-low (Single i) is = omega (arith, is)
  path-low (Double i j) is =
      let row : (i + 1) * per ≤ per * per = mul-le-mul_right per (let low = is.0 in omega (arith, low)) in
      let wide : (i + 1) * per ≡ i * per + per = grind arith in
      let low = is.1 in
      omega (arith, row, wide, low)
  path-low (Triple i j k) is =
      let row : (i + 1) * per ≤ per * per = mul-le-mul_right per (let low = is.0 in omega (arith, low)) in
      let wide : (i + 1) * per ≡ i * per + per = grind arith in
      let inner = is.1 in
      let cell : (i * per + j + 1) * per ≤ per * per * per = mul-le-mul_right per (omega (arith, row, wide, inner)) in
      let span : (i * per + j + 1) * per ≡ (i * per + j) * per + per = grind arith in
      let low = is.2 in
      omega (arith, cell, span, low)
