-- Where the pieces of what is written end: each but the last at the end of its page.
use Rattle.std.proofs.Common.{◌≡◌, ◌≤◌, ◌<◌, ◌+◌, ◌-◌, ◌*◌, ◌/◌, ◌%◌, ◌⊎◌, inl, inr, ℕ, zero, suc, Bool, true, false, List, length, min}
use Rattle.std.proofs.Common.{slice_range, nat_le, nat_lt, arith, refl, sym, ap, ◌∙◌}
use Rattle.std.proofs.lemmas.Bool.Decides.{nat_tests}
use Rattle.std.proofs.lemmas.Nat.{div_below, le-div, div-mul-add, mod-mul-add}
use Rattle.std.proofs.Math.Nat.{div-mul-le_self, lt-div-mul-add, mul-le-mul_right}
use Rattle.sv_form.specs.PagePath.{IsPage, greatest_size}
use Rattle.sv_form.specs.declared.geometry.Geometry.{Geometry}

-- Of the bytes that are put from byte `at` of the file on, those from `done` up to `next` are the next piece: they begin at
-- byte `inside` of the page, and go up to its end or to the last of the bytes.
pub record IsPiece (block at : ℕ) (from : List ℕ) (done next page inside : ℕ) (piece : List ℕ) : Type 0 where
  pub some : done < length from
  pub page_is : page ≡ (at + done) / block
  pub inside_is : inside ≡ (at + done) % block
  pub next_is : next ≡ done + min (block - inside) (length from - done)
  pub piece_is : piece ≡ slice_range from done next

whole-rest : (x n : ℕ) → 0 < n → x / n * n + x % n ≡ x
whole-rest x n pos = grind arith

rest-low : (x n : ℕ) → 0 < n → x % n < n
rest-low x n pos = grind arith

module _ {block at : ℕ} {from : List ℕ} {done next page inside : ℕ} {piece : List ℕ} (pos : 0 < block)
    (is : IsPiece block at from done next page inside piece) where
  -- where the piece lies
  pub piece-starts : page * block + inside ≡ at + done
  piece-starts = ap (λ q. q * block + inside) is.page_is
      ∙ (ap (λ q. (at + done) / block * block + q) is.inside_is ∙ whole-rest (at + done) block pos)

  pub piece-inside : inside < block
  piece-inside = omega (arith, is.inside_is, rest-low (at + done) block pos)

  pub piece-more : done < next
  piece-more = omega (arith, is.next_is, piece-inside, is.some)

  pub piece-fits : next ≤ length from
  piece-fits = omega (arith, is.next_is, is.some)

  pub piece-ends : at + next ≤ page * block + block
  piece-ends = omega (arith, is.next_is, piece-starts, piece-inside)

  pub piece-from : page * block ≤ at + done
  piece-from = omega (arith, piece-starts)

  -- it goes up to the end of the page, or to the last of the bytes
  pub piece-full : (at + next ≡ page * block + block) ⊎ (next ≡ length from)
  piece-full = by (nat_le (block - inside) (length from - done)) refl
    where
      by : (t : Bool) → nat_le (block - inside) (length from - done) ≡ t → (at + next ≡ page * block + block) ⊎ (next ≡ length from)
      by true e = (let low : block - inside ≤ length from - done = grind (nat_tests, arith) in inl
          (omega (arith, low, is.next_is, piece-starts, piece-inside)))
      by false e = (let high : length from - done < block - inside = grind (nat_tests, arith) in inr
          (omega (arith, high, is.next_is, is.some)))

-- ---- so many pages done

-- how many pages these bytes lie in
abbrev pub page_count : ℕ → ℕ → ℕ → ℕ
page_count block at count = (at + count - 1) / block - at / block + 1

-- so many pages of the range are done, and with them so many of the bytes
pub record IsReached (block at count k done : ℕ) : Type 0 where
  pub is : done ≡ min count ((at / block + k) * block - at)

module _ (block at : ℕ) (pos : 0 < block) where
  first-low : at / block * block ≤ at
  first-low = div-mul-le_self at block

  first-high : at < at / block * block + block
  first-high = lt-div-mul-add pos

  rows-more : (k : ℕ) → (at / block + k) * block ≡ at / block * block + k * block
  rows-more k = grind arith

  pub first-count : (count : ℕ) → 0 < count → at / block ≤ (at + count - 1) / block
  first-count count some = le-div (at / block) (at + count - 1) block pos (omega (arith, first-low, some))

  -- none is done yet
  pub reached-begin : (count : ℕ) → IsReached block at count 0 0
  reached-begin count = record { is = omega (arith, rows-more 0, first-low) }

  -- before the first page none is done, and with it some
  pub reached-none : (count done : ℕ) → IsReached block at count 0 done → done ≡ 0
  reached-none count done reached = omega (arith, reached.is, rows-more 0, first-low)

  pub reached-some : (count k done : ℕ) → IsReached block at count (suc k) done → 0 < count → 0 < done
  reached-some count k done reached some =
      let one : block ≤ suc k * block = (let rows : suc k * block ≡ k * block + block = grind arith in omega (arith, rows)) in
      omega (arith, reached.is, rows-more (suc k), first-high, one, some)

  -- a piece begins where as many pages are done as stand before its own
  pub reached-page : (count k done : ℕ) → IsReached block at count k done → done < count → (at + done) / block ≡ at / block + k
  reached-page count zero done reached low =
      let none : done ≡ 0 = omega (arith, reached.is, rows-more 0, first-low, low) in
      let here : at + done ≡ at = omega (arith, none) in
      ap (λ q. q / block) here ∙ omega arith
  reached-page count (suc k) done reached low =
      let one : block ≤ suc k * block = (let rows : suc k * block ≡ k * block + block = grind arith in omega (arith, rows)) in
      let here : at + done ≡ (at / block + suc k) * block + 0 = omega (arith, reached.is, rows-more (suc k), first-high, one, low) in
      ap (λ q. q / block) here ∙ div-mul-add (at / block + suc k) block 0 pos

  -- it is a page of the range
  pub reached-low : (count k done : ℕ) → IsReached block at count k done → done < count → k < page_count block at count
  reached-low count k done reached low =
      let page : (at + done) / block ≡ at / block + k = reached-page count k done reached low in
      let last : (at + done) / block ≤ (at + count - 1) / block = le-div ((at + done) / block) (at + count - 1) block pos
      (omega (arith, div-mul-le_self (at + done) block, low)) in
      omega (arith, page, last)

  -- so many bytes end at a page's end, or are all or none
  pub reached-ends : (count k done : ℕ) → IsReached block at count k done → (done ≡ 0) ⊎ ((done ≡ count) ⊎ ((at + done) % block ≡ 0))
  reached-ends count zero done reached = inl (omega (arith, reached.is, rows-more 0, first-low))
  reached-ends count (suc k) done reached = by (nat_lt done count) refl
    where
      by : (t : Bool) → nat_lt done count ≡ t → (done ≡ 0) ⊎ ((done ≡ count) ⊎ ((at + done) % block ≡ 0))
      by false e = (let all : count ≤ done = grind (nat_tests, arith) in inr (inl (omega (arith, all, reached.is))))
      by true e =
          (let low : done < count = grind (nat_tests, arith) in
          let one : block ≤ suc k * block = (let rows : suc k * block ≡ k * block + block = grind arith in omega (arith, rows)) in
          let here : at + done ≡ (at / block + suc k) * block + 0 = omega (arith, reached.is, rows-more (suc k), first-high, one, low) in
          inr (inr (ap (λ q. q % block) here ∙ mod-mul-add (at / block + suc k) block 0 pos)))

  -- when all pages are done, so are all bytes
  pub reached-all : (count k done : ℕ) → IsReached block at count k done → page_count block at count ≤ k → done ≡ count
  reached-all count k done reached all = by (nat_lt done count) refl
    where
      by : (t : Bool) → nat_lt done count ≡ t → done ≡ count
      by true e = (let low : done < count = grind (nat_tests, arith) in absurd (omega (arith, reached-low count k done reached low, all)))
      by false e = (let high : count ≤ done = grind (nat_tests, arith) in omega (arith, high, reached.is))

  -- so many bytes lie in as many pages as are done
  pub reached-count : (count k done : ℕ) → IsReached block at count (suc k) done → suc k ≤ page_count block at count → 0 < count
      → page_count block at done ≡ suc k
  reached-count count k done reached low some =
      let first : ℕ = at / block in
      let one : (first + suc k) * block ≡ (first + k) * block + block = grind arith in
      let over : first * block ≤ (first + k) * block = mul-le-mul_right block (omega arith) in
      let ends : at < (first + suc k) * block = omega (arith, one, over, first-high) in
      let fits : (first + k) * block ≤ at + count - 1 =
      (let rows : (first + k) * block ≤ (at + count - 1) / block * block = mul-le-mul_right block
      (omega (arith, low, first-count count some)) in omega (arith, rows, div-mul-le_self (at + count - 1) block)) in
      let least : first + k ≤ (at + done - 1) / block = le-div (first + k) (at + done - 1) block pos
      (omega (arith, reached.is, ends, one, fits, pos)) in
      let most : (at + done - 1) / block < first + suc k = div_below (at + done - 1) block (first + suc k) pos
      (omega (arith, reached.is, ends, some)) in
      omega (arith, least, most)

  -- the pages of the range are pages that a file may have
  pub range-pages : (g : Geometry) (count : ℕ) → g.block_size ≡ block → 0 < count → at + count ≤ greatest_size g → (k : ℕ)
      → k < page_count block at count → IsPage g (at / block + k)
  range-pages g count size some limit k low =
      let rows : (at / block + k) * block ≤ (at + count - 1) / block * block = mul-le-mul_right block
      (omega (arith, low, first-count count some)) in
      let bytes : (at / block + k) * g.block_size ≡ (at / block + k) * block = ap (λ q. (at / block + k) * q) size in
      omega (arith, bytes, rows, div-mul-le_self (at + count - 1) block, limit, some)

  -- one page more
  pub reached-next : (from : List ℕ) (done next page inside : ℕ) (piece : List ℕ) (k : ℕ)
      → IsPiece block at from done next page inside piece → IsReached block at (length from) k done
      → IsReached block at (length from) (k + 1) next
  reached-next from done next page inside piece k part reached =
      record { is = by (piece-full pos part) }
    where
      same : page ≡ at / block + k
      same = part.page_is ∙ reached-page (length from) k done reached part.some

      rows : (at / block + (k + 1)) * block ≡ page * block + block
      rows = (let more : (at / block + (k + 1)) * block ≡ (at / block + k) * block + block = grind arith in more
          ∙ ap (λ q. q * block + block) (sym same))

      by : (at + next ≡ page * block + block) ⊎ (next ≡ length from) → next ≡ min (length from) ((at / block + (k + 1)) * block - at)
      by (inl whole) = omega (arith, whole, rows, piece-fits pos part)
      by (inr all) = omega (arith, all, rows, piece-ends pos part)
