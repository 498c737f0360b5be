-- The node once some of the bytes were put, and once those of one page more were.
use Rattle.std.proofs.Common.{◌≡◌, ◌≢◌, ◌≤◌, ◌<◌, ◌+◌, ◌-◌, ◌*◌, ◌/◌, ◌%◌, ◌==◌, ◌&&◌, ◌++◌, ◌⊎◌, inl, inr, ℕ, zero, suc, Bool, true}
use Rattle.std.proofs.Common.{false, cond, List, [], length, take, drop, get_or, max, replicate, nat_le, nat_lt, Option, Some, None}
use Rattle.std.proofs.Common.{arith, refl, sym, ap, ◌∙◌}
use Rattle.std.specs.FinMap as fmap
use Rattle.std.specs.FinMap.{nat_cmp-IsAntisymmetric}
use Rattle.std.specs.List.{range_with_len}
use Rattle.std.specs.Ordering.{nat_cmp}
use Rattle.std.specs.Cmp.{nat_cmp_total, unsigned_tied}
use Rattle.std.proofs.lemmas.Bool.{eqb-true}
use Rattle.std.proofs.lemmas.Bool.Decides.{nat_tests}
use Rattle.std.proofs.lemmas.List.{same_lists, places, take_all, length-take, length-drop, length-append, get_or-replicate, get_or-take}
use Rattle.std.proofs.lemmas.List.{get_or-drop, get_or-append_right, get_or_append_left}
use Rattle.std.proofs.lemmas.List.FromFn.{length-range_with_len, length-map-range_with_len, get_or-map-range_with_len}
use Rattle.std.proofs.lemmas.Nat.{div_below, le-div, div-mul-add, mod-mul-add}
use Rattle.std.proofs.Math.Nat.{div-mul-le_self, mul-le-mul_right}
use Rattle.sv_form.specs.Node.{Node, byte_of, page_byte}
use Rattle.sv_form.specs.NodeChanges.{byte_after, page_after, put, touched, with_pages}
pub use Rattle.sv_inode.proofs.PieceEnds.{IsPiece}
use Rattle.sv_inode.proofs.PieceEnds.{IsReached, page_count, reached-count, reached-none, reached-some, piece-ends, piece-fits}
use Rattle.sv_inode.proofs.PieceEnds.{piece-from, piece-inside, piece-more, piece-starts}

no : (x y : ℕ) → (x == y) ≡ false → x ≢ y
no x y h = grind (nat_tests, arith)

differ : (x y : ℕ) → x ≢ y → (x == y) ≡ false
differ x y h = grind (nat_tests, arith)

alike : (x y : ℕ) → x ≡ y → (x == y) ≡ true
alike x y h = grind (nat_tests, arith)

-- lists of one length with the same items
pub same_items : (xs ys : List ℕ) → length xs ≡ length ys → ((k : ℕ) → k < length xs → get_or xs k 0 ≡ get_or ys k 0) → xs ≡ ys
same_items xs ys size each = same_lists xs ys size
    (λ k d low. get_or_other xs k d low ∙ (each k low ∙ sym (get_or_other ys k d (omega (arith, low, size)))))
  where
    get_or_other : (zs : List ℕ) (k d : ℕ) → k < length zs → get_or zs k d ≡ get_or zs k 0
    get_or_other zs k d below = grind (arith, places)

-- ---- a piece of a page

-- the bytes of a page, zeros where it is absent
abbrev pub bytes_in : ℕ → Option (List ℕ) → List ℕ
bytes_in block None = replicate block 0
bytes_in block (Some bytes) = bytes

-- a piece was copied into a page, from byte `at` on
pub record IsPatched (old : List ℕ) (at : ℕ) (piece bytes : List ℕ) : Type 0 where
  pub len : length bytes ≡ length old
  pub before : (r : ℕ) → r < at → get_or bytes r 0 ≡ get_or old r 0
  pub inside : (r : ℕ) → r < length piece → get_or bytes (at + r) 0 ≡ get_or piece r 0
  pub after : (r : ℕ) → at + length piece ≤ r → get_or bytes r 0 ≡ get_or old r 0

joined : (old : List ℕ) (at : ℕ) (piece rest : List ℕ) → at + length piece ≤ length old → length rest ≡ length old - (at + length piece)
    → ((j : ℕ) → get_or rest j 0 ≡ get_or old (at + length piece + j) 0) → IsPatched old at piece (take at old ++ (piece ++ rest))
joined old at piece rest fits size same = record {
  len = length-append (take at old) (piece ++ rest) ∙ omega (arith, front, length-append piece rest, size, fits);
  before = λ r low. get_or_append_left (take at old) (piece ++ rest) 0 r (omega (arith, front, low)) ∙ get_or-take at old r 0 low;
  inside = λ r low.
      get_or-append_right (take at old) (piece ++ rest) at (at + r) 0 front (omega arith)
      ∙ ((let e : at + r - at ≡ r = omega arith in ap (λ q. get_or (piece ++ rest) q 0) e) ∙ get_or_append_left piece rest 0 r low);
  after = λ r high.
      get_or-append_right (take at old) (piece ++ rest) at r 0 front (omega (arith, high))
      ∙ (get_or-append_right piece rest (length piece) (r - at) 0 refl (omega (arith, high))
      ∙ (same (r - at - length piece)
      ∙ (let e : at + length piece + (r - at - length piece) ≡ r = omega (arith, high) in ap (λ q. get_or old q 0) e)));
}
  where
    front : length (take at old) ≡ at
    front = length-take at old ∙ omega (arith, fits)

-- as it is spelled
pub patched : (old : List ℕ) (at : ℕ) (piece : List ℕ) → at + length piece ≤ length old
    → IsPatched old at piece (take at old ++ (piece ++ drop (at + length piece) old))
patched old at piece fits = joined old at piece (drop (at + length piece) old) fits (length-drop (at + length piece) old)
    (λ j. get_or-drop (at + length piece) old j 0)

-- ---- pages of a range that were written

pub got-page : (pages : fmap.FinMap nat_cmp (List ℕ)) (page : ℕ) (bytes : List ℕ) (q : ℕ) (s : Bool) → (q == page) ≡ s
    → fmap.get (fmap.insert pages page bytes) q ≡ cond s (Some bytes) (fmap.get pages q)
got-page pages page bytes q s e =
    fmap.get-insert nat_cmp_total pages page bytes q ∙ ap (λ z. cond z (Some bytes) (fmap.get pages q)) (unsigned_tied q page ∙ e)

range-inside : (pages : fmap.FinMap nat_cmp (List ℕ)) (f : ℕ → List ℕ) (first n q : ℕ) → first ≤ q → q < first + n
    → fmap.get (with_pages pages f (range_with_len first n)) q ≡ Some (f q)
range-inside pages f first zero q low high = absurd (omega (arith, low, high))
range-inside pages f first (suc n) q low high = by (q == first) refl (range-inside pages f (first + 1) n q)
  where
    by : (s : Bool) → (q == first) ≡ s
        → (first + 1 ≤ q → q < first + 1 + n → fmap.get (with_pages pages f (range_with_len (first + 1) n)) q ≡ Some (f q))
        → fmap.get (fmap.insert (with_pages pages f (range_with_len (first + 1) n)) first (f first)) q ≡ Some (f q)
    by true e rest = got-page (with_pages pages f (range_with_len (first + 1) n)) first (f first) q true e
        ∙ ap (λ z. Some (f z)) (sym (eqb-true q first e))
    by false e rest =
        (let apart : q ≢ first = no q first e in
        got-page (with_pages pages f (range_with_len (first + 1) n)) first (f first) q false e
        ∙ rest (omega (arith, low)) (omega (arith, high)))

range-outside : (pages : fmap.FinMap nat_cmp (List ℕ)) (f : ℕ → List ℕ) (first n q : ℕ) → (q < first) ⊎ (first + n ≤ q)
    → fmap.get (with_pages pages f (range_with_len first n)) q ≡ fmap.get pages q
range-outside pages f first zero q off = refl
range-outside pages f first (suc n) q off =
    got-page (with_pages pages f (range_with_len (first + 1) n)) first (f first) q false (differ q first (apart off))
    ∙ range-outside pages f (first + 1) n q (less off)
  where
    apart : (q < first) ⊎ (first + suc n ≤ q) → q ≢ first
    apart (inl low) e = omega (arith, low, e)
    apart (inr high) e = omega (arith, high, e)

    less : (q < first) ⊎ (first + suc n ≤ q) → (q < first + 1) ⊎ (first + 1 + n ≤ q)
    less (inl low) = inl (omega (arith, low))
    less (inr high) = inr (omega (arith, high))

both-true : (a b : Bool) → a ≡ true → b ≡ true → (a && b) ≡ true
both-true a b p q = (λ i. p i && q i)

either-false : (a b : Bool) → (a ≡ false) ⊎ (b ≡ false) → (a && b) ≡ false
either-false true b (inl p) = ap (λ q. q && b) p
either-false true b (inr q) = q
either-false false b off = refl

touched-none : (block at n : ℕ) → n ≡ 0 → touched block at n ≡ []
touched-none block at n none = ap (λ t. cond t [] (range_with_len (at / block) ((at + n - 1) / block - at / block + 1))) (alike n 0 none)

touched-some : (block at n : ℕ) → 0 < n → touched block at n ≡ range_with_len (at / block) ((at + n - 1) / block - at / block + 1)
touched-some block at n some = ap (λ t. cond t [] (range_with_len (at / block) ((at + n - 1) / block - at / block + 1)))
    (differ n 0 (λ e. omega (arith, some, e)))

-- so many bytes touch as many pages as are done
pub reached-touched : (block at count k done : ℕ) → 0 < block → 0 < count → IsReached block at count k done → k ≤ page_count block at count
    → length (touched block at done) ≡ k
reached-touched block at count zero done pos some reached low =
    let none : done ≡ 0 = reached-none block at pos count done reached in
    ap length (touched-none block at done none)
reached-touched block at count (suc k) done pos some reached low =
    ap length (touched-some block at done (reached-some block at pos count k done reached some))
    ∙ (length-range_with_len (at / block) ((at + done - 1) / block - at / block + 1)
    ∙ reached-count block at pos count k done reached low some)

rows-next : (q block : ℕ) → (q + 1) * block ≡ q * block + block
rows-next q block = grind arith

-- ---- bytes that were put

module _ (block : ℕ) (node : Node) (at : ℕ) (pos : 0 < block) (xs : List ℕ) where
  after-inside : (k : ℕ) → at ≤ k → k < at + length xs → byte_after block node at xs k ≡ get_or xs (k - at) 0
  after-inside k low high = ap (λ t. cond t (get_or xs (k - at) 0) (byte_of block node k))
      (both-true (nat_le at k) (nat_lt k (at + length xs)) (grind (nat_tests, arith)) (grind (nat_tests, arith)))

  after-outside : (k : ℕ) → (k < at) ⊎ (at + length xs ≤ k) → byte_after block node at xs k ≡ byte_of block node k
  after-outside k off = ap (λ t. cond t (get_or xs (k - at) 0) (byte_of block node k))
      (either-false (nat_le at k) (nat_lt k (at + length xs)) (tests off))
    where
      tests : (k < at) ⊎ (at + length xs ≤ k) → (nat_le at k ≡ false) ⊎ (nat_lt k (at + length xs) ≡ false)
      tests (inl low) = inl (grind (nat_tests, arith))
      tests (inr high) = inr (grind (nat_tests, arith))

  first-low : (n : ℕ) → 0 < n → at / block ≤ (at + n - 1) / block
  first-low n some = le-div (at / block) (at + n - 1) block pos (omega (arith, div-mul-le_self at block, some))

  -- a page in which some of the bytes lie
  put-inside : (q : ℕ) → 0 < length xs → at < q * block + block → q * block < at + length xs
      → fmap.get (put block node at xs).pages q ≡ Some (page_after block node at xs q)
  unfolding put
  put-inside q some low high =
      let first : at / block < q + 1 = div_below at block (q + 1) pos (omega (arith, rows-next q block, low)) in
      let last : q ≤ (at + length xs - 1) / block = le-div q (at + length xs - 1) block pos (omega (arith, high)) in
      ap (λ l. fmap.get (with_pages node.pages (page_after block node at xs) l) q) (touched-some block at (length xs) some)
      ∙ range-inside node.pages (page_after block node at xs) (at / block) ((at + length xs - 1) / block - at / block + 1) q
      (omega (arith, first)) (omega (arith, last))

  -- a page in which none of them lies
  put-outside : (q : ℕ) → (length xs ≡ 0) ⊎ ((q * block + block ≤ at) ⊎ (at + length xs ≤ q * block))
      → fmap.get (put block node at xs).pages q ≡ fmap.get node.pages q
  unfolding put
  put-outside q off = by (length xs == 0) refl
    where
      f : ℕ → List ℕ
      f = page_after block node at xs

      first : ℕ
      first = at / block

      last : ℕ
      last = (at + length xs - 1) / block

      side : 0 < length xs → (length xs ≡ 0) ⊎ ((q * block + block ≤ at) ⊎ (at + length xs ≤ q * block)) → (q < first)
          ⊎ (first + (last - first + 1) ≤ q)
      side some (inl none) = absurd (omega (arith, some, none))
      side some (inr (inl low)) =
          (let more : q + 1 ≤ first = le-div (q + 1) at block pos (omega (arith, rows-next q block, low)) in inl (omega (arith, more)))
      side some (inr (inr high)) =
          (let less : last < q = div_below (at + length xs - 1) block q pos (omega (arith, high, some)) in inr
          (omega (arith, less, first-low (length xs) some)))

      by : (t : Bool) → (length xs == 0) ≡ t → fmap.get (with_pages node.pages f (touched block at (length xs))) q ≡ fmap.get node.pages q
      by true e = ap (λ l. fmap.get (with_pages node.pages f l) q) (touched-none block at (length xs) (eqb-true (length xs) 0 e))
      by false e =
          (let some : 0 < length xs = (let apart : length xs ≢ 0 = no (length xs) 0 e in omega (arith, apart)) in
          ap (λ l. fmap.get (with_pages node.pages f l) q) (touched-some block at (length xs) some)
          ∙ range-outside node.pages f first (last - first + 1) q (side some off))

  own-byte : (q r : ℕ) → r < block → page_byte (fmap.get node.pages q) r ≡ byte_of block node (q * block + r)
  unfolding byte_of
  own-byte q r inside =
      sym (ap (λ z. page_byte (fmap.get node.pages z) ((q * block + r) % block)) (div-mul-add q block r inside)
      ∙ ap (page_byte (fmap.get node.pages q)) (mod-mul-add q block r inside))

  -- byte r of page q once the bytes were put
  byte-put : (q r : ℕ) → r < block
      → get_or (bytes_in block (fmap.get (put block node at xs).pages q)) r 0 ≡ byte_after block node at xs (q * block + r)
  byte-put q r inside = by (length xs == 0) refl (nat_lt at (q * block + block)) refl (nat_lt (q * block) (at + length xs)) refl
    where
      k : ℕ
      k = q * block + r

      less : (a b : ℕ) → nat_lt a b ≡ true → a < b
      less a b e = grind (nat_tests, arith)

      more : (a b : ℕ) → nat_lt a b ≡ false → b ≤ a
      more a b e = grind (nat_tests, arith)

      byte-in : (x : Option (List ℕ)) → get_or (bytes_in block x) r 0 ≡ page_byte x r
      byte-in None = get_or-replicate block r 0 0 inside
      byte-in (Some bytes) = refl

      kept : (length xs ≡ 0) ⊎ ((q * block + block ≤ at) ⊎ (at + length xs ≤ q * block)) → (k < at) ⊎ (at + length xs ≤ k)
          → get_or (bytes_in block (fmap.get (put block node at xs).pages q)) r 0 ≡ byte_after block node at xs k
      kept off side =
          ap (λ x. get_or (bytes_in block x) r 0) (put-outside q off)
          ∙ (byte-in (fmap.get node.pages q) ∙ (own-byte q r inside ∙ sym (after-outside k side)))

      sides : (u : Bool) → nat_lt k at ≡ u → length xs ≡ 0 → (k < at) ⊎ (at + length xs ≤ k)
      sides true f none = inl (less k at f)
      sides false f none = inr (omega (arith, none, more k at f))

      by : (t : Bool) → (length xs == 0) ≡ t → (u : Bool) → nat_lt at (q * block + block) ≡ u → (v : Bool)
          → nat_lt (q * block) (at + length xs) ≡ v
          → get_or (bytes_in block (fmap.get (put block node at xs).pages q)) r 0 ≡ byte_after block node at xs k
      by true e u f v g = (let none : length xs ≡ 0 = eqb-true (length xs) 0 e in kept (inl none) (sides (nat_lt k at) refl none))
      by false e false f v g =
          (let low : q * block + block ≤ at = more at (q * block + block) f in kept (inr (inl low)) (inl (omega (arith, low, inside))))
      by false e true f false g =
          (let high : at + length xs ≤ q * block = more (q * block) (at + length xs) g in kept (inr (inr high)) (inr (omega (arith, high))))
      by false e true f true g =
          (let some : 0 < length xs = (let apart : length xs ≢ 0 = no (length xs) 0 e in omega (arith, apart)) in
          ap (λ x. get_or (bytes_in block x) r 0) (put-inside q some (less at (q * block + block) f) (less (q * block) (at + length xs) g))
          ∙ get_or-map-range_with_len (byte_after block node at xs) (q * block) block r k 0 inside refl)

  put-size-some : 0 < length xs → (put block node at xs).size ≡ max node.size (at + length xs)
  unfolding put
  put-size-some some = ap (λ t. cond t node.size (max node.size (at + length xs))) (differ (length xs) 0 (λ e. omega (arith, some, e)))

  put-size-none : length xs ≡ 0 → (put block node at xs).size ≡ node.size
  unfolding put
  put-size-none none = ap (λ t. cond t node.size (max node.size (at + length xs))) (alike (length xs) 0 none)

-- ---- one page more

module _ (block : ℕ) (node : Node) (at : ℕ) (from : List ℕ) (done next page inside : ℕ) (piece bytes : List ℕ) (pos : 0 < block)
    (is : IsPiece block at from done next page inside piece) where
  abbrev xs : List ℕ
  xs = take done from

  abbrev ys : List ℕ
  ys = take next from

  few : length xs ≡ done
  few = length-take done from ∙ omega (arith, is.some)

  many : length ys ≡ next
  many = length-take next from ∙ omega (arith, piece-fits pos is)

  length-piece : length piece ≡ next - done
  length-piece = ap length is.piece_is
      ∙ (length-take (next - done) (drop done from) ∙ omega (arith, length-drop done from, piece-fits pos is))

  piece-byte : (j : ℕ) → j < next - done → get_or piece j 0 ≡ get_or from (done + j) 0
  piece-byte j low = ap (λ q. get_or q j 0) is.piece_is ∙ (get_or-take (next - done) (drop done from) j 0 low ∙ get_or-drop done from j 0)

  -- a byte before the piece, and one after it
  byte-before : (k : ℕ) → k < at + done → byte_after block node at xs k ≡ byte_after block node at ys k
  byte-before k low = by (nat_lt k at) refl
    where
      by : (t : Bool) → nat_lt k at ≡ t → byte_after block node at xs k ≡ byte_after block node at ys k
      by true e = (let early : k < at = grind (nat_tests, arith) in after-outside block node at pos xs k (inl early)
          ∙ sym (after-outside block node at pos ys k (inl early)))
      by false e =
          (let late : at ≤ k = grind (nat_tests, arith) in
          after-inside block node at pos xs k late (omega (arith, low, few))
          ∙ (get_or-take done from (k - at) 0 (omega (arith, low, late))
          ∙ (sym (get_or-take next from (k - at) 0 (omega (arith, low, late, piece-more pos is)))
          ∙ sym (after-inside block node at pos ys k late (omega (arith, low, piece-more pos is, many))))))

  byte-after-both : (k : ℕ) → at + next ≤ k → byte_after block node at xs k ≡ byte_after block node at ys k
  byte-after-both k high =
      after-outside block node at pos xs k (inr (omega (arith, high, piece-more pos is, few)))
      ∙ sym (after-outside block node at pos ys k (inr (omega (arith, high, many))))

  module _ (size : length (bytes_in block (fmap.get (put block node at xs).pages page)) ≡ block)
      (patch : IsPatched (bytes_in block (fmap.get (put block node at xs).pages page)) inside piece bytes) where
    old : List ℕ
    old = bytes_in block (fmap.get (put block node at xs).pages page)

    -- the bytes of the page
    page-byte : (r : ℕ) → r < block → byte_after block node at ys (page * block + r) ≡ get_or bytes r 0
    page-byte r low = by (nat_lt r inside) refl (nat_lt r (inside + length piece)) refl
      where
        by : (t : Bool) → nat_lt r inside ≡ t → (u : Bool) → nat_lt r (inside + length piece) ≡ u
            → byte_after block node at ys (page * block + r) ≡ get_or bytes r 0
        by true e u f =
            (let early : r < inside = grind (nat_tests, arith) in
            sym (byte-before (page * block + r) (omega (arith, early, piece-starts pos is)))
            ∙ (sym (byte-put block node at pos xs page r low) ∙ sym (patch.before r early)))
        by false e false f =
            (let late : inside + length piece ≤ r = grind (nat_tests, arith) in
            sym (byte-after-both (page * block + r) (omega (arith, late, piece-starts pos is, length-piece, piece-more pos is)))
            ∙ (sym (byte-put block node at pos xs page r low) ∙ sym (patch.after r late)))
        by false e true f =
            (let late : inside ≤ r = grind (nat_tests, arith) in
            let early : r < inside + length piece = grind (nat_tests, arith) in
            let j : ℕ = r - inside in
            let within : j < next - done = omega (arith, late, early, length-piece) in
            let place : page * block + r - at ≡ done + j = omega (arith, late, piece-starts pos is) in
            let here : inside + j ≡ r = omega (arith, late) in
            after-inside block node at pos ys (page * block + r) (omega (arith, late, piece-starts pos is))
            (omega (arith, piece-starts pos is, many, within, late))
            ∙ (ap (λ q. get_or ys q 0) place
            ∙ (get_or-take next from (done + j) 0 (omega (arith, within))
            ∙ (sym (piece-byte j within)
            ∙ (sym (patch.inside j (omega (arith, within, length-piece))) ∙ ap (λ q. get_or bytes q 0) here)))))

    page-is : page_after block node at ys page ≡ bytes
    page-is =
        let long : length (page_after block node at ys page) ≡ block = length-map-range_with_len (byte_after block node at ys)
        (page * block) block in
        same_items (page_after block node at ys page) bytes (omega (arith, long, patch.len, size))
        (λ r low. get_or-map-range_with_len (byte_after block node at ys) (page * block) block r (page * block + r) 0
        (omega (arith, low, long)) refl ∙ page-byte r (omega (arith, low, long)))

    -- a page before it that has some of the bytes
    earlier-is : (q : ℕ) → q < page → page_after block node at ys q ≡ page_after block node at xs q
    earlier-is q early =
        let rows : (q + 1) * block ≤ page * block = mul-le-mul_right block (omega (arith, early)) in
        let a : length (page_after block node at ys q) ≡ block = length-map-range_with_len (byte_after block node at ys)
        (q * block) block in
        let b : length (page_after block node at xs q) ≡ block = length-map-range_with_len (byte_after block node at xs)
        (q * block) block in
        same_items (page_after block node at ys q) (page_after block node at xs q) (omega (arith, a, b))
        (λ r low.
        get_or-map-range_with_len (byte_after block node at ys) (q * block) block r (q * block + r) 0 (omega (arith, low, a)) refl
        ∙ (sym (byte-before (q * block + r) (omega (arith, low, a, rows, rows-next q block, piece-starts pos is)))
        ∙ sym (get_or-map-range_with_len (byte_after block node at xs) (q * block) block r (q * block + r) 0
        (omega (arith, low, a)) refl)))

    pages-same : (q : ℕ) → fmap.get (put block node at ys).pages q ≡ fmap.get (fmap.insert (put block node at xs).pages page bytes) q
    pages-same q = by (q == page) refl (nat_lt q page) refl (nat_lt at (q * block + block)) refl
      where
        by : (t : Bool) → (q == page) ≡ t → (u : Bool) → nat_lt q page ≡ u → (v : Bool) → nat_lt at (q * block + block) ≡ v
            → fmap.get (put block node at ys).pages q ≡ fmap.get (fmap.insert (put block node at xs).pages page bytes) q
        by true e u f v g =
            (let same : q ≡ page = eqb-true q page e in
            ap (fmap.get (put block node at ys).pages) same
            ∙ (put-inside block node at pos ys page (omega (arith, many, piece-more pos is))
            (omega (arith, piece-starts pos is, piece-inside pos is))
            (omega (arith, piece-starts pos is, many, piece-more pos is, piece-from pos is))
            ∙ (ap (λ z. Some z) page-is ∙ sym (got-page (put block node at xs).pages page bytes q true e))))
        by false e false f v g =
            (let late : page < q =
            (let apart : q ≢ page = no q page e in let low : page ≤ q = grind (nat_tests, arith) in omega (arith, apart, low)) in
            let rows : (page + 1) * block ≤ q * block = mul-le-mul_right block (omega (arith, late)) in
            put-outside block node at pos ys q (inr (inr (omega (arith, rows, rows-next page block, piece-ends pos is, many))))
            ∙ (sym (put-outside block node at pos xs q
            (inr (inr (omega (arith, rows, rows-next page block, piece-ends pos is, piece-more pos is, few)))))
            ∙ sym (got-page (put block node at xs).pages page bytes q false e)))
        by false e true f false g =
            (let low : q * block + block ≤ at = grind (nat_tests, arith) in
            put-outside block node at pos ys q (inr (inl low))
            ∙ (sym (put-outside block node at pos xs q (inr (inl low)))
            ∙ sym (got-page (put block node at xs).pages page bytes q false e)))
        by false e true f true g =
            (let early : q < page = grind (nat_tests, arith) in
            let reach : at < q * block + block = grind (nat_tests, arith) in
            let rows : (q + 1) * block ≤ page * block = mul-le-mul_right block (omega (arith, early)) in
            let some : 0 < length xs = omega (arith, few, reach, rows, rows-next q block, piece-starts pos is, piece-from pos is) in
            put-inside block node at pos ys q (omega (arith, many, piece-more pos is)) reach
            (omega (arith, rows, rows-next q block, many, piece-more pos is, piece-from pos is, pos))
            ∙ (ap (λ z. Some z) (earlier-is q early)
            ∙ (sym (put-inside block node at pos xs q some reach (omega (arith, rows, rows-next q block, few, piece-from pos is, pos)))
            ∙ sym (got-page (put block node at xs).pages page bytes q false e))))

    sizes-same : (put block node at ys).size ≡ max (put block node at xs).size (at + next)
    sizes-same = put-size-some block node at pos ys (omega (arith, many, piece-more pos is)) ∙ by (length xs == 0) refl
      where
        by : (t : Bool) → (length xs == 0) ≡ t → max node.size (at + length ys) ≡ max (put block node at xs).size (at + next)
        by true e = omega (arith, many, put-size-none block node at pos xs (eqb-true (length xs) 0 e))
        by false e =
            (let some : 0 < length xs = (let apart : length xs ≢ 0 = no (length xs) 0 e in omega (arith, apart)) in
            omega (arith, many, few, piece-more pos is, put-size-some block node at pos xs some))

    next-is : put block node at ys ≡ record (put block node at xs)
        { pages = fmap.insert (put block node at xs).pages page bytes; size = max (put block node at xs).size (at + next) }
    unfolding put
    next-is =
        let maps = fmap.same_map nat_cmp_total nat_cmp-IsAntisymmetric (put block node at ys).pages
        (fmap.insert (put block node at xs).pages page bytes) pages-same in
        (λ i. record node { pages = maps i; size = sizes-same i })

-- one page more was put
pub put-next : (block : ℕ) (node : Node) (at : ℕ) (from : List ℕ) (done next page inside : ℕ) (piece bytes : List ℕ) → 0 < block
    → IsPiece block at from done next page inside piece
    → length (bytes_in block (fmap.get (put block node at (take done from)).pages page)) ≡ block
    → IsPatched (bytes_in block (fmap.get (put block node at (take done from)).pages page)) inside piece bytes
    → put block node at (take next from) ≡ record (put block node at (take done from)) {
      pages = fmap.insert (put block node at (take done from)).pages page bytes;
      size = max (put block node at (take done from)).size
          (at + next);
    }
put-next block node at from done next page inside piece bytes pos is size patch =
    next-is block node at from done next page inside piece bytes pos is size patch

-- nothing was put yet
pub put-begin : (block : ℕ) (node : Node) (at : ℕ) (from : List ℕ) → put block node at (take 0 from) ≡ node
unfolding put
put-begin block node at from = refl

-- all was put
pub put-end : (block : ℕ) (node : Node) (at : ℕ) (from : List ℕ) (done : ℕ) → length from ≤ done
    → put block node at (take done from) ≡ put block node at from
put-end block node at from done all = ap (put block node at) (take_all done from all)

-- no bytes change nothing
pub put-nothing : (block : ℕ) (node : Node) (at : ℕ) (from : List ℕ) → length from ≤ 0 → put block node at from ≡ node
put-nothing block node at from none = sym (put-end block node at from 0 none) ∙ put-begin block node at from
