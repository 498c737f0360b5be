-- The parts that are merged, and the number that links them, hang the row in the tree.
use Rattle.std.proofs.Common.{◌≡◌, ◌≢◌, ◌<◌, ◌≤◌, ◌+◌, ◌-◌, ◌*◌, ◌/◌, ◌%◌, ◌==◌, ℕ, suc, Bool, true, false, List, [], length, take}
use Rattle.std.proofs.Common.{get_or, IsSome, is_some, unwrap_or, Some, replicate, refl, sym, ap, ◌∙◌, arith}
use Rattle.std.proofs.lemmas.Bool.{eqb-true}
use Rattle.std.proofs.lemmas.Bool.Decides.{nat_tests}
use Rattle.sv_form.specs.Number.{number32}
use Rattle.sv_store.specs.Held.{Held, Origin, HoldsBlock, line_of, put}
use Rattle.sv_store.proofs.Holding.{put-other, put-line, is_some-put}
use Rattle.sv_bmap.specs.Hang.{Hangs}
use Rattle.sv_bmap.specs.Parts.{Joins, part}
use Rattle.sv_bmap.specs.Rows.{IsRow}
use Rattle.sv_bmap.specs.Tree.{IsSpot, block_at, number_in}
use Rattle.sv_bmap.specs.Writes.{PutsNumber, SetsNumber}
use Rattle.sv_bmap.proofs.Writes.{number-put, other-number}
use Rattle.sv_form.proofs.Numbers.{number32_zero}
use Rattle.std.proofs.lemmas.List.{get_or-replicate}
use Rattle.sv_bmap.proofs.Paths.{child-there}

number-same : (h k : Held) (b j : ℕ) → h b (j / 16) ≡ k b (j / 16) → number_in h b j ≡ number_in k b j
unfolding number_in
number-same h k b j e = ap (λ q. number32 (unwrap_or q []) (j % 16 * 4)) e

line-in : {o : Origin} {h : Held} {b : ℕ} (n j : ℕ) → HoldsBlock o h b → n * 4 ≤ o.sizes.block_size → j < n → IsSome (h b (j / 16))
line-in n j holds size low = holds.at (j / 16) (omega (arith, size, low))

-- what the first holds reads as before, and what a part holds reads as in the part
pub number-own : {o : Origin} {h new : Held} {parts : List Held} → Joins h parts new → (n b j : ℕ) → HoldsBlock o h b
    → n * 4 ≤ o.sizes.block_size → j < n → number_in new b j ≡ number_in h b j
number-own {o} {h} {new} joins n b j holds size low = number-same new h b j (joins.own b (j / 16) (line-in n j holds size low))

pub number-part : {o : Origin} {h new : Held} {parts : List Held} → Joins h parts new → (n i b j : ℕ) → i < length parts
    → HoldsBlock o (part parts i) b → n * 4 ≤ o.sizes.block_size → j < n → number_in new b j ≡ number_in (part parts i) b j
number-part {o} {h} {new} {parts} joins n i b j low holds size below =
    number-same new (part parts i) b j (joins.theirs i (omega arith) low b (j / 16) (line-in n j holds size below))

no : (x y : ℕ) → (x == y) ≡ false → x ≢ y
no x y h = grind (nat_tests, arith)

differ : (x y : ℕ) → x ≢ y → (x == y) ≡ false
differ x y h = grind (nat_tests, arith)

-- a number that is not the one that was set
number-set : {n : ℕ} {h new : Held} {b place x : ℕ} → SetsNumber n h new b place x → (c k : ℕ) → k < n → (c ≡ b → k ≢ place)
    → number_in new c k ≡ number_in h c k
number-set {n} {h} {new} {b} {place} {x} sets c k low apart = by (c == b) refl
  where
    by : (t : Bool) → (c == b) ≡ t → number_in new c k ≡ number_in h c k
    by true e =
        (let same : c ≡ b = eqb-true c b e in
        ap (λ q. number_in new q k) same ∙ (sets.siblings k low (apart same) ∙ ap (λ q. number_in h q k) (sym same)))
    by false e = number-same new h c k (ap (λ q. q c (k / 16)) sets.puts ∙ put-other b sets.bytes h c (k / 16) e)

pub holds-set : {o : Origin} {n : ℕ} {h new : Held} {b place x : ℕ} → SetsNumber n h new b place x → (c : ℕ) → HoldsBlock o h c
    → HoldsBlock o new c
holds-set {o} {n} {h} {new} {b} sets c holds = record {
  at = λ l low. ap (λ q. is_some (q c l)) sets.puts ∙ (is_some-put b sets.bytes h c l ∙ holds.at l low);
}

-- the row hangs below a number of an indirect block
pub hangs-below : {o : Origin} {n : ℕ} {h linked new : Held} {a : List ℕ} {slot m parent place : ℕ} {places xs : List ℕ}
    {parts : List Held} → IsSpot n slot places → length places ≡ slot - 9 → suc m + length xs ≡ length places + 1 → 0 < length xs
    → ((i : ℕ) → i < length xs → block_at h a slot (take (suc m + i) places) ≡ 0) → parent ≡ block_at h a slot (take m places) → parent ≢ 0
    → HoldsBlock o h parent → place ≡ get_or places m 0 → place < n → SetsNumber n h linked parent place (get_or xs 0 0)
    → IsRow o n places (suc m) xs parts → Joins linked parts new → n * 4 ≤ o.sizes.block_size
    → ((t : ℕ) (ks : List ℕ) → IsSpot n t ks → block_at h a t ks ≢ 0 → HoldsBlock o h (block_at h a t ks))
    → Hangs n h new a a slot places (suc m) parent place xs
hangs-below {o} {n} {h} {linked} {new} {a} {slot} {m} {parent} {place} {places} {xs} {parts} spot deep shape some holes parent-is there
    holds place-is low sets row joins size whole = record {
      spot = spot;
      deep = deep;
      shape = shape;
      some = some;
      named = row.named;
      holes = holes;
      at_top = λ e. absurd (omega (arith, e));
      at_number = λ k e.
          (let same : m ≡ k = omega (arith, e) in (
            parent-is ∙ ap (λ q. block_at h a slot (take q places)) same,
            (
              place-is ∙ ap (λ q. get_or places q 0) same,
              (
                there,
                child-there new parent place there
                    ∙ (number-own joins n parent place (holds-set sets parent holds) size low ∙ sets.here),
              ),
            ),
          ));
      row = λ i more.
          child-there new (get_or xs i 0) (get_or places (suc m + i) 0) (row.named i (omega (arith, more)))
          ∙ (number-part joins n i (get_or xs i 0) (get_or places (suc m + i) 0) (omega (arith, more, row.count))
          (row.holds i (omega (arith, more))) size (spot.places (suc m + i) (omega (arith, more, shape))) ∙ row.next i more);
      empty = λ i k more below apart.
          child-there new (get_or xs i 0) k (row.named i (omega (arith, more)))
          ∙ (number-part joins n i (get_or xs i 0) k (omega (arith, more, row.count)) (row.holds i (omega (arith, more))) size below
          ∙ row.empty i k more below apart);
      tops = λ t e. refl;
      old = λ t ks k that there-too below apart.
          (let c : ℕ = block_at h a t ks in
          child-there new c k there-too
          ∙ (number-own joins n c k (holds-set sets c (whole t ks that there-too)) size below
          ∙ (number-set sets c k below apart ∙ sym (child-there h c k there-too))));
    }

-- the row hangs at an address of the inode
pub hangs-at-top : {o : Origin} {n : ℕ} {h new : Held} {a b : List ℕ} {slot : ℕ} {places xs : List ℕ} {parts : List Held}
    → IsSpot n slot places → length places ≡ slot - 9 → length xs ≡ length places + 1
    → ((i : ℕ) → i < length xs → block_at h a slot (take (0 + i) places) ≡ 0) → get_or b slot 0 ≡ get_or xs 0 0
    → ((t : ℕ) → t ≢ slot → get_or b t 0 ≡ get_or a t 0) → IsRow o n places 0 xs parts → Joins h parts new → n * 4 ≤ o.sizes.block_size
    → ((t : ℕ) (ks : List ℕ) → IsSpot n t ks → block_at h a t ks ≢ 0 → HoldsBlock o h (block_at h a t ks))
    → Hangs n h new a b slot places 0 0 0 xs
hangs-at-top {o} {n} {h} {new} {a} {b} {slot} {places} {xs} {parts} spot deep shape holes here others row joins size whole = record {
  spot = spot;
  deep = deep;
  shape = omega (arith, shape);
  some = omega (arith, shape);
  named = row.named;
  holes = holes;
  at_top = λ e. (refl, here);
  at_number = λ k e. absurd (omega (arith, e));
  row = λ i more.
      child-there new (get_or xs i 0) (get_or places (0 + i) 0) (row.named i (omega (arith, more)))
      ∙ (number-part joins n i (get_or xs i 0) (get_or places (0 + i) 0) (omega (arith, more, row.count))
      (row.holds i (omega (arith, more))) size (spot.places (0 + i) (omega (arith, more, shape))) ∙ row.next i more);
  empty = λ i k more below apart.
      child-there new (get_or xs i 0) k (row.named i (omega (arith, more)))
      ∙ (number-part joins n i (get_or xs i 0) k (omega (arith, more, row.count)) (row.holds i (omega (arith, more))) size below
      ∙ row.empty i k more below apart);
  tops = λ t e. others t (λ same. e same refl);
  old = λ t ks k that there-too below apart.
      (let c : ℕ = block_at h a t ks in
      child-there new c k there-too ∙ (number-own joins n c k (whole t ks that there-too) size below ∙ sym (child-there h c k there-too)));
}

zero-number : (size k : ℕ) → k * 4 + 4 ≤ size → number32 (replicate size 0) (k * 4) ≡ 0
zero-number size k fits = number32_zero (replicate size 0) 0 size (k * 4) (λ m low high. get_or-replicate size m 0 0 high) (omega arith)
    (omega (arith, fits))

-- an indirect block that was made anew has its one number, and no other
pub made-next : {o : Origin} {h new : Held} {b k x : ℕ} (n : ℕ) → PutsNumber h new b (replicate o.sizes.block_size 0) k x
    → HoldsBlock o h b → n * 4 ≤ o.sizes.block_size → k < n → number_in new b k ≡ x
made-next {o} {h} {new} {b} {k} {x} n puts holds size low = number-put b puts.bytes h new k puts.puts (line-in n k holds size low)
    ∙ puts.number

pub made-empty : {o : Origin} {h new : Held} {b k x : ℕ} (n j : ℕ) → PutsNumber h new b (replicate o.sizes.block_size 0) k x
    → HoldsBlock o h b → n * 4 ≤ o.sizes.block_size → j < n → j ≢ k → number_in new b j ≡ 0
made-empty {o} {h} {new} {b} {k} {x} n j puts holds size low apart =
    number-put b puts.bytes h new j puts.puts (line-in n j holds size low)
    ∙ (other-number (replicate o.sizes.block_size 0) puts.bytes k j puts.others apart
    ∙ zero-number o.sizes.block_size j (omega (arith, size, low)))

-- the page has its bytes after the merge
pub page-bytes : {o : Origin} {h new old : Held} {parts : List Held} {b : ℕ} (bytes : List ℕ) (i : ℕ) → Joins h parts new
    → i < length parts → part parts i ≡ put b bytes old → HoldsBlock o old b → (l : ℕ) → l * 64 < o.sizes.block_size
    → new b l ≡ Some (line_of bytes l)
page-bytes {o} {h} {new} {old} {parts} {b} bytes i joins low puts holds l within =
    joins.theirs i (omega arith) low b l (ap (λ q. is_some (q b l)) puts ∙ (is_some-put b bytes old b l ∙ holds.at l within))
    ∙ (ap (λ q. q b l) puts ∙ put-line b bytes old l (holds.at l within))
