-- The bytes, the entries and the pages of a directory once the sixteen bytes of one entry were put.
use Rattle.std.proofs.Common.{◌≡◌, ◌≢◌, ◌≤◌, ◌<◌, ℕ, zero, suc, ◌+◌, ◌-◌, ◌*◌, ◌/◌, ◌%◌, ◌==◌, ◌⊎◌, inl, inr, true, false, cond, ◌&&◌, nat_le, nat_lt, if◌then◌else◌, List, [], ◌∷◌, length, map, get_or, max, slice_index, Some, sym, refl, ap, ◌∙◌, arith}
use Rattle.std.proofs.lemmas.Bool.Decides.{nat_tests}
use Rattle.std.proofs.lemmas.Bool.{cases_lt}
use Rattle.std.proofs.lemmas.List.FromFn.{get_or-map-range_with_len}
use Rattle.std.proofs.Math.Nat.{div-div-eq-div-mul, mod-add-div, mod-lt}
use Rattle.std.specs.List.{range_with_len}
use Rattle.std.specs.Ordering.{nat_cmp, eq_by_cmp}
use Rattle.std.specs.Cmp.{nat_cmp_total, Equal-is}
use Rattle.std.specs.FinMap as fmap
use Rattle.std.specs.FinMap.{nat_cmp-IsAntisymmetric}
use Rattle.sv_form.specs.Node.{Node, byte_of, page_byte, bytes_of, entry_inode, entry_name, name_bytes, until_zero}
use Rattle.sv_form.specs.NodeChanges.{touched, page_after, with_pages, put}
use Rattle.sv_plain.proofs.Got.{got}
use Rattle.sv_plain.proofs.Counts.{same_key}

-- ---- places

in_sixteen : (j r : ℕ) → r < 16 → (16 * j + r) / 16 ≡ 16 * j / 16
in_sixteen j r small = omega (arith, small)

-- an entry lies in one page
pub same_page : (block j r : ℕ) → block % 16 ≡ 0 → r < 16 → (16 * j + r) / block ≡ 16 * j / block
same_page block j r whole small =
    let b : ℕ = block / 16 in
    let e : block ≡ 16 * b = omega (arith, whole) in
    ap (λ n. (16 * j + r) / n) e
    ∙ sym (div-div-eq-div-mul (16 * j + r) 16 b)
    ∙ ap (λ n. n / b) (in_sixteen j r small)
    ∙ div-div-eq-div-mul (16 * j) 16 b
    ∙ ap (λ n. 16 * j / n) (sym e)

pub whole_place : (block k : ℕ) → k / block * block + k % block ≡ k
whole_place block k = grind (arith, mod-add-div k block)

pub in_block : (block k : ℕ) → 1 ≤ block → k % block < block
in_block block k some = mod-lt k some

-- ---- lists

pub map_alike : (f g : ℕ → ℕ) (a n : ℕ) → ((i : ℕ) → a ≤ i → i < a + n → f i ≡ g i) → map f (range_with_len a n) ≡ map g (range_with_len a n)
map_alike f g a zero h = refl
map_alike f g a (suc n) h =
    (λ i. h a (omega arith) (omega arith) i ∷ map_alike f g (a + 1) n (λ k low high. h k (omega arith) (omega arith)) i)

pub map_is : (f : ℕ → ℕ) (a : ℕ) (ys : List ℕ) → ((i : ℕ) → i < length ys → f (a + i) ≡ get_or ys i 0) → map f (range_with_len a (length ys)) ≡ ys
map_is f a [] h = refl
map_is f a (y ∷ ys) h =
    let here : f a ≡ y = ap f (omega arith) ∙ h 0 (omega arith) in
    let rest = map_is f (a + 1) ys (λ i low. ap f (omega arith) ∙ h (suc i) (omega (arith, low))) in
    (λ i. here i ∷ rest i)

inside : (at k n : ℕ) → at ≤ k → k < at + n → (nat_le at k && nat_lt k (at + n)) ≡ true
inside at k n low high = grind (arith, nat_tests)

pub outside : (at k n : ℕ) → (k < at) ⊎ (at + n ≤ k) → (nat_le at k && nat_lt k (at + n)) ≡ false
outside at k n (inl low) = grind (arith, nat_tests)
outside at k n (inr high) = grind (arith, nat_tests)

-- ---- a directory with sixteen bytes put at entry j, and with other links

abbrev pub with_put : ℕ → Node → ℕ → List ℕ → ℕ → Node
with_put block node j bytes links = record {
  kind = node.kind;
  mode = node.mode;
  links = links;
  size = max node.size (16 * j + 16);
  pages = fmap.insert node.pages (16 * j / block) (page_after block node (16 * j) bytes (16 * j / block));
}

one_page : (block j : ℕ) → block % 16 ≡ 0 → touched block (16 * j) 16 ≡ 16 * j / block ∷ []
one_page block j whole =
    let last : (16 * j + 16 - 1) / block ≡ 16 * j / block = ap (λ k. k / block) (omega arith) ∙ same_page block j 15 whole (omega arith) in
    let one : (16 * j + 16 - 1) / block - 16 * j / block + 1 ≡ 1 = omega (arith, last) in
    ap (λ n. range_with_len (16 * j / block) n) one

pub put-is : (block : ℕ) (node : Node) (j : ℕ) (bytes : List ℕ) → block % 16 ≡ 0 → length bytes ≡ 16 → put block node (16 * j) bytes ≡ with_put block node j bytes node.links
unfolding put
put-is block node j bytes whole len =
    ap (λ (n : ℕ). record node {
      pages = with_pages node.pages (page_after block node (16 * j) bytes) (touched block (16 * j) n);
      size = if n == 0 then node.size else max node.size (16 * j + n);
    }) len
    ∙ ap (λ (ps : List ℕ). record node {
      pages = with_pages node.pages (page_after block node (16 * j) bytes) ps;
      size = max node.size (16 * j + 16);
    }) (one_page block j whole)

module _ (block : ℕ) (node : Node) (j x y : ℕ) (ys : List ℕ) (links : ℕ) (some : 1 ≤ block) (whole : block % 16 ≡ 0) (len : length ys ≡ 14) where
  abbrev bytes : List ℕ
  bytes = x ∷ y ∷ ys

  abbrev new : Node
  new = with_put block node j bytes links

  abbrev page : ℕ
  page = 16 * j / block

  abbrev pub at_page : ℕ → ℕ
  at_page k = if nat_le (16 * j) k && nat_lt k (16 * j + length bytes) then slice_index bytes (k - 16 * j) else byte_of block node k

  pub got_page : (k : ℕ) → fmap.get new.pages k ≡ cond (eq_by_cmp nat_cmp k page) (Some (page_after block node (16 * j) bytes page)) (fmap.get node.pages k)
  got_page k = fmap.get-insert nat_cmp_total node.pages page (page_after block node (16 * j) bytes page) k

  -- a byte of the page that was written
  in_page : (k : ℕ) → k / block ≡ page → slice_index (page_after block node (16 * j) bytes page) (k % block) ≡ at_page k
  in_page k e =
      get_or-map-range_with_len at_page (page * block) block (k % block) k 0 (in_block block k some)
      (ap (λ p. p * block + k % block) (sym e) ∙ whole_place block k)

  pub byte-in : (r : ℕ) → r < 16 → byte_of block new (16 * j + r) ≡ get_or bytes r 0
  unfolding byte_of
  byte-in r small =
      let k : ℕ = 16 * j + r in
      let here = same_page block j r whole small in
      let long : length bytes ≡ 16 = omega (arith, len) in
      ap (λ o. page_byte o (k % block)) (got_page (k / block) ∙ ap (λ p. cond (eq_by_cmp nat_cmp p page) (Some (page_after block node (16 * j) bytes page)) (fmap.get node.pages (k / block))) here
      ∙ ap (λ b. cond b (Some (page_after block node (16 * j) bytes page)) (fmap.get node.pages (k / block))) (same_key page))
      ∙ in_page k here
      ∙ ap (λ b. if b then slice_index bytes (k - 16 * j) else byte_of block node k) (inside (16 * j) k (length bytes) (omega arith) (omega (arith, long, small)))
      ∙ ap (λ i. get_or bytes i 0) (omega arith)

  pub byte-out : (k : ℕ) → (k < 16 * j) ⊎ (16 * j + 16 ≤ k) → byte_of block new k ≡ byte_of block node k
  unfolding byte_of
  byte-out k away =
      let long : length bytes ≡ 16 = omega (arith, len) in
      let apart : (k < 16 * j) ⊎ (16 * j + length bytes ≤ k) = elim away [ inl h ↦ inl h | inr h ↦ inr (omega (arith, h, long)) ] in
      ap (λ o. page_byte o (k % block)) (got_page (k / block))
      ∙ elim (eq_by_cmp nat_cmp (k / block) page) as (λ b. eq_by_cmp nat_cmp (k / block) page ≡ b → page_byte (cond b (Some (page_after block node (16 * j) bytes page)) (fmap.get node.pages (k / block))) (k % block) ≡ page_byte (fmap.get node.pages (k / block)) (k % block)) [
        | true ↦ λ e. in_page k (nat_cmp-IsAntisymmetric (k / block) page ((Equal-is (nat_cmp (k / block) page)).0 e))
            ∙ ap (λ b. if b then slice_index bytes (k - 16 * j) else byte_of block node k) (outside (16 * j) k (length bytes) apart)
        | false ↦ λ _. refl
      ] refl

  -- the other entries stay
  away_from : (k : ℕ) → k ≢ j → (r : ℕ) → r < 16 → (16 * k + r < 16 * j) ⊎ (16 * j + 16 ≤ 16 * k + r)
  away_from k ne r small = elim (cases_lt k j) [ inl h ↦ inl (omega (arith, h, small)) | inr h ↦ inr (omega (arith, h, ne)) ]

  pub inode-other : (k : ℕ) → k ≢ j → entry_inode block new k ≡ entry_inode block node k
  unfolding entry_inode
  inode-other k ne =
      let first : byte_of block new (16 * k) ≡ byte_of block node (16 * k) = ap (byte_of block new) (omega arith) ∙ byte-out (16 * k + 0) (away_from k ne 0 (omega arith)) ∙ ap (byte_of block node) (omega arith) in
      let second = byte-out (16 * k + 1) (away_from k ne 1 (omega arith)) in
      (λ i. first i + 256 * second i)

  pub name_bytes-other : (k : ℕ) → k ≢ j → name_bytes block new k ≡ name_bytes block node k
  unfolding bytes_of
  name_bytes-other k ne =
      map_alike (byte_of block new) (byte_of block node) (16 * k + 2) 14
      (λ b low high. byte-out b (elim (cases_lt k j) [ inl h ↦ inl (omega (arith, h, high)) | inr h ↦ inr (omega (arith, h, ne, low)) ]))

  pub name-other : (k : ℕ) → k ≢ j → entry_name block new k ≡ entry_name block node k
  unfolding entry_name
  name-other k ne = ap until_zero (name_bytes-other k ne)

  -- the entry that was put
  pub inode-here : entry_inode block new j ≡ x + 256 * y
  unfolding entry_inode
  inode-here =
      let first : byte_of block new (16 * j) ≡ x = ap (byte_of block new) (omega arith) ∙ byte-in 0 (omega arith) in
      let second : byte_of block new (16 * j + 1) ≡ y = byte-in 1 (omega arith) in
      (λ i. first i + 256 * second i)

  pub name_bytes-here : name_bytes block new j ≡ ys
  unfolding bytes_of
  name_bytes-here =
      ap (λ n. map (byte_of block new) (range_with_len (16 * j + 2) n)) (sym len)
      ∙ map_is (byte_of block new) (16 * j + 2) ys (λ i low. ap (byte_of block new) (omega arith) ∙ byte-in (suc (suc i)) (omega (arith, low, len)))

  -- a page of the new directory
  pub pages-new : (k : ℕ) (bs : List ℕ) → fmap.get new.pages k ≡ Some bs → ((k ≡ page) × (bs ≡ page_after block node (16 * j) bytes page)) ⊎ (fmap.get node.pages k ≡ Some bs)
  pages-new k bs e = got nat_cmp_total nat_cmp-IsAntisymmetric node.pages page (page_after block node (16 * j) bytes page) k bs e
