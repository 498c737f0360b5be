-- A directory stays one where one of its entries, past the first two, is written, or where one is added at its end.
use Rattle.std.proofs.Common.{◌≡◌, ◌≢◌, ◌≤◌, ◌<◌, ℕ, zero, suc, ◌+◌, ◌-◌, ◌*◌, ◌/◌, ◌%◌, ◌==◌, inl, inr, Bool, true, false, cond, if◌then◌else◌, List, [], ◌∷◌, length, max, slice_index, Option, Some, None, IsSome, sym, refl, ap, subst, ◌∙◌, arith}
use Rattle.std.proofs.lemmas.Bool.{false≢true, cases_eq, cases_lt, ne_eqb}
use Rattle.std.proofs.lemmas.List.{get_or_past}
use Rattle.std.proofs.lemmas.List.FromFn.{get_or-map-range_with_len, length-map-range_with_len}
use Rattle.std.proofs.Math.Nat.{div-mul-le_self, mul-div_left}
use Rattle.std.specs.List.{range_with_len, count_by}
use Rattle.std.specs.Ordering.{nat_cmp, eq_by_cmp}
use Rattle.std.specs.FinMap as fmap
use Rattle.sv_form.specs.Name.{IsName}
use Rattle.sv_form.specs.Entry.{filled}
use Rattle.sv_form.specs.Node.{Node, byte_of, page_byte, entry_count, entry_inode, entry_name}
use Rattle.sv_plain.specs.Totals.{one_if}
use Rattle.sv_plain.specs.Fs.{naming_count}
use Rattle.sv_plain.specs.Whole.{IsPage, IsNode, IsEntryAt, IsDirectory}
use Rattle.sv_form.specs.NodeChanges.{page_after}
use Rattle.sv_plain.proofs.Counts.{same_key, count-cons, count_alike, count_changed}
use Rattle.sv_plain.proofs.EntryPut.{with_put, whole_place, outside, got_page, at_page, inode-other, name_bytes-other, name-other, pages-new}

-- a byte past the size is 0
past_page : (block size k : ℕ) (o : Option (List ℕ)) → ((bytes : List ℕ) → o ≡ Some bytes → IsPage block size (k / block) bytes) → size ≤ k → page_byte o (k % block) ≡ 0
past_page block size k None h far = refl
past_page block size k (Some bytes) h far = (h bytes refl).tail (k % block) (let e = whole_place block k in omega (arith, e, far))

pub past_size : (block greatest inodes d : ℕ) (node : Node) → IsNode block greatest inodes d node → (k : ℕ) → node.size ≤ k → byte_of block node k ≡ 0
unfolding byte_of
past_size block greatest inodes d node n k far = past_page block node.size k (fmap.get node.pages (k / block)) (λ bytes e. n.pages (k / block) bytes e) far

-- one number more in a range
pub count_more : (p : ℕ → Bool) (a n : ℕ) → count_by p (range_with_len a (suc n)) ≡ count_by p (range_with_len a n) + one_if (p (a + n))
count_more p a zero =
    let at : one_if (p (a + 0)) ≡ one_if (p a) = ap (λ k. one_if (p k)) (omega arith) in
    omega (arith, at, count-cons p a [])
count_more p a (suc n) =
    let at : one_if (p (a + 1 + n)) ≡ one_if (p (a + suc n)) = ap (λ k. one_if (p k)) (omega arith) in
    omega (arith, at, count_more p (a + 1) n, count-cons p a (range_with_len (a + 1) (suc n)), count-cons p a (range_with_len (a + 1) n))

multiple : (k b : ℕ) → k * (16 * b) ≡ 16 * (k * b)
multiple k b = grind arith

-- of the multiples of a block one at most begins in an entry: the page of the entry
begins_page : (block j k : ℕ) → 1 ≤ block → block % 16 ≡ 0 → 16 * j ≤ k * block → k * block < 16 * j + 16 → k ≡ 16 * j / block
begins_page block j k some whole low high =
    let b : ℕ = block / 16 in
    let e : block ≡ 16 * b = omega (arith, whole) in
    let m : k * block ≡ 16 * (k * b) = ap (λ n. k * n) e ∙ multiple k b in
    let at : k * block ≡ 16 * j = omega (arith, m, low, high) in
    sym (mul-div_left k some) ∙ ap (λ n. n / block) at

not_tied : (k p : ℕ) → eq_by_cmp nat_cmp k p ≡ false → k ≢ p
not_tied k p f s = false≢true (sym f ∙ ap (λ n. eq_by_cmp nat_cmp n p) s ∙ same_key p)

module _ (block greatest inodes d : ℕ) (node : Node) (j x y : ℕ) (ys : List ℕ) (links : ℕ)
    (some : 1 ≤ block) (whole : block % 16 ≡ 0) (len : length ys ≡ 14)
    (n : IsNode block greatest inodes d node) (dir : IsDirectory block d node) (third : 2 ≤ j) (within : j ≤ entry_count node) where
  abbrev new : Node
  new = with_put block node j (x ∷ y ∷ ys) links

  pub count-new : entry_count new ≡ max (entry_count node) (j + 1)
  count-new = omega (arith, dir.entries, within)

  pub earlier : (k : ℕ) → k ≢ j → k < entry_count new → k < entry_count node
  earlier k ne low = omega (arith, ne, low, count-new)

  page_fits : IsPage block new.size (16 * j / block) (page_after block node (16 * j) (x ∷ y ∷ ys) (16 * j / block))
  page_fits =
      let page : ℕ = 16 * j / block in
      let low : page * block ≤ 16 * j = div-mul-le_self (16 * j) block in
      let long : length (x ∷ y ∷ ys) ≡ 16 = omega (arith, len) in
      let at : ℕ → ℕ = at_page block node j x y ys links some whole len in
      record {
        whole = length-map-range_with_len at (page * block) block;
        within = omega (arith, low);
        tail = λ r far. elim (cases_lt r block) [
          | inl inside ↦ get_or-map-range_with_len at (page * block) block r (page * block + r) 0 inside refl
              ∙ ap (λ b. if b then slice_index (x ∷ y ∷ ys) (page * block + r - 16 * j) else byte_of block node (page * block + r))
              (outside (16 * j) (page * block + r) (length (x ∷ y ∷ ys)) (inr (omega (arith, far, long))))
              ∙ past_size block greatest inodes d node n (page * block + r) (omega (arith, far))
          | inr past ↦ get_or_past (page_after block node (16 * j) (x ∷ y ∷ ys) page) r 0 (let e = length-map-range_with_len at (page * block) block in omega (arith, e, past))
        ];
      }

  pub node-new : 16 * j + 16 ≤ greatest → IsNode block greatest inodes d new
  node-new fits = record {
    least = n.least;
    most = n.most;
    mode = n.mode;
    size = omega (arith, n.size, fits);
    pages = λ k bytes e. elim (pages-new block node j x y ys links some whole len k bytes e) [
      | inl h ↦ subst (λ (p : ℕ). IsPage block new.size p bytes) (sym h.0) (subst (λ (bs : List ℕ). IsPage block new.size (16 * j / block) bs) (sym h.1) page_fits)
      | inr h ↦
          (let before = n.pages k bytes h in
          record {
            whole = before.whole;
            within = omega (arith, before.within);
            tail = λ r far. before.tail r (omega (arith, far));
          })
    ];
  }

  present-new : (k : ℕ) → k * block < new.size → IsSome (fmap.get new.pages k)
  present-new k low =
      let page : ℕ = 16 * j / block in
      let bytes : List ℕ = page_after block node (16 * j) (x ∷ y ∷ ys) page in
      subst IsSome (sym (got_page block node j x y ys links some whole len k))
      (elim (eq_by_cmp nat_cmp k page) as (λ b. eq_by_cmp nat_cmp k page ≡ b → IsSome (cond b (Some bytes) (fmap.get node.pages k))) [
        | true ↦ λ _. refl
        | false ↦ λ f. elim (cases_lt (k * block) node.size) [
          | inl inside ↦ dir.present k inside
          | inr past ↦ absurd (not_tied k page f (begins_page block j k some whole (omega (arith, past, low, within)) (omega (arith, past, low))))
        ]
      ] refl)

  -- what the entry has to be like
  pub directory-new : IsEntryAt block new j
      → ((k : ℕ) → k ≢ j → k < entry_count node → entry_inode block node k ≢ 0 → entry_inode block new j ≢ 0 → entry_name block node k ≢ entry_name block new j)
      → IsDirectory block d new
  directory-new here apart =
      let inode = inode-other block node j x y ys links some whole len in
      let name = name-other block node j x y ys links some whole len in
      let name_all = name_bytes-other block node j x y ys links some whole len in
      let first : 0 ≢ j = (λ s. absurd (omega (arith, s, third))) in
      let second : 1 ≢ j = (λ s. absurd (omega (arith, s, third))) in
      record {
        least = omega (arith, dir.least);
        entries = omega (arith, dir.entries, within);
        present = present-new;
        reads = λ k low. elim (cases_eq k j) [
          | inl is ↦ subst (λ (i : ℕ). IsEntryAt block new i) (sym is) here
          | inr ne ↦
              (let before = dir.reads k (earlier k ne low) in
              record {
                empty = λ e. name_all k ne ∙ before.empty (sym (inode k ne) ∙ e);
                named = λ e. subst IsName (sym (name k ne)) (before.named (λ s. e (inode k ne ∙ s)));
                rest = λ e. name_all k ne ∙ before.rest (λ s. e (inode k ne ∙ s)) ∙ ap filled (sym (name k ne));
              })
        ];
        once = λ k l less low some_k some_l same. elim (cases_eq k j) [
          | inl is ↦
              (let ne : l ≢ j = (λ s. absurd (omega (arith, s, is, less))) in
              apart l ne (earlier l ne low) (λ s. some_l (inode l ne ∙ s)) (λ s. some_k (ap (entry_inode block new) is ∙ s))
              (sym (name l ne) ∙ sym same ∙ ap (entry_name block new) is))
          | inr ne ↦ elim (cases_eq l j) [
            | inl is ↦ apart k ne (earlier k ne (omega (arith, less, low))) (λ s. some_k (inode k ne ∙ s)) (λ s. some_l (ap (entry_inode block new) is ∙ s))
                (sym (name k ne) ∙ same ∙ ap (entry_name block new) is)
            | inr ne_l ↦ dir.once k l less (earlier l ne_l low) (λ s. some_k (inode k ne ∙ s)) (λ s. some_l (inode l ne_l ∙ s))
                (sym (name k ne) ∙ same ∙ name l ne_l)
          ]
        ];
        dot = inode 0 first ∙ dir.dot;
        dot_name = name 0 first ∙ dir.dot_name;
        dots = λ s. dir.dots (sym (inode 1 second) ∙ s);
        dots_name = name 1 second ∙ dir.dots_name;
      }

  pub second-new : entry_inode block new 1 ≡ entry_inode block node 1
  second-new = inode-other block node j x y ys links some whole len 1 (λ s. absurd (omega (arith, s, third)))

  -- an entry past the end names nothing
  pub empty-past : entry_count node ≤ j → entry_inode block node j ≡ 0
  unfolding entry_inode
  empty-past far =
      let first : byte_of block node (16 * j) ≡ 0 = past_size block greatest inodes d node n (16 * j) (omega (arith, far, dir.entries)) in
      let second : byte_of block node (16 * j + 1) ≡ 0 = past_size block greatest inodes d node n (16 * j + 1) (omega (arith, far, dir.entries)) in
      omega (arith, first, second)

  pub counts-new : (first i : ℕ) → first ≤ 2 → i ≢ 0 → naming_count block new first i + one_if (entry_inode block node j == i) ≡ naming_count block node first i + one_if (entry_inode block new j == i)
  unfolding naming_count
  counts-new first i early some_i =
      let p : ℕ → Bool = λ k. entry_inode block new k == i in
      let q : ℕ → Bool = λ k. entry_inode block node k == i in
      let other : (k : ℕ) → k ≢ j → p k ≡ q k = λ k ne. ap (λ e. e == i) (inode-other block node j x y ys links some whole len k ne) in
      elim (cases_lt j (entry_count node)) [
        | inl low ↦
            (let size : entry_count new ≡ entry_count node = omega (arith, count-new, low) in
            let same : count_by p (range_with_len first (entry_count new - first)) ≡ count_by p (range_with_len first (entry_count node - first)) =
            ap (λ c. count_by p (range_with_len first (c - first))) size in
            omega (arith, same, count_changed p q j first (entry_count node - first) (omega (arith, early, third)) (omega (arith, early, third, low)) other))
        | inr far ↦
            (let size : entry_count new - first ≡ suc (entry_count node - first) = omega (arith, count-new, far, within, early, third) in
            let same : count_by p (range_with_len first (entry_count new - first)) ≡ count_by p (range_with_len first (suc (entry_count node - first))) =
            ap (λ c. count_by p (range_with_len first c)) size in
            let end : first + (entry_count node - first) ≡ j = omega (arith, far, within, early, third) in
            let last : one_if (p (first + (entry_count node - first))) ≡ one_if (p j) = ap (λ k. one_if (p k)) end in
            let alike : count_by p (range_with_len first (entry_count node - first)) ≡ count_by q (range_with_len first (entry_count node - first)) =
            count_alike p q first (entry_count node - first) (λ k low high. other k (λ s. absurd (omega (arith, s, far, low, high, early, third, within)))) in
            let none : one_if (q j) ≡ 0 = ap (λ e. one_if (e == i)) (empty-past far) ∙ ap one_if (ne_eqb 0 i (λ s. some_i (sym s))) in
            omega (arith, same, last, alike, none, count_more p first (entry_count node - first)))
      ]
