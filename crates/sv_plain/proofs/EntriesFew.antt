-- A directory without an empty entry has at most as many entries as all inodes have links, and so room for one more.
use Rattle.std.proofs.Common.{◌≡◌, ◌≢◌, ◌≤◌, ◌<◌, ℕ, zero, suc, ◌+◌, ◌-◌, ◌*◌, ◌==◌, inl, inr, true, false, nat_lt, List, if◌then◌else◌, Option, Some, None, IsSome, sym, refl, ap, ◌∙◌, arith}
use Rattle.std.proofs.lemmas.Bool.{cases_order, eq-eqb, ne_eqb}
use Rattle.std.proofs.lemmas.Bool.Decides.{nat_tests}
use Rattle.std.specs.List.{range_with_len, count_by}
use Rattle.std.specs.Cmp.{nat_cmp_total}
use Rattle.std.specs.FinMap as map
use Rattle.std.specs.FinMap.{nat_cmp-IsAntisymmetric}
use Rattle.sv_form.specs.Node.{Node, entry_count, entry_inode}
use Rattle.sv_plain.specs.Totals.{one_if}
use Rattle.sv_plain.specs.Fs.{Fs, is_live, naming_count, namings}
use Rattle.sv_plain.specs.Whole.{IsWhole}
use Rattle.sv_plain.proofs.Counts.{count-cons, count_alike, count_none, count_all}
use Rattle.sv_plain.proofs.KeepsReferences.{some_item}
use Rattle.sv_plain.proofs.KeepsRemoval.{Nodes, absent_or, total-at}

is_less : (x m : ℕ) → x < m → nat_lt x m ≡ true
is_less x m h = grind (arith, nat_tests)

is_not_less : (x m : ℕ) → m ≤ x → nat_lt x m ≡ false
is_not_less x m h = grind (arith, nat_tests)

below_or_at : (x m : ℕ) → one_if (nat_lt x (suc m)) ≡ one_if (nat_lt x m) + one_if (x == m)
below_or_at x m =
    elim (cases_order x m) [
      | inl same ↦
          (let a : one_if (nat_lt x (suc m)) ≡ 1 = ap one_if (is_less x (suc m) (omega (arith, same))) in
          let b : one_if (nat_lt x m) ≡ 0 = ap one_if (is_not_less x m (omega (arith, same))) in
          let c : one_if (x == m) ≡ 1 = ap one_if (eq-eqb x m same) in
          omega (arith, a, b, c))
      | inr apart ↦ elim apart [
        | inl low ↦
            (let a : one_if (nat_lt x (suc m)) ≡ 1 = ap one_if (is_less x (suc m) (omega (arith, low))) in
            let b : one_if (nat_lt x m) ≡ 1 = ap one_if (is_less x m low) in
            let c : one_if (x == m) ≡ 0 = ap one_if (ne_eqb x m (λ s. absurd (omega (arith, s, low)))) in
            omega (arith, a, b, c))
        | inr high ↦
            (let a : one_if (nat_lt x (suc m)) ≡ 0 = ap one_if (is_not_less x (suc m) (omega (arith, high))) in
            let b : one_if (nat_lt x m) ≡ 0 = ap one_if (is_not_less x m (omega (arith, high))) in
            let c : one_if (x == m) ≡ 0 = ap one_if (ne_eqb x m (λ s. absurd (omega (arith, s, high)))) in
            omega (arith, a, b, c))
      ]
    ]

-- those below m + 1 are those below m and those at m
count_split : (e : ℕ → ℕ) (m a n : ℕ) → count_by (λ k. nat_lt (e k) (suc m)) (range_with_len a n) ≡ count_by (λ k. nat_lt (e k) m) (range_with_len a n) + count_by (λ k. e k == m) (range_with_len a n)
count_split e m a zero = refl
count_split e m a (suc n) =
    let rest : List ℕ = range_with_len (a + 1) n in
    omega (
      arith,
      count_split e m (a + 1) n,
      below_or_at (e a) m,
      count-cons (λ k. nat_lt (e k) (suc m)) a rest,
      count-cons (λ k. nat_lt (e k) m) a rest,
      count-cons (λ k. e k == m) a rest,
    )

-- entries of a directory with links that name one inode are among all that do
pub naming-within : (block : ℕ) (nodes : Nodes) (d : ℕ) (node : Node) (i : ℕ) → map.get nodes d ≡ Some node → is_live node ≡ true → naming_count block node 0 i ≤ namings block nodes i
unfolding namings
naming-within block nodes d node i there live =
    let sum = total-at nat_cmp_total nat_cmp-IsAntisymmetric (λ (_ : ℕ) (n : Node). if is_live n then naming_count block n 0 i else 0) nodes d node there in
    let here : (if is_live node then naming_count block node 0 i else 0) ≡ naming_count block node 0 i = ap (λ b. if b then naming_count block node 0 i else 0) live in
    omega (arith, sum, here)

no_item_there : {A : Type 0} (o : Option A) → o ≡ None → IsSome o → ⊥
no_item_there o none some = (let item = some_item o some in let clash : None ≡ Some item.0 = sym none ∙ item.1 in cc)

module _ (fs : Fs) (w : IsWhole fs) (d : ℕ) (node : Node) (there : map.get fs.nodes d ≡ Some node) (live : is_live node ≡ true) (full : (k : ℕ) → k < entry_count node → entry_inode fs.block node k ≢ 0) where
  abbrev e : ℕ → ℕ
  e k = entry_inode fs.block node k

  abbrev all : List ℕ
  all = range_with_len 0 (entry_count node)

  numbered : (k : ℕ) → k < entry_count node → (2 ≤ e k) × (e k ≤ fs.inodes)
  numbered k low =
      let z = some_item (map.get fs.nodes (e k)) (w.named d node there live k low (full k low)) in
      let n = w.nodes (e k) z.0 z.1 in
      (n.least, n.most)

  at_one : (m : ℕ) → count_by (λ k. e k == m) all ≤ 1000
  unfolding naming_count
  at_one m =
      elim (absent_or (map.get fs.nodes m)) [
        | inl none ↦
            (let never : count_by (λ k. e k == m) all ≡ count_by (λ _. false) all =
            count_alike (λ k. e k == m) (λ _. false) 0 (entry_count node)
            (λ k _ high. ne_eqb (e k) m (λ s. no_item_there (map.get fs.nodes (e k)) (ap (map.get fs.nodes) s ∙ none) (w.named d node there live k (omega (arith, high)) (full k (omega (arith, high)))))) in
            omega (arith, never, count_none (λ _. false) 0 (entry_count node) (λ _. refl)))
        | inr z ↦
            (let links = w.links m z.0 z.1 in
            let size : entry_count node - 0 ≡ entry_count node = omega arith in
            let same : naming_count fs.block node 0 m ≡ count_by (λ k. e k == m) all = ap (λ n. count_by (λ k. e k == m) (range_with_len 0 n)) size in
            omega (arith, links.0, links.1, naming-within fs.block fs.nodes d node m there live, same))
      ]

  below : ℕ → ℕ
  below m = count_by (λ k. nat_lt (e k) m) all

  below-few : (m : ℕ) → below (2 + m) ≤ 1000 * m
  unfolding below
  below-few zero =
      let never : count_by (λ k. nat_lt (e k) 2) all ≡ count_by (λ _. false) all =
      count_alike (λ k. nat_lt (e k) 2) (λ _. false) 0 (entry_count node) (λ k _ high. is_not_less (e k) 2 (numbered k (omega (arith, high))).0) in
      omega (arith, never, count_none (λ _. false) 0 (entry_count node) (λ _. refl))
  below-few (suc m) =
      let next : below (2 + suc m) ≡ below (suc (2 + m)) = ap below (omega arith) in
      omega (arith, next, count_split e (2 + m) 0 (entry_count node), at_one (2 + m), below-few m)

  pub entries-few : entry_count node + 1 ≤ 1000 * fs.inodes
  unfolding below
  entries-few =
      let root = w.nodes 2 w.root.there.0 w.root.there.1 in
      let last : 2 + (fs.inodes - 1) ≡ fs.inodes + 1 = omega (arith, root.most) in
      let always : count_by (λ k. nat_lt (e k) (2 + (fs.inodes - 1))) all ≡ count_by (λ _. true) all =
      count_alike (λ k. nat_lt (e k) (2 + (fs.inodes - 1))) (λ _. true) 0 (entry_count node)
      (λ k _ high. is_less (e k) (2 + (fs.inodes - 1)) (let most = (numbered k (omega (arith, high))).1 in omega (arith, most, last))) in
      omega (arith, always, count_all (λ _. true) 0 (entry_count node) (λ _. refl), below-few (fs.inodes - 1), root.most)
