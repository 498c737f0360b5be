-- A range of pages takes at least as many blocks more as it has pages beyond the blocks that are there.
use Rattle.std.proofs.Common.{◌≡◌, ◌≤◌, ◌<◌, ◌+◌, ◌-◌, ℕ, zero, suc, Bool, true, false, cond, not, ◌&&◌, ◌||◌, List, sym, refl, ap, ◌∙◌, arith}
use Rattle.std.proofs.lemmas.Bool.{false≢true, false_from_ne_true}
use Rattle.std.specs.List.{list_any, flat_map, range_with_len}
use Rattle.std.specs.Ordering.{nat_cmp, eq_by_cmp}
use Rattle.std.specs.Cmp.{Equal-is}
use Rattle.std.specs.FinSet as set
use Rattle.sv_form.specs.Pair.{pair_cmp, pair_cmp_total, pair_cmp-IsAntisymmetric}
use Rattle.sv_form.specs.Node.{blocks_at}
use Rattle.sv_plain.specs.Blocks.{with_blocks}
use Rattle.sv_plain.specs.Missing.{added}
use Rattle.sv_plain.proofs.Counts.{same_key}
use Rattle.sv_plain.proofs.Used.{any-cons, contains-with_blocks, len-with_blocks}
use Rattle.sv_plain.proofs.BlocksAdded.{Blocks, stands-page}

-- ---- a set that holds the pages of a range has as many members

not_empty : (t : Blocks) (b : ℕ × ℕ) → set.contains t b ≡ true → 1 ≤ set.len t
not_empty t b h = by (set.len t) refl
  where
    by : (n : ℕ) → set.len t ≡ n → 1 ≤ n
    by zero e = absurd (false≢true (sym (set.contains-empty pair_cmp b) ∙ ap (λ s. set.contains s b) (sym (set.empty_of_len t e)) ∙ h))
    by (suc n) e = omega arith

two_pages : (m n : ℕ) → m < n → eq_by_cmp pair_cmp (0, m) (0, n) ≡ false
two_pages m n lt =
    false_from_ne_true (eq_by_cmp pair_cmp (0, m) (0, n))
    (λ e. let same : m ≡ n = ap (λ (b : ℕ × ℕ). b.1) (pair_cmp-IsAntisymmetric (0, m) (0, n) ((Equal-is (pair_cmp (0, m) (0, n))).0 e)) in omega (arith, lt, same))

still_held : (t : Blocks) (m n : ℕ) → m < n → set.contains t (0, m) ≡ true → set.contains (set.remove t (0, n)) (0, m) ≡ true
still_held t m n lt h =
    set.contains-remove pair_cmp_total t (0, n) (0, m) ∙ (λ i. not (two_pages m n lt i) && h i)

holds_many : (t : Blocks) (first k : ℕ) → ((i : ℕ) → i < k → set.contains t (0, first + i) ≡ true) → k ≤ set.len t
holds_many t first zero h = omega arith
holds_many t first (suc k) h =
    let last : set.contains t (0, first + k) ≡ true = h k (omega arith) in
    let one_less : set.len (set.remove t (0, first + k)) ≡ set.len t - 1 =
    set.len-remove pair_cmp_total t (0, first + k) ∙ ap (λ c. cond c (set.len t - 1) (set.len t)) last in
    let rest : k ≤ set.len (set.remove t (0, first + k)) =
    holds_many (set.remove t (0, first + k)) first k (λ i lt. still_held t (first + i) (first + k) (omega (arith, lt)) (h i (omega (arith, lt)))) in
    omega (arith, one_less, rest, not_empty t (0, first + k) last)

-- ---- the blocks of a range of pages hold its pages

or-true : (a : Bool) → (a || true) ≡ true
or-true true = refl
or-true false = refl

page_among : (per first k i : ℕ) → i < k → list_any (eq_by_cmp pair_cmp (0, first + i)) (flat_map (blocks_at per) (range_with_len first k)) ≡ true
page_among per first zero i lt = absurd (omega (arith, lt))
page_among per first (suc k) zero lt =
    let at : first + 0 ≡ first = omega arith in
    any-cons (blocks_at per) (eq_by_cmp pair_cmp (0, first + 0)) first (range_with_len (first + 1) k)
    ∙ ap (λ t. t || list_any (eq_by_cmp pair_cmp (0, first + 0)) (flat_map (blocks_at per) (range_with_len (first + 1) k)))
    (stands-page per first (first + 0) ∙ ap (λ n. eq_by_cmp nat_cmp n first) at ∙ same_key first)
page_among per first (suc k) (suc i) lt =
    let at : first + 1 + i ≡ first + suc i = omega arith in
    let rest : list_any (eq_by_cmp pair_cmp (0, first + suc i)) (flat_map (blocks_at per) (range_with_len (first + 1) k)) ≡ true =
    ap (λ n. list_any (eq_by_cmp pair_cmp (0, n)) (flat_map (blocks_at per) (range_with_len (first + 1) k))) (sym at)
    ∙ page_among per (first + 1) k i (omega (arith, lt)) in
    any-cons (blocks_at per) (eq_by_cmp pair_cmp (0, first + suc i)) first (range_with_len (first + 1) k)
    ∙ ap (λ t. list_any (eq_by_cmp pair_cmp (0, first + suc i)) (blocks_at per first) || t) rest
    ∙ or-true (list_any (eq_by_cmp pair_cmp (0, first + suc i)) (blocks_at per first))

page_held : (s : Blocks) (per first k i : ℕ) → i < k → set.contains (with_blocks s (flat_map (blocks_at per) (range_with_len first k))) (0, first + i) ≡ true
page_held s per first k i lt =
    contains-with_blocks s (flat_map (blocks_at per) (range_with_len first k)) (0, first + i)
    ∙ ap (λ t. t || set.contains s (0, first + i)) (page_among per first k i lt)

-- ---- so they take at least that many

pub added-many : (s : Blocks) (per first k : ℕ) → k ≤ set.len s + added s per (range_with_len first k)
unfolding added
added-many s per first k =
    let all : k ≤ set.len (with_blocks s (flat_map (blocks_at per) (range_with_len first k))) =
    holds_many (with_blocks s (flat_map (blocks_at per) (range_with_len first k))) first k (λ i lt. page_held s per first k i lt) in
    let grows = len-with_blocks s (flat_map (blocks_at per) (range_with_len first k)) in
    omega (arith, all, grows.0)
