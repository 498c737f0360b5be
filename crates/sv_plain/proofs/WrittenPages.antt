-- The pages and the blocks of a node as bytes are put into it: made present, taken back, and written.
use Rattle.std.proofs.Common.{◌≡◌, ◌≢◌, ◌≤◌, ◌<◌, ℕ, zero, suc, ◌+◌, ◌-◌, ◌*◌, ◌/◌, inl, inr, Bool, true, false, cond, not, ◌&&◌, ◌||◌, List, [], ◌∷◌, ◌++◌, length, map, max, Option, Some, None, IsSome, is_some, if◌then◌else◌, sym, refl, ap, subst, ◌∙◌, arith}
use Rattle.std.proofs.lemmas.Bool.{false≢true, eq-eqb, ne_eqb, cases_eq, or_parts, or_left, or_right}
use Rattle.std.proofs.lemmas.Grind.{flat_map-append}
use Rattle.std.proofs.Math.Nat.{div-mul-le_self}
use Rattle.std.proofs.lemmas.List.{append-nil}
use Rattle.std.proofs.lemmas.List.Elements.{filter-append}
use Rattle.std.proofs.lemmas.List.Folds.{list_any-append}
use Rattle.std.specs.List.{list_any, filter, flat_map, range_with_len}
use Rattle.std.specs.Ordering.{nat_cmp, eq_by_cmp}
use Rattle.std.specs.Cmp.{nat_cmp_total, Equal-is}
use Rattle.std.specs.FinMap as fmap
use Rattle.std.specs.FinMap.{nat_cmp-IsAntisymmetric}
use Rattle.std.specs.FinSet as set
use Rattle.sv_form.specs.Pair.{pair_cmp, pair_cmp_total, pair_cmp-IsAntisymmetric}
use Rattle.sv_form.specs.Node.{Node, blocks_at, block_set}
use Rattle.sv_plain.specs.Blocks.{with_blocks}
use Rattle.sv_plain.specs.Missing.{missing}
use Rattle.sv_plain.specs.Written.{Pages, present, all_present, with_pages_from, without_blocks, without_page, without_pages}
use Rattle.sv_plain.specs.Fs.{with_page}
use Rattle.sv_form.specs.NodeChanges.{touched, page_after, with_pages, put}
use Rattle.sv_plain.proofs.Counts.{same_key}
use Rattle.sv_plain.proofs.Undone.{insert-known}
use Rattle.sv_plain.proofs.Kept.{some_of}
use Rattle.sv_plain.proofs.Used.{any-cons, contains-with_blocks, block_set-insert}
use Rattle.sv_plain.proofs.PagesPut.{range-append, later_page, touched-some, block_set-with_pages}
use Rattle.sv_plain.proofs.BlocksAdded.{Blocks, same_number, then_equal, same_test, stands-page, with_blocks-append, block_set-append, range-snoc}

abbrev Block : Type 0
Block = ℕ × ℕ

-- the page is in the list
abbrev pub listed : ℕ → List ℕ → Bool
listed q ps = list_any (eq_by_cmp nat_cmp q) ps

apart : (m n : ℕ) → eq_by_cmp nat_cmp m n ≡ false → m ≢ n
apart m n e same = false≢true (sym e ∙ ap (λ k. eq_by_cmp nat_cmp k n) same ∙ same_key n)

-- ---- pages that are made present

-- a page that is there stays as it is
pub present-known : (pages : Pages) (p : ℕ) → IsSome (fmap.get pages p) → present pages p ≡ pages
present-known pages p there = by (fmap.get pages p) refl there
  where
    by : (o : Option (List ℕ)) → fmap.get pages p ≡ o → IsSome o → present pages p ≡ pages
    by None e h = absurd (false≢true h)
    by (Some v) e h = ap (λ (o : Option (List ℕ)). if is_some o then pages else fmap.insert pages p []) e

pub present-new : (pages : Pages) (p : ℕ) → fmap.get pages p ≡ None → present pages p ≡ fmap.insert pages p []
present-new pages p e = ap (λ (o : Option (List ℕ)). if is_some o then pages else fmap.insert pages p []) e

get-present : (pages : Pages) (p q : ℕ) → eq_by_cmp nat_cmp q p ≡ false → fmap.get (present pages p) q ≡ fmap.get pages q
get-present pages p q ne = by (fmap.get pages p) refl
  where
    by : (o : Option (List ℕ)) → fmap.get pages p ≡ o → fmap.get (present pages p) q ≡ fmap.get pages q
    by None e =
        ap (λ (m : Pages). fmap.get m q) (present-new pages p e)
        ∙ fmap.get-insert nat_cmp_total pages p [] q
        ∙ ap (λ t. cond t (Some []) (fmap.get pages q)) ne
    by (Some v) e = ap (λ (m : Pages). fmap.get m q) (present-known pages p (subst IsSome (sym e) refl))

kept : (pages : Pages) (p q : ℕ) (v : List ℕ) → fmap.get pages q ≡ Some v → fmap.get (present pages p) q ≡ Some v
kept pages p q v there = by (eq_by_cmp nat_cmp q p) refl
  where
    by : (t : Bool) → eq_by_cmp nat_cmp q p ≡ t → fmap.get (present pages p) q ≡ Some v
    by true e =
        (let at : q ≡ p = same_number q p e in
        let here : fmap.get pages p ≡ Some v = ap (fmap.get pages) (sym at) ∙ there in
        ap (λ (m : Pages). fmap.get m q) (present-known pages p (subst IsSome (sym here) refl)) ∙ there)
    by false e = get-present pages p q e ∙ there

made : (pages : Pages) (p : ℕ) → IsSome (fmap.get (present pages p) p)
made pages p = by (fmap.get pages p) refl
  where
    by : (o : Option (List ℕ)) → fmap.get pages p ≡ o → IsSome (fmap.get (present pages p) p)
    by None e =
        subst IsSome
        (sym (ap (λ (m : Pages). fmap.get m p) (present-new pages p e) ∙ fmap.get-insert nat_cmp_total pages p [] p ∙ ap (λ t. cond t (Some []) (fmap.get pages p)) (same_key p)))
        refl
    by (Some v) e = subst IsSome (sym (kept pages p p v e)) refl

pub all_present-kept : (pages : Pages) (ps : List ℕ) (q : ℕ) (v : List ℕ) → fmap.get pages q ≡ Some v → fmap.get (all_present pages ps) q ≡ Some v
all_present-kept pages [] q v there = there
all_present-kept pages (p ∷ ps) q v there = all_present-kept (present pages p) ps q v (kept pages p q v there)

pub all_present-apart : (pages : Pages) (ps : List ℕ) (q : ℕ) → listed q ps ≡ false → fmap.get (all_present pages ps) q ≡ fmap.get pages q
all_present-apart pages [] q e = refl
all_present-apart pages (p ∷ ps) q e =
    let parts = or_parts (eq_by_cmp nat_cmp q p) (listed q ps) e in
    all_present-apart (present pages p) ps q parts.1 ∙ get-present pages p q parts.0

pub all_present-there : (pages : Pages) (ps : List ℕ) (q : ℕ) → listed q ps ≡ true → IsSome (fmap.get (all_present pages ps) q)
all_present-there pages [] q e = absurd (false≢true e)
all_present-there pages (p ∷ ps) q e = by (eq_by_cmp nat_cmp q p) refl e (all_present-there (present pages p) ps q)
  where
    by : (t : Bool) → eq_by_cmp nat_cmp q p ≡ t → (t || listed q ps) ≡ true → (listed q ps ≡ true → IsSome (fmap.get (all_present (present pages p) ps) q)) → IsSome (fmap.get (all_present (present pages p) ps) q)
    by true f h rest =
        (let at : q ≡ p = same_number q p f in
        let here = some_of (fmap.get (present pages p) q) (subst (λ (k : ℕ). IsSome (fmap.get (present pages p) k)) (sym at) (made pages p)) in
        subst IsSome (sym (all_present-kept (present pages p) ps q here.0 here.1)) refl)
    by false f h rest = rest h

pub all_present-snoc : (pages : Pages) (ps : List ℕ) (p : ℕ) → all_present pages (ps ++ p ∷ []) ≡ present (all_present pages ps) p
all_present-snoc pages [] p = refl
all_present-snoc pages (k ∷ ps) p = all_present-snoc (present pages k) ps p

-- ---- their blocks

block_set-present : (per : ℕ) (pages : Pages) (p : ℕ) → block_set per (fmap.keys (present pages p)) ≡ with_blocks (block_set per (fmap.keys pages)) (blocks_at per p)
block_set-present per pages p = by (fmap.get pages p) refl
  where
    by : (o : Option (List ℕ)) → fmap.get pages p ≡ o → block_set per (fmap.keys (present pages p)) ≡ with_blocks (block_set per (fmap.keys pages)) (blocks_at per p)
    by None e = ap (λ (m : Pages). block_set per (fmap.keys m)) (present-new pages p e) ∙ block_set-insert per pages p []
    by (Some v) e =
        ap (λ (m : Pages). block_set per (fmap.keys m)) (present-known pages p (subst IsSome (sym e) refl) ∙ sym (insert-known nat_cmp_total nat_cmp-IsAntisymmetric pages p v e))
        ∙ block_set-insert per pages p v

pub block_set-all_present : (per : ℕ) (pages : Pages) (ps : List ℕ) → block_set per (fmap.keys (all_present pages ps)) ≡ with_blocks (block_set per (fmap.keys pages)) (flat_map (blocks_at per) ps)
block_set-all_present per pages [] = refl
block_set-all_present per pages (p ∷ ps) =
    block_set-all_present per (present pages p) ps
    ∙ ap (λ s. with_blocks s (flat_map (blocks_at per) ps)) (block_set-present per pages p)
    ∙ sym (with_blocks-append (block_set per (fmap.keys pages)) (blocks_at per p) (flat_map (blocks_at per) ps))

-- a page is put in with its blocks, or neither is
pub mine-either : (b : Bool) (per page : ℕ) (bytes : List ℕ) (old : Node) (blocks : Blocks) → blocks ≡ block_set per (fmap.keys old.pages)
    → cond b (with_blocks blocks (blocks_at per page)) blocks ≡ block_set per (fmap.keys (cond b (with_page page bytes old) old).pages)
mine-either true per page bytes old blocks mine = ap (λ s. with_blocks s (blocks_at per page)) mine ∙ sym (block_set-insert per old.pages page bytes)
mine-either false per page bytes old blocks mine = mine

-- ---- what is taken back

without_both : (a b c : Bool) → (not b && (not a && c)) ≡ (not (a || b) && c)
without_both true true c = refl
without_both true false c = refl
without_both false true c = refl
without_both false false c = refl

contains-without : (s : Blocks) (bs : List Block) (q : Block) → set.contains (without_blocks s bs) q ≡ (not (list_any (eq_by_cmp pair_cmp q) bs) && set.contains s q)
contains-without s [] q = refl
contains-without s (b ∷ bs) q =
    contains-without (set.remove s b) bs q
    ∙ ap (λ t. not (list_any (eq_by_cmp pair_cmp q) bs) && t) (set.contains-remove pair_cmp_total s b q)
    ∙ without_both (eq_by_cmp pair_cmp q b) (list_any (eq_by_cmp pair_cmp q) bs) (set.contains s q)

passed_on : (c t r : Bool) (x : Block) (xs : List Block) (f : Block → Bool) → f x ≡ t → list_any f xs ≡ r → list_any f (cond c (x ∷ xs) xs) ≡ ((c && t) || r)
passed_on true t r x xs f e h = λ i. e i || h i
passed_on false t r x xs f e h = h

spread : (a b c g : Bool) → (a ≡ true → c ≡ g) → ((c && a) || (b && g)) ≡ ((a || b) && g)
spread true true c true e = ap (λ t. (t && true) || true) (e refl)
spread true true c false e = ap (λ t. (t && true) || false) (e refl)
spread true false c true e = ap (λ t. (t && true) || false) (e refl)
spread true false c false e = ap (λ t. (t && true) || false) (e refl)
spread false b true g e = refl
spread false b false g e = refl

-- what passes the test, of a list
any-filter : (g : Block → Bool) (q : Block) (bs : List Block) → list_any (eq_by_cmp pair_cmp q) (filter g bs) ≡ (list_any (eq_by_cmp pair_cmp q) bs && g q)
any-filter g q [] = refl
any-filter g q (b ∷ bs) =
    passed_on (g b) (eq_by_cmp pair_cmp q b) (list_any (eq_by_cmp pair_cmp q) bs && g q) b (filter g bs) (eq_by_cmp pair_cmp q) refl (any-filter g q bs)
    ∙ spread (eq_by_cmp pair_cmp q b) (list_any (eq_by_cmp pair_cmp q) bs) (g b) (g q)
    (λ e. ap g (sym (pair_cmp-IsAntisymmetric q b ((Equal-is (pair_cmp q b)).0 e))))

undone : (a b c : Bool) → (b ≡ true → c ≡ true) → (not (c && not a) && (b || a)) ≡ a
undone true true true e = refl
undone true true false e = refl
undone true false true e = refl
undone true false false e = refl
undone false true true e = refl
undone false true false e = sym (e refl)
undone false false true e = refl
undone false false false e = refl

-- the first pages of a range are among its pages
range-split : (a k n : ℕ) → k ≤ n → range_with_len a n ≡ range_with_len a k ++ range_with_len (a + k) (n - k)
range-split a k n h = (let all : n ≡ k + (n - k) = omega (arith, h) in ap (range_with_len a) all ∙ range-append a k (n - k))

any-more : (per first k n : ℕ) (q : Block) → k ≤ n → list_any (eq_by_cmp pair_cmp q) (flat_map (blocks_at per) (range_with_len first k)) ≡ true → list_any (eq_by_cmp pair_cmp q) (flat_map (blocks_at per) (range_with_len first n)) ≡ true
any-more per first k n q h e =
    ap (λ l. list_any (eq_by_cmp pair_cmp q) (flat_map (blocks_at per) l)) (range-split first k n h)
    ∙ ap (list_any (eq_by_cmp pair_cmp q)) (flat_map-append (blocks_at per) (range_with_len first k) (range_with_len (first + k) (n - k)))
    ∙ list_any-append (eq_by_cmp pair_cmp q) (flat_map (blocks_at per) (range_with_len first k)) (flat_map (blocks_at per) (range_with_len (first + k) (n - k)))
    ∙ or_left _ _ e

fewer : (first k n q : ℕ) → k ≤ n → listed q (range_with_len first n) ≡ false → listed q (range_with_len first k) ≡ false
fewer first k n q h e =
    (or_parts (listed q (range_with_len first k)) (listed q (range_with_len (first + k) (n - k)))
    (sym (list_any-append (eq_by_cmp nat_cmp q) (range_with_len first k) (range_with_len (first + k) (n - k))) ∙ ap (listed q) (sym (range-split first k n h)) ∙ e)).0

-- the blocks that were missing, taken out again
pub blocks-back : (per first k n : ℕ) (pages : Pages) → k ≤ n
    → without_blocks (block_set per (fmap.keys (all_present pages (range_with_len first k)))) (missing (block_set per (fmap.keys pages)) per (range_with_len first n)) ≡ block_set per (fmap.keys pages)
unfolding missing
blocks-back per first k n pages h =
    let s : Blocks = block_set per (fmap.keys pages) in
    let xs : List Block = flat_map (blocks_at per) (range_with_len first n) in
    let ys : List Block = flat_map (blocks_at per) (range_with_len first k) in
    set.same_set pair_cmp_total pair_cmp-IsAntisymmetric _ _
    (λ q. contains-without _ (filter (λ b. not (set.contains s b)) xs) q
    ∙ (λ i. not (any-filter (λ b. not (set.contains s b)) q xs i) && set.contains (block_set-all_present per pages (range_with_len first k) i) q)
    ∙ ap (λ t. not (list_any (eq_by_cmp pair_cmp q) xs && not (set.contains s q)) && t) (contains-with_blocks s ys q)
    ∙ undone (set.contains s q) (list_any (eq_by_cmp pair_cmp q) ys) (list_any (eq_by_cmp pair_cmp q) xs) (any-more per first k n q h))

-- a page is a block of some pages where it is one of them
page-among : (per : ℕ) (ps : List ℕ) (q : ℕ) → list_any (eq_by_cmp pair_cmp (0, q)) (flat_map (blocks_at per) ps) ≡ listed q ps
page-among per [] q = refl
page-among per (p ∷ ps) q = any-cons (blocks_at per) (eq_by_cmp pair_cmp (0, q)) p ps ∙ (λ i. stands-page per p q i || page-among per ps q i)

page-in : (per : ℕ) (pages : Pages) (q : ℕ) → set.contains (block_set per (fmap.keys pages)) (0, q) ≡ is_some (fmap.get pages q)
unfolding block_set
page-in per pages q = set.contains-from_list pair_cmp_total _ (0, q) ∙ page-among per (fmap.keys pages) q ∙ sym (fmap.contains_key-keys pages q)

get-without_page : (pages : Pages) (b : Block) (q : ℕ) → fmap.get (without_page pages b) q ≡ cond (eq_by_cmp pair_cmp (0, q) b) None (fmap.get pages q)
get-without_page pages b q =
    elim (cases_eq b.0 0) [
      | inl e ↦ ap (λ t. fmap.get (if t then fmap.remove pages b.1 else pages) q) (eq-eqb b.0 0 e)
          ∙ fmap.get-remove nat_cmp_total pages b.1 q
          ∙ ap (λ t. cond (t && eq_by_cmp nat_cmp q b.1) None (fmap.get pages q)) (sym (eq-eqb 0 b.0 (sym e)) ∙ same_test 0 b.0)
          ∙ ap (λ t. cond t None (fmap.get pages q)) (sym (then_equal (nat_cmp 0 b.0) (nat_cmp q b.1)))
      | inr ne ↦ ap (λ t. fmap.get (if t then fmap.remove pages b.1 else pages) q) (ne_eqb b.0 0 ne)
          ∙ ap (λ t. cond (t && eq_by_cmp nat_cmp q b.1) None (fmap.get pages q)) (sym (ne_eqb 0 b.0 (λ e. ne (sym e))) ∙ same_test 0 b.0)
          ∙ ap (λ t. cond t None (fmap.get pages q)) (sym (then_equal (nat_cmp 0 b.0) (nat_cmp q b.1)))
    ]

gone_either : (a b : Bool) (o : Option (List ℕ)) → cond b None (cond a None o) ≡ cond (a || b) None o
gone_either true true o = refl
gone_either true false o = refl
gone_either false b o = refl

get-without : (pages : Pages) (bs : List Block) (q : ℕ) → fmap.get (without_pages pages bs) q ≡ cond (list_any (eq_by_cmp pair_cmp (0, q)) bs) None (fmap.get pages q)
get-without pages [] q = refl
get-without pages (b ∷ bs) q =
    get-without (without_page pages b) bs q
    ∙ ap (cond (list_any (eq_by_cmp pair_cmp (0, q)) bs) None) (get-without_page pages b q)
    ∙ gone_either (eq_by_cmp pair_cmp (0, q) b) (list_any (eq_by_cmp pair_cmp (0, q)) bs) (fmap.get pages q)

-- the pages that were absent, taken out again
pub pages-back : (per first k n : ℕ) (pages : Pages) → k ≤ n
    → without_pages (all_present pages (range_with_len first k)) (missing (block_set per (fmap.keys pages)) per (range_with_len first n)) ≡ pages
unfolding missing
pages-back per first k n pages h =
    let s : Blocks = block_set per (fmap.keys pages) in
    let xs : List Block = flat_map (blocks_at per) (range_with_len first n) in
    fmap.same_map nat_cmp_total nat_cmp-IsAntisymmetric _ _
    (λ q. get-without (all_present pages (range_with_len first k)) (filter (λ b. not (set.contains s b)) xs) q
    ∙ ap (λ t. cond t None (fmap.get (all_present pages (range_with_len first k)) q)) (any-filter (λ b. not (set.contains s b)) (0, q) xs)
    ∙ (λ i. cond (page-among per (range_with_len first n) q i && not (page-in per pages q i)) None (fmap.get (all_present pages (range_with_len first k)) q))
    ∙ back q (fmap.get pages q) refl (listed q (range_with_len first n)) refl)
  where
    back : (q : ℕ) (o : Option (List ℕ)) → fmap.get pages q ≡ o → (t : Bool) → listed q (range_with_len first n) ≡ t
        → cond (listed q (range_with_len first n) && not (is_some (fmap.get pages q))) None (fmap.get (all_present pages (range_with_len first k)) q) ≡ fmap.get pages q
    back q None e true f = (λ i. cond (f i && not (is_some (e i))) None (fmap.get (all_present pages (range_with_len first k)) q)) ∙ sym e
    back q None e false f =
        (λ i. cond (f i && not (is_some (e i))) None (fmap.get (all_present pages (range_with_len first k)) q))
        ∙ all_present-apart pages (range_with_len first k) q (fewer first k n q h f)
    back q (Some v) e true f =
        (λ i. cond (f i && not (is_some (e i))) None (fmap.get (all_present pages (range_with_len first k)) q))
        ∙ all_present-kept pages (range_with_len first k) q v e ∙ sym e
    back q (Some v) e false f =
        (λ i. cond (f i && not (is_some (e i))) None (fmap.get (all_present pages (range_with_len first k)) q))
        ∙ all_present-kept pages (range_with_len first k) q v e ∙ sym e

-- ---- what is written

-- a page that is there is there with other bytes in a page
pub still-there : (pages : Pages) (p : ℕ) (bytes : List ℕ) (q : ℕ) → IsSome (fmap.get pages q) → IsSome (fmap.get (fmap.insert pages p bytes) q)
still-there pages p bytes q there = subst IsSome (sym (fmap.get-insert nat_cmp_total pages p bytes q)) (by (eq_by_cmp nat_cmp q p))
  where
    by : (t : Bool) → IsSome (cond t (Some bytes) (fmap.get pages q))
    by true = refl
    by false = there

pub with_pages_from-snoc : (pages : Pages) (first : ℕ) (bs : List (List ℕ)) (b : List ℕ) → with_pages_from pages first (bs ++ b ∷ []) ≡ with_pages_from (fmap.insert pages (first + length bs) b) first bs
with_pages_from-snoc pages first [] b = (let at : first ≡ first + 0 = omega arith in ap (λ k. fmap.insert pages k b) at)
with_pages_from-snoc pages first (c ∷ bs) b =
    let at : first + 1 + length bs ≡ first + suc (length bs) = omega arith in
    ap (λ m. fmap.insert m first c) (with_pages_from-snoc pages (first + 1) bs b ∙ ap (λ k. with_pages_from (fmap.insert pages k b) (first + 1) bs) at)

pub with_pages-range : (pages : Pages) (f : ℕ → List ℕ) (first n : ℕ) → with_pages pages f (range_with_len first n) ≡ with_pages_from pages first (map f (range_with_len first n))
with_pages-range pages f first zero = refl
with_pages-range pages f first (suc n) = ap (λ m. fmap.insert m first (f first)) (with_pages-range pages f (first + 1) n)

chosen : (a b : Bool) (x y : List ℕ) (o : Option (List ℕ)) → (a ≡ true → x ≡ y) → cond a (Some x) (cond b (Some y) o) ≡ cond (a || b) (Some y) o
chosen true b x y o e = ap Some (e refl)
chosen false b x y o e = refl

get-with_pages : (pages : Pages) (f : ℕ → List ℕ) (ps : List ℕ) (q : ℕ) → fmap.get (with_pages pages f ps) q ≡ cond (listed q ps) (Some (f q)) (fmap.get pages q)
get-with_pages pages f [] q = refl
get-with_pages pages f (p ∷ ps) q =
    fmap.get-insert nat_cmp_total (with_pages pages f ps) p (f p) q
    ∙ ap (cond (eq_by_cmp nat_cmp q p) (Some (f p))) (get-with_pages pages f ps q)
    ∙ chosen (eq_by_cmp nat_cmp q p) (listed q ps) (f p) (f q) (fmap.get pages q) (λ e. ap f (sym (same_number q p e)))

-- pages that were made present and are written, are written
pub written-present : (pages : Pages) (f : ℕ → List ℕ) (ps : List ℕ) → with_pages (all_present pages ps) f ps ≡ with_pages pages f ps
written-present pages f ps =
    fmap.same_map nat_cmp_total nat_cmp-IsAntisymmetric _ _
    (λ q. get-with_pages (all_present pages ps) f ps q ∙ by q (listed q ps) refl ∙ sym (get-with_pages pages f ps q))
  where
    by : (q : ℕ) (t : Bool) → listed q ps ≡ t → cond (listed q ps) (Some (f q)) (fmap.get (all_present pages ps) q) ≡ cond (listed q ps) (Some (f q)) (fmap.get pages q)
    by q true e = ap (λ t. cond t (Some (f q)) (fmap.get (all_present pages ps) q)) e ∙ sym (ap (λ t. cond t (Some (f q)) (fmap.get pages q)) e)
    by q false e = ap (cond (listed q ps) (Some (f q))) (all_present-apart pages ps q e)

-- a page of a range is listed
pub range-lists : (first n k : ℕ) → k < n → listed (first + k) (range_with_len first n) ≡ true
range-lists first zero k h = absurd (omega (arith, h))
range-lists first (suc n) zero h = (let at : first + zero ≡ first = omega arith in ap (λ t. t || listed (first + zero) (range_with_len (first + 1) n)) (ap (λ q. eq_by_cmp nat_cmp q first) at ∙ same_key first))
range-lists first (suc n) (suc k) h =
    let at : first + suc k ≡ first + 1 + k = omega arith in
    ap (λ q. listed q (range_with_len first (suc n))) at ∙ or_right (eq_by_cmp nat_cmp (first + 1 + k) first) _ (range-lists (first + 1) n k (omega (arith, h)))

-- ---- the node that is left

pub blocks-written : (per : ℕ) (pages : Pages) (f : ℕ → List ℕ) (ps : List ℕ) → block_set per (fmap.keys (all_present pages ps)) ≡ block_set per (fmap.keys (with_pages pages f ps))
blocks-written per pages f ps =
    block_set-all_present per pages ps
    ∙ sym (block_set-append per (fmap.keys pages) ps)
    ∙ sym (block_set-with_pages per pages f ps)

module _ (block at : ℕ) (old : Node) (bytes : List ℕ) (some : 1 ≤ block) (long : length bytes ≢ 0) where
  abbrev first_page : ℕ
  first_page = at / block

  abbrev page_count : ℕ
  page_count = (at + length bytes - 1) / block - at / block + 1

  abbrev ps : List ℕ
  ps = range_with_len first_page page_count

  -- the range ends with the page of the last byte
  pub last-page : at / block ≤ (at + length bytes - 1) / block
  last-page = later_page block at (at + length bytes - 1) some (omega (arith, long))

  pub range-ends : (first_page + page_count) * block ≤ at + length bytes + block
  range-ends =
      let last : ℕ = (at + length bytes - 1) / block in
      let sum : first_page + page_count ≡ last + 1 = omega (arith, last-page) in
      let low = div-mul-le_self (at + length bytes - 1) block in
      let more : (last + 1) * block ≡ last * block + block = grind arith in
      omega (arith, ap (λ n. n * block) sum, more, low)

  pub range-few : first_page + page_count ≤ at + length bytes + block
  range-few = (let wide : first_page + page_count ≤ (first_page + page_count) * block = grind arith in omega (arith, range-ends, wide))

  pub put-by : (middle replaced : Node) (pages : List (List ℕ))
      → middle ≡ record old { pages = all_present old.pages ps }
      → replaced ≡ record middle { pages = with_pages_from middle.pages first_page pages }
      → pages ≡ map (page_after block old at bytes) ps
      → record replaced { size = max replaced.size (at + length bytes) } ≡ put block old at bytes
  unfolding put
  put-by middle replaced pages made second items =
      let f = page_after block old at bytes in
      let written : with_pages_from (all_present old.pages ps) first_page (map f ps) ≡ with_pages old.pages f (touched block at (length bytes)) =
      sym (with_pages-range (all_present old.pages ps) f first_page page_count)
      ∙ written-present old.pages f ps
      ∙ ap (with_pages old.pages f) (sym (touched-some block at (length bytes) long)) in
      let whole : replaced ≡ record old { pages = with_pages old.pages f (touched block at (length bytes)) } =
      second
      ∙ (λ i. record (made i) { pages = with_pages_from (made i).pages first_page (items i) })
      ∙ ap (λ (m : Pages). record old { pages = m }) written in
      ap (λ (n : Node). record n { size = max n.size (at + length bytes) }) whole
      ∙ ap (λ t. record old { pages = with_pages old.pages f (touched block at (length bytes)); size = if t then old.size else max old.size (at + length bytes) }) (sym (ne_eqb (length bytes) 0 long))

  pub blocks-by : (per : ℕ) (middle : Node) (blocks : Blocks) → middle ≡ record old { pages = all_present old.pages ps } → blocks ≡ block_set per (fmap.keys middle.pages)
      → blocks ≡ block_set per (fmap.keys (put block old at bytes).pages)
  unfolding put
  blocks-by per middle blocks made mine =
      mine
      ∙ ap (λ (n : Node). block_set per (fmap.keys n.pages)) made
      ∙ blocks-written per old.pages (page_after block old at bytes) ps
      ∙ ap (λ l. block_set per (fmap.keys (with_pages old.pages (page_after block old at bytes) l))) (sym (touched-some block at (length bytes) long))

-- no bytes put nothing
pub put-none : (block at : ℕ) (node : Node) (bytes : List ℕ) → length bytes ≡ 0 → node ≡ put block node at bytes
unfolding put
put-none block at node bytes none =
    ap (λ t. record node {
      pages = with_pages node.pages (page_after block node at bytes) (if t then [] else range_with_len (at / block) ((at + length bytes - 1) / block - at / block + 1));
      size = if t then node.size else max node.size (at + length bytes);
    }) (sym (eq-eqb (length bytes) 0 none))

-- ---- lists that a loop goes over

-- the blocks that are missing, with those of one page more
pub missing-more : (s : Blocks) (per first k : ℕ) → missing s per (range_with_len first (k + 1)) ≡ missing s per (range_with_len first k) ++ filter (λ b. not (set.contains s b)) (blocks_at per (first + k))
unfolding missing
missing-more s per first k =
    let f = blocks_at per in
    let r : List ℕ = range_with_len first k in
    ap (λ l. filter (λ b. not (set.contains s b)) (flat_map f l)) (range-snoc first k)
    ∙ ap (filter (λ b. not (set.contains s b))) (flat_map-append f r ((first + k) ∷ []) ∙ ap (λ l. flat_map f r ++ l) (append-nil (f (first + k))))
    ∙ filter-append (λ b. not (set.contains s b)) (flat_map f r) (f (first + k))

-- pages made present, one after another
pub present-more : (pages : Pages) (first k : ℕ) → all_present pages (range_with_len first (k + 1)) ≡ present (all_present pages (range_with_len first k)) (first + k)
present-more pages first k = ap (all_present pages) (range-snoc first k) ∙ all_present-snoc pages (range_with_len first k) (first + k)
