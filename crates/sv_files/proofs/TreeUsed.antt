-- The blocks of the tree that stands for a node are those that the node uses, in number.
use Rattle.std.proofs.Common.{◌≡◌, ◌≢◌, ◌≤◌, ◌<◌, ◌+◌, ◌-◌, ◌*◌, ◌==◌, ◌++◌, ◌||◌, ℕ, zero, suc, Bool, true, false, not, List, [], ◌∷◌}
use Rattle.std.proofs.Common.{Option, inl, inr, nat_lt}
use Rattle.std.proofs.Common.{Some, None, is_some, map, take, filter, flat_map, cond, length, slice_index, get_or, arith, ap, refl, sym}
use Rattle.std.proofs.Common.{subst, ◌∙◌}
use Rattle.std.specs.List.{list_any, range_with_len}
use Rattle.std.specs.Cmp.{Equal-is, nat_cmp_total, tied_itself}
use Rattle.std.specs.Ordering.{eq_by_cmp, is_eq, nat_cmp}
use Rattle.std.specs.FinMap as fmap
use Rattle.std.specs.FinMap.{nat_cmp-IsAntisymmetric}
use Rattle.std.specs.FinSet as set
use Rattle.std.proofs.lemmas.Bool.{cases_eq, cases_lt, eq-eqb, false≢true, lt-ltb, ne_eqb}
use Rattle.std.proofs.lemmas.Grind.{flat_map-append}
use Rattle.std.proofs.lemmas.List.{append-nil, append_assoc, length-append}
use Rattle.sv_form.specs.declared.geometry.Geometry.{Geometry}
use Rattle.sv_form.specs.declared.inode.InodeBody.{InodeBody}
use Rattle.sv_form.specs.declared.page_path.PagePath.{PagePath}
use Rattle.sv_form.specs.declared.page_path.PagePath.TheVariants.{Direct, Single, Double, Triple}
use Rattle.sv_form.specs.AddressTree as tree
use Rattle.sv_form.specs.AddressTree.{Numbers, block_at, blocks_below, child, down}
use Rattle.sv_form.specs.Geometry.{IsGeometry}
use Rattle.sv_form.specs.Node.{Node, block_set, blocks_at, used}
use Rattle.sv_form.specs.PagePath.{IsPath, IsSpot, block_numbers, height_of, page_limit, page_of, places_of, slot_of, slots}
use Rattle.sv_form.specs.Pair.{pair_cmp, pair_cmp_total, pair_cmp-IsAntisymmetric}
use Rattle.sv_form.proofs.PathBlocks.{above-page_of, path_blocks}
use Rattle.sv_form.proofs.ReaderLemmas.{child-some, down-hole}
use Rattle.sv_plain.specs.Blocks.{with_blocks}
use Rattle.sv_plain.proofs.Used.{any-cons, contains-with_blocks}
use Rattle.sv_store.specs.Held.{Held, Origin}
use Rattle.sv_super.specs.Count.{one_if}
use Rattle.sv_bmap.specs.Order.{blocks_of}
use Rattle.sv_bmap.specs.Tree.{number_in, page_block}
use Rattle.sv_bmap.proofs.Hang.{down-snoc, front-spot}
use Rattle.sv_bmap.proofs.PagePaths.{has_path}
use Rattle.sv_bmap.proofs.PageSpots.{path-spot}
use Rattle.sv_bmap.proofs.Paths.{page-block-is}
use Rattle.sv_inode.specs.StandsFor.{IsPageOf, StandsFor}
use Rattle.sv_files.proofs.Hits.{any-hits, hits, hits-any}
use Rattle.sv_files.proofs.NodePages.{named}
use Rattle.sv_files.proofs.SpotPaths.{path-low, spot_path}
use Rattle.sv_files.proofs.TreeCodes.{Block, code-is, code-itself, code-same, code_at, coded, codes, few-codes, hit-spot, is_code, kid}
use Rattle.sv_files.proofs.TreeCodes.{spot-hit, top_of}

-- ---- one of a list

or_right : (t u : Bool) → u ≡ true → (t || u) ≡ true
or_right true u e = refl
or_right false u e = e

or_left : (t u : Bool) → t ≡ true → (t || u) ≡ true
or_left true u e = refl
or_left false u e = absurd (false≢true e)

module _ (n : ℕ) (q : Block) where
  -- the block is one of those of a page that is among these
  pub record IsAmong (ks : List ℕ) : Type 0 where
    pub page : ℕ
    pub among : list_any (eq_by_cmp nat_cmp page) ks ≡ true
    pub has : list_any (is_code q) (blocks_at n page) ≡ true

  among_step : (k : ℕ) (ks : List ℕ) (t : Bool) → list_any (is_code q) (blocks_at n k) ≡ t
      → (list_any (is_code q) (flat_map (blocks_at n) ks) ≡ true → IsAmong ks)
      → (t || list_any (is_code q) (flat_map (blocks_at n) ks)) ≡ true → IsAmong (k ∷ ks)
  among_step k ks true is rest e =
      record {
        page = k;
        among = or_left (eq_by_cmp nat_cmp k k) (list_any (eq_by_cmp nat_cmp k) ks)
            (ap is_eq (tied_itself nat_cmp_total k));
        has = is;
      }
  among_step k ks false is rest e =
      let a = rest e in
      record { page = a.page; among = or_right (eq_by_cmp nat_cmp a.page k) (list_any (eq_by_cmp nat_cmp a.page) ks) a.among; has = a.has }

  pub among-any : (ks : List ℕ) → list_any (is_code q) (flat_map (blocks_at n) ks) ≡ true → IsAmong ks
  among-any [] e = absurd (false≢true e)
  among-any (k ∷ ks) e =
      among_step k ks (list_any (is_code q) (blocks_at n k)) refl (among-any ks) (sym (any-cons (blocks_at n) (is_code q) k ks) ∙ e)

  any_step : (k page : ℕ) (ks : List ℕ) (t : Bool) → eq_by_cmp nat_cmp page k ≡ t → list_any (is_code q) (blocks_at n page) ≡ true
      → (list_any (eq_by_cmp nat_cmp page) ks ≡ true → list_any (is_code q) (flat_map (blocks_at n) ks) ≡ true)
      → (t || list_any (eq_by_cmp nat_cmp page) ks) ≡ true
      → (list_any (is_code q) (blocks_at n k) || list_any (is_code q) (flat_map (blocks_at n) ks)) ≡ true
  any_step k page ks true is has rest e =
      let same : page ≡ k = nat_cmp-IsAntisymmetric page k ((Equal-is (nat_cmp page k)).0 is) in
      or_left (list_any (is_code q) (blocks_at n k)) (list_any (is_code q) (flat_map (blocks_at n) ks))
      (ap (λ (x : ℕ). list_any (is_code q) (blocks_at n x)) (sym same) ∙ has)
  any_step k page ks false is has rest e =
      or_right (list_any (is_code q) (blocks_at n k)) (list_any (is_code q) (flat_map (blocks_at n) ks)) (rest e)

  pub any-among : (page : ℕ) (ks : List ℕ) → list_any (is_code q) (blocks_at n page) ≡ true
      → list_any (eq_by_cmp nat_cmp page) ks ≡ true → list_any (is_code q) (flat_map (blocks_at n) ks) ≡ true
  any-among page [] has e = absurd (false≢true e)
  any-among page (k ∷ ks) has e =
      any-cons (blocks_at n) (is_code q) k ks ∙ any_step k page ks (eq_by_cmp nat_cmp page k) refl has (any-among page ks has) e

-- ---- the blocks of a page are those on its way

abbrev pub downto : ℕ → List ℕ
downto zero = 0 ∷ []
downto (suc k) = suc k ∷ downto k

module _ (f : ℕ → Block) (q : Block) where
  pub record IsFront (all : ℕ) : Type 0 where
    pub m : ℕ
    pub low : m ≤ all
    pub is : q ≡ f m

  front_step : (k : ℕ) (t : Bool) → is_code q (f (suc k)) ≡ t → (list_any (is_code q) (map f (downto k)) ≡ true → IsFront k)
      → (t || list_any (is_code q) (map f (downto k))) ≡ true → IsFront (suc k)
  front_step k true is rest e = record { m = suc k; low = omega arith; is = code-is q (f (suc k)) is }
  front_step k false is rest e = let r = rest e in record { m = r.m; low = (let low = r.low in omega (arith, low)); is = r.is }

  front_end : (t : Bool) → is_code q (f 0) ≡ t → (t || false) ≡ true → IsFront 0
  front_end true is e = record { m = 0; low = omega arith; is = code-is q (f 0) is }
  front_end false is e = absurd (false≢true e)

  pub any-front : (k : ℕ) → list_any (is_code q) (map f (downto k)) ≡ true → IsFront k
  any-front zero e = front_end (is_code q (f 0)) refl e
  any-front (suc k) e = front_step k (is_code q (f (suc k))) refl (any-front k) e

  pub front-any : (m k : ℕ) → m ≤ k → q ≡ f m → list_any (is_code q) (map f (downto k)) ≡ true
  front-any m zero low e =
      let none : m ≡ 0 = omega (arith, low) in
      or_left (is_code q (f 0)) false (code-same q (f 0) (e ∙ ap f none))
  front-any m (suc k) low e =
      elim (cases_eq m (suc k)) as (λ _. list_any (is_code q) (map f (downto (suc k))) ≡ true) [
        | inl same ↦ or_left (is_code q (f (suc k))) (list_any (is_code q) (map f (downto k))) (code-same q (f (suc k)) (e ∙ ap f same))
        | inr ne ↦ or_right (is_code q (f (suc k))) (list_any (is_code q) (map f (downto k))) (front-any m k (omega (arith, low, ne)) e)
      ]

-- the block that so many places on a path lead to
abbrev pub front_of : ℕ → PagePath → ℕ → Block
front_of n p m = code_at n (slot_of p) (take m (places_of p))

pub double_page : (n i j : ℕ) → 10 + n + (i * n + j) ≡ 10 + ((1 + (0 * n + i)) * n + j)
double_page n i j = grind arith

pub triple_page : (n i j k : ℕ) → 10 + n + n * n + ((i * n + j) * n + k) ≡ 10 + ((1 + ((1 + (0 * n + i)) * n + j)) * n + k)
triple_page n i j k = grind arith

triple_row : (n i j : ℕ) → 1 + n + (i * n + j) ≡ 1 + ((1 + (0 * n + i)) * n + j)
triple_row n i j = grind arith

pub path-fronts : (g : Geometry) (p : PagePath) → IsPath g p
    → (0, page_of g p) ∷ path_blocks (block_numbers g) p ≡ map (front_of (block_numbers g) p) (downto (length (places_of p)))
path-fronts g (Direct i) is =
    let flat : 0 ≡ height_of i - 0 = omega (arith, is) in
    let top : cond (nat_lt i 10) i 0 ≡ i = ap (λ (t : Bool). cond t i 0) (lt-ltb i 10 is) in
    ap (λ (x : ℕ). (x, i) ∷ []) flat ∙ ap (λ (x : ℕ). (height_of i - 0, x) ∷ []) (sym top)
path-fronts g (Single i) is =
    let n : ℕ = block_numbers g in
    let page : 10 + i ≡ 10 + (0 * n + i) = omega arith in
    ap (λ (x : ℕ). (0, x) ∷ (1, 0) ∷ []) page
path-fronts g (Double i j) is =
    let n : ℕ = block_numbers g in
    let row : 1 + i ≡ 1 + (0 * n + i) = omega arith in
    ap (λ (x : ℕ). (0, x) ∷ (1, 1 + i) ∷ (2, 0) ∷ []) (double_page n i j)
    ∙ ap (λ (x : ℕ). (0, 10 + ((1 + (0 * n + i)) * n + j)) ∷ (1, x) ∷ (2, 0) ∷ []) row
path-fronts g (Triple i j k) is =
    let n : ℕ = block_numbers g in
    let row : 1 + i ≡ 1 + (0 * n + i) = omega arith in
    ap (λ (x : ℕ). (0, x) ∷ (1, 1 + n + (i * n + j)) ∷ (2, 1 + i) ∷ (3, 0) ∷ []) (triple_page n i j k)
    ∙ ap (λ (x : ℕ). (0, 10 + ((1 + ((1 + (0 * n + i)) * n + j)) * n + k)) ∷ (1, x) ∷ (2, 1 + i) ∷ (3, 0) ∷ []) (triple_row n i j)
    ∙ ap (λ (x : ℕ). (0, 10 + ((1 + ((1 + (0 * n + i)) * n + j)) * n + k)) ∷ (1, 1 + ((1 + (0 * n + i)) * n + j)) ∷ (2, x) ∷ (3, 0)
    ∷ []) row

pub blocks-fronts : (g : Geometry) (p : PagePath) → IsPath g p
    → blocks_at (block_numbers g) (page_of g p) ≡ map (front_of (block_numbers g) p) (downto (length (places_of p)))
blocks-fronts g p is = ap (λ (l : List Block). (0, page_of g p) ∷ l) (above-page_of g p is) ∙ path-fronts g p is

-- ---- how many there are

-- a set with blocks that it lacks, each once, has so many more
pub fresh : (s : set.FinSet pair_cmp) (xs : List Block) → ((q : Block) → 0 < hits (is_code q) xs → set.contains s q ≡ false)
    → ((q : Block) → hits (is_code q) xs ≤ 1) → set.len (with_blocks s xs) ≡ set.len s + length xs
fresh s [] new once = omega arith
fresh s (x ∷ xs) new once =
    let here : one_if (is_code x x) ≡ 1 = ap one_if (code-itself x) in
    let absent : set.contains s x ≡ false = new x (omega (arith, here)) in
    let one : set.len (set.insert s x) ≡ set.len s + 1 =
    set.len-insert pair_cmp_total s x ∙ ap (λ (t : Bool). cond t (set.len s) (set.len s + 1)) absent in
    let rest = fresh (set.insert s x) xs
    (λ q hit. set.contains-insert pair_cmp_total s x q ∙ by_test q hit (is_code q x) refl)
    (λ q. (let all = once q in omega (arith, all))) in
    omega (arith, one, rest)
  where
    by_test : (q : Block) → 0 < hits (is_code q) xs → (t : Bool) → is_code q x ≡ t → (is_code q x || set.contains s q) ≡ false
    by_test q hit true is =
        (let one : one_if (is_code q x) ≡ 1 = ap one_if is in let all = once q in absurd (omega (arith, one, all, hit)))
    by_test q hit false is = ap (λ (t : Bool). t || set.contains s q) is ∙ new q (omega (arith, hit))

length_step : {X Y : Type 0} (f : ℕ → List X) (g : ℕ → List Y) (a : ℕ) (F G : List ℕ) (u : Bool) → (u ≡ true → length (f a) ≡ length (g a))
    → (u ≡ false → length (g a) ≡ 0) → length (flat_map f F) ≡ length (flat_map g G)
    → length (flat_map f (cond u (a ∷ F) F)) ≡ length (flat_map g (a ∷ G))
length_step f g a F G true here none rest =
    let one = here refl in omega (arith, one, rest, length-append (f a) (flat_map f F), length-append (g a) (flat_map g G))
length_step f g a F G false here none rest = let one = none refl in omega (arith, one, rest, length-append (g a) (flat_map g G))

length-joined : {X Y : Type 0} (f : ℕ → List X) (g : ℕ → List Y) (s : ℕ → Bool) → ((k : ℕ) → s k ≡ true → length (f k) ≡ length (g k))
    → ((k : ℕ) → s k ≡ false → length (g k) ≡ 0) → (m a : ℕ)
    → length (flat_map f (filter s (range_with_len a m))) ≡ length (flat_map g (range_with_len a m))
length-joined f g s here none zero a = refl
length-joined f g s here none (suc m) a =
    length_step f g a (filter s (range_with_len (a + 1) m)) (range_with_len (a + 1) m) (s a) (here a) (none a)
    (length-joined f g s here none m (a + 1))

joined_three : (a b c : List ℕ) → length (a ++ (b ++ (c ++ []))) ≡ length a + (length b + length c)
joined_three a b c =
    omega (arith, length-append a (b ++ (c ++ [])), length-append b (c ++ []), length-append c [])

joined_four : (a b c d : List ℕ) → length (a ++ b ++ c ++ d) ≡ length a + (length b + (length c + length d))
joined_four a b c d = grind (arith, length-append)

module _ (n : ℕ) (numbers : Numbers) where
  hole_is : (b : ℕ) → not (b == 0) ≡ false → b ≡ 0
  hole_is b is =
      elim (cases_eq b 0) as (λ _. b ≡ 0) [
        | inl e ↦ e
        | inr ne ↦ absurd (false≢true (sym is ∙ ap not (ne_eqb b 0 ne)))
      ]

  none-below : (h b : ℕ) → b ≡ 0 → length (blocks_below n numbers h b) ≡ 0
  unfolding blocks_below
  none-below zero b e = ap (λ (t : Bool). length (cond t [] (b ∷ []))) (eq-eqb b 0 e)
  none-below (suc h) b e =
      ap (λ (t : Bool). length (cond t [] (flat_map (λ k. blocks_below n numbers h (child numbers b k)) (range_with_len 0 n) ++ b ∷ [])))
      (eq-eqb b 0 e)

  pub as-many : (h i b : ℕ) → b ≢ 0 → length (coded n numbers h i b) ≡ length (blocks_below n numbers h b)
  unfolding coded blocks_below
  as-many zero i b some = sym (ap (λ (t : Bool). length (cond t [] (b ∷ []))) (ne_eqb b 0 some))
  as-many (suc h) i b some =
      let g : ℕ → List ℕ = λ k. blocks_below n numbers h (child numbers b k) in
      let all : length (flat_map g (range_with_len 0 n) ++ b ∷ []) ≡ length (flat_map g (range_with_len 0 n)) + 1 =
      length-append (flat_map g (range_with_len 0 n)) (b ∷ []) in
      let same : length (flat_map (λ k. coded n numbers h (kid n h i k) (numbers b k))
      (filter (λ k. not (numbers b k == 0)) (range_with_len 0 n)))
      ≡ length (flat_map g (range_with_len 0 n)) =
      length-joined (λ k. coded n numbers h (kid n h i k) (numbers b k)) g (λ k. not (numbers b k == 0))
      (λ k is. as-many h (kid n h i k) (numbers b k) (named (numbers b k) is)
      ∙ ap (λ (x : ℕ). length (blocks_below n numbers h x)) (sym (child-some numbers b k some)))
      (λ k is. none-below h (child numbers b k) (child-some numbers b k some ∙ hole_is (numbers b k) is)) n 0 in
      let there : length (cond (b == 0) [] (flat_map g (range_with_len 0 n) ++ b ∷ []))
      ≡ length (flat_map g (range_with_len 0 n) ++ b ∷ []) =
      ap (λ (t : Bool). length (cond t [] (flat_map g (range_with_len 0 n) ++ b ∷ []))) (ne_eqb b 0 some) in
      omega (arith, all, same, there)

  module _ (address : ℕ → ℕ) where
    abbrev below : ℕ → List ℕ
    below slot = blocks_below n numbers (height_of slot) (address slot)

    all-below : length (codes n numbers address) ≡ length (flat_map below (range_with_len 0 slots))
    all-below =
        length-joined (λ k. coded n numbers (height_of k) (top_of k) (address k)) below (λ k. not (address k == 0))
        (λ k is. as-many (height_of k) (top_of k) (address k) (named (address k) is))
        (λ k is. none-below (height_of k) (address k) (hole_is (address k) is)) slots 0

    pub all-blocks : length (codes n numbers address) ≡ length (tree.blocks_of n numbers address)
    all-blocks =
        let first : List ℕ = flat_map below (range_with_len 0 10) in
        let cut : flat_map below (range_with_len 0 slots) ≡ first ++ flat_map below (range_with_len 10 3) =
        flat_map-append below (range_with_len 0 10) (range_with_len 10 3) in
        let direct : flat_map (λ slot. blocks_below n numbers 0 (address slot)) (range_with_len 0 10) ≡ first = refl in
        let size : length (flat_map below (range_with_len 0 slots)) ≡ length first + length (flat_map below (range_with_len 10 3)) =
        ap (λ (l : List ℕ). length l) cut ∙ length-append first (flat_map below (range_with_len 10 3)) in
        let three : length (flat_map below (range_with_len 10 3)) ≡ length (below 10) + (length (below 11) + length (below 12)) =
        joined_three (below 10) (below 11) (below 12) in
        all-below ∙ size ∙ ap (λ (k : ℕ). length first + k) three ∙ sym (joined_four first (below 10) (below 11) (below 12))
        ∙ ap (λ (l : List ℕ). length (l ++ below 10 ++ below 11 ++ below 12)) (sym direct)

-- ---- the tree of a node

abbrev IsFull : Geometry → ℕ → List ℕ → Type 0
IsFull g slot ks = IsSpot (block_numbers g) slot ks × (length ks ≡ height_of slot)

prefix-there : (numbers : Numbers) (b : ℕ) (ks : List ℕ) (m : ℕ) → down numbers b ks ≢ 0 → down numbers b (take m ks) ≢ 0
prefix-there numbers b [] zero there = there
prefix-there numbers b [] (suc m) there = there
prefix-there numbers b (k ∷ ks) zero there = λ e. there (ap (λ (x : ℕ). down numbers x (k ∷ ks)) e ∙ down-hole numbers (k ∷ ks))
prefix-there numbers b (k ∷ ks) (suc m) there = prefix-there numbers (child numbers b k) ks m there

take_front : (ks more : List ℕ) → take (length ks) (ks ++ more) ≡ ks
take_front [] more = refl
take_front (k ∷ ks) more = ap (λ (l : List ℕ). k ∷ l) (take_front ks more)

places_snoc : (n k : ℕ) (ks : List ℕ) → k < n → ((i : ℕ) → i < length ks → get_or ks i 0 < n) → (i : ℕ) → i < length (ks ++ k ∷ [])
    → get_or (ks ++ k ∷ []) i 0 < n
places_snoc n k [] low each zero below = low
places_snoc n k [] low each (suc i) below = absurd (omega (arith, below))
places_snoc n k (j ∷ ks) low each zero below = each 0 (omega arith)
places_snoc n k (j ∷ ks) low each (suc i) below =
    places_snoc n k ks low (λ m less. each (suc m) (omega (arith, less))) i (omega (arith, below))

module _ (o : Origin) (h : Held) (body : InodeBody) (node : Node) (sizes : IsGeometry o.sizes) (stands : StandsFor o h body node) where
  abbrev g : Geometry
  g = o.sizes

  abbrev n : ℕ
  n = block_numbers o.sizes

  abbrev all_codes : List Block
  all_codes = codes n (number_in h) (slice_index body.addresses)

  abbrev at : ℕ → List ℕ → ℕ
  at slot ks = block_at (number_in h) (slice_index body.addresses) slot ks

  -- below each block there is a page
  record HasPageBelow (slot : ℕ) (ks : List ℕ) : Type 0 where
    js : List ℕ
    more : List ℕ
    spot : IsSpot n slot js
    whole : length js ≡ height_of slot
    front : js ≡ ks ++ more
    there : at slot js ≢ 0

  page-below : (d slot : ℕ) (ks : List ℕ) → length ks + d ≡ height_of slot → IsSpot n slot ks → at slot ks ≢ 0 → HasPageBelow slot ks
  page-below zero slot ks size spot there =
      record { js = ks; more = []; spot = spot; whole = omega (arith, size); front = sym (append-nil ks); there = there }
  page-below (suc d) slot ks size spot there =
      let some = stands.no_empty.some slot ks spot (omega (arith, size)) there in
      let k : ℕ = some.0 in
      let longer : length (ks ++ k ∷ []) ≡ length ks + 1 = length-append ks (k ∷ []) in
      let on : at slot (ks ++ k ∷ []) ≢ 0 = λ e. some.1.1 (sym (down-snoc h (slice_index body.addresses slot) ks k) ∙ e) in
      let next : IsSpot n slot (ks ++ k ∷ []) =
      record { among = spot.among; deep = omega (arith, longer, size); places = places_snoc n k ks some.1.0 spot.places } in
      let rest = page-below d slot (ks ++ k ∷ []) (omega (arith, longer, size)) next on in
      record {
        js = rest.js;
        more = k ∷ rest.more;
        spot = rest.spot;
        whole = rest.whole;
        front = rest.front ∙ append_assoc ks (k ∷ []) rest.more;
        there = rest.there;
      }

  some-page : (page : ℕ) (found : Option (List ℕ)) → fmap.get node.pages page ≡ found
      → IsPageOf g h (page_block g h body.addresses page) found
      → page_block g h body.addresses page ≢ 0 → is_some (fmap.get node.pages page) ≡ true
  some-page page None is at some = absurd (some at)
  some-page page (Some bytes) is at some = ap is_some is

  page-in : (page : ℕ) → page < page_limit n → page_block g h body.addresses page ≢ 0
      → list_any (eq_by_cmp nat_cmp page) (fmap.keys node.pages) ≡ true
  page-in page low some =
      sym (fmap.contains_key-keys node.pages page) ∙ some-page page (fmap.get node.pages page) refl (stands.pages.within page low) some

  hit-used : (q : Block) → 0 < hits (is_code q) all_codes → list_any (is_code q) (flat_map (blocks_at n) (fmap.keys node.pages)) ≡ true
  hit-used q hit =
      let s = hit-spot n (number_in h) (slice_index body.addresses) q hit in
      let deep = s.spot.deep in
      let b = page-below (height_of s.slot - length s.ks) s.slot s.ks (omega (arith, deep)) s.spot s.there in
      let p = spot_path g s.slot b.js b.spot.among b.whole b.spot.places in
      let low : page_of g p.path < page_limit n = path-low g p.path p.is in
      let leads : page_block g h body.addresses (page_of g p.path) ≡ at s.slot b.js =
      page-block-is g g h body.addresses p.path (page_of g p.path) refl p.is refl ∙ ap (λ (x : ℕ). at x (places_of p.path)) p.slot_is
      ∙ ap (at s.slot) p.places_is in
      let inside = page-in (page_of g p.path) low (λ e. b.there (sym leads ∙ e)) in
      let front : take (length s.ks) (places_of p.path) ≡ s.ks =
      ap (take (length s.ks)) (p.places_is ∙ b.front) ∙ take_front s.ks b.more in
      let is : q ≡ front_of n p.path (length s.ks) =
      s.is ∙ ap (code_at n s.slot) (sym front) ∙ ap (λ (x : ℕ). code_at n x (take (length s.ks) (places_of p.path))) (sym p.slot_is) in
      let size : length (places_of p.path) ≡ height_of s.slot = ap (λ (l : List ℕ). length l) p.places_is ∙ b.whole in
      any-among n q (page_of g p.path) (fmap.keys node.pages)
      (ap (list_any (is_code q)) (blocks-fronts g p.path p.is)
      ∙ front-any (front_of n p.path) q (length s.ks) (length (places_of p.path)) (omega (arith, size, deep)) is) inside

  page-low : (page : ℕ) → fmap.contains_key node.pages page ≡ true → page < page_limit n
  page-low page there =
      elim (cases_lt page (page_limit n)) as (λ _. page < page_limit n) [
        | inl low ↦ low
        | inr past ↦ absurd (false≢true (sym (ap is_some (stands.pages.past page past)) ∙ there))
      ]

  page-there : (page : ℕ) (found : Option (List ℕ)) → fmap.get node.pages page ≡ found
      → IsPageOf g h (page_block g h body.addresses page) found
      → fmap.contains_key node.pages page ≡ true → page_block g h body.addresses page ≢ 0
  page-there page None is at there = absurd (false≢true (sym (ap is_some is) ∙ there))
  page-there page (Some bytes) is at there = at.some

  used-hit : (q : Block) → list_any (is_code q) (flat_map (blocks_at n) (fmap.keys node.pages)) ≡ true → 0 < hits (is_code q) all_codes
  used-hit q any =
      let a = among-any n q (fmap.keys node.pages) any in
      let there : fmap.contains_key node.pages a.page ≡ true = fmap.contains_key-keys node.pages a.page ∙ a.among in
      let low = page-low a.page there in
      let bytes = sizes.block_size in
      let path = has_path g a.page (omega (arith, bytes)) low in
      let p : PagePath = path.0 in
      let some : at (slot_of p) (places_of p) ≢ 0 =
      λ e. page-there a.page (fmap.get node.pages a.page) refl (stands.pages.within a.page low) there
      (page-block-is g g h body.addresses p a.page refl path.1.0 path.1.1 ∙ e) in
      let f = any-front (front_of n p) q (length (places_of p))
      (sym (ap (list_any (is_code q)) (ap (blocks_at n) (sym path.1.1) ∙ blocks-fronts g p path.1.0)) ∙ a.has) in
      let hit = spot-hit n (number_in h) (slice_index body.addresses) (slot_of p) (take f.m (places_of p))
      (front-spot (places_of p) f.m f.low (path-spot g p path.1.0))
      (prefix-there (number_in h) (slice_index body.addresses (slot_of p)) (places_of p) f.m some) in
      subst (λ (x : Block). 0 < hits (is_code x) all_codes) (sym f.is) hit

  same_bool : (s t : Bool) → (s ≡ true → t ≡ true) → (t ≡ true → s ≡ true) → s ≡ t
  same_bool true true to from = refl
  same_bool false false to from = refl
  same_bool true false to from = sym (to refl)
  same_bool false true to from = from refl

  abbrev pub node_blocks : set.FinSet pair_cmp
  node_blocks = block_set n (fmap.keys node.pages)

  -- a block is one of the node's exactly where it stands in the tree
  pub contains-code : (q : Block) → set.contains node_blocks q ≡ list_any (is_code q) all_codes
  unfolding block_set
  contains-code q =
      set.contains-from_list pair_cmp_total (flat_map (blocks_at n) (fmap.keys node.pages)) q
      ∙ same_bool (list_any (is_code q) (flat_map (blocks_at n) (fmap.keys node.pages))) (list_any (is_code q) all_codes)
      (λ e. hits-any (is_code q) all_codes (used-hit q e)) (λ e. hit-used q (any-hits (is_code q) all_codes e))

  or_none : (t : Bool) → (t || false) ≡ t
  or_none true = refl
  or_none false = refl

  pub codes-set : with_blocks set.empty all_codes ≡ node_blocks
  codes-set =
      set.same_set pair_cmp_total pair_cmp-IsAntisymmetric (with_blocks set.empty all_codes) node_blocks
      (λ q. contains-with_blocks set.empty all_codes q
      ∙ ap (λ (t : Bool). list_any (is_code q) all_codes || t) (set.contains-empty pair_cmp q) ∙ or_none (list_any (is_code q) all_codes)
      ∙ sym (contains-code q))

  pub blocks-used : length (blocks_of o.sizes h body.addresses) ≡ used o.sizes.block_size node
  unfolding used
  blocks-used =
      let none : set.len (set.empty {R = pair_cmp}) ≡ 0 = set.len-empty pair_cmp in
      let count : set.len (with_blocks set.empty all_codes) ≡ set.len (set.empty {R = pair_cmp}) + length all_codes =
      fresh set.empty all_codes (λ q hit. set.contains-empty pair_cmp q) (few-codes n (number_in h) (slice_index body.addresses)) in
      let same : set.len (with_blocks set.empty all_codes) ≡ set.len node_blocks = ap set.len codes-set in
      let tree_is = all-blocks n (number_in h) (slice_index body.addresses) in
      omega (arith, none, count, same, tree_is)
