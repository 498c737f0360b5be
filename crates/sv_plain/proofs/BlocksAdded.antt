-- How many blocks more there are with those of pages, counted page by page. A page counts those of its blocks that are
-- neither there before nor blocks of the page before it in the range.
use Rattle.std.proofs.Common.{◌≡◌, ◌≤◌, ℕ, zero, suc, ◌+◌, ◌-◌, ◌*◌, ◌/◌, ◌==◌, inl, inr, Bool, true, false, cond, not, ◌&&◌, ◌||◌, List, [], ◌∷◌, ◌++◌, Some, option_map, unwrap_or, nat_lt, if◌then◌else◌, sym, refl, ap, ◌∙◌, arith}
use Rattle.std.proofs.lemmas.Bool.{false≢true, false_from_ne_true, ltb-false, le-ltb, eq-eqb, ne_eqb, cases_eq}
use Rattle.std.proofs.lemmas.Nat.{le-div}
use Rattle.std.proofs.lemmas.Grind.{flat_map-append}
use Rattle.std.proofs.lemmas.List.{append-nil}
use Rattle.std.proofs.lemmas.List.Folds.{list_any-append}
use Rattle.std.proofs.lemmas.List.Sums.{sum_by-cons}
use Rattle.std.proofs.Math.Nat.{div-mul-le_self}
use Rattle.std.specs.List.{list_any, flat_map, range_with_len, count_by}
use Rattle.std.specs.declared.cmp.Ordering.{Ordering}
use Rattle.std.specs.declared.cmp.Ordering.TheVariants.{Less, Equal, Greater}
use Rattle.std.specs.Ordering.{nat_cmp, eq_by_cmp, is_eq, ordering_then}
use Rattle.std.specs.Cmp.{Equal-is}
use Rattle.std.specs.FinMap as map
use Rattle.std.specs.FinMap.{nat_cmp-IsAntisymmetric}
use Rattle.std.specs.FinSet as set
use Rattle.sv_form.specs.Pair.{pair_cmp, pair_cmp_total, pair_cmp-IsAntisymmetric}
use Rattle.sv_form.specs.Node.{Node, blocks_at, block_set, numbers_per}
use Rattle.sv_plain.specs.Blocks.{with_blocks}
use Rattle.sv_plain.specs.Needs.{blocks_added}
use Rattle.sv_plain.specs.Missing.{node_blocks, is_block, is_new, added}
use Rattle.sv_plain.specs.Fs.{Fs}
use Rattle.sv_plain.proofs.Counts.{same_key}
use Rattle.sv_plain.proofs.Used.{any-cons, contains-with_blocks, len-with_blocks}

abbrev pub Blocks : Type 0
Blocks = set.FinSet pair_cmp

abbrev Block : Type 0
Block = ℕ × ℕ

-- ---- a statement of each block of a list

abbrev Each : (Block → Type 0) → List Block → Type 0
Each P [] = Unit {0}
Each P (b ∷ bs) = P b × Each P bs

count-cons : (f : Block → Bool) (b : Block) (bs : List Block) → count_by f (b ∷ bs) ≡ cond (f b) 1 0 + count_by f bs
count-cons f b bs = sum_by-cons (λ c. cond (f c) 1 0) b bs

pub count-alike : (f g : Block → Bool) (bs : List Block) → Each (λ b. f b ≡ g b) bs → count_by f bs ≡ count_by g bs
count-alike f g [] e = refl
count-alike f g (b ∷ bs) e =
    count-cons f b bs
    ∙ (λ i. cond (e.0 i) 1 0 + count-alike f g bs e.1 i)
    ∙ sym (count-cons g b bs)

-- ---- a set with blocks that differ from each other

abbrev IsApart : Block → List Block → Type 0
IsApart b bs = Each (λ c. eq_by_cmp pair_cmp c b ≡ false) bs

abbrev AreApart : List Block → Type 0
AreApart [] = Unit {0}
AreApart (b ∷ bs) = IsApart b bs × AreApart bs

still_new : (s : Blocks) (b : Block) (bs : List Block) → IsApart b bs → Each (λ c. not (set.contains (set.insert s b) c) ≡ not (set.contains s c)) bs
still_new s b [] e = tt
still_new s b (c ∷ cs) e =
    (ap not (set.contains-insert pair_cmp_total s b c ∙ ap (λ t. t || set.contains s c) e.0), still_new s b cs e.1)

grown : (t : Bool) (n m : ℕ) → cond t n (n + 1) + m ≡ n + (cond (not t) 1 0 + m)
grown true n m = omega arith
grown false n m = omega arith

-- they make it larger by those that it lacks
pub len-apart : (s : Blocks) (bs : List Block) → AreApart bs → set.len (with_blocks s bs) ≡ set.len s + count_by (λ b. not (set.contains s b)) bs
len-apart s [] e = omega arith
len-apart s (b ∷ bs) e =
    len-apart (set.insert s b) bs e.1
    ∙ ap (λ n. set.len (set.insert s b) + n) (count-alike _ _ bs (still_new s b bs e.0))
    ∙ ap (λ n. n + count_by (λ b. not (set.contains s b)) bs) (set.len-insert pair_cmp_total s b)
    ∙ grown (set.contains s b) (set.len s) (count_by (λ b. not (set.contains s b)) bs)
    ∙ ap (λ n. set.len s + n) (sym (count-cons (λ b. not (set.contains s b)) b bs))

-- ---- the blocks of one page

-- a page and what is above it, by the tests that say how far up it goes
abbrev listed : Bool → Bool → Bool → ℕ → ℕ → ℕ → List Block
listed a b c p x y = (0, p) ∷ (if a then [] else (1, x) ∷ (if b then [] else (2, y) ∷ (if c then [] else (3, 0) ∷ [])))

listed-apart : (a b c : Bool) (p x y : ℕ) → AreApart (listed a b c p x y)
listed-apart true b c p x y = (tt, tt)
listed-apart false true c p x y = ((refl, tt), (tt, tt))
listed-apart false false true p x y = ((refl, (refl, tt)), ((refl, tt), (tt, tt)))
listed-apart false false false p x y = ((refl, (refl, (refl, tt))), ((refl, (refl, tt)), ((refl, tt), (tt, tt))))

pub blocks_at-apart : (per page : ℕ) → AreApart (blocks_at per page)
blocks_at-apart per page =
    listed-apart (nat_lt page 10) (nat_lt page (10 + per)) (nat_lt page (10 + per + per * per)) page ((page - 10) / per) ((page - (10 + per)) / (per * per))

or-false : (a : Bool) → (a || false) ≡ a
or-false true = refl
or-false false = refl

-- a block is among those of a page
abbrev pub stands : ℕ → ℕ → Block → Bool
stands per page b = list_any (eq_by_cmp pair_cmp b) (blocks_at per page)

listed-0 : (a b c : Bool) (p x y n : ℕ) → list_any (eq_by_cmp pair_cmp (0, n)) (listed a b c p x y) ≡ eq_by_cmp nat_cmp n p
listed-0 true b c p x y n = or-false (eq_by_cmp nat_cmp n p)
listed-0 false true c p x y n = or-false (eq_by_cmp nat_cmp n p)
listed-0 false false true p x y n = or-false (eq_by_cmp nat_cmp n p)
listed-0 false false false p x y n = or-false (eq_by_cmp nat_cmp n p)

listed-1 : (a b c : Bool) (p x y n : ℕ) → list_any (eq_by_cmp pair_cmp (1, n)) (listed a b c p x y) ≡ (not a && eq_by_cmp nat_cmp n x)
listed-1 true b c p x y n = refl
listed-1 false true c p x y n = or-false (eq_by_cmp nat_cmp n x)
listed-1 false false true p x y n = or-false (eq_by_cmp nat_cmp n x)
listed-1 false false false p x y n = or-false (eq_by_cmp nat_cmp n x)

listed-2 : (a b c : Bool) (p x y n : ℕ) → list_any (eq_by_cmp pair_cmp (2, n)) (listed a b c p x y) ≡ (not a && (not b && eq_by_cmp nat_cmp n y))
listed-2 true b c p x y n = refl
listed-2 false true c p x y n = refl
listed-2 false false true p x y n = or-false (eq_by_cmp nat_cmp n y)
listed-2 false false false p x y n = or-false (eq_by_cmp nat_cmp n y)

listed-3 : (a b c : Bool) (p x y : ℕ) → list_any (eq_by_cmp pair_cmp (3, 0)) (listed a b c p x y) ≡ (not a && (not b && not c))
listed-3 true b c p x y = refl
listed-3 false true c p x y = refl
listed-3 false false true p x y = refl
listed-3 false false false p x y = refl

-- a page is a block of itself alone
pub stands-page : (per page n : ℕ) → stands per page (0, n) ≡ eq_by_cmp nat_cmp n page
stands-page per page n =
    listed-0 (nat_lt page 10) (nat_lt page (10 + per)) (nat_lt page (10 + per + per * per)) page ((page - 10) / per) ((page - (10 + per)) / (per * per)) n

-- ---- a block of two pages is one of those between them

pub same_number : (m n : ℕ) → eq_by_cmp nat_cmp m n ≡ true → m ≡ n
same_number m n e = nat_cmp-IsAntisymmetric m n ((Equal-is (nat_cmp m n)).0 e)

equal : (m n : ℕ) → m ≡ n → eq_by_cmp nat_cmp m n ≡ true
equal m n e = ap (eq_by_cmp nat_cmp m) (sym e) ∙ same_key m

parts : (a b : Bool) → (a && b) ≡ true → (a ≡ true) × (b ≡ true)
parts true b e = (refl, e)
parts false b e = absurd (false≢true e)

parted : (a b : Bool) → a ≡ true → b ≡ true → (a && b) ≡ true
parted true b e f = f
parted false b e f = absurd (false≢true e)

not_less : (a b : ℕ) → not (nat_lt a b) ≡ true → b ≤ a
not_less a b e = by (nat_lt a b) refl e
  where
    by : (t : Bool) → nat_lt a b ≡ t → not t ≡ true → b ≤ a
    by true p q = absurd (false≢true q)
    by false p q = ltb-false a b p

is_less : (a b : ℕ) → b ≤ a → not (nat_lt a b) ≡ true
is_less a b h = ap not (le-ltb a b h)

quotient-between : (n a b c : ℕ) → 1 ≤ n → a ≤ b → b ≤ c → c / n ≡ a / n → c / n ≡ b / n
quotient-between n a b c some h k e =
    let low : a / n ≤ b / n = le-div (a / n) b n some (let l = div-mul-le_self a n in omega (arith, l, h)) in
    let high : b / n ≤ c / n = le-div (b / n) c n some (let l = div-mul-le_self b n in omega (arith, l, k)) in
    omega (arith, low, high, e)

-- block b, which page p has: where page q has it too, so has each page r between
abbrev Stays : ℕ → ℕ → ℕ → ℕ → Block → Type 0
Stays per q r p b = stands per q b ≡ true → stands per r b ≡ true

module _ (per q r p : ℕ) (some : 1 ≤ per) (low : q ≤ r) (high : r ≤ p) where
  stays-0 : Stays per q r p (0, p)
  stays-0 e =
      let same : p ≡ q = same_number p q (sym (stands-page per q p) ∙ e) in
      stands-page per r p ∙ equal p r (omega (arith, same, low, high))

  first_at : (k n : ℕ) → stands per k (1, n) ≡ (not (nat_lt k 10) && eq_by_cmp nat_cmp n ((k - 10) / per))
  first_at k n = listed-1 (nat_lt k 10) (nat_lt k (10 + per)) (nat_lt k (10 + per + per * per)) k ((k - 10) / per) ((k - (10 + per)) / (per * per)) n

  second_at : (k n : ℕ) → stands per k (2, n) ≡ (not (nat_lt k 10) && (not (nat_lt k (10 + per)) && eq_by_cmp nat_cmp n ((k - (10 + per)) / (per * per))))
  second_at k n = listed-2 (nat_lt k 10) (nat_lt k (10 + per)) (nat_lt k (10 + per + per * per)) k ((k - 10) / per) ((k - (10 + per)) / (per * per)) n

  third_at : (k : ℕ) → stands per k (3, 0) ≡ (not (nat_lt k 10) && (not (nat_lt k (10 + per)) && not (nat_lt k (10 + per + per * per))))
  third_at k = listed-3 (nat_lt k 10) (nat_lt k (10 + per)) (nat_lt k (10 + per + per * per)) k ((k - 10) / per) ((k - (10 + per)) / (per * per))

  stays-1 : Stays per q r p (1, (p - 10) / per)
  stays-1 e =
      let h = parts _ _ (sym (first_at q ((p - 10) / per)) ∙ e) in
      let begins = not_less q 10 h.0 in
      let same = same_number ((p - 10) / per) ((q - 10) / per) h.1 in
      first_at r ((p - 10) / per)
      ∙ parted _ _ (is_less r 10 (omega (arith, begins, low)))
      (equal ((p - 10) / per) ((r - 10) / per) (quotient-between per (q - 10) (r - 10) (p - 10) some (omega (arith, low)) (omega (arith, high)) same))

  stays-2 : Stays per q r p (2, (p - (10 + per)) / (per * per))
  stays-2 e =
      let n : ℕ = (p - (10 + per)) / (per * per) in
      let h = parts _ _ (sym (second_at q n) ∙ e) in
      let k = parts _ _ h.1 in
      let begins = not_less q 10 h.0 in
      let more = not_less q (10 + per) k.0 in
      let same = same_number n ((q - (10 + per)) / (per * per)) k.1 in
      let square : 1 ≤ per * per = grind arith in
      second_at r n
      ∙ parted _ _ (is_less r 10 (omega (arith, begins, low)))
      (parted _ _ (is_less r (10 + per) (omega (arith, more, low)))
      (equal n ((r - (10 + per)) / (per * per)) (quotient-between (per * per) (q - (10 + per)) (r - (10 + per)) (p - (10 + per)) square (omega (arith, low)) (omega (arith, high)) same)))

  stays-3 : Stays per q r p (3, 0)
  stays-3 e =
      let h = parts _ _ (sym (third_at q) ∙ e) in
      let k = parts _ _ h.1 in
      let begins = not_less q 10 h.0 in
      let more = not_less q (10 + per) k.0 in
      let most = not_less q (10 + per + per * per) k.1 in
      third_at r
      ∙ parted _ _ (is_less r 10 (omega (arith, begins, low)))
      (parted _ _ (is_less r (10 + per) (omega (arith, more, low))) (is_less r (10 + per + per * per) (omega (arith, most, low))))

-- what holds of four blocks holds of each of the list
each-listed : (P : Block → Type 0) (a b c : Bool) (p x y : ℕ) → P (0, p) → P (1, x) → P (2, y) → P (3, 0) → Each P (listed a b c p x y)
each-listed P true b c p x y s t u v = (s, tt)
each-listed P false true c p x y s t u v = (s, (t, tt))
each-listed P false false true p x y s t u v = (s, (t, (u, tt)))
each-listed P false false false p x y s t u v = (s, (t, (u, (v, tt))))

pub each-block : (P : Block → Type 0) (per page : ℕ) → P (0, page) → P (1, (page - 10) / per) → P (2, (page - (10 + per)) / (per * per)) → P (3, 0) → Each P (blocks_at per page)
each-block P per page =
    each-listed P (nat_lt page 10) (nat_lt page (10 + per)) (nat_lt page (10 + per + per * per)) page ((page - 10) / per) ((page - (10 + per)) / (per * per))

-- ---- a range of pages

pub range-snoc : (a k : ℕ) → range_with_len a (k + 1) ≡ range_with_len a k ++ (a + k) ∷ []
range-snoc a zero = (let here : a ≡ a + 0 = omega arith in (λ i. here i ∷ []))
range-snoc a (suc k) =
    let more : suc k + 1 ≡ suc (k + 1) = omega arith in
    let at : a + 1 + k ≡ a + suc k = omega arith in
    ap (range_with_len a) more ∙ ap (λ l. a ∷ l) (range-snoc (a + 1) k) ∙ ap (λ n. a ∷ (range_with_len (a + 1) k ++ n ∷ [])) at

pub with_blocks-append : (s : Blocks) (xs ys : List Block) → with_blocks s (xs ++ ys) ≡ with_blocks (with_blocks s xs) ys
with_blocks-append s [] ys = refl
with_blocks-append s (x ∷ xs) ys = with_blocks-append (set.insert s x) xs ys

-- the blocks with those of one page more
pub more_page : (s : Blocks) (per first k : ℕ)
    → with_blocks s (flat_map (blocks_at per) (range_with_len first (k + 1))) ≡ with_blocks (with_blocks s (flat_map (blocks_at per) (range_with_len first k))) (blocks_at per (first + k))
more_page s per first k =
    ap (λ l. with_blocks s (flat_map (blocks_at per) l)) (range-snoc first k)
    ∙ ap (with_blocks s) (flat_map-append (blocks_at per) (range_with_len first k) ((first + k) ∷ []) ∙ ap (λ l. flat_map (blocks_at per) (range_with_len first k) ++ l) (append-nil (blocks_at per (first + k))))
    ∙ with_blocks-append s (flat_map (blocks_at per) (range_with_len first k)) (blocks_at per (first + k))

-- no page of a range has the block
none_has : (per : ℕ) (b : Block) (first k : ℕ) → ((q : ℕ) → q + 1 ≤ first + k → stands per q b ≡ false) → list_any (eq_by_cmp pair_cmp b) (flat_map (blocks_at per) (range_with_len first k)) ≡ false
none_has per b first zero h = refl
none_has per b first (suc k) h =
    any-cons (blocks_at per) (eq_by_cmp pair_cmp b) first (range_with_len (first + 1) k)
    ∙ (λ i. h first (omega arith) i || none_has per b (first + 1) k (λ q low. h q (omega (arith, low))) i)

-- the page before a page of a range, if there is one in the range
abbrev pub blocks_before : ℕ → ℕ → ℕ → List Block
blocks_before per first page = if page == first then [] else blocks_at per (page - 1)

either : (a b : Bool) → b ≡ true → (a || b) ≡ b
either true true e = refl
either true false e = sym e
either false b e = refl

last_has : (per : ℕ) (b : Block) (first k : ℕ) → ((q : ℕ) → q ≤ first + k → stands per q b ≡ true → stands per (first + k) b ≡ true)
    → list_any (eq_by_cmp pair_cmp b) (flat_map (blocks_at per) (range_with_len first (k + 1))) ≡ stands per (first + k) b
last_has per b first k stays =
    ap (λ l. list_any (eq_by_cmp pair_cmp b) (flat_map (blocks_at per) l)) (range-snoc first k)
    ∙ ap (list_any (eq_by_cmp pair_cmp b)) (flat_map-append (blocks_at per) (range_with_len first k) ((first + k) ∷ []) ∙ ap (λ l. flat_map (blocks_at per) (range_with_len first k) ++ l) (append-nil (blocks_at per (first + k))))
    ∙ list_any-append (eq_by_cmp pair_cmp b) (flat_map (blocks_at per) (range_with_len first k)) (blocks_at per (first + k))
    ∙ by (stands per (first + k) b) refl
  where
    no : (t : Bool) → (t ≡ true → false ≡ true) → t ≡ false
    no true f = sym (f refl)
    no false f = refl

    by : (t : Bool) → stands per (first + k) b ≡ t → (list_any (eq_by_cmp pair_cmp b) (flat_map (blocks_at per) (range_with_len first k)) || stands per (first + k) b) ≡ stands per (first + k) b
    by true e = either _ _ e
    by false e =
        ap (λ t. t || stands per (first + k) b)
        (none_has per b first k (λ q low. no (stands per q b) (λ h. sym e ∙ stays q (omega (arith, low)) h)))

-- the test of the code is that of the set
pub then_equal : (r s : Ordering) → is_eq (ordering_then r s) ≡ (is_eq r && is_eq s)
then_equal Less s = refl
then_equal Equal s = refl
then_equal Greater s = refl

pub same_test : (m n : ℕ) → (m == n) ≡ eq_by_cmp nat_cmp m n
same_test m n =
    elim (cases_eq m n) [
      | inl e ↦ eq-eqb m n e ∙ sym (equal m n e)
      | inr ne ↦ ne_eqb m n ne ∙ sym (false_from_ne_true (eq_by_cmp nat_cmp m n) (λ h. ne (same_number m n h)))
    ]

pub is_block-is : (a b : Block) → is_block a b ≡ eq_by_cmp pair_cmp a b
is_block-is a b = (λ i. same_test a.0 b.0 i && same_test a.1 b.1 i) ∙ sym (then_equal (nat_cmp a.0 b.0) (nat_cmp a.1 b.1))

among : (b : Block) (bs : List Block) → list_any (is_block b) bs ≡ list_any (eq_by_cmp pair_cmp b) bs
among b bs = λ i. list_any (λ c. is_block-is b c i) bs

neither : (a b : Bool) → not (a || b) ≡ (not b && not a)
neither true true = refl
neither true false = refl
neither false true = refl
neither false false = refl

-- ---- a page of a range

-- a block of page p is new to the blocks of the pages before it in the range, or it is not, as the code tells it
module _ (s : Blocks) (per first : ℕ) where
  abbrev so_far : ℕ → Blocks
  so_far k = with_blocks s (flat_map (blocks_at per) (range_with_len first k))

  abbrev Told : ℕ → Block → Type 0
  Told k b = not (set.contains (so_far k) b) ≡ is_new s (blocks_before per first (first + k)) b

  before_is : (k : ℕ) (b : Block) → ((q r : ℕ) → q ≤ r → r ≤ first + k → stands per q b ≡ true → stands per r b ≡ true)
      → list_any (eq_by_cmp pair_cmp b) (flat_map (blocks_at per) (range_with_len first k)) ≡ list_any (is_block b) (blocks_before per first (first + k))
  before_is zero b stays =
      let here : (first + zero == first) ≡ true = eq-eqb (first + zero) first (omega arith) in
      sym (ap (λ t. list_any (is_block b) (if t then [] else blocks_at per (first + zero - 1))) here)
  before_is (suc k) b stays =
      let later : (first + suc k == first) ≡ false = ne_eqb (first + suc k) first (λ e. omega (arith, e)) in
      let at : first + suc k - 1 ≡ first + k = omega arith in
      let more : suc k ≡ k + 1 = omega arith in
      ap (λ n. list_any (eq_by_cmp pair_cmp b) (flat_map (blocks_at per) (range_with_len first n))) more
      ∙ last_has per b first k (λ q low. stays q (first + k) low (omega arith))
      ∙ sym (among b (blocks_at per (first + k)))
      ∙ sym (ap (λ t. list_any (is_block b) (if t then [] else blocks_at per (first + suc k - 1))) later ∙ ap (λ n. list_any (is_block b) (blocks_at per n)) at)

  told : (k : ℕ) (b : Block) → ((q r : ℕ) → q ≤ r → r ≤ first + k → stands per q b ≡ true → stands per r b ≡ true) → Told k b
  told k b stays =
      ap not (contains-with_blocks s (flat_map (blocks_at per) (range_with_len first k)) b ∙ ap (λ t. t || set.contains s b) (before_is k b stays))
      ∙ neither (list_any (is_block b) (blocks_before per first (first + k))) (set.contains s b)

  pub page-more : (k : ℕ) → 1 ≤ per → set.len (so_far (k + 1)) ≡ set.len (so_far k) + count_by (is_new s (blocks_before per first (first + k))) (blocks_at per (first + k))
  page-more k some =
      let p : ℕ = first + k in
      ap set.len (more_page s per first k)
      ∙ len-apart (so_far k) (blocks_at per p) (blocks_at-apart per p)
      ∙ ap (λ n. set.len (so_far k) + n)
      (count-alike (λ b. not (set.contains (so_far k) b)) (is_new s (blocks_before per first p)) (blocks_at per p)
      (each-block (Told k) per p
      (told k (0, p) (λ q r low high. stays-0 per q r p some low high))
      (told k (1, (p - 10) / per) (λ q r low high. stays-1 per q r p some low high))
      (told k (2, (p - (10 + per)) / (per * per)) (λ q r low high. stays-2 per q r p some low high))
      (told k (3, 0) (λ q r low high. stays-3 per q r p some low high))))

  -- each page adds what it counts
  pub added-more : (k : ℕ) → 1 ≤ per → added s per (range_with_len first (k + 1)) ≡ added s per (range_with_len first k) + count_by (is_new s (blocks_before per first (first + k))) (blocks_at per (first + k))
  unfolding added
  added-more k some =
      let grows = len-with_blocks s (flat_map (blocks_at per) (range_with_len first k)) in
      omega (arith, page-more k some, grows.0)

  pub added-none : 0 ≡ added s per []
  unfolding added
  added-none = omega arith

-- ---- a node's blocks

or_turned : (a b : Bool) → (a || b) ≡ (b || a)
or_turned true true = refl
or_turned true false = refl
or_turned false true = refl
or_turned false false = refl

-- the blocks of some pages with those of others
pub block_set-append : (per : ℕ) (ks ps : List ℕ) → block_set per (ks ++ ps) ≡ with_blocks (block_set per ks) (flat_map (blocks_at per) ps)
unfolding block_set
block_set-append per ks ps =
    set.same_set pair_cmp_total pair_cmp-IsAntisymmetric _ _
    (λ q. set.contains-from_list pair_cmp_total _ q
    ∙ ap (list_any (eq_by_cmp pair_cmp q)) (flat_map-append (blocks_at per) ks ps)
    ∙ list_any-append (eq_by_cmp pair_cmp q) (flat_map (blocks_at per) ks) (flat_map (blocks_at per) ps)
    ∙ or_turned (list_any (eq_by_cmp pair_cmp q) (flat_map (blocks_at per) ks)) (list_any (eq_by_cmp pair_cmp q) (flat_map (blocks_at per) ps))
    ∙ ap (λ c. list_any (eq_by_cmp pair_cmp q) (flat_map (blocks_at per) ps) || c) (sym (set.contains-from_list pair_cmp_total _ q))
    ∙ sym (contains-with_blocks _ (flat_map (blocks_at per) ps) q))

pub blocks_added-is : (block : ℕ) (node : Node) (pages : List ℕ) → added (block_set (numbers_per block) (map.keys node.pages)) (numbers_per block) pages ≡ blocks_added block node pages
unfolding added blocks_added
blocks_added-is block node pages =
    ap (λ s. set.len s - set.len (block_set (numbers_per block) (map.keys node.pages))) (sym (block_set-append (numbers_per block) (map.keys node.pages) pages))

-- of a node that is there
pub node_blocks-there : (fs : Fs) (i : ℕ) (node : Node) → map.get fs.nodes i ≡ Some node → node_blocks fs i ≡ block_set (numbers_per fs.block) (map.keys node.pages)
node_blocks-there fs i node there = ap (λ o. unwrap_or (option_map (λ (n : Node). block_set (numbers_per fs.block) (map.keys n.pages)) o) set.empty) there

pub added-there : (fs : Fs) (i : ℕ) (node : Node) (pages : List ℕ) → map.get fs.nodes i ≡ Some node → added (node_blocks fs i) (numbers_per fs.block) pages ≡ blocks_added fs.block node pages
added-there fs i node pages there = ap (λ s. added s (numbers_per fs.block) pages) (node_blocks-there fs i node there) ∙ blocks_added-is fs.block node pages
