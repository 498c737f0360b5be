-- A page is made present by blocks at hand.
use Rattle.std.proofs.Common.{◌≡◌, ◌≢◌, ◌≤◌, ◌<◌, ◌+◌, ◌++◌, ◌∷◌, ◌==◌, ◌⊎◌, ◌||◌, inl, inr, [], ℕ, zero, suc, Bool, true, false, cond}
use Rattle.std.proofs.Common.{List, length, map, get_or, take, reverse, None, IsSome, is_some, nat_lt, length-append, refl, sym, ap, ◌∙◌}
use Rattle.std.proofs.Common.{subst, arith}
use Rattle.std.specs.List.{All, list_any, sum_by}
use Rattle.std.proofs.lemmas.Bool.{eqb-true, false≢true}
use Rattle.std.proofs.lemmas.Bool.Decides.{nat_tests}
use Rattle.std.proofs.lemmas.List.{get_or-map, length-map, length-reverse, places, take_all}
use Rattle.std.proofs.lemmas.List.Folds.{list_any_none}
use Rattle.std.proofs.lemmas.List.Sums.{count_by-le-length, sum_by-cons}
use Rattle.std.proofs.Math.Seq.{take-append_seam}
use Rattle.sv_dev.specs.Causes.{Rose}
use Rattle.sv_form.specs.Geometry.{IsDataBlock, IsGeometry}
use Rattle.sv_form.specs.PagePath.{block_numbers}
use Rattle.sv_form.specs.declared.geometry.Geometry.{Geometry}
use Rattle.sv_form.specs.declared.page_path.PagePath.{PagePath}
use Rattle.sv_form.specs.declared.page_path.PagePath.TheVariants.{Direct, Single, Double, Triple}
use Rattle.sv_store.specs.Held.{Apart, Both, Held, Lent, Origin, SameLines, nothing_lent}
use Rattle.sv_store.specs.declared.refusal.Refusal.{Refusal}
use Rattle.sv_store.proofs.Holding.{eqb_same, is_some-Both}
use Rattle.sv_bmap.specs.Attach.{Attaches, CanAttach, HasFaultOf, HoldsAll, Keeps}
use Rattle.sv_bmap.specs.Need.{counts_at, need_at, need_of, way}
use Rattle.sv_bmap.specs.Parts.{part}
use Rattle.sv_bmap.specs.Tree.{page_block, path}
use Rattle.sv_super.specs.Core.{alone}
use Rattle.sv_super.specs.Count.{one_if, times}
use Rattle.sv_super.proofs.Counts.{times-append, times-at, times-cons, times-nil}
use Rattle.sv_super.proofs.FreeNumbers.{times-reverse}
use Rattle.sv_inode.specs.Truncate.{AreBlocks, CanFreeAll, IsPart, names_of, only}
use Rattle.sv_inode.specs.Write.{ArePaired, Uses}
use Rattle.sv_inode.proofs.GivenBack.{alone-at, holds-part, no-line, only-apart, only-at}

some : (n : ℕ) → nat_lt 0 n ≡ true → 0 < n
some n h = grind (nat_tests, arith)

none : (n : ℕ) → nat_lt 0 n ≡ false → n ≡ 0
none n h = grind (nat_tests, arith)

is-some : (n : ℕ) → 0 < n → nat_lt 0 n ≡ true
is-some n h = grind (nat_tests, arith)

is-none : (n : ℕ) → n ≡ 0 → nat_lt 0 n ≡ false
is-none n h = grind (nat_tests, arith)

-- ---- names

-- how often a block stands among those that are left, and among those that were taken out
pub times-moved : {S : Type 0} (left all : List (ℕ × S)) (ns : List ℕ) → names_of left ++ reverse ns ≡ names_of all → (b : ℕ)
    → times b (names_of left) + times b ns ≡ times b (names_of all)
times-moved left all ns e b = omega (arith, ap (times b) e, times-append b (names_of left) (reverse ns), times-reverse b ns)

pub count-moved : {S : Type 0} (left all : List (ℕ × S)) (ns : List ℕ) → names_of left ++ reverse ns ≡ names_of all
    → length left + length ns ≡ length all
count-moved left all ns e =
    omega (
      arith,
      ap length e,
      length-append (names_of left) (reverse ns),
      length-reverse ns,
      length-map left (λ x. x.0),
      length-map all
          (λ x. x.0),
    )

pub front-moved : {S : Type 0} (left all : List (ℕ × S)) (ns : List ℕ) → names_of left ++ reverse ns ≡ names_of all
    → names_of left ≡ take (length left) (names_of all)
front-moved left all ns e =
    sym (take-append_seam (names_of left) (reverse ns))
    ∙ (ap (λ q. take q (names_of left ++ reverse ns)) (length-map left (λ x. x.0)) ∙ ap (take (length left)) e)

-- a block that is named once has one place
no-place-twice : (xs : List ℕ) (i j : ℕ) → ((b : ℕ) → times b xs ≤ 1) → i < j → j < length xs → get_or xs i 0 ≡ get_or xs j 0 → ⊥
no-place-twice [] i j once low high same = absurd (omega (arith, high))
no-place-twice (x ∷ xs) i zero once low high same = absurd (omega (arith, low))
no-place-twice (x ∷ xs) zero (suc j) once low high same =
    absurd (omega (arith, once x, times-cons x x xs, ap one_if (eqb_same x), times-at xs j x (omega (arith, high)) (sym same)))
no-place-twice (x ∷ xs) (suc i) (suc j) once low high same =
    no-place-twice xs i j (λ b. omega (arith, once b, times-cons b x xs)) (omega (arith, low)) (omega (arith, high)) same

lt-or : (i j : ℕ) → i ≢ j → (i < j) ⊎ (j < i)
lt-or i j apart_of = by (nat_lt i j) refl
  where
    yes : (a b : ℕ) → nat_lt a b ≡ true → a < b
    yes a b h = grind (nat_tests, arith)

    not : (a b : ℕ) → nat_lt a b ≡ false → b ≤ a
    not a b h = grind (nat_tests, arith)

    by : (t : Bool) → nat_lt i j ≡ t → (i < j) ⊎ (j < i)
    by true e = inl (yes i j e)
    by false e = inr (omega (arith, not i j e, apart_of))

-- where a block stands that is named
pub place-of : (c : ℕ) (xs : List ℕ) → 0 < times c xs → (i : ℕ) × ((i < length xs) × (get_or xs i 0 ≡ c))
place-of c [] is = absurd (omega (arith, is, times-nil c))
place-of c (x ∷ xs) is = by (x == c) refl (place-of c xs)
  where
    by : (t : Bool) → (x == c) ≡ t → (0 < times c xs → (i : ℕ) × ((i < length xs) × (get_or xs i 0 ≡ c)))
        → (i : ℕ) × ((i < length (x ∷ xs)) × (get_or (x ∷ xs) i 0 ≡ c))
    by true e rest = (0, (omega arith, eqb-true x c e))
    by false e rest = (let q = rest (omega (arith, is, times-cons c x xs, ap one_if e)) in (suc q.0, (omega (arith, q.1.0), q.1.1)))

some-of : {S : Type 0} (ps : List S) (i : ℕ) → i < length ps → S
some-of [] i low = absurd (omega (arith, low))
some-of (x ∷ xs) i low = x

other-default : (xs : List ℕ) (i b : ℕ) → i < length xs → get_or xs i b ≡ get_or xs i 0
other-default xs i b low = grind (arith, places)

-- ---- the parts

module _ {S : Type 0} {held : S → Held} {lent : S → Lent} {origin : S → Origin} {forced : S → Bool} {o : Origin} {h : Held} where
  -- part i has the lines of its block
  its-lines : (ns : List ℕ) (ps : List S) → ArePaired held lent origin forced o h ns ps → (i : ℕ) → i < length ns
      → SameLines (part (map held ps) i) (alone (get_or ns i 0) h)
  its-lines ns ps pairs i low =
      let high : i < length ps = omega (arith, low, pairs.count) in
      let x : S = some-of ps i high in
      let P : Held → Type 0 = λ q. SameLines q (alone (get_or ns i 0) h) in
      subst P (sym (get_or-map held ps i x (λ _ _. None) high)) (pairs.each i 0 x low).lines

  pub all-away : (ns : List ℕ) (ps : List S) → ArePaired held lent origin forced o h ns ps → All (λ p. lent p ≡ nothing_lent) ps
  all-away ns ps pairs = λ i d low. (pairs.each i 0 d (omega (arith, low, pairs.count))).away

  pub all-home : {o' : Origin} (ns : List ℕ) (ps : List S) → ArePaired held lent origin forced o h ns ps → o' ≡ o
      → All (λ p. origin p ≡ o') ps
  all-home ns ps pairs e = λ i d low. (pairs.each i 0 d (omega (arith, low, pairs.count))).home ∙ sym e

  pub none-forced : {f now : Bool} (ns : List ℕ) (ps : List S) → ArePaired held lent origin forced o h ns ps
      → now ≡ (f || list_any forced ps) → now ≡ f
  none-forced {f} ns ps pairs e =
      e ∙ (ap (λ q. f || q) (list_any_none forced ps (λ i d low. (pairs.each i 0 d (omega (arith, low, pairs.count))).unforced))
      ∙ or_false f)
    where
      or_false : (t : Bool) → (t || false) ≡ t
      or_false true = refl
      or_false false = refl

  -- the parts as they come back
  pub kept-paired : {faults : S → ℕ} (ns : List ℕ) (ps back : List S) → ArePaired held lent origin forced o h ns ps
      → Keeps held lent origin forced faults ps back → ArePaired held lent origin forced o h ns back
  kept-paired ns ps back pairs keeps = record {
    count = keeps.count ∙ pairs.count;
    each = λ i b p low.
        (let high : i < length ps = omega (arith, low, pairs.count) in
        let same : i < length back = omega (arith, high, keeps.count) in
        let was : IsPart held lent origin forced o h (get_or ns i b, get_or ps i p) = pairs.each i b p low in
        record {
          lines = record {
            at = λ c l.
                (let here : held (get_or back i p) ≡ part (map held back) i = sym (get_or-map held back i p (λ _ _. None) same) in
                ap (λ q. is_some (q c l)) here
                ∙ ((keeps.lines i high).at c l
                ∙ (ap (λ q. is_some (q c l)) (get_or-map held ps i p (λ _ _. None) high) ∙ was.lines.at c l)));
          };
          away = keeps.away i p same;
          home = sym (get_or-map origin back i p o same)
              ∙ (ap (λ q. get_or q i o) keeps.home ∙ (get_or-map origin ps i p o high ∙ was.home));
          unforced = sym (get_or-map forced back i p false same)
              ∙ (ap (λ q. get_or q i false) keeps.as_forced ∙ (get_or-map forced ps i p false high ∙ was.unforced));
        });
  }

  -- a page can be attached by them
  attach-here : {mine : Held} (a : List ℕ) (page : ℕ) (ns : List ℕ) (ps : List S) (left all : List (ℕ × S)) → IsGeometry o.sizes
      → page_block o.sizes mine a page ≡ 0 → length ns ≡ need_of o.sizes mine a page 1 → CanFreeAll held lent origin forced o h mine all
      → names_of left ++ reverse ns ≡ names_of all → ArePaired held lent origin forced o h ns ps → CanAttach o mine a page ns (map held ps)
  attach-here {mine} a page ns ps left all sizes hole count can moved pairs = record {
    hole = hole;
    count = count;
    named = λ i low z. absurd (omega (arith, (can.are.in_data (get_or ns i 0) (among i low)).least, sizes.least_first, z));
    as_many = length-map ps held ∙ pairs.count;
    whole = λ i low. holds-part (get_or ns i 0) (its-lines ns ps pairs i low) (can.are.whole (get_or ns i 0) (among i low));
    apart = record {
      own = λ i low. (let here : i < length ns = omega (arith, low, length-map ps held, pairs.count) in
          only-apart h (get_or ns i 0) (names_of all) can.apart (among i here) (its-lines ns ps pairs i here));
      each = λ i j low high not_one. (let one : i < length ns = omega (arith, low, length-map ps held, pairs.count) in
          let two : j < length ns = omega (arith, high, length-map ps held, pairs.count) in
          record { at = λ c l is. differ i j one two not_one c l is (c == get_or ns i 0) refl (c == get_or ns j 0) refl });
    };
  }
    where
      among : (i : ℕ) → i < length ns → 0 < times (get_or ns i 0) (names_of all)
      among i low = omega (arith, times-at ns i (get_or ns i 0) low refl, times-moved left all ns moved (get_or ns i 0))

      once : (b : ℕ) → times b ns ≤ 1
      once b = omega (arith, can.are.once b, times-moved left all ns moved b)

      twice : (i j : ℕ) → i < length ns → j < length ns → get_or ns i 0 ≡ get_or ns j 0 → (i < j) ⊎ (j < i) → ⊥
      twice i j one two same (inl low) = no-place-twice ns i j once low two same
      twice i j one two same (inr low) = no-place-twice ns j i once low one (sym same)

      differ : (i j : ℕ) → i < length ns → j < length ns → i ≢ j → (c l : ℕ) → IsSome (part (map held ps) i c l) → (t : Bool)
          → (c == get_or ns i 0) ≡ t → (u : Bool) → (c == get_or ns j 0) ≡ u → part (map held ps) j c l ≡ None
      differ i j one two not_one c l is t e false f = no-line (part (map held ps) j c l)
          ((its-lines ns ps pairs j two).at c l ∙ ap is_some (alone-at (get_or ns j 0) h c l false f))
      differ i j one two not_one c l is true e true f =
          absurd (twice i j one two (sym (eqb-true c (get_or ns i 0) e) ∙ eqb-true c (get_or ns j 0) f) (lt-or i j not_one))
      differ i j one two not_one c l is false e true f =
          absurd (false≢true (sym ((its-lines ns ps pairs i one).at c l ∙ ap is_some (alone-at (get_or ns i 0) h c l false e)) ∙ is))

  pub can-attach : {o' : Origin} {h' mine : Held} {blocks : List ℕ} (a : List ℕ) (page : ℕ) (ns : List ℕ) (ps : List S)
      (left all : List (ℕ × S)) → IsGeometry o.sizes → page_block o.sizes mine a page ≡ 0 → length ns ≡ need_of o.sizes mine a page 1
      → CanFreeAll held lent origin forced o h mine all → names_of left ++ reverse ns ≡ names_of all
      → ArePaired held lent origin forced o h ns ps → blocks ≡ ns → o' ≡ o → h' ≡ mine → CanAttach o' h' a page blocks (map held ps)
  can-attach {o'} {h'} {mine} {blocks} a page ns ps left all sizes hole count can moved pairs e p q =
      let P : Origin → Type 0 = λ z. CanAttach z h' a page blocks (map held ps) in
      let Q : Held → Type 0 = λ z. CanAttach o z a page blocks (map held ps) in
      let W : List ℕ → Type 0 = λ z. CanAttach o mine a page z (map held ps) in
      subst P (sym p) (subst Q (sym q) (subst W (sym e) (attach-here a page ns ps left all sizes hole count can moved pairs)))

  -- what is held once the parts were taken in
  pub new-lines : {mine new : Held} (ns : List ℕ) (ps : List S) → ArePaired held lent origin forced o h ns ps
      → HoldsAll mine (map held ps) new → SameLines new (Both mine (only ns h))
  new-lines {mine} {new} ns ps pairs holds =
      record {
        at = λ c l. by c l (is_some (mine c l)) refl (nat_lt 0 (times c ns)) refl (is_some (h c l)) refl
            ∙ sym (is_some-Both mine (only ns h) c l);
      }
    where
      in_part : (c l : ℕ) → (times c ns ≡ 0) ⊎ (is_some (h c l) ≡ false) → (i : ℕ) → i < length (map held ps)
          → part (map held ps) i c l ≡ None
      in_part c l why i low = no-line (part (map held ps) i c l) ((its-lines ns ps pairs i here).at c l ∙ at (c == get_or ns i 0) refl why)
        where
          here : i < length ns
          here = omega (arith, low, length-map ps held, pairs.count)

          at : (t : Bool) → (c == get_or ns i 0) ≡ t → (times c ns ≡ 0) ⊎ (is_some (h c l) ≡ false)
              → is_some (alone (get_or ns i 0) h c l) ≡ false
          at false e reason = ap is_some (alone-at (get_or ns i 0) h c l false e)
          at true e (inl gone) = absurd (omega (arith, gone, times-at ns i c here (sym (eqb-true c (get_or ns i 0) e))))
          at true e (inr gone) = ap is_some (alone-at (get_or ns i 0) h c l true e) ∙ gone

      theirs : (c l : ℕ) → 0 < times c ns → is_some (h c l) ≡ true → is_some (new c l) ≡ true
      theirs c l is held_line =
          (let at = place-of c ns is in
          let same : (c == get_or ns at.0 0) ≡ true = ap (λ q. c == q) at.1.1 ∙ eqb_same c in
          holds.theirs at.0 (omega (arith, at.1.0, length-map ps held, pairs.count)) c l
          ((its-lines ns ps pairs at.0 at.1.0).at c l ∙ (ap is_some (alone-at (get_or ns at.0 0) h c l true same) ∙ held_line)))

      nothing : (c l : ℕ) → is_some (mine c l) ≡ false → (times c ns ≡ 0) ⊎ (is_some (h c l) ≡ false) → is_some (new c l) ≡ false
      nothing c l e why = ap is_some (holds.only c l (no-line (mine c l) e) (in_part c l why))

      by : (c l : ℕ) (s : Bool) → is_some (mine c l) ≡ s → (t : Bool) → nat_lt 0 (times c ns) ≡ t → (u : Bool) → is_some (h c l) ≡ u
          → is_some (new c l) ≡ cond (is_some (mine c l)) true (is_some (only ns h c l))
      by c l true e t f u d = holds.own c l e ∙ sym (ap (λ q. cond q true (is_some (only ns h c l))) e)
      by c l false e false f u d =
          nothing c l e (inl (none (times c ns) f))
          ∙ sym (ap (λ q. cond q true (is_some (only ns h c l))) e ∙ ap is_some (only-at ns h c l false f))
      by c l false e true f false d =
          nothing c l e (inr d)
          ∙ sym (ap (λ q. cond q true (is_some (only ns h c l))) e ∙ (ap is_some (only-at ns h c l true f) ∙ d))
      by c l false e true f true d =
          theirs c l (some (times c ns) f) d
          ∙ sym (ap (λ q. cond q true (is_some (only ns h c l))) e ∙ (ap is_some (only-at ns h c l true f) ∙ d))

-- ---- lines of blocks that are taken in, of some that are left, and of all

pub some-only : (xs : List ℕ) (h : Held) (c l : ℕ) → is_some (only xs h c l) ≡ cond (nat_lt 0 (times c xs)) (is_some (h c l)) false
some-only xs h c l = by (nat_lt 0 (times c xs)) refl ∙ refl
  where
    by : (t : Bool) → nat_lt 0 (times c xs) ≡ t → is_some (only xs h c l) ≡ cond (nat_lt 0 (times c xs)) (is_some (h c l)) false
    by true e = ap is_some (only-at xs h c l true e) ∙ sym (ap (λ q. cond q (is_some (h c l)) false) e)
    by false e = ap is_some (only-at xs h c l false e) ∙ sym (ap (λ q. cond q (is_some (h c l)) false) e)

pub all-test : (x y z : ℕ) → x + y ≡ z → nat_lt 0 z ≡ cond (nat_lt 0 x) true (nat_lt 0 y)
all-test x y z e = by (nat_lt 0 x) refl (nat_lt 0 y) refl
  where
    by : (t : Bool) → nat_lt 0 x ≡ t → (u : Bool) → nat_lt 0 y ≡ u → nat_lt 0 z ≡ cond (nat_lt 0 x) true (nat_lt 0 y)
    by true f u d = is-some z (omega (arith, some x f, e)) ∙ sym (ap (λ q. cond q true (nat_lt 0 y)) f)
    by false f true d = is-some z (omega (arith, some y d, e)) ∙ sym (ap (λ q. cond q true (nat_lt 0 y)) f ∙ d)
    by false f false d = is-none z (omega (arith, none x f, none y d, e)) ∙ sym (ap (λ q. cond q true (nat_lt 0 y)) f ∙ d)

pub lines-moved : (mine new h : Held) (left ns all : List ℕ) → ((b : ℕ) → times b left + times b ns ≡ times b all)
    → SameLines new (Both mine (only ns h)) → SameLines (Both new (only left h)) (Both mine (only all h))
lines-moved mine new h left ns all moved lines = record {
  at = λ c l.
      is_some-Both new (only left h) c l
      ∙ (ap (λ q. cond q true (is_some (only left h c l))) (lines.at c l ∙ is_some-Both mine (only ns h) c l)
      ∙ (ap (λ q. cond (cond (is_some (mine c l)) true (is_some (only ns h c l))) true q) (some-only left h c l)
      ∙ (ap (λ q. cond (cond (is_some (mine c l)) true q) true (cond (nat_lt 0 (times c left)) (is_some (h c l)) false))
      (some-only ns h c l)
      ∙ (three (is_some (mine c l)) (nat_lt 0 (times c left)) (nat_lt 0 (times c ns)) (is_some (h c l))
      ∙ (ap (λ q. cond (is_some (mine c l)) true (cond q (is_some (h c l)) false))
      (sym (all-test (times c left) (times c ns) (times c all) (moved c)))
      ∙ (ap (λ q. cond (is_some (mine c l)) true q) (sym (some-only all h c l)) ∙ sym (is_some-Both mine (only all h) c l)))))));
}
  where
    three : (m t u s : Bool) → cond (cond m true (cond u s false)) true (cond t s false) ≡ cond m true (cond (cond t true u) s false)
    three true t u s = refl
    three false true true true = refl
    three false true true false = refl
    three false true false true = refl
    three false true false false = refl
    three false false true true = refl
    three false false true false = refl
    three false false false true = refl
    three false false false false = refl

pub apart-moved : {mine new : Held} (h : Held) (left ns all : List ℕ) → ((b : ℕ) → times b left + times b ns ≡ times b all)
    → ((b : ℕ) → times b all ≤ 1) → Apart mine (only all h) → SameLines new (Both mine (only ns h)) → Apart new (only left h)
apart-moved {mine} {new} h left ns all moved once away lines = record { at = λ c l is. by c l is (nat_lt 0 (times c left)) refl }
  where
    first : (x : Bool) → cond x true false ≡ true → x ≡ true
    first true e = refl
    first false e = e

    by : (c l : ℕ) → is_some (new c l) ≡ true → (t : Bool) → nat_lt 0 (times c left) ≡ t → only left h c l ≡ None
    by c l is false e = only-at left h c l false e
    by c l is true e =
        (let away_of : nat_lt 0 (times c ns) ≡ false = is-none (times c ns) (omega (arith, some (times c left) e, moved c, once c)) in
        let whole : nat_lt 0 (times c all) ≡ true = is-some (times c all) (omega (arith, some (times c left) e, moved c)) in
        let own : is_some (mine c l) ≡ true = first (is_some (mine c l))
        (sym (ap (λ q. cond (is_some (mine c l)) true (is_some q)) (only-at ns h c l false away_of))
        ∙ (sym (is_some-Both mine (only ns h) c l) ∙ (sym (lines.at c l) ∙ is))) in
        only-at left h c l true e ∙ (sym (only-at all h c l true whole) ∙ away.at c l own))

-- ---- what is left at hand

module _ {S : Type 0} {held : S → Held} {lent : S → Lent} {origin : S → Origin} {forced : S → Bool} {o : Origin} {h : Held} where
  pub uses-more : {mine new : Held} (ns : List ℕ) (ps : List S) (left all : List (ℕ × S)) → CanFreeAll held lent origin forced o h mine all
      → names_of left ++ reverse ns ≡ names_of all → All (IsPart held lent origin forced o h) left
      → ArePaired held lent origin forced o h ns ps → HoldsAll mine (map held ps) new → Uses held lent origin forced o h mine new all left
  uses-more {mine} {new} ns ps left all can moved each pairs holds = record {
    front = front-moved left all ns moved;
    fewer = omega (arith, count-moved left all ns moved);
    can = record {
      are = record {
        once = λ b. omega (arith, can.are.once b, times-moved left all ns moved b);
        in_data = λ b is. can.are.in_data b (omega (arith, is, times-moved left all ns moved b));
        whole = λ b is. can.are.whole b (omega (arith, is, times-moved left all ns moved b));
      };
      each = each;
      apart = apart-moved h (names_of left) ns (names_of all) (times-moved left all ns moved) can.are.once can.apart
          (new-lines ns ps pairs holds);
    };
    lines = lines-moved mine new h (names_of left) ns (names_of all) (times-moved left all ns moved) (new-lines ns ps pairs holds);
  }

  pub uses-none : {mine new : Held} (back all : List (ℕ × S)) → CanFreeAll held lent origin forced o h mine all → SameLines new mine
      → names_of back ≡ names_of all → All (IsPart held lent origin forced o h) back → Uses held lent origin forced o h mine new all back
  uses-none {mine} {new} back all can same names each = record {
    front = sym (take_all (length back) (names_of back) (omega (arith, length-map back (λ x. x.0)))) ∙ ap (take (length back)) names;
    fewer = omega (arith, ap length names, length-map back (λ x. x.0), length-map all (λ x. x.0));
    can = record {
      are = (let P : List ℕ → Type 0 = AreBlocks o h in subst P (sym names) can.are);
      each = each;
      apart = (let Q : List ℕ → Type 0 = λ q. Apart new (only q h) in
          subst Q (sym names) (record { at = λ c l is. can.apart.at c l (sym (same.at c l) ∙ is) }));
    };
    lines = record {
      at = λ c l.
          is_some-Both new (only (names_of back) h) c l
          ∙ (ap (λ q. cond q true (is_some (only (names_of back) h c l))) (same.at c l)
          ∙ (ap (λ q. cond (is_some (mine c l)) true (is_some (only q h c l))) names
          ∙ sym (is_some-Both mine (only (names_of all) h) c l)));
    };
  }

pub same-held : {h k : Held} → k ≡ h → SameLines k h
same-held e = record { at = λ c l. ap (λ q. is_some (q c l)) e }

-- ---- faults

one-of-sum : {S : Type 0} (faults : S → ℕ) (ps : List S) (i : ℕ) → 0 < get_or (map faults ps) i 0 → 0 < sum_by faults ps
one-of-sum faults [] i is = absurd (omega (arith, is))
one-of-sum faults (p ∷ ps) zero is = omega (arith, is, sum_by-cons faults p ps)
one-of-sum faults (p ∷ ps) (suc i) is = omega (arith, one-of-sum faults ps i is, sum_by-cons faults p ps)

pub has-fault : {S : Type 0} {before now : ℕ} {refusal : Refusal} (faults : S → ℕ) (ps back : List S) (cuts more : List (ℕ × S))
    → HasFaultOf before now (map faults ps) (map faults back) refusal
    → sum_by (λ cut. faults cut.1) more ≡ sum_by (λ cut. faults cut.1) cuts + sum_by faults back → Rose before now
    ⊎ (0 < sum_by (λ cut. faults cut.1) more)
has-fault {before = before} {now = now} faults ps back cuts more has sums = by has.rose
  where
    up : (x y : ℕ) → Rose x y → 0 < y
    up x y (inl low) = omega (arith, low)
    up x y (inr last) = omega (arith, last)

    by : Rose before now ⊎ ((i : ℕ) × ((i < length (map faults ps)) × Rose (get_or (map faults ps) i 0) (get_or (map faults back) i 0)))
        → Rose before now ⊎ (0 < sum_by (λ cut. faults cut.1) more)
    by (inl rose) = inl rose
    by (inr at) = inr (omega
        (arith, sums, one-of-sum faults back at.0 (up (get_or (map faults ps) at.0 0) (get_or (map faults back) at.0 0) at.1.1)))

pub later-rose : {T : Type 0} {first before now : ℕ} → first ≤ before → Rose before now ⊎ T → Rose first now ⊎ T
later-rose low (inl (inl up)) = inl (inl (omega (arith, low, up)))
later-rose low (inl (inr last)) = inl (inr last)
later-rose low (inr other) = inr other

-- ---- needs

-- a page needs at most itself and three indirect blocks
pub need-few : (g : Geometry) (h : Held) (a : List ℕ) (page : ℕ) → need_of g h a page 1 ≤ 4
unfolding need_of need_at
need-few g h a page =
    omega (arith, count_by-le-length (counts_at page page) (way g h a (path (block_numbers g) page)), short (path (block_numbers g) page))
  where
    short : (p : PagePath) → length (way g h a p) ≤ 4
    short (Direct i) = omega arith
    short (Single i) = omega arith
    short (Double i j) = omega arith
    short (Triple i j k) = omega arith

pub attaches-since : {o o' : Origin} {h h' new : Held} {a b blocks blocks' : List ℕ} {page : ℕ} {parts : List Held} {bytes : List ℕ}
    → o' ≡ o → h' ≡ h → blocks' ≡ blocks → Attaches o' h' new a b page blocks' parts bytes → Attaches o h new a b page blocks parts bytes
attaches-since {o} {o'} {h} {h'} {new} {a} {b} {blocks} {blocks'} {page} {parts} {bytes} p q e attaches =
    let P : Origin → Type 0 = λ z. Attaches z h new a b page blocks parts bytes in
    let Q : Held → Type 0 = λ z. Attaches o' z new a b page blocks parts bytes in
    let W : List ℕ → Type 0 = λ z. Attaches o' h' new a b page z parts bytes in
    subst P p (subst Q q (subst W e attaches))

pub blocks-in-data : {S : Type 0} {held : S → Held} {lent : S → Lent} {origin : S → Origin} {forced : S → Bool} {o : Origin}
    {h mine : Held} (ns : List ℕ) (left all : List (ℕ × S)) → CanFreeAll held lent origin forced o h mine all
    → names_of left ++ reverse ns ≡ names_of all → All (λ x. IsDataBlock o.sizes x) ns
blocks-in-data {o = o} ns left all can moved = λ i d low.
    (let P : ℕ → Type 0 = IsDataBlock o.sizes in
    subst P (sym (other-default ns i d low))
    (can.are.in_data (get_or ns i 0)
    (omega (arith, times-at ns i (get_or ns i 0) low refl, times-moved left all ns moved (get_or ns i 0)))))
