-- Blocks that were taken out of the lines of a core, each with a part of its own, on their way to a file or back.
use Rattle.std.proofs.Common.{◌≡◌, ◌≢◌, ◌≤◌, ◌<◌, ◌+◌, ◌==◌, inl, inr, ℕ, zero, suc, Bool, true, false, cond, List, [], ◌∷◌, length}
use Rattle.std.proofs.Common.{get_or, nat_lt, None, IsSome, is_some, arith, refl, sym, ap, ◌∙◌}
use Rattle.std.specs.List.{All}
use Rattle.std.proofs.lemmas.Bool.{eqb-true, false≢true}
use Rattle.std.proofs.lemmas.Bool.Decides.{nat_tests}
use Rattle.std.proofs.lemmas.List.{length_push}
use Rattle.std.proofs.lemmas.List.Elements.{All-from_get_or}
use Rattle.sv_form.specs.Geometry.{IsDataBlock, IsGeometry, inode_place}
use Rattle.sv_store.specs.Held.{Apart, Both, Held, HoldsBlock, Origin, SameLines}
use Rattle.sv_store.proofs.Holding.{eqb_same, is_some-Both, none_from}
use Rattle.sv_bmap.specs.Attach.{CanAttach, HoldsAll}
use Rattle.sv_bmap.specs.Need.{need_of}
use Rattle.sv_bmap.specs.Parts.{AllApart, part}
use Rattle.sv_bmap.specs.Tree.{page_block}
use Rattle.sv_super.specs.Calls.{Takes}
use Rattle.sv_super.specs.Core.{Core, alone, free_times, left_of}
use Rattle.sv_super.specs.Count.{one_if, times}
use Rattle.sv_super.proofs.Counts.{times-at, times-cons, times-first, times-nil, times-snoc}
use Rattle.sv_inode.specs.Truncate.{HoldsInode, less_all, only}
use Rattle.sv_inode.proofs.GivenBack.{only-at}

no : (x y : ℕ) → (x == y) ≡ false → x ≢ y
no x y h = grind (nat_tests, arith)

differ : (x y : ℕ) → x ≢ y → (x == y) ≡ false
differ x y h = grind (nat_tests, arith)

more : (n : ℕ) → nat_lt 0 n ≡ true → 0 < n
more n h = grind (nat_tests, arith)

none : (n : ℕ) → nat_lt 0 n ≡ false → n ≡ 0
none n h = grind (nat_tests, arith)

-- these are data blocks whose lines are held, each named once, and each part has those of its block alone
pub record AreTaken (o : Origin) (h : Held) (blocks : List ℕ) (parts : List Held) : Type 0 where
  pub count : length parts ≡ length blocks
  pub once : (b : ℕ) → times b blocks ≤ 1
  pub in_data : (i : ℕ) → i < length blocks → IsDataBlock o.sizes (get_or blocks i 0)
  pub whole : (i : ℕ) → i < length blocks → HoldsBlock o h (get_or blocks i 0)
  pub lines : (i : ℕ) → i < length blocks → part parts i ≡ alone (get_or blocks i 0) h

-- ---- places in a list of blocks

-- a block that stands in the list has a place there
some-place : (xs : List ℕ) (b : ℕ) → 0 < times b xs → (i : ℕ) × ((i < length xs) × (get_or xs i 0 ≡ b))
some-place [] b is = absurd (omega (arith, is, times-nil b))
some-place (x ∷ xs) b is = by (x == b) refl (some-place xs b)
  where
    by : (t : Bool) → (x == b) ≡ t → (0 < times b xs → (i : ℕ) × ((i < length xs) × (get_or xs i 0 ≡ b)))
        → (i : ℕ) × ((i < length (x ∷ xs)) × (get_or (x ∷ xs) i 0 ≡ b))
    by true e rest = (0, (omega arith, eqb-true x b e))
    by false e rest = (let at = rest (omega (arith, is, times-cons b x xs, ap one_if e)) in (suc at.0, (omega (arith, at.1.0), at.1.1)))

-- a block that stands in it once has one place
one-place : (xs : List ℕ) (b i j : ℕ) → times b xs ≤ 1 → i < length xs → j < length xs → get_or xs i 0 ≡ b → get_or xs j 0 ≡ b → i ≡ j
one-place [] b i j once low below p q = absurd (omega (arith, low))
one-place (x ∷ xs) b zero zero once low below p q = refl
one-place (x ∷ xs) b zero (suc j) once low below p q =
    absurd (omega (arith, once, ap (λ y. times b (y ∷ xs)) p, times-first b xs, times-at xs j b (omega (arith, below)) q))
one-place (x ∷ xs) b (suc i) zero once low below p q =
    absurd (omega (arith, once, ap (λ y. times b (y ∷ xs)) q, times-first b xs, times-at xs i b (omega (arith, low)) p))
one-place (x ∷ xs) b (suc i) (suc j) once low below p q =
    ap suc (one-place xs b i j (omega (arith, once, times-cons b x xs)) (omega (arith, low)) (omega (arith, below)) p q)

-- ---- the lines of the parts

alone-at : (b : ℕ) (h : Held) (c l : ℕ) (t : Bool) → (c == b) ≡ t → alone b h c l ≡ cond t (h c l) None
unfolding alone
alone-at b h c l t e = ap (λ q. cond q (h c l) None) e

less-line : (xs : List ℕ) (h : Held) (c l : ℕ) (t : Bool) → nat_lt 0 (times c xs) ≡ t → less_all xs h c l ≡ cond t None (h c l)
unfolding less_all
less-line xs h c l t e = ap (λ q. cond q None (h c l)) e

zero-times : {n : ℕ} → n ≡ 0 → nat_lt 0 n ≡ false
zero-times {n} e = grind (nat_tests, arith)

module _ {o : Origin} {h : Held} {blocks : List ℕ} {parts : List Held} (taken : AreTaken o h blocks parts) where
  -- a line of the part's block, and one of another block
  own-line : (i c l : ℕ) → i < length blocks → c ≡ get_or blocks i 0 → part parts i c l ≡ h c l
  own-line i c l low same = ap (λ q. q c l) (taken.lines i low)
      ∙ alone-at (get_or blocks i 0) h c l true (ap (λ q. q == get_or blocks i 0) same ∙ eqb_same (get_or blocks i 0))

  other-line : (i c l : ℕ) → i < length blocks → c ≢ get_or blocks i 0 → part parts i c l ≡ None
  other-line i c l low apart = ap (λ q. q c l) (taken.lines i low)
      ∙ alone-at (get_or blocks i 0) h c l false (differ c (get_or blocks i 0) apart)

  pub taken-data : All (λ b. IsDataBlock o.sizes b) blocks
  taken-data = All-from_get_or (λ b. IsDataBlock o.sizes b) blocks 0 taken.in_data

  -- each part holds its block whole
  pub taken-whole : (i : ℕ) → i < length blocks → HoldsBlock o (part parts i) (get_or blocks i 0)
  taken-whole i low = record { at = λ l within. ap is_some (own-line i (get_or blocks i 0) l low refl) ∙ (taken.whole i low).at l within }

  -- no line is held twice
  pub taken-apart : {k : Held} → Apart k h → AllApart k parts
  taken-apart {k} away = record {
    own = λ i low. record { at = λ c l is. own i c l (omega (arith, low, taken.count)) is (c == get_or blocks i 0) refl };
    each = λ i j low below apart.
        record {
          at = λ c l is. each i j c l (omega (arith, low, taken.count)) (omega (arith, below, taken.count)) apart is
              (c == get_or blocks i 0) refl (c == get_or blocks j 0) refl;
        };
  }
    where
      own : (i c l : ℕ) → i < length blocks → IsSome (k c l) → (t : Bool) → (c == get_or blocks i 0) ≡ t → part parts i c l ≡ None
      own i c l low is true e = own-line i c l low (eqb-true c (get_or blocks i 0) e) ∙ away.at c l is
      own i c l low is false e = other-line i c l low (no c (get_or blocks i 0) e)

      each : (i j c l : ℕ) → i < length blocks → j < length blocks → i ≢ j → IsSome (part parts i c l) → (t : Bool)
          → (c == get_or blocks i 0) ≡ t → (u : Bool) → (c == get_or blocks j 0) ≡ u → part parts j c l ≡ None
      each i j c l low below apart is t e false f = other-line j c l below (no c (get_or blocks j 0) f)
      each i j c l low below apart is false e true f =
          absurd (false≢true (sym (ap is_some (other-line i c l low (no c (get_or blocks i 0) e))) ∙ is))
      each i j c l low below apart is true e true f =
          absurd (apart (one-place blocks c i j (taken.once c) low below (sym (eqb-true c (get_or blocks i 0) e))
          (sym (eqb-true c (get_or blocks j 0) f))))

  -- a page that is a hole can be attached with them
  pub taken-can-attach : {k : Held} (a : List ℕ) (page : ℕ) → IsGeometry o.sizes → Apart k h → page_block o.sizes k a page ≡ 0
      → length blocks ≡ need_of o.sizes k a page 1 → CanAttach o k a page blocks parts
  taken-can-attach {k} a page sizes away hole count = record {
    hole = hole;
    count = count;
    named = λ i low e. omega (arith, e, (taken.in_data i low).least, sizes.least_first);
    as_many = taken.count;
    whole = taken-whole;
    apart = taken-apart away;
  }

  -- once the parts are taken in, their lines are held and no others
  pub taken-joined : {k new : Held} → HoldsAll k parts new → SameLines new (Both k (only blocks h))
  taken-joined {k} {new} all = record { at = λ c l. by c l (is_some (k c l)) refl (nat_lt 0 (times c blocks)) refl (is_some (h c l)) refl }
    where
      both : (c l : ℕ) (s t : Bool) → is_some (k c l) ≡ s → nat_lt 0 (times c blocks) ≡ t
          → is_some (Both k (only blocks h) c l) ≡ cond s true (is_some (cond t (h c l) None))
      both c l s t e f =
          is_some-Both k (only blocks h) c l
          ∙ (ap (λ q. cond q true (is_some (only blocks h c l))) e ∙ ap (λ q. cond s true (is_some q)) (only-at blocks h c l t f))

      nowhere : (c l : ℕ) → is_some (k c l) ≡ false → ((i : ℕ) → i < length parts → part parts i c l ≡ None) → is_some (new c l) ≡ false
      nowhere c l e each = ap is_some (all.only c l (none_from (k c l) e) each)

      by : (c l : ℕ) (s : Bool) → is_some (k c l) ≡ s → (t : Bool) → nat_lt 0 (times c blocks) ≡ t → (u : Bool) → is_some (h c l) ≡ u
          → is_some (new c l) ≡ is_some (Both k (only blocks h) c l)
      by c l true e t f u g = all.own c l e ∙ sym (both c l true t e f)
      by c l false e false f u g =
          nowhere c l e
          (λ i low. other-line i c l (omega (arith, low, taken.count))
          (λ same. absurd (omega (arith, times-at blocks i c (omega (arith, low, taken.count)) (sym same), none (times c blocks) f))))
          ∙ sym (both c l false false e f)
      by c l false e true f true g =
          (let at = some-place blocks c (more (times c blocks) f) in
          all.theirs at.0 (omega (arith, at.1.0, taken.count)) c l (ap is_some (own-line at.0 c l at.1.0 (sym at.1.1)) ∙ g)
          ∙ sym (both c l false true e f ∙ g))
      by c l false e true f false g =
          nowhere c l e (λ i low. nothing i (omega (arith, low, taken.count)) (c == get_or blocks i 0) refl)
          ∙ sym (both c l false true e f ∙ g)
        where
          nothing : (i : ℕ) → i < length blocks → (v : Bool) → (c == get_or blocks i 0) ≡ v → part parts i c l ≡ None
          nothing i low true d = own-line i c l low (eqb-true c (get_or blocks i 0) d) ∙ none_from (h c l) g
          nothing i low false d = other-line i c l low (no c (get_or blocks i 0) d)

-- ---- the lines of both stakes

-- a line, by whether it is held: of both, of those of some blocks, and of all others
both-line : (h k : Held) (xs : List ℕ) (c l : ℕ) (t : Bool) → nat_lt 0 (times c xs) ≡ t
    → is_some (Both h (only xs k) c l) ≡ cond (is_some (h c l)) true (cond t (is_some (k c l)) false)
both-line h k xs c l t e = is_some-Both h (only xs k) c l
    ∙ ap (λ q. cond (is_some (h c l)) true q) (ap is_some (only-at xs k c l t e) ∙ chosen t)
  where
    chosen : (t : Bool) → is_some (cond t (k c l) None) ≡ cond t (is_some (k c l)) false
    chosen true = refl
    chosen false = refl

less-some : (xs : List ℕ) (h : Held) (c l : ℕ) (t : Bool) → nat_lt 0 (times c xs) ≡ t
    → is_some (less_all xs h c l) ≡ cond t false (is_some (h c l))
less-some xs h c l true e = ap is_some (less-line xs h c l true e)
less-some xs h c l false e = ap is_some (less-line xs h c l false e)

-- what the file took and what the core kept are together what they were
pub lines-together : (s c : Held) {mine left : Held} (xs : List ℕ) → SameLines mine (Both s (only xs c)) → SameLines left (less_all xs c)
    → SameLines (Both mine left) (Both s c)
lines-together s c {mine} {left} xs one two = record { at = λ b l. at b l (nat_lt 0 (times b xs)) refl }
  where
    sum : (x y : Bool) (t : Bool) → cond (cond x true (cond t y false)) true (cond t false y) ≡ cond x true y
    sum true y t = refl
    sum false true true = refl
    sum false false true = refl
    sum false y false = refl

    at : (b l : ℕ) (t : Bool) → nat_lt 0 (times b xs) ≡ t → is_some (Both mine left b l) ≡ is_some (Both s c b l)
    at b l t e =
        is_some-Both mine left b l
        ∙ ((λ i. cond ((one.at b l ∙ both-line s c xs b l t e) i) true ((two.at b l ∙ less-some xs c b l t e) i))
        ∙ (sum (is_some (s b l)) (is_some (c b l)) t ∙ sym (is_some-Both s c b l)))

-- and no line is held by both
pub lines-apart : {s c mine left : Held} (xs : List ℕ) → Apart s c → SameLines mine (Both s (only xs c)) → SameLines left (less_all xs c)
    → Apart mine left
lines-apart {s} {c} {mine} {left} xs away one two = record { at = λ b l is. at b l is (nat_lt 0 (times b xs)) refl (is_some (s b l)) refl }
  where
    at : (b l : ℕ) → IsSome (mine b l) → (t : Bool) → nat_lt 0 (times b xs) ≡ t → (u : Bool) → is_some (s b l) ≡ u → left b l ≡ None
    at b l is true e u f = none_from (left b l) (two.at b l ∙ less-some xs c b l true e)
    at b l is false e true f = none_from (left b l) (two.at b l ∙ (less-some xs c b l false e ∙ ap is_some (away.at b l f)))
    at b l is false e false f = absurd (false≢true (sym ((one.at b l ∙ both-line s c xs b l false e) ∙ ap (λ q. cond q true false) f) ∙ is))

-- no block was taken yet
pub joined-none : (s c : Held) → SameLines s (Both s (only [] c))
joined-none s c = record { at = λ b l. sym (both-line s c [] b l false (zero-times (times-nil b)) ∙ same (is_some (s b l))) }
  where
    same : (x : Bool) → cond x true false ≡ x
    same true = refl
    same false = refl

pub apart-other : {h k : Held} → Apart h k → Apart k h
apart-other {h} {k} away = record { at = λ c l is. by c l is (is_some (h c l)) refl }
  where
    by : (c l : ℕ) → IsSome (k c l) → (t : Bool) → is_some (h c l) ≡ t → h c l ≡ None
    by c l is false e = none_from (h c l) e
    by c l is true e = absurd (false≢true (sym (ap is_some (away.at c l e)) ∙ is))

-- the inode's line is held yet
pub inode-joined : {o : Origin} {s mine : Held} {n : ℕ} (c : Held) (xs : List ℕ) → SameLines mine (Both s (only xs c)) → HoldsInode o s n
    → HoldsInode o mine n
inode-joined {o} {s} {mine} {n} c xs one holds = record {
  number = holds.number;
  line = one.at (inode_place o.sizes n).block (inode_place o.sizes n).line
      ∙ (is_some-Both s (only xs c) (inode_place o.sizes n).block (inode_place o.sizes n).line
      ∙ ap (λ q. cond q true (is_some (only xs c (inode_place o.sizes n).block (inode_place o.sizes n).line))) holds.line);
}

-- ---- which blocks are free

-- a block that was taken out of the free ones, once for all blocks, and so many fewer are left
pub takes-times : {S : Type 0} {old new : Core S} {b : ℕ} → Takes old new b → (c : ℕ)
    → free_times new.chain new.aside c + one_if (b == c) ≡ free_times old.chain old.aside c
takes-times {old = old} {new = new} {b = b} (inl aside) c =
    omega (arith, ap (times c) aside.aside, times-snoc c b new.aside, ap (times c) aside.chain)
takes-times {old = old} {new = new} {b = b} (inr chained) c =
    omega (arith, ap (times c) chained.none, ap (times c) chained.aside, times-nil c, ap (times c) chained.chain, times-cons c b new.chain)

pub takes-left : {S : Type 0} {old new : Core S} {b : ℕ} → Takes old new b → left_of new + 1 ≡ left_of old
takes-left {old = old} {new = new} {b = b} (inl aside) =
    omega (arith, ap length aside.aside, length_push new.aside b, ap length aside.chain)
takes-left {old = old} {new = new} {b = b} (inr chained) =
    omega (arith, ap length chained.none, ap length chained.aside, ap length chained.chain)

-- these blocks were taken out of the free ones
pub record TakesAll {S : Type 0} (old new : Core S) (blocks : List ℕ) : Type 0 where
  pub each : (b : ℕ) → free_times new.chain new.aside b + times b blocks ≡ free_times old.chain old.aside b
  pub left : left_of new + length blocks ≡ left_of old

pub takes-none : {S : Type 0} (core : Core S) → TakesAll core core []
takes-none core = record { each = λ b. omega (arith, times-nil b); left = omega arith }
