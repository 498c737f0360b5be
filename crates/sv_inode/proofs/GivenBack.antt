-- Blocks that are cut off a stake, merged back, or freed.
use Rattle.std.proofs.Common.{◌≡◌, ◌≢◌, ◌≤◌, ◌<◌, ◌+◌, ◌++◌, ◌∷◌, ◌==◌, ◌||◌, get_or, ◌⊎◌, inl, inr, [], ℕ, zero, suc, Bool, true, false}
use Rattle.std.proofs.Common.{cond, List, length, take, Option, Some, None, IsSome, is_some, nat_le, nat_lt, append-nil, append_assoc}
use Rattle.std.proofs.Common.{length-append, refl, sym, ap, ◌∙◌, subst, arith}
use Rattle.std.specs.List.{All, sum_by}
use Rattle.std.proofs.Math.Path.{fun_ext}
use Rattle.std.proofs.lemmas.Bool.{eqb-true, false≢true}
use Rattle.std.proofs.lemmas.Bool.Decides.{nat_tests}
use Rattle.std.proofs.lemmas.List.{map_push, take-map}
use Rattle.std.proofs.lemmas.List.Sums.{sum_by-append}
use Rattle.std.proofs.lemmas.List.Elements.{All-nil, All-push, All-same}
use Rattle.sv_dev.specs.Causes.{Rose, counted, last_count}
use Rattle.sv_form.specs.Geometry.{IsDataBlock, IsGeometry, block_lines}
use Rattle.sv_form.specs.declared.owners.LineRange.{LineRange}
use Rattle.sv_store.specs.Calls.{CanPart}
use Rattle.sv_store.specs.Held.{Apart, Both, Held, HoldsBlock, Lent, Origin, SameLines, nothing_lent}
use Rattle.sv_store.proofs.Holding.{CanPart-range, eqb_same, is_some-Both}
use Rattle.sv_bmap.proofs.Parts.{popped}
use Rattle.sv_super.specs.Calls.{Frees}
use Rattle.sv_super.specs.Core.{Core, alone, less}
use Rattle.sv_super.specs.Count.{one_if, times}
use Rattle.sv_super.proofs.Counts.{apart, other, times-cons, times-first, times-nil, times-snoc}
use Rattle.sv_inode.specs.Truncate.{AreBlocks, CanFreeAll, FreesAll, HoldsOther, IsCut, IsCutFrom, IsPart, less_all, names_of, only}

some : (n : ℕ) → 0 < n → nat_lt 0 n ≡ true
some n h = grind (nat_tests, arith)

none : (n : ℕ) → n ≡ 0 → nat_lt 0 n ≡ false
none n h = grind (nat_tests, arith)

is_none : (n : ℕ) → nat_lt 0 n ≡ false → n ≡ 0
is_none n h = grind (nat_tests, arith)

is_more : (n : ℕ) → nat_lt 0 n ≡ true → 0 < n
is_more n h = grind (nat_tests, arith)

-- ---- one block is cut off

-- a block's range can be parted where a line besides is held that is in no data block
pub can-cut : {o : Origin} {h : Held} {m : Lent} (b : ℕ) (r : LineRange) → IsGeometry o.sizes → IsDataBlock o.sizes b → HoldsBlock o h b
    → HoldsOther o h → m ≡ nothing_lent → r.block ≡ b → r.first ≡ 0 → r.count ≡ block_lines o.sizes → CanPart h m (r ∷ [])
can-cut {o} {h} {m} b r sizes in_data holds more lent e f n =
    CanPart-range h m r
    (λ l low high. ap (λ q. is_some (h q l)) e ∙ holds.at l (omega (arith, high, f, n, sizes.block_size)))
    (ap (λ q. q r.block) lent) (omega (arith, n, sizes.block_size)) more.block more.line more.some
    (λ same. absurd (omega (arith, e, same, more.before, in_data.least)))

-- a cut that is undone
pub both-back : (b : ℕ) (h : Held) → Both (less b h) (alone b h) ≡ h
unfolding Both less alone
both-back b h = fun_ext (λ c. fun_ext (λ l. by (c == b) (h c l)))
  where
    same : (p : Option (List ℕ)) → cond (is_some p) p None ≡ p
    same None = refl
    same (Some x) = refl

    by : (t : Bool) (p : Option (List ℕ)) → cond (is_some (cond t None p)) (cond t None p) (cond t p None) ≡ p
    by true p = refl
    by false p = same p

pub less-apart : (h : Held) {k part : Held} (b : ℕ) → k ≡ less b h → part ≡ alone b h → Apart k part
unfolding less alone
less-apart h {k} {part} b e f = record { at = λ c l is. ap (λ q. q c l) f ∙ by (c == b) (h c l) (sym (ap (λ q. is_some (q c l)) e) ∙ is) }
  where
    by : (t : Bool) (p : Option (List ℕ)) → is_some (cond t None p) ≡ true → cond t p None ≡ None
    by true p is = absurd (false≢true is)
    by false p is = refl

-- ---- several

pub less-none : (h : Held) → less_all [] h ≡ h
unfolding less_all
less-none h = fun_ext (λ c. fun_ext (λ l. ap (λ q. cond q None (h c l)) (none (times c []) (times-nil c))))

pub less-more : (b : ℕ) (xs : List ℕ) (h : Held) → less b (less_all xs h) ≡ less_all (xs ++ b ∷ []) h
unfolding less less_all
less-more b xs h = fun_ext (λ c. fun_ext (λ l. by c l (c == b) refl))
  where
    by : (c l : ℕ) (t : Bool) → (c == b) ≡ t
        → cond (c == b) None (cond (nat_lt 0 (times c xs)) None (h c l)) ≡ cond (nat_lt 0 (times c (xs ++ b ∷ []))) None (h c l)
    by c l true e =
        (let same : c ≡ b = eqb-true c b e in
        let here : (b == c) ≡ true = ap (λ q. b == q) same ∙ eqb_same b in
        let more : times c (xs ++ b ∷ []) ≡ times c xs + 1 = times-snoc c b xs ∙ ap (λ t. times c xs + one_if t) here in
        ap (λ q. cond q None (cond (nat_lt 0 (times c xs)) None (h c l))) e
        ∙ sym (ap (λ q. cond q None (h c l)) (some (times c (xs ++ b ∷ [])) (omega (arith, more)))))
    by c l false e =
        (let no : (b == c) ≡ false = other b c (λ q. apart c b e (sym q)) in
        let as_before : times c (xs ++ b ∷ []) ≡ times c xs = times-snoc c b xs ∙ (ap (λ t. times c xs + one_if t) no ∙ omega arith) in
        ap (λ q. cond q None (cond (nat_lt 0 (times c xs)) None (h c l))) e ∙ sym (ap (λ q. cond (nat_lt 0 q) None (h c l)) as_before))

-- the lines of a block that is not among those that are gone
pub alone-less : (b : ℕ) (xs : List ℕ) (h : Held) → times b xs ≡ 0 → alone b (less_all xs h) ≡ alone b h
unfolding alone less_all
alone-less b xs h gone = fun_ext (λ c. fun_ext (λ l. by c l (c == b) refl))
  where
    by : (c l : ℕ) (t : Bool) → (c == b) ≡ t → cond (c == b) (cond (nat_lt 0 (times c xs)) None (h c l)) None ≡ cond (c == b) (h c l) None
    by c l true e =
        ap (λ q. cond (c == b) (cond q None (h c l)) None) (none (times c xs) (ap (λ q. times q xs) (eqb-true c b e) ∙ gone))
    by c l false e = ap (λ q. cond q (cond (nat_lt 0 (times c xs)) None (h c l)) None) e ∙ sym (ap (λ q. cond q (h c l) None) e)

-- a line that is in none of these blocks is still held
pub less-at : (xs : List ℕ) (h : Held) (c l : ℕ) → times c xs ≡ 0 → less_all xs h c l ≡ h c l
unfolding less_all
less-at xs h c l gone = ap (λ q. cond q None (h c l)) (none (times c xs) gone)

pub less-merged : (b : ℕ) (xs : List ℕ) (h : Held) → times b xs ≡ 0 → Both (less_all (xs ++ b ∷ []) h) (alone b h) ≡ less_all xs h
less-merged b xs h gone =
    ap (λ q. Both q (alone b h)) (sym (less-more b xs h))
    ∙ (ap (Both (less b (less_all xs h))) (sym (alone-less b xs h gone)) ∙ both-back b (less_all xs h))

-- ---- what is freed

-- of all these blocks, all but those that are left are freed
pub record FreesUpTo {S : Type 0} (before now : ℕ) (old new : Core S) (all left : List ℕ) : Type 0 where
  pub chained : List ℕ
  pub kept : List ℕ
  pub chain : new.chain ≡ chained ++ old.chain
  pub aside : new.aside ≡ old.aside ++ kept
  pub each : (b : ℕ) → times b chained + times b kept + times b left ≡ times b all
  pub count : length chained + length kept + length left ≡ length all
  pub rose : 0 < length kept → (before < now) ⊎ (last_count ≤ now)

-- ---- places in a list

pub times-take : (b i : ℕ) (xs : List ℕ) → times b (take i xs) ≤ times b xs
times-take b zero xs = omega (arith, times-nil b)
times-take b (suc i) [] = omega arith
times-take b (suc i) (x ∷ xs) = omega (arith, times-take b i xs, times-cons b x (take i xs), times-cons b x xs)

not-before : (xs : List ℕ) (i d : ℕ) → i < length xs → times (get_or xs i d) (take i xs) + 1 ≤ times (get_or xs i d) xs
not-before [] i d low = absurd (omega (arith, low))
not-before (x ∷ xs) zero d low = omega (arith, times-nil x, times-first x xs)
not-before (x ∷ xs) (suc i) d low =
    omega (arith, not-before xs i d (omega (arith, low)), times-cons (get_or xs i d) x (take i xs), times-cons (get_or xs i d) x xs)

-- a block of a list that names each once does not stand before its place
pub named-once : {o : Origin} {h : Held} (xs : List ℕ) (i d : ℕ) → AreBlocks o h xs → i < length xs → times (get_or xs i d) (take i xs) ≡ 0
named-once xs i d all low = omega (arith, not-before xs i d low, all.once (get_or xs i d))

pub is-named : (xs : List ℕ) (i d : ℕ) → i < length xs → 0 < times (get_or xs i d) xs
is-named xs i d low = omega (arith, not-before xs i d low)

-- ---- one block more is cut off

pub cut-none : {S : Type 0} (held : S → Held) (lent : S → Lent) (origin : S → Origin) (forced : S → Bool) (faults : S → ℕ) (o : Origin)
    (h : Held) (cuts : List (ℕ × S)) → cuts ≡ [] → IsCutFrom held lent origin forced faults o h h cuts
cut-none {S} held lent origin forced faults o h cuts e =
    let P : List (ℕ × S) → Type 0 = λ q. IsCutFrom held lent origin forced faults o h h q in
    subst P (sym e) (record {
      left = sym (less-none h);
      each = All-nil (IsCut held lent origin forced faults o h);
      once =
          λ b. omega (arith, times-nil b);
    })

pub cut-more : {S : Type 0} {held : S → Held} {lent : S → Lent} {origin : S → Origin} {forced : S → Bool} {faults : S → ℕ} {o o' : Origin}
    {h now new : Held} {cuts more : List (ℕ × S)} (b : ℕ) → IsCutFrom held lent origin forced faults o h now cuts
    → times b (names_of cuts) ≡ 0 → o' ≡ o → new ≡ less b now
    → (part : S) × ((more ≡ cuts ++ (b, part) ∷ []) × IsCut held lent origin forced faults o' now (b, part))
    → IsCutFrom held lent origin forced faults o h new more
cut-more {S} {held} {lent} {origin} {forced} {faults} {o} {o'} {h} {now} {new} {cuts} {more} b from first home less_now cut = record {
  left = less_now ∙ (ap (less b) from.left ∙ (less-more b (names_of cuts) h ∙ ap (λ q. less_all q h) (sym names)));
  each = All-same (IsCut held lent origin forced faults o h) more (cuts ++ (b, cut.0) ∷ []) cut.1.0
      (All-push (IsCut held lent origin forced faults o h) cuts (b, cut.0) from.each here);
  once = λ c. once c (b == c) refl;
}
  where
    names : names_of more ≡ names_of cuts ++ b ∷ []
    names = ap names_of cut.1.0 ∙ map_push (λ x. x.0) cuts (b, cut.0)

    here : IsCut held lent origin forced faults o h (b, cut.0)
    here = record {
      lines = cut.1.1.lines ∙ (ap (alone b) from.left ∙ alone-less b (names_of cuts) h first);
      away = cut.1.1.away;
      home = cut.1.1.home ∙ home;
      unforced = cut.1.1.unforced;
      none = cut.1.1.none;
    }

    once : (c : ℕ) (t : Bool) → (b == c) ≡ t → times c (names_of more) ≤ 1
    once c true e =
        (let same : times c (names_of cuts) ≡ 0 = ap (λ q. times q (names_of cuts)) (sym (eqb-true b c e)) ∙ first in
        let all : times c (names_of more) ≡ times c (names_of cuts) + 1 = ap (times c) names
        ∙ (times-snoc c b (names_of cuts) ∙ ap (λ q. times c (names_of cuts) + one_if q) e) in
        omega (arith, same, all))
    once c false e =
        (let all : times c (names_of more) ≡ times c (names_of cuts) + 0 = ap (times c) names
        ∙ (times-snoc c b (names_of cuts) ∙ ap (λ q. times c (names_of cuts) + one_if q) e) in
        omega (arith, from.once c, all))

-- what is held of the next block, and of the line that is in none
pub whole-left : {o o' : Origin} {h now : Held} (xs : List ℕ) (i d : ℕ) → AreBlocks o h xs → i < length xs → o' ≡ o
    → now ≡ less_all (take i xs) h → HoldsBlock o' now (get_or xs i d)
whole-left {o} {o'} {h} {now} xs i d all low home left = record {
  at = λ l fits.
      ap (λ q. is_some (q (get_or xs i d) l)) left
      ∙ (ap is_some (less-at (take i xs) h (get_or xs i d) l (named-once xs i d all low))
      ∙ (all.whole (get_or xs i d) (is-named xs i d low)).at l (omega (arith, fits, ap (λ q. q.sizes.block_size) home)));
}

pub data-left : {o o' : Origin} {h : Held} (xs : List ℕ) (i d : ℕ) → AreBlocks o h xs → i < length xs → o' ≡ o
    → IsDataBlock o'.sizes (get_or xs i d)
data-left xs i d all low home = let P : Origin
    → Type 0 = λ q. IsDataBlock q.sizes (get_or xs i d) in subst P (sym home) (all.in_data (get_or xs i d) (is-named xs i d low))

pub other-left : {o o' : Origin} {h now : Held} (xs : List ℕ) (i : ℕ) → AreBlocks o h xs → HoldsOther o h → o' ≡ o
    → now ≡ less_all (take i xs) h → HoldsOther o' now
other-left {o} {o'} {h} {now} xs i all more home left = record {
  block = more.block;
  line = more.line;
  some = ap (λ q. is_some (q more.block more.line)) left ∙ (ap is_some (less-at (take i xs) h more.block more.line gone) ∙ more.some);
  before = omega (arith, more.before, ap (λ q. q.sizes.first_data) home);
}
  where
    gone : times more.block (take i xs) ≡ 0
    gone = by (nat_lt 0 (times more.block xs)) refl
      where
        by : (t : Bool) → nat_lt 0 (times more.block xs) ≡ t → times more.block (take i xs) ≡ 0
        by false e = omega (arith, times-take more.block i xs, is_none (times more.block xs) e)
        by true e = absurd (omega (arith, more.before, (all.in_data more.block (is_more (times more.block xs) e)).least))

-- ---- what was cut off comes back

-- the last of the first n
pub cut-at : {S : Type 0} {held : S → Held} {lent : S → Lent} {origin : S → Origin} {forced : S → Bool} {faults : S → ℕ} {o : Origin}
    {h : Held} (ps xs ys : List (ℕ × S)) (x : ℕ × S) (n m : ℕ) → All (IsCut held lent origin forced faults o h) ps → xs ≡ take n ps
    → n ≤ length ps → n ≡ m + 1 → xs ≡ ys ++ x ∷ [] → IsCut held lent origin forced faults o h x
cut-at {S} {held} {lent} {origin} {forced} {faults} {o} {h} ps xs ys x n m all front low next pop =
    let P : ℕ × S → Type 0 = IsCut held lent origin forced faults o h in
    subst P (sym (popped ps xs ys x x n m front low next pop).1) (all m x (omega (arith, low, next)))

pub part-at : {S : Type 0} {held : S → Held} {lent : S → Lent} {origin : S → Origin} {forced : S → Bool} {o : Origin} {h : Held}
    (ps xs ys : List (ℕ × S)) (x : ℕ × S) (n m : ℕ) → All (IsPart held lent origin forced o h) ps → xs ≡ take n ps → n ≤ length ps
    → n ≡ m + 1 → xs ≡ ys ++ x ∷ [] → IsPart held lent origin forced o h x
part-at {S} {held} {lent} {origin} {forced} {o} {h} ps xs ys x n m all front low next pop =
    let P : ℕ × S → Type 0 = IsPart held lent origin forced o h in
    subst P (sym (popped ps xs ys x x n m front low next pop).1) (all m x (omega (arith, low, next)))

pub names-push : {S : Type 0} (xs ys : List (ℕ × S)) (x : ℕ × S) → xs ≡ ys ++ x ∷ [] → names_of xs ≡ names_of ys ++ x.0 ∷ []
names-push xs ys x pop = ap names_of pop ∙ map_push (λ q. q.0) ys x

pub names-in : {S : Type 0} (xs ys : List (ℕ × S)) (x : ℕ × S) → xs ≡ ys ++ x ∷ [] → 0 < times x.0 (names_of xs)
names-in xs ys x pop =
    let all : times x.0 (names_of xs) ≡ times x.0 (names_of ys) + one_if (x.0 == x.0) = ap (times x.0) (names-push xs ys x pop)
    ∙ times-snoc x.0 x.0 (names_of ys) in
    omega (arith, all, ap one_if (eqb_same x.0))

-- it is named once, so that it is not among those before it
pub names-first : {S : Type 0} (ps xs ys : List (ℕ × S)) (x : ℕ × S) (n m : ℕ) → ((b : ℕ) → times b (names_of ps) ≤ 1) → xs ≡ take n ps
    → n ≤ length ps → n ≡ m + 1 → xs ≡ ys ++ x ∷ [] → times x.0 (names_of ys) ≡ 0
names-first ps xs ys x n m once front low next pop =
    let all : times x.0 (names_of xs) ≡ times x.0 (names_of ys) + one_if (x.0 == x.0) = ap (times x.0) (names-push xs ys x pop)
    ∙ times-snoc x.0 x.0 (names_of ys) in
    let some_of : times x.0 (names_of xs) ≡ times x.0 (take n (names_of ps)) = ap (λ q. times x.0 (names_of q)) front
    ∙ ap (times x.0) (sym (take-map (λ q. q.0) n ps)) in
    omega (arith, all, some_of, ap one_if (eqb_same x.0), once x.0, times-take x.0 n (names_of ps))

-- it is one of all
pub names-of-all : {S : Type 0} (ps xs ys : List (ℕ × S)) (x : ℕ × S) (n : ℕ) → xs ≡ take n ps → xs ≡ ys ++ x ∷ []
    → 0 < times x.0 (names_of ps)
names-of-all ps xs ys x n front pop =
    let some_of : times x.0 (names_of xs) ≡ times x.0 (take n (names_of ps)) = ap (λ q. times x.0 (names_of q)) front
    ∙ ap (times x.0) (sym (take-map (λ q. q.0) n ps)) in
    omega (arith, some_of, names-in xs ys x pop, times-take x.0 n (names_of ps))

less-all-apart : (h : Held) {k part : Held} (b : ℕ) (xs : List ℕ) → k ≡ less_all xs h → 0 < times b xs → part ≡ alone b h → Apart k part
unfolding less_all alone
less-all-apart h {k} {part} b xs e gone f =
    record { at = λ c l is. ap (λ q. q c l) f ∙ by c l (c == b) refl (sym (ap (λ q. is_some (q c l)) e) ∙ is) }
  where
    by : (c l : ℕ) (t : Bool) → (c == b) ≡ t → is_some (cond (nat_lt 0 (times c xs)) None (h c l)) ≡ true
        → cond (c == b) (h c l) None ≡ None
    by c l true q is =
        absurd (false≢true (sym
        (ap (λ t. is_some (cond t None (h c l))) (some (times c xs) (omega (arith, gone, ap (λ z. times z xs) (eqb-true c b q)))))
        ∙ is))
    by c l false q is = ap (λ t. cond t (h c l) None) q

pub merge-apart : {S : Type 0} {held : S → Held} {lent : S → Lent} {origin : S → Origin} {forced : S → Bool} {faults : S → ℕ} {o : Origin}
    {h was now : Held} (ps xs ys : List (ℕ × S)) (x : ℕ × S) (n m : ℕ) → IsCutFrom held lent origin forced faults o h was ps
    → xs ≡ take n ps → n ≤ length ps → n ≡ m + 1 → xs ≡ ys ++ x ∷ [] → now ≡ less_all (names_of xs) h → Apart now (held x.1)
merge-apart {h = h} ps xs ys x n m from front low next pop left =
    less-all-apart h x.0 (names_of xs) left (names-in xs ys x pop) (cut-at ps xs ys x n m from.each front low next pop).lines

pub merged-more : {S : Type 0} {held : S → Held} {lent : S → Lent} {origin : S → Origin} {forced : S → Bool} {faults : S → ℕ} {o : Origin}
    {h was now new : Held} (ps xs ys : List (ℕ × S)) (x : ℕ × S) (n m : ℕ) → IsCutFrom held lent origin forced faults o h was ps
    → xs ≡ take n ps → n ≤ length ps → n ≡ m + 1 → xs ≡ ys ++ x ∷ [] → now ≡ less_all (names_of xs) h → new ≡ Both now (held x.1)
    → new ≡ less_all (names_of ys) h
merged-more {h = h} {now = now} ps xs ys x n m from front low next pop left both =
    both
    ∙ (ap (Both now) (cut-at ps xs ys x n m from.each front low next pop).lines
    ∙ (ap (λ q. Both q (alone x.0 h)) (left ∙ ap (λ q. less_all q h) (names-push xs ys x pop))
    ∙ less-merged x.0 (names_of ys) h (names-first ps xs ys x n m from.once front low next pop)))

-- ---- blocks that are freed

le-or : (a b : ℕ) → (a ≤ b) ⊎ (b < a)
le-or a b = by (nat_le a b) refl
  where
    by : (t : Bool) → nat_le a b ≡ t → (a ≤ b) ⊎ (b < a)
    by true e = inl (grind (nat_tests, arith))
    by false e = inr (grind (nat_tests, arith))

pub freed-none : {S : Type 0} (before : ℕ) (old : Core S) (all left : List ℕ) → left ≡ all → FreesUpTo before before old old all left
freed-none before old all left e = record {
  chained = [];
  kept = [];
  chain = refl;
  aside = sym (append-nil old.aside);
  each = λ b. omega (arith, times-nil b, ap (times b) e);
  count = omega (arith, ap length e);
  rose = λ some_kept. absurd (omega (arith, some_kept));
}

pub freed-all : {S : Type 0} {before now : ℕ} {old new : Core S} {all left : List ℕ} → left ≡ [] → FreesUpTo before now old new all left
    → FreesAll before now old new all
freed-all {left = left} e freed = record {
  chained = freed.chained;
  kept = freed.kept;
  chain = freed.chain;
  aside = freed.aside;
  each = λ b. omega (arith, freed.each b, ap (times b) e, times-nil b);
  count = omega (arith, freed.count, ap length e);
  rose = freed.rose;
}

-- a count of faults has risen, and rises on
later : (before was now : ℕ) → counted was 0 ≤ now → (before < was) ⊎ (last_count ≤ was) → (before < now) ⊎ (last_count ≤ now)
later before was now more (inl rose) = by (le-or last_count now)
  where
    by : (last_count ≤ now) ⊎ (now < last_count) → (before < now) ⊎ (last_count ≤ now)
    by (inl high) = inr high
    by (inr low) = inl (omega (arith, more, rose, low))
later before was now more (inr high) = inr (omega (arith, more, high))

rose-now : (before was met now : ℕ) → counted before 0 ≤ was → counted was 0 ≤ met → Rose met now → (before < now) ⊎ (last_count ≤ now)
rose-now before was met now first up (inl rose) = by (le-or last_count now)
  where
    by : (last_count ≤ now) ⊎ (now < last_count) → (before < now) ⊎ (last_count ≤ now)
    by (inl high) = inr high
    by (inr low) = inl (omega (arith, first, up, rose, low))
rose-now before was met now first up (inr last) = inr (omega (arith, last))

pub freed-more : {S : Type 0} {before was met now : ℕ} {old mid new : Core S} {all xs ys : List ℕ} (b : ℕ)
    → FreesUpTo before was old mid all xs → counted before 0 ≤ was → counted was 0 ≤ met → met ≤ now → xs ≡ ys ++ b ∷ []
    → Frees met now mid new b → FreesUpTo before now old new all ys
freed-more {S} {before} {was} {met} {now} {old} {mid} {new} {all} {xs} {ys} b freed first e more pop frees = by frees
  where
    up : counted was 0 ≤ now
    up = omega (arith, e, more)

    left : (c : ℕ) → times c xs ≡ times c ys + one_if (b == c)
    left c = ap (times c) pop ∙ times-snoc c b ys

    long : length xs ≡ length ys + 1
    long = ap length pop ∙ length-append ys (b ∷ [])

    by : Frees met now mid new b → FreesUpTo before now old new all ys
    by (inl chains) = record {
      chained = b ∷ freed.chained;
      kept = freed.kept;
      chain = chains.chain ∙ ap (λ q. b ∷ q) freed.chain;
      aside = chains.aside ∙ freed.aside;
      each = λ c. omega (arith, freed.each c, left c, times-cons c b freed.chained);
      count = omega (arith, freed.count, long);
      rose = λ some_kept. later before was now up (freed.rose some_kept);
    }
    by (inr sets) = record {
      chained = freed.chained;
      kept = freed.kept ++ b ∷ [];
      chain = sets.chain ∙ freed.chain;
      aside = sets.aside ∙ (ap (λ q. q ++ b ∷ []) freed.aside ∙ append_assoc old.aside freed.kept (b ∷ []));
      each = λ c. omega (arith, freed.each c, left c, times-snoc c b freed.kept);
      count = omega (arith, freed.count, long, length-append freed.kept (b ∷ []));
      rose = λ some_kept. rose-now before was met now first e sets.rose;
    }

-- ---- lines of blocks that are freed

pub only-at : (xs : List ℕ) (h : Held) (c l : ℕ) (t : Bool) → nat_lt 0 (times c xs) ≡ t → only xs h c l ≡ cond t (h c l) None
unfolding only
only-at xs h c l t e = ap (λ q. cond q (h c l) None) e

pub alone-at : (b : ℕ) (h : Held) (c l : ℕ) (t : Bool) → (c == b) ≡ t → alone b h c l ≡ cond t (h c l) None
unfolding alone
alone-at b h c l t e = ap (λ q. cond q (h c l) None) e

pub no-line : (p : Option (List ℕ)) → is_some p ≡ false → p ≡ None
no-line None e = refl
no-line (Some x) e = absurd (false≢true (sym e))

-- the lines of one more of them
only-same : (xs ys : List ℕ) (b : ℕ) (h : Held) (c l : ℕ) → xs ≡ ys ++ b ∷ [] → (c == b) ≡ false → only xs h c l ≡ only ys h c l
only-same xs ys b h c l pop e =
    let no : (b == c) ≡ false = other b c (λ q. apart c b e (sym q)) in
    let as_before : times c xs ≡ times c ys = ap (times c) pop ∙ (times-snoc c b ys ∙ (ap (λ t. times c ys + one_if t) no ∙ omega arith)) in
    only-at xs h c l (nat_lt 0 (times c ys)) (ap (nat_lt 0) as_before) ∙ sym (only-at ys h c l (nat_lt 0 (times c ys)) refl)

only-here : (xs : List ℕ) (b : ℕ) (h : Held) (c l : ℕ) → 0 < times b xs → (c == b) ≡ true → only xs h c l ≡ h c l
only-here xs b h c l is e =
    only-at xs h c l true (some (times c xs) (omega (arith, is, ap (λ q. times q xs) (eqb-true c b e))))

pub only-apart : (h : Held) {k part : Held} (b : ℕ) (xs : List ℕ) → Apart k (only xs h) → 0 < times b xs → SameLines part (alone b h)
    → Apart k part
only-apart h {k} {part} b xs away is e = record { at = λ c l held. by c l held (c == b) refl }
  where
    by : (c l : ℕ) → IsSome (k c l) → (t : Bool) → (c == b) ≡ t → part c l ≡ None
    by c l held true q =
        no-line (part c l) (e.at c l ∙ ap is_some (alone-at b h c l true q ∙ (sym (only-here xs b h c l is q) ∙ away.at c l held)))
    by c l held false q = no-line (part c l) (e.at c l ∙ ap is_some (alone-at b h c l false q))

-- what the core holds after a block was freed
pub apart-more : (h : Held) {k part new : Held} (b : ℕ) (xs ys : List ℕ) → Apart k (only xs h) → xs ≡ ys ++ b ∷ [] → times b ys ≡ 0
    → SameLines part (alone b h) → SameLines new (Both k part) → Apart new (only ys h)
apart-more h {k} {part} {new} b xs ys away pop gone e same = record { at = λ c l held. by c l held (c == b) refl }
  where
    by : (c l : ℕ) → IsSome (new c l) → (t : Bool) → (c == b) ≡ t → only ys h c l ≡ None
    by c l held true q = only-at ys h c l false (none (times c ys) (ap (λ z. times z ys) (eqb-true c b q) ∙ gone))
    by c l held false q = sym (only-same xs ys b h c l pop q) ∙ away.at c l (mine (is_some (k c l)) refl)
      where
        mine : (t : Bool) → is_some (k c l) ≡ t → is_some (k c l) ≡ true
        mine true z = z
        mine false z =
            absurd (false≢true (sym (e.at c l ∙ ap is_some (alone-at b h c l false q))
            ∙ (sym (ap (λ w. cond w true (is_some (part c l))) z) ∙ (sym (is_some-Both k part c l) ∙ (sym (same.at c l) ∙ held)))))

pub lines-more : (k h first : Held) (all : List ℕ) {part new : Held} (b : ℕ) (xs ys : List ℕ) → xs ≡ ys ++ b ∷ [] → 0 < times b xs
    → times b ys ≡ 0 → SameLines part (alone b h) → SameLines new (Both k part) → SameLines (Both k (only xs h)) (Both first (only all h))
    → SameLines (Both new (only ys h)) (Both first (only all h))
lines-more k h first all {part} {new} b xs ys pop is gone e same before = record { at = λ c l. by c l (c == b) refl ∙ before.at c l }
  where
    now : (c l : ℕ) → is_some (Both new (only ys h) c l) ≡ cond (cond (is_some (k c l)) true (is_some (part c l))) true
        (is_some (only ys h c l))
    now c l = is_some-Both new (only ys h) c l ∙ ap (λ q. cond q true (is_some (only ys h c l))) (same.at c l ∙ is_some-Both k part c l)

    three : (x y : Bool) → cond (cond x true y) true false ≡ cond x true y
    three true y = refl
    three false true = refl
    three false false = refl

    two : (x y : Bool) → cond (cond x true false) true y ≡ cond x true y
    two true y = refl
    two false y = refl

    by : (c l : ℕ) (t : Bool) → (c == b) ≡ t → is_some (Both new (only ys h) c l) ≡ is_some (Both k (only xs h) c l)
    by c l true q =
        now c l
        ∙ (ap (λ z. cond (cond (is_some (k c l)) true (is_some (part c l))) true (is_some z))
        (only-at ys h c l false (none (times c ys) (ap (λ z. times z ys) (eqb-true c b q) ∙ gone)))
        ∙ (three (is_some (k c l)) (is_some (part c l))
        ∙ (ap (cond (is_some (k c l)) true) (e.at c l ∙ ap is_some (alone-at b h c l true q ∙ sym (only-here xs b h c l is q)))
        ∙ sym (is_some-Both k (only xs h) c l))))
    by c l false q =
        now c l
        ∙ (ap (λ z. cond (cond (is_some (k c l)) true z) true (is_some (only ys h c l))) (e.at c l ∙ ap is_some (alone-at b h c l false q))
        ∙ (two (is_some (k c l)) (is_some (only ys h c l))
        ∙ (ap (λ z. cond (is_some (k c l)) true (is_some z)) (sym (only-same xs ys b h c l pop q))
        ∙ sym (is_some-Both k (only xs h) c l))))

-- a block that is not among those that are freed
pub others-more : (k h : Held) {part new : Held} (b : ℕ) (all : List ℕ) → 0 < times b all → SameLines part (alone b h)
    → ((c l : ℕ) → c ≢ b → new c l ≡ Both k part c l) → (c l : ℕ) → times c all ≡ 0 → new c l ≡ k c l
unfolding Both
others-more k h {part} {new} b all is e rest c l gone =
    rest c l away
    ∙ (ap (λ q. cond (is_some (k c l)) (k c l) q) (no-line (part c l) (e.at c l ∙ ap is_some (alone-at b h c l false (other c b away))))
    ∙ same (k c l))
  where
    away : c ≢ b
    away q = absurd (omega (arith, is, gone, ap (λ z. times z all) q))

    same : (p : Option (List ℕ)) → cond (is_some p) p None ≡ p
    same None = refl
    same (Some x) = refl

-- no block is left
pub lines-all : (k h first : Held) (all : List ℕ) {left : List ℕ} → left ≡ [] → SameLines (Both k (only left h)) (Both first (only all h))
    → SameLines k (Both first (only all h))
lines-all k h first all {left} e same = record { at = λ c l. by c l (is_some (k c l)) refl ∙ same.at c l }
  where
    by : (c l : ℕ) (t : Bool) → is_some (k c l) ≡ t → is_some (k c l) ≡ is_some (Both k (only left h) c l)
    by c l true q = q ∙ sym (is_some-Both k (only left h) c l ∙ ap (λ z. cond z true (is_some (only left h c l))) q)
    by c l false q =
        q
        ∙ sym (is_some-Both k (only left h) c l
        ∙ (ap (λ z. cond z true (is_some (only left h c l))) q
        ∙ ap is_some (only-at left h c l false (none (times c left) (ap (times c) e ∙ times-nil c)))))

pub names-none : {S : Type 0} (ps xs : List (ℕ × S)) (n : ℕ) → xs ≡ take n ps → n ≡ 0 → names_of xs ≡ []
names-none ps xs n front e = ap names_of (front ∙ ap (λ q. take q ps) e)

pub holds-part : {o : Origin} {h part : Held} (b : ℕ) → SameLines part (alone b h) → HoldsBlock o h b → HoldsBlock o part b
holds-part {o} {h} {part} b lines whole =
    record { at = λ l fits. lines.at b l ∙ (ap is_some (alone-at b h b l true (eqb_same b)) ∙ whole.at l fits) }

-- what one cut needs to be freed
pub block-freed : {S : Type 0} {held : S → Held} {lent : S → Lent} {origin : S → Origin} {forced : S → Bool} {o o' : Origin}
    {h mine : Held} (ps xs ys : List (ℕ × S)) (x : ℕ × S) (n m : ℕ) → CanFreeAll held lent origin forced o h mine ps → xs ≡ take n ps
    → n ≤ length ps → n ≡ m + 1 → xs ≡ ys ++ x ∷ [] → o' ≡ o → HoldsBlock o' (held x.1) x.0
block-freed {held = held} {o = o} {o' = o'} {h = h} ps xs ys x n m can front low next pop home =
    let P : Origin → Type 0 = λ q. HoldsBlock q (held x.1) x.0 in
    subst P (sym home) (holds-part x.0 (part-at ps xs ys x n m can.each front low next pop).lines
    (can.are.whole x.0 (names-of-all ps xs ys x n front pop)))

pub data-freed : {S : Type 0} {held : S → Held} {lent : S → Lent} {origin : S → Origin} {forced : S → Bool} {o o' : Origin} {h mine : Held}
    (ps xs ys : List (ℕ × S)) (x : ℕ × S) (n : ℕ) → CanFreeAll held lent origin forced o h mine ps → xs ≡ take n ps → xs ≡ ys ++ x ∷ []
    → o' ≡ o → IsDataBlock o'.sizes x.0
data-freed ps xs ys x n can front pop home =
    let P : Origin → Type 0 = λ q. IsDataBlock q.sizes x.0 in
    subst P (sym home) (can.are.in_data x.0 (names-of-all ps xs ys x n front pop))

-- a part on which no call was forced
pub unforced-more : (first : Bool) {was part now : Bool} → now ≡ (was || part) → part ≡ false → was ≡ first → now ≡ first
unforced-more first {was} {part} {now} e unforced before = e ∙ (ap (λ q. was || q) unforced ∙ (or_false was ∙ before))
  where
    or_false : (t : Bool) → (t || false) ≡ t
    or_false true = refl
    or_false false = refl

-- ---- faults of the parts that are freed

sum-snoc : {S : Type 0} (f : ℕ × S → ℕ) (ys : List (ℕ × S)) (x : ℕ × S) → sum_by f (ys ++ x ∷ []) ≡ sum_by f ys + f x
sum-snoc f ys x = sum_by-append f ys (x ∷ []) ∙ omega arith

pub none-left : {S : Type 0} (f : ℕ × S → ℕ) (first now total n : ℕ) (ps xs : List (ℕ × S))
    → counted first total ≤ counted now (sum_by f xs) → xs ≡ take n ps → n ≡ 0 → counted first total ≤ now
none-left f first now total n ps xs before front e =
    let none_of : sum_by f xs ≡ 0 = ap (sum_by f) (front ∙ ap (λ q. take q ps) e) in
    omega (arith, before, none_of)

pub all-faults : {S : Type 0} (f : ℕ × S → ℕ) (first was now : ℕ) (xs ys : List (ℕ × S)) (x : ℕ × S) (total : ℕ)
    → counted first total ≤ counted was (sum_by f xs) → xs ≡ ys ++ x ∷ [] → counted was (f x) ≤ now
    → counted first total ≤ counted now (sum_by f ys)
all-faults f first was now xs ys x total before pop met =
    let all : sum_by f xs ≡ sum_by f ys + f x = ap (sum_by f) pop ∙ sum-snoc f ys x in
    omega (arith, before, all, met)
