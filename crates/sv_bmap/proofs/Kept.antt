-- Parts of which one is written.
use Rattle.std.proofs.Common.{◌≡◌, ◌≢◌, ◌<◌, ◌≤◌, ◌+◌, ◌*◌, ◌==◌, ◌||◌, inl, inr, ℕ, suc, Bool, true, false, List, [], ◌∷◌, length, map}
use Rattle.std.proofs.Common.{get_or, set, replicate, None, is_some, refl, sym, ap, ◌∙◌, subst, arith}
use Rattle.std.specs.List.{All, list_any, sum_by}
use Rattle.std.proofs.lemmas.List.Sums.{sum_by-cons}
use Rattle.std.proofs.Math.Seq.{map-set_same}
use Rattle.std.proofs.lemmas.Bool.{eqb-true}
use Rattle.std.proofs.lemmas.Bool.Decides.{nat_tests}
use Rattle.std.proofs.lemmas.List.{length-map, length-set, map-set, get_or-map, get_or-set_same, get_or-set_other}
use Rattle.std.proofs.lemmas.List.Elements.{All-set}
use Rattle.sv_dev.specs.Causes.{Rose, counted}
use Rattle.sv_store.specs.Held.{Held, Lent, Origin, HoldsBlock, SameLines, nothing_lent, put}
use Rattle.sv_store.proofs.Holding.{SameLines-put, SameLines-trans, SameLines-eq, put-line, none_from}
use Rattle.sv_bmap.specs.Attach.{Keeps}
use Rattle.sv_bmap.specs.Parts.{AllApart, part}
use Rattle.sv_bmap.specs.Rows.{HasBytes, LeadsFrom}
use Rattle.sv_bmap.specs.Tree.{number_in}
use Rattle.sv_bmap.specs.Writes.{PutsNumber}
use Rattle.sv_bmap.proofs.Rows.{made-next, made-empty}

no : (x y : ℕ) → (x == y) ≡ false → x ≢ y
no x y h = grind (nat_tests, arith)

-- what part j holds, after part i was written
part-here : {S : Type 0} (held : S → Held) (xs : List S) (i : ℕ) (p : S) → i < length xs → part (map held (set xs i p)) i ≡ held p
part-here held xs i p low =
    ap (λ q. get_or q i (λ _ _. None)) (map-set held xs i p)
    ∙ get_or-set_same (map held xs) i (held p) (λ _ _. None) (omega (arith, low, length-map xs held))

part-other : {S : Type 0} (held : S → Held) (xs : List S) (i j : ℕ) (p : S) → j ≢ i → part (map held (set xs i p)) j ≡ part (map held xs) j
part-other held xs i j p apart =
    ap (λ q. get_or q j (λ _ _. None)) (map-set held xs i p) ∙ get_or-set_other (map held xs) i j (held p) (λ _ _. None) apart

-- what part i holds, where it was read
pub part-of : {S : Type 0} (held : S → Held) (xs : List S) (i : ℕ) (x : S) → x ≡ get_or xs i x → i < length xs
    → part (map held xs) i ≡ held x
part-of held xs i x is low = get_or-map held xs i x (λ _ _. None) low ∙ ap held (sym is)

pub keeps-all : {S : Type 0} (held : S → Held) (lent : S → Lent) (origin : S → Origin) (forced : S → Bool) (faults : S → ℕ) (xs : List S)
    → All (λ p. lent p ≡ nothing_lent) xs → Keeps held lent origin forced faults xs xs
keeps-all held lent origin forced faults xs away = record {
  count = refl;
  lines = λ i low. SameLines-eq _ _ refl;
  away = away;
  home = refl;
  as_forced = refl;
  no_less = λ i low. omega arith;
}

-- one part is written, or a call of it was refused
pub keeps-set : {S : Type 0} {held : S → Held} {lent : S → Lent} {origin : S → Origin} {forced : S → Bool} {faults : S → ℕ}
    {old mid : List S} (i : ℕ) (p x : S) → x ≡ get_or mid i x → Keeps held lent origin forced faults old mid → i < length mid
    → SameLines (held p) (held x) → lent p ≡ nothing_lent → origin p ≡ origin x → forced p ≡ forced x → faults x ≤ faults p
    → Keeps held lent origin forced faults old (set mid i p)
keeps-set {S} {held} {lent} {origin} {forced} {faults} {old} {mid} i p x read keeps low lines away home as-forced no-less = record {
  count = length-set mid i p ∙ keeps.count;
  lines = λ j below. by-line j below (j == i) refl;
  away = All-set (λ q. lent q ≡ nothing_lent) mid i p away keeps.away;
  home = map-set_same origin mid i p x (home ∙ ap origin read) ∙ keeps.home;
  as_forced = map-set_same forced mid i p x (as-forced ∙ ap forced read) ∙ keeps.as_forced;
  no_less = λ j below. by-count j below (j == i) refl;
}
  where
    by-line : (j : ℕ) → j < length old → (t : Bool) → (j == i) ≡ t → SameLines (part (map held (set mid i p)) j) (part (map held old) j)
    by-line j below true e =
        (let same : j ≡ i = eqb-true j i e in
        let here : part (map held (set mid i p)) j ≡ held p = ap (λ q. part (map held (set mid i p)) q) same ∙ part-here held mid i p low in
        let was : held x ≡ part (map held mid) j = sym (part-of held mid i x read low) ∙ ap (λ q. part (map held mid) q) (sym same) in
        SameLines-trans (SameLines-eq _ _ here) (SameLines-trans lines (SameLines-trans (SameLines-eq _ _ was) (keeps.lines j below))))
    by-line j below false e = SameLines-trans (SameLines-eq _ _ (part-other held mid i j p (no j i e))) (keeps.lines j below)

    by-count : (j : ℕ) → j < length old → (t : Bool) → (j == i) ≡ t → get_or (map faults old) j 0 ≤ get_or (map faults (set mid i p)) j 0
    by-count j below true e =
        (let same : j ≡ i = eqb-true j i e in
        let now : get_or (map faults (set mid i p)) j 0 ≡ faults p = ap (λ q. get_or (map faults (set mid i p)) q 0) same
        ∙ (ap (λ q. get_or q i 0) (map-set faults mid i p)
        ∙ get_or-set_same (map faults mid) i (faults p) 0 (omega (arith, low, length-map mid faults))) in
        let was : get_or (map faults mid) j 0 ≡ faults x = ap (λ q. get_or (map faults mid) q 0) same
        ∙ (get_or-map faults mid i x 0 low ∙ ap faults (sym read)) in
        omega (arith, now, was, no-less, keeps.no_less j below))
    by-count j below false e =
        (let now : get_or (map faults (set mid i p)) j 0 ≡ get_or (map faults mid) j 0 = ap (λ q. get_or q j 0) (map-set faults mid i p)
        ∙ get_or-set_other (map faults mid) i j (faults p) 0 (no j i e) in
        omega (arith, now, keeps.no_less j below))

-- the count of the part that was refused rose
pub rose-set : {S : Type 0} {held : S → Held} {lent : S → Lent} {origin : S → Origin} {forced : S → Bool} {faults : S → ℕ}
    {old mid : List S} (i : ℕ) (p x : S) → x ≡ get_or mid i x → Keeps held lent origin forced faults old mid → i < length mid
    → Rose (faults x) (faults p)
    → (j : ℕ) × ((j < length (map faults old)) × Rose (get_or (map faults old) j 0) (get_or (map faults (set mid i p)) j 0))
rose-set {S} {held} {lent} {origin} {forced} {faults} {old} {mid} i p x read keeps low rose =
    (i, (omega (arith, low, keeps.count, length-map old faults), by rose))
  where
    now : get_or (map faults (set mid i p)) i 0 ≡ faults p
    now = ap (λ q. get_or q i 0) (map-set faults mid i p)
        ∙ get_or-set_same (map faults mid) i (faults p) 0 (omega (arith, low, length-map mid faults))

    was : get_or (map faults mid) i 0 ≡ faults x
    was = get_or-map faults mid i x 0 low ∙ ap faults (sym read)

    by : Rose (faults x) (faults p) → Rose (get_or (map faults old) i 0) (get_or (map faults (set mid i p)) i 0)
    by (inl less) = inl (omega (arith, now, was, less, keeps.no_less i (omega (arith, low, keeps.count))))
    by (inr end) = inr (now ∙ end)

-- ---- what the parts hold

-- what a part holds of its block whole, it holds whole after the writes
pub holds-kept : {S : Type 0} {held : S → Held} {lent : S → Lent} {origin : S → Origin} {forced : S → Bool} {faults : S → ℕ}
    {old new : List S} {o : Origin} → Keeps held lent origin forced faults old new → (i b : ℕ) → i < length old
    → HoldsBlock o (part (map held old) i) b → HoldsBlock o (part (map held new) i) b
holds-kept keeps i b low holds = record { at = λ l within. (keeps.lines i low).at b l ∙ holds.at l within }

-- the element that is read holds its block whole
pub holds-read : {S : Type 0} {held : S → Held} {lent : S → Lent} {origin : S → Origin} {forced : S → Bool} {faults : S → ℕ}
    {old mid : List S} {o o' : Origin} → Keeps held lent origin forced faults old mid → (i b : ℕ) (x : S) → x ≡ get_or mid i x
    → i < length old → o' ≡ o → HoldsBlock o (part (map held old) i) b → HoldsBlock o' (held x) b
holds-read {S} {held} {lent} {origin} {forced} {faults} {old} {mid} {o} {o'} keeps i b x read low e holds =
    let P : Held → Type 0 = λ q. HoldsBlock o q b in
    let Q : Origin → Type 0 = λ q. HoldsBlock q (held x) b in
    subst Q (sym e) (subst P (part-of held mid i x read (omega (arith, low, keeps.count))) (holds-kept keeps i b low holds))

pub same-put : {h k : Held} (b : ℕ) (bytes : List ℕ) → k ≡ put b bytes h → SameLines k h
same-put {h} {k} b bytes puts = SameLines-trans (SameLines-eq _ _ puts) (SameLines-put b bytes h)

-- the bytes of the part that is written
pub has-bytes : {S : Type 0} {o : Origin} (held : S → Held) (xs : List S) (i b : ℕ) (bytes : List ℕ) (p x : S) → i < length xs
    → HoldsBlock o (held x) b → held p ≡ put b bytes (held x) → HasBytes o (map held (set xs i p)) i b bytes
has-bytes held xs i b bytes p x low holds puts = record {
  at = λ l within. ap (λ q. q b l) (part-here held xs i p low ∙ puts) ∙ put-line b bytes (held x) l (holds.at l within);
}

-- the bytes of another part stay
pub has-bytes-yet : {S : Type 0} {o : Origin} (held : S → Held) (xs : List S) (i j b : ℕ) (bytes : List ℕ) (p : S) → j ≢ i
    → HasBytes o (map held xs) j b bytes → HasBytes o (map held (set xs i p)) j b bytes
has-bytes-yet held xs i j b bytes p apart has =
    record { at = λ l within. ap (λ q. q b l) (part-other held xs i j p apart) ∙ has.at l within }

-- no block leads anywhere yet
pub leads-none : {n above : ℕ} {places xs : List ℕ} (parts : List Held) (from : ℕ) → length xs ≤ from + 1
    → LeadsFrom from n places above xs parts
leads-none parts from late = record {
  next = λ i after more. absurd (omega (arith, late, after, more));
  empty = λ i k after more. absurd (omega (arith, late, after, more));
}

-- one block more leads to the next one
pub leads-more : {S : Type 0} {o : Origin} {n above : ℕ} {places xs : List ℕ} (held : S → Held) (ps : List S) (i from to k y : ℕ) (p x : S)
    → from ≡ i + 1 → to ≡ i → i < length ps → HoldsBlock o (held x) (get_or xs i 0) → n * 4 ≤ o.sizes.block_size
    → k ≡ get_or places (above + i) 0 → y ≡ get_or xs (suc i) 0 → k < n
    → PutsNumber (held x) (held p) (get_or xs i 0) (replicate o.sizes.block_size 0) k y → LeadsFrom from n places above xs (map held ps)
    → LeadsFrom to n places above xs (map held (set ps i p))
leads-more {S} {o} {n} {above} {places} {xs} held ps i from to k y p x next is low holds size k-is y-is place puts leads = record {
  next = λ j after more. by-next j (omega (arith, after, is)) more (j == i) refl;
  empty = λ j m after more below apart. by-empty j m (omega (arith, after, is)) more below apart (j == i) refl;
}
  where
    by-next : (j : ℕ) → i ≤ j → suc j < length xs → (t : Bool) → (j == i) ≡ t
        → number_in (part (map held (set ps i p)) j) (get_or xs j 0) (get_or places (above + j) 0) ≡ get_or xs (suc j) 0
    by-next j after more true e =
        (let same : j ≡ i = eqb-true j i e in
        ap (λ q. number_in (part (map held (set ps i p)) q) (get_or xs q 0) (get_or places (above + q) 0)) same
        ∙ (ap (λ q. number_in q (get_or xs i 0) (get_or places (above + i) 0)) (part-here held ps i p low)
        ∙ (ap (number_in (held p) (get_or xs i 0)) (sym k-is)
        ∙ (made-next n puts holds size place ∙ (y-is ∙ ap (λ q. get_or xs (suc q) 0) (sym same))))))
    by-next j after more false e =
        (let apart : j ≢ i = no j i e in
        ap (λ q. number_in q (get_or xs j 0) (get_or places (above + j) 0)) (part-other held ps i j p apart)
        ∙ leads.next j (omega (arith, next, after)) more)

    by-empty : (j m : ℕ) → i ≤ j → suc j < length xs → m < n → m ≢ get_or places (above + j) 0 → (t : Bool) → (j == i) ≡ t
        → number_in (part (map held (set ps i p)) j) (get_or xs j 0) m ≡ 0
    by-empty j m after more below apart true e =
        (let same : j ≡ i = eqb-true j i e in
        ap (λ q. number_in (part (map held (set ps i p)) q) (get_or xs q 0) m) same
        ∙ (ap (λ q. number_in q (get_or xs i 0) m) (part-here held ps i p low)
        ∙ made-empty n m puts holds size below (λ z. apart (z ∙ (k-is ∙ ap (λ q. get_or places (above + q) 0) (sym same))))))
    by-empty j m after more below apart false e =
        (let other : j ≢ i = no j i e in
        ap (λ q. number_in q (get_or xs j 0) m) (part-other held ps i j p other)
        ∙ leads.empty j m (omega (arith, next, after)) more below apart)

-- ---- no line is held twice

pub apart-kept : {S : Type 0} {held : S → Held} {lent : S → Lent} {origin : S → Origin} {forced : S → Bool} {faults : S → ℕ}
    {old new : List S} {h k : Held} → Keeps held lent origin forced faults old new → SameLines k h → AllApart h (map held old)
    → AllApart k (map held new)
apart-kept {S} {held} {lent} {origin} {forced} {faults} {old} {new} {h} {k} keeps same apart = record {
  own = λ i low. record {
    at = λ b l is. none_from (part (map held new) i b l)
        ((keeps.lines i (within i low)).at b l ∙ ap is_some ((apart.own i (before i low)).at b l (sym (same.at b l) ∙ is)));
  };
  each = λ i j low below other.
      record {
        at = λ b l is. none_from (part (map held new) j b l)
            ((keeps.lines j (within j below)).at b l
            ∙ ap is_some ((apart.each i j (before i low) (before j below) other).at b l
            (sym ((keeps.lines i (within i low)).at b l) ∙ is)));
      };
}
  where
    within : (i : ℕ) → i < length (map held new) → i < length old
    within i low = omega (arith, low, length-map new held, keeps.count)

    before : (i : ℕ) → i < length (map held new) → i < length (map held old)
    before i low = omega (arith, low, length-map new held, keeps.count, length-map old held)

-- ---- what the parts have in common, and what they counted

pub home-kept : {S : Type 0} {held : S → Held} {lent : S → Lent} {origin : S → Origin} {forced : S → Bool} {faults : S → ℕ}
    {old new : List S} {o o' : Origin} → Keeps held lent origin forced faults old new → o' ≡ o → All (λ p. origin p ≡ o) old
    → All (λ p. origin p ≡ o') new
home-kept {S} {held} {lent} {origin} {forced} {faults} {old} {new} {o} {o'} keeps e all k d low =
    sym (get_or-map origin new k d (origin d) low)
    ∙ (ap (λ q. get_or q k (origin d)) keeps.home
    ∙ (get_or-map origin old k d (origin d) (omega (arith, low, keeps.count)) ∙ (all k d (omega (arith, low, keeps.count)) ∙ sym e)))

any-map : {S : Type 0} (forced : S → Bool) (xs : List S) → list_any forced xs ≡ list_any (λ t. t) (map forced xs)
any-map forced [] = refl
any-map forced (x ∷ xs) = ap (λ q. forced x || q) (any-map forced xs)

pub forced-kept : {S : Type 0} {held : S → Held} {lent : S → Lent} {origin : S → Origin} {forced : S → Bool} {faults : S → ℕ}
    {old new : List S} {f f' now : Bool} → Keeps held lent origin forced faults old new → f' ≡ f → now ≡ (f' || list_any forced new)
    → now ≡ (f || list_any forced old)
forced-kept {S} {held} {lent} {origin} {forced} {faults} {old} {new} {f} {f'} {now} keeps e is =
    is ∙ (ap (λ q. q || list_any forced new) e
    ∙ ap (λ q. f || q) (any-map forced new ∙ (ap (list_any (λ t. t)) keeps.as_forced ∙ sym (any-map forced old))))

sum-no-less : {S : Type 0} (faults : S → ℕ) (xs ys : List S) → length ys ≡ length xs
    → ((i : ℕ) → i < length xs → get_or (map faults xs) i 0 ≤ get_or (map faults ys) i 0) → sum_by faults xs ≤ sum_by faults ys
sum-no-less faults [] ys e less = omega arith
sum-no-less faults (x ∷ xs) [] e less = absurd (omega (arith, e))
sum-no-less faults (x ∷ xs) (y ∷ ys) e less =
    omega (
      arith,
      sum_by-cons faults x xs,
      sum_by-cons faults y ys,
      less 0 (omega arith),
      sum-no-less faults xs ys (omega (arith, e))
          (λ i low. less (suc i) (omega (arith, low))),
    )

pub counts-kept : {S : Type 0} {held : S → Held} {lent : S → Lent} {origin : S → Origin} {forced : S → Bool} {faults : S → ℕ}
    {old new : List S} {x x' now : ℕ} → Keeps held lent origin forced faults old new → x ≤ x' → now ≡ counted x' (sum_by faults new)
    → counted x (sum_by faults old) ≤ now
counts-kept {S} {held} {lent} {origin} {forced} {faults} {old} {new} {x} {x'} {now} keeps more is =
    omega (arith, more, is, sum-no-less faults old new keeps.count keeps.no_less)
