-- Blocks that are taken out of those at hand, for one page, and put back.
use Rattle.std.proofs.Common.{◌≡◌, ◌<◌, ◌+◌, ◌++◌, ◌∷◌, ◌==◌, [], ℕ, Bool, true, false, List, length, get_or, reverse, length-append}
use Rattle.std.proofs.Common.{append_assoc, refl, sym, ap, ◌∙◌, subst, arith}
use Rattle.std.specs.List.{All, sum_by}
use Rattle.std.proofs.lemmas.Bool.Decides.{nat_tests}
use Rattle.std.proofs.lemmas.Bool.{eqb-true}
use Rattle.std.proofs.lemmas.List.{map_push, places, reverse-append}
use Rattle.std.proofs.lemmas.List.Sums.{sum_by-append}
use Rattle.sv_store.specs.Held.{Held, Lent, Origin}
use Rattle.sv_inode.specs.Truncate.{IsPart, names_of}
use Rattle.sv_inode.specs.Write.{ArePaired}

-- ---- places in a list with one element more

pub at-front : {A : Type 0} (ys : List A) (x d : A) (i : ℕ) → i < length ys → get_or (ys ++ x ∷ []) i d ≡ get_or ys i d
at-front ys x d i low = grind (arith, places)

pub at-last : {A : Type 0} (ys : List A) (x d : A) (i : ℕ) → i ≡ length ys → get_or (ys ++ x ∷ []) i d ≡ x
at-last ys x d i e = grind (arith, places)

below-or-last : (i n : ℕ) (t : Bool) → (i == n) ≡ t → i < n + 1 → t ≡ false → i < n
below-or-last i n t e low f = grind (nat_tests, arith)

same-number : (i n : ℕ) → (i == n) ≡ true → i ≡ n
same-number i n e = eqb-true i n e

-- ---- one block is taken out, or put back

-- the names of those that are left, then of those that were taken out, the last one first
pub names-moved : {S : Type 0} (cuts ys : List (ℕ × S)) (x : ℕ × S) (ns more : List ℕ) → cuts ≡ ys ++ x ∷ [] → more ≡ ns ++ x.0 ∷ []
    → names_of ys ++ reverse more ≡ names_of cuts ++ reverse ns
names-moved cuts ys x ns more e f =
    let back : reverse more ≡ x.0 ∷ reverse ns = ap reverse f ∙ reverse-append ns (x.0 ∷ []) in
    let all : names_of cuts ≡ names_of ys ++ x.0 ∷ [] = ap names_of e ∙ map_push (λ q. q.0) ys x in
    ap (λ q. names_of ys ++ q) back
    ∙ (sym (append_assoc (names_of ys) (x.0 ∷ []) (reverse ns)) ∙ sym (ap (λ q. q ++ reverse ns) all))

pub all-front : {S : Type 0} {held : S → Held} {lent : S → Lent} {origin : S → Origin} {forced : S → Bool} {o : Origin} {h : Held}
    (cuts ys : List (ℕ × S)) (x : ℕ × S) → cuts ≡ ys ++ x ∷ [] → All (IsPart held lent origin forced o h) cuts
    → All (IsPart held lent origin forced o h) ys
all-front {S} {held} {lent} {origin} {forced} {o} {h} cuts ys x e all = λ i d low.
    let P : ℕ × S → Type 0 = IsPart held lent origin forced o h in
    subst P (ap (λ q. get_or q i d) e ∙ at-front ys x d i low) (all i d (omega (arith, low, ap length e, length-append ys (x ∷ []))))

pub all-last : {S : Type 0} {held : S → Held} {lent : S → Lent} {origin : S → Origin} {forced : S → Bool} {o : Origin} {h : Held}
    (cuts ys : List (ℕ × S)) (x : ℕ × S) → cuts ≡ ys ++ x ∷ [] → All (IsPart held lent origin forced o h) cuts
    → IsPart held lent origin forced o h x
all-last {S} {held} {lent} {origin} {forced} {o} {h} cuts ys x e all =
    let P : ℕ × S → Type 0 = IsPart held lent origin forced o h in
    subst P (ap (λ q. get_or q (length ys) x) e ∙ at-last ys x x (length ys) refl)
    (all (length ys) x (omega (arith, ap length e, length-append ys (x ∷ []))))

pub all-more : {S : Type 0} {held : S → Held} {lent : S → Lent} {origin : S → Origin} {forced : S → Bool} {o : Origin} {h : Held}
    (cuts ys : List (ℕ × S)) (x : ℕ × S) → cuts ≡ ys ++ x ∷ [] → All (IsPart held lent origin forced o h) ys
    → IsPart held lent origin forced o h x → All (IsPart held lent origin forced o h) cuts
all-more {S} {held} {lent} {origin} {forced} {o} {h} cuts ys x e all last = λ i d low. by i d
    (omega (arith, low, ap length e, length-append ys (x ∷ []))) (i == length ys) refl
  where
    by : (i : ℕ) (d : ℕ × S) → i < length ys + 1 → (t : Bool) → (i == length ys) ≡ t → IsPart held lent origin forced o h (get_or cuts i d)
    by i d low true s =
        (let P : ℕ × S → Type 0 = IsPart held lent origin forced o h in
        subst P (sym (ap (λ q. get_or q i d) e ∙ at-last ys x d i (same-number i (length ys) s))) last)
    by i d low false s =
        (let P : ℕ × S → Type 0 = IsPart held lent origin forced o h in
        let below : i < length ys = below-or-last i (length ys) false s low refl in
        subst P (sym (ap (λ q. get_or q i d) e ∙ at-front ys x d i below)) (all i d below))

pub paired-more : {S : Type 0} {held : S → Held} {lent : S → Lent} {origin : S → Origin} {forced : S → Bool} {o : Origin} {h : Held}
    (ns more : List ℕ) (ps all : List S) (b : ℕ) (part : S) → more ≡ ns ++ b ∷ [] → all ≡ ps ++ part ∷ []
    → ArePaired held lent origin forced o h ns ps → IsPart held lent origin forced o h (b, part)
    → ArePaired held lent origin forced o h more all
paired-more {S} {held} {lent} {origin} {forced} {o} {h} ns more ps all b part e f pairs last = record {
  count = omega (arith, ap length e, ap length f, length-append ns (b ∷ []), length-append ps (part ∷ []), pairs.count);
  each = λ i c p low. by i c p (omega (arith, low, ap length e, length-append ns (b ∷ []))) (i == length ns) refl;
}
  where
    by : (i c : ℕ) (p : S) → i < length ns + 1 → (t : Bool) → (i == length ns) ≡ t
        → IsPart held lent origin forced o h (get_or more i c, get_or all i p)
    by i c p low true s =
        (let P : ℕ × S → Type 0 = IsPart held lent origin forced o h in
        let at : i ≡ length ns = same-number i (length ns) s in
        let name : get_or more i c ≡ b = ap (λ q. get_or q i c) e ∙ at-last ns b c i at in
        let its : get_or all i p ≡ part = ap (λ q. get_or q i p) f ∙ at-last ps part p i (at ∙ sym pairs.count) in
        subst P (sym (ap (λ q. (q, get_or all i p)) name ∙ ap (λ q. (b, q)) its)) last)
    by i c p low false s =
        (let P : ℕ × S → Type 0 = IsPart held lent origin forced o h in
        let below : i < length ns = below-or-last i (length ns) false s low refl in
        let name : get_or more i c ≡ get_or ns i c = ap (λ q. get_or q i c) e ∙ at-front ns b c i below in
        let its : get_or all i p ≡ get_or ps i p = ap (λ q. get_or q i p) f ∙ at-front ps part p i (omega (arith, below, pairs.count)) in
        subst P (sym (ap (λ q. (q, get_or all i p)) name ∙ ap (λ q. (get_or ns i c, q)) its)) (pairs.each i c p below))

pub paired-front : {S : Type 0} {held : S → Held} {lent : S → Lent} {origin : S → Origin} {forced : S → Bool} {o : Origin} {h : Held}
    (more ns : List ℕ) (all ps : List S) (b : ℕ) (part : S) → more ≡ ns ++ b ∷ [] → all ≡ ps ++ part ∷ []
    → ArePaired held lent origin forced o h more all → ArePaired held lent origin forced o h ns ps
paired-front {S} {held} {lent} {origin} {forced} {o} {h} more ns all ps b part e f pairs = record {
  count = omega (arith, ap length e, ap length f, length-append ns (b ∷ []), length-append ps (part ∷ []), pairs.count);
  each = λ i c p low.
      (let P : ℕ × S → Type 0 = IsPart held lent origin forced o h in
      let high : i < length ps =
      omega (arith, low, ap length e, ap length f, length-append ns (b ∷ []), length-append ps (part ∷ []), pairs.count) in
      let name : get_or more i c ≡ get_or ns i c = ap (λ q. get_or q i c) e ∙ at-front ns b c i low in
      let its : get_or all i p ≡ get_or ps i p = ap (λ q. get_or q i p) f ∙ at-front ps part p i high in
      subst P (ap (λ q. (q, get_or all i p)) name ∙ ap (λ q. (get_or ns i c, q)) its)
      (pairs.each i c p (omega (arith, low, ap length e, length-append ns (b ∷ [])))));
}

pub paired-last : {S : Type 0} {held : S → Held} {lent : S → Lent} {origin : S → Origin} {forced : S → Bool} {o : Origin} {h : Held}
    (more ns : List ℕ) (all ps : List S) (b : ℕ) (part : S) → more ≡ ns ++ b ∷ [] → all ≡ ps ++ part ∷ []
    → ArePaired held lent origin forced o h more all → IsPart held lent origin forced o h (b, part)
paired-last {S} {held} {lent} {origin} {forced} {o} {h} more ns all ps b part e f pairs =
    let P : ℕ × S → Type 0 = IsPart held lent origin forced o h in
    let name : get_or more (length ns) b ≡ b = ap (λ q. get_or q (length ns) b) e ∙ at-last ns b b (length ns) refl in
    let long : length ns ≡ length ps =
    omega (arith, ap length e, ap length f, length-append ns (b ∷ []), length-append ps (part ∷ []), pairs.count) in
    let its : get_or all (length ns) part ≡ part = ap (λ q. get_or q (length ns) part) f ∙ at-last ps part part (length ns) long in
    subst P (ap (λ q. (q, get_or all (length ns) part)) name ∙ ap (λ q. (b, q)) its)
    (pairs.each (length ns) b part (omega (arith, ap length e, length-append ns (b ∷ []))))

pub faults-moved : {S : Type 0} (faults : S → ℕ) (cuts more : List (ℕ × S)) (all ps : List S) (b : ℕ) (part : S) (total : ℕ)
    → more ≡ cuts ++ (b, part) ∷ [] → all ≡ ps ++ part ∷ [] → sum_by (λ cut. faults cut.1) cuts + sum_by faults all ≡ total
    → sum_by (λ cut. faults cut.1) more + sum_by faults ps ≡ total
faults-moved {S} faults cuts more all ps b part total e f before =
    omega (
      arith,
      before,
      ap (sum_by (λ cut. faults cut.1)) e,
      sum_by-append (λ cut. faults cut.1) cuts ((b, part) ∷ []),
      ap
          (sum_by faults) f,
      sum_by-append faults ps (part ∷ []),
    )
