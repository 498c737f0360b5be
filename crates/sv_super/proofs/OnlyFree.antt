-- Of the data blocks, lines of the counted ones alone are held.
use Rattle.std.proofs.Common.{◌≡◌, ◌≤◌, ◌<◌, ◌+◌, ◌==◌, ℕ, Bool, true, false, cond, Option, Some, None, IsSome, is_some, refl, sym, ap, ◌∙◌, subst, arith}
use Rattle.std.proofs.lemmas.Bool.{eqb-true, false≢true}
use Rattle.sv_form.specs.Geometry.{IsDataBlock}
use Rattle.sv_store.specs.Held.{Both, Held, Origin, SameLines}
use Rattle.sv_store.proofs.Holding.{eqb_same, is_some-Both}
use Rattle.sv_super.specs.Core.{HoldsOnly, alone, less}
use Rattle.sv_super.specs.Count.{one_if}
use Rattle.sv_super.proofs.Counts.{apart, other}

-- no line came in, and no block is counted less
pub only-fewer : {o : Origin} {h h' : Held} {f : ℕ → ℕ} (f' : ℕ → ℕ) → HoldsOnly o h f → ((c l : ℕ) → IsSome (h' c l) → IsDataBlock o.sizes c → IsSome (h c l)) → ((c : ℕ) → f c ≤ f' c) → HoldsOnly o h' f'
only-fewer {o} {h} {h'} {f} f' is held more = record { only = λ c l some in_data. (let low = is.only c l (held c l some in_data) in_data in omega (arith, low, more c)) }

-- a block was cut off
pub only-less : {o : Origin} {h h' : Held} {f : ℕ → ℕ} (f' : ℕ → ℕ) (b : ℕ) → HoldsOnly o h f → ((c : ℕ) → f c ≡ one_if (b == c) + f' c) → h' ≡ less b h → HoldsOnly o h' f'
unfolding less
only-less {o} {h} {h'} {f} f' b is count cut = record { only = λ c l some in_data. by c l in_data (sym (ap (λ q. is_some (q c l)) cut) ∙ some) (c == b) refl }
  where
    by : (c l : ℕ) → IsDataBlock o.sizes c → is_some (cond (c == b) None (h c l)) ≡ true → (t : Bool) → (c == b) ≡ t → 0 < f' c
    by c l in_data some true e = absurd (false≢true (sym (ap (λ t. is_some (cond t None (h c l))) e) ∙ some))
    by c l in_data some false e =
        let low = is.only c l (sym (ap (λ t. is_some (cond t None (h c l))) e) ∙ some) in_data in
        let no : one_if (b == c) ≡ 0 = ap one_if (other b c (λ q. apart c b e (sym q))) in
        omega (arith, low, count c, no)

-- a part came in
pub only-both : {o : Origin} {h k new : Held} {f g : ℕ → ℕ} (f' : ℕ → ℕ) → HoldsOnly o h f → HoldsOnly o k g → SameLines new (Both h k) → ((c : ℕ) → f' c ≡ g c + f c) → HoldsOnly o new f'
only-both {o} {h} {k} {new} {f} {g} f' mine theirs lines count = record { only = λ c l some in_data. by c l in_data (sym (lines.at c l ∙ is_some-Both h k c l) ∙ some) (is_some (h c l)) refl }
  where
    by : (c l : ℕ) → IsDataBlock o.sizes c → cond (is_some (h c l)) true (is_some (k c l)) ≡ true → (t : Bool) → is_some (h c l) ≡ t → 0 < f' c
    by c l in_data some true e = let low = mine.only c l e in_data in omega (arith, low, count c)
    by c l in_data some false e =
        let low = theirs.only c l (sym (ap (λ t. cond t true (is_some (k c l))) e) ∙ some) in_data in
        omega (arith, low, count c)

-- a part with no line of a data block came in
pub both-data : {o : Origin} (h : Held) {k : Held} → HoldsOnly o k (λ _. 0) → (c l : ℕ) → IsSome (Both h k c l) → IsDataBlock o.sizes c → IsSome (h c l)
both-data {o} h {k} none c l some in_data = by (is_some (h c l)) refl
  where
    by : (t : Bool) → is_some (h c l) ≡ t → is_some (h c l) ≡ true
    by true e = e
    by false e =
        let low : 0 < 0 = none.only c l (sym (is_some-Both h k c l ∙ ap (λ t. cond t true (is_some (k c l))) e) ∙ some) in_data in
        absurd (omega (arith, low))

-- a part that has lines of one block alone
pub only-alone : (o : Origin) (h : Held) {part : Held} (b : ℕ) → SameLines part (alone b h) → HoldsOnly o part (λ c. one_if (b == c))
unfolding alone
only-alone o h {part} b lines = record { only = λ c l some in_data. by c l (sym (lines.at c l) ∙ some) (c == b) refl }
  where
    by : (c l : ℕ) → is_some (cond (c == b) (h c l) None) ≡ true → (t : Bool) → (c == b) ≡ t → 0 < one_if (b == c)
    by c l some true e = let one = ap one_if (ap (λ q. b == q) (eqb-true c b e) ∙ eqb_same b) in omega (arith, one)
    by c l some false e = absurd (false≢true (sym (ap (λ t. is_some (cond t (h c l) None)) e) ∙ some))

pub only-home : {o o' : Origin} {h : Held} {f : ℕ → ℕ} → o' ≡ o → HoldsOnly o h f → HoldsOnly o' h f
only-home {o} {o'} {h} {f} home is = (let P : Origin → Type 0 = λ q. HoldsOnly q h f in subst P (sym home) is)
