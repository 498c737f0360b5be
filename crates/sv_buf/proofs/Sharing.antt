-- Lines that threads share out.
use Rattle.std.proofs.Common.{◌≡◌, ◌≢◌, ◌+◌, ◌*◌, ◌/◌, ◌<◌, ◌≤◌, ◌==◌, ◌||◌, [], ◌∷◌, ℕ, zero, suc, Bool, true, false, cond, refl, sym, ap, ◌∙◌, subst, arith}
use Rattle.std.specs.Prelude.{None, IsSome, count_by}
use Rattle.std.proofs.lemmas.Bool.{false≢true, eqb-true, eq-eqb}
use Rattle.std.proofs.lemmas.List.Sums.{sum_by-cons}
use Rattle.std.proofs.lemmas.Bool.Decides.{nat_tests}
use Rattle.sv_form.specs.declared.owners.LineRange.{LineRange}
use Rattle.sv_form.specs.declared.geometry.Geometry.{Geometry}
use Rattle.sv_turn.specs.declared.pass.Pass.{Pass}
use Rattle.sv_turn.specs.declared.turn.Turn.{Turn}
use Rattle.sv_turn.specs.Passes.{first_view}
use Rattle.sv_store.specs.Calls.{CanGet, CanFresh, CanPart, CanMerge, Parts}
use Rattle.sv_store.specs.Held.{Held, Lent, Origin, Both, covers, in_ranges, nothing_lent}
use Rattle.sv_store.proofs.Holding.{SameLines-eq, SameLines-trans, SameLines-merged, IsSome-same, IsSome-kept, IsSome-given, Apart-Parts, covers-means, covers-in}
use Rattle.sv_buf.specs.View.{View, Opening}
use Rattle.sv_buf.specs.Stake.{pass_held, pass_lent, pass_origin}
use Rattle.sv_buf.specs.Ending.{HasAll}
use Rattle.sv_buf.specs.Sharing.{lines_below, AreCut, IsFew, IsShare, KeepsLines}

-- the same lines of block b
abbrev pub in_block : ℕ → ℕ → ℕ → LineRange
in_block first count b = record { block = b; first = first; count = count }

pub ten_blocks : (first count : ℕ) → in_block first count 9 ∷ in_block first count 8 ∷ in_block first count 7 ∷ in_block first count 6
    ∷ in_block first count 5 ∷ in_block first count 4 ∷ in_block first count 3 ∷ in_block first count 2 ∷ in_block first count 1
    ∷ in_block first count 0 ∷ [] ≡ lines_below first count 10
unfolding lines_below
ten_blocks first count = refl

-- what is held still is
pub share-kept : {S : Type 0} (held : S → Held) (lent : S → Lent) (origin : S → Origin) (old new : S) (first count : ℕ)
    → IsShare first count (origin old) (held old) (lent old) → KeepsLines held lent origin old new
    → IsShare first count (origin new) (held new) (lent new)
share-kept held lent origin old new first count share kept = record {
  size = ap (λ (o : Origin). o.sizes.block_size) kept.home ∙ share.size;
  blocks = ap (λ (o : Origin). o.sizes.blocks) kept.home ∙ share.blocks;
  within = λ b l inside from to. IsSome-same (held old b l) (held new b l) (sym (kept.lines.at b l)) (share.within b l inside from to);
  idle = kept.away ∙ share.idle;
}

-- a block of one's own line can be got
pub share-get : {o : Origin} {h : Held} {m : Lent} (line b : ℕ) → IsShare line 1 o h m → b < 10 → CanGet h m b
share-get line b share inside = record {
  some = (line, share.within b line inside (omega arith) (omega arith));
  away = ap (λ (m : Lent). m b) share.idle;
}

-- the place where a line begins is in that line
pub share-place : {o : Origin} {h : Held} {m : Lent} (line b : ℕ) → IsShare line 1 o h m → b < 10 → IsSome (h b (line * 64 / 64))
share-place {h = h} line b share inside = subst (λ l. IsSome (h b l)) (sym whole) (share.within b line inside (omega arith) (omega arith))
  where
    whole : line * 64 / 64 ≡ line
    whole = omega arith

-- a line of these ranges is one of those lines, in one of those blocks
inside : (first count n b l : ℕ) → in_ranges (lines_below first count n) b l ≡ true → (b < n) × (first ≤ l) × (l < first + count)
unfolding lines_below
inside first count zero b l e = absurd (false≢true e)
inside first count (suc n) b l e = by (inside first count n b l) (covers b l (in_block first count n)) refl
  where
    by : (in_ranges (lines_below first count n) b l ≡ true → (b < n) × (first ≤ l) × (l < first + count)) → (t : Bool)
        → covers b l (in_block first count n) ≡ t → (b < suc n) × (first ≤ l) × (l < first + count)
    by again true c = let means = covers-means b l (in_block first count n) c in (omega (arith, means.0), means.1, means.2)
    by again false c =
        let before = again (sym (ap (λ t. t || in_ranges (lines_below first count n) b l) c) ∙ e) in
        (omega (arith, before.0), before.1, before.2)

before : (b n : ℕ) → b < suc n → b ≢ n → b < n
before b n below other = grind (nat_tests, arith)

-- and each such line stands in them
covered : (first count n b l : ℕ) → b < n → first ≤ l → l < first + count → in_ranges (lines_below first count n) b l ≡ true
unfolding lines_below
covered first count zero b l below from to = absurd (omega (arith, below))
covered first count (suc n) b l below from to = by (λ lower. covered first count n b l lower from to) (b == n) refl
  where
    or-true : (t : Bool) → (t || true) ≡ true
    or-true true = refl
    or-true false = refl

    by : (b < n → in_ranges (lines_below first count n) b l ≡ true) → (t : Bool) → (b == n) ≡ t
        → (covers b l (in_block first count n) || in_ranges (lines_below first count n) b l) ≡ true
    by again true e = ap (λ t. t || in_ranges (lines_below first count n) b l)
        (ap (λ q. covers q l (in_block first count n)) (eqb-true b n e) ∙ covers-in (in_block first count n) l from to)
    by again false e = ap (λ t. covers b l (in_block first count n) || t)
        (again (before b n below (λ here. false≢true (sym e ∙ eq-eqb b n here))))
        ∙ or-true (covers b l (in_block first count n))

-- a line before them does not
uncovered : (first count n b l : ℕ) → l < first → in_ranges (lines_below first count n) b l ≡ false
uncovered first count n b l before = by (in_ranges (lines_below first count n) b l) refl
  where
    by : (t : Bool) → in_ranges (lines_below first count n) b l ≡ t → in_ranges (lines_below first count n) b l ≡ false
    by true e = absurd (omega (arith, before, (inside first count n b l e).1))
    by false e = e

-- no line stands in two ranges
none-above : (first count n b l : ℕ) → n ≤ b → count_by (covers b l) (lines_below first count n) ≡ 0
unfolding lines_below
none-above first count zero b l above = refl
none-above first count (suc n) b l above = by (none-above first count n b l (omega (arith, above))) (covers b l (in_block first count n)) refl
  where
    by : count_by (covers b l) (lines_below first count n) ≡ 0 → (t : Bool) → covers b l (in_block first count n) ≡ t
        → count_by (covers b l) (in_block first count n ∷ lines_below first count n) ≡ 0
    by again true c = absurd (omega (arith, above, (covers-means b l (in_block first count n) c).0))
    by again false c =
        let none : cond {A = ℕ} (covers b l (in_block first count n)) 1 0 ≡ 0 = ap (λ t. cond {A = ℕ} t 1 0) c in
        omega (
          arith,
          none,
          again,
          sum_by-cons (λ r. cond {A = ℕ} (covers b l r) 1 0) (in_block first count n) (lines_below first count n),
        )

at-most-once : (first count n b l : ℕ) → count_by (covers b l) (lines_below first count n) ≤ 1
unfolding lines_below
at-most-once first count zero b l = omega arith
at-most-once first count (suc n) b l = by (at-most-once first count n b l) (covers b l (in_block first count n)) refl
  where
    all : count_by (covers b l) (in_block first count n ∷ lines_below first count n)
        ≡ cond {A = ℕ} (covers b l (in_block first count n)) 1 0 + count_by (covers b l) (lines_below first count n)
    all = sum_by-cons (λ r. cond {A = ℕ} (covers b l r) 1 0) (in_block first count n) (lines_below first count n)

    by : count_by (covers b l) (lines_below first count n) ≤ 1 → (t : Bool) → covers b l (in_block first count n) ≡ t
        → count_by (covers b l) (in_block first count n ∷ lines_below first count n) ≤ 1
    by again true c =
        let one : cond {A = ℕ} (covers b l (in_block first count n)) 1 0 ≡ 1 = ap (λ t. cond {A = ℕ} t 1 0) c in
        omega (arith, one, all, none-above first count n b l (omega (arith, (covers-means b l (in_block first count n) c).0)))
    by again false c =
        let none : cond {A = ℕ} (covers b l (in_block first count n)) 1 0 ≡ 0 = ap (λ t. cond {A = ℕ} t 1 0) c in
        omega (arith, none, all, again)

-- the last lines of a share can be cut off
pub cut-can : {o : Origin} {h : Held} {m : Lent} (first half rest : ℕ) → IsShare first (half + rest) o h m → IsFew first half
    → IsFew (first + half) rest → CanPart h m (lines_below (first + half) rest 10)
cut-can first half rest share few others = record {
  within = λ b l e. let i = inside (first + half) rest 10 b l e in
      share.within b l i.0 (omega (arith, i.1)) (omega (arith, i.2));
  away = λ b l e. ap (λ (m : Lent). m b) share.idle;
  once = at-most-once (first + half) rest 10;
  some = (0, (first + half, covered (first + half) rest 10 0 (first + half) (omega arith) (omega arith) (omega (arith, others.some))));
  more = (
    0,
    (
      first,
      (
        share.within 0 first (omega arith) (omega arith) (omega (arith, few.some)),
        uncovered (first + half) rest 10 0 first (omega (arith, few.some)),
      ),
    ),
  );
}

-- what stays is a share, and so is what was cut off
pub cut-kept : {o : Origin} {h mine theirs : Held} {m : Lent} (first half rest : ℕ) → IsShare first (half + rest) o h m
    → Parts h (lines_below (first + half) rest 10) mine theirs → IsShare first half o mine m
cut-kept first half rest share parts = record {
  size = share.size;
  blocks = share.blocks;
  within = λ b l below from to. IsSome-kept parts b l (uncovered (first + half) rest 10 b l to)
      (share.within b l below from (omega (arith, to)));
  idle = share.idle;
}

pub cut-given : {o : Origin} {h mine theirs : Held} {m k : Lent} (first half rest : ℕ) → IsShare first (half + rest) o h m
    → Parts h (lines_below (first + half) rest 10) mine theirs → k ≡ nothing_lent → IsShare (first + half) rest o theirs k
cut-given first half rest share parts idle = record {
  size = share.size;
  blocks = share.blocks;
  within = λ b l below from to. IsSome-given parts b l (covered (first + half) rest 10 b l below from to)
      (share.within b l below (omega (arith, from)) (omega (arith, to)));
  idle = idle;
}

-- parts that kept their lines can be merged, and are the lines of the whole
pub cut-merge : {S : Type 0} (held : S → Held) (lent : S → Lent) (origin : S → Origin) (old mine theirs one two : S)
    → AreCut held origin old mine theirs → KeepsLines held lent origin mine one → KeepsLines held lent origin theirs two
    → lent theirs ≡ nothing_lent → CanMerge (held one) (held two) (lent two)
cut-merge held lent origin old mine theirs one two cut kept given idle = record {
  apart = Apart-Parts cut.parts kept.lines given.lines;
  away = given.away ∙ idle;
}

pub cut-merged : {S : Type 0} (held : S → Held) (lent : S → Lent) (origin : S → Origin) (old mine theirs one two whole : S)
    → AreCut held origin old mine theirs → KeepsLines held lent origin mine one → KeepsLines held lent origin theirs two
    → lent old ≡ nothing_lent → lent mine ≡ nothing_lent → held whole ≡ Both (held one) (held two) → lent whole ≡ lent one
    → origin whole ≡ origin one → KeepsLines held lent origin old whole
cut-merged held lent origin old mine theirs one two whole cut kept given idle mine_idle lines away home = record {
  lines = SameLines-trans (SameLines-eq (held whole) (Both (held one) (held two)) lines) (SameLines-merged cut.parts kept.lines given.lines);
  away = away ∙ kept.away ∙ mine_idle ∙ sym idle;
  home = home ∙ kept.home ∙ cut.home;
}

-- a block of all lines can be got, and made anew
pub whole-get : {o : Origin} {h : Held} {m : Lent} (b : ℕ) → IsShare 0 16 o h m → b < 10 → CanGet h m b
whole-get b share inside = record {
  some = (0, share.within b 0 inside (omega arith) (omega arith));
  away = ap (λ (m : Lent). m b) share.idle;
}

pub whole-fresh : {o : Origin} {h : Held} {m : Lent} (b : ℕ) → IsShare 0 16 o h m → b < 10 → CanFresh o h m b
whole-fresh b share inside = record {
  some = (0, share.within b 0 inside (omega arith) (omega arith));
  whole = record { at = λ l below. share.within b l inside (omega arith) (let size = share.size in omega (arith, below, size)) };
  away = ap (λ (m : Lent). m b) share.idle;
}

-- where nothing was lent before, a block that was lent and came back leaves nothing lent
pub none-away : {m : Lent} (b : ℕ) → m ≡ nothing_lent → m b ≡ None
none-away b idle = ap (λ (m : Lent). m b) idle

module _ {R S : Type 0} where
  -- the pass that has all lines of ten blocks has each share of them
  pub all-share : (t : Turn R S View) (p : Pass R S View) → HasAll t p
      → (first_view t).opening.sizes ≡ record { block_size = 1024; blocks = 10; first_data = 3 }
      → IsShare 0 16 (pass_origin p) (pass_held p) (pass_lent p)
  all-share t p has sizes =
      let size : (first_view t).opening.sizes.block_size ≡ 1024 = ap (λ (g : Geometry). g.block_size) sizes in
      let blocks : (first_view t).opening.sizes.blocks ≡ 10 = ap (λ (g : Geometry). g.blocks) sizes in
      record {
        size = ap (λ (o : Opening). o.sizes.block_size) has.opened ∙ size;
        blocks = ap (λ (o : Opening). o.sizes.blocks) has.opened ∙ blocks;
        within = λ b l below from to. has.all.at b l (omega (arith, below, blocks)) (omega (arith, to, size));
        idle = has.idle;
      }
