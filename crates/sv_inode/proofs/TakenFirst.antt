-- Free blocks that are taken one after another, and given back.
use Rattle.std.proofs.Common.{Result, Ok, Err, OnErr}
use Rattle.std.proofs.Common.{◌≡◌, ◌+◌, ◌∷◌, ◌==◌, inl, inr, [], ℕ, Bool, true, false, cond, List, length, None, is_some, nat_lt, get_or}
use Rattle.std.proofs.Common.{length-append, refl, sym, ap, ◌∙◌, subst, arith}
use Rattle.std.specs.List.{All}
use Rattle.std.proofs.lemmas.Bool.{false≢true}
use Rattle.std.proofs.lemmas.List.{map_push}
use Rattle.sv_store.specs.Held.{Apart, Both, Held, Lent, Origin, SameLines}
use Rattle.sv_store.proofs.Holding.{eqb_same, is_some-Both}
use Rattle.sv_super.specs.Calls.{Takes}
use Rattle.sv_super.specs.Core.{Core, IsSound, free_times, left_of}
use Rattle.sv_super.specs.Count.{one_if, times}
use Rattle.sv_super.proofs.Counts.{times-append, times-cons, times-snoc}
use Rattle.sv_inode.specs.Frames.{KeepsRoom}
use Rattle.sv_inode.specs.Truncate.{AreBlocks, CanFreeAll, FreesAll, IsCut, IsCutFrom, IsPart, less_all, names_of, only}
use Rattle.sv_inode.specs.Write.{IsSupplied, ComesBack, TakesCut}
use Rattle.sv_inode.proofs.GivenBack.{cut-more, less-at, only-at}

-- ---- one block is taken

pub takes-times : {S : Type 0} {old new : Core S} (b : ℕ) → Takes old new b → (c : ℕ)
    → free_times new.chain new.aside c + one_if (b == c) ≡ free_times old.chain old.aside c
takes-times {old = old} {new = new} b (inl aside) c =
    omega (arith, ap (times c) aside.chain, ap (times c) aside.aside, times-snoc c b new.aside)
takes-times {old = old} {new = new} b (inr chained) c =
    omega (arith, ap (times c) chained.chain, ap (times c) chained.aside, ap (times c) chained.none, times-cons c b new.chain)

pub takes-left : {S : Type 0} {old new : Core S} (b : ℕ) → Takes old new b → left_of new + 1 ≡ left_of old
takes-left {new = new} b (inl aside) =
    omega (arith, ap length aside.chain, ap length aside.aside, length-append new.aside (b ∷ []))
takes-left b (inr chained) = omega (arith, ap length chained.chain, ap length chained.aside, ap length chained.none)

-- a block that is free is not among those that were taken
not-taken : {S : Type 0} {mid new : Core S} (first : Core S) (xs : List ℕ) {o : Origin} {h : Held} {m : Lent} (b : ℕ)
    → IsSound o h m (free_times first.chain first.aside)
    → ((c : ℕ) → free_times mid.chain mid.aside c + times c xs ≡ free_times first.chain first.aside c) → Takes mid new b → times b xs ≡ 0
not-taken first xs b sound taken takes =
    omega (arith, sound.once b, taken b, takes-times b takes b, ap one_if (eqb_same b))

pub one-more : {S : Type 0} {held : S → Held} {lent : S → Lent} {origin : S → Origin} {forced : S → Bool} {faults : S → ℕ} {o : Origin}
    {h now : Held} {m : Lent} (first : Core S) {mid new : Core S} {cuts more : List (ℕ × S)}
    → IsSound o h m (free_times first.chain first.aside) → IsCutFrom held lent origin forced faults o h now cuts → now ≡ held mid.stake
    → origin mid.stake ≡ o → ((c : ℕ) → free_times mid.chain mid.aside c + times c (names_of cuts) ≡ free_times first.chain first.aside c)
    → TakesCut held lent origin forced faults mid new cuts more → IsCutFrom held lent origin forced faults o h (held new.stake) more
one-more {S} {held} {lent} {origin} {forced} {faults} {o} {h} {now} {m} first {mid} {new} {cuts} {more} sound from is home taken takes =
    let P : Held → Type 0 = λ q. IsCutFrom held lent origin forced faults o h q cuts in
    cut-more takes.b (subst P is from) (not-taken first (names_of cuts) takes.b sound taken takes.free) home takes.left
    (takes.part, (takes.pushed, takes.cut))

pub names-more : {S : Type 0} {held : S → Held} {lent : S → Lent} {origin : S → Origin} {forced : S → Bool} {faults : S → ℕ}
    (first : Core S) {mid new : Core S} {cuts more : List (ℕ × S)}
    → ((c : ℕ) → free_times mid.chain mid.aside c + times c (names_of cuts) ≡ free_times first.chain first.aside c)
    → TakesCut held lent origin forced faults mid new cuts more → (c : ℕ)
    → free_times new.chain new.aside c + times c (names_of more) ≡ free_times first.chain first.aside c
names-more first {cuts = cuts} {more = more} taken takes c =
    omega (
      arith,
      taken c,
      takes-times takes.b takes.free c,
      ap (λ q. times c (names_of q)) takes.pushed,
      ap (times c)
          (map_push (λ q. q.0) cuts (takes.b, takes.part)),
      times-snoc c takes.b (names_of cuts),
    )

pub count-more : {S : Type 0} {held : S → Held} {lent : S → Lent} {origin : S → Origin} {forced : S → Bool} {faults : S → ℕ}
    {mid new : Core S} {cuts more : List (ℕ × S)} → TakesCut held lent origin forced faults mid new cuts more
    → length more ≡ length cuts + 1
count-more {cuts = cuts} takes = ap length takes.pushed ∙ length-append cuts ((takes.b, takes.part) ∷ [])

-- ---- all of them

pub taken-are : {S : Type 0} {o : Origin} {h : Held} {m : Lent} (first new : Core S) {xs : List ℕ}
    → IsSound o h m (free_times first.chain first.aside)
    → ((c : ℕ) → free_times new.chain new.aside c + times c xs ≡ free_times first.chain first.aside c) → AreBlocks o h xs
taken-are first new sound taken = record {
  once = λ b. omega (arith, sound.once b, taken b);
  in_data = λ b is. sound.in_data b (omega (arith, is, taken b));
  whole = λ b is. sound.whole b (omega (arith, is, taken b));
}

cut-is : {S : Type 0} {held : S → Held} {lent : S → Lent} {origin : S → Origin} {forced : S → Bool} {faults : S → ℕ} {o o' : Origin}
    {h : Held} (cut : ℕ × S) → o' ≡ o → IsCut held lent origin forced faults o h cut → IsPart held lent origin forced o' h cut
cut-is cut home is = record {
  lines = record { at = λ c l. ap (λ q. is_some (q c l)) is.lines };
  away = is.away;
  home = is.home ∙ sym home;
  unforced = is.unforced;
}

pub parts-are : {S : Type 0} {held : S → Held} {lent : S → Lent} {origin : S → Origin} {forced : S → Bool} {faults : S → ℕ} {o o' : Origin}
    {h now : Held} {cuts : List (ℕ × S)} → o' ≡ o → IsCutFrom held lent origin forced faults o h now cuts
    → All (IsPart held lent origin forced o' h) cuts
parts-are {cuts = cuts} home from = λ i d low. cut-is (get_or cuts i d) home (from.each i d low)

less-only-apart : (h : Held) {now : Held} (xs : List ℕ) → now ≡ less_all xs h → Apart now (only xs h)
unfolding less_all
less-only-apart h {now} xs left = record { at = λ c l is. by c l (nat_lt 0 (times c xs)) refl (sym (ap (λ q. is_some (q c l)) left) ∙ is) }
  where
    by : (c l : ℕ) (t : Bool) → nat_lt 0 (times c xs) ≡ t → is_some (cond (nat_lt 0 (times c xs)) None (h c l)) ≡ true
        → only xs h c l ≡ None
    by c l true e is = absurd (false≢true (sym (ap (λ q. is_some (cond q None (h c l))) e) ∙ is))
    by c l false e is = only-at xs h c l false e

-- what was taken can be given back
pub can-return : {S : Type 0} {held : S → Held} {lent : S → Lent} {origin : S → Origin} {forced : S → Bool} {faults : S → ℕ}
    {o o' : Origin} {h now : Held} {cuts : List (ℕ × S)} → o' ≡ o → IsCutFrom held lent origin forced faults o h now cuts
    → AreBlocks o h (names_of cuts) → CanFreeAll held lent origin forced o' h now cuts
can-return {o = o} {h = h} {cuts = cuts} home from are = record {
  are = (let P : Origin → Type 0 = λ q. AreBlocks q h (names_of cuts) in subst P (sym home) are);
  each = parts-are home from;
  apart = less-only-apart h (names_of cuts) from.left;
}

-- ---- they are given back

pub freed-times : {S : Type 0} {before now : ℕ} {old new : Core S} {xs : List ℕ} → FreesAll before now old new xs → (b : ℕ)
    → free_times new.chain new.aside b ≡ free_times old.chain old.aside b + times b xs
freed-times {old = old} freed b =
    omega (
      arith,
      ap (times b) freed.chain,
      ap (times b) freed.aside,
      times-append b freed.chained old.chain,
      times-append b old.aside
          freed.kept,
      freed.each b,
    )

pub freed-left : {S : Type 0} {before now : ℕ} {old new : Core S} {xs : List ℕ} → FreesAll before now old new xs
    → left_of new ≡ left_of old + length xs
freed-left {old = old} freed =
    omega (
      arith,
      ap length freed.chain,
      ap length freed.aside,
      length-append freed.chained old.chain,
      length-append old.aside freed.kept,
      freed.count,
    )

-- the lines of some blocks, and those of all others
less-and-only : {h now : Held} (xs : List ℕ) → now ≡ less_all xs h → SameLines (Both now (only xs h)) h
unfolding less_all
less-and-only {h} {now} xs left =
    record {
      at = λ c l. is_some-Both now (only xs h) c l
          ∙ (ap (λ q. cond (is_some (q c l)) true (is_some (only xs h c l))) left ∙ by c l (nat_lt 0 (times c xs)) refl);
    }
  where
    same : (t : Bool) → cond t true false ≡ t
    same true = refl
    same false = refl

    by : (c l : ℕ) (t : Bool) → nat_lt 0 (times c xs) ≡ t
        → cond (is_some (cond (nat_lt 0 (times c xs)) None (h c l))) true (is_some (only xs h c l)) ≡ is_some (h c l)
    by c l true e = ap (λ q. cond (is_some (cond q None (h c l))) true (is_some (only xs h c l))) e ∙ ap is_some (only-at xs h c l true e)
    by c l false e = ap (λ q. cond (is_some (cond q None (h c l))) true (is_some (only xs h c l))) e
        ∙ (ap (λ q. cond (is_some (h c l)) true (is_some q)) (only-at xs h c l false e) ∙ same (is_some (h c l)))

pub comes-back : {S : Type 0} {held : S → Held} {lent : S → Lent} {origin : S → Origin} {forced : S → Bool} {faults : S → ℕ} {o : Origin}
    {before now : ℕ} {first mid new : Core S} {cuts : List (ℕ × S)}
    → IsCutFrom held lent origin forced faults o (held first.stake) (held mid.stake) cuts
    → ((c : ℕ) → free_times mid.chain mid.aside c + times c (names_of cuts) ≡ free_times first.chain first.aside c)
    → FreesAll before now mid new (names_of cuts)
    → SameLines (held new.stake) (Both (held mid.stake) (only (names_of cuts) (held first.stake)))
    → ((c l : ℕ) → times c (names_of cuts) ≡ 0 → held new.stake c l ≡ held mid.stake c l)
    → ComesBack held first new
comes-back {held = held} {first = first} {mid = mid} {cuts = cuts} from taken freed lines others = record {
  each = λ b. omega (arith, freed-times freed b, taken b);
  lines = record { at = λ c l. lines.at c l ∙ (less-and-only (names_of cuts) from.left).at c l };
  others = λ c l gone. (let none : times c (names_of cuts) ≡ 0 = omega (arith, taken c, gone) in
      others c l none ∙ (ap (λ q. q c l) from.left ∙ less-at (names_of cuts) (held first.stake) c l none));
}

-- ---- by an equal count

pub supplied-since : {S : Type 0} {held : S → Held} {lent : S → Lent} {origin : S → Origin} {forced : S → Bool} {faults : S → ℕ}
    {count need : ℕ} {old new : Core S} {cuts : List (ℕ × S)}
    → count ≡ need → IsSupplied held lent origin forced faults count old new cuts
    → IsSupplied held lent origin forced faults need old new cuts
supplied-since e is = record { from = is.from; are = is.are; taken = is.taken; as_many = is.as_many ∙ e; left = is.left }

pub room-since : {count need old new : ℕ} → count ≡ need → KeepsRoom count 0 old new → KeepsRoom need 0 old new
room-since {old = old} {new = new} e kept = (let P : ℕ → Type 0 = λ q. KeepsRoom q 0 old new in subst P e kept)

pub err-weaker : {T E : Type 0} {P Q : Type 0} (r : Result T E) → (P → Q) → OnErr r P → OnErr r Q
err-weaker (Ok x) f p = p
err-weaker (Err x) f p = f p
