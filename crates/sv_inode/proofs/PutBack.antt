-- What a write took first, and what of it is used and what is free again.
use Rattle.std.proofs.Common.{◌≡◌, ◌≤◌, ◌<◌, ◌+◌, ◌/◌, ℕ, Bool, true, false, cond, List, [], length, take, drop, max, None, Err, IsSome}
use Rattle.std.proofs.Common.{is_some, nat_lt, refl, sym, ap, ◌∙◌, subst, arith}
use Rattle.std.specs.List.{All}
use Rattle.std.proofs.lemmas.Bool.Decides.{nat_tests}
use Rattle.std.proofs.lemmas.Bool.{false≢true}
use Rattle.std.proofs.lemmas.List.{length-drop, length-map, take-append-drop}
use Rattle.sv_form.specs.declared.geometry.Geometry.{Geometry}
use Rattle.sv_form.specs.Node.{Node}
use Rattle.sv_form.specs.NodeChanges.{put}
use Rattle.sv_form.specs.declared.inode.InodeBody.{InodeBody}
use Rattle.sv_store.specs.declared.refusal.Refusal.{Refusal}
use Rattle.sv_store.specs.declared.refusal.Refusal.TheVariants as refused
use Rattle.sv_store.specs.Held.{Apart, Both, Held, Lent, Origin, SameLines}
use Rattle.sv_store.proofs.Holding.{is_some-Both}
use Rattle.sv_super.specs.Core.{Core, free_times, left_of}
use Rattle.sv_super.specs.Count.{times}
use Rattle.sv_super.proofs.Counts.{times-append, times-nil}
use Rattle.sv_inode.specs.Frames.{KeepsRoom}
use Rattle.sv_inode.specs.Truncate.{AreBlocks, CanFreeAll, FreesAll, HoldsInode, IsCutFrom, IsPart, less_all, names_of, only}
use Rattle.sv_inode.specs.Write.{PutsBack, TakesBlocks, Uses, done_by, stop_of, write_need}
use Rattle.sv_inode.specs.StandsFor.{StandsFor}
use Rattle.sv_inode.specs.declared.stop.WriteStop.{WriteStop}
use Rattle.sv_inode.proofs.PiecePut.{stands-since}
use Rattle.sv_inode.proofs.WrittenNode.{put-nothing}
use Rattle.sv_inode.proofs.GivenBack.{less-at, less-none, only-at, times-take}
use Rattle.sv_inode.proofs.Emptied.{apart-only}
use Rattle.sv_inode.proofs.PageMade.{all-test, some-only}
use Rattle.sv_inode.proofs.PagesPut.{need-zero}
use Rattle.sv_inode.proofs.TakenFirst.{freed-left, freed-times, parts-are}
use Rattle.sv_inode.proofs.TakenParts.{apart-other, inode-joined, joined-none, lines-apart, lines-together}

some : (n : ℕ) → nat_lt 0 n ≡ true → 0 < n
some n h = grind (nat_tests, arith)

none : (n : ℕ) → nat_lt 0 n ≡ false → n ≡ 0
none n h = grind (nat_tests, arith)

is-some : (n : ℕ) → 0 < n → nat_lt 0 n ≡ true
is-some n h = grind (nat_tests, arith)

is-none : (n : ℕ) → n ≡ 0 → nat_lt 0 n ≡ false
is-none n h = grind (nat_tests, arith)

apart-fewer : (mine h : Held) (xs ys : List ℕ) → ((c : ℕ) → times c xs ≤ times c ys) → Apart mine (only ys h) → Apart mine (only xs h)
apart-fewer mine h xs ys fewer away = record { at = λ c l is. by c l is (nat_lt 0 (times c xs)) refl }
  where
    by : (c l : ℕ) → IsSome (mine c l) → (t : Bool) → nat_lt 0 (times c xs) ≡ t → only xs h c l ≡ None
    by c l is false e = only-at xs h c l false e
    by c l is true e =
        (let more : nat_lt 0 (times c ys) ≡ true = is-some (times c ys) (omega (arith, some (times c xs) e, fewer c)) in
        only-at xs h c l true e ∙ (sym (only-at ys h c l true more) ∙ away.at c l is))

module _ {S : Type 0} {held : S → Held} {lent : S → Lent} {origin : S → Origin} {forced : S → Bool} {o : Origin} {h : Held} where
  left-times : {before now : Held} (all left : List (ℕ × S)) → Uses held lent origin forced o h before now all left → (c : ℕ)
      → times c (names_of left) ≤ times c (names_of all)
  left-times all left uses c = omega (arith, ap (times c) uses.front, times-take c (length left) (names_of all))

  -- what is left can be freed
  pub can-left : {o' : Origin} {before now mine : Held} (all left : List (ℕ × S)) → Uses held lent origin forced o h before now all left
      → o' ≡ o → CanFreeAll held lent origin forced o' h mine all → CanFreeAll held lent origin forced o' h mine left
  can-left {o'} {mine = mine} all left uses e can = record {
    are = (let P : Origin → Type 0 = λ q. AreBlocks q h (names_of left) in subst P (sym e) uses.can.are);
    each = (let P : Origin → Type 0 = λ q. All (IsPart held lent origin forced q h) left in subst P (sym e) uses.can.each);
    apart = apart-fewer mine h (names_of left) (names_of all) (left-times all left uses) can.apart;
  }

  pub puts-back : {before now : Held} {first last : ℕ} {old new : Core S} (need : ℕ) (all left : List (ℕ × S))
      → Uses held lent origin forced o h before now all left → need + length left ≡ length all → FreesAll first last old new (names_of left)
      → SameLines (held new.stake) (Both (held old.stake) (only (names_of left) h))
      → ((c l : ℕ) → times c (names_of left) ≡ 0 → held new.stake c l ≡ held old.stake c l)
      → PutsBack held h need (names_of all) old new before now
  puts-back need all left uses total freed lines others = record {
    used = drop (length left) (names_of all);
    unused = names_of left;
    count = length-drop (length left) (names_of all) ∙ omega (arith, length-map all (λ x. x.0), total);
    each = λ b. omega (
      arith,
      ap (times b) uses.front,
      ap (times b) (take-append-drop (length left) (names_of all)),
      times-append b
          (take (length left) (names_of all)) (drop (length left) (names_of all)),
    );
    mine = uses.lines;
    apart = uses.can.apart;
    free = freed-times freed;
    left = omega (arith, freed-left freed, length-map left (λ x. x.0), length-map all (λ x. x.0), total);
    theirs = lines;
    others = λ c l gone. others c l (omega (arith, gone, left-times all left uses c));
  }

-- ---- with what was taken first

some-less : (xs : List ℕ) (h : Held) (c l : ℕ) → is_some (less_all xs h c l) ≡ cond (nat_lt 0 (times c xs)) false (is_some (h c l))
unfolding less_all
some-less xs h c l = by (nat_lt 0 (times c xs))
  where
    by : (t : Bool) → is_some (cond t None (h c l)) ≡ cond t false (is_some (h c l))
    by true = refl
    by false = refl

bool-mine : (a b s u f : Bool) → (u ≡ true → f ≡ false) → cond a true (cond f s false) ≡ cond b true (cond (cond u true f) s false)
    → (a ≡ true → cond f s false ≡ false) → (b ≡ true → cond (cond u true f) s false ≡ false) → a ≡ cond b true (cond u s false)
bool-mine a b s true false apart_of e one two = same a ∙ e
  where
    same : (t : Bool) → t ≡ cond t true false
    same true = refl
    same false = refl
bool-mine a b s false false apart_of e one two = same a ∙ e
  where
    same : (t : Bool) → t ≡ cond t true false
    same true = refl
    same false = refl
bool-mine a b s true true apart_of e one two = absurd (false≢true (sym (apart_of refl)))
bool-mine a b false false true apart_of e one two = same a ∙ e
  where
    same : (t : Bool) → t ≡ cond t true false
    same true = refl
    same false = refl
bool-mine true b true false true apart_of e one two = absurd (false≢true (sym (one refl)))
bool-mine false true true false true apart_of e one two = absurd (false≢true (sym (two refl)))
bool-mine false false true false true apart_of e one two = refl

bool-theirs : (s u f : Bool) → (u ≡ true → f ≡ false) → cond (cond (cond u true f) false s) true (cond f s false) ≡ cond u false s
bool-theirs s true false apart_of = refl
bool-theirs s true true apart_of = absurd (false≢true (sym (apart_of refl)))
bool-theirs s false true apart_of = refl
bool-theirs true false false apart_of = refl
bool-theirs false false false apart_of = refl

pub takes-blocks : {S : Type 0} {held : S → Held} {need : ℕ} {names : List ℕ} {first mid new : Core S} {before now : Held}
    → PutsBack held (held first.stake) need names mid new before now → held mid.stake ≡ less_all names (held first.stake)
    → ((c : ℕ) → free_times mid.chain mid.aside c + times c names ≡ free_times first.chain first.aside c) → ((b : ℕ) → times b names ≤ 1)
    → Apart before (only names (held first.stake)) → TakesBlocks held need first new before now
takes-blocks {S} {held} {need} {names} {first} {mid} {new} {before} {now} back less taken once away = record {
  blocks = back.used;
  count = back.count;
  each = λ b. omega (arith, back.free b, back.each b, taken b);
  mine = record {
    at = λ c l.
        bool-mine (is_some (now c l)) (is_some (before c l)) (is_some (h c l)) (nat_lt 0 (times c back.used))
        (nat_lt 0 (times c back.unused)) (not-both c)
        (sym (is_some-Both now (only back.unused h) c l ∙ ap (cond (is_some (now c l)) true) (some-only back.unused h c l))
        ∙ (back.mine.at c l ∙ (is_some-Both before (only names h) c l ∙ ap (cond (is_some (before c l)) true) (whole c l))))
        (λ is. sym (some-only back.unused h c l) ∙ ap is_some (back.apart.at c l is))
        (λ is. sym (whole c l) ∙ ap is_some (away.at c l is))
        ∙ sym (is_some-Both before (only back.used h) c l ∙ ap (cond (is_some (before c l)) true) (some-only back.used h c l));
  };
  theirs = record {
    at = λ c l.
        back.theirs.at c l
        ∙ (is_some-Both (held mid.stake) (only back.unused h) c l
        ∙ (ap (λ q. cond q true (is_some (only back.unused h c l))) (ap (λ q. is_some (q c l)) less ∙ some-less names h c l)
        ∙ (ap (cond (cond (nat_lt 0 (times c names)) false (is_some (h c l))) true) (some-only back.unused h c l)
        ∙ (ap (λ q. cond (cond q false (is_some (h c l))) true (cond (nat_lt 0 (times c back.unused)) (is_some (h c l)) false))
        (all-test (times c back.used) (times c back.unused) (times c names) (back.each c))
        ∙ (bool-theirs (is_some (h c l)) (nat_lt 0 (times c back.used)) (nat_lt 0 (times c back.unused)) (not-both c)
        ∙ sym (some-less back.used h c l))))));
  };
}
  where
    h : Held
    h = held first.stake

    not-both : (c : ℕ) → nat_lt 0 (times c back.used) ≡ true → nat_lt 0 (times c back.unused) ≡ false
    not-both c e = is-none (times c back.unused) (omega (arith, some (times c back.used) e, back.each c, once c))

    whole : (c l : ℕ) → is_some (only names h c l) ≡ cond (cond (nat_lt 0 (times c back.used)) true (nat_lt 0 (times c back.unused)))
        (is_some (h c l)) false
    whole c l = some-only names h c l
        ∙ ap (λ q. cond q (is_some (h c l)) false) (all-test (times c back.used) (times c back.unused) (times c names) (back.each c))

-- no line of other blocks has changed
pub others-kept : {S : Type 0} {held : S → Held} {need : ℕ} {names : List ℕ} (first : Core S) {mid new : Core S} {before now : Held}
    → PutsBack held (held first.stake) need names mid new before now → held mid.stake ≡ less_all names (held first.stake)
    → ((c : ℕ) → free_times mid.chain mid.aside c + times c names ≡ free_times first.chain first.aside c)
    → (c l : ℕ) → free_times first.chain first.aside c ≡ 0 → held new.stake c l ≡ held first.stake c l
others-kept {held = held} {names = names} first back less taken c l gone =
    let none_of : times c names ≡ 0 = omega (arith, gone, taken c) in
    back.others c l none_of ∙ (ap (λ q. q c l) less ∙ less-at names (held first.stake) c l none_of)

pub takes-since : {S : Type 0} {held : S → Held} {need need' : ℕ} {first new : Core S} {before before' now : Held} → need' ≡ need
    → before' ≡ before → TakesBlocks held need' first new before' now → TakesBlocks held need first new before now
takes-since {S} {held} {need} {need'} {first} {new} {before} {before'} {now} e f takes =
    let P : ℕ → Type 0 = λ q. TakesBlocks held q first new before now in
    let Q : Held → Type 0 = λ q. TakesBlocks held need' first new q now in
    subst P e (subst Q f takes)

-- nothing was taken
pub takes-none : {S : Type 0} {held : S → Held} {need : ℕ} {first new : Core S} {before now : Held} → need ≡ 0
    → ((b : ℕ) → free_times new.chain new.aside b ≡ free_times first.chain first.aside b) → SameLines (held new.stake) (held first.stake)
    → now ≡ before → TakesBlocks held need first new before now
takes-none {held = held} {first = first} {before = before} e each lines same = record {
  blocks = [];
  count = sym e;
  each = λ b. omega (arith, each b, times-nil b);
  mine = record { at = λ c l. ap (λ q. is_some (q c l)) same ∙ (joined-none before (held first.stake)).at c l };
  theirs = record { at = λ c l. lines.at c l ∙ sym (ap (λ q. is_some (q c l)) (less-none (held first.stake))) };
}

pub takes-left : {S : Type 0} {held : S → Held} {h : Held} {need : ℕ} {names : List ℕ}
    (first : Core S) {mid new : Core S} {before now : Held} → PutsBack held h need names mid new before now
    → left_of mid + length names ≡ left_of first → left_of new + need ≡ left_of first
takes-left first back total = omega (arith, back.left, total)

-- ---- what a write gives, by what it takes

pub takes-together : {S : Type 0} {held : S → Held} {need : ℕ} {first new : Core S} {before now : Held}
    → TakesBlocks held need first new before now → SameLines (Both now (held new.stake)) (Both before (held first.stake))
takes-together {held = held} {first = first} {before = before} takes = lines-together before (held first.stake) takes.blocks takes.mine
    takes.theirs

pub takes-apart : {S : Type 0} {held : S → Held} {need : ℕ} {first new : Core S} {before now : Held}
    → TakesBlocks held need first new before now → Apart (held first.stake) before → Apart (held new.stake) now
takes-apart takes away = apart-other (lines-apart takes.blocks (apart-other away) takes.mine takes.theirs)

pub takes-inode : {S : Type 0} {held : S → Held} {need : ℕ} {first new : Core S} {before now : Held} {o o' : Origin} (n n' : ℕ)
    → TakesBlocks held need first new before now → o' ≡ o → n' ≡ n → HoldsInode o before n → HoldsInode o' now n'
takes-inode {held = held} {first = first} {now = now} {o = o} {o' = o'} n n' takes e f inode =
    let P : Origin → Type 0 = λ q. HoldsInode q now n' in
    let Q : ℕ → Type 0 = λ q. HoldsInode o now q in
    subst P (sym e) (subst Q (sym f) (inode-joined (held first.stake) takes.blocks takes.mine inode))

-- ---- what was taken, beside the file

pub can-use : {S : Type 0} {held : S → Held} {lent : S → Lent} {origin : S → Origin} {forced : S → Bool} {faults : S → ℕ} {o o' : Origin}
    {h now mine mine' : Held} {cuts : List (ℕ × S)} → o' ≡ o → mine' ≡ mine → IsCutFrom held lent origin forced faults o h now cuts
    → AreBlocks o h (names_of cuts) → Apart h mine → CanFreeAll held lent origin forced o' h mine' cuts
can-use {o = o} {o' = o'} {h = h} {mine = mine} {mine' = mine'} {cuts = cuts} home e from are away = record {
  are = (let P : Origin → Type 0 = λ q. AreBlocks q h (names_of cuts) in subst P (sym home) are);
  each = parts-are home from;
  apart = (let P : Held
      → Type 0 = λ q. Apart q (only (names_of cuts) h) in subst P (sym e) (apart-only (names_of cuts) (apart-other away)));
}

pub need-same : {o o' : Origin} {h h' : Held} {a a' : List ℕ} (at count : ℕ) → o' ≡ o → h' ≡ h → a' ≡ a
    → write_need o'.sizes h' a' at count ≡ write_need o.sizes h a at count
need-same {o} {o'} {h} {h'} {a} {a'} at count e f d =
    ap (λ q. write_need q.sizes h' a' at count) e
    ∙ (ap (λ q. write_need o.sizes q a' at count) f ∙ ap (λ q. write_need o.sizes h q at count) d)

pub no-need : (g : Geometry) (h : Held) (a : List ℕ) (at count : ℕ) → count ≡ 0 → write_need g h a at count ≡ 0
no-need g h a at count e = ap (write_need g h a at) e ∙ need-zero g h a (at / g.block_size)

pub stands-all : {o o' : Origin} {h h' : Held} {body body' : InodeBody} {node : Node} → o' ≡ o → h' ≡ h → body' ≡ body
    → StandsFor o h body node → StandsFor o' h' body' node
stands-all {o} {o'} {h} {h'} {body} {body'} {node} e f d stands =
    let P : InodeBody → Type 0 = λ q. StandsFor o' h' q node in
    subst P (sym d) (stands-since e f stands)

-- the blocks' size is one
pub node-since : {o o' p : Origin} {h : Held} {body : InodeBody} (node : Node) (at : ℕ) (bytes : List ℕ) → o' ≡ o
    → StandsFor p h body (put o'.sizes.block_size node at bytes) → StandsFor p h body (put o.sizes.block_size node at bytes)
node-since {o} {o'} {p} {h} {body} node at bytes e stands =
    let P : Origin → Type 0 = λ q. StandsFor p h body (put q.sizes.block_size node at bytes) in
    subst P e stands

pub node-same : {o : Origin} {h : Held} {body : InodeBody} {node : Node} (block at : ℕ) (bytes : List ℕ) → length bytes ≡ 0
    → StandsFor o h body node → StandsFor o h body (put block node at bytes)
node-same {o} {h} {body} {node} block at bytes e stands =
    let P : Node → Type 0 = λ q. StandsFor o h body q in
    subst P (sym (put-nothing block node at bytes (omega (arith, e)))) stands

-- nothing was put
pub none-done : (T : Type 0) {stop : WriteStop} (all : ℕ) (refusal : Refusal) → stop ≡ stop_of refusal → done_by {T = T} all (Err stop) ≡ 0
none-done T all refusal e = ap (λ q. done_by {T = T} all (Err q)) e ∙ by refusal
  where
    by : (r : Refusal) → done_by {T = T} all (Err (stop_of r)) ≡ 0
    by refused.Fault = refl
    by refused.NoMemory = refl

-- ---- room for blocks that are set aside

pub room-kept : {all done spare : ℕ} → all ≡ 0 → done ≡ 0 → KeepsRoom all done spare spare
room-kept e f = record { most = omega (arith, e); least = omega (arith, e, f) }

pub room-used : {all all' done done' old mid new : ℕ} → mid ≡ max old all → all' ≡ all → done' ≡ done → KeepsRoom all' done' mid new
    → KeepsRoom all done old new
room-used e f d kept = record { most = omega (arith, e, f, kept.most); least = omega (arith, e, f, d, kept.least) }

pub room-unused : {all done old new : ℕ} → KeepsRoom all 0 old new → done ≡ 0 → KeepsRoom all done old new
room-unused kept e = record { most = kept.most; least = omega (arith, kept.least, e) }
