-- The stake of the tests, from which blocks are parted and freed.
use Rattle.std.proofs.Common.{◌≡◌, ◌≢◌, ◌<◌, ◌≤◌, ◌+◌, ◌*◌, ◌==◌, ◌&&◌, ◌||◌, inl, inr, ℕ, replicate, Bool, true, false, cond, List, [], ◌∷◌, ◌++◌, length, get_or, Option, Some, None, IsSome, is_some, nat_le, nat_lt, refl, sym, ap, ◌∙◌, subst, arith, length-append}
use Rattle.std.proofs.lemmas.Bool.{eqb-true, false≢true}
use Rattle.std.proofs.lemmas.Bool.Decides.{nat_tests}
use Rattle.sv_form.specs.Geometry.{IsDataBlock, IsGeometry, block_lines, inode_count, inode_place, super_place, line_number}
use Rattle.sv_form.specs.OwnerTable.{OwnerTable}
use Rattle.sv_form.specs.Owners.{owner_of}
use Rattle.sv_form.specs.declared.geometry.Geometry.{Geometry}
use Rattle.sv_form.specs.declared.place.Place.{Place}
use Rattle.sv_form.specs.declared.owners.LineRange.{LineRange}
use Rattle.sv_form.specs.declared.superblock.Super.{Super}
use Rattle.sv_store.specs.Held.{Apart, Both, Held, HoldsBlock, Lent, Origin, SameLines, chosen, covers, in_ranges, line_of, nothing_lent, of_content, rest}
use Rattle.sv_store.specs.Calls.{CanGet, CanPart, Parts}
use Rattle.sv_store.proofs.Holding.{Apart-Parts, CanPart-range, IsSome-given, IsSome-kept, SameLines-eq, covers-means, is_some-Both, none_from}
use Rattle.sv_super.specs.Calls.{CanMount, CanMountInodes, head_of, is_free, owned_lines}
use Rattle.sv_super.specs.Core.{Core, HoldsFirst, HoldsOnly, HoldsSuper, NamesSizes, alone, left_of, less, line_alone}
use Rattle.sv_super.specs.Count.{one_if, sum_below, times}
use Rattle.sv_super.specs.Inodes.{is_free_inode}
use Rattle.sv_super.specs.Sample.{IsSource, sample_sizes}
use Rattle.sv_super.proofs.Chains.{chain-empty}
use Rattle.sv_super.proofs.Counts.{other, sum-more, times-nil}
use Rattle.sv_super.proofs.FreeNumbers.{none-free-inode}
use Rattle.sv_super.proofs.InodeLines.{line_range}
use Rattle.sv_super.proofs.Sound.{less-other}

pub sample-sizes : IsGeometry sample_sizes
sample-sizes = record {
  block_size = refl;
  least_blocks = omega arith;
  most_blocks = omega arith;
  least_first = omega arith;
  most_first = omega arith;
  some_data = omega arith;
}

pub source-part : {o o' : Origin} {h k : Held} {m : Lent} {n : ℕ} (b : ℕ) (r : LineRange) → IsSource o h o' k m n → 4 ≤ b → b < n → r.block ≡ b → r.first ≡ 0 → r.count ≡ 16 → CanPart k m (r ∷ [])
source-part {o} {o'} {h} {k} {m} b r is least most e f c =
    CanPart-range k m r
    (λ l low high. ap (λ q. is_some (k q l)) e ∙ (is.whole b least most).at l (omega (arith, high, f, c, ap (λ q. q.block_size) is.sizes))) (ap (λ q. q r.block) is.lent) (omega (arith, c)) 1 0 is.more
    (λ same. absurd (omega (arith, same, e, least)))

-- none of the part is held by the other
pub alone-apart : {h k part : Held} (b : ℕ) → Apart h k → part ≡ alone b k → Apart h part
unfolding alone
alone-apart {h} {k} {part} b away is = record { at = λ c l some. ap (λ q. q c l) is ∙ by (c == b) (k c l) (away.at c l some) }
  where
    by : (t : Bool) (p : Option (List ℕ)) → p ≡ None → cond t p None ≡ None
    by true p e = e
    by false p e = refl

pub less-none : (h : Held) {new : Held} (b : ℕ) → new ≡ less b h → (c l : ℕ) → h c l ≡ None → new c l ≡ None
unfolding less
less-none h {new} b is c l none = ap (λ q. q c l) is ∙ by (c == b) (h c l) none
  where
    by : (t : Bool) (p : Option (List ℕ)) → p ≡ None → cond t None p ≡ None
    by true p e = refl
    by false p e = e

-- a block that was taken, and the core that it was taken from, which has lost lines since
pub taken-apart : (h : Held) {mine now part : Held} (b : ℕ) → mine ≡ less b h → part ≡ alone b h → ((c l : ℕ) → mine c l ≡ None → now c l ≡ None) → Apart now part
unfolding less alone
taken-apart h {mine} {now} {part} b is cut kept = record { at = λ c l some. ap (λ q. q c l) cut ∙ by c l some (c == b) refl }
  where
    by : (c l : ℕ) → IsSome (now c l) → (t : Bool) → (c == b) ≡ t → cond (c == b) (h c l) None ≡ None
    by c l some true e = absurd (false≢true (sym (ap is_some (kept c l (ap (λ q. q c l) is ∙ ap (λ t. cond t None (h c l)) e))) ∙ some))
    by c l some false e = ap (λ t. cond t (h c l) None) e

pub source-less : {o o2 o' o2' : Origin} {h h2 k k2 part : Held} {m m2 : Lent} (b : ℕ) → IsSource o h o' k m (b + 1) → 4 ≤ b → SameLines h2 (Both h part) → part ≡ alone b k → k2 ≡ less b k → o2 ≡ o → o2' ≡ o' → m2 ≡ m → IsSource o2 h2 o2' k2 m2 b
unfolding alone less
source-less {o} {o2} {o'} {o2'} {h} {h2} {k} {k2} {part} {m} {m2} b is least lines cut left e f n = record {
  sizes = ap (λ q. q.sizes) e ∙ is.sizes;
  home = f ∙ (is.home ∙ sym e);
  lent = n ∙ is.lent;
  apart = record { at = λ c l some. by c l (sym (lines.at c l ∙ is_some-Both h part c l) ∙ some) (is_some (h c l)) refl };
  whole = λ c low below. record {
    at = λ l within.
        ap (λ q. is_some (q l)) (ap (λ q. q c) left ∙ less-other b c k (λ same. absurd (omega (arith, same, below))))
        ∙ (is.whole c low (omega (arith, below))).at l (let P : Origin → Type 0 = λ q. l * 64 < q.sizes.block_size in subst P e within);
  };
  more = ap (λ q. is_some (q 0)) (ap (λ q. q 1) left ∙ less-other b 1 k (λ same. absurd (omega (arith, same, least)))) ∙ is.more;
}
  where
    none : (t : Bool) (p : Option (List ℕ)) → p ≡ None → cond t None p ≡ None
    none true p q = refl
    none false p q = q

    part_of : (c l : ℕ) → is_some (part c l) ≡ true → (t : Bool) → (c == b) ≡ t → t ≡ true
    part_of c l some true q = refl
    part_of c l some false q = absurd (false≢true (sym (ap is_some (ap (λ x. x c l) cut ∙ ap (λ t. cond t (k c l) None) q)) ∙ some))

    by : (c l : ℕ) → cond (is_some (h c l)) true (is_some (part c l)) ≡ true → (t : Bool) → is_some (h c l) ≡ t → k2 c l ≡ None
    by c l some true q = ap (λ x. x c l) left ∙ none (c == b) (k c l) (is.apart.at c l q)
    by c l some false q =
        ap (λ x. x c l) left ∙ ap (λ t. cond t None (k c l)) (part_of c l (sym (ap (λ t. cond t true (is_some (part c l))) q) ∙ some) (c == b) refl)

-- a block of which all lines are held can be read
pub can-read : {o o' : Origin} {h : Held} {m : Lent} {b : ℕ} {g : Geometry} → IsGeometry g → g ≡ o'.sizes → o' ≡ o → HoldsBlock o h b → m ≡ nothing_lent → CanGet h m b
can-read {b = b} sizes same home whole none = record {
  some = (0, whole.at 0 (omega (arith, sizes.block_size, ap (λ q. q.block_size) same, ap (λ q. q.sizes.block_size) home)));
  away = ap (λ q. q b) none;
}

pub source-data : {o o' : Origin} {h k : Held} {m : Lent} {n : ℕ} (b : ℕ) → IsSource o h o' k m n → 4 ≤ b → b < 64 → IsDataBlock o.sizes b
source-data b is least most = record { least = omega (arith, least, ap (λ q. q.first_data) is.sizes); most = omega (arith, most, ap (λ q. q.blocks) is.sizes) }

-- ---- the core without free blocks

-- the superblock's lines of a block 0
abbrev pub super_range : LineRange
super_range = record { block = 0; first = 8; count = 8 }

-- the line of inode 1
abbrev pub first_range : LineRange
first_range = record { block = 2; first = 0; count = 1 }

-- the lines that a core has without free blocks and inodes
abbrev pub core_ranges : List LineRange
core_ranges = super_range ∷ first_range ∷ []

or-second : (s t : Bool) → s ≡ false → (s || (t || false)) ≡ true → t ≡ true
or-second true t e is = absurd (false≢true (sym e))
or-second false true e is = refl
or-second false false e is = absurd (false≢true is)

core-within : (b l : ℕ) → in_ranges core_ranges b l ≡ true → (b < 4) × (l < 16)
core-within b l is = by (covers b l super_range) refl
  where
    by : (t : Bool) → covers b l super_range ≡ t → (b < 4) × (l < 16)
    by true e = let m = covers-means b l super_range e in (omega (arith, m.0), omega (arith, m.2))
    by false e =
        let m = covers-means b l first_range (or-second (covers b l super_range) (covers b l first_range) e is) in
        (omega (arith, m.0), omega (arith, m.2))

pub core-past : (b l : ℕ) → 4 ≤ b → in_ranges core_ranges b l ≡ false
core-past b l past = by (in_ranges core_ranges b l) refl
  where
    by : (t : Bool) → in_ranges core_ranges b l ≡ t → in_ranges core_ranges b l ≡ false
    by true e = absurd (let low = core-within b l e in omega (arith, low.0, past))
    by false e = e

pub core-part : {h : Held} {m : Lent} → ((b l : ℕ) → b < 64 → l < 16 → IsSome (h b l)) → m ≡ nothing_lent → CanPart h m core_ranges
unfolding covers
core-part {h} {m} held lent = record {
  within = λ b l is. (let low = core-within b l is in held b l (omega (arith, low.0)) low.1);
  away = λ b l is. ap (λ q. q b) lent;
  once = λ b l. one (covers b l super_range) (covers b l first_range) (λ e f. absurd (omega (arith, (covers-means b l super_range e).0, (covers-means b l first_range f).0)));
  some = (0, (8, refl));
  more = (1, (0, (held 1 0 (omega arith) (omega arith), refl)));
}
  where
    one : (s t : Bool) → (s ≡ true → t ≡ true → ⊥) → 0 + cond s 1 0 + cond t 1 0 ≤ 1
    one true true never = absurd (never refl refl)
    one true false never = omega arith
    one false true never = omega arith
    one false false never = omega arith

super-covers : (l : ℕ) → l < 8 → in_ranges core_ranges 0 (8 + l) ≡ true
unfolding covers
super-covers l low = or-none (nat_le 8 (8 + l) && nat_lt (8 + l) 16) ∙ and-yes (nat_le 8 (8 + l)) (nat_lt (8 + l) 16) (le 8 (8 + l) (omega arith)) (lt (8 + l) 16 (omega arith))
  where
    or-none : (x : Bool) → (x || false) ≡ x
    or-none true = refl
    or-none false = refl

    and-yes : (x y : Bool) → x ≡ true → y ≡ true → (x && y) ≡ true
    and-yes x y p q = ap (λ t. t && y) p ∙ q

    le : (x y : ℕ) → x ≤ y → nat_le x y ≡ true
    le x y h = grind (nat_tests, arith)

    lt : (x y : ℕ) → x < y → nat_lt x y ≡ true
    lt x y h = grind (nat_tests, arith)

pub super-held : {o : Origin} {h mine theirs : Held} → ((b l : ℕ) → b < 64 → l < 16 → IsSome (h b l)) → Parts h core_ranges mine theirs → o.sizes ≡ sample_sizes → HoldsSuper o theirs
super-held {o} {h} {mine} {theirs} held parts e = record {
  at = (let P : Geometry → Type 0 = λ q. (l : ℕ) → l < 8 → IsSome (theirs (super_place q).block ((super_place q).line + l)) in
      subst P (sym e) (λ l low. IsSome-given parts 0 (8 + l) (super-covers l low) (held 0 (8 + l) (omega arith) (omega (arith, low)))));
}

core-before : in_ranges core_ranges 1 0 ≡ false
unfolding covers
core-before = refl

pub third-kept : in_ranges core_ranges 2 2 ≡ false
unfolding covers
third-kept = refl

-- it holds inode 1's line, and no data block's
pub core-first : {o : Origin} {h mine theirs : Held} → h 2 0 ≡ Some (replicate 64 0) → Parts h core_ranges mine theirs → o.sizes ≡ sample_sizes → HoldsFirst o theirs
unfolding chosen covers
core-first {o} {h} {mine} {theirs} zeros parts e = record {
  line = (let P : Geometry → Type 0 = λ q. theirs (inode_place q 1).block (inode_place q 1).line ≡ Some (replicate 64 0) in
      subst P (sym e) (ap (λ q. q 2 0) parts.given ∙ zeros));
}

pub core-only : {o : Origin} {h mine theirs : Held} (f : ℕ → ℕ) → Parts h core_ranges mine theirs → o.sizes ≡ sample_sizes → HoldsOnly o theirs f
unfolding chosen
core-only {o} {h} {mine} {theirs} f parts e = record { only = λ b l some in_data. by b l in_data (sym (ap (λ q. is_some (q b l)) parts.given) ∙ some) (in_ranges core_ranges b l) refl }
  where
    by : (b l : ℕ) → IsDataBlock o.sizes b → is_some (cond (in_ranges core_ranges b l) (h b l) None) ≡ true → (t : Bool) → in_ranges core_ranges b l ≡ t → 0 < f b
    by b l in_data some true q = absurd (let low = core-within b l q in omega (arith, low.0, in_data.least, ap (λ (g : Geometry). g.first_data) e))
    by b l in_data some false q = absurd (false≢true (sym (ap (λ t. is_some (cond t (h b l) None)) q) ∙ some))

pub core-names : (o : Origin) (s : Super) → o.sizes ≡ sample_sizes → s.block_type ≡ 2 → s.first_data ≡ 4 → s.blocks ≡ 64 → NamesSizes o.sizes (head_of s)
core-names o s e type first blocks = record {
  block_type = type;
  first_data = first ∙ sym (ap (λ (g : Geometry). g.first_data) e);
  blocks = blocks ∙ sym (ap (λ (g : Geometry). g.blocks) e);
}

pub first-source : {o o' : Origin} {h mine theirs : Held} {m : Lent} → ((b l : ℕ) → b < 64 → l < 16 → IsSome (h b l)) → Parts h core_ranges mine theirs → o.sizes ≡ sample_sizes → o' ≡ o → m ≡ nothing_lent → IsSource o theirs o' mine m 64
first-source {o} {o'} {h} {mine} {theirs} {m} held parts e f n = record {
  sizes = e;
  home = f;
  lent = n;
  apart = record { at = λ b l some. none_from (mine b l) (none (is_some (mine b l)) refl b l some) };
  whole = λ b low most. record { at = λ l within. IsSome-kept parts b l (core-past b l low) (held b l most (omega (arith, within, ap (λ q. q.block_size) e))) };
  more = IsSome-kept parts 1 0 core-before (held 1 0 (omega arith) (omega arith));
}
  where
    away : Apart mine theirs
    away = Apart-Parts parts (SameLines-eq mine mine refl) (SameLines-eq theirs theirs refl)

    none : (t : Bool) → {u : Bool} → t ≡ u → (b l : ℕ) → IsSome (theirs b l) → is_some (mine b l) ≡ false
    none t e b l some = by (is_some (mine b l)) refl
      where
        by : (t : Bool) → is_some (mine b l) ≡ t → is_some (mine b l) ≡ false
        by false q = q
        by true q = absurd (false≢true (sym (ap is_some (away.at b l q)) ∙ some))

-- every line belongs to an inode, so that no block is free
pub none-free : (t : OwnerTable) (b : ℕ) → t.geometry ≡ sample_sizes → ((k : ℕ) → k < 1024 → get_or t.owners k 0 ≡ 2) → is_free t b ≡ false
none-free t b e owned = by (nat_lt b t.geometry.blocks) refl
  where
    lt : (x y : ℕ) → nat_lt x y ≡ true → x < y
    lt x y h = grind (nat_tests, arith)

    and-none : (x : Bool) → (x && false) ≡ false
    and-none true = refl
    and-none false = refl

    lines : block_lines t.geometry ≡ 15 + 1
    lines = ap block_lines e

    owner : ℕ → ℕ
    owner l = one_if (nat_lt 0 (owner_of t (record { block = b; line = l })))

    last : b < 64 → owner 15 ≡ 1
    last low =
        ap (λ n. one_if (nat_lt 0 (get_or t.owners n 0))) (ap (λ g. line_number g (record { block = b; line = 15 })) e)
        ∙ ap (λ n. one_if (nat_lt 0 n)) (owned (b * 16 + 15) (omega (arith, low)))

    some : b < 64 → owned_lines t b ≢ 0
    some low zero =
        let all : owned_lines t b ≡ sum_below 15 owner + owner 15 = ap (λ n. sum_below n owner) lines ∙ sum-more 15 owner in
        let one = last low in
        omega arith

    by : (s : Bool) → nat_lt b t.geometry.blocks ≡ s → is_free t b ≡ false
    by true f =
        let low : b < 64 = (let q = lt b t.geometry.blocks f in omega (arith, q, ap (λ g. g.blocks) e)) in
        ap (λ q. nat_le t.geometry.first_data b && (nat_lt b t.geometry.blocks && q)) (other (owned_lines t b) 0 (some low))
        ∙ (ap (λ q. nat_le t.geometry.first_data b && q) (and-none (nat_lt b t.geometry.blocks)) ∙ and-none (nat_le t.geometry.first_data b))
    by false f = ap (λ q. nat_le t.geometry.first_data b && (q && (owned_lines t b == 0))) f ∙ and-none (nat_le t.geometry.first_data b)

pub mount-empty : {o : Origin} {h mine theirs : Held} {m : Lent} {t : OwnerTable} {list : List ℕ} → ((b l : ℕ) → b < 64 → l < 16 → IsSome (h b l)) → Parts h core_ranges mine theirs → o.sizes ≡ sample_sizes → m ≡ nothing_lent → t.geometry ≡ sample_sizes → length t.owners ≡ 1024 → ((k : ℕ) → k < 1024 → get_or t.owners k 0 ≡ 2) → list ≡ 0 ∷ [] → CanMount o theirs m t list
mount-empty {o} {h} {mine} {theirs} {m} {t} {list} held parts e lent f count owned is = record {
  table = record {
    sizes = (let P : Geometry → Type 0 = IsGeometry in subst P (sym f) sample-sizes);
    lines = count ∙ sym (ap (λ g. g.blocks * block_lines g) f);
  };
  sizes = f ∙ sym e;
  lent = lent;
  super = super-held held parts e;
  order = [];
  chain = chain-empty theirs list is;
  each = λ b. times-nil b ∙ sym (ap one_if (none-free t b f owned));
  whole = λ b some. absurd (let q = times-nil b in omega arith);
}

-- ---- no inode is free

pub mount-no-inodes : {o : Origin} {h : Held} {used : List Bool} {cached : List ℕ} → o.sizes ≡ sample_sizes → used ≡ replicate 32 true → cached ≡ [] → CanMountInodes o h used cached
mount-no-inodes {o} {h} {used} {cached} e full none = record {
  lines = record {
    size = ap length full ∙ sym (ap inode_count e);
    zeros = λ n free. absurd (false≢true (sym (ap (λ q. is_free_inode q n) full ∙ none-free-inode n 32) ∙ free));
  };
  free = λ n some. absurd (let q = ap (times n) none in let z = times-nil n in omega arith);
  once = λ n. (let q = ap (times n) none in let z = times-nil n in omega arith);
}

-- as many are left where all are in one order
pub order-left : {S : Type 0} (old new : Core S) → new.aside ++ new.chain ≡ old.aside ++ old.chain → left_of new ≡ left_of old
order-left {S} old new e =
    let one = length-append new.aside new.chain in
    let two = length-append old.aside old.chain in
    let three = ap length e in
    omega (arith, one, two, three)

-- ---- the line of inode 3

-- the lines of the stake's blocks
pub content-line : (g : Geometry) (xs : List (List ℕ)) (b l : ℕ) → g ≡ sample_sizes → b < length xs → l < 16 → of_content g xs b l ≡ Some (line_of (get_or xs b []) l)
unfolding of_content
content-line g xs b l e some low =
    ap (λ q. cond (q && nat_lt (l * 64) g.block_size) (Some (line_of (get_or xs b []) l)) None) (lt b (length xs) some)
    ∙ (ap (λ q. cond (nat_lt (l * 64) q.block_size) (Some (line_of (get_or xs b []) l)) None) e
    ∙ ap (λ q. cond q (Some (line_of (get_or xs b []) l)) None) (lt (l * 64) 1024 (omega (arith, low))))
  where
    lt : (x y : ℕ) → x < y → nat_lt x y ≡ true
    lt x y h = grind (nat_tests, arith)

zeros-first : line_of (replicate 1024 0) 0 ≡ replicate 64 0
unfolding line_of
zeros-first = refl

zeros-third : line_of (replicate 1024 0) 2 ≡ replicate 64 0
unfolding line_of
zeros-third = refl

-- the lines of the inodes 1 and 3 in a block of zero bytes
pub first-content : (g : Geometry) (xs : List (List ℕ)) → g ≡ sample_sizes → 2 < length xs → get_or xs 2 [] ≡ replicate 1024 0 → of_content g xs 2 0 ≡ Some (replicate 64 0)
first-content g xs e some zeros = content-line g xs 2 0 e some (omega arith) ∙ (ap (λ q. Some (line_of q 0)) zeros ∙ ap Some zeros-first)

pub zero-content : (g : Geometry) (xs : List (List ℕ)) → g ≡ sample_sizes → 2 < length xs → get_or xs 2 [] ≡ replicate 1024 0 → of_content g xs 2 2 ≡ Some (replicate 64 0)
zero-content g xs e some zeros = content-line g xs 2 2 e some (omega arith) ∙ (ap (λ q. Some (line_of q 2)) zeros ∙ ap Some zeros-third)

-- the place of inode 3
abbrev pub third : Place
third = record { block = 2; line = 2 }

pub third-place : {g : Geometry} → g ≡ sample_sizes → inode_place g 3 ≡ third
third-place e = ap (λ q. inode_place q 3) e

pub third-part : {h : Held} {m : Lent} → h 2 2 ≡ Some (replicate 64 0) → IsSome (h 1 0) → m ≡ nothing_lent → CanPart h m (line_range third ∷ [])
third-part {h} {m} is more lent =
    CanPart-range h m (line_range third) (λ l low high. (let e : l ≡ 2 = omega arith in ap (λ q. is_some (h 2 q)) e ∙ ap is_some is)) (ap (λ q. q 2) lent) (omega arith) 1 0 more (λ same. absurd (omega (arith, same)))

pub line-apart : {h k part : Held} (p : Place) → Apart h k → part ≡ line_alone p k → Apart h part
unfolding line_alone
line-apart {h} {k} {part} p away is = record { at = λ c l some. ap (λ q. q c l) is ∙ by ((c == p.block) && (l == p.line)) (k c l) (away.at c l some) }
  where
    by : (t : Bool) (q : Option (List ℕ)) → q ≡ None → cond t q None ≡ None
    by true q e = e
    by false q e = refl

-- it has no line of a data block
pub line-only : {o : Origin} (k : Held) {part : Held} (p : Place) → part ≡ line_alone p k → p.block < 4 → o.sizes ≡ sample_sizes → HoldsOnly o part (λ _. 0)
unfolding line_alone
line-only {o} k {part} p is low e = record { only = λ b l some in_data. by b l in_data (sym (ap (λ q. is_some (q b l)) is) ∙ some) (b == p.block) refl }
  where
    by : (b l : ℕ) → IsDataBlock o.sizes b → is_some (cond ((b == p.block) && (l == p.line)) (k b l) None) ≡ true → (t : Bool) → (b == p.block) ≡ t → 0 < 0
    by b l in_data some true q = absurd (omega (arith, eqb-true b p.block q, low, in_data.least, ap (λ (g : Geometry). g.first_data) e))
    by b l in_data some false q = absurd (false≢true (sym (ap (λ t. is_some (cond (t && (l == p.line)) (k b l) None)) q) ∙ some))

pub line-kept : {h mine theirs : Held} {x : List ℕ} → Parts h core_ranges mine theirs → h 2 2 ≡ Some x → mine 2 2 ≡ Some x
unfolding rest covers
line-kept {h} {mine} {theirs} {x} parts is = ap (λ q. q 2 2) parts.kept ∙ is
