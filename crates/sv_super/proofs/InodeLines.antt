-- The lines of free inodes: each stands in a block before the data blocks, and no two have one place.
use Rattle.std.proofs.Common.{◌≡◌, ◌≢◌, ◌≤◌, ◌<◌, ◌+◌, ◌-◌, ◌*◌, ◌/◌, ◌%◌, ◌==◌, ◌&&◌, ◌||◌, ℕ, Bool, true, false, cond, List, [], ◌∷◌, length, replicate, set, Option, Some, None, IsSome, is_some, nat_le, nat_lt, arith, refl, sym, ap, ◌∙◌, subst}
use Rattle.std.proofs.Math.Path.{fun_ext}
use Rattle.std.proofs.lemmas.Bool.{eqb-true, false≢true}
use Rattle.std.proofs.lemmas.Bool.Decides.{nat_tests}
use Rattle.std.proofs.lemmas.List.{length-set}
use Rattle.sv_form.specs.Geometry.{IsDataBlock, IsGeometry, IsNumber, block_lines, inode_count, inode_place, super_place}
use Rattle.sv_form.specs.declared.geometry.Geometry.{Geometry}
use Rattle.sv_form.specs.declared.owners.LineRange.{LineRange}
use Rattle.sv_form.specs.declared.place.Place.{Place}
use Rattle.sv_store.specs.Held.{Apart, Both, Held, HoldsBlock, InRange, Lent, Origin, chosen, covers, in_ranges, nothing_lent, rest}
use Rattle.sv_store.specs.Calls.{CanPart, Parts}
use Rattle.sv_store.proofs.Holding.{CanPart-range, eqb_same, none_from}
use Rattle.sv_super.specs.Core.{Head, HoldsInodes, HoldsOnly, HoldsSuper, IsCore, IsKept, IsSound, free_times, less, line_alone, line_less}
use Rattle.sv_super.specs.FreeList.{IsChain, taken}
use Rattle.sv_super.specs.Inodes.{is_free_inode}
use Rattle.sv_super.proofs.Chains.{frame, length-taken, taken-is}
use Rattle.sv_super.proofs.Counts.{other}
use Rattle.sv_super.proofs.FreeNumbers.{free-range, set-away, used-at}
use Rattle.sv_super.proofs.OnlyFree.{both-data, only-fewer, only-home}
use Rattle.sv_super.proofs.Sound.{Joined, both-same, less-other}

-- ---- places

pub sixteen : {g : Geometry} → IsGeometry g → block_lines g ≡ 16
sixteen {g} sizes = ap (λ s. s / 64) sizes.block_size

pub place-is : {g : Geometry} (n : ℕ) → IsGeometry g → ((inode_place g n).block ≡ (n - 1) / 16 + 2) × ((inode_place g n).line ≡ (n - 1) % 16)
place-is {g} n sizes = (ap (λ s. (n - 1) / s + 2) (sixteen sizes), ap (λ s. (n - 1) % s) (sixteen sizes))

pub count-is : {g : Geometry} → IsGeometry g → inode_count g ≡ (g.first_data - 2) * 16
count-is {g} sizes = ap (λ s. (g.first_data - 2) * s / 64) sizes.block_size ∙ (let e : (g.first_data - 2) * 1024 / 64 ≡ (g.first_data - 2) * 16 = omega arith in e)

pub place-low : {g : Geometry} (n : ℕ) → IsGeometry g → 1 ≤ n → n ≤ inode_count g → (2 ≤ (inode_place g n).block) × ((inode_place g n).block < g.first_data) × ((inode_place g n).line < 16)
place-low {g} n sizes low most =
    let p = place-is n sizes in
    let c = count-is sizes in
    (omega (arith, p.0), omega (arith, p.0, c, most, low, sizes.least_first), omega (arith, p.1))

pub place-once : {g : Geometry} (n k : ℕ) → IsGeometry g → 1 ≤ n → 1 ≤ k → (inode_place g k).block ≡ (inode_place g n).block → (inode_place g k).line ≡ (inode_place g n).line → k ≡ n
place-once {g} n k sizes low more b l =
    let p = place-is n sizes in
    let q = place-is k sizes in
    omega (arith, p.0, p.1, q.0, q.1, b, l, low, more)

-- ---- the map while lines come and go

-- the lines before the data blocks stay
pub inodes-stay : {o o' : Origin} {h h' : Held} {used : List Bool} → IsGeometry o.sizes → HoldsInodes o h used → o' ≡ o → ((c l : ℕ) → 2 ≤ c → c < o.sizes.first_data → IsSome (h c l) → h' c l ≡ h c l) → HoldsInodes o' h' used
inodes-stay {o} {o'} {h} {h'} {used} sizes is home same =
    (let P : Origin → Type 0 = λ q. HoldsInodes q h' used in
    subst P (sym home) (record {
      size = is.size;
      zeros = λ n free. (let range = free-range used n free in
          let place = place-low n sizes (omega (arith, range.0)) (omega (arith, range.1, is.size)) in
          same (inode_place o.sizes n).block (inode_place o.sizes n).line place.0 place.1 (ap is_some (is.zeros n free)) ∙ is.zeros n free);
    }))

-- a data block was cut off
pub inodes-less : {o o' : Origin} {h h' : Held} {used : List Bool} (b : ℕ) → IsGeometry o.sizes → HoldsInodes o h used → o' ≡ o → h' ≡ less b h → IsDataBlock o.sizes b → HoldsInodes o' h' used
inodes-less {o} {o'} {h} {h'} {used} b sizes is home cut in_data =
    inodes-stay sizes is home (λ c l past low some. ap (λ q. q c l) cut ∙ ap (λ q. q l) (less-other b c h (λ same. absurd (omega (arith, low, same, in_data.least)))))

-- a line that was held stays where more come in
pub both-first : (h k : Held) (c l : ℕ) → IsSome (h c l) → Both h k c l ≡ h c l
unfolding Both
both-first h k c l some = ap (λ t. cond t (h c l) (k c l)) some

-- a data block came in
pub inodes-joined : {o o' : Origin} {h k new : Held} {used : List Bool} (b : ℕ) → IsGeometry o.sizes → HoldsInodes o h used → o' ≡ o → Joined h k new b → IsDataBlock o.sizes b → HoldsInodes o' new used
inodes-joined {o} {o'} {h} {k} {new} {used} b sizes is home joined in_data =
    inodes-stay sizes is home (λ c l past low some. ap (λ q. q l) (joined.others c (λ same. absurd (omega (arith, low, same, in_data.least)))) ∙ both-first h k c l some)

-- ---- the free blocks while other lines come and go

pub kept-elsewhere : {o o' : Origin} {h h' : Held} {m m' : Lent} {list aside : List ℕ} {n spare room : ℕ} → IsKept o h m list n aside spare room → o' ≡ o → m' ≡ nothing_lent → ((c : ℕ) → 0 < free_times (taken n h list) aside c → h' c ≡ h c) → ((c l : ℕ) → IsSome (h' c l) → IsDataBlock o.sizes c → IsSome (h c l)) → HoldsSuper o h' → IsKept o' h' m' list n aside spare room × (taken n h' list ≡ taken n h list)
kept-elsewhere {o} {o'} {h} {h'} {m} {m'} {list} {aside} {n} {spare} {room} kept home lent same fewer super = (
  record {
    sound = (let P : Origin → Type 0 = λ q. IsSound q h' m' (free_times (taken n h' list) aside) in
        subst P (sym home) (subst (λ q. IsSound o h' m' (free_times q aside)) (sym order) sound));
    chain = subst (λ q. IsChain h' list q) (sym order) chain;
    only = only-home home (subst (λ q. HoldsOnly o h' (free_times q aside)) (sym order) (only-fewer (free_times (taken n h list) aside) kept.only fewer (λ c. omega arith)));
    fits = kept.fits;
  },
  order,
)
  where
    chain : IsChain h' list (taken n h list)
    chain = frame h h' (taken n h list) list (λ c some. same c (omega arith)) kept.chain

    order : taken n h' list ≡ taken n h list
    order = taken-is h' (taken n h list) list n chain (sym (length-taken n h list))

    sound : IsSound o h' m' (free_times (taken n h list) aside)
    sound = record {
      super = super;
      lent = lent;
      in_data = kept.sound.in_data;
      whole = λ b some. record { at = λ l low. ap (λ q. is_some (q l)) (same b some) ∙ (kept.sound.whole b some).at l low };
      once = kept.sound.once;
    }

-- the superblock stands before the inodes
pub super-first : {g : Geometry} → IsGeometry g → (super_place g).block ≡ 0
super-first {g} sizes = ap (λ s. 512 / s) sizes.block_size

line-less-other : (p : Place) (c : ℕ) (h : Held) → c ≢ p.block → line_less p h c ≡ h c
unfolding line_less
line-less-other p c h ne = ap (λ t. λ (l : ℕ). cond (t && (l == p.line)) None (h c l)) (other c p.block ne)

-- a line that is left was there
line-less-some : (p : Place) (c l : ℕ) (h : Held) → IsSome (line_less p h c l) → IsSome (h c l)
unfolding line_less
line-less-some p c l h some = by ((c == p.block) && (l == p.line)) (h c l) some
  where
    by : (t : Bool) (q : Option (List ℕ)) → is_some (cond t None q) ≡ true → is_some q ≡ true
    by true q e = absurd (false≢true e)
    by false q e = e

-- the line of a free inode was cut off
pub kept-line_less : {o o' : Origin} {h h' : Held} {m m' : Lent} {list aside : List ℕ} {n spare room : ℕ} {used : List Bool} (i : ℕ) → IsGeometry o.sizes → IsKept o h m list n aside spare room → HoldsInodes o h used → is_free_inode used i ≡ true → o' ≡ o → m' ≡ nothing_lent → h' ≡ line_less (inode_place o.sizes i) h → IsKept o' h' m' list n aside spare room × (taken n h' list ≡ taken n h list)
kept-line_less {o} {o'} {h} {h'} {m} {m'} {list} {aside} {n} {spare} {room} {used} i sizes kept is free home lent cut =
    kept-elsewhere kept home lent
    (λ c some. ap (λ q. q c) cut ∙ line-less-other (inode_place o.sizes i) c h (λ same. absurd (let in_data = kept.sound.in_data c some in omega (arith, same, place.1, in_data.least))))
    (λ c l some in_data. line-less-some (inode_place o.sizes i) c l h (sym (ap (λ q. is_some (q c l)) cut) ∙ some))
    (record {
      at = λ l low.
          ap (λ q. is_some (q (super_place o.sizes).block ((super_place o.sizes).line + l))) cut
          ∙ (ap (λ q. is_some (q ((super_place o.sizes).line + l))) (line-less-other (inode_place o.sizes i) (super_place o.sizes).block h (λ same. absurd (omega (arith, same, place.0, super-first sizes)))) ∙ kept.sound.super.at l low);
    })
  where
    place : (2 ≤ (inode_place o.sizes i).block) × ((inode_place o.sizes i).block < o.sizes.first_data) × ((inode_place o.sizes i).line < 16)
    place = let range = free-range used i free in place-low i sizes (omega (arith, range.0)) (omega (arith, range.1, is.size))

pub both-no : (t s : Bool) → (t ≡ true → s ≡ true → ⊥) → (t && s) ≡ false
both-no true true h = absurd (h refl refl)
both-no true false h = refl
both-no false s h = refl

pub inodes-line_less : {o o' : Origin} {h h' : Held} {used used' : List Bool} (n : ℕ) → IsGeometry o.sizes → HoldsInodes o h used → is_free_inode used n ≡ true → h' ≡ line_less (inode_place o.sizes n) h → used' ≡ set used (n - 1) true → o' ≡ o → HoldsInodes o' h' used'
unfolding line_less
inodes-line_less {o} {o'} {h} {h'} {used} {used'} n sizes is free cut marks home =
    (let P : Origin → Type 0 = λ q. HoldsInodes q h' used' in
    subst P (sym home) (subst (λ q. HoldsInodes o h' q) (sym marks) (record {
      size = length-set used (n - 1) true ∙ is.size;
      zeros = λ k still. by k still (k == n) refl;
    })))
  where
    range : (1 < n) × (n ≤ length used)
    range = free-range used n free

    by : (k : ℕ) → is_free_inode (set used (n - 1) true) k ≡ true → (t : Bool) → (k == n) ≡ t → h' (inode_place o.sizes k).block (inode_place o.sizes k).line ≡ Some (replicate 64 0)
    by k still true e = absurd (false≢true (sym (ap (is_free_inode (set used (n - 1) true)) (eqb-true k n e) ∙ used-at used n range.0 range.1) ∙ still))
    by k still false e =
        let ne : k ≢ n = (λ same. false≢true (sym e ∙ (ap (λ q. k == q) (sym same) ∙ eqb_same k))) in
        let was : is_free_inode used k ≡ true = sym (set-away used n k true range.0 ne) ∙ still in
        let low = free-range used k was in
        ap (λ q. q (inode_place o.sizes k).block (inode_place o.sizes k).line) cut
        ∙ (ap (λ t. cond t None (h (inode_place o.sizes k).block (inode_place o.sizes k).line))
        (both-no ((inode_place o.sizes k).block == (inode_place o.sizes n).block) ((inode_place o.sizes k).line == (inode_place o.sizes n).line)
        (λ p q. ne (place-once n k sizes (omega (arith, range.0)) (omega (arith, low.0)) (eqb-true (inode_place o.sizes k).block (inode_place o.sizes n).block p) (eqb-true (inode_place o.sizes k).line (inode_place o.sizes n).line q))))
        ∙ is.zeros k was)

-- the line of an inode came in
pub inodes-joined_line : {o o' : Origin} {h k h' : Held} {used used' : List Bool} (n : ℕ) → HoldsInodes o h used → 2 ≤ n → h' ≡ Both h k → Apart h k → k (inode_place o.sizes n).block (inode_place o.sizes n).line ≡ Some (replicate 64 0) → used' ≡ set used (n - 1) false → o' ≡ o → HoldsInodes o' h' used'
unfolding Both
inodes-joined_line {o} {o'} {h} {k} {h'} {used} {used'} n is low joins away line marks home =
    (let P : Origin → Type 0 = λ q. HoldsInodes q h' used' in
    subst P (sym home) (subst (λ q. HoldsInodes o h' q) (sym marks) (record {
      size = length-set used (n - 1) false ∙ is.size;
      zeros = λ j free. by j free (j == n) refl;
    })))
  where
    absent : (c l : ℕ) (t : Bool) → is_some (h c l) ≡ t → IsSome (k c l) → t ≡ false
    absent c l false e some = refl
    absent c l true e some = absurd (false≢true (sym (ap is_some (away.at c l e)) ∙ some))

    by : (j : ℕ) → is_free_inode (set used (n - 1) false) j ≡ true → (t : Bool) → (j == n) ≡ t → h' (inode_place o.sizes j).block (inode_place o.sizes j).line ≡ Some (replicate 64 0)
    by j free true e =
        let P : ℕ → Type 0 = λ q. h' (inode_place o.sizes q).block (inode_place o.sizes q).line ≡ Some (replicate 64 0) in
        subst P (sym (eqb-true j n e))
        (ap (λ q. q (inode_place o.sizes n).block (inode_place o.sizes n).line) joins
        ∙ (ap (λ t. cond t (h (inode_place o.sizes n).block (inode_place o.sizes n).line) (k (inode_place o.sizes n).block (inode_place o.sizes n).line)) (absent (inode_place o.sizes n).block (inode_place o.sizes n).line (is_some (h (inode_place o.sizes n).block (inode_place o.sizes n).line)) refl (ap is_some line)) ∙ line))
    by j free false e =
        let ne : j ≢ n = (λ same. false≢true (sym e ∙ (ap (λ q. j == q) (sym same) ∙ eqb_same j))) in
        let was : is_free_inode used j ≡ true = sym (set-away used n j false (omega arith) ne) ∙ free in
        let here = is.zeros j was in
        ap (λ q. q (inode_place o.sizes j).block (inode_place o.sizes j).line) joins
        ∙ (ap (λ t. cond t (h (inode_place o.sizes j).block (inode_place o.sizes j).line) (k (inode_place o.sizes j).block (inode_place o.sizes j).line)) (ap is_some here) ∙ here)

pub kept-joined_line : {o o' : Origin} {h h' : Held} (k : Held) {m m' : Lent} {list aside : List ℕ} {n spare room : ℕ} → IsGeometry o.sizes → InRange o.sizes (Both h k) → IsKept o h m list n aside spare room → HoldsOnly o k (λ _. 0) → o' ≡ o → m' ≡ nothing_lent → h' ≡ Both h k → IsKept o' h' m' list n aside spare room × (taken n h' list ≡ taken n h list)
kept-joined_line {o} {o'} {h} {h'} k {m} {m'} {list} {aside} {n} {spare} {room} sizes range kept none home lent joins =
    kept-elsewhere kept home lent (λ c some. ap (λ q. q c) joins ∙ both-same o h k c range sizes (kept.sound.whole c some))
    (λ c l some in_data. both-data h none c l (sym (ap (λ q. is_some (q c l)) joins) ∙ some) in_data)
    (record { at = λ l low. ap (λ q. is_some (q (super_place o.sizes).block ((super_place o.sizes).line + l))) joins ∙ (ap is_some (both-first h k (super_place o.sizes).block ((super_place o.sizes).line + l) (kept.sound.super.at l low)) ∙ kept.sound.super.at l low) })

-- ---- one line cut off

abbrev pub line_range : Place → LineRange
line_range p = record { block = p.block; first = p.line; count = 1 }

pub can-cut_line : {o : Origin} {h : Held} {m : Lent} {x : List ℕ} (p : Place) → IsGeometry o.sizes → h p.block p.line ≡ Some x → HoldsSuper o h → 2 ≤ p.block → m ≡ nothing_lent → CanPart h m (line_range p ∷ [])
can-cut_line {o} {h} {m} {x} p sizes is super low lent =
    CanPart-range h m (line_range p)
    (λ l least most. (let e : l ≡ p.line = omega arith in ap (λ q. is_some (h p.block q)) e ∙ ap is_some is))
    (ap (λ q. q p.block) lent) (omega arith) (super_place o.sizes).block ((super_place o.sizes).line + 0) (super.at 0 (omega arith))
    (λ same. absurd (omega (arith, same, low, super-first sizes)))

pub in-line : (p : Place) (c l : ℕ) → in_ranges (line_range p ∷ []) c l ≡ ((c == p.block) && (l == p.line))
unfolding covers
in-line p c l = or-none ((p.block == c) && (nat_le p.line l && nat_lt l (p.line + 1))) ∙ (ap (λ t. t && (nat_le p.line l && nat_lt l (p.line + 1))) (turned p.block c) ∙ ap (λ t. (c == p.block) && t) (one p.line l))
  where
    or-none : (t : Bool) → (t || false) ≡ t
    or-none true = refl
    or-none false = refl

    turned : (a b : ℕ) → (a == b) ≡ (b == a)
    turned a b = grind (nat_tests, arith)

    one : (a b : ℕ) → (nat_le a b && nat_lt b (a + 1)) ≡ (b == a)
    one a b = grind (nat_tests, arith)

pub cut-line-apart : {h mine theirs : Held} (p : Place) → Parts h (line_range p ∷ []) mine theirs → (mine ≡ line_less p h) × (theirs ≡ line_alone p h)
unfolding rest chosen line_less line_alone
cut-line-apart {h} {mine} {theirs} p parts = (
  parts.kept ∙ fun_ext (λ c. fun_ext (λ l. ap (λ t. cond t None (h c l)) (in-line p c l))),
  parts.given ∙ fun_ext (λ c. fun_ext (λ l. ap (λ t. cond t (h c l) None) (in-line p c l))),
)

pub line-alone-at : (h : Held) {part : Held} (p : Place) → part ≡ line_alone p h → part p.block p.line ≡ h p.block p.line
unfolding line_alone
line-alone-at h {part} p cut = ap (λ q. q p.block p.line) cut ∙ ap (λ t. cond t (h p.block p.line) None) (ap (λ t. t && (p.line == p.line)) (eqb_same p.block) ∙ eqb_same p.line)

-- ---- what is kept

pub at-home : {o o' : Origin} (sizes : Geometry) → sizes ≡ o'.sizes → o' ≡ o → IsGeometry sizes → IsGeometry o.sizes
at-home {o} {o'} sizes value home is = (let P : Geometry → Type 0 = IsGeometry in subst P (value ∙ ap (λ q. q.sizes) home) is)

pub range-home : {o o' : Origin} {h h' : Held} (sizes : Geometry) → sizes ≡ o'.sizes → o' ≡ o → h' ≡ h → InRange sizes h' → InRange o.sizes h
range-home {o} {o'} {h} {h'} sizes value home same range =
    (let P : Geometry → Type 0 = λ q. InRange q h in
    subst P (value ∙ ap (λ q. q.sizes) home) (let Q : Held → Type 0 = λ q. InRange sizes q in subst Q same range))

-- nothing that it depends on has changed
pub core-same : {o o' : Origin} {h h' : Held} {m m' : Lent} {list aside : List ℕ} {n spare room : ℕ} {used used' : List Bool} {head : Head} → IsCore o h m list n aside spare room used head → o' ≡ o → h' ≡ h → m' ≡ nothing_lent → used' ≡ used → IsCore o' h' m' list n aside spare room used' head
core-same {o} {o'} {h} {h'} {m} {m'} {list} {aside} {n} {spare} {room} {used} {used'} {head} core home same lent marks =
    (let P : Origin → Type 0 = λ q. IsCore q h' m' list n aside spare room used' head in
    subst P (sym home)
    (let Q : Held → Type 0 = λ q. IsCore o q m' list n aside spare room used' head in
    subst Q (sym same)
    (let R : Lent → Type 0 = λ q. IsCore o h q list n aside spare room used' head in
    subst R (core.blocks.sound.lent ∙ sym lent) (subst (λ q. IsCore o h m list n aside spare room q head) (sym marks) core))))
