-- Lists that are written to a block, and cuts of all lines of a block.
use Rattle.std.proofs.Common.{◌≡◌, ◌<◌, ◌≤◌, ◌+◌, ◌*◌, ◌/◌, ◌==◌, ◌&&◌, ◌||◌, ℕ, Bool, true, false, cond, List, [], ◌∷◌, length, take, Option, Some, None, IsSome, is_some, option_map, nat_le, nat_lt, refl, sym, ap, ◌∙◌, subst, arith}
use Rattle.std.proofs.Math.Path.{fun_ext}
use Rattle.std.proofs.lemmas.Bool.{eqb-true, false≢true}
use Rattle.std.proofs.lemmas.Bool.Decides.{nat_tests}
use Rattle.sv_form.specs.Geometry.{IsDataBlock, IsGeometry, block_lines, super_place}
use Rattle.sv_form.specs.LinkBlock.{IsLinkBlock}
use Rattle.sv_form.specs.declared.geometry.Geometry.{Geometry}
use Rattle.sv_form.specs.declared.owners.LineRange.{LineRange}
use Rattle.sv_store.specs.Held.{Held, Lent, Origin, HoldsBlock, InRange, chosen, covers, in_ranges, line_of, nothing_lent, put, rest, with, without}
use Rattle.sv_store.specs.Calls.{CanPart, Parts}
use Rattle.sv_store.proofs.Holding.{CanPart-range, eqb_same, put-line}
use Rattle.sv_store.proofs.Puts.{put-put}
use Rattle.sv_super.specs.Calls.{PutsList}
use Rattle.sv_super.specs.Core.{HoldsSuper, alone, less}
use Rattle.sv_super.specs.FreeList.{front}
use Rattle.sv_super.proofs.Counts.{other}
use Rattle.sv_super.proofs.Fronts.{block_list, front-is}

-- a block that was made anew and given a list
pub puts-list : {o : Origin} {h h1 h2 : Held} {b c : ℕ} (bytes zeros list : List ℕ) → HoldsBlock o h b → IsGeometry o.sizes → h1 ≡ put b zeros h → c ≡ b → h2 ≡ put c bytes h1 → length bytes ≡ o.sizes.block_size → IsLinkBlock (take 204 bytes) (block_list list) → PutsList h h2 b list
puts-list {o} {h} {h1} {h2} {b} {c} bytes zeros list holds sizes made e puts size is = record {
  bytes = bytes;
  puts = now;
  reads = record { spelled = (let P : List ℕ → Type 0 = λ q. IsLinkBlock q (block_list list) in subst P (sym begins) is) };
}
  where
    now : h2 ≡ put b bytes h
    now = puts ∙ (ap (λ q. put q bytes h1) e ∙ (ap (put b bytes) made ∙ put-put b bytes zeros h))

    begins : front (h2 b) ≡ take 204 bytes
    begins =
        front-is (h2 b) bytes (omega (arith, size, sizes.block_size))
        (λ l low. ap (λ q. q b l) now ∙ put-line b bytes h l (holds.at l (omega (arith, low, sizes.block_size))))

-- ---- cuts

and-yes : (x y : Bool) → x ≡ true → y ≡ true → (x && y) ≡ true
and-yes x y p q = ap (λ t. t && y) p ∙ q

or-none : (x : Bool) → (x || false) ≡ x
or-none true = refl
or-none false = refl

-- the lines of a block, as a range
whole-covers : (g : Geometry) (b c l : ℕ) (r : LineRange) → r.block ≡ b → r.first ≡ 0 → r.count ≡ block_lines g → (t : Bool) → (c == b) ≡ t → l < block_lines g → in_ranges (r ∷ []) c l ≡ t
unfolding covers
whole-covers g b c l r e f n t is low =
    or-none ((r.block == c) && (nat_le r.first l && nat_lt l (r.first + r.count))) ∙ by t is
  where
    within : (nat_le r.first l && nat_lt l (r.first + r.count)) ≡ true
    within = and-yes (nat_le r.first l) (nat_lt l (r.first + r.count)) (yes_le r.first l (omega (arith, f))) (yes_lt l (r.first + r.count) (omega (arith, f, n, low)))
      where
        yes_le : (x y : ℕ) → x ≤ y → nat_le x y ≡ true
        yes_le x y h = grind (nat_tests, arith)

        yes_lt : (x y : ℕ) → x < y → nat_lt x y ≡ true
        yes_lt x y h = grind (nat_tests, arith)

    by : (t : Bool) → (c == b) ≡ t → ((r.block == c) && (nat_le r.first l && nat_lt l (r.first + r.count))) ≡ t
    by true is = and-yes (r.block == c) _ (ap (λ q. q == c) (e ∙ sym (eqb-true c b is)) ∙ eqb_same c) within
    by false is = ap (λ q. q && (nat_le r.first l && nat_lt l (r.first + r.count))) (other r.block c (λ same. false≢true (sym is ∙ (ap (λ q. c == q) (sym e ∙ same) ∙ eqb_same c))))

-- the range of all lines of a data block can be parted
pub can-cut : {o : Origin} {h : Held} {m : Lent} (b : ℕ) (r : LineRange) → IsGeometry o.sizes → IsDataBlock o.sizes b → HoldsBlock o h b → HoldsSuper o h → m ≡ nothing_lent → r.block ≡ b → r.first ≡ 0 → r.count ≡ block_lines o.sizes → CanPart h m (r ∷ [])
can-cut {o} {h} {m} b r sizes in_data holds super lent e f n =
    CanPart-range h m r
    (λ l low high. ap (λ q. is_some (h q l)) e ∙ holds.at l (omega (arith, high, f, n, sizes.block_size)))
    (ap (λ q. q r.block) lent) (omega (arith, n, sizes.block_size)) (super_place o.sizes).block ((super_place o.sizes).line + 0) (super.at 0 (omega arith))
    (λ same. let zeroth : (super_place o.sizes).block ≡ 0 = ap (λ n. 512 / n) sizes.block_size in absurd (omega (arith, sym e ∙ (same ∙ zeroth), sizes.least_first, in_data.least)))

-- what is left after a block was cut off, and what was cut off
pub cut-apart : (o : Origin) (h : Held) {mine theirs : Held} (b : ℕ) (r : LineRange) → IsGeometry o.sizes → InRange o.sizes h → r.block ≡ b → r.first ≡ 0 → r.count ≡ block_lines o.sizes → Parts h (r ∷ []) mine theirs → (mine ≡ less b h) × (theirs ≡ alone b h)
unfolding rest chosen less alone
cut-apart o h {mine} {theirs} b r sizes range e f n parts =
    (parts.kept ∙ fun_ext (λ c. fun_ext (λ l. keep c l (nat_lt l (block_lines o.sizes)) refl)), parts.given ∙ fun_ext (λ c. fun_ext (λ l. give c l (nat_lt l (block_lines o.sizes)) refl)))
  where
    yes : (a b : ℕ) → nat_lt a b ≡ true → a < b
    yes a b h = grind (nat_tests, arith)

    no : (a b : ℕ) → nat_lt a b ≡ false → b ≤ a
    no a b h = grind (nat_tests, arith)

    past : (c l : ℕ) → block_lines o.sizes ≤ l → h c l ≡ None
    past c l over = by (h c l) (range.line c l)
      where
        by : (p : Option (List ℕ)) → (IsSome p → l * 64 < o.sizes.block_size) → p ≡ None
        by None low = refl
        by (Some x) low = absurd (omega (arith, over, low refl, sizes.block_size))

    none_both : (t : Bool) (p : Option (List ℕ)) → p ≡ None → cond t None p ≡ None
    none_both true p e = refl
    none_both false p e = e

    none_one : (t : Bool) (p : Option (List ℕ)) → p ≡ None → cond t p None ≡ None
    none_one true p e = e
    none_one false p e = refl

    keep : (c l : ℕ) (t : Bool) → nat_lt l (block_lines o.sizes) ≡ t → cond (in_ranges (r ∷ []) c l) None (h c l) ≡ cond (c == b) None (h c l)
    keep c l true t = ap (λ q. cond q None (h c l)) (whole-covers o.sizes b c l r e f n (c == b) refl (yes l (block_lines o.sizes) t))
    keep c l false t =
        none_both (in_ranges (r ∷ []) c l) (h c l) (past c l (no l (block_lines o.sizes) t)) ∙ sym (none_both (c == b) (h c l) (past c l (no l (block_lines o.sizes) t)))

    give : (c l : ℕ) (t : Bool) → nat_lt l (block_lines o.sizes) ≡ t → cond (in_ranges (r ∷ []) c l) (h c l) None ≡ cond (c == b) (h c l) None
    give c l true t = ap (λ q. cond q (h c l) None) (whole-covers o.sizes b c l r e f n (c == b) refl (yes l (block_lines o.sizes) t))
    give c l false t =
        none_one (in_ranges (r ∷ []) c l) (h c l) (past c l (no l (block_lines o.sizes) t)) ∙ sym (none_one (c == b) (h c l) (past c l (no l (block_lines o.sizes) t)))

-- what was cut off is the whole block
pub holds-alone : {o : Origin} {h new : Held} (b : ℕ) → new ≡ alone b h → HoldsBlock o h b → HoldsBlock o new b
unfolding alone
holds-alone {o} {h} {new} b cut holds = record { at = λ l low. ap (λ q. is_some (q b l)) cut ∙ (ap (λ t. is_some (cond t (h b l) None)) (eqb_same b) ∙ holds.at l low) }
