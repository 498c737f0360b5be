-- The superblock's bytes within its block, as they are got and put.
use Rattle.std.proofs.Common.{◌≡◌, ◌≤◌, ◌<◌, ◌+◌, ◌-◌, ◌*◌, ◌/◌, ◌%◌, ◌==◌, ◌&&◌, ◌⊎◌, inl, inr, ℕ, Bool, true, false, cond, List, [], ◌++◌, length, map, take, drop, get_or, slice_range, Option, Some, None, IsSome, IfSome, is_some, option_map, unwrap_or, nat_le, nat_lt, arith, refl, sym, ap, ◌∙◌, subst, ◌∷◌}
use Rattle.std.specs.List.{range_with_len}
use Rattle.std.proofs.lemmas.Bool.{false≢true}
use Rattle.std.proofs.lemmas.Bool.Decides.{nat_tests}
use Rattle.std.proofs.lemmas.List.{ext_get_or, get_or-drop, get_or-take, length-drop, length-take}
use Rattle.std.proofs.lemmas.List.FromFn.{get_or-map-range_with_len, length-map-range_with_len}
use Rattle.std.proofs.Math.Seq.{take-append_seam}
use Rattle.sv_form.specs.Geometry.{IsGeometry, super_place}
use Rattle.sv_form.specs.Number.{ChangesOnly}
use Rattle.sv_form.specs.Superblock.{IsSuper}
use Rattle.sv_form.specs.declared.geometry.Geometry.{Geometry}
use Rattle.sv_form.specs.declared.superblock.Super.{Super}
use Rattle.sv_store.specs.Held.{Held, Lent, Origin, line_of, put, with}
use Rattle.sv_store.specs.Calls.{CanPut, Gets}
use Rattle.sv_store.specs.Loan.{Loan}
use Rattle.sv_store.proofs.Holding.{CanPut-got, eqb_same, put-at, put-line}
use Rattle.sv_store.proofs.Lines.{get_or-by_line, line_of-same}
use Rattle.sv_super.specs.Core.{HoldsSuper}
use Rattle.sv_super.specs.FreeList.{byte_of}
use Rattle.sv_super.specs.Written.{PutsSuper, is_super_line, super_bytes}

yes : (a b : ℕ) → nat_lt a b ≡ true → a < b
yes a b h = grind (nat_tests, arith)

no : (a b : ℕ) → nat_lt a b ≡ false → b ≤ a
no a b h = grind (nat_tests, arith)

-- the part between two others
pub middle : (xs ys zs : List ℕ) (at : ℕ) → length xs ≡ at → length ys ≡ 512 → slice_range (xs ++ (ys ++ zs)) at (at + 512) ≡ ys
middle xs ys zs at before size =
    let wide : at + 512 - at ≡ length ys = omega (arith, size) in
    ap (λ n. take (at + 512 - at) (drop n (xs ++ (ys ++ zs)))) (sym before)
    ∙ (ap (take (at + 512 - at)) (dropped xs) ∙ (ap (λ n. take n (ys ++ zs)) wide ∙ take-append_seam ys zs))
  where
    dropped : (ws : List ℕ) → drop (length ws) (ws ++ (ys ++ zs)) ≡ ys ++ zs
    dropped [] = refl
    dropped (w ∷ ws) = dropped ws

-- a line outside of what was written stays
outside : {old new : List ℕ} (at first l : ℕ) → ChangesOnly old new at (at + 512) → at ≡ first * 64 → (l < first) ⊎ (first + 8 ≤ l) → line_of new l ≡ line_of old l
outside {old} {new} at first l changes is (inl low) = line_of-same new old l changes.len (λ k below. changes.before (l * 64 + k) (omega (arith, below, low, is)))
outside {old} {new} at first l changes is (inr high) = line_of-same new old l changes.len (λ k below. changes.after (l * 64 + k) (omega (arith, below, high, is)))

-- a line that is not held is none of the superblock's
apart-none : {o : Origin} {h : Held} (l : ℕ) → HoldsSuper o h → h (super_place o.sizes).block l ≡ None → (l < (super_place o.sizes).line) ⊎ ((super_place o.sizes).line + 8 ≤ l)
apart-none {o} {h} l super none = by (nat_lt l (super_place o.sizes).line) refl (nat_lt l ((super_place o.sizes).line + 8)) refl
  where
    by : (t : Bool) → nat_lt l (super_place o.sizes).line ≡ t → (s : Bool) → nat_lt l ((super_place o.sizes).line + 8) ≡ s → (l < (super_place o.sizes).line) ⊎ ((super_place o.sizes).line + 8 ≤ l)
    by true e s f = inl (yes l (super_place o.sizes).line e)
    by false e false f = inr (no l ((super_place o.sizes).line + 8) f)
    by false e true f =
        let low = no l (super_place o.sizes).line e in
        let high = yes l ((super_place o.sizes).line + 8) f in
        let here : (super_place o.sizes).line + (l - (super_place o.sizes).line) ≡ l = omega (arith, low) in
        absurd (false≢true (sym (ap is_some none) ∙ (ap (λ q. is_some (h (super_place o.sizes).block q)) (sym here) ∙ super.at (l - (super_place o.sizes).line) (omega (arith, low, high)))))

apart-line : (g : Geometry) (l : ℕ) → is_super_line g (super_place g).block l ≡ false → (l < (super_place g).line) ⊎ ((super_place g).line + 8 ≤ l)
unfolding is_super_line
apart-line g l e = by (nat_lt l (super_place g).line) refl (nat_lt l ((super_place g).line + 8)) refl
  where
    le : (a b : ℕ) → b ≤ a → nat_le b a ≡ true
    le a b h = grind (nat_tests, arith)

    by : (t : Bool) → nat_lt l (super_place g).line ≡ t → (s : Bool) → nat_lt l ((super_place g).line + 8) ≡ s → (l < (super_place g).line) ⊎ ((super_place g).line + 8 ≤ l)
    by true t s f = inl (yes l (super_place g).line t)
    by false t false f = inr (no l ((super_place g).line + 8) f)
    by false t true f = absurd (false≢true (sym e ∙ (ap (λ q. q && (nat_le (super_place g).line l && nat_lt l ((super_place g).line + 8))) (eqb_same (super_place g).block) ∙ (ap (λ q. q && nat_lt l ((super_place g).line + 8)) (le l (super_place g).line (no l (super_place g).line t)) ∙ f))))

-- the superblock's lines are those of these bytes
window : (g : Geometry) (h : Held) (bytes : List ℕ) (at : ℕ) → at ≡ (super_place g).line * 64 → at + 512 ≤ length bytes → ((j : ℕ) → j < 8 → h (super_place g).block ((super_place g).line + j) ≡ Some (line_of bytes ((super_place g).line + j))) → super_bytes g h ≡ slice_range bytes at (at + 512)
unfolding super_bytes
window g h bytes at is size same = ext_get_or 0 (super_bytes g h) (slice_range bytes at (at + 512)) (long ∙ sym short) (λ k low. byte k (omega (arith, low, long)))
  where
    long : length (map (byte_of (h (super_place g).block)) (range_with_len ((super_place g).line * 64) 512)) ≡ 512
    long = length-map-range_with_len (byte_of (h (super_place g).block)) ((super_place g).line * 64) 512

    short : length (take (at + 512 - at) (drop at bytes)) ≡ 512
    short = length-take (at + 512 - at) (drop at bytes) ∙ omega (arith, size, length-drop at bytes)

    line : (m j : ℕ) → m ≡ (super_place g).line + j → j < 8 → h (super_place g).block m ≡ Some (line_of bytes m)
    line m j e low = let P : ℕ → Type 0 = λ q. h (super_place g).block q ≡ Some (line_of bytes q) in subst P (sym e) (same j low)

    byte : (k : ℕ) → k < 512 → get_or (map (byte_of (h (super_place g).block)) (range_with_len ((super_place g).line * 64) 512)) k 0 ≡ get_or (take (at + 512 - at) (drop at bytes)) k 0
    byte k low =
        get_or-map-range_with_len (byte_of (h (super_place g).block)) ((super_place g).line * 64) 512 k (at + k) 0 low (omega (arith, is))
        ∙ (ap (λ q. get_or (unwrap_or q []) ((at + k) % 64) 0) (line ((at + k) / 64) (k / 64) (omega (arith, is)) (omega (arith, low)))
        ∙ (sym (get_or-by_line bytes (at + k)) ∙ (sym (get_or-drop at bytes k 0) ∙ sym (get_or-take (at + 512 - at) (drop at bytes) k 0 (omega (arith, low))))))

-- the superblock was got, and its bytes can be put
pub can-put-super : {o : Origin} {h : Held} {b : ℕ} {buf : Loan} → Gets o h b buf → b ≡ (super_place o.sizes).block → HoldsSuper o h → (h' : Held) (m m' : Lent) → h' ≡ h → m' ≡ with b buf.bytes m → (bytes : List ℕ) (at : ℕ) → at ≡ (super_place o.sizes).line * 64 → ChangesOnly buf.bytes bytes at (at + 512) → CanPut h' m' (record { block = buf.block; bytes = bytes })
can-put-super {o} {h} {b} {buf} gets place super h' m m' same lends bytes at is changes =
    CanPut-got gets h' m m' same lends bytes changes.len
    (λ l none. outside at (super_place o.sizes).line l changes is (apart-none l super (ap (λ q. h q l) (sym place) ∙ none)))

pub puts-super : {o : Origin} {h h1 h2 : Held} {b : ℕ} {buf : Loan} {s : Super} → Gets o h b buf → b ≡ (super_place o.sizes).block → HoldsSuper o h → h1 ≡ h → (bytes : List ℕ) (at : ℕ) → at ≡ (super_place o.sizes).line * 64 → ChangesOnly buf.bytes bytes at (at + 512) → at + 512 ≤ length buf.bytes → IsSuper (slice_range bytes at (at + 512)) s → h2 ≡ put buf.block bytes h1 → PutsSuper o.sizes h h2 s
puts-super {o} {h} {h1} {h2} {b} {buf} {s} gets place super same bytes at is changes size spelled put_is = record {
  bytes = bytes;
  puts = puts;
  spelled = (let P : List ℕ → Type 0 = λ q. IsSuper q s in
      subst P (sym (window o.sizes h2 bytes at is (omega (arith, size, changes.len)) (λ j low. ap (λ q. q (super_place o.sizes).block ((super_place o.sizes).line + j)) puts ∙ put-line (super_place o.sizes).block bytes h ((super_place o.sizes).line + j) (super.at j low)))) spelled);
  neighbours = λ l e.
      ap (λ q. q (super_place o.sizes).block l) puts
      ∙ (put-at (super_place o.sizes).block bytes h l
      ∙ (ap (λ q. option_map (λ _. q) (h (super_place o.sizes).block l)) (outside at (super_place o.sizes).line l changes is (apart-line o.sizes l e)) ∙ kept l (h (super_place o.sizes).block l) (lines l)));
}
  where
    puts : h2 ≡ put (super_place o.sizes).block bytes h
    puts = put_is ∙ (ap (λ q. put q bytes h1) (gets.block ∙ place) ∙ ap (put (super_place o.sizes).block bytes) same)

    lines : (l : ℕ) → IfSome (h (super_place o.sizes).block l) (λ x. line_of buf.bytes l ≡ x)
    lines l = let P : ℕ → Type 0 = λ q. IfSome (h q l) (λ x. line_of buf.bytes l ≡ x) in subst P place (gets.lines l)

    kept : (l : ℕ) (p : Option (List ℕ)) → IfSome p (λ x. line_of buf.bytes l ≡ x) → option_map (λ _. line_of buf.bytes l) p ≡ p
    kept l None e = refl
    kept l (Some x) e = ap (λ q. Some q) e

pub rewritten : {now old new whole : List ℕ} {at : ℕ} → now ≡ old → whole ≡ new → ChangesOnly now new at (at + 512) → ChangesOnly old whole at (at + 512)
rewritten {now} {old} {new} {whole} {at} e f changes =
    (let P : List ℕ → Type 0 = λ q. ChangesOnly q whole at (at + 512) in
    subst P e (let Q : List ℕ → Type 0 = λ q. ChangesOnly now q at (at + 512) in subst Q (sym f) changes))

pub still-super : (at : ℕ) {new whole : List ℕ} {s : Super} → whole ≡ new → IsSuper (slice_range new at (at + 512)) s → IsSuper (slice_range whole at (at + 512)) s
still-super at {new} {whole} {s} f is = (let P : List ℕ → Type 0 = λ q. IsSuper (slice_range q at (at + 512)) s in subst P (sym f) is)

pub super-fits : {o : Origin} {h : Held} {b : ℕ} {buf : Loan} (sizes : Geometry) (at : ℕ) → sizes ≡ o.sizes → IsGeometry sizes → Gets o h b buf → at ≡ (super_place o.sizes).line * 64 → at + 512 ≤ length buf.bytes
super-fits {o} {h} {b} {buf} sizes at value is gets place =
    let long : o.sizes.block_size ≡ 1024 = sym (ap (λ q. q.block_size) value) ∙ is.block_size in
    let line : (super_place o.sizes).line ≡ 512 % 1024 / 64 = ap (λ s. 512 % s / 64) long in
    omega (arith, long, line, gets.size, place)
