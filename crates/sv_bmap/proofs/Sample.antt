-- The file made by hand is a tree.
use Rattle.std.proofs.Common.{◌≡◌, ◌≢◌, ◌+◌, ◌*◌, ◌/◌, ◌%◌, ◌<◌, ◌≤◌, ◌==◌, ◌&&◌, ◌++◌, ℕ, zero, suc, List, [], ◌∷◌, length, map}
use Rattle.std.proofs.Common.{replicate, set, Bool, true, false, cond, nat_lt, arith, ap, refl, sym, ◌∙◌, get_or, Some, None, unwrap_or}
use Rattle.std.specs.Global.{Vec}
use Rattle.std.specs.List.{range_with_len}
use Rattle.std.proofs.lemmas.Bool.{eqb-true}
use Rattle.std.proofs.lemmas.Bool.Decides.{nat_tests}
use Rattle.std.proofs.lemmas.List.{get_or-replicate, get_or-set_same, get_or-set_other, get_or-map, length-set, length-replicate}
use Rattle.std.proofs.lemmas.List.{map-append}
use Rattle.std.proofs.lemmas.List.FromFn.{get_or-map-range_with_len, length-map-range_with_len, map-range_with_len_more}
use Rattle.sv_form.specs.Number.{number32}
use Rattle.sv_form.specs.declared.geometry.Geometry.{Geometry}
use Rattle.sv_store.specs.Held.{Held, line_of, of_content}
use Rattle.sv_store.proofs.OwnWhole.{held-content}
use Rattle.sv_bmap.specs.Sample.{sample_bytes, sample_place, sample_number}
use Rattle.sv_bmap.specs.Tree.{number_in, child, down, block_at, IsSpot, IsTree}
use Rattle.sv_bmap.proofs.Paths.{number-line, child-hole, child-there}
use Rattle.sv_bmap.proofs.Empty.{down-hole}

pub sample-is : (b place number : ℕ) (bytes : List ℕ) → bytes ≡ replicate 1024 0 → place ≡ sample_place b → number ≡ sample_number b
    → set bytes place number ≡ sample_bytes b
unfolding sample_bytes
sample-is b place number bytes e p q = ap (λ x. set x place number) e
    ∙ (ap (λ x. set (replicate 1024 0) x number) p ∙ ap (set (replicate 1024 0) (sample_place b)) q)

length-sample : (b : ℕ) → length (sample_bytes b) ≡ 1024
unfolding sample_bytes
length-sample b = length-set (replicate 1024 0) (sample_place b) (sample_number b) ∙ length-replicate {A = ℕ} 1024 0

abbrev pub samples : List (List ℕ)
samples = map sample_bytes (range_with_len 0 200)

pub length-samples : length samples ≡ 200
length-samples = length-map-range_with_len sample_bytes 0 200

sample-at : (b : ℕ) → b < 200 → get_or samples b [] ≡ sample_bytes b
sample-at b low = get_or-map-range_with_len sample_bytes 0 200 b b [] low (omega arith)

pub each-length : (xs : List (Vec ℕ)) → map (λ bytes. bytes.items) xs ≡ samples → length xs ≡ 200 → (k : ℕ) (d : Vec ℕ) → k < length xs
    → length (get_or xs k d).items ≡ 1024
each-length xs e count k d low =
    ap length (sym (get_or-map (λ (bytes : Vec ℕ). bytes.items) xs k d [] low)
    ∙ (ap (λ q. get_or q k []) e ∙ sample-at k (omega (arith, low, count)))) ∙ length-sample k

pub one-more : (xs ys : List (Vec ℕ)) (x : Vec ℕ) (n : ℕ) → map (λ bytes. bytes.items) xs ≡ map sample_bytes (range_with_len 0 n)
    → ys ≡ xs ++ x ∷ [] → x.items ≡ sample_bytes n → map (λ bytes. bytes.items) ys ≡ map sample_bytes (range_with_len 0 (n + 1))
one-more xs ys x n before push is =
    ap (map (λ (bytes : Vec ℕ). bytes.items)) push
    ∙ (map-append (λ (bytes : Vec ℕ). bytes.items) xs (x ∷ [])
    ∙ (ap (λ q. q ++ x.items ∷ []) before
    ∙ (ap (λ q. map sample_bytes (range_with_len 0 n) ++ q ∷ []) is ∙ sym (map-range_with_len_more sample_bytes 0 n n (omega arith)))))

-- ---- the numbers

four : (a b c d e f g h : ℕ) → a ≡ e → b ≡ f → c ≡ g → d ≡ h → a + 256 * b + 65536 * (c + 256 * d) ≡ e + 256 * f + 65536 * (g + 256 * h)
four a b c d e f g h p q r s = cc

one-number : (size place number k : ℕ) → place * 4 + 4 ≤ size → k ≡ place
    → number32 (set (replicate size 0) (place * 4) number) (k * 4) ≡ number
one-number size place number k fits e =
    ap (λ q. number32 (set (replicate size 0) (place * 4) number) (q * 4)) e
    ∙ (four _ _ _ _ number 0 0 0
    (get_or-set_same (replicate size 0) (place * 4) number 0 (omega (arith, fits, length-replicate {A = ℕ} size 0)))
    (byte (place * 4 + 1) (omega arith) (omega arith)) (byte (place * 4 + 2) (omega arith) (omega arith))
    (byte (place * 4 + 2 + 1) (omega arith) (omega arith))
    ∙ omega arith)
  where
    byte : (m : ℕ) → m < size → m ≢ place * 4 → get_or (set (replicate size 0) (place * 4) number) m 0 ≡ 0
    byte m low other = get_or-set_other (replicate size 0) (place * 4) m number 0 other ∙ get_or-replicate size m 0 0 low

no-number : (size place number k : ℕ) → k * 4 + 4 ≤ size → k ≢ place → number32 (set (replicate size 0) (place * 4) number) (k * 4) ≡ 0
no-number size place number k fits other =
    four _ _ _ _ 0 0 0 0 (byte (k * 4) (omega arith) (λ e. other (omega arith)))
    (byte (k * 4 + 1) (omega arith) (λ e. other (omega arith))) (byte (k * 4 + 2) (omega arith) (λ e. other (omega arith)))
    (byte (k * 4 + 2 + 1) (omega arith) (λ e. other (omega arith)))
  where
    byte : (m : ℕ) → m < size → m ≢ place * 4 → get_or (set (replicate size 0) (place * 4) number) m 0 ≡ 0
    byte m low differs = get_or-set_other (replicate size 0) (place * 4) m number 0 differs ∙ get_or-replicate size m 0 0 low

abbrev pub sizes : Geometry
sizes = record { block_size = 1024; blocks = 200; first_data = 3 }

content-at : (b l : ℕ) → b < 200 → l < 16 → of_content sizes samples b l ≡ Some (line_of (sample_bytes b) l)
unfolding of_content
content-at b l block line =
    ap (λ q. cond (q && nat_lt (l * 64) 1024) (Some (line_of (get_or samples b []) l)) None)
    (less b (length samples) (omega (arith, block, length-samples)))
    ∙ (ap (λ q. cond q (Some (line_of (get_or samples b []) l)) None) (less (l * 64) 1024 (omega (arith, line)))
    ∙ ap (λ q. Some (line_of q l)) (sample-at b block))
  where
    less : (a b : ℕ) → a < b → nat_lt a b ≡ true
    less a b h = grind (nat_tests, arith)

number-at : (b k : ℕ) → b < 200 → k < 256 → number_in (of_content sizes samples) b k ≡ number32 (sample_bytes b) (k * 4)
unfolding number_in
number-at b k block place =
    ap (λ q. number32 (unwrap_or q []) (k % 16 * 4)) (content-at b (k / 16) block (omega (arith, place))) ∙ number-line (sample_bytes b) k

-- block b leads to v at place p, and nowhere else
record Leads (b p v : ℕ) : Type 0 where
  to : child (of_content sizes samples) b p ≡ v
  only : (k : ℕ) → k < 256 → k ≢ p → child (of_content sizes samples) b k ≡ 0

leads : (b p v : ℕ) → b ≢ 0 → b < 200 → p < 256 → sample_place b ≡ p * 4 → sample_number b ≡ v → Leads b p v
unfolding sample_bytes
leads b p v some block place at is = record {
  to = child-there (of_content sizes samples) b p some
      ∙ (number-at b p block place ∙ (same p ∙ one-number 1024 p v p (omega (arith, place)) refl));
  only = λ k low other. child-there (of_content sizes samples) b k some
      ∙ (number-at b k block low ∙ (same k ∙ no-number 1024 p v k (omega (arith, low)) other));
}
  where
    same : (k : ℕ) → number32 (set (replicate 1024 0) (sample_place b) (sample_number b)) (k * 4) ≡ number32
        (set (replicate 1024 0) (p * 4) v) (k * 4)
    same k = ap (λ q. number32 (set (replicate 1024 0) q (sample_number b)) (k * 4)) at
        ∙ ap (λ q. number32 (set (replicate 1024 0) (p * 4) q) (k * 4)) is

there : {b p v : ℕ} → Leads b p v → (k : ℕ) → k < 256 → child (of_content sizes samples) b k ≢ 0
    → (k ≡ p) × (child (of_content sizes samples) b k ≡ v)
there {b} {p} {v} is k low some = by (k == p) refl
  where
    no : (x y : ℕ) → (x == y) ≡ false → x ≢ y
    no x y h = grind (nat_tests, arith)

    by : (t : Bool) → (k == p) ≡ t → (k ≡ p) × (child (of_content sizes samples) b k ≡ v)
    by true e = (let same = eqb-true k p e in (same, ap (child (of_content sizes samples) b) same ∙ is.to))
    by false e = absurd (some (is.only k low (no k p e)))

-- ---- the spots

spot_of : ℕ → ℕ × List ℕ
spot_of b =
    cond (b == 50) (10, [])
    (cond (b == 51) (10, 3 ∷ [])
    (cond (b == 60) (12, []) (cond (b == 61) (12, 1 ∷ []) (cond (b == 62) (12, 1 ∷ 2 ∷ []) (12, 1 ∷ 2 ∷ 4 ∷ [])))))

record Found (slot : ℕ) (ks : List ℕ) (b : ℕ) : Type 0 where
  address : slot ≡ (spot_of b).0
  below : ks ≡ (spot_of b).1
  low : b < 200

found-at : (slot : ℕ) (ks : List ℕ) (b c : ℕ) → b ≡ c → slot ≡ (spot_of c).0 → ks ≡ (spot_of c).1 → c < 200 → Found slot ks b
found-at slot ks b c e p q low = record {
  address = p ∙ sym (ap (λ x. (spot_of x).0) e);
  below = q ∙ sym (ap (λ x. (spot_of x).1) e);
  low = omega (arith, e, low);
}

abbrev pub addresses : List ℕ
addresses = 0 ∷ 0 ∷ 0 ∷ 0 ∷ 0 ∷ 0 ∷ 0 ∷ 0 ∷ 0 ∷ 0 ∷ 50 ∷ 0 ∷ 60 ∷ []

abbrev H : Held
H = of_content sizes samples

leads-50 : Leads 50 3 51
leads-50 = leads 50 3 51 (omega arith) (omega arith) (omega arith) refl refl

leads-60 : Leads 60 1 61
leads-60 = leads 60 1 61 (omega arith) (omega arith) (omega arith) refl refl

leads-61 : Leads 61 2 62
leads-61 = leads 61 2 62 (omega arith) (omega arith) (omega arith) refl refl

leads-62 : Leads 62 4 63
leads-62 = leads 62 4 63 (omega arith) (omega arith) (omega arith) refl refl

some-above : (b k : ℕ) → child H b k ≢ 0 → b ≢ 0
some-above b k some e = some (child-hole H b k e)

single : (k : ℕ) → k < 256 → child H 50 k ≢ 0 → Found 10 (k ∷ []) (child H 50 k)
unfolding spot_of
single k low some = (let at = there leads-50 k low some in found-at 10 (k ∷ []) (child H 50 k) 51 at.1 refl (ap (λ q. q ∷ []) at.0)
    (omega arith))

first : (i : ℕ) → i < 256 → child H 60 i ≢ 0 → (i ≡ 1) × (child H 60 i ≡ 61)
first i low some = there leads-60 i low some

second : (i j : ℕ) → i < 256 → j < 256 → child H (child H 60 i) j ≢ 0 → (i ≡ 1) × ((j ≡ 2) × (child H (child H 60 i) j ≡ 62))
second i j low high some =
    let up = first i low (some-above (child H 60 i) j some) in
    let same : child H (child H 60 i) j ≡ child H 61 j = ap (λ q. child H q j) up.1 in
    let at = there leads-61 j high (λ e. some (same ∙ e)) in
    (up.0, (at.0, same ∙ at.1))

third : (i j k : ℕ) → i < 256 → j < 256 → k < 256 → child H (child H (child H 60 i) j) k ≢ 0
    → (i ≡ 1) × ((j ≡ 2) × ((k ≡ 4) × (child H (child H (child H 60 i) j) k ≡ 63)))
third i j k low high last some =
    let up = second i j low high (some-above (child H (child H 60 i) j) k some) in
    let same : child H (child H (child H 60 i) j) k ≡ child H 62 k = ap (λ q. child H q k) up.1.1 in
    let at = there leads-62 k last (λ e. some (same ∙ e)) in
    (up.0, (up.1.0, (at.0, same ∙ at.1)))

lists-two : (i j k l : ℕ) → i ≡ k → j ≡ l → i ∷ j ∷ [] ≡ k ∷ l ∷ []
lists-two i j k l p q = ap (λ x. x ∷ j ∷ []) p ∙ ap (λ x. k ∷ x ∷ []) q

lists-three : (h i j k l m : ℕ) → h ≡ k → i ≡ l → j ≡ m → h ∷ i ∷ j ∷ [] ≡ k ∷ l ∷ m ∷ []
lists-three h i j k l m p q r = ap (λ x. x ∷ i ∷ j ∷ []) p ∙ (ap (λ x. k ∷ x ∷ j ∷ []) q ∙ ap (λ x. k ∷ l ∷ x ∷ []) r)

single-spot : (ks : List ℕ) → IsSpot 256 10 ks → down H 50 ks ≢ 0 → Found 10 ks (down H 50 ks)
unfolding spot_of
single-spot [] spot some = found-at 10 [] 50 50 refl refl refl (omega arith)
single-spot (k ∷ []) spot some = single k (spot.places 0 (omega arith)) some
single-spot (k ∷ j ∷ ks) spot some = absurd (omega (arith, spot.deep))

triple-spot : (ks : List ℕ) → IsSpot 256 12 ks → down H 60 ks ≢ 0 → Found 12 ks (down H 60 ks)
unfolding spot_of
triple-spot [] spot some = found-at 12 [] 60 60 refl refl refl (omega arith)
triple-spot (i ∷ []) spot some =
    (let at = first i (spot.places 0 (omega arith)) some in found-at 12 (i ∷ []) (child H 60 i) 61 at.1 refl (ap (λ q. q ∷ []) at.0)
    (omega arith))
triple-spot (i ∷ j ∷ []) spot some =
    let at = second i j (spot.places 0 (omega arith)) (spot.places 1 (omega arith)) some in
    found-at 12 (i ∷ j ∷ []) (child H (child H 60 i) j) 62 at.1.1 refl (lists-two i j 1 2 at.0 at.1.0) (omega arith)
triple-spot (i ∷ j ∷ k ∷ []) spot some =
    let at = third i j k (spot.places 0 (omega arith)) (spot.places 1 (omega arith)) (spot.places 2 (omega arith)) some in
    found-at 12 (i ∷ j ∷ k ∷ []) (child H (child H (child H 60 i) j) k) 63 at.1.1.1 refl (lists-three i j k 1 2 4 at.0 at.1.0 at.1.1.0)
    (omega arith)
triple-spot (i ∷ j ∷ k ∷ l ∷ ks) spot some = absurd (omega (arith, spot.deep))

found : (slot : ℕ) (ks : List ℕ) → IsSpot 256 slot ks → block_at H addresses slot ks ≢ 0 → Found slot ks (block_at H addresses slot ks)
found zero ks spot some = absurd (some (down-hole H 0 ks refl))
found (suc zero) ks spot some = absurd (some (down-hole H 0 ks refl))
found (suc (suc zero)) ks spot some = absurd (some (down-hole H 0 ks refl))
found (suc (suc (suc zero))) ks spot some = absurd (some (down-hole H 0 ks refl))
found (suc (suc (suc (suc zero)))) ks spot some = absurd (some (down-hole H 0 ks refl))
found (suc (suc (suc (suc (suc zero))))) ks spot some = absurd (some (down-hole H 0 ks refl))
found (suc (suc (suc (suc (suc (suc zero)))))) ks spot some = absurd (some (down-hole H 0 ks refl))
found (suc (suc (suc (suc (suc (suc (suc zero))))))) ks spot some = absurd (some (down-hole H 0 ks refl))
found (suc (suc (suc (suc (suc (suc (suc (suc zero)))))))) ks spot some = absurd (some (down-hole H 0 ks refl))
found (suc (suc (suc (suc (suc (suc (suc (suc (suc zero))))))))) ks spot some = absurd (some (down-hole H 0 ks refl))
found (suc (suc (suc (suc (suc (suc (suc (suc (suc (suc zero)))))))))) ks spot some = single-spot ks spot some
found (suc (suc (suc (suc (suc (suc (suc (suc (suc (suc (suc zero))))))))))) ks spot some = absurd (some (down-hole H 0 ks refl))
found (suc (suc (suc (suc (suc (suc (suc (suc (suc (suc (suc (suc zero)))))))))))) ks spot some = triple-spot ks spot some
found (suc (suc (suc (suc (suc (suc (suc (suc (suc (suc (suc (suc (suc slot))))))))))))) ks spot some = absurd (omega (arith, spot.among))

pub sample-tree : (id : List ℕ) → IsTree (record { id = id; sizes = sizes }) (of_content sizes samples) addresses
sample-tree id = record {
  whole = λ slot ks spot some.
      record {
        at = λ l line. held-content sizes samples (block_at H addresses slot ks) l
            (omega (arith, (found slot ks spot some).low, length-samples)) line;
      };
  once = λ slot ks other js spot that some same.
      (let one = found slot ks spot some in
      let two = found other js that (λ e. some (same ∙ e)) in
      (one.address ∙ (ap (λ q. (spot_of q).0) same ∙ sym two.address), one.below ∙ (ap (λ q. (spot_of q).1) same ∙ sym two.below)));
}
