-- A file with eleven pages, whose blocks are 50 to 59 and 61, and the single indirect block 60.
use Rattle.std.proofs.Common.{◌≡◌, ◌≢◌, ◌+◌, ◌-◌, ◌*◌, ◌/◌, ◌%◌, ◌<◌, ◌≤◌, ◌==◌, ℕ, zero, suc, Bool, true, false, cond, List, [], ◌∷◌, length, map, replicate, set, get_or, Some, None, unwrap_or, arith, ap, refl, sym, ◌∙◌}
use Rattle.std.proofs.lemmas.Bool.{eqb-true}
use Rattle.std.proofs.lemmas.Bool.Decides.{nat_tests}
use Rattle.std.proofs.lemmas.List.{get_or-replicate, get_or-set_same, get_or-set_other, length-map, length-replicate, length-set, map-set}
use Rattle.sv_form.specs.Number.{number32}
use Rattle.sv_form.specs.PagePath.{block_numbers}
use Rattle.sv_form.specs.declared.geometry.Geometry.{Geometry}
use Rattle.sv_store.specs.Calls.{Parts}
use Rattle.sv_store.specs.Held.{Held, Origin, HoldsBlock, line_of, of_content, rest}
use Rattle.sv_bmap.specs.Tree.{IsSpot, IsTree, block_at, child, down, number_in}
use Rattle.sv_bmap.proofs.Empty.{down-hole}
use Rattle.sv_bmap.proofs.Paths.{child-there, number-line}
use Rattle.sv_super.specs.Sample.{sample_sizes}
use Rattle.sv_super.proofs.Samples.{content-line, core-past, core_ranges}
use Rattle.sv_inode.specs.StandsFor.{HasDataBlocks}

-- the bytes of each block: its first number is 61, and all others are 0
abbrev pub row : List ℕ
row = set (replicate 1024 0) 0 61

abbrev pub eleven : List ℕ
eleven = 50 ∷ 51 ∷ 52 ∷ 53 ∷ 54 ∷ 55 ∷ 56 ∷ 57 ∷ 58 ∷ 59 ∷ 60 ∷ 0 ∷ 0 ∷ []

pub row-content : (g : Geometry) (xs : List (List ℕ)) (l : ℕ) → g ≡ sample_sizes → 60 < length xs → get_or xs 60 [] ≡ row → l < 16 → of_content g xs 60 l ≡ Some (line_of row l)
row-content g xs l e some is low = content-line g xs 60 l e some low ∙ ap (λ q. Some (line_of q l)) is

-- the rows once that of block 2 was changed
pub changed-length : {X : Type 0} (f : X → List ℕ) (xs : List X) (x : X) → length (map f (set xs 2 x)) ≡ length xs
changed-length f xs x = length-map (set xs 2 x) f ∙ length-set xs 2 x

pub changed-other : {X : Type 0} (f : X → List ℕ) (xs : List X) (x : X) → get_or (map f (set xs 2 x)) 60 [] ≡ get_or (map f xs) 60 []
changed-other f xs x = ap (λ q. get_or q 60 []) (map-set f xs 2 x) ∙ get_or-set_other (map f xs) 2 60 (f x) [] (λ same. absurd (omega (arith, same)))

pub changed-same : {X : Type 0} (f : X → List ℕ) (xs : List X) (x : X) → 2 < length xs → get_or (map f (set xs 2 x)) 2 [] ≡ f x
changed-same f xs x some = ap (λ q. get_or q 2 []) (map-set f xs 2 x) ∙ get_or-set_same (map f xs) 2 (f x) [] (omega (arith, some, length-map xs f))

pub row-kept : {h mine theirs : Held} → Parts h core_ranges mine theirs → (l : ℕ) → h 60 l ≡ Some (line_of row l) → mine 60 l ≡ Some (line_of row l)
unfolding rest
row-kept {h} {mine} {theirs} parts l is =
    ap (λ q. q 60 l) parts.kept ∙ (ap (λ t. cond t None (h 60 l)) (core-past 60 l (omega arith)) ∙ is)

-- ---- the numbers of the indirect block

four : (a b c d e f g h : ℕ) → a ≡ e → b ≡ f → c ≡ g → d ≡ h → a + 256 * b + 65536 * (c + 256 * d) ≡ e + 256 * f + 65536 * (g + 256 * h)
four a b c d e f g h p q r s = cc

byte : (m : ℕ) → m < 1024 → m ≢ 0 → get_or row m 0 ≡ 0
byte m low differs = get_or-set_other (replicate 1024 0) 0 m 61 0 differs ∙ get_or-replicate 1024 m 0 0 low

first-number : number32 row 0 ≡ 61
first-number =
    four _ _ _ _ 61 0 0 0 (get_or-set_same (replicate 1024 0) 0 61 0 (omega (arith, length-replicate {A = ℕ} 1024 0)))
    (byte 1 (omega arith) (omega arith)) (byte 2 (omega arith) (omega arith)) (byte 3 (omega arith) (omega arith))
    ∙ omega arith

no-number : (k : ℕ) → k < 256 → k ≢ 0 → number32 row (k * 4) ≡ 0
no-number k low other =
    four _ _ _ _ 0 0 0 0 (byte (k * 4) (omega (arith, low)) (λ e. other (omega (arith, e))))
    (byte (k * 4 + 1) (omega (arith, low)) (λ e. other (omega (arith, e))))
    (byte (k * 4 + 2) (omega (arith, low)) (λ e. other (omega (arith, e))))
    (byte (k * 4 + 2 + 1) (omega (arith, low)) (λ e. other (omega (arith, e))))

-- where the lines of block 60 are held
record HasRow (h : Held) : Type 0 where
  pub at : (l : ℕ) → l < 16 → h 60 l ≡ Some (line_of row l)

number-at : (h : Held) → HasRow h → (k : ℕ) → k < 256 → child h 60 k ≡ number32 row (k * 4)
unfolding number_in
number-at h has k low =
    child-there h 60 k (omega arith)
    ∙ (ap (λ q. number32 (unwrap_or q []) (k % 16 * 4)) (has.at (k / 16) (omega (arith, low))) ∙ number-line row k)

-- ---- the tree

-- a block stands at one spot
record Found (slot : ℕ) (ks : List ℕ) (b : ℕ) : Type 0 where
  address : slot ≡ cond (b == 61) 10 (b - 50)
  below : ks ≡ cond (b == 61) (0 ∷ []) []
  least : 50 ≤ b
  most : b < 62

direct : (slot b : ℕ) → b ≡ 50 + slot → slot < 11 → Found slot [] b
direct slot b e low = record {
  address = (let q : slot ≡ b - 50 = omega (arith, e) in q ∙ sym (ap (λ t. cond t 10 (b - 50)) differs));
  below = sym (ap (λ t. cond t (0 ∷ []) []) differs);
  least = omega (arith, e);
  most = omega (arith, e, low);
}
  where
    no : (x y : ℕ) → x ≢ y → (x == y) ≡ false
    no x y h = grind (nat_tests, arith)

    differs : (b == 61) ≡ false
    differs = no b 61 (λ q. absurd (omega (arith, q, e, low)))

top : (slot : ℕ) → get_or eleven slot 0 ≢ 0 → (get_or eleven slot 0 ≡ 50 + slot) × (slot < 11)
top zero some = (refl, omega arith)
top (suc zero) some = (refl, omega arith)
top (suc (suc zero)) some = (refl, omega arith)
top (suc (suc (suc zero))) some = (refl, omega arith)
top (suc (suc (suc (suc zero)))) some = (refl, omega arith)
top (suc (suc (suc (suc (suc zero))))) some = (refl, omega arith)
top (suc (suc (suc (suc (suc (suc zero)))))) some = (refl, omega arith)
top (suc (suc (suc (suc (suc (suc (suc zero))))))) some = (refl, omega arith)
top (suc (suc (suc (suc (suc (suc (suc (suc zero)))))))) some = (refl, omega arith)
top (suc (suc (suc (suc (suc (suc (suc (suc (suc zero))))))))) some = (refl, omega arith)
top (suc (suc (suc (suc (suc (suc (suc (suc (suc (suc zero)))))))))) some = (refl, omega arith)
top (suc (suc (suc (suc (suc (suc (suc (suc (suc (suc (suc zero))))))))))) some = absurd (some refl)
top (suc (suc (suc (suc (suc (suc (suc (suc (suc (suc (suc (suc zero)))))))))))) some = absurd (some refl)
top (suc (suc (suc (suc (suc (suc (suc (suc (suc (suc (suc (suc (suc slot))))))))))))) some = absurd (some refl)

found : (h : Held) → HasRow h → (slot : ℕ) (ks : List ℕ) → IsSpot 256 slot ks → block_at h eleven slot ks ≢ 0
    → Found slot ks (block_at h eleven slot ks)
found h has slot [] spot some = let at = top slot some in direct slot (get_or eleven slot 0) at.0 at.1
found h has slot (k ∷ ks) spot some = below ks refl
  where
    at : (get_or eleven slot 0 ≡ 50 + slot) × (slot < 11)
    at = top slot (λ e. some (down-hole h (get_or eleven slot 0) (k ∷ ks) e))

    ten : slot ≡ 10
    ten = omega (arith, at.1, spot.deep)

    leads : child h (get_or eleven slot 0) k ≡ child h 60 k
    leads = ap (λ q. child h q k) (let e : 50 + slot ≡ 60 = omega (arith, ten) in at.0 ∙ e)

    low : k < 256
    low = spot.places 0 (omega arith)

    below : (js : List ℕ) → ks ≡ js → Found slot (k ∷ ks) (block_at h eleven slot (k ∷ ks))
    below (j ∷ js) e = absurd (omega (arith, spot.deep, ap length e, ten))
    below [] e = by (k == 0) refl
      where
        block : block_at h eleven slot (k ∷ ks) ≡ child h 60 k
        block = ap (λ q. down h (child h (get_or eleven slot 0) k) q) e ∙ leads

        no : (x y : ℕ) → (x == y) ≡ false → x ≢ y
        no x y q = grind (nat_tests, arith)

        by : (t : Bool) → (k == 0) ≡ t → Found slot (k ∷ ks) (block_at h eleven slot (k ∷ ks))
        by false q = absurd (some (block ∙ (number-at h has k low ∙ no-number k low (no k 0 q))))
        by true q =
            (let here : block_at h eleven slot (k ∷ ks) ≡ 61 = block
            ∙ (number-at h has k low ∙ (ap (λ z. number32 row (z * 4)) (eqb-true k 0 q) ∙ first-number)) in
            record {
              address = ten ∙ sym (ap (λ z. cond (z == 61) 10 (z - 50)) here);
              below = ap (λ z. z ∷ ks) (eqb-true k 0 q) ∙ (ap (λ z. 0 ∷ z) e ∙ sym (ap (λ z. cond (z == 61) (0 ∷ []) []) here));
              least = omega (arith, here);
              most = omega (arith, here);
            })

spot-is : (n slot : ℕ) (ks : List ℕ) → n ≡ 256 → IsSpot n slot ks → IsSpot 256 slot ks
spot-is n slot ks e spot = record { among = spot.among; deep = spot.deep; places = λ i low. omega (arith, spot.places i low, e) }

pub eleven_tree : (o : Origin) (h : Held) → o.sizes.block_size ≡ 1024 → ((l : ℕ) → l < 16 → h 60 l ≡ Some (line_of row l))
    → ((b : ℕ) → 50 ≤ b → b < 62 → HoldsBlock o h b) → IsTree o h eleven
eleven_tree o h size has holds = record {
  whole = λ slot ks spot some. (let is = at slot ks spot some in holds (block_at h eleven slot ks) is.least is.most);
  once = λ slot ks other js spot that some same.
      (let one = at slot ks spot some in
      let two = at other js that (λ e. some (same ∙ e)) in (
        one.address ∙ (ap (λ q. cond (q == 61) 10 (q - 50)) same ∙ sym two.address),
        one.below
            ∙ (ap (λ q. cond (q == 61) (0 ∷ []) []) same ∙ sym two.below),
      ));
}
  where
    at : (slot : ℕ) (ks : List ℕ) → IsSpot (block_numbers o.sizes) slot ks → block_at h eleven slot ks ≢ 0
        → Found slot ks (block_at h eleven slot ks)
    at slot ks spot some = found h (record { at = has }) slot ks
        (spot-is (block_numbers o.sizes) slot ks (ap (λ (q : ℕ). q / 4) size) spot) some

pub eleven_data : (g : Geometry) (h : Held) → g.block_size ≡ 1024 → ((l : ℕ) → l < 16 → h 60 l ≡ Some (line_of row l)) → g.first_data ≤ 50
    → 62 ≤ g.blocks → HasDataBlocks g h eleven
eleven_data g h size has first blocks = record {
  at = λ slot ks spot some.
      (let is = found h (record { at = has }) slot ks (spot-is (block_numbers g) slot ks (ap (λ (q : ℕ). q / 4) size) spot) some in
      record { least = omega (arith, is.least, first); most = omega (arith, is.most, blocks) });
}
