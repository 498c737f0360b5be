-- Pages and paths, and numbers in lines.
use Rattle.std.proofs.Common.{◌≡◌, ◌≢◌, ◌+◌, ◌*◌, ◌/◌, ◌%◌, ◌<◌, ◌≤◌, ◌-◌, ◌==◌, ℕ, zero, suc, List, [], ◌∷◌, length, Bool, true, false}
use Rattle.std.proofs.Common.{cond, nat_lt, arith, ap, refl, sym, subst, ◌∙◌, get_or, Option, Some, None, IsSome, IfSome, unwrap_or}
use Rattle.std.proofs.lemmas.Bool.{false≢true}
use Rattle.std.proofs.lemmas.Bool.Decides.{nat_tests}
use Rattle.std.proofs.lemmas.Nat.{div-mul-add, mod-mul-add}
use Rattle.sv_form.specs.Number.{number32}
use Rattle.sv_form.specs.PagePath.{IsPath, page_of, block_numbers, first_single, first_double, first_triple}
use Rattle.sv_form.specs.declared.geometry.Geometry.{Geometry}
use Rattle.sv_form.specs.declared.page_path.PagePath.{PagePath}
use Rattle.sv_form.specs.declared.page_path.PagePath.TheVariants.{Direct, Single, Double, Triple}
use Rattle.sv_store.specs.Held.{Held, Origin, HoldsBlock, line_of}
use Rattle.sv_store.specs.Calls.{Gets}
use Rattle.sv_store.specs.Loan.{Loan}
use Rattle.sv_store.proofs.Lines.{get_or-line_of}
use Rattle.sv_bmap.specs.Tree.{number_in, child, block_at, IsSpot, IsTree, path, slot_of, places_of, page_block}

yes : (a b : ℕ) → a < b → nat_lt a b ≡ true
yes a b h = grind (nat_tests, arith)

no : (a b : ℕ) → b ≤ a → nat_lt a b ≡ false
no a b h = grind (nat_tests, arith)

pair_bound : (n i j : ℕ) → i < n → j < n → i * n + j < n * n
pair_bound n i j low high = grind arith

-- the three tests of a page
chosen : (s t u : Bool) (page n : ℕ) → nat_lt page first_single ≡ s → nat_lt page (first_double n) ≡ t → nat_lt page (first_triple n) ≡ u
    → path n page ≡ cond s (Direct page)
    (cond t (Single (page - first_single))
    (cond u (Double ((page - first_double n) / n) ((page - first_double n) % n))
    (Triple ((page - first_triple n) / n / n) ((page - first_triple n) / n % n) ((page - first_triple n) % n))))
unfolding path
chosen s t u page n e f h = rest e
  where
    D : PagePath
    D = Double ((page - first_double n) / n) ((page - first_double n) % n)

    T : PagePath
    T = Triple ((page - first_triple n) / n / n) ((page - first_triple n) / n % n) ((page - first_triple n) % n)

    rest : nat_lt page first_single ≡ s
        → cond (nat_lt page first_single) (Direct page)
        (cond (nat_lt page (first_double n)) (Single (page - first_single)) (cond (nat_lt page (first_triple n)) D T)) ≡ cond s
        (Direct page) (cond t (Single (page - first_single)) (cond u D T))
    rest e =
        ap (λ q. cond q (Direct page)
        (cond (nat_lt page (first_double n)) (Single (page - first_single)) (cond (nat_lt page (first_triple n)) D T))) e
        ∙ (ap (λ q. cond s (Direct page) (cond q (Single (page - first_single)) (cond (nat_lt page (first_triple n)) D T))) f
        ∙ ap (λ q. cond s (Direct page) (cond t (Single (page - first_single)) (cond q D T))) h)

two : (i j k l : ℕ) → i ≡ k → j ≡ l → Double i j ≡ Double k l
two i j k l p q = ap (λ (x : ℕ). Double x j) p ∙ ap (λ (x : ℕ). Double k x) q

three : (h i j k l m : ℕ) → h ≡ k → i ≡ l → j ≡ m → Triple h i j ≡ Triple k l m
three h i j k l m p q r = ap (λ (x : ℕ). Triple x i j) p ∙ (ap (λ (x : ℕ). Triple k x j) q ∙ ap (λ (x : ℕ). Triple k l x) r)

-- the path that arrives at a page is the path of the page
path-at : (g : Geometry) (p : PagePath) → IsPath g p → path (block_numbers g) (page_of g p) ≡ p
path-at g (Direct i) is = chosen true (nat_lt i (first_double (block_numbers g))) (nat_lt i (first_triple (block_numbers g))) i
    (block_numbers g) (yes i first_single is) refl refl
path-at g (Single i) is =
    chosen false true (nat_lt (first_single + i) (first_triple (block_numbers g))) (first_single + i) (block_numbers g)
    (no (first_single + i) first_single (omega arith)) (yes (first_single + i) (first_double (block_numbers g)) (omega (arith, is)))
    refl
    ∙ (let e : first_single + i - first_single ≡ i = omega arith in ap (λ (x : ℕ). Single x) e)
path-at g (Double i j) is =
    let n : ℕ = block_numbers g in
    let x : ℕ = i * n + j in
    let below : x < n * n = pair_bound n i j is.0 is.1 in
    let e : first_double n + x - first_double n ≡ x = omega arith in
    chosen false false true (first_double n + x) n (no (first_double n + x) first_single (omega arith))
    (no (first_double n + x) (first_double n) (omega arith)) (yes (first_double n + x) (first_triple n) (omega (arith, below)))
    ∙ two _ _ i j (ap (λ (q : ℕ). q / n) e ∙ div-mul-add i n j is.1) (ap (λ (q : ℕ). q % n) e ∙ mod-mul-add i n j is.1)
path-at g (Triple i j k) is =
    let n : ℕ = block_numbers g in
    let row : ℕ = i * n + j in
    let x : ℕ = row * n + k in
    let e : first_triple n + x - first_triple n ≡ x = omega arith in
    let up : x / n ≡ row = div-mul-add row n k is.2 in
    chosen false false false (first_triple n + x) n (no (first_triple n + x) first_single (omega arith))
    (no (first_triple n + x) (first_double n) (omega arith)) (no (first_triple n + x) (first_triple n) (omega arith))
    ∙ three _ _ _ i j k (ap (λ (q : ℕ). q / n / n) e ∙ (ap (λ (q : ℕ). q / n) up ∙ div-mul-add i n j is.1))
    (ap (λ (q : ℕ). q / n % n) e ∙ (ap (λ (q : ℕ). q % n) up ∙ mod-mul-add i n j is.1))
    (ap (λ (q : ℕ). q % n) e ∙ mod-mul-add row n k is.2)

pub path-is : (g : Geometry) (p : PagePath) (page : ℕ) → IsPath g p → page_of g p ≡ page → path (block_numbers g) page ≡ p
path-is g p page is e = sym (ap (path (block_numbers g)) e) ∙ path-at g p is

-- a number of a block is a number of its line
pub number-line : (bytes : List ℕ) (k : ℕ) → number32 (line_of bytes (k / 16)) (k % 16 * 4) ≡ number32 bytes (k * 4)
number-line bytes k =
    four _ _ _ _ _ _ _ _ (byte (k % 16 * 4) (k * 4) (omega arith) (omega arith))
    (byte (k % 16 * 4 + 1) (k * 4 + 1) (omega arith) (omega arith)) (byte (k % 16 * 4 + 2) (k * 4 + 2) (omega arith) (omega arith))
    (byte (k % 16 * 4 + 2 + 1) (k * 4 + 2 + 1) (omega arith) (omega arith))
  where
    byte : (m p : ℕ) → m < 64 → k / 16 * 64 + m ≡ p → get_or (line_of bytes (k / 16)) m 0 ≡ get_or bytes p 0
    byte m p low e = get_or-line_of bytes (k / 16) m low ∙ ap (λ q. get_or bytes q 0) e

    four : (a b c d e f g h : ℕ) → a ≡ e → b ≡ f → c ≡ g → d ≡ h → a + 256 * b + 65536 * (c + 256 * d) ≡ e + 256 * f + 65536 * (g + 256 * h)
    four a b c d e f g h p q r s = cc

pub number-got : {o : Origin} {h : Held} {b : ℕ} {buf : Loan} → Gets o h b buf → (k : ℕ) → IsSome (h b (k / 16))
    → number32 buf.bytes (k * 4) ≡ number_in h b k
unfolding number_in
number-got {o} {h} {b} {buf} gets k is =
    sym (number-line buf.bytes k) ∙ ap (λ q. number32 q (k % 16 * 4)) (line (h b (k / 16)) is (gets.lines (k / 16)))
  where
    line : (o : Option (List ℕ)) → IsSome o → IfSome o (λ x. line_of buf.bytes (k / 16) ≡ x) → line_of buf.bytes (k / 16) ≡ unwrap_or o []
    line None is e = absurd (false≢true is)
    line (Some x) is e = e

pub holds-same : {o o' : Origin} {h h' : Held} (b : ℕ) → o' ≡ o → h' ≡ h → HoldsBlock o h b → HoldsBlock o' h' b
holds-same {o} {o'} {h} {h'} b p q holds =
    let P : Origin → Type 0 = λ x. HoldsBlock x h' b in
    let Q : Held → Type 0 = λ x. HoldsBlock o x b in
    subst P (sym p) (subst Q (sym q) holds)

pub child-hole : (h : Held) (b k : ℕ) → b ≡ 0 → child h b k ≡ 0
unfolding Rattle.sv_form.specs.AddressTree.child
child-hole h b k e = ap (λ q. cond (q == 0) 0 (number_in h q k)) e

pub child-there : (h : Held) (b k : ℕ) → b ≢ 0 → child h b k ≡ number_in h b k
unfolding Rattle.sv_form.specs.AddressTree.child
child-there h b k some = ap (λ q. cond q 0 (number_in h b k)) (apart b 0 some)
  where
    apart : (a b : ℕ) → a ≢ b → (a == b) ≡ false
    apart a b h = grind (nat_tests, arith)

pub index-in : (g g' : Geometry) (i j : ℕ) → g ≡ g' → i < block_numbers g → j ≡ i → j < block_numbers g'
index-in g g' i j e low same = let P : Geometry → Type 0 = λ q. j < block_numbers q in subst P e (omega (arith, low, same))

-- the block of a page is where its path leads
pub page-block-is : (g g' : Geometry) (h : Held) (a : List ℕ) (p : PagePath) (page : ℕ) → g' ≡ g → IsPath g' p → page_of g' p ≡ page
    → page_block g h a page ≡ block_at h a (slot_of p) (places_of p)
unfolding Rattle.sv_form.specs.AddressTree.page_block
page-block-is g g' h a p page e is at =
    ap (λ q. block_at h a (slot_of (path (block_numbers q) page)) (places_of (path (block_numbers q) page))) (sym e)
    ∙ ap (λ q. block_at h a (slot_of q) (places_of q)) (path-is g' p page is at)

-- ---- the blocks on the way to a page are held

pub top-spot : (n slot : ℕ) → slot < 13 → IsSpot n slot []
top-spot n slot low = record { among = low; deep = omega arith; places = λ i below. absurd (omega arith) }

pub one-spot : (n slot i : ℕ) → slot < 13 → 10 ≤ slot → i < n → IsSpot n slot (i ∷ [])
one-spot n slot i low high first = record { among = low; deep = omega arith; places = each }
  where
    each : (m : ℕ) → m < length (i ∷ []) → get_or (i ∷ []) m 0 < n
    each zero below = first
    each (suc m) below = absurd (omega arith)

pub two-spot : (n slot i j : ℕ) → slot < 13 → 11 ≤ slot → i < n → j < n → IsSpot n slot (i ∷ j ∷ [])
two-spot n slot i j low high first second = record { among = low; deep = omega arith; places = each }
  where
    each : (m : ℕ) → m < length (i ∷ j ∷ []) → get_or (i ∷ j ∷ []) m 0 < n
    each zero below = first
    each (suc zero) below = second
    each (suc (suc m)) below = absurd (omega arith)

pub top-held : {o : Origin} {h : Held} {a : List ℕ} → IsTree o h a → (slot : ℕ) → slot < 13 → get_or a slot 0 ≢ 0
    → HoldsBlock o h (get_or a slot 0)
top-held {o} tree slot low some = tree.whole slot [] (top-spot (block_numbers o.sizes) slot low) some

pub one-held : {o : Origin} {h : Held} {a : List ℕ} → IsTree o h a → (slot i : ℕ) → slot < 13 → 10 ≤ slot → i < block_numbers o.sizes
    → child h (get_or a slot 0) i ≢ 0 → HoldsBlock o h (child h (get_or a slot 0) i)
one-held {o} tree slot i low high first some = tree.whole slot (i ∷ []) (one-spot (block_numbers o.sizes) slot i low high first) some

pub two-held : {o : Origin} {h : Held} {a : List ℕ} → IsTree o h a → (slot i j : ℕ) → slot < 13 → 11 ≤ slot → i < block_numbers o.sizes
    → j < block_numbers o.sizes → child h (child h (get_or a slot 0) i) j ≢ 0 → HoldsBlock o h (child h (child h (get_or a slot 0) i) j)
two-held {o} tree slot i j low high first second some = tree.whole slot (i ∷ j ∷ [])
    (two-spot (block_numbers o.sizes) slot i j low high first second) some

-- what was held before a read of the tree is held after it
pub held-after : {o o' : Origin} {h h' : Held} {x y : ℕ} → o' ≡ o → h' ≡ h → y ≡ x → (x ≢ 0 → HoldsBlock o h x) → y ≢ 0 → HoldsBlock o' h' y
held-after {o} {o'} {h} {h'} {x} {y} p q e holds some =
    holds-same y p q (let P : ℕ → Type 0 = λ z. z ≢ 0 → HoldsBlock o h z in subst P (sym e) holds some)

pub child-after : {h h' : Held} {x y : ℕ} (k : ℕ) → h' ≡ h → y ≡ x → child h' y k ≡ child h x k
child-after {h} {h'} {x} {y} k q e = ap (λ z. child z y k) q ∙ ap (λ z. child h z k) e

-- places that are the same lead to the same block
pub one-along : (h : Held) (b : ℕ) {i i' : ℕ} → i ≡ i' → child h b i ≡ child h b i'
one-along h b p = ap (child h b) p

pub two-along : (h : Held) (b : ℕ) {i i' j j' : ℕ} → i ≡ i' → j ≡ j' → child h (child h b i) j ≡ child h (child h b i') j'
two-along h b {i} {i'} {j} {j'} p q = ap (λ x. child h (child h b x) j) p ∙ ap (child h (child h b i')) q

pub three-along : (h : Held) (b : ℕ) {i i' j j' k k' : ℕ} → i ≡ i' → j ≡ j' → k ≡ k'
    → child h (child h (child h b i) j) k ≡ child h (child h (child h b i') j') k'
three-along h b {i} {i'} {j} {j'} {k} {k'} p q r =
    ap (λ x. child h (child h (child h b x) j) k) p
    ∙ (ap (λ x. child h (child h (child h b i') x) k) q ∙ ap (child h (child h (child h b i') j')) r)
