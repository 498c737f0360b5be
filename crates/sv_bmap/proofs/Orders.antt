-- Blocks under a block, one place after another.
use Rattle.std.proofs.Common.{◌≡◌, ◌≢◌, ◌≤◌, ◌<◌, ◌+◌, ◌-◌, ◌++◌, ◌==◌, ℕ, zero, suc, false, cond, List, [], ◌∷◌}
use Rattle.std.proofs.Common.{length, map, take, get_or, ap}
use Rattle.std.proofs.Common.{refl, sym, ◌∙◌, subst, arith, append_assoc}
use Rattle.std.specs.List.{flat_map, range_with_len}
use Rattle.std.proofs.lemmas.Bool.Decides.{nat_tests}
use Rattle.std.proofs.lemmas.List.{flat_map_more, append-nil, take_more}
use Rattle.std.proofs.lemmas.List.Folds.{flat_map-map}
use Rattle.std.proofs.lemmas.List.FromFn.{get_or-map-range_with_len, length-map-range_with_len}
use Rattle.sv_form.proofs.OwnerLemmas.{range_more}
use Rattle.sv_form.specs.declared.geometry.Geometry.{Geometry}
use Rattle.sv_form.specs.PagePath.{block_numbers, first_single}
use Rattle.sv_store.specs.Held.{Held, Origin, HoldsBlock}
use Rattle.sv_bmap.specs.Tree.{child, IsTree}
use Rattle.sv_bmap.specs.Order.{blocks_below, blocks_of, HeldBelow}

-- one place more
pub added : (f : ℕ → List ℕ) (start before after : List ℕ) (k : ℕ) → before ≡ start ++ flat_map f (range_with_len 0 k)
    → after ≡ before ++ f k → after ≡ start ++ flat_map f (range_with_len 0 (k + 1))
added f start before after k e d =
    let at : 0 + k ≡ k = omega arith in
    d
    ∙ (ap (λ q. q ++ f k) e
    ∙ (flat_map_more f start (range_with_len 0 k) k
    ∙ ap (λ q. start ++ flat_map f q) (ap (λ q. range_with_len 0 k ++ q ∷ []) (sym at) ∙ sym (range_more 0 k))))

-- nothing yet
pub none-added : (f : ℕ → List ℕ) (start : List ℕ) → start ≡ start ++ flat_map f (range_with_len 0 0)
none-added f start = sym (append-nil start)

apart : (a b : ℕ) → a ≢ b → (a == b) ≡ false
apart a b h = grind (nat_tests, arith)

pub page-below : (n : ℕ) (h : Held) (b : ℕ) → blocks_below n h 0 b ≡ cond (b == 0) [] (b ∷ [])
unfolding Rattle.sv_form.specs.AddressTree.blocks_below
page-below n h b = refl

pub below-there : (n : ℕ) (h : Held) (d b : ℕ) → b ≢ 0
    → blocks_below n h (suc d) b ≡ flat_map (λ k. blocks_below n h d (child h b k)) (range_with_len 0 n) ++ b ∷ []
unfolding Rattle.sv_form.specs.AddressTree.blocks_below
below-there n h d b some = ap (λ q. cond q [] (flat_map (λ k. blocks_below n h d (child h b k)) (range_with_len 0 n) ++ b ∷ []))
    (apart b 0 some)

pub below-hole : (n : ℕ) (h : Held) (d b : ℕ) → b ≡ 0 → blocks_below n h (suc d) b ≡ []
unfolding Rattle.sv_form.specs.AddressTree.blocks_below
below-hole n h d b e = ap (λ q. cond (q == 0) [] (flat_map (λ k. blocks_below n h d (child h q k)) (range_with_len 0 n) ++ q ∷ [])) e

pub nothing-added : (n : ℕ) (h : Held) (d b : ℕ) (start : List ℕ) → b ≡ 0 → start ≡ start ++ blocks_below n h (suc d) b
nothing-added n h d b start e = sym (ap (λ q. start ++ q) (below-hole n h d b e) ∙ append-nil start)

-- the block itself comes last
pub all-added : (n m : ℕ) (h : Held) (d b : ℕ) (start before after : List ℕ) → b ≢ 0 → m ≡ n
    → before ≡ start ++ flat_map (λ k. blocks_below n h d (child h b k)) (range_with_len 0 m) → after ≡ before ++ b ∷ []
    → after ≡ start ++ blocks_below n h (suc d) b
all-added n m h d b start before after some long e last =
    last
    ∙ (ap (λ q. q ++ b ∷ []) (e ∙ ap (λ q. start ++ flat_map (λ k. blocks_below n h d (child h b k)) (range_with_len 0 q)) long)
    ∙ (append_assoc start (flat_map (λ k. blocks_below n h d (child h b k)) (range_with_len 0 n)) (b ∷ [])
    ∙ ap (λ q. start ++ q) (sym (below-there n h d b some))))

-- ---- what is held

pub held-top : {o : Origin} {h : Held} {d b : ℕ} → HeldBelow o h d b → b ≢ 0 → HoldsBlock o h b
held-top below some = below.at [] (omega arith) (λ i low. absurd (omega arith)) some

pub held-child : {o : Origin} {h : Held} {d b : ℕ} → HeldBelow o h (suc d) b → (k : ℕ) → k < block_numbers o.sizes
    → HeldBelow o h d (child h b k)
held-child {o} {h} {d} {b} below k low = record { at = λ ks deep each some. below.at (k ∷ ks) (omega (arith, deep)) (all ks each) some }
  where
    all : (ks : List ℕ) → ((i : ℕ) → i < length ks → get_or ks i 0 < block_numbers o.sizes) → (i : ℕ) → i < length (k ∷ ks)
        → get_or (k ∷ ks) i 0 < block_numbers o.sizes
    all ks each zero inside = low
    all ks each (suc m) inside = each m (omega (arith, inside))

pub below-after : {o o' : Origin} {h h' : Held} {d x y : ℕ} → o' ≡ o → h' ≡ h → y ≡ x → HeldBelow o h d x → HeldBelow o' h' d y
below-after {o} {o'} {h} {h'} {d} {x} {y} p q e below =
    let P : Origin → Type 0 = λ z. HeldBelow z h' d y in
    let Q : Held → Type 0 = λ z. HeldBelow o z d y in
    let W : ℕ → Type 0 = λ z. HeldBelow o h d z in
    subst P (sym p) (subst Q (sym q) (subst W (sym e) below))

pub blocks-after : (o o' : Origin) (h h' : Held) (d x y : ℕ) → o' ≡ o → h' ≡ h → y ≡ x
    → blocks_below (block_numbers o'.sizes) h' d y ≡ blocks_below (block_numbers o.sizes) h d x
blocks-after o o' h h' d x y p q e =
    ap (λ z. blocks_below (block_numbers z.sizes) h' d y) p
    ∙ (ap (λ z. blocks_below (block_numbers o.sizes) z d y) q ∙ ap (blocks_below (block_numbers o.sizes) h d) e)

pub tree-below : {o : Origin} {h : Held} {a : List ℕ} → IsTree o h a → (slot d : ℕ) → slot < 13 → d ≤ slot - 9
    → HeldBelow o h d (get_or a slot 0)
tree-below tree slot d low high =
    record { at = λ ks deep each some. tree.whole slot ks (record { among = low; deep = omega (arith, deep, high); places = each }) some }

-- the pages, and what is under the three indirect addresses, one after another
pub joined : (g : Geometry) (h : Held) (a : List ℕ) {start pages one two all : List ℕ} → start ≡ []
    → pages ≡ start ++ flat_map (λ slot. cond (get_or a slot 0 == 0) [] (get_or a slot 0 ∷ [])) (range_with_len 0 first_single)
    → one ≡ pages ++ blocks_below (block_numbers g) h 1 (get_or a 10 0) → two ≡ one ++ blocks_below (block_numbers g) h 2 (get_or a 11 0)
    → all ≡ two ++ blocks_below (block_numbers g) h 3 (get_or a 12 0) → all ≡ blocks_of g h a
unfolding Rattle.sv_form.specs.AddressTree.blocks_below
joined g h a {start} {pages} {one} {two} {all} p q r s t =
    t
    ∙ ap (λ x. x ++ blocks_below (block_numbers g) h 3 (get_or a 12 0))
    (s
    ∙ ap (λ x. x ++ blocks_below (block_numbers g) h 2 (get_or a 11 0))
    (r
    ∙ ap (λ x. x ++ blocks_below (block_numbers g) h 1 (get_or a 10 0))
    (q ∙ ap (λ x. x ++ flat_map (λ slot. cond (get_or a slot 0 == 0) [] (get_or a slot 0 ∷ [])) (range_with_len 0 first_single)) p)))

-- ---- lists of numbers

-- one number more
pub each-added : (f : ℕ → List ℕ) (start before after xs : List ℕ) (i : ℕ) → i < length xs → before ≡ start ++ flat_map f (take i xs)
    → after ≡ before ++ f (get_or xs i 0) → after ≡ start ++ flat_map f (take (i + 1) xs)
each-added f start before after xs i low e d =
    d
    ∙ (ap (λ q. q ++ f (get_or xs i 0)) e
    ∙ (flat_map_more f start (take i xs) (get_or xs i 0) ∙ ap (λ q. start ++ flat_map f q) (sym (take_more xs i 0 low))))

-- what stands under the numbers of a block, which comes last
pub all-listed : (o o' : Origin) (h h' : Held) (d b : ℕ) (xs start before after : List ℕ) → o' ≡ o → h' ≡ h → b ≢ 0
    → xs ≡ map (child h b) (range_with_len 0 (block_numbers o.sizes))
    → before ≡ start ++ flat_map (blocks_below (block_numbers o'.sizes) h' d) xs → after ≡ before ++ b ∷ []
    → after ≡ start ++ blocks_below (block_numbers o.sizes) h (suc d) b
all-listed o o' h h' d b xs start before after p q some listed e last =
    let n : ℕ = block_numbers o.sizes in
    all-added n n h d b start before after some refl
    (e
    ∙ (ap (λ z. start ++ flat_map (blocks_below (block_numbers z.sizes) h' d) xs) p
    ∙ (ap (λ z. start ++ flat_map (blocks_below n z d) xs) q
    ∙ (ap (λ z. start ++ flat_map (blocks_below n h d) z) listed
    ∙ ap (λ z. start ++ z) (flat_map-map (blocks_below n h d) (child h b) (range_with_len 0 n)))))) last

-- pages are all that stands under themselves
pub pages-below : (n : ℕ) (h : Held) (xs : List ℕ) → flat_map (λ b. cond (b == 0) [] (b ∷ [])) xs ≡ flat_map (blocks_below n h 0) xs
unfolding Rattle.sv_form.specs.AddressTree.blocks_below
pages-below n h xs = refl

-- what stands under the numbers of a block is held
pub children-below : {o o' : Origin} {h h' : Held} {d b : ℕ} (xs : List ℕ) → o' ≡ o → h' ≡ h → HeldBelow o h (suc d) b
    → xs ≡ map (child h b) (range_with_len 0 (block_numbers o.sizes)) → (k : ℕ) → k < length xs → HeldBelow o' h' d (get_or xs k 0)
children-below {o} {o'} {h} {h'} {d} {b} xs p q below listed k low =
    let n : ℕ = block_numbers o.sizes in
    let inside : k < n = omega (arith, low, ap length listed, length-map-range_with_len (child h b) 0 n) in
    below-after p q (ap (λ z. get_or z k 0) listed ∙ get_or-map-range_with_len (child h b) 0 n k k 0 inside (omega arith))
    (held-child below k inside)
