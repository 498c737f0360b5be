-- Two readers that agree where they are read see the same.
use Rattle.std.proofs.Common.{◌≡◌, ◌≢◌, ◌≤◌, ◌<◌, ◌+◌, ◌-◌, ◌*◌, ◌/◌, ◌%◌, ◌^◌, ◌==◌, ◌++◌, ◌⊎◌, ℕ, zero, suc, Bool, true, false, not, List, [], ◌∷◌, All, inl, inr, length, map, take, filter, flat_map, get_or, cond, arith, ap, refl, sym, subst, ◌∙◌}
use Rattle.std.specs.List.{AllByRecursion, range_with_len}
use Rattle.std.proofs.lemmas.Bool.{cases_eq, cond-true, eq-eqb, ne_eqb, false≢true}
use Rattle.std.proofs.lemmas.List.Elements.{recursion_from_All}
use Rattle.std.proofs.Math.Nat.{lt-div-mul-add}
use Rattle.sv_form.specs.declared.entry.Entry.{Entry}
use Rattle.sv_form.specs.AddressTree.{Numbers, Reached, block_at, child, down, reached, reached_under}
use Rattle.sv_form.specs.Entries.{HasEntry, Pieces, until_zero}
use Rattle.sv_form.specs.Entry.{IsEntry}
use Rattle.sv_form.specs.FileBytes.{PageBytes, byte_at, bytes_at}
use Rattle.sv_form.specs.FreeChain.{HasList, IsChain, IsNext, after, last, list_in}
use Rattle.sv_form.specs.Node.{Node, entry_name}
use Rattle.sv_form.specs.PagePath.{IsSpot, first_page, height_of, slots}
use Rattle.sv_form.specs.Readers.{AgreeAt, IsPieceOf, IsSameTree}
use Rattle.sv_form.proofs.NodeEntryLemmas.{after_inode, inode_bytes}

-- ---- lists over a filtered range

module _ {X : Type 0} (P : X → Type 0) where
  pub split : (xs ys : List X) → AllByRecursion P (xs ++ ys) → AllByRecursion P xs × AllByRecursion P ys
  split [] ys all = (tt, all)
  split (x ∷ xs) ys all = let rest = split xs ys all.1 in ((all.0, rest.0), rest.1)

  one_same : (f g : ℕ → List X) (a : ℕ) (F G : List ℕ) (u v : Bool) → v ≡ u → (AllByRecursion P (f a) → g a ≡ f a) → (AllByRecursion P (flat_map f F) → flat_map g G ≡ flat_map f F)
      → AllByRecursion P (flat_map f (cond u (a ∷ F) F)) → flat_map g (cond v (a ∷ G) G) ≡ flat_map f (cond u (a ∷ F) F)
  one_same f g a F G true true e here rest all =
      let parts = split (f a) (flat_map f F) all in
      ap (λ (l : List X). l ++ flat_map g G) (here parts.0) ∙ ap (λ (l : List X). f a ++ l) (rest parts.1)
  one_same f g a F G false false e here rest all = rest all
  one_same f g a F G true false e here rest all = absurd (false≢true e)
  one_same f g a F G false true e here rest all = absurd (false≢true (sym e))

  -- the same numbers pass two tests, and what stands for each of them is the same
  pub filtered_same : (f g : ℕ → List X) (s t : ℕ → Bool) (m a : ℕ) → ((k : ℕ) → a ≤ k → k < a + m → t k ≡ s k) → ((k : ℕ) → a ≤ k → k < a + m → AllByRecursion P (f k) → g k ≡ f k)
      → AllByRecursion P (flat_map f (filter s (range_with_len a m))) → flat_map g (filter t (range_with_len a m)) ≡ flat_map f (filter s (range_with_len a m))
  filtered_same f g s t zero a tests parts all = refl
  filtered_same f g s t (suc m) a tests parts all =
      one_same f g a (filter s (range_with_len (a + 1) m)) (filter t (range_with_len (a + 1) m)) (s a) (t a) (tests a (omega arith) (omega arith)) (parts a (omega arith) (omega arith))
      (filtered_same f g s t m (a + 1) (λ k low high. tests k (omega (arith, low)) (omega (arith, high))) (λ k low high. parts k (omega (arith, low)) (omega (arith, high)))) all

  one_part : (f : ℕ → List X) (a k : ℕ) (F : List ℕ) (u : Bool) → (a ≡ k → u ≡ true) → (a ≢ k → AllByRecursion P (flat_map f F) → AllByRecursion P (f k)) → (a ≡ k) ⊎ (a ≢ k)
      → AllByRecursion P (flat_map f (cond u (a ∷ F) F)) → AllByRecursion P (f k)
  one_part f a k F true here rest (inl e) all = subst (λ (x : ℕ). AllByRecursion P (f x)) e (split (f a) (flat_map f F) all).0
  one_part f a k F false here rest (inl e) all = absurd (false≢true (here e))
  one_part f a k F true here rest (inr ne) all = rest ne (split (f a) (flat_map f F) all).1
  one_part f a k F false here rest (inr ne) all = rest ne all

  -- what holds of all holds of the part that stands for one number
  pub filtered_part : (f : ℕ → List X) (s : ℕ → Bool) (m a k : ℕ) → a ≤ k → k < a + m → s k ≡ true → AllByRecursion P (flat_map f (filter s (range_with_len a m))) → AllByRecursion P (f k)
  filtered_part f s zero a k low high is all = absurd (omega (arith, low, high))
  filtered_part f s (suc m) a k low high is all =
      one_part f a k (filter s (range_with_len (a + 1) m)) (s a) (λ e. ap s e ∙ is) (λ ne rest. filtered_part f s m (a + 1) k (omega (arith, low, ne)) (omega (arith, high)) is rest) (cases_eq a k) all

-- ---- trees

pub down-hole : (numbers : Numbers) (ks : List ℕ) → down numbers 0 ks ≡ 0
unfolding child
down-hole numbers [] = refl
down-hole numbers (k ∷ ks) = down-hole numbers ks

pub child-some : (numbers : Numbers) (b k : ℕ) → b ≢ 0 → child numbers b k ≡ numbers b k
unfolding child
child-some numbers b k some = ap (λ (t : Bool). cond t 0 (numbers b k)) (ne_eqb b 0 some)

no_zero : (b : ℕ) → b ≢ 0 → not (b == 0) ≡ true
no_zero b some = ap not (ne_eqb b 0 some)

module _ (n : ℕ) (p q : Numbers) where
  abbrev Agree : Reached → Type 0
  Agree = AgreeAt n p q

  abbrev under : Numbers → ℕ → ℕ → ℕ → ℕ → List Reached
  under numbers h page b k = reached_under n numbers h (page + k * n ^ h) (numbers b k)

  abbrev some_at : Numbers → ℕ → ℕ → Bool
  some_at numbers b k = not (numbers b k == 0)

  here_of : (h page b : ℕ) → AllByRecursion Agree (reached_under n p (suc h) page b) → (k : ℕ) → k < n → q b k ≡ p b k
  unfolding reached_under
  here_of h page b all = all.0 (λ e. absurd (omega (arith, e)))

  below_of : (h page b k : ℕ) → k < n → p b k ≢ 0 → AllByRecursion Agree (reached_under n p (suc h) page b) → AllByRecursion Agree (under p h page b k)
  unfolding reached_under
  below_of h page b k low some all = filtered_part Agree (under p h page b) (some_at p b) n 0 k (omega arith) (omega (arith, low)) (no_zero (p b k) some) all.1

  pub under_same : (h page b : ℕ) → AllByRecursion Agree (reached_under n p h page b) → reached_under n q h page b ≡ reached_under n p h page b
  unfolding reached_under
  under_same zero page b all = refl
  under_same (suc h) page b all =
      let here : (k : ℕ) → k < n → q b k ≡ p b k = here_of h page b all in
      let top : Reached = record { height = suc h; page = page; block = b } in
      ap (λ (l : List Reached). top ∷ l)
      (filtered_same Agree (under p h page b) (under q h page b) (some_at p b) (some_at q b) n 0 (λ k low high. ap (λ (x : ℕ). not (x == 0)) (here k (omega (arith, high))))
      (λ k low high part. ap (reached_under n q h (page + k * n ^ h)) (here k (omega (arith, high))) ∙ under_same h (page + k * n ^ h) (p b k) part) all.1)

  down_step : (b k : ℕ) (ks : List ℕ) → (p b k ≢ 0 → down q (p b k) ks ≡ down p (p b k) ks) → (p b k ≡ 0) ⊎ (p b k ≢ 0) → down q (p b k) ks ≡ down p (p b k) ks
  down_step b k ks on (inl e) = ap (λ (x : ℕ). down q x ks) e ∙ down-hole q ks ∙ sym (ap (λ (x : ℕ). down p x ks) e ∙ down-hole p ks)
  down_step b k ks on (inr ne) = on ne

  pub down_same : (h page b : ℕ) (ks : List ℕ) → AllByRecursion Agree (reached_under n p h page b) → length ks ≤ h → ((i : ℕ) → i < length ks → get_or ks i 0 < n) → b ≢ 0 → down q b ks ≡ down p b ks
  down_same h page b [] all deep places some = refl
  down_same zero page b (k ∷ ks) all deep places some = absurd (omega (arith, deep))
  down_same (suc h) page b (k ∷ ks) all deep places some =
      let here : q b k ≡ p b k = here_of h page b all k (places 0 (omega arith)) in
      let on : p b k ≢ 0 → down q (p b k) ks ≡ down p (p b k) ks = λ ne.
      down_same h (page + k * n ^ h) (p b k) ks (below_of h page b k (places 0 (omega arith)) ne all) (omega (arith, deep)) (λ i low. places (suc i) (omega (arith, low))) ne in
      ap (λ (x : ℕ). down q x ks) (child-some q b k some ∙ here) ∙ down_step b k ks on (cases_eq (p b k) 0)
      ∙ sym (ap (λ (x : ℕ). down p x ks) (child-some p b k some))

  module _ (address : ℕ → ℕ) (all : All Agree (reached n p address)) where
    abbrev at : Numbers → ℕ → List Reached
    at numbers k = reached_under n numbers (height_of k) (first_page n k) (address k)

    each : AllByRecursion Agree (flat_map (at p) (filter (λ k. not (address k == 0)) (range_with_len 0 slots)))
    unfolding reached
    each = recursion_from_All Agree (reached n p address) all

    reached_same : reached n q address ≡ reached n p address
    unfolding reached
    reached_same =
        filtered_same Agree (at p) (at q) (λ k. not (address k == 0)) (λ k. not (address k == 0)) slots 0 (λ k low high. refl) (λ k low high part. under_same (height_of k) (first_page n k) (address k) part) each

    spot_same : (slot : ℕ) (ks : List ℕ) → IsSpot n slot ks → (address slot ≡ 0) ⊎ (address slot ≢ 0) → block_at q address slot ks ≡ block_at p address slot ks
    spot_same slot ks spot (inl e) = ap (λ (x : ℕ). down q x ks) e ∙ down-hole q ks ∙ sym (ap (λ (x : ℕ). down p x ks) e ∙ down-hole p ks)
    spot_same slot ks spot (inr ne) =
        down_same (height_of slot) (first_page n slot) (address slot) ks
        (filtered_part Agree (at p) (λ k. not (address k == 0)) slots 0 slot (omega arith) (omega (arith, spot.among)) (no_zero (address slot) ne) each) spot.deep spot.places ne

    pub same_tree : IsSameTree n p q address
    same_tree = record { reached = reached_same; spots = λ slot ks spot. spot_same slot ks spot (cases_eq (address slot) 0) }

-- ---- chains

same_after : (read other : ℕ → List ℕ) (list : List ℕ) (b : ℕ) → last list ≡ b → other b ≡ read b → after other list ≡ after read list
unfolding after
same_after read other list b is e =
    ap (λ (l : List ℕ). cond (length list == 1) (list_in l) (take (length list - 1) list)) (ap other is ∙ e ∙ sym (ap read is))

pub same_chain : (read other : ℕ → List ℕ) (list order : List ℕ) → AllByRecursion (λ b. other b ≡ read b) order → IsChain read list order → IsChain other list order
unfolding IsChain
same_chain read other list [] all is = is
same_chain read other list (b ∷ rest) all is =
    let rest_is : IsChain other (after read list) rest = same_chain read other (after read list) rest all.1 is.1 in (
      record {
        named = is.0.named;
        some = is.0.some;
        last = is.0.last;
        link = λ one. subst (λ (l : List ℕ). HasList l (list_in l)) (sym all.0) (is.0.link one);
      },
      subst (λ (l : List ℕ). IsChain other l rest) (sym (same_after read other list b is.0.last all.0)) rest_is,
    )

-- ---- files and directories

map_same : (f g : ℕ → ℕ) (m a : ℕ) → ((k : ℕ) → k < a + m → g k ≡ f k) → map g (range_with_len a m) ≡ map f (range_with_len a m)
map_same f g zero a each = refl
map_same f g (suc m) a each =
    ap (λ (x : ℕ). x ∷ map g (range_with_len (a + 1) m)) (each a (omega arith)) ∙ ap (λ (l : List ℕ). f a ∷ l) (map_same f g m (a + 1) (λ k low. each k (omega (arith, low))))

pub same_bytes : (block : ℕ) (p q : PageBytes) (from count : ℕ) → 0 < block → ((page r : ℕ) → page * block < from + count → r < block → q page r ≡ p page r) → bytes_at block q from count ≡ bytes_at block p from count
same_bytes block p q from count some each =
    map_same (byte_at block p) (byte_at block q) count from (λ k low. each (k / block) (k % block) (grind (arith, low, some)) (omega (arith, some)))

pub same_entry : (count : ℕ) (p q : Pieces) (j : ℕ) (e : Entry) → ((j : ℕ) → j < count → q j ≡ p j) → HasEntry count p j e → HasEntry count q j e
same_entry count p q j e each has = record {
  within = has.within;
  spelled = subst (λ (l : List ℕ). IsEntry l e) (sym (each j has.within)) has.spelled;
}

pub piece_of : (block : ℕ) (node : Node) (j : ℕ) → IsPieceOf block node j
unfolding entry_name
piece_of block node j = record { inode = inode_bytes block node j; name = ap until_zero (after_inode block node j) }
