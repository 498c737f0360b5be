-- How the name of an entry is compared, byte by byte.
use Rattle.std.proofs.Common.{◌≡◌, ◌≢◌, ◌≤◌, ◌<◌, ℕ, suc, ◌+◌, ◌-◌, ◌*◌, ◌==◌, Bool, true, false, cond, List, [], ◌∷◌, length, get_or, drop, length-drop, nat_eq, ◌&&◌, if◌then◌else◌, sym, refl, ap, ◌∙◌, arith}
use Rattle.std.proofs.lemmas.Bool.{eq-eqb}
use Rattle.std.proofs.lemmas.Bool.Decides.{nat_tests}
use Rattle.std.proofs.Math.Seq.{drop-cons}
use Rattle.sv_form.specs.Node.{Node, byte_of, bytes_of, until_zero, entry_name}
use Rattle.sv_plain.specs.Names.{same_bytes}

-- these bytes, up to the first zero, are what is left of the name
abbrev pub rest_is : ℕ → Node → ℕ → ℕ → List ℕ → Bool
rest_is block node at count name = same_bytes (until_zero (bytes_of block node at count)) name

-- the whole name is the fourteen bytes of the entry
pub rest-begins : (block : ℕ) (node : Node) (j : ℕ) (name : List ℕ) → same_bytes (entry_name block node j) name ≡ rest_is block node (16 * j + 2) 14 name
unfolding entry_name
rest-begins block node j name = refl

ends : (b : ℕ) (bs : List ℕ) → same_bytes (if b == 0 then [] else b ∷ bs) [] ≡ (b == 0)
ends b bs = elim (b == 0) as (λ t. same_bytes (if t then [] else b ∷ bs) [] ≡ t) [ true ↦ refl | false ↦ refl ]

differs : (b x : ℕ) (bs xs : List ℕ) (t : Bool) → nat_eq b x ≡ false → same_bytes (if t then [] else b ∷ bs) (x ∷ xs) ≡ false
differs b x bs xs true e = refl
differs b x bs xs false e = ap (λ t. t && same_bytes bs xs) e

not_same : (b x : ℕ) → b ≢ x → nat_eq b x ≡ false
not_same b x ne = grind (arith, nat_tests)

module _ (block : ℕ) (node : Node) (at c : ℕ) where
  -- no byte of the name is left
  pub rest-ends : rest_is block node at (suc c) [] ≡ (byte_of block node at == 0)
  unfolding bytes_of
  rest-ends = ends (byte_of block node at) (until_zero (bytes_of block node (at + 1) c))

  module _ (x : ℕ) (xs : List ℕ) where
    -- the entry's name is at its end
    pub rest-zero : byte_of block node at ≡ 0 → rest_is block node at (suc c) (x ∷ xs) ≡ false
    unfolding bytes_of
    rest-zero e = ap (λ t. same_bytes (if t then [] else byte_of block node at ∷ until_zero (bytes_of block node (at + 1) c)) (x ∷ xs)) (eq-eqb _ 0 e)

    -- the next bytes differ
    pub rest-differs : byte_of block node at ≢ x → rest_is block node at (suc c) (x ∷ xs) ≡ false
    unfolding bytes_of
    rest-differs ne = differs (byte_of block node at) x (until_zero (bytes_of block node (at + 1) c)) xs (byte_of block node at == 0) (not_same _ _ ne)

    -- the next bytes are one
    pub rest-same : byte_of block node at ≡ x → byte_of block node at ≢ 0 → rest_is block node at (suc c) (x ∷ xs) ≡ rest_is block node (at + 1) c xs
    unfolding bytes_of
    rest-same e some =
        ap (λ t. same_bytes (if t then [] else byte_of block node at ∷ until_zero (bytes_of block node (at + 1) c)) (x ∷ xs)) (not_same _ _ some)
        ∙ ap (λ t. t && same_bytes (until_zero (bytes_of block node (at + 1) c)) xs) (eq-eqb _ _ e)

nothing_left : (xs : List ℕ) → same_bytes [] xs ≡ (length xs == 0)
nothing_left [] = refl
nothing_left (x ∷ xs) = (let some : length (x ∷ xs) ≢ 0 = omega arith in sym (not_same (length (x ∷ xs)) 0 some))

empty : (xs : List ℕ) → length xs ≡ 0 → xs ≡ []
empty [] e = refl
empty (x ∷ xs) e = absurd (omega arith)

over : (m n : ℕ) → m + 14 ≡ n → (m == 0) ≡ (n == 14)
over m n e = grind (arith, nat_tests)

-- ---- the loop over the places of the name

module _ (block : ℕ) (node : Node) (first : ℕ) (name : List ℕ) (k : ℕ) where
  one_byte : k < 14 → 14 - k ≡ suc (13 - k)
  one_byte h = omega (arith, h)

  next : k < length name → drop k name ≡ get_or name k 0 ∷ drop (k + 1) name
  next h = (let more : suc k ≡ k + 1 = omega arith in drop-cons name k 0 h ∙ ap (λ n. get_or name k 0 ∷ drop n name) more)

  pub name-ends : k < 14 → k ≡ length name → rest_is block node (first + k) (14 - k) (drop k name) ≡ (byte_of block node (first + k) == 0)
  name-ends h e =
      let none : drop k name ≡ [] = empty (drop k name) (omega (arith, length-drop k name, e)) in
      (λ i. rest_is block node (first + k) (one_byte h i) (none i)) ∙ rest-ends block node (first + k) (13 - k)

  pub name-zero : k < 14 → k < length name → byte_of block node (first + k) ≡ 0 → rest_is block node (first + k) (14 - k) (drop k name) ≡ false
  name-zero h l e = (λ i. rest_is block node (first + k) (one_byte h i) (next l i)) ∙ rest-zero block node (first + k) (13 - k) (get_or name k 0) (drop (k + 1) name) e

  pub name-differs : k < 14 → k < length name → byte_of block node (first + k) ≢ get_or name k 0 → rest_is block node (first + k) (14 - k) (drop k name) ≡ false
  name-differs h l ne = (λ i. rest_is block node (first + k) (one_byte h i) (next l i)) ∙ rest-differs block node (first + k) (13 - k) (get_or name k 0) (drop (k + 1) name) ne

  pub name-same : k < 14 → k < length name → byte_of block node (first + k) ≡ get_or name k 0 → byte_of block node (first + k) ≢ 0
      → rest_is block node (first + k) (14 - k) (drop k name) ≡ rest_is block node (first + (k + 1)) (14 - (k + 1)) (drop (k + 1) name)
  name-same h l e some =
      let place : first + k + 1 ≡ first + (k + 1) = omega arith in
      let left : 13 - k ≡ 14 - (k + 1) = omega (arith, h) in
      (λ i. rest_is block node (first + k) (one_byte h i) (next l i))
      ∙ rest-same block node (first + k) (13 - k) (get_or name k 0) (drop (k + 1) name) e some
      ∙ (λ i. rest_is block node (place i) (left i) (drop (k + 1) name))

  pub name-over : k ≡ 14 → k ≤ length name → rest_is block node (first + k) (14 - k) (drop k name) ≡ (length name == 14)
  unfolding bytes_of
  name-over e l =
      let none : 14 - k ≡ 0 = omega (arith, e) in
      ap (λ n. rest_is block node (first + k) n (drop k name)) none ∙ nothing_left (drop k name) ∙ over (length (drop k name)) (length name) (omega (arith, length-drop k name, e, l))
