-- The lists of a made image are those that freeing its blocks from the last one down gives.
use Rattle.std.proofs.Common.{◌≡◌, ◌≢◌, ◌≤◌, ◌<◌, ◌+◌, ◌-◌, ◌%◌, ◌==◌, ◌++◌, ◌⊎◌, ℕ, zero, suc, Bool, true, false, cond, List, [], ◌∷◌, inl, inr, length, nat_lt, arith, ap, refl, sym, subst, ◌∙◌}
use Rattle.std.proofs.lemmas.Bool.{cases_eq, eq-eqb, ne_eqb}
use Rattle.std.proofs.lemmas.Bool.Decides.{nat_tests}
use Rattle.sv_check.specs.Freeing.{Freed, IsFreedDown, freed_down, with_freed}
use Rattle.sv_check.specs.Mkfs.{CanBeMade, down_to, first_data_for, free_list, link_to, list_in}

length-down : (least n : ℕ) → length (down_to least n) ≡ n
length-down least zero = refl
length-down least (suc n) = ap suc (length-down least n)

down-snoc : (b n : ℕ) → down_to (b + 1) n ++ b ∷ [] ≡ down_to b (suc n)
down-snoc b zero = let at : b ≡ b + 0 = omega arith in ap (λ (x : ℕ). x ∷ []) at
down-snoc b (suc n) =
    let at : b + 1 + n ≡ b + suc n = omega arith in
    ap (λ (x : ℕ). x ∷ (down_to (b + 1) n ++ b ∷ [])) at ∙ ap (λ (l : List ℕ). (b + suc n) ∷ l) (down-snoc b n)

-- a list by its link, its lowest block and how many it has
listed : (blocks from upto upto' n : ℕ) → upto ≡ upto' → upto - from ≡ n → free_list blocks from upto ≡ link_to blocks upto' ∷ down_to from n
listed blocks from upto upto' n e f = ap (λ (x : ℕ). link_to blocks x ∷ down_to from (upto - from)) e ∙ ap (λ (x : ℕ). link_to blocks upto' ∷ down_to from x) f

-- what stands once k blocks were freed
record IsAfter (blocks k : ℕ) (f : Freed) : Type 0 where
  pub list : f.list ≡ free_list blocks (blocks - k) (blocks - k + k % 50)
  pub links : (b : ℕ) → blocks ≤ b + k → b < blocks → (blocks - b) % 50 ≡ 0 → f.linked b ≡ list_in blocks b

module _ (blocks k : ℕ) (room : suc k ≤ blocks) (f : Freed) (was : IsAfter blocks k f) where
  abbrev b : ℕ
  b = blocks - suc k

  abbrev m : ℕ
  m = k % 50

  next : blocks - k ≡ b + 1
  next = omega (arith, room)

  list_is : f.list ≡ link_to blocks (b + 1 + m) ∷ down_to (b + 1) m
  list_is =
      was.list ∙ ap (λ (x : ℕ). free_list blocks x (x + m)) next
      ∙ (let few : b + 1 + m - (b + 1) ≡ m = omega arith in listed blocks (b + 1) (b + 1 + m) (b + 1 + m) m refl few)

  count : length f.list ≡ suc m
  count = ap (λ (l : List ℕ). length l) list_is ∙ ap suc (length-down (b + 1) m)

  later : (c : ℕ) → blocks ≤ c + suc k → c ≢ b → blocks ≤ c + k
  later c low other = omega (arith, low, other, room)

  by_room : (t : Bool) → nat_lt (length f.list) 50 ≡ t
      → IsAfter blocks (suc k) (cond t (record f { list = f.list ++ b ∷ [] }) (record { list = b ∷ []; linked = λ c. cond (c == b) f.list (f.linked c) }))
  by_room true e =
      let low : m < 49 = (let less : length f.list < 50 = grind (nat_tests, arith) in omega (arith, less, count)) in
      let rest : suc k % 50 ≡ m + 1 = omega (arith, low) in
      let upto : b + suc k % 50 ≡ b + 1 + m = omega (arith, rest) in
      let many : b + suc k % 50 - b ≡ suc m = omega (arith, rest) in
      record {
        list = ap (λ (l : List ℕ). l ++ b ∷ []) list_is ∙ ap (λ (l : List ℕ). link_to blocks (b + 1 + m) ∷ l) (down-snoc b m)
            ∙ sym (listed blocks b (b + suc k % 50) (b + 1 + m) (suc m) upto many);
        links = λ c low below whole. was.links c (later c low (λ same. (let gone : (blocks - c) % 50 ≡ suc k % 50 = ap (λ (x : ℕ). x % 50) (omega (arith, same, room)) in absurd (omega (arith, gone, whole, rest))))) below whole;
      }
  by_room false e =
      let full : m ≡ 49 = (let more : 50 ≤ length f.list = grind (nat_tests, arith) in omega (arith, more, count)) in
      let rest : suc k % 50 ≡ 0 = omega (arith, full) in
      let upto : b + suc k % 50 ≡ b = omega (arith, rest) in
      let many : b + suc k % 50 - b ≡ 0 = omega (arith, rest) in
      let other : b ≢ blocks = omega (arith, room) in
      let link : link_to blocks b ≡ b = ap (λ (t : Bool). cond t 0 b) (ne_eqb b blocks other) in
      let last : f.list ≡ list_in blocks b =
      list_is ∙ sym (listed blocks (b + 1) (b + 50) (b + 1 + m) m (omega (arith, full)) (omega (arith, full))) in
      record {
        list = ap (λ (x : ℕ). x ∷ []) (sym link) ∙ sym (listed blocks b (b + suc k % 50) b 0 upto many);
        links = λ c low below whole.
            elim (cases_eq c b) as (λ _. cond (c == b) f.list (f.linked c) ≡ list_in blocks c) [
              | inl same ↦ ap (λ (t : Bool). cond t f.list (f.linked c)) (eq-eqb c b same) ∙ last ∙ ap (list_in blocks) (sym same)
              | inr ne ↦ ap (λ (t : Bool). cond t f.list (f.linked c)) (ne_eqb c b ne) ∙ was.links c (later c low ne) below whole
            ];
      }

after-down : (blocks k : ℕ) → k ≤ blocks → IsAfter blocks k (freed_down blocks k)
after-down blocks zero room =
    let upto : blocks - 0 + 0 % 50 ≡ blocks = omega arith in
    let none : blocks - 0 + 0 % 50 - (blocks - 0) ≡ 0 = omega arith in
    let link : link_to blocks blocks ≡ 0 = ap (λ (t : Bool). cond t 0 blocks) (eq-eqb blocks blocks refl) in
    record {
      list = ap (λ (x : ℕ). x ∷ []) (sym link) ∙ sym (listed blocks (blocks - 0) (blocks - 0 + 0 % 50) blocks 0 upto none);
      links = λ b low below whole. absurd (omega (arith, low, below));
    }
after-down blocks (suc k) room =
    by_room blocks k room (freed_down blocks k) (after-down blocks k (omega (arith, room))) (nat_lt (length (freed_down blocks k).list) 50) refl

pub freed-down : (blocks inodes : ℕ) → CanBeMade blocks inodes → IsFreedDown blocks inodes
freed-down blocks inodes can =
    let first : ℕ = first_data_for inodes in
    let k : ℕ = blocks - (first_data_for inodes + 1) in
    let some = can.some_data in
    let is = after-down blocks (blocks - (first_data_for inodes + 1)) (omega arith) in
    let from : blocks - (blocks - (first_data_for inodes + 1)) ≡ first_data_for inodes + 1 = omega (arith, some) in
    record {
      cache = sym (is.list ∙ ap (λ (x : ℕ). free_list blocks x (x + (blocks - (first_data_for inodes + 1)) % 50)) from);
      links = λ b low below whole. sym (is.links b (omega (arith, low, some)) below whole);
    }
