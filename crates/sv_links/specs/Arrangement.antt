-- Lists over numbers: what a caller sees.
use Rattle.std.specs.Prelude.{◌≡◌, ◌+◌, ◌<◌, ◌≤◌, ◌==◌, ℕ, List, [], ◌∷◌, Bool, not, filter, slice_index_or, if◌then◌else◌}

-- The numbers below `numbers`, and the lists, each in order from its head to its tail.
pub record Arrangement : Type 0 where
  pub numbers : ℕ
  pub lists : List (List ℕ)

-- list l in order; nothing stands past the last list
abbrev pub list_at : Arrangement → ℕ → List ℕ
list_at a l = slice_index_or a.lists l []

-- 1 for a test that holds
abbrev pub one_if : Bool → ℕ
one_if b = if b then 1 else 0

-- how often x stands on a list
abbrev pub times : ℕ → List ℕ → ℕ
times x [] = 0
times x (y ∷ ys) = one_if (y == x) + times x ys

-- x stands on list l
abbrev pub IsOn : Arrangement → ℕ → ℕ → Type 0
IsOn a l x = 0 < times x (list_at a l)

-- x stands on some list
abbrev pub IsOnSome : Arrangement → ℕ → Type 0
IsOnSome a x = (l : ℕ) × IsOn a l x

-- x stands on no list
abbrev pub IsOnNone : Arrangement → ℕ → Type 0
IsOnNone a x = (l : ℕ) → times x (list_at a l) ≡ 0

-- Each number is on at most one list, and there once.
pub record IsArranged (a : Arrangement) : Type 0 where
  pub in_range : (l x : ℕ) → IsOn a l x → x < a.numbers
  pub once : (l x : ℕ) → times x (list_at a l) ≤ 1
  pub one_list : (l k x : ℕ) → IsOn a l x → IsOn a k x → l ≡ k

-- a list without x
abbrev pub without : ℕ → List ℕ → List ℕ
without x xs = filter (λ y. not (y == x)) xs

-- what stands after x on a list, in order
abbrev pub after : ℕ → List ℕ → List ℕ
after x [] = []
after x (y ∷ ys) = if y == x then ys else after x ys
