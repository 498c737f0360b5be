-- Two nodes change at once: what holds of all nodes then, and what their entries count.
use Rattle.std.proofs.Common.{◌≡◌, ◌≢◌, ◌≤◌, ℕ, suc, ◌+◌, ◌-◌, ◌==◌, inl, inr, Bool, true, false, ◌&&◌, nat_lt, if◌then◌else◌, Some, IsSome, sym, ap, subst, ◌∙◌, arith}
use Rattle.std.proofs.lemmas.Bool.{cases_eq}
use Rattle.std.proofs.lemmas.Bool.Decides.{nat_tests}
use Rattle.std.specs.List.{range_with_len, count_by}
use Rattle.std.specs.Cmp.{nat_cmp_total}
use Rattle.std.specs.FinMap as map
use Rattle.std.specs.FinMap.{nat_cmp-IsAntisymmetric}
use Rattle.sv_form.specs.Node.{Node, entry_inode, entry_count}
use Rattle.sv_plain.specs.Totals.{total, at_or_0, one_if}
use Rattle.sv_plain.specs.Fs.{is_live, naming_count, namings, children}
use Rattle.sv_plain.proofs.Got.{get_apart}
use Rattle.sv_plain.proofs.Counts.{count-cons}
use Rattle.sv_plain.proofs.Totals.{total-remove}
use Rattle.sv_plain.proofs.KeepsRemoval.{Nodes, total-at}
use Rattle.sv_plain.proofs.KeepsFile.{get_other, get_new, still_some}
use Rattle.sv_plain.proofs.KeepsDirectory.{some_node}

-- what holds of the new node at its number and of all other nodes holds of all nodes
pub each_apart : (nodes : Nodes) (d : ℕ) (new : Node) (P : ℕ → Node → Type 0) → P d new → ((k : ℕ) (x : Node) → k ≢ d → map.get nodes k ≡ Some x → P k x)
    → (k : ℕ) (x : Node) → map.get (map.insert nodes d new) k ≡ Some x → P k x
each_apart nodes d new P here there k x e =
    elim (cases_eq k d) [
      | inl is ↦
          (let it : x ≡ new = some_node x new (sym e ∙ ap (map.get (map.insert nodes d new)) is ∙ get_new nodes d new) in
          subst (λ (n : ℕ). P n x) (sym is) (subst (λ (y : Node). P d y) (sym it) here))
      | inr ne ↦ there k x ne (sym (get_other nodes d k new ne) ∙ e)
    ]

-- the same with two nodes
module _ (nodes : Nodes) (d i : ℕ) (new y : Node) (apart : d ≢ i) where
  abbrev both : Nodes
  both = map.insert (map.insert nodes d new) i y

  pub each_both : (P : ℕ → Node → Type 0) → P d new → P i y → ((k : ℕ) (x : Node) → k ≢ d → k ≢ i → map.get nodes k ≡ Some x → P k x) → (k : ℕ) (x : Node) → map.get both k ≡ Some x → P k x
  each_both P here it there k x e =
      each_apart (map.insert nodes d new) i y P it
      (λ l z ne f. each_apart nodes d new (λ m u. m ≢ i → P m u) (λ _. here) (λ m u ned g nei. there m u ned nei g) l z f ne)
      k x e

  pub at_first : map.get both d ≡ Some new
  at_first = get_other (map.insert nodes d new) i d y apart ∙ get_new nodes d new

  pub at_second : map.get both i ≡ Some y
  at_second = get_new (map.insert nodes d new) i y

  pub at_other : (k : ℕ) → k ≢ d → k ≢ i → map.get both k ≡ map.get nodes k
  at_other k ned nei = get_other (map.insert nodes d new) i k y nei ∙ get_other nodes d k new ned

  pub still_both : (k : ℕ) → IsSome (map.get nodes k) → IsSome (map.get both k)
  still_both k there = still_some (map.insert nodes d new) i k y (still_some nodes d k new there)

-- the entries of a directory that name an inode: the first, the second, and the others
pub naming-split : (block : ℕ) (x : Node) (k : ℕ) → 2 ≤ entry_count x → naming_count block x 0 k ≡ one_if (entry_inode block x 0 == k) + one_if (entry_inode block x 1 == k) + naming_count block x 2 k
unfolding naming_count
naming-split block x k least =
    let p : ℕ → Bool = λ j. entry_inode block x j == k in
    let n : ℕ = entry_count x - 2 in
    let size : entry_count x - 0 ≡ suc (suc n) = omega (arith, least) in
    let all : count_by p (range_with_len 0 (entry_count x - 0)) ≡ count_by p (range_with_len 0 (suc (suc n))) = ap (λ c. count_by p (range_with_len 0 c)) size in
    omega (arith, all, count-cons p 0 (range_with_len 1 (suc n)), count-cons p 1 (range_with_len 2 n))

-- a directory with links counts
counted : (x : Node) (f : Node → ℕ) → is_live x ≡ true → (if is_live x then f x else 0) ≡ f x
counted x f live = ap (λ b. if b then f x else 0) live

-- two entries of a sum are at most the whole sum
two_at : (f : ℕ → Node → ℕ) (nodes : Nodes) (j k : ℕ) (x y : Node) → j ≢ k → map.get nodes j ≡ Some x → map.get nodes k ≡ Some y → f j x + f k y ≤ total f nodes
two_at f nodes j k x y ne there it =
    let first = total-remove nat_cmp_total nat_cmp-IsAntisymmetric f nodes j in
    let here : at_or_0 (f j) (map.get nodes j) ≡ f j x = ap (at_or_0 (f j)) there in
    let rest = total-at nat_cmp_total nat_cmp-IsAntisymmetric f (map.remove nodes j) k y (get_apart nat_cmp_total nat_cmp-IsAntisymmetric nodes j k (λ s. ne (sym s)) ∙ it) in
    omega (arith, first, here, rest)

pub two-namings : (block : ℕ) (nodes : Nodes) (i j k : ℕ) (x y : Node) → j ≢ k → map.get nodes j ≡ Some x → is_live x ≡ true → map.get nodes k ≡ Some y → is_live y ≡ true
    → naming_count block x 0 i + naming_count block y 0 i ≤ namings block nodes i
unfolding namings
two-namings block nodes i j k x y ne there live it live_y =
    omega (arith, two_at (λ (_ : ℕ) (n : Node). if is_live n then naming_count block n 0 i else 0) nodes j k x y ne there it, counted x (λ n. naming_count block n 0 i) live, counted y (λ n. naming_count block n 0 i) live_y)

pub two-children : (block : ℕ) (nodes : Nodes) (i j k : ℕ) (x y : Node) → j ≢ k → map.get nodes j ≡ Some x → is_live x ≡ true → map.get nodes k ≡ Some y → is_live y ≡ true
    → naming_count block x 2 i + naming_count block y 2 i ≤ children block nodes i
unfolding children
two-children block nodes i j k x y ne there live it live_y =
    omega (arith, two_at (λ (_ : ℕ) (n : Node). if is_live n then naming_count block n 2 i else 0) nodes j k x y ne there it, counted x (λ n. naming_count block n 2 i) live, counted y (λ n. naming_count block n 2 i) live_y)

pub one-child : (block : ℕ) (nodes : Nodes) (i j : ℕ) (x : Node) → map.get nodes j ≡ Some x → is_live x ≡ true → naming_count block x 2 i ≤ children block nodes i
unfolding children
one-child block nodes i j x there live =
    omega (arith, total-at nat_cmp_total nat_cmp-IsAntisymmetric (λ (_ : ℕ) (n : Node). if is_live n then naming_count block n 2 i else 0) nodes j x there, counted x (λ n. naming_count block n 2 i) live)

pub live_links : (b : Bool) (n : ℕ) → b ≡ true → 1 ≤ n → (b && nat_lt 0 n) ≡ true
live_links true n e h = grind (arith, nat_tests)
live_links false n e h = cc

pub some_links : (b : Bool) (n : ℕ) → (b && nat_lt 0 n) ≡ true → 1 ≤ n
some_links true n e = grind (arith, nat_tests)
some_links false n e = cc
