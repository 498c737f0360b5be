-- What is kept beside the maps stays true as references and files change.
use Rattle.std.proofs.Common.{◌≡◌, ◌≢◌, ◌≤◌, ℕ, ◌+◌, ◌-◌, ◌==◌, Bool, true, false, cond, not, Option, Some, None, IsSome, option_map, sym, refl, ap, subst, ◌∙◌, arith}
use Rattle.std.proofs.lemmas.Bool.Decides.{nat_tests}
use Rattle.std.proofs.lemmas.Bool.{cases_eq}
use Rattle.std.proofs.Common.{inl, inr}
use Rattle.std.specs.Ordering.{nat_cmp, eq_by_cmp}
use Rattle.std.specs.Cmp.{nat_cmp_total}
use Rattle.std.specs.FinMap as map
use Rattle.std.specs.FinMap.{nat_cmp-IsAntisymmetric}
use Rattle.sv_form.specs.Pair.{pair_cmp, pair_cmp_total, pair_cmp-IsAntisymmetric}
use Rattle.sv_plain.specs.declared.fs.Fs.TheInside.{Inside}
use Rattle.sv_plain.specs.declared.fs.opening.Opening.{Opening}
use Rattle.sv_plain.specs.Totals.{at_or_0, one_if}
use Rattle.sv_plain.specs.HolderCounts.{held_of, held_more, held_less}
use Rattle.sv_plain.specs.Fs.{holders, places_taken}
use Rattle.sv_plain.specs.Keeping.{IsKept}
use Rattle.sv_plain.proofs.Counts.{same_key, differs, count_some}
use Rattle.sv_plain.proofs.Totals.{total-insert, total-remove}
use Rattle.sv_plain.proofs.Holders.{References, Files, itself, apart, zeros, holders-insert, holders-remove, holders-insert_apart, holders-remove_apart, places-changed, places-same}

-- the count at one inode was set, and those of the others stay
held-set : (a : Inside) (i n : ℕ) (references : References) (files : Files)
    → ((j : ℕ) → j ≢ i → holders references files j ≡ holders a.references a.files j)
    → holders references files i ≡ n
    → ((j : ℕ) → held_of a.holders j ≡ holders a.references a.files j)
    → (j : ℕ) → at_or_0 (λ m. m) (map.get (map.insert a.holders.held i n) j) ≡ holders references files j
held-set a i n references files others here before j =
    elim (cases_eq j i) [
      | inl e ↦
          ap (at_or_0 (λ m. m)) (map.get-insert nat_cmp_total a.holders.held i n j ∙ ap (λ b. cond b (Some n) (map.get a.holders.held j)) (ap (λ k. eq_by_cmp nat_cmp k i) e ∙ same_key i))
          ∙ sym here ∙ ap (holders references files) (sym e)
      | inr ne ↦
          ap (at_or_0 (λ m. m)) (map.get-insert nat_cmp_total a.holders.held i n j ∙ ap (λ b. cond b (Some n) (map.get a.holders.held j)) (differs j i ne))
          ∙ before j ∙ sym (others j ne)
    ]

more_taken : (h h' n taken places places' : ℕ) → h' ≡ h + 1 → n ≡ h → taken ≡ places → places' + one_if (not (h == 0)) ≡ places + one_if (not (h' == 0)) → taken + one_if (n == 0) ≡ places'
more_taken h h' n taken places places' a b c d = grind (arith, nat_tests)

less_taken : (h h' n taken places places' : ℕ) → h' + 1 ≡ h → n ≡ h → taken ≡ places → places' + one_if (not (h == 0)) ≡ places + one_if (not (h' == 0)) → taken - one_if (n == 1) ≡ places'
less_taken h h' n taken places places' a b c d = grind (arith, nat_tests)

taken_by : (n : ℕ) → 1 ≤ n → not (n == 0) ≡ true
taken_by n h = grind (arith, nat_tests)

-- one holder more of inode i
pub kept-more : (a : Inside) (i : ℕ) (references : References) (files : Files) → i ≤ a.inodes
    → ((j : ℕ) → j ≢ i → holders references files j ≡ holders a.references a.files j)
    → holders references files i ≡ holders a.references a.files i + 1
    → IsKept a → IsKept (record a { references = references; files = files; holders = held_more a.holders i })
kept-more a i references files within others here k =
    let was : held_of a.holders i ≡ holders a.references a.files i = k.held i in
    record {
      sized = k.sized;
      blocks = k.blocks;
      used = k.used;
      promised = k.promised;
      taken = more_taken (holders a.references a.files i) (holders references files i) (held_of a.holders i) a.holders.taken (places_taken a.inodes a.references a.files) (places_taken a.inodes references files)
          here was k.taken (places-changed a.inodes i a.references references a.files files within others);
      held = held-set a i (held_of a.holders i + 1) references files others (here ∙ ap (λ n. n + 1) (sym was)) k.held;
    }

-- one holder less of inode i
pub kept-less : (a : Inside) (i : ℕ) (references : References) (files : Files) → i ≤ a.inodes
    → ((j : ℕ) → j ≢ i → holders references files j ≡ holders a.references a.files j)
    → holders references files i + 1 ≡ holders a.references a.files i
    → IsKept a → IsKept (record a { references = references; files = files; holders = held_less a.holders i })
kept-less a i references files within others here k =
    let was : held_of a.holders i ≡ holders a.references a.files i = k.held i in
    let now : holders references files i ≡ held_of a.holders i - 1 = omega (arith, here, was) in
    record {
      sized = k.sized;
      blocks = k.blocks;
      used = k.used;
      promised = k.promised;
      taken = less_taken (holders a.references a.files i) (holders references files i) (held_of a.holders i) a.holders.taken (places_taken a.inodes a.references a.files) (places_taken a.inodes references files)
          here was k.taken (places-changed a.inodes i a.references references a.files files within others);
      held = held-set a i (held_of a.holders i - 1) references files others now k.held;
    }

-- each inode keeps its holders
pub kept-same : (a : Inside) (references : References) (files : Files)
    → ((j : ℕ) → holders references files j ≡ holders a.references a.files j)
    → IsKept a → IsKept (record a { references = references; files = files })
kept-same a references files same k = record {
  sized = k.sized;
  blocks = k.blocks;
  used = k.used;
  promised = k.promised;
  taken = k.taken ∙ sym (places-same a.inodes a.references references a.files files same);
  held = λ j. k.held j ∙ sym (same j);
}

-- an inode that something refers to takes a place
pub place-taken : (a : Inside) (i : ℕ) → i ≤ a.inodes → 1 ≤ holders a.references a.files i → IsKept a → (1 ≤ held_of a.holders i) × (1 ≤ a.holders.taken)
unfolding places_taken
place-taken a i within some k =
    (omega (arith, k.held i), omega (arith, k.taken, count_some (λ j. not (holders a.references a.files j == 0)) i 0 (a.inodes + 1) (omega arith) (omega arith) (taken_by (holders a.references a.files i) some)))

-- ---- references

module _ (a : Inside) (p i : ℕ) (within : i ≤ a.inodes) (k : IsKept a) where
  pub kept-reference-new : (n : ℕ) → map.get a.references (p, i) ≡ None
      → IsKept (record a { references = map.insert a.references (p, i) n; holders = held_more a.holders i })
  kept-reference-new n none =
      let none_there : at_or_0 (λ (_ : ℕ). one_if (i == i)) (map.get a.references (p, i)) ≡ 0 = ap (at_or_0 (λ _. one_if (i == i))) none in
      kept-more a i (map.insert a.references (p, i) n) a.files within
      (λ j ne. holders-insert_apart a.references a.files p i n j ne)
      (omega (arith, holders-insert a.references a.files p i n i, none_there, itself i)) k

  pub kept-reference-known : (n m : ℕ) → map.get a.references (p, i) ≡ Some m → IsKept (record a { references = map.insert a.references (p, i) n })
  kept-reference-known n m there =
      kept-same a (map.insert a.references (p, i) n) a.files
      (λ j.
      let here : at_or_0 (λ (_ : ℕ). one_if (i == j)) (map.get a.references (p, i)) ≡ one_if (i == j) = ap (at_or_0 (λ _. one_if (i == j))) there in
      omega (arith, holders-insert a.references a.files p i n j, here)) k

  pub kept-reference-gone : (m : ℕ) → map.get a.references (p, i) ≡ Some m → IsKept (record a { references = map.remove a.references (p, i); holders = held_less a.holders i })
  kept-reference-gone m there =
      let here : at_or_0 (λ (_ : ℕ). one_if (i == i)) (map.get a.references (p, i)) ≡ one_if (i == i) = ap (at_or_0 (λ _. one_if (i == i))) there in
      kept-less a i (map.remove a.references (p, i)) a.files within
      (λ j ne. holders-remove_apart a.references a.files p i j ne)
      (omega (arith, holders-remove a.references a.files p i i, here, itself i)) k

  pub reference-held : (m : ℕ) → map.get a.references (p, i) ≡ Some m → (1 ≤ held_of a.holders i) × (1 ≤ a.holders.taken)
  reference-held m there =
      let here : at_or_0 (λ (_ : ℕ). one_if (i == i)) (map.get a.references (p, i)) ≡ one_if (i == i) = ap (at_or_0 (λ _. one_if (i == i))) there in
      place-taken a i within (omega (arith, holders-remove a.references a.files p i i, here, itself i)) k

-- ---- files

holders-file : (references : References) (files : Files) (n : ℕ) (f : Opening) (j : ℕ)
    → holders references (map.insert files n f) j + at_or_0 (λ g. one_if (g.inode == j)) (map.get files n) ≡ holders references files j + one_if (f.inode == j)
unfolding holders
holders-file references files n f j =
    let changed = total-insert nat_cmp_total nat_cmp-IsAntisymmetric (λ (_ : ℕ) (g : Opening). one_if (g.inode == j)) files n f in
    omega (arith, changed)

pub holders-file_gone : (references : References) (files : Files) (n j : ℕ)
    → holders references (map.remove files n) j + at_or_0 (λ g. one_if (g.inode == j)) (map.get files n) ≡ holders references files j
unfolding holders
holders-file_gone references files n j =
    let changed = total-remove nat_cmp_total nat_cmp-IsAntisymmetric (λ (_ : ℕ) (g : Opening). one_if (g.inode == j)) files n in
    omega (arith, changed)

module _ (a : Inside) (n : ℕ) (k : IsKept a) where
  pub kept-file-new : (f : Opening) → f.inode ≤ a.inodes → map.get a.files n ≡ None
      → IsKept (record a { files = map.insert a.files n f; holders = held_more a.holders f.inode })
  kept-file-new f within none =
      let gone : (j : ℕ) → at_or_0 (λ (g : Opening). one_if (g.inode == j)) (map.get a.files n) ≡ 0 = λ j. ap (at_or_0 (λ g. one_if (g.inode == j))) none in
      kept-more a f.inode a.references (map.insert a.files n f) within
      (λ j ne. omega (arith, holders-file a.references a.files n f j, gone j, apart f.inode j ne))
      (omega (arith, holders-file a.references a.files n f f.inode, gone f.inode, itself f.inode)) k

  pub kept-file-known : (f g : Opening) → map.get a.files n ≡ Some g → g.inode ≡ f.inode → IsKept (record a { files = map.insert a.files n f })
  kept-file-known f g there same =
      kept-same a a.references (map.insert a.files n f)
      (λ j.
      let here : at_or_0 (λ (g : Opening). one_if (g.inode == j)) (map.get a.files n) ≡ one_if (f.inode == j) = ap (at_or_0 (λ g. one_if (g.inode == j))) there ∙ ap (λ i. one_if (i == j)) same in
      omega (arith, holders-file a.references a.files n f j, here)) k

  pub kept-file-gone : (g : Opening) → map.get a.files n ≡ Some g → g.inode ≤ a.inodes → IsKept (record a { files = map.remove a.files n; holders = held_less a.holders g.inode })
  kept-file-gone g there within =
      let here : (j : ℕ) → at_or_0 (λ (f : Opening). one_if (f.inode == j)) (map.get a.files n) ≡ one_if (g.inode == j) = λ j. ap (at_or_0 (λ f. one_if (f.inode == j))) there in
      kept-less a g.inode a.references (map.remove a.files n) within
      (λ j ne. omega (arith, holders-file_gone a.references a.files n j, here j, apart g.inode j ne))
      (omega (arith, holders-file_gone a.references a.files n g.inode, here g.inode, itself g.inode)) k

  pub file-held : (g : Opening) → map.get a.files n ≡ Some g → g.inode ≤ a.inodes → (1 ≤ held_of a.holders g.inode) × (1 ≤ a.holders.taken)
  file-held g there within =
      let here : at_or_0 (λ (f : Opening). one_if (f.inode == g.inode)) (map.get a.files n) ≡ one_if (g.inode == g.inode) = ap (at_or_0 (λ f. one_if (f.inode == g.inode))) there in
      place-taken a g.inode within (omega (arith, holders-file_gone a.references a.files n g.inode, here, itself g.inode)) k

  -- the same, of a file whose inode is known
  pub file-held_by : (i : ℕ) (g : Opening) → map.get a.files n ≡ Some g → g.inode ≡ i → i ≤ a.inodes → (1 ≤ held_of a.holders i) × (1 ≤ a.holders.taken)
  file-held_by i g there same within = subst (λ (j : ℕ). (1 ≤ held_of a.holders j) × (1 ≤ a.holders.taken)) same (file-held g there (subst (λ (j : ℕ). j ≤ a.inodes) (sym same) within))

  pub kept-file-gone_of : (i : ℕ) (g : Opening) → map.get a.files n ≡ Some g → g.inode ≡ i → i ≤ a.inodes → IsKept (record a { files = map.remove a.files n; holders = held_less a.holders i })
  kept-file-gone_of i g there same within =
      subst (λ (j : ℕ). IsKept (record a { files = map.remove a.files n; holders = held_less a.holders j })) same (kept-file-gone g there (subst (λ (j : ℕ). j ≤ a.inodes) (sym same) within))

pub file-there : (o : Option Opening) (i : ℕ) → option_map (λ f. f.inode) o ≡ Some i → (g : Opening) × (o ≡ Some g) × (g.inode ≡ i)
file-there None i e = absurd (cc)
file-there (Some g) i e = (g, refl, cc)
