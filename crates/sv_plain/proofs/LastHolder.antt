-- Whether an inode loses the last that refers to it.
use Rattle.std.proofs.Common.{◌≡◌, ◌≢◌, ◌≤◌, ◌<◌, ℕ, ◌+◌, ◌-◌, ◌==◌, ◌&&◌, Bool, true, false, cond, not, Some, None, Option, nat_le, is_some, sym, refl, ap, subst, ◌∙◌, arith}
use Rattle.std.proofs.lemmas.Bool.Decides.{nat_tests}
use Rattle.std.specs.Cmp.{nat_cmp_total}
use Rattle.std.specs.FinMap as map
use Rattle.std.specs.Ordering.{eq_by_cmp, nat_cmp}
use Rattle.sv_plain.specs.declared.fs.opening.Opening.{Opening}
use Rattle.sv_plain.specs.Totals.{at_or_0, one_if}
use Rattle.sv_plain.specs.Fs.{Fs, holders, is_referenced}
use Rattle.sv_plain.specs.Names.{references_of, has_reference, links_of}
use Rattle.sv_plain.specs.Change.{without_reference, without_share, unshared}
use Rattle.sv_plain.specs.Step.{closes_last}
use Rattle.sv_plain.proofs.Counts.{same_key}
use Rattle.sv_plain.proofs.Holders.{itself, holders-insert, holders-remove}
use Rattle.sv_plain.proofs.KeepsReferences.{held}
use Rattle.sv_plain.proofs.KeptHolders.{holders-file_gone}

goes : (h h' : ℕ) → h' + 1 ≡ h → nat_le h 1 ≡ not (not (h' == 0))
goes h h' e = grind (arith, nat_tests)

stays : (h h' : ℕ) → h' ≡ h → 1 ≤ h → false ≡ not (not (h' == 0))
stays h h' e k = grind (arith, nat_tests)

module _ (fs : Fs) (p i : ℕ) (has : has_reference fs p i ≡ true) where
  here : at_or_0 (λ (_ : ℕ). one_if (i == i)) (map.get fs.references (p, i)) ≡ 1
  here = let one = held (map.get fs.references (p, i)) has in ap (at_or_0 (λ _. one_if (i == i))) one.1 ∙ itself i

  -- the one reference goes
  pub last-one : references_of fs p i ≤ 1 → nat_le (holders fs.references fs.files i) 1 ≡ not (is_referenced (without_reference fs p i) i)
  last-one few =
      let test : nat_le (references_of fs p i) 1 ≡ true = grind (arith, nat_tests) in
      subst (λ (b : Bool). nat_le (holders fs.references fs.files i) 1 ≡ not (not (holders (cond b (map.remove fs.references (p, i)) (map.insert fs.references (p, i) (references_of fs p i - 1))) fs.files i == 0))) (sym test)
      (goes (holders fs.references fs.files i) (holders (map.remove fs.references (p, i)) fs.files i) (omega (arith, holders-remove fs.references fs.files p i i, here)))

  -- one of several goes
  pub last-of_more : 1 < references_of fs p i → false ≡ not (is_referenced (without_reference fs p i) i)
  last-of_more many =
      let test : nat_le (references_of fs p i) 1 ≡ false = grind (arith, nat_tests) in
      let less : ℕ = references_of fs p i - 1 in
      subst (λ (b : Bool). false ≡ not (not (holders (cond b (map.remove fs.references (p, i)) (map.insert fs.references (p, i) less)) fs.files i == 0))) (sym test)
      (stays (holders fs.references fs.files i) (holders (map.insert fs.references (p, i) less) fs.files i)
      (omega (arith, holders-insert fs.references fs.files p i less i, here, itself i))
      (omega (arith, holders-remove fs.references fs.files p i i, here)))

module _ (fs : Fs) (n : ℕ) (f : Opening) (there : map.get fs.files n ≡ Some f) where
  at_file : (b : Bool) → b ≡ not (map.contains_key (unshared fs n (Some f)) n) && ((links_of fs f.inode == 0) && not (not (holders fs.references (unshared fs n (Some f)) f.inode == 0))) → b ≡ closes_last fs n
  at_file b e = subst (λ (o : Option Opening). b ≡ not (map.contains_key (unshared fs n o) n) && ((links_of fs (at_or_0 (λ (f : Opening). f.inode) o) == 0) && not (not (holders fs.references (unshared fs n o) (at_or_0 (λ (f : Opening). f.inode) o) == 0)))) (sym there) e

  -- the last share of a file whose inode has no links
  pub closes-last : f.count ≤ 1 → links_of fs f.inode ≡ 0 → nat_le (holders fs.references fs.files f.inode) 1 ≡ closes_last fs n
  closes-last few none =
      let test : nat_le f.count 1 ≡ true = grind (arith, nat_tests) in
      let away : map.contains_key (map.remove fs.files n) n ≡ false = ap is_some (map.get-remove nat_cmp_total fs.files n n ∙ ap (λ b. cond b None (map.get fs.files n)) (same_key n)) in
      let mine : at_or_0 (λ (g : Opening). one_if (g.inode == f.inode)) (map.get fs.files n) ≡ 1 = ap (at_or_0 (λ (g : Opening). one_if (g.inode == f.inode))) there ∙ itself f.inode in
      let unlinked : (links_of fs f.inode == 0) ≡ true = grind (arith, nat_tests) in
      at_file _
      (subst (λ (b : Bool). nat_le (holders fs.references fs.files f.inode) 1 ≡ not (map.contains_key (cond b (map.remove fs.files n) (map.insert fs.files n (record f { count = f.count - 1 }))) n) && ((links_of fs f.inode == 0) && not (not (holders fs.references (cond b (map.remove fs.files n) (map.insert fs.files n (record f { count = f.count - 1 }))) f.inode == 0)))) (sym test)
      (goes (holders fs.references fs.files f.inode) (holders fs.references (map.remove fs.files n) f.inode) (omega (arith, holders-file_gone fs.references fs.files n f.inode, mine))
      ∙ sym (λ i. not (away i) && (unlinked i && not (not (holders fs.references (map.remove fs.files n) f.inode == 0))))))

  -- a share of several
  pub closes-shared : 1 < f.count → false ≡ closes_last fs n
  closes-shared many =
      let test : nat_le f.count 1 ≡ false = grind (arith, nat_tests) in
      let other : Opening = record f { count = f.count - 1 } in
      let still : map.contains_key (map.insert fs.files n other) n ≡ true = ap is_some (map.get-insert nat_cmp_total fs.files n other n ∙ ap (λ b. cond b (Some other) (map.get fs.files n)) (same_key n)) in
      at_file _
      (subst (λ (b : Bool). false ≡ not (map.contains_key (cond b (map.remove fs.files n) (map.insert fs.files n other)) n) && ((links_of fs f.inode == 0) && not (not (holders fs.references (cond b (map.remove fs.files n) (map.insert fs.files n other)) f.inode == 0)))) (sym test)
      (sym (λ i. not (still i) && ((links_of fs f.inode == 0) && not (not (holders fs.references (map.insert fs.files n other) f.inode == 0))))))
