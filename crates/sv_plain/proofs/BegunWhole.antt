-- A whole file system is whole once processes began.
use Rattle.std.proofs.Common.{◌≡◌, ◌≢◌, ◌≤◌, ℕ, zero, suc, ◌+◌, ◌==◌, inl, inr, Bool, true, false, not, Some, None, IsSome, sym, refl, ap, subst, ◌∙◌, arith}
use Rattle.std.specs.FinMap as map
use Rattle.std.specs.Ordering.{nat_cmp}
use Rattle.sv_form.specs.Pair.{pair_cmp, pair_cmp_total, pair_cmp-IsAntisymmetric}
use Rattle.sv_plain.specs.Totals.{one_if}
use Rattle.sv_plain.specs.Fs.{Fs, first_references, begun, holders, places_taken}
use Rattle.sv_plain.specs.Whole.{IsWhole}
use Rattle.sv_plain.proofs.Got.{got}
use Rattle.sv_plain.proofs.Holders.{holders-insert_apart, places-changed}
use Rattle.sv_plain.proofs.Beginnings.{no_holders, no_places_taken}

to_root : (k p i n : ℕ) → map.get (first_references k) (p, i) ≡ Some n → (i ≡ 2) × (n ≡ 2)
to_root zero p i n e = (let none : None ≡ Some n = sym (map.get-empty pair_cmp (p, i)) ∙ e in cc)
to_root (suc k) p i n e =
    elim (got pair_cmp_total pair_cmp-IsAntisymmetric (first_references k) (suc k, 2) 2 (p, i) n e) [
      | inl h ↦ (ap (λ (q : ℕ × ℕ). q.1) h.0, h.1)
      | inr h ↦ to_root k p i n h
    ]

none_else : (k j : ℕ) → j ≢ 2 → holders (first_references k) map.empty j ≡ holders map.empty map.empty j
none_else zero j ne = refl
none_else (suc k) j ne = holders-insert_apart (first_references k) map.empty (suc k) 2 2 j ne ∙ none_else k j ne

at_most_one : (b : Bool) → one_if b ≤ 1
at_most_one true = omega arith
at_most_one false = omega arith

-- only the root is referred to, and takes one place
one_place : (inodes k : ℕ) → 2 ≤ inodes → places_taken inodes (first_references k) map.empty ≤ 1
one_place inodes k within =
    let changed = places-changed inodes 2 map.empty (first_references k) map.empty map.empty within (none_else k) in
    let most = at_most_one (not (holders (first_references k) map.empty 2 == 0)) in
    omega (arith, changed, most, no_places_taken inodes)

pub begun-whole : (fs : Fs) (k table : ℕ) → IsWhole fs → fs.references ≡ map.empty → fs.files ≡ map.empty → fs.promises ≡ map.empty → fs.pending ≡ map.empty → 1 ≤ table
    → IsWhole (record fs { references = first_references k; places = table })
begun-whole fs k table whole references files promises pending some =
    let w = subst IsWhole (λ i. record fs { references = references i; files = files i; promises = promises i; pending = pending i }) whole in
    let root = w.root.there in
    let within = (w.nodes 2 root.0 root.1).most in
    let begins : IsWhole (begun fs k table) = record {
      sized = w.sized;
      nodes = w.nodes;
      links = w.links;
      blocks = w.blocks;
      directories = w.directories;
      named = w.named;
      root = w.root;
      placed = w.placed;
      ascends = w.ascends;
      references = λ p i n e. (let is = to_root k p i n e in
          (subst (λ (m : ℕ). 1 ≤ m) (sym is.1) (omega arith), subst (λ (j : ℕ). IsSome (map.get fs.nodes j)) (sym is.0) (subst IsSome (sym root.1) refl)));
      files = w.files;
      pending = w.pending;
      places = (let one = one_place fs.inodes k within in omega (arith, one, some));
    } in
    subst IsWhole (sym (λ i. record fs { references = first_references k; places = table; files = files i; promises = promises i; pending = pending i })) begins
