-- A file system stays whole where references come and go.
use Rattle.std.proofs.Common.{◌≡◌, ◌≢◌, ◌≤◌, ℕ, ◌+◌, ◌-◌, ◌==◌, ◌⊎◌, inl, inr, Bool, true, false, not, leb, if◌then◌else◌, Option, Some, None, IsSome, sym, refl, ap, subst, arith}
use Rattle.std.proofs.lemmas.Bool.{false≢true}
use Rattle.std.proofs.lemmas.Bool.Decides.{nat_tests}
use Rattle.std.specs.FinMap as map
use Rattle.sv_form.specs.Pair.{pair_cmp_total, pair_cmp-IsAntisymmetric}
use Rattle.sv_plain.specs.Totals.{at_or_0, one_if}
use Rattle.sv_plain.specs.Fs.{Fs, holders, places_taken, is_full_for}
use Rattle.sv_plain.specs.Whole.{IsWhole}
use Rattle.sv_plain.specs.Names.{references_of, has_reference}
use Rattle.sv_plain.specs.Change.{one_more, one_less, with_reference, without_reference}
use Rattle.sv_plain.proofs.Got.{got, left}
use Rattle.sv_plain.proofs.Holders.{References, holders-insert, holders-remove, holders-insert_apart, holders-remove_apart, places-fewer, places-more}

pub some_item : {A : Type 0} (o : Option A) → IsSome o → (x : A) × (o ≡ Some x)
some_item None e = absurd (false≢true e)
some_item (Some x) e = (x, refl)

-- the number of a node is at most the inode count
pub number_within : (fs : Fs) (i : ℕ) → IsWhole fs → IsSome (map.get fs.nodes i) → i ≤ fs.inodes
number_within fs i w there = let node = some_item (map.get fs.nodes i) there in (w.nodes i node.0 node.1).most

-- other references, to nodes that are there, in no more places than the table has
pub keeps-references : (fs : Fs) (m : References) → IsWhole fs
    → ((p i n : ℕ) → map.get m (p, i) ≡ Some n → (1 ≤ n) × IsSome (map.get fs.nodes i))
    → places_taken fs.inodes m fs.files ≤ fs.places
    → IsWhole (record fs { references = m })
keeps-references fs m w there places = record {
  sized = w.sized;
  nodes = w.nodes;
  links = w.links;
  blocks = w.blocks;
  directories = w.directories;
  named = w.named;
  root = w.root;
  placed = w.placed;
  ascends = w.ascends;
  references = there;
  files = w.files;
  pending = w.pending;
  places = places;
}

-- one reference more, to a node for which the table has a place
pub keeps-one_more : (fs : Fs) (p i : ℕ) → IsWhole fs → IsSome (map.get fs.nodes i) → i ≤ fs.inodes → is_full_for fs i ≡ false → IsWhole (with_reference fs p i)
keeps-one_more fs p i w there within place =
    keeps-references fs (one_more fs p i) w
    (λ q j n e. elim (got pair_cmp_total pair_cmp-IsAntisymmetric fs.references (p, i) (references_of fs p i + 1) (q, j) n e) [
      | inl h ↦ (omega (arith, h.1), subst (λ (k : ℕ). IsSome (map.get fs.nodes k)) (sym (ap (λ (r : ℕ × ℕ). r.1) h.0)) there)
      | inr h ↦ w.references q j n h
    ])
    (places-more fs.inodes fs.places i fs.references (one_more fs p i) fs.files fs.files within
    (λ j ne. holders-insert_apart fs.references fs.files p i (references_of fs p i + 1) j ne) place w.places)

-- what a process has at least one of
pub held : (o : Option ℕ) → not (at_or_0 (λ n. n) o == 0) ≡ true → (n : ℕ) × (o ≡ Some n)
held None e = cc
held (Some n) e = (n, refl)

less : (b : Bool) → (n : ℕ) → leb n 1 ≡ b → b ≡ false → 2 ≤ n
less b n e f = grind (arith, nat_tests)

-- the holders of inode i once a reference to it was given back
pub holders-one_less : (fs : Fs) (p i n : ℕ) → map.get fs.references (p, i) ≡ Some n
    → ((j : ℕ) → j ≢ i → holders (one_less fs p i) fs.files j ≡ holders fs.references fs.files j) × (holders (one_less fs p i) fs.files i ≤ holders fs.references fs.files i)
holders-one_less fs p i n there =
    elim (leb (references_of fs p i) 1) as (λ b.
    (let m : References = if b then map.remove fs.references (p, i) else map.insert fs.references (p, i) (references_of fs p i - 1) in
    ((j : ℕ) → j ≢ i → holders m fs.files j ≡ holders fs.references fs.files j) × (holders m fs.files i ≤ holders fs.references fs.files i))) [
      | true ↦ (λ j ne. holders-remove_apart fs.references fs.files p i j ne, omega (arith, holders-remove fs.references fs.files p i i))
      | false ↦ (
        λ j ne. holders-insert_apart fs.references fs.files p i (references_of fs p i - 1) j ne,
        (let before : at_or_0 (λ (_ : ℕ). one_if (i == i)) (map.get fs.references (p, i)) ≡ one_if (i == i) = ap (at_or_0 (λ (_ : ℕ). one_if (i == i))) there in
            omega (arith, holders-insert fs.references fs.files p i (references_of fs p i - 1) i, before)),
      )
    ]

-- the entries once a reference was given back
got-one_less : (fs : Fs) (p i n : ℕ) → map.get fs.references (p, i) ≡ Some n → (q j k : ℕ) → map.get (one_less fs p i) (q, j) ≡ Some k
    → ((j ≡ i) × (1 ≤ k)) ⊎ (map.get fs.references (q, j) ≡ Some k)
got-one_less fs p i n there q j k =
    elim (leb (references_of fs p i) 1) as (λ b. leb (references_of fs p i) 1 ≡ b
    → map.get (if b then map.remove fs.references (p, i) else map.insert fs.references (p, i) (references_of fs p i - 1)) (q, j) ≡ Some k
    → ((j ≡ i) × (1 ≤ k)) ⊎ (map.get fs.references (q, j) ≡ Some k)) [
      | true ↦ λ _ e. inr (left pair_cmp_total pair_cmp-IsAntisymmetric fs.references (p, i) (q, j) k e)
      | false ↦ λ many e. elim (got pair_cmp_total pair_cmp-IsAntisymmetric fs.references (p, i) (references_of fs p i - 1) (q, j) k e) [
        | inl h ↦ inl (ap (λ (r : ℕ × ℕ). r.1) h.0, (let two = less false (references_of fs p i) many refl in omega (arith, h.1, two)))
        | inr h ↦ inr h
      ]
    ] refl

-- one reference less
pub keeps-one_less : (fs : Fs) (p i : ℕ) → IsWhole fs → has_reference fs p i ≡ true → IsWhole (without_reference fs p i)
keeps-one_less fs p i w has =
    let one = held (map.get fs.references (p, i)) has in
    let known = (w.references p i one.0 one.1).1 in
    let fall = holders-one_less fs p i one.0 one.1 in
    keeps-references fs (one_less fs p i) w
    (λ q j n e. elim (got-one_less fs p i one.0 one.1 q j n e) [
      | inl h ↦ (h.1, subst (λ (k : ℕ). IsSome (map.get fs.nodes k)) (sym h.0) known)
      | inr h ↦ w.references q j n h
    ])
    (omega (arith, places-fewer fs.inodes i fs.references (one_less fs p i) fs.files fs.files (number_within fs i w known) fall.0 fall.1, w.places))
