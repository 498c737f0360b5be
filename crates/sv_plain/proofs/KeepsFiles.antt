-- A file system stays whole where files of the file table come, go and move.
use Rattle.std.proofs.Common.{◌≡◌, ◌≤◌, ℕ, ◌+◌, ◌-◌, ◌==◌, ◌⊎◌, inl, inr, Bool, true, false, not, ◌&&◌, leb, if◌then◌else◌, Option, Some, None, IsSome, is_some, sym, refl, ap, subst, ◌∙◌, arith}
use Rattle.std.proofs.lemmas.Bool.Decides.{nat_tests}
use Rattle.std.specs.Cmp.{nat_cmp_total}
use Rattle.std.specs.FinMap as map
use Rattle.std.specs.FinMap.{nat_cmp-IsAntisymmetric}
use Rattle.sv_form.specs.Node.{Node, is_dir}
use Rattle.sv_plain.specs.declared.fs.mode.Mode.{Mode}
use Rattle.sv_plain.specs.declared.fs.mode.Mode.TheVariants.{R, W, RW}
use Rattle.sv_plain.specs.declared.fs.opening.Opening.{Opening}
use Rattle.sv_plain.specs.Totals.{at_or_0, one_if}
use Rattle.sv_plain.specs.Fs.{Fs, holders, places_taken, is_referenced}
use Rattle.sv_plain.specs.Whole.{IsWhole, IsFileOf}
use Rattle.sv_plain.specs.Names.{some_and, is_directory}
use Rattle.sv_plain.specs.Change.{at_file, changed_file, unshared, without_share}
use Rattle.sv_plain.specs.Step.{writes}
use Rattle.sv_plain.proofs.Got.{got, left}
use Rattle.sv_plain.proofs.Totals.{total-insert, total-remove}
use Rattle.sv_plain.proofs.Holders.{References, Files, apart, places-same, places-fewer, places-more}
use Rattle.sv_plain.proofs.KeepsReferences.{number_within}

-- ---- holders

pub holders-insert_file : (references : References) (files : Files) (n : ℕ) (f : Opening) (j : ℕ)
    → holders references (map.insert files n f) j + at_or_0 (λ g. one_if (g.inode == j)) (map.get files n) ≡ holders references files j + one_if (f.inode == j)
unfolding holders
holders-insert_file references files n f j =
    let changed = total-insert nat_cmp_total nat_cmp-IsAntisymmetric (λ (_ : ℕ) (g : Opening). one_if (g.inode == j)) files n f in
    omega (arith, changed)

pub holders-remove_file : (references : References) (files : Files) (n j : ℕ)
    → holders references (map.remove files n) j + at_or_0 (λ g. one_if (g.inode == j)) (map.get files n) ≡ holders references files j
unfolding holders
holders-remove_file references files n j =
    let changed = total-remove nat_cmp_total nat_cmp-IsAntisymmetric (λ (_ : ℕ) (g : Opening). one_if (g.inode == j)) files n in
    omega (arith, changed)

-- ---- files

-- other files, of nodes that are there, in no more places than the table has
pub keeps-files : (fs : Fs) (m : Files) → IsWhole fs
    → ((n : ℕ) (f : Opening) → map.get m n ≡ Some f → IsFileOf fs.greatest fs.nodes f)
    → places_taken fs.inodes fs.references m ≤ fs.places
    → IsWhole (record fs { files = m })
keeps-files fs m w are places = record {
  sized = w.sized;
  nodes = w.nodes;
  links = w.links;
  blocks = w.blocks;
  directories = w.directories;
  named = w.named;
  root = w.root;
  placed = w.placed;
  ascends = w.ascends;
  references = w.references;
  files = are;
  pending = w.pending;
  places = places;
}

-- what a file may become: the same inode, for the same use
pub record IsSameFile (greatest : ℕ) (g f : Opening) : Type 0 where
  pub inode : f.inode ≡ g.inode
  pub mode : f.mode ≡ g.mode
  pub shared : 1 ≤ f.count
  pub offset : f.offset ≤ greatest

still_file : (fs : Fs) (g f : Opening) → IsSameFile fs.greatest g f → IsFileOf fs.greatest fs.nodes g → IsFileOf fs.greatest fs.nodes f
still_file fs g f s h = record {
  shared = s.shared;
  offset = s.offset;
  there = subst (λ (i : ℕ). IsSome (map.get fs.nodes i)) (sym s.inode) h.there;
  read_only = λ node e dir. s.mode ∙ h.read_only node (ap (map.get fs.nodes) (sym s.inode) ∙ e) dir;
}

pub keeps-same_file : (fs : Fs) (n : ℕ) (g f : Opening) → IsWhole fs → map.get fs.files n ≡ Some g → IsSameFile fs.greatest g f → IsWhole (record fs { files = map.insert fs.files n f })
keeps-same_file fs n g f w there s =
    let holders_same : (j : ℕ) → holders fs.references (map.insert fs.files n f) j ≡ holders fs.references fs.files j = λ j.
    (let before : at_or_0 (λ (h : Opening). one_if (h.inode == j)) (map.get fs.files n) ≡ one_if (g.inode == j) = ap (at_or_0 (λ (h : Opening). one_if (h.inode == j))) there in
    let same : one_if (f.inode == j) ≡ one_if (g.inode == j) = ap (λ i. one_if (i == j)) s.inode in
    omega (arith, holders-insert_file fs.references fs.files n f j, before, same)) in
    keeps-files fs (map.insert fs.files n f) w
    (λ k h e. elim (got nat_cmp_total nat_cmp-IsAntisymmetric fs.files n f k h e) [
      | inl is ↦ subst (λ (x : Opening). IsFileOf fs.greatest fs.nodes x) (sym is.1) (still_file fs g f s (w.files n g there))
      | inr was ↦ w.files k h was
    ])
    (omega (arith, places-same fs.inodes fs.references fs.references fs.files (map.insert fs.files n f) holders_same, w.places))

absent_or : {A : Type 0} (o : Option A) → (o ≡ None) ⊎ ((x : A) × (o ≡ Some x))
absent_or None = inl refl
absent_or (Some x) = inr (x, refl)

-- what f makes of file n
pub keeps-changed_file : (fs : Fs) (n : ℕ) (f : Opening → Opening) → IsWhole fs → ((g : Opening) → map.get fs.files n ≡ Some g → IsSameFile fs.greatest g (f g)) → IsWhole (record fs { files = changed_file fs n f })
keeps-changed_file fs n f w same =
    let P : Option Opening → Type 0 = λ o. IsWhole (record fs { files = at_file fs.files n f o }) in
    elim (absent_or (map.get fs.files n)) [
      | inl none ↦ subst P (sym none) w
      | inr g ↦ subst P (sym g.1) (keeps-same_file fs n g.0 (f g.0) w g.1 (same g.0 g.1))
    ]

-- ---- a file comes

one_reader : (m : Mode) → writes m ≡ false → m ≡ R
one_reader R e = refl
one_reader W e = cc
one_reader RW e = cc

reads_directory : (a b : Bool) → not (a && b) ≡ true → a ≡ true → b ≡ false
reads_directory true true e d = cc
reads_directory true false e d = refl
reads_directory false b e d = cc

missing : (b : Bool) → not b ≡ true → b ≡ false
missing true e = cc
missing false e = refl

no_item : {A : Type 0} (o : Option A) → is_some o ≡ false → o ≡ None
no_item None e = refl
no_item (Some x) e = cc

-- a file of an inode that is referred to already takes no place more
pub keeps-new_file : (fs : Fs) (n i : ℕ) (mode : Mode) → IsWhole fs → IsSome (map.get fs.nodes i) → is_referenced fs i ≡ true → not (is_directory fs i && writes mode) ≡ true → is_some (map.get fs.files n) ≡ false
    → IsWhole (record fs { files = map.insert fs.files n (record { inode = i; mode = mode; offset = 0; count = 1 }) })
keeps-new_file fs n i mode w there referred may unused =
    let f : Opening = record { inode = i; mode = mode; offset = 0; count = 1 } in
    let none : (j : ℕ) → at_or_0 (λ (g : Opening). one_if (g.inode == j)) (map.get fs.files n) ≡ 0 = λ j. ap (at_or_0 (λ (g : Opening). one_if (g.inode == j))) (no_item (map.get fs.files n) unused) in
    keeps-files fs (map.insert fs.files n f) w
    (λ k h e. elim (got nat_cmp_total nat_cmp-IsAntisymmetric fs.files n f k h e) [
      | inl is ↦ subst (λ (x : Opening). IsFileOf fs.greatest fs.nodes x) (sym is.1) (record {
        shared = omega arith;
        offset = omega arith;
        there = there;
        read_only = λ node e dir.
            one_reader mode (reads_directory (is_directory fs i) (writes mode) may (ap (λ o. some_and o (λ (x : Node). is_dir x.kind)) e ∙ ap is_dir dir));
      })
      | inr was ↦ w.files k h was
    ])
    (places-more fs.inodes fs.places i fs.references fs.references fs.files (map.insert fs.files n f) (number_within fs i w there)
    (λ j ne. omega (arith, holders-insert_file fs.references fs.files n f j, none j, apart i j ne))
    (ap (λ b. not b && (places_taken fs.inodes fs.references fs.files == fs.places)) referred)
    w.places)

-- ---- a share goes

shares : (n : ℕ) → leb n 1 ≡ false → 2 ≤ n
shares n e = grind (arith, nat_tests)

share : (fs : Fs) (n : ℕ) (g : Opening) → IsWhole fs → map.get fs.files n ≡ Some g → (b : Bool) → leb g.count 1 ≡ b
    → IsWhole (record fs { files = if b then map.remove fs.files n else map.insert fs.files n (record g { count = g.count - 1 }) })
share fs n g w there true last =
    let here = w.files n g there in
    keeps-files fs (map.remove fs.files n) w
    (λ k h e. w.files k h (left nat_cmp_total nat_cmp-IsAntisymmetric fs.files n k h e))
    (omega (
      arith,
      w.places,
      places-fewer fs.inodes g.inode fs.references fs.references fs.files (map.remove fs.files n) (number_within fs g.inode w here.there)
          (λ j ne.
          (let before : at_or_0 (λ (h : Opening). one_if (h.inode == j)) (map.get fs.files n) ≡ one_if (g.inode == j) = ap (at_or_0 (λ (h : Opening). one_if (h.inode == j))) there in
          omega (arith, holders-remove_file fs.references fs.files n j, before, apart g.inode j ne)))
          (omega (arith, holders-remove_file fs.references fs.files n g.inode)),
    ))
share fs n g w there false many =
    let here = w.files n g there in
    keeps-same_file fs n g (record g { count = g.count - 1 }) w there
    (record { inode = refl; mode = refl; shared = (let two = shares g.count many in omega (arith, two)); offset = here.offset })

pub keeps-one_share_less : (fs : Fs) (n : ℕ) → IsWhole fs → IsWhole (without_share fs n)
keeps-one_share_less fs n w =
    let P : Option Opening → Type 0 = λ o. IsWhole (record fs { files = unshared fs n o }) in
    elim (absent_or (map.get fs.files n)) [
      | inl none ↦ subst P (sym none) w
      | inr g ↦ subst P (sym g.1) (share fs n g.0 w g.1 (leb g.0.count 1) refl)
    ]
