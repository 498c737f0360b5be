-- Files that writes are tried on.
use Rattle.std.proofs.Common.{◌≡◌, ◌≤◌, ◌<◌, ◌+◌, ◌*◌, ◌/◌, ℕ, Bool, true, false, List, length, IsSome, nat_lt, refl, sym}
use Rattle.std.proofs.Common.{ap, ◌∙◌, subst, arith}
use Rattle.std.specs.FinMap as fmap
use Rattle.std.specs.List.{range_with_len}
use Rattle.std.proofs.lemmas.Bool.Decides.{nat_tests}
use Rattle.std.proofs.lemmas.List.FromFn.{length-range_with_len}
use Rattle.std.proofs.lemmas.List.Sums.{count_by-le-length, sum_by-le}
use Rattle.sv_form.specs.Geometry.{IsNumber, inode_place}
use Rattle.sv_form.specs.Node.{Node}
use Rattle.sv_form.specs.NodeChanges.{touched}
use Rattle.sv_form.specs.PagePath.{block_numbers, greatest_size}
use Rattle.sv_form.specs.declared.geometry.Geometry.{Geometry}
use Rattle.sv_form.specs.declared.inode.InodeBody.{InodeBody}
use Rattle.sv_form.specs.declared.page_path.PagePath.{PagePath}
use Rattle.sv_form.specs.declared.page_path.PagePath.TheVariants.{Direct, Single, Double, Triple}
use Rattle.sv_store.specs.Held.{Held, Lent, Origin}
use Rattle.sv_bmap.specs.Need.{counts_at, need_at, need_of, way}
use Rattle.sv_bmap.specs.Tree.{path}
use Rattle.sv_bmap.proofs.Empty.{thirteen}
use Rattle.sv_super.specs.Sample.{IsSource, sample_sizes}
use Rattle.sv_inode.specs.Ready.{IsReady}
use Rattle.sv_inode.specs.StandsFor.{StandsFor}
use Rattle.sv_inode.specs.Truncate.{HoldsInode}
use Rattle.sv_inode.specs.Write.{write_need}
use Rattle.sv_inode.proofs.Emptied.{empty-stands}
use Rattle.sv_inode.proofs.PagesPut.{touched-length}

-- no page of a range is counted with more than four blocks
four-each : (g : Geometry) (h : Held) (a : List ℕ) (first page : ℕ) → need_at g h a first page ≤ 4
unfolding need_at
four-each g h a first page =
    omega (arith, count_by-le-length (counts_at first page) (way g h a (path (block_numbers g) page)), short (path (block_numbers g) page))
  where
    short : (p : PagePath) → length (way g h a p) ≤ 4
    short (Direct i) = omega arith
    short (Single i) = omega arith
    short (Double i j) = omega arith
    short (Triple i j k) = omega arith

need-most : (g : Geometry) (h : Held) (a : List ℕ) (first count : ℕ) → need_of g h a first count ≤ count * 4
unfolding need_of
need-most g h a first count =
    omega (
      arith,
      sum_by-le (need_at g h a first) 4 (range_with_len first count)
          (λ i d low. four-each g h a first _),
      length-range_with_len first count,
    )

-- twelve pages need at most 48 blocks
pub twelve-pages : (g : Geometry) (h : Held) (a : List ℕ) (count : ℕ) → g ≡ sample_sizes → count ≤ 12288 → write_need g h a 0 count ≤ 48
twelve-pages g h a count e low =
    omega (
      arith,
      need-most g h a (0 / g.block_size) (length (touched g.block_size 0 count)),
      ap
          (λ q. length (touched q.block_size 0 count)) e,
      few (nat_lt 0 count) refl,
    )
  where
    some : (n : ℕ) → nat_lt 0 n ≡ true → 0 < n
    some n q = grind (nat_tests, arith)

    none : (n : ℕ) → nat_lt 0 n ≡ false → n ≡ 0
    none n q = grind (nat_tests, arith)

    few : (t : Bool) → nat_lt 0 count ≡ t → length (touched 1024 0 count) ≤ 12
    few true q = omega (arith, touched-length 1024 0 count (some count q), low)
    few false q = (let nothing : length (touched 1024 0 count) ≡ 0 = ap (λ z. length (touched 1024 0 z)) (none count q) in omega
        (arith, nothing))

-- bytes anywhere in twelve pages need no more
pub twelve-pages-from : (g : Geometry) (h : Held) (a : List ℕ) (from count : ℕ) → g ≡ sample_sizes → from + count ≤ 12288
    → write_need g h a from count ≤ 48
twelve-pages-from g h a from count e low =
    omega (
      arith,
      need-most g h a (from / g.block_size) (length (touched g.block_size from count)),
      ap
          (λ q. length (touched q.block_size from count)) e,
      few (nat_lt 0 count) refl,
    )
  where
    some : (n : ℕ) → nat_lt 0 n ≡ true → 0 < n
    some n q = grind (nat_tests, arith)

    none : (n : ℕ) → nat_lt 0 n ≡ false → n ≡ 0
    none n q = grind (nat_tests, arith)

    few : (t : Bool) → nat_lt 0 count ≡ t → length (touched 1024 from count) ≤ 12
    few true q = omega (arith, touched-length 1024 from count (some count q), low)
    few false q = (let nothing : length (touched 1024 from count) ≡ 0 = ap (λ z. length (touched 1024 from z)) (none count q) in omega
        (arith, nothing))

-- the size of a file of twelve pages is one that a file can have
pub twelve-fit : {g : Geometry} {size : ℕ} → g ≡ sample_sizes → size ≤ 12288 → size ≤ greatest_size g
twelve-fit {g} {size} e low = let P : Geometry → Type 0 = λ q. size ≤ greatest_size q in subst P (sym e) (omega (arith, low))

-- an entry needs at most eight blocks, wherever it stands
pub entry-few : (g : Geometry) (h : Held) (a : List ℕ) (place : ℕ) → g ≡ sample_sizes → write_need g h a (16 * place) 16 ≤ 48
entry-few g h a place e =
    omega (
      arith,
      need-most g h a (16 * place / g.block_size) (length (touched g.block_size (16 * place) 16)),
      ap (λ q. length (touched q.block_size (16 * place) 16)) e,
      touched-length 1024 (16 * place) 16 (omega arith),
    )

-- a file without bytes, beside a core
pub ready-after : {p o : Origin} {k h : Held} {m : Lent} {n number : ℕ} {body : InodeBody} → IsSource p k o h m n → IsSome (h 2 2)
    → number ≡ 3 → body.size ≡ 0 → body.addresses ≡ thirteen → IsReady o h m number body p k
ready-after {p} {o} {k} {h} {m} {n} {number} {body} source line e size addresses = record {
  node = node;
  stands = (let P : InodeBody → Type 0 = λ q. StandsFor o h q node in
      let same : record body { size = 0; addresses = thirteen } ≡ body =
      sym (ap (λ q. record body { size = q; addresses = body.addresses }) size
      ∙ ap (λ q. record body { size = 0; addresses = q }) addresses) in
      subst P same (empty-stands o h (record body { size = 0; addresses = thirteen }) node
      (record { kind = refl; mode = refl; links = refl; size = refl })));
  inode = (let P : ℕ → Type 0 = HoldsInode o h in subst P (sym e) (record { number = (at o.sizes sizes).0; line = (at o.sizes sizes).1 }));
  lent = source.lent;
  apart = source.apart;
  home = sym source.home;
  sizes = sizes;
}
  where
    node : Node
    node = record { kind = body.kind; mode = body.mode; links = body.links; size = 0; pages = fmap.empty }

    sizes : o.sizes ≡ sample_sizes
    sizes = ap (λ q. q.sizes) source.home ∙ source.sizes

    at : (g : Geometry) → g ≡ sample_sizes → IsNumber g 3 × IsSome (h (inode_place g 3).block (inode_place g 3).line)
    at g q =
        (let P : Geometry → Type 0 = λ z. IsNumber z 3 × IsSome (h (inode_place z 3).block (inode_place z 3).line) in
        subst P (sym q) (record { least = omega arith; most = omega arith }, line))
