-- Conditions 4 and 5 from the lines of the inodes.
use Rattle.std.proofs.Common.{◌≡◌, ◌≤◌, ◌<◌, ◌+◌, ◌%◌, ◌==◌, ◌&&◌, ◌||◌, ◌∙◌, ℕ, Bool, not, true, false, List, Option, Some, None, inl, inr}
use Rattle.std.proofs.Common.{ap, sym, refl, subst, replicate, nat_lt, arith}
use Rattle.std.specs.FinMap as map
use Rattle.std.proofs.lemmas.Bool.{cases_eq, eq-eqb, ne_eqb}
use Rattle.sv_form.specs.declared.geometry.Geometry.{Geometry}
use Rattle.sv_form.specs.declared.inode.DiskInode.TheVariants.{Used}
use Rattle.sv_form.specs.declared.kind.Kind.{Kind}
use Rattle.sv_form.specs.Geometry.{inode_count, inode_place}
use Rattle.sv_form.specs.Image.{inode_of}
use Rattle.sv_form.specs.Node.{Node, is_dir}
use Rattle.sv_form.specs.PagePath.{greatest_size}
use Rattle.sv_store.specs.Held.{Held, Origin}
use Rattle.sv_plain.specs.Front.{size_of}
use Rattle.sv_plain.specs.Fs as state
use Rattle.sv_plain.specs.Fs.{Fs}
use Rattle.sv_plain.specs.Whole.{IsDirectory}
use Rattle.sv_check.specs.Blocks.{ShowsBody}
use Rattle.sv_check.specs.InodeList.{is_directory, is_free, is_misread, is_missized, kind_flaw, size_flaw}
use Rattle.sv_check.proofs.BooleanTests.{below-test, not_below-test}
use Rattle.sv_check.proofs.InodeReads.{shows_inode, spelled_reads}
use Rattle.sv_files.specs.ConverseInodes.{HasInodesInOrder, HasNumbersOf, HoldsAllInodes, HoldsInode, NodesHaveInodes}
use Rattle.sv_files.specs.ConverseLines.{HasLines, IsSizedAs}
use Rattle.sv_files.specs.ConverseNames.{IsAtRest}
use Rattle.sv_files.proofs.HeldBytes.{same_line}
use Rattle.sv_files.proofs.RangeTests.{found_none}

-- an inode of the image whose line is held
pub held-inode : (o : Origin) (image : List ℕ) (h : Held) (n : ℕ) (line : List ℕ) → HasLines o.sizes image h
    → h (inode_place o.sizes n).block (inode_place o.sizes n).line ≡ Some line → inode_of o.sizes image n ≡ line
held-inode o image h n line lines there =
    same_line o.sizes image (inode_place o.sizes n) ∙ sym (lines.at (inode_place o.sizes n).block (inode_place o.sizes n).line line there)

-- ---- an inode that is free

and_false : (t : Bool) → (t && false) ≡ false
and_false true = refl
and_false false = refl

module _ (g : Geometry) (n : ℕ) (inode : List ℕ) (zeros : inode ≡ replicate 64 0) where
  free-read : is_misread n inode ≡ false
  free-read = ap (is_misread n) zeros ∙ and_false (n == 1)

  free-sized : is_missized g inode ≡ false
  free-sized = ap (is_missized g) zeros ∙ ap (λ (t : Bool). t || false) (not_below-test (greatest_size g) 0 (omega arith))

-- ---- an inode that a node describes

module _ (o : Origin) (fs : Fs) (rest : IsAtRest fs) (has : HasNumbersOf o fs) (h : Held) (n : ℕ) (node : Node)
    (there : map.get fs.nodes n ≡ Some node) (holds : HoldsInode o h n node) where
  shows : ShowsBody holds.line holds.body
  shows = shows_inode holds.line (Used holds.body) holds.spelled

  used-read : is_misread n holds.line ≡ false
  used-read =
      let least = (rest.whole.nodes n node there).least in
      let other : (n == 1) ≡ false = ne_eqb n 1 (λ e. omega (arith, least, e)) in
      ap (λ (t : Bool). not t || ((n == 1) && not (is_free holds.line))) (spelled_reads holds.line (Used holds.body) holds.spelled)
      ∙ ap (λ (t : Bool). t && not (is_free holds.line)) other

  size-is : size_of holds.line ≡ node.size
  size-is = shows.size ∙ holds.stands.described.size

  kind-is : is_directory holds.line ≡ is_dir node.kind
  kind-is = shows.directory ∙ ap is_dir holds.stands.described.kind

  size-fits : nat_lt (greatest_size o.sizes) (size_of holds.line) ≡ false
  size-fits =
      let most : node.size ≤ fs.greatest = (rest.whole.nodes n node there).size in
      let same : fs.greatest ≡ greatest_size o.sizes = has.greatest in
      let size = size-is in
      not_below-test (greatest_size o.sizes) (size_of holds.line) (omega (arith, most, same, size))

  dir-live : (k : Kind) → node.kind ≡ k → is_dir k ≡ true → state.is_live node ≡ true
  dir-live k is dir =
      let some = rest.linked n node there in
      ap (λ (c : Kind). is_dir c && nat_lt 0 node.links) is ∙ ap (λ (t : Bool). t && nat_lt 0 node.links) dir
      ∙ below-test 0 node.links (omega (arith, some))

  dir-sized : (t : Bool) → is_dir node.kind ≡ t → (t && (nat_lt (size_of holds.line) 32 || not (size_of holds.line % 16 == 0))) ≡ false
  dir-sized false is = refl
  dir-sized true is =
      let d : IsDirectory fs.block n node = rest.whole.directories n node there (dir-live node.kind refl is) in
      let size = size-is in
      let least = d.least in
      let whole : size_of holds.line % 16 ≡ 0 = ap (λ (x : ℕ). x % 16) size ∙ d.entries in
      ap (λ (t : Bool). t || not (size_of holds.line % 16 == 0)) (not_below-test (size_of holds.line) 32 (omega (arith, size, least)))
      ∙ ap not (eq-eqb (size_of holds.line % 16) 0 whole)

  used-sized : is_missized o.sizes holds.line ≡ false
  used-sized =
      ap (λ (t : Bool). t || (is_directory holds.line && (nat_lt (size_of holds.line) 32 || not (size_of holds.line % 16 == 0)))) size-fits
      ∙ ap (λ (t : Bool). t && (nat_lt (size_of holds.line) 32 || not (size_of holds.line % 16 == 0))) kind-is
      ∙ dir-sized (is_dir node.kind) refl

-- ---- all inodes

module _ (image : List ℕ) (o : Origin) (fs : Fs) (parts : ℕ → Held) (others : Held) (used : List Bool) (sized_as : IsSizedAs o.sizes image)
    (has : HasNumbersOf o fs) (rest : IsAtRest fs)
    (all : HoldsAllInodes o image fs parts others used) where
  -- both tests of one inode
  record IsFine (n : ℕ) : Type 0 where
    read : is_misread n (inode_of o.sizes image n) ≡ false
    sized : is_missized o.sizes (inode_of o.sizes image n) ≡ false

  fine-free : (n : ℕ) → others (inode_place o.sizes n).block (inode_place o.sizes n).line ≡ Some (replicate 64 0) → IsFine n
  fine-free n there =
      let zeros = held-inode o image others n (replicate 64 0) all.other_lines there in
      record { read = free-read o.sizes n (inode_of o.sizes image n) zeros; sized = free-sized o.sizes n (inode_of o.sizes image n) zeros }

  fine-used : (n : ℕ) (node : Node) → map.get fs.nodes n ≡ Some node → IsFine n
  fine-used n node there =
      let holds = all.nodes n node there in
      let is = held-inode o image (parts n) n holds.line (all.lines n) holds.there in
      record {
        read = ap (is_misread n) is ∙ used-read o fs rest has (parts n) n node there holds;
        sized = ap (is_missized o.sizes) is ∙ used-sized o fs rest has (parts n) n node there holds;
      }

  fine_by : (n : ℕ) → 1 ≤ n → n ≤ inode_count o.sizes → (p : Option Node) → map.get fs.nodes n ≡ p → IsFine n
  fine_by n least most (Some node) is = fine-used n node is
  fine_by n least most None is =
      elim (cases_eq n 1) [
        | inl one ↦ fine-free n (ap (λ (m : ℕ). others (inode_place o.sizes m).block (inode_place o.sizes m).line) one ∙ all.first)
        | inr other ↦ fine-free n (all.zeros.zeros n (all.free n (omega (arith, least, other)) most is))
      ]

  fine : (n : ℕ) → 1 ≤ n → n < 1 + inode_count o.sizes → IsFine n
  fine n least most = fine_by n least (omega (arith, most)) (map.get fs.nodes n) refl

  kind-none : kind_flaw o.sizes image ≡ None
  unfolding kind_flaw
  kind-none = found_none (λ n. is_misread n (inode_of o.sizes image n)) (inode_count o.sizes) 1 (λ n low high. (fine n low high).read)

  size-none : size_flaw o.sizes image ≡ None
  unfolding size_flaw
  size-none =
      found_none (λ n. is_missized o.sizes (inode_of o.sizes image n)) (inode_count o.sizes) 1 (λ n low high. (fine n low high).sized)

  in_order : HasInodesInOrder image
  in_order = record {
    kind = subst (λ (x : Geometry). kind_flaw x image ≡ None) (sym sized_as.sizes) kind-none;
    size = subst (λ (x : Geometry). size_flaw x image ≡ None) (sym sized_as.sizes) size-none;
  }

pub nodes_have_inodes : NodesHaveInodes
nodes_have_inodes image o fs parts others used sized_as has rest all = in_order image o fs parts others used sized_as has rest all
