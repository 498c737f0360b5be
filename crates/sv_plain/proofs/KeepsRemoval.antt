-- A file system stays whole where a node goes that no link leads to and that nothing refers to.
use Rattle.std.proofs.Common.{◌≡◌, ◌≢◌, ◌≤◌, ◌<◌, ℕ, zero, suc, ◌-◌, ◌==◌, ◌⊎◌, inl, inr, Bool, true, false, not, ◌&&◌, nat_lt, if◌then◌else◌, Option, Some, None, IsSome, sym, refl, ap, subst, ◌∙◌, arith}
use Rattle.std.proofs.lemmas.Bool.{false≢true, cases_eq, eq-eqb}
use Rattle.std.proofs.lemmas.Bool.Decides.{nat_tests}
use Rattle.std.specs.declared.cmp.Ordering.{Ordering}
use Rattle.std.specs.Ordering.{nat_cmp}
use Rattle.std.specs.Cmp.{IsTotalOrder, nat_cmp_total}
use Rattle.std.specs.FinMap as map
use Rattle.std.specs.FinMap.{FinMap, IsAntisymmetric, nat_cmp-IsAntisymmetric}
use Rattle.sv_form.specs.Node.{Node, is_dir, used, entry_inode, entry_count}
use Rattle.sv_plain.specs.declared.fs.opening.Opening.{Opening}
use Rattle.sv_plain.specs.Totals.{total, at_or_0, one_if}
use Rattle.sv_plain.specs.Fs.{Fs, holders, used_by_all, is_live, is_referenced, naming_count, namings, children, pending_on}
use Rattle.sv_plain.specs.Whole.{IsWhole, parent_of, ascend}
use Rattle.sv_plain.specs.Names.{links_of}
use Rattle.sv_plain.specs.Change.{without_node}
use Rattle.sv_plain.proofs.Got.{left, get_apart}
use Rattle.sv_plain.proofs.Undone.{remove-none}
use Rattle.sv_plain.proofs.Totals.{total-remove}
use Rattle.sv_plain.proofs.Counts.{count_some}
use Rattle.sv_plain.proofs.Holders.{holders-remove, itself}

abbrev pub Nodes : Type 0
Nodes = map.FinMap nat_cmp Node

-- one entry is at most the whole sum
pub total-at : {K X : Type 0} {R : K → K → Ordering} (o : IsTotalOrder R) (same : IsAntisymmetric R) (f : K → X → ℕ) (m : FinMap R X) (k : K) (v : X) → map.get m k ≡ Some v → f k v ≤ total f m
total-at o same f m k v there =
    let here : at_or_0 (f k) (map.get m k) ≡ f k v = ap (at_or_0 (f k)) there in
    omega (arith, total-remove o same f m k, here)

-- an entry of a directory with links counts among those that name its inode
pub naming-some : (block : ℕ) (nodes : Nodes) (d : ℕ) (node : Node) (j : ℕ) → map.get nodes d ≡ Some node → is_live node ≡ true → j < entry_count node → 1 ≤ namings block nodes (entry_inode block node j)
unfolding namings naming_count
naming-some block nodes d node j there live within =
    let i : ℕ = entry_inode block node j in
    let one = count_some (λ k. entry_inode block node k == i) j 0 (entry_count node - 0) (omega arith) (omega (arith, within)) (eq-eqb i i refl) in
    let sum = total-at nat_cmp_total nat_cmp-IsAntisymmetric (λ (_ : ℕ) (n : Node). if is_live n then naming_count block n 0 i else 0) nodes d node there in
    let here : (if is_live node then naming_count block node 0 i else 0) ≡ naming_count block node 0 i = ap (λ b. if b then naming_count block node 0 i else 0) live in
    omega (arith, one, sum, here)

pub pending-some : (pending : map.FinMap nat_cmp ℕ) (p i : ℕ) → map.get pending p ≡ Some i → 1 ≤ pending_on pending i
unfolding pending_on
pending-some pending p i there =
    let sum = total-at nat_cmp_total nat_cmp-IsAntisymmetric (λ (_ : ℕ) (inode : ℕ). one_if (inode == i)) pending p i there in
    omega (arith, sum, itself i)

pub holders-some_file : (fs : Fs) (n : ℕ) (f : Opening) → map.get fs.files n ≡ Some f → 1 ≤ holders fs.references fs.files f.inode
unfolding holders
holders-some_file fs n f there =
    let sum = total-at nat_cmp_total nat_cmp-IsAntisymmetric (λ (_ : ℕ) (g : Opening). one_if (g.inode == f.inode)) fs.files n f there in
    omega (arith, sum, itself f.inode)

pub holders-some_reference : (fs : Fs) (p i n : ℕ) → map.get fs.references (p, i) ≡ Some n → 1 ≤ holders fs.references fs.files i
holders-some_reference fs p i n there =
    let here : at_or_0 (λ (_ : ℕ). one_if (i == i)) (map.get fs.references (p, i)) ≡ one_if (i == i) = ap (at_or_0 (λ (_ : ℕ). one_if (i == i))) there in
    omega (arith, holders-remove fs.references fs.files p i i, here, itself i)

-- ---- a node without links

module _ (block : ℕ) (nodes : Nodes) (i : ℕ) (node : Node) (there : map.get nodes i ≡ Some node) (dead : is_live node ≡ false) where
  -- a directory with links is another one
  other : (d : ℕ) (x : Node) → map.get nodes d ≡ Some x → is_live x ≡ true → d ≢ i
  other d x e live s =
      let same : Some x ≡ Some node = sym e ∙ ap (map.get nodes) s ∙ there in
      let is : x ≡ node = cc in
      false≢true (sym dead ∙ ap is_live (sym is) ∙ live)

  still : (d : ℕ) (x : Node) → map.get nodes d ≡ Some x → is_live x ≡ true → map.get (map.remove nodes i) d ≡ Some x
  still d x e live = get_apart nat_cmp_total nat_cmp-IsAntisymmetric nodes i d (other d x e live) ∙ e

  was : (d : ℕ) (x : Node) → map.get (map.remove nodes i) d ≡ Some x → map.get nodes d ≡ Some x
  was d x e = left nat_cmp_total nat_cmp-IsAntisymmetric nodes i d x e

  no_count : (f : Node → ℕ) → at_or_0 (λ n. if is_live n then f n else 0) (map.get nodes i) ≡ 0
  no_count f = ap (at_or_0 (λ n. if is_live n then f n else 0)) there ∙ ap (λ b. if b then f node else 0) dead

  namings-same : (j : ℕ) → namings block (map.remove nodes i) j ≡ namings block nodes j
  unfolding namings
  namings-same j =
      omega (arith, no_count (λ n. naming_count block n 0 j), total-remove nat_cmp_total nat_cmp-IsAntisymmetric (λ (_ : ℕ) (n : Node). if is_live n then naming_count block n 0 j else 0) nodes i)

  children-same : (j : ℕ) → children block (map.remove nodes i) j ≡ children block nodes j
  unfolding children
  children-same j =
      omega (arith, no_count (λ n. naming_count block n 2 j), total-remove nat_cmp_total nat_cmp-IsAntisymmetric (λ (_ : ℕ) (n : Node). if is_live n then naming_count block n 2 j else 0) nodes i)

  used-fewer : used_by_all block (map.remove nodes i) ≤ used_by_all block nodes
  unfolding used_by_all
  used-fewer = omega (arith, total-remove nat_cmp_total nat_cmp-IsAntisymmetric (λ (_ : ℕ) (n : Node). used block n) nodes i)

  parent-same : (d : ℕ) (x : Node) → map.get nodes d ≡ Some x → is_live x ≡ true → parent_of block (map.remove nodes i) d ≡ parent_of block nodes d
  parent-same d x e live = ap (at_or_0 (λ n. entry_inode block n 1)) (get_apart nat_cmp_total nat_cmp-IsAntisymmetric nodes i d (other d x e live))

  -- where `..` leads from a directory with links is one too
  ascends-same : ((d : ℕ) (x : Node) → map.get nodes d ≡ Some x → is_live x ≡ true → (y : Node) × (map.get nodes (parent_of block nodes d) ≡ Some y) × (is_live y ≡ true))
      → (k d : ℕ) (x : Node) → map.get nodes d ≡ Some x → is_live x ≡ true → ascend block (map.remove nodes i) k d ≡ ascend block nodes k d
  ascends-same up zero d x e live = refl
  ascends-same up (suc k) d x e live =
      let above = up d x e live in
      ap (ascend block (map.remove nodes i) k) (parent-same d x e live) ∙ ascends-same up k (parent_of block nodes d) above.0 above.1 above.2

-- the directory above a directory with links
pub above-live : (fs : Fs) → IsWhole fs → (d : ℕ) (x : Node) → map.get fs.nodes d ≡ Some x → is_live x ≡ true
    → (y : Node) × (map.get fs.nodes (parent_of fs.block fs.nodes d) ≡ Some y) × (is_live y ≡ true)
above-live fs w d x e live =
    elim (cases_eq d 2) [
      | inl is ↦
          let root = w.root.there in
          let up : parent_of fs.block fs.nodes d ≡ 2 = ap (parent_of fs.block fs.nodes) is ∙ w.root.above in
          (root.0, ap (map.get fs.nodes) up ∙ root.1, root.2)
      | inr not_root ↦
          let above = (w.placed d x e live not_root).there in
          let up : parent_of fs.block fs.nodes d ≡ entry_inode fs.block x 1 = ap (at_or_0 (λ n. entry_inode fs.block n 1)) e in
          (above.0, ap (map.get fs.nodes) up ∙ above.1, above.2)
    ]

pub absent_or : {A : Type 0} (o : Option A) → (o ≡ None) ⊎ ((x : A) × (o ≡ Some x))
absent_or None = inl refl
absent_or (Some x) = inr (x, refl)

unreferenced : (n : ℕ) → not (n == 0) ≡ false → n ≡ 0
unreferenced n e = grind (arith, nat_tests)

pub without_links : (b : Bool) (n : ℕ) → n ≡ 0 → (b && nat_lt 0 n) ≡ false
without_links true n e = ap (nat_lt 0) e
without_links false n e = refl

-- the node of a number other than i stays
some_apart : (nodes : Nodes) (i j : ℕ) → j ≢ i → IsSome (map.get nodes j) → IsSome (map.get (map.remove nodes i) j)
some_apart nodes i j ne there = subst IsSome (sym (get_apart nat_cmp_total nat_cmp-IsAntisymmetric nodes i j ne)) there

removal : (fs : Fs) (i : ℕ) (node : Node) → IsWhole fs → map.get fs.nodes i ≡ Some node → node.links ≡ 0 → holders fs.references fs.files i ≡ 0 → IsWhole (without_node fs i)
removal fs i node w there none idle =
    let dead : is_live node ≡ false = without_links (is_dir node.kind) node.links none in
    let links = (w.links i node there).1 in
    let unnamed : namings fs.block fs.nodes i ≡ 0 = omega (arith, links, none) in
    let free : pending_on fs.pending i ≡ 0 = omega (arith, links, none) in
    let was = was fs.block fs.nodes i node there dead in
    let still = still fs.block fs.nodes i node there dead in
    record {
      sized = w.sized;
      nodes = λ j x e. w.nodes j x (was j x e);
      links = λ j x e.
          (let before = w.links j x (was j x e) in
          let same = namings-same fs.block fs.nodes i node there dead j in
          (before.0, omega (arith, before.1, same)));
      blocks = omega (arith, w.blocks, used-fewer fs.block fs.nodes i node there dead);
      directories = λ d x e live. w.directories d x (was d x e) live;
      named = λ d x e live j within some.
          some_apart fs.nodes i (entry_inode fs.block x j)
          (λ s. (let one = naming-some fs.block fs.nodes d x j (was d x e) live within in
          let at : namings fs.block fs.nodes (entry_inode fs.block x j) ≡ namings fs.block fs.nodes i = ap (namings fs.block fs.nodes) s in
          absurd (omega (arith, one, at, unnamed))))
          (w.named d x (was d x e) live j within some);
      root = record {
        there = (w.root.there.0, still 2 w.root.there.0 w.root.there.1 w.root.there.2, w.root.there.2);
        above = parent-same fs.block fs.nodes i node there dead 2 w.root.there.0 w.root.there.1 w.root.there.2 ∙ w.root.above;
        unnamed = children-same fs.block fs.nodes i node there dead 2 ∙ w.root.unnamed;
      };
      placed = λ d x e live not_root.
          (let before = w.placed d x (was d x e) live not_root in
          record {
            once = children-same fs.block fs.nodes i node there dead d ∙ before.once;
            there = (before.there.0, still _ before.there.0 before.there.1 before.there.2, before.there.2, before.there.3);
          });
      ascends = λ d x e live.
          (let before = w.ascends d x (was d x e) live in
          (before.0, ascends-same fs.block fs.nodes i node there dead (above-live fs w) before.0 d x (was d x e) live ∙ before.1));
      references = λ p j n e.
          (let before = w.references p j n e in (
            before.0,
            some_apart fs.nodes i j
                (λ s. (let one = holders-some_reference fs p j n e in
                let at : holders fs.references fs.files j ≡ holders fs.references fs.files i = ap (holders fs.references fs.files) s in
                absurd (omega (arith, one, at, idle))))
                before.1,
          ));
      files = λ n f e.
          (let before = w.files n f e in
          record {
            shared = before.shared;
            offset = before.offset;
            there =
                some_apart fs.nodes i f.inode
                (λ s. (let one = holders-some_file fs n f e in
                let at : holders fs.references fs.files f.inode ≡ holders fs.references fs.files i = ap (holders fs.references fs.files) s in
                absurd (omega (arith, one, at, idle))))
                before.there;
            read_only = λ x e. before.read_only x (was f.inode x e);
          });
      pending = λ p j e.
          (let before = w.pending p j e in (
            before.0,
            get_apart nat_cmp_total nat_cmp-IsAntisymmetric fs.nodes i j
                (λ s. (let one = pending-some fs.pending p j e in
                let at : pending_on fs.pending j ≡ pending_on fs.pending i = ap (pending_on fs.pending) s in
                absurd (omega (arith, one, at, free))))
                ∙ before.1,
            before.2,
          ));
      places = w.places;
    }

-- a node goes that no link leads to and that nothing refers to
pub keeps-removal : (fs : Fs) (i : ℕ) → IsWhole fs → links_of fs i ≡ 0 → is_referenced fs i ≡ false → IsWhole (without_node fs i)
keeps-removal fs i w none idle =
    elim (absent_or (map.get fs.nodes i)) [
      | inl absent ↦ subst (λ (m : Nodes). IsWhole (record fs { nodes = m })) (sym (remove-none nat_cmp_total nat_cmp-IsAntisymmetric fs.nodes i absent)) w
      | inr node ↦
          removal fs i node.0 w node.1 (ap (at_or_0 (λ (n : Node). n.links)) (sym node.1) ∙ none) (unreferenced (holders fs.references fs.files i) idle)
    ]
