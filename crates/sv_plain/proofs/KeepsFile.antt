-- A file system stays whole where a regular file becomes another one at its number: with other bytes, or with other links.
use Rattle.std.proofs.Common.{◌≡◌, ◌≢◌, ◌≤◌, ℕ, zero, suc, ◌+◌, ◌⊎◌, inl, inr, true, false, cond, ◌&&◌, nat_lt, if◌then◌else◌, Some, IsSome, sym, refl, ap, subst, ◌∙◌, arith}
use Rattle.std.proofs.lemmas.Bool.{false≢true, cases_eq}
use Rattle.std.specs.Ordering.{nat_cmp, eq_by_cmp}
use Rattle.std.specs.Cmp.{nat_cmp_total}
use Rattle.std.specs.FinMap as map
use Rattle.std.specs.FinMap.{nat_cmp-IsAntisymmetric}
use Rattle.sv_form.specs.declared.kind.Kind.TheVariants.{File, Dir}
use Rattle.sv_form.specs.Node.{Node, is_dir, entry_inode}
use Rattle.sv_plain.specs.Totals.{at_or_0}
use Rattle.sv_plain.specs.Fs.{Fs, used_by_all, promised, is_live, naming_count, namings, children, pending_on}
use Rattle.sv_plain.specs.Whole.{IsWhole, IsNode, parent_of, ascend}
use Rattle.sv_plain.proofs.Got.{got}
use Rattle.sv_plain.proofs.Totals.{total-insert}
use Rattle.sv_plain.proofs.Counts.{differs, same_key}
use Rattle.sv_plain.proofs.KeepsRemoval.{Nodes, above-live}
use Rattle.sv_plain.proofs.KeepsPromises.{Promises}

pub dead_file : (node : Node) → node.kind ≡ File → is_live node ≡ false
dead_file node e = ap (λ k. is_dir k && nat_lt 0 node.links) e

pub get_other : (nodes : Nodes) (i j : ℕ) (new : Node) → j ≢ i → map.get (map.insert nodes i new) j ≡ map.get nodes j
get_other nodes i j new ne = map.get-insert nat_cmp_total nodes i new j ∙ ap (λ b. cond b (Some new) (map.get nodes j)) (differs j i ne)

pub get_new : (nodes : Nodes) (i : ℕ) (new : Node) → map.get (map.insert nodes i new) i ≡ Some new
get_new nodes i new = map.get-insert nat_cmp_total nodes i new i ∙ ap (λ b. cond b (Some new) (map.get nodes i)) (same_key i)

pub still_some : (nodes : Nodes) (i j : ℕ) (new : Node) → IsSome (map.get nodes j) → IsSome (map.get (map.insert nodes i new) j)
still_some nodes i j new there =
    subst IsSome (sym (map.get-insert nat_cmp_total nodes i new j))
    (elim (eq_by_cmp nat_cmp j i) as (λ b. IsSome (cond b (Some new) (map.get nodes j))) [ true ↦ refl | false ↦ there ])

other_node : (block greatest inodes i j : ℕ) (new x : Node) → i ≡ j → new ≡ x → IsNode block greatest inodes i new → IsNode block greatest inodes j x
other_node block greatest inodes i j new x e f h = subst (λ (k : ℕ). IsNode block greatest inodes k x) e (subst (λ (y : Node). IsNode block greatest inodes i y) f h)

-- nodes i and j are one, or j keeps its node
module _ (block : ℕ) (nodes : Nodes) (i : ℕ) (old new : Node) (there : map.get nodes i ≡ Some old) (was_file : old.kind ≡ File) (is_file : new.kind ≡ File) where
  other : (d : ℕ) (x : Node) → map.get nodes d ≡ Some x → is_live x ≡ true → d ≢ i
  other d x e live s =
      let same : Some x ≡ Some old = sym e ∙ ap (map.get nodes) s ∙ there in
      let is : x ≡ old = cc in
      false≢true (sym (dead_file old was_file) ∙ ap is_live (sym is) ∙ live)

  still : (d : ℕ) (x : Node) → map.get nodes d ≡ Some x → is_live x ≡ true → map.get (map.insert nodes i new) d ≡ Some x
  still d x e live = get_other nodes i d new (other d x e live) ∙ e

  was : (d : ℕ) (x : Node) → map.get (map.insert nodes i new) d ≡ Some x → is_live x ≡ true → map.get nodes d ≡ Some x
  was d x e live =
      elim (got nat_cmp_total nat_cmp-IsAntisymmetric nodes i new d x e) [
        | inl h ↦ absurd (false≢true (sym (dead_file new is_file) ∙ ap is_live (sym h.1) ∙ live))
        | inr h ↦ h
      ]

  no_old : (f : Node → ℕ) → at_or_0 (λ n. if is_live n then f n else 0) (map.get nodes i) ≡ 0
  no_old f = ap (at_or_0 (λ n. if is_live n then f n else 0)) there ∙ ap (λ b. if b then f old else 0) (dead_file old was_file)

  no_new : (f : Node → ℕ) → (if is_live new then f new else 0) ≡ 0
  no_new f = ap (λ b. if b then f new else 0) (dead_file new is_file)

  namings-same : (j : ℕ) → namings block (map.insert nodes i new) j ≡ namings block nodes j
  unfolding namings
  namings-same j =
      omega (arith, no_old (λ n. naming_count block n 0 j), no_new (λ n. naming_count block n 0 j), total-insert nat_cmp_total nat_cmp-IsAntisymmetric (λ (_ : ℕ) (n : Node). if is_live n then naming_count block n 0 j else 0) nodes i new)

  children-same : (j : ℕ) → children block (map.insert nodes i new) j ≡ children block nodes j
  unfolding children
  children-same j =
      omega (arith, no_old (λ n. naming_count block n 2 j), no_new (λ n. naming_count block n 2 j), total-insert nat_cmp_total nat_cmp-IsAntisymmetric (λ (_ : ℕ) (n : Node). if is_live n then naming_count block n 2 j else 0) nodes i new)

  parent-same : (d : ℕ) (x : Node) → map.get nodes d ≡ Some x → is_live x ≡ true → parent_of block (map.insert nodes i new) d ≡ parent_of block nodes d
  parent-same d x e live = ap (at_or_0 (λ n. entry_inode block n 1)) (get_other nodes i d new (other d x e live))

  ascends-same : ((d : ℕ) (x : Node) → map.get nodes d ≡ Some x → is_live x ≡ true → (y : Node) × (map.get nodes (parent_of block nodes d) ≡ Some y) × (is_live y ≡ true))
      → (k d : ℕ) (x : Node) → map.get nodes d ≡ Some x → is_live x ≡ true → ascend block (map.insert nodes i new) k d ≡ ascend block nodes k d
  ascends-same up zero d x e live = refl
  ascends-same up (suc k) d x e live =
      let above = up d x e live in
      ap (ascend block (map.insert nodes i new) k) (parent-same d x e live) ∙ ascends-same up k (parent_of block nodes d) above.0 above.1 above.2

-- what a regular file may become, with these pending links and promises
pub record IsOtherFile (fs : Fs) (i : ℕ) (new : Node) (pending promises : Promises) : Type 0 where
  pub file : new.kind ≡ File
  pub node : IsNode fs.block fs.greatest fs.inodes i new
  pub few : new.links ≤ 1000
  pub links : new.links ≡ namings fs.block fs.nodes i + pending_on pending i
  pub others : (j : ℕ) → j ≢ i → pending_on pending j ≡ pending_on fs.pending j
  pub on : (p j : ℕ) → map.get pending p ≡ Some j → (j ≡ i) ⊎ (map.get fs.pending p ≡ Some j)
  pub blocks : used_by_all fs.block (map.insert fs.nodes i new) + promised promises ≤ fs.data_blocks

pub keeps-file : (fs : Fs) (i : ℕ) (old new : Node) (pending promises : Promises) → IsWhole fs → map.get fs.nodes i ≡ Some old → old.kind ≡ File → IsOtherFile fs i new pending promises
    → IsWhole (record fs { nodes = map.insert fs.nodes i new; pending = pending; promises = promises })
keeps-file fs i old new pending promises w there was_file o =
    let nodes' : Nodes = map.insert fs.nodes i new in
    let was = was fs.block fs.nodes i old new there was_file o.file in
    let still = still fs.block fs.nodes i old new there was_file o.file in
    let split = got nat_cmp_total nat_cmp-IsAntisymmetric fs.nodes i new in
    let named : (j : ℕ) → namings fs.block nodes' j ≡ namings fs.block fs.nodes j = namings-same fs.block fs.nodes i old new there was_file o.file in
    let children' : (j : ℕ) → children fs.block nodes' j ≡ children fs.block fs.nodes j = children-same fs.block fs.nodes i old new there was_file o.file in
    record {
      sized = w.sized;
      nodes = λ j x e. elim (split j x e) [
        | inl h ↦ other_node fs.block fs.greatest fs.inodes i j new x (sym h.0) (sym h.1) o.node
        | inr h ↦ w.nodes j x h
      ];
      links = λ j x e.
          elim (cases_eq j i) [
            | inl is ↦
                (let same : Some x ≡ Some new = sym e ∙ ap (map.get nodes') is ∙ get_new fs.nodes i new in
                let it : x ≡ new = cc in
                let links : x.links ≡ new.links = ap (λ (n : Node). n.links) it in
                let here : namings fs.block fs.nodes j ≡ namings fs.block fs.nodes i = ap (namings fs.block fs.nodes) is in
                let on : pending_on pending j ≡ pending_on pending i = ap (pending_on pending) is in
                (omega (arith, links, o.few), omega (arith, links, o.links, named j, here, on)))
            | inr ne ↦
                (let before = w.links j x (sym (get_other fs.nodes i j new ne) ∙ e) in
                (before.0, omega (arith, before.1, named j, o.others j ne)))
          ];
      blocks = o.blocks;
      directories = λ d x e live. w.directories d x (was d x e live) live;
      named = λ d x e live j within some. still_some fs.nodes i (entry_inode fs.block x j) new (w.named d x (was d x e live) live j within some);
      root = record {
        there = (w.root.there.0, still 2 w.root.there.0 w.root.there.1 w.root.there.2, w.root.there.2);
        above = parent-same fs.block fs.nodes i old new there was_file o.file 2 w.root.there.0 w.root.there.1 w.root.there.2 ∙ w.root.above;
        unnamed = children' 2 ∙ w.root.unnamed;
      };
      placed = λ d x e live not_root.
          (let before = w.placed d x (was d x e live) live not_root in
          record {
            once = children' d ∙ before.once;
            there = (before.there.0, still _ before.there.0 before.there.1 before.there.2, before.there.2, before.there.3);
          });
      ascends = λ d x e live.
          (let before = w.ascends d x (was d x e live) live in
          (before.0, ascends-same fs.block fs.nodes i old new there was_file o.file (above-live fs w) before.0 d x (was d x e live) live ∙ before.1));
      references = λ p j n e. (let before = w.references p j n e in (before.0, still_some fs.nodes i j new before.1));
      files = λ n f e.
          (let before = w.files n f e in
          record {
            shared = before.shared;
            offset = before.offset;
            there = still_some fs.nodes i f.inode new before.there;
            read_only = λ x e dir. elim (split f.inode x e) [
              | inl h ↦ (let clash : File ≡ Dir = sym o.file ∙ ap (λ (n : Node). n.kind) (sym h.1) ∙ dir in cc)
              | inr h ↦ before.read_only x h dir
            ];
          });
      pending = λ p j e.
          elim (cases_eq j i) [
            | inl is ↦ (new, ap (map.get nodes') is ∙ get_new fs.nodes i new, o.file)
            | inr ne ↦ elim (o.on p j e) [
              | inl is ↦ absurd (ne is)
              | inr h ↦ (let before = w.pending p j h in (before.0, get_other fs.nodes i j new ne ∙ before.1, before.2))
            ]
          ];
      places = w.places;
    }
