-- A file system stays whole where one entry of a directory comes or goes that names no directory.
use Rattle.std.proofs.Common.{◌≡◌, ◌≢◌, ◌≤◌, ◌<◌, ℕ, zero, suc, ◌+◌, ◌==◌, inl, inr, true, ◌&&◌, nat_lt, if◌then◌else◌, Some, IsSome, sym, refl, ap, subst, ◌∙◌, arith}
use Rattle.std.proofs.lemmas.Bool.{false≢true, cases_eq}
use Rattle.std.specs.Cmp.{nat_cmp_total}
use Rattle.std.specs.FinMap as map
use Rattle.std.specs.FinMap.{nat_cmp-IsAntisymmetric}
use Rattle.sv_form.specs.declared.kind.Kind.TheVariants.{File, Dir}
use Rattle.sv_form.specs.Node.{Node, is_dir, entry_inode, entry_count}
use Rattle.sv_plain.specs.declared.fs.mode.Mode.{Mode}
use Rattle.sv_plain.specs.declared.fs.mode.Mode.TheVariants.{R}
use Rattle.sv_plain.specs.Totals.{at_or_0, one_if}
use Rattle.sv_plain.specs.Fs.{Fs, used_by_all, promised, is_live, naming_count, namings, children, pending_on}
use Rattle.sv_plain.specs.Whole.{IsWhole, IsNode, IsDirectory, IsPlaced, parent_of, ascend}
use Rattle.sv_plain.proofs.Got.{got}
use Rattle.sv_plain.proofs.Totals.{total-insert}
use Rattle.sv_plain.proofs.KeepsFile.{dead_file, get_other, get_new, still_some}
use Rattle.sv_plain.proofs.KeepsRemoval.{Nodes}
use Rattle.sv_plain.proofs.KeepsPromises.{Promises}

-- what holds of the new node at its number and of all nodes that were there holds of all nodes
pub each_node : (nodes : Nodes) (d : ℕ) (new : Node) (P : ℕ → Node → Type 0) → P d new → ((k : ℕ) (x : Node) → map.get nodes k ≡ Some x → P k x)
    → (k : ℕ) (x : Node) → map.get (map.insert nodes d new) k ≡ Some x → P k x
each_node nodes d new P here there k x e =
    elim (got nat_cmp_total nat_cmp-IsAntisymmetric nodes d new k x e) [
      | inl h ↦ subst (λ (n : ℕ). P n x) (sym h.0) (subst (λ (y : Node). P d y) (sym h.1) here)
      | inr h ↦ there k x h
    ]

pub some_node : (x y : Node) → Some x ≡ Some y → x ≡ y
some_node x y e = cc

-- a directory with links is no regular file
pub no_file : (nodes : Nodes) (d : ℕ) (old : Node) → map.get nodes d ≡ Some old → is_live old ≡ true → (j : ℕ) (x : Node) → map.get nodes j ≡ Some x → x.kind ≡ File → j ≢ d
no_file nodes d old there live j x e file is =
    let it : x ≡ old = some_node x old (sym e ∙ ap (map.get nodes) is ∙ there) in
    false≢true (sym (dead_file x file) ∙ ap is_live it ∙ live)

-- a file of a directory is only read
pub each_read : (nodes : Nodes) (d : ℕ) (old new : Node) → map.get nodes d ≡ Some old → new.kind ≡ old.kind → (i : ℕ) (m : Mode)
    → ((x : Node) → map.get nodes i ≡ Some x → x.kind ≡ Dir → m ≡ R) → (x : Node) → map.get (map.insert nodes d new) i ≡ Some x → x.kind ≡ Dir → m ≡ R
each_read nodes d old new there kind i m before x e dir =
    elim (got nat_cmp_total nat_cmp-IsAntisymmetric nodes d new i x e) [
      | inl h ↦ before old (ap (map.get nodes) h.0 ∙ there) (sym kind ∙ ap (λ (n : Node). n.kind) (sym h.1) ∙ dir)
      | inr h ↦ before x h dir
    ]

-- what directory d may become: one entry that named a names b now, and neither is a directory with links
pub record IsOtherDirectory (fs : Fs) (d : ℕ) (old new : Node) (a b : ℕ) (pending promises : Promises) : Type 0 where
  pub kind : new.kind ≡ old.kind
  pub links : new.links ≡ old.links
  pub node : IsNode fs.block fs.greatest fs.inodes d new
  pub directory : IsDirectory fs.block d new
  pub named : (j : ℕ) → j < entry_count new → entry_inode fs.block new j ≢ 0 → IsSome (map.get fs.nodes (entry_inode fs.block new j))
  pub second : entry_inode fs.block new 1 ≡ entry_inode fs.block old 1
  pub counts : (first i : ℕ) → first ≤ 2 → i ≢ 0 → naming_count fs.block new first i + one_if (a == i) ≡ naming_count fs.block old first i + one_if (b == i)
  pub no_directory : (i : ℕ) (x : Node) → map.get fs.nodes i ≡ Some x → is_live x ≡ true → (one_if (a == i) ≡ 0) × (one_if (b == i) ≡ 0)
  pub pended : (i : ℕ) → i ≢ 0 → pending_on pending i + one_if (b == i) ≡ pending_on fs.pending i + one_if (a == i)
  pub on_files : (p i : ℕ) → map.get pending p ≡ Some i → (node : Node) × (map.get fs.nodes i ≡ Some node) × (node.kind ≡ File)
  pub blocks : used_by_all fs.block (map.insert fs.nodes d new) + promised promises ≤ fs.data_blocks

-- where a directory with links stays one, the entries that name an inode change by its own
module _ (block : ℕ) (nodes : Nodes) (d : ℕ) (old new : Node) (there : map.get nodes d ≡ Some old) (was_live : is_live old ≡ true) (live : is_live new ≡ true) where
  counted-old : (f : Node → ℕ) → at_or_0 (λ n. if is_live n then f n else 0) (map.get nodes d) ≡ f old
  counted-old f = ap (at_or_0 (λ n. if is_live n then f n else 0)) there ∙ ap (λ b. if b then f old else 0) was_live

  counted-new : (f : Node → ℕ) → (if is_live new then f new else 0) ≡ f new
  counted-new f = ap (λ b. if b then f new else 0) live

  pub namings-directory : (i : ℕ) → namings block (map.insert nodes d new) i + naming_count block old 0 i ≡ namings block nodes i + naming_count block new 0 i
  unfolding namings
  namings-directory i =
      omega (arith, counted-old (λ n. naming_count block n 0 i), counted-new (λ n. naming_count block n 0 i), total-insert nat_cmp_total nat_cmp-IsAntisymmetric (λ (_ : ℕ) (n : Node). if is_live n then naming_count block n 0 i else 0) nodes d new)

  pub children-directory : (i : ℕ) → children block (map.insert nodes d new) i + naming_count block old 2 i ≡ children block nodes i + naming_count block new 2 i
  unfolding children
  children-directory i =
      omega (arith, counted-old (λ n. naming_count block n 2 i), counted-new (λ n. naming_count block n 2 i), total-insert nat_cmp_total nat_cmp-IsAntisymmetric (λ (_ : ℕ) (n : Node). if is_live n then naming_count block n 2 i else 0) nodes d new)

-- where `..` stays, it leads to the same
module _ (block : ℕ) (nodes : Nodes) (d : ℕ) (old new : Node) (there : map.get nodes d ≡ Some old) (second : entry_inode block new 1 ≡ entry_inode block old 1) where
  pub parent-kept : (k : ℕ) → parent_of block (map.insert nodes d new) k ≡ parent_of block nodes k
  parent-kept k =
      elim (cases_eq k d) [
        | inl is ↦ ap (parent_of block (map.insert nodes d new)) is
            ∙ ap (at_or_0 (λ n. entry_inode block n 1)) (get_new nodes d new)
            ∙ second
            ∙ sym (ap (at_or_0 (λ n. entry_inode block n 1)) there)
            ∙ sym (ap (parent_of block nodes) is)
        | inr ne ↦ ap (at_or_0 (λ n. entry_inode block n 1)) (get_other nodes d k new ne)
      ]

  pub ascends-kept : (n k : ℕ) → ascend block (map.insert nodes d new) n k ≡ ascend block nodes n k
  ascends-kept zero k = refl
  ascends-kept (suc n) k = ap (ascend block (map.insert nodes d new) n) (parent-kept k) ∙ ascends-kept n (parent_of block nodes k)

pub keeps-directory : (fs : Fs) (d : ℕ) (old new : Node) (a b : ℕ) (pending promises : Promises) → IsWhole fs → map.get fs.nodes d ≡ Some old → is_live old ≡ true
    → IsOtherDirectory fs d old new a b pending promises
    → IsWhole (record fs { nodes = map.insert fs.nodes d new; pending = pending; promises = promises })
keeps-directory fs d old new a b pending promises w there was_live o =
    let nodes' : Nodes = map.insert fs.nodes d new in
    let live : is_live new ≡ true = (λ i. is_dir (o.kind i) && nat_lt 0 (o.links i)) ∙ was_live in
    let parents : (k : ℕ) → parent_of fs.block nodes' k ≡ parent_of fs.block fs.nodes k = parent-kept fs.block fs.nodes d old new there o.second in
    let linked : (k : ℕ) (x : Node) → map.get fs.nodes k ≡ Some x → (x.links ≤ 1000) × (x.links ≡ namings fs.block nodes' k + pending_on pending k) = λ k x e.
    (let before = w.links k x e in
    let some : k ≢ 0 = (let two = (w.nodes k x e).least in omega (arith, two)) in
    (before.0, omega (arith, before.1, namings-directory fs.block fs.nodes d old new there was_live live k, o.counts 0 k (omega arith) some, o.pended k some))) in
    let same : (i : ℕ) (x : Node) → map.get fs.nodes i ≡ Some x → is_live x ≡ true → naming_count fs.block new 2 i ≡ naming_count fs.block old 2 i = λ i x e is.
    (let some : i ≢ 0 = (let two = (w.nodes i x e).least in omega (arith, two)) in
    let none = o.no_directory i x e is in
    omega (arith, o.counts 2 i (omega arith) some, none)) in
    let children' : (i : ℕ) (x : Node) → map.get fs.nodes i ≡ Some x → is_live x ≡ true → children fs.block nodes' i ≡ children fs.block fs.nodes i = λ i x e is.
    omega (arith, children-directory fs.block fs.nodes d old new there was_live live i, same i x e is) in
    let above : (i : ℕ) (z : Node) → map.get fs.nodes i ≡ Some z → is_live z ≡ true → (k : ℕ) (x : Node) → map.get fs.nodes k ≡ Some x → is_live x ≡ true
    → (y : Node) × (map.get nodes' k ≡ Some y) × (is_live y ≡ true) × (naming_count fs.block y 2 i ≡ naming_count fs.block x 2 i) = λ i z f is k x e is_x.
    elim (cases_eq k d) [
      | inl at ↦
          (let it : x ≡ old = some_node x old (sym e ∙ ap (map.get fs.nodes) at ∙ there) in
          (new, ap (map.get nodes') at ∙ get_new fs.nodes d new, live, same i z f is ∙ ap (λ n. naming_count fs.block n 2 i) (sym it)))
      | inr ne ↦ (x, get_other fs.nodes d k new ne ∙ e, is_x, refl)
    ] in
    let placed : (k : ℕ) (x : Node) → map.get fs.nodes k ≡ Some x → is_live x ≡ true → k ≢ 2 → IsPlaced fs.block nodes' k (entry_inode fs.block x 1) = λ k x e is not_root.
    (let before = w.placed k x e is not_root in
    let up = above k x e is (entry_inode fs.block x 1) before.there.0 before.there.1 before.there.2 in
    record { once = children' k x e is ∙ before.once; there = (up.0, up.1, up.2, up.3 ∙ before.there.3) }) in
    let ascends : (k : ℕ) (x : Node) → map.get fs.nodes k ≡ Some x → is_live x ≡ true → (n : ℕ) × (ascend fs.block nodes' n k ≡ 2) = λ k x e is.
    (let before = w.ascends k x e is in
    (before.0, ascends-kept fs.block fs.nodes d old new there o.second before.0 k ∙ before.1)) in
    let root = above 2 w.root.there.0 w.root.there.1 w.root.there.2 2 w.root.there.0 w.root.there.1 w.root.there.2 in
    record {
      sized = w.sized;
      nodes = each_node fs.nodes d new (λ k x. IsNode fs.block fs.greatest fs.inodes k x) o.node w.nodes;
      links = each_node fs.nodes d new (λ k x. (x.links ≤ 1000) × (x.links ≡ namings fs.block nodes' k + pending_on pending k))
          (let before = linked d old there in (omega (arith, o.links, before.0), o.links ∙ before.1))
          linked;
      blocks = o.blocks;
      directories = each_node fs.nodes d new (λ k x. is_live x ≡ true → IsDirectory fs.block k x) (λ _. o.directory) w.directories;
      named = each_node fs.nodes d new
          (λ _ x. is_live x ≡ true → (j : ℕ) → j < entry_count x → entry_inode fs.block x j ≢ 0 → IsSome (map.get nodes' (entry_inode fs.block x j)))
          (λ _ j within some. still_some fs.nodes d (entry_inode fs.block new j) new (o.named j within some))
          (λ k x e is j within some. still_some fs.nodes d (entry_inode fs.block x j) new (w.named k x e is j within some));
      root = record {
        there = (root.0, root.1, root.2);
        above = parents 2 ∙ w.root.above;
        unnamed = children' 2 w.root.there.0 w.root.there.1 w.root.there.2 ∙ w.root.unnamed;
      };
      placed = each_node fs.nodes d new (λ k x. is_live x ≡ true → k ≢ 2 → IsPlaced fs.block nodes' k (entry_inode fs.block x 1))
          (λ _ not_root. subst (λ (i : ℕ). IsPlaced fs.block nodes' d i) (sym o.second) (placed d old there was_live not_root))
          placed;
      ascends = each_node fs.nodes d new (λ k x. is_live x ≡ true → (n : ℕ) × (ascend fs.block nodes' n k ≡ 2)) (λ _. ascends d old there was_live) ascends;
      references = λ p j n e. (let before = w.references p j n e in (before.0, still_some fs.nodes d j new before.1));
      files = λ n f e.
          (let before = w.files n f e in
          record {
            shared = before.shared;
            offset = before.offset;
            there = still_some fs.nodes d f.inode new before.there;
            read_only = each_read fs.nodes d old new there o.kind f.inode f.mode before.read_only;
          });
      pending = λ p j e.
          (let file = o.on_files p j e in
          (file.0, get_other fs.nodes d j new (no_file fs.nodes d old there was_live j file.0 file.1 file.2) ∙ file.1, file.2));
      places = w.places;
    }
