-- A file or a directory that is made: the steps one after another, and what is undone where one is refused.
use Rattle.std.proofs.Common.{◌≡◌, ◌≢◌, ℕ, List, Some, None, IsSome, option_map, sym, refl, ap, ◌∙◌}
use Rattle.std.specs.Cmp.{nat_cmp_total}
use Rattle.std.specs.FinMap as map
use Rattle.std.specs.FinMap.{nat_cmp-IsAntisymmetric}
use Rattle.sv_form.specs.declared.kind.Kind.{Kind}
use Rattle.sv_form.specs.declared.kind.Kind.TheVariants.{Dir}
use Rattle.sv_form.specs.Node.{Node}
use Rattle.sv_plain.specs.declared.history.reply.Reply.TheVariants.{Made}
use Rattle.sv_plain.specs.Totals.{at_or_0}
use Rattle.sv_plain.specs.Fs.{Fs, changed, with_node, with_page, with_page_of, node_without_pages}
use Rattle.sv_plain.specs.Names.{links_of}
use Rattle.sv_plain.specs.Change.{with_entry, with_links, without_node, new_node, one_more, spent}
use Rattle.sv_plain.specs.Entered.{with_sized_page, first_page}
use Rattle.sv_plain.specs.Step.{links_made, create_need, create_change}
use Rattle.sv_plain.specs.Whole.{IsWhole}
use Rattle.sv_plain.proofs.Undone.{insert-insert, remove-insert}
use Rattle.sv_plain.proofs.KeepsReferences.{some_item}
use Rattle.sv_plain.proofs.KeepsRemoval.{Nodes}
use Rattle.sv_plain.proofs.KeepsFile.{get_new, get_other}
use Rattle.sv_plain.proofs.KeepsCreated.{insert-turned}
use Rattle.sv_plain.proofs.KeptNodes.{changed-there}

-- a node that was added goes again
pub added-undone : (fs s1 s2 s3 : Fs) (i : ℕ) (node : Node) → map.get fs.nodes i ≡ None → s1 ≡ with_node fs i node → s2 ≡ s1 → s3 ≡ without_node s2 i → s3 ≡ fs
added-undone fs s1 s2 s3 i node absent e1 e2 e3 =
    e3
    ∙ ap (λ (s : Fs). without_node s i) (e2 ∙ e1)
    ∙ ap (λ m. record fs { nodes = m }) (remove-insert nat_cmp_total nat_cmp-IsAntisymmetric fs.nodes i node absent)

-- a directory is added with its first page
pub directory-steps : (fs s1 s2 : Fs) (i d mode : ℕ) (bytes : List ℕ) → s1 ≡ with_node fs i (node_without_pages Dir mode 2 32) → s2 ≡ with_page_of s1 i 0 bytes → bytes ≡ first_page fs.block i d
    → s2 ≡ with_node fs i (new_node fs.block i d mode Dir)
directory-steps fs s1 s2 i d mode bytes e1 e2 is =
    let empty : Node = node_without_pages Dir mode 2 32 in
    e2
    ∙ ap (λ (s : Fs). with_page_of s i 0 bytes) e1
    ∙ ap (λ m. record fs { nodes = m })
    (sym (changed-there (map.insert fs.nodes i empty) i (with_page 0 bytes) empty (get_new fs.nodes i empty))
    ∙ insert-insert nat_cmp_total nat_cmp-IsAntisymmetric fs.nodes i empty (with_page 0 bytes empty)
    ∙ ap (λ b. map.insert fs.nodes i (with_page 0 b empty)) is)

some_same : (x y : Node) → Some x ≡ Some y → x ≡ y
some_same x y e = cc

-- the node is added at a free number, its name is entered in d, and the links of d are set
made-nodes : (nodes : Nodes) (d i links : ℕ) (old new y : Node) → map.get nodes d ≡ Some old → d ≢ i → (f : Node → Node) → f old ≡ new
    → changed (changed (map.insert nodes i y) d f) d (with_links (λ _. links)) ≡ map.insert (map.insert nodes d (record new { links = links })) i y
made-nodes nodes d i links old new y there apart f is =
    let first : changed (map.insert nodes i y) d f ≡ map.insert (map.insert nodes i y) d (f old) =
    sym (changed-there (map.insert nodes i y) d f old (get_other nodes i d y apart ∙ there)) in
    ap (λ m. changed m d (with_links (λ _. links))) (first ∙ ap (map.insert (map.insert nodes i y) d) is)
    ∙ sym (changed-there (map.insert (map.insert nodes i y) d new) d (with_links (λ _. links)) new (get_new (map.insert nodes i y) d new))
    ∙ insert-insert nat_cmp_total nat_cmp-IsAntisymmetric (map.insert nodes i y) d new (record new { links = links })
    ∙ insert-turned nodes i d y (record new { links = links }) apart

pub made-steps : (fs s1 s2 s3 : Fs) (p d i number size links mode : ℕ) (bytes name : List ℕ) (kind : Kind) (old : Node) → map.get fs.nodes d ≡ Some old → d ≢ i
    → s1 ≡ with_node fs i (new_node fs.block i d mode kind)
    → s2 ≡ record s1 { nodes = changed s1.nodes d (with_sized_page number bytes size); references = one_more s1 p i }
    → s3 ≡ record s2 { nodes = changed s2.nodes d (with_links (λ _. links)) }
    → option_map (with_sized_page number bytes size) (map.get fs.nodes d) ≡ option_map (with_entry fs.block i name) (map.get fs.nodes d)
    → links ≡ links_made kind (links_of fs d)
    → s3 ≡ record fs { nodes = map.insert (changed fs.nodes d (λ node. with_links (links_made kind) (with_entry fs.block i name node))) i (new_node fs.block i d mode kind); references = one_more fs p i }
made-steps fs s1 s2 s3 p d i number size links mode bytes name kind old there apart e1 e2 e3 same set =
    let y : Node = new_node fs.block i d mode kind in
    let new : Node = with_sized_page number bytes size old in
    let entered : Node = with_entry fs.block i name old in
    let is : new ≡ entered = some_same new entered (sym (ap (option_map (with_sized_page number bytes size)) there) ∙ same ∙ ap (option_map (with_entry fs.block i name)) there) in
    let rises : links ≡ links_made kind old.links = set ∙ ap (λ o. links_made kind (at_or_0 (λ (n : Node). n.links) o)) there in
    let all : Node → Node = λ node. with_links (links_made kind) (with_entry fs.block i name node) in
    let last : record new { links = links } ≡ all old = ap (λ (n : ℕ). record new { links = n }) rises ∙ ap (with_links (links_made kind)) is in
    e3
    ∙ ap (λ (s : Fs). record s { nodes = changed s.nodes d (with_links (λ _. links)) })
    (e2 ∙ ap (λ (s : Fs). record s { nodes = changed s.nodes d (with_sized_page number bytes size); references = one_more s p i }) e1)
    ∙ ap (λ m. record fs { nodes = m; references = one_more fs p i })
    (made-nodes fs.nodes d i links old new y there apart (with_sized_page number bytes size) refl
    ∙ ap (λ n. map.insert (map.insert fs.nodes d n) i y) last
    ∙ ap (λ m. map.insert m i y) (changed-there fs.nodes d all old there))

-- the promise pays for it
pub create-steps : (fs s1 s2 : Fs) (p d i need mode : ℕ) (name : List ℕ) (kind : Kind)
    → s1 ≡ record fs { nodes = map.insert (changed fs.nodes d (λ node. with_links (links_made kind) (with_entry fs.block i name node))) i (new_node fs.block i d mode kind); references = one_more fs p i }
    → s2 ≡ record s1 { promises = spent s1 p need } → need ≡ create_need fs d name kind → s2 ≡ create_change fs p d name kind mode (Made i)
create-steps fs s1 s2 p d i need mode name kind e1 e2 paid =
    e2
    ∙ ap (λ (s : Fs). record s { promises = spent s p need }) e1
    ∙ ap (λ n. record fs {
      nodes = map.insert (changed fs.nodes d (λ node. with_links (links_made kind) (with_entry fs.block i name node))) i (new_node fs.block i d mode kind);
      references = one_more fs p i;
      promises = spent fs p n;
    }) paid

-- ---- what is known where something is made

-- nothing refers to an inode that is not there
pub unreferred : (fs : Fs) (p i : ℕ) → IsWhole fs → map.get fs.nodes i ≡ None → map.get fs.references (p, i) ≡ None
unreferred fs p i w absent =
    elim (map.get fs.references (p, i)) as (λ o. map.get fs.references (p, i) ≡ o → o ≡ None) [
      | None ↦ λ _. refl
      | Some n ↦ λ e. (let it = some_item (map.get fs.nodes i) (w.references p i n e).1 in let clash : None ≡ Some it.0 = sym absent ∙ it.1 in cc)
    ] refl

-- a number is free, and another has a node
pub free-apart : (fs : Fs) (d i : ℕ) → IsSome (map.get fs.nodes d) → map.get fs.nodes i ≡ None → d ≢ i
free-apart fs d i there absent s =
    let it = some_item (map.get fs.nodes d) there in
    let clash : None ≡ Some it.0 = sym absent ∙ ap (map.get fs.nodes) (sym s) ∙ it.1 in
    cc
