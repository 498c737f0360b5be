-- A node to which all its pages were put is the node of its inode.
use Rattle.std.proofs.Common.{◌≡◌, ◌≢◌, ◌≤◌, ◌+◌, ◌==◌, ◌%◌, ◌++◌, ◌∷◌, [], ◌∙◌, ℕ, Bool, true, false, List, Option, Some, None, IsSome, inl, inr, ap, sym, refl, subst, cond, if◌then◌else◌, map, filter, option_and_then, option_map, append_assoc, arith}
use Rattle.std.specs.Ordering.{nat_cmp, eq_by_cmp}
use Rattle.std.specs.Cmp.{nat_cmp_total}
use Rattle.std.specs.FinMap as fmap
use Rattle.std.specs.FinMap.{nat_cmp-IsAntisymmetric}
use Rattle.std.proofs.lemmas.Bool.{cases_eq}
use Rattle.std.proofs.lemmas.List.{append-nil}
use Rattle.sv_form.specs.declared.geometry.Geometry.{Geometry}
use Rattle.sv_form.specs.declared.inode.InodeBody.{InodeBody}
use Rattle.sv_form.specs.declared.kind.Kind.{Kind}
use Rattle.sv_form.specs.declared.kind.Kind.TheVariants.{File, Dir}
use Rattle.sv_form.specs.Image.{block_of}
use Rattle.sv_form.specs.Node.{Node, is_dir}
use Rattle.sv_form.specs.Number.{number16}
use Rattle.sv_plain.specs.Fs.{Fs, insert_some, node_without_pages, page_of, with_node, with_page, with_page_of}
use Rattle.sv_check.specs.InodeList.{is_directory, links_of}
use Rattle.sv_check.specs.Loaded.{HasHead, with_all_reached, with_inode}
use Rattle.sv_check.specs.Pages.{IsAscending, pages_among}
use Rattle.sv_check.specs.Sound.{is_page, node_of}
use Rattle.sv_check.specs.Walk.{Reached, reached}
use Rattle.sv_check.proofs.LoadSteps.{get-here, get-other, other_key}
use Rattle.sv_check.proofs.PageOrder.{reached-ascends, top}

abbrev Pages : Type 0
Pages = fmap.FinMap nat_cmp (List ℕ)

-- the second of two insertions at one key stays
insert-twice : (m : fmap.FinMap nat_cmp Node) (k : ℕ) (v w : Node) → fmap.insert (fmap.insert m k v) k w ≡ fmap.insert m k w
insert-twice m k v w =
    fmap.same_map nat_cmp_total nat_cmp-IsAntisymmetric _ _
    (λ q. elim (cases_eq q k) as (λ _. fmap.get (fmap.insert (fmap.insert m k v) k w) q ≡ fmap.get (fmap.insert m k w) q) [
      | inl e ↦ subst (λ (x : ℕ). fmap.get (fmap.insert (fmap.insert m k v) k w) x ≡ fmap.get (fmap.insert m k w) x) (sym e) (get-here (fmap.insert m k v) k w ∙ sym (get-here m k w))
      | inr ne ↦ get-other (fmap.insert m k v) k w q ne ∙ get-other m k v q ne ∙ sym (get-other m k w q ne)
    ])

module _ (g : Geometry) (image : List ℕ) (n : ℕ) where
  page-on-node : (fs : Fs) (node : Node) (page : ℕ) (bytes : List ℕ) → with_page_of (with_node fs n node) n page bytes ≡ with_node fs n (with_page page bytes node)
  page-on-node fs node page bytes =
      ap (λ (m : fmap.FinMap nat_cmp Node). record fs { nodes = m })
      (ap (λ (o : Option Node). insert_some (fmap.insert fs.nodes n node) n (option_map (with_page page bytes) o)) (get-here fs.nodes n node)
      ∙ insert-twice fs.nodes n node (with_page page bytes node))

  -- the pages after these blocks
  abbrev pages_after : Pages → List Reached → Pages
  pages_after m [] = m
  pages_after m (r ∷ rest) = pages_after (if r.height == 0 then fmap.insert m r.page (block_of g image r.block) else m) rest

  on-node : (fs : Fs) (node : Node) (rs : List Reached) → with_all_reached g image n (with_node fs n node) rs ≡ with_node fs n (record node { pages = pages_after node.pages rs })
  unfolding with_all_reached
  on-node fs node [] = refl
  on-node fs node (r ∷ rest) = by_height (λ other. on-node fs other rest) (r.height == 0) where
    by_height : ((other : Node) → with_all_reached g image n (with_node fs n other) rest ≡ with_node fs n (record other { pages = pages_after other.pages rest }))
        → (t : Bool) → with_all_reached g image n (if t then with_page_of (with_node fs n node) n r.page (block_of g image r.block) else with_node fs n node) rest
        ≡ with_node fs n (record node { pages = pages_after (if t then fmap.insert node.pages r.page (block_of g image r.block) else node.pages) rest })
    by_height later true =
        ap (λ (s : Fs). with_all_reached g image n s rest) (page-on-node fs node r.page (block_of g image r.block)) ∙ later (with_page r.page (block_of g image r.block) node)
    by_height later false = later node

  -- a page as an entry of the node's map
  abbrev entry : Reached → ℕ × List ℕ
  entry r = (r.page, block_of g image r.block)

  found-last : (es : List (ℕ × List ℕ)) (k p : ℕ) (v : List ℕ) → fmap.find nat_cmp k es ≡ None → k ≢ p → fmap.find nat_cmp k (es ++ (p, v) ∷ []) ≡ None
  found-last [] k p v none ne = ap (λ (t : Bool). cond t (Some v) None) (other_key k p ne)
  found-last (e ∷ es) k p v none ne = by_test (λ less. found-last es k p v less ne) (eq_by_cmp nat_cmp k e.0) none where
    by_test : (fmap.find nat_cmp k es ≡ None → fmap.find nat_cmp k (es ++ (p, v) ∷ []) ≡ None) → (t : Bool) → cond t (Some e.1) (fmap.find nat_cmp k es) ≡ None → cond t (Some e.1) (fmap.find nat_cmp k (es ++ (p, v) ∷ [])) ≡ None
    by_test rest true found = let bad : ⊥ = cc found in absurd bad
    by_test rest false found = rest found

  -- pages that ascend, past all that are there
  pages-all : (low high : ℕ) (rs : List Reached) (done : List (ℕ × List ℕ)) → IsAscending low (pages_among rs) high → ((k : ℕ) → low ≤ k → fmap.find nat_cmp k done ≡ None)
      → pages_after (fmap.from_entries done) rs ≡ fmap.from_entries (done ++ map entry (filter is_page rs))
  pages-all low high [] done up none = ap fmap.from_entries (sym (append-nil done))
  pages-all low high (r ∷ rest) done up none = by_height (λ from es asc free. pages-all from high rest es asc free) (r.height == 0) up where
    by_height : ((from : ℕ) (es : List (ℕ × List ℕ)) → IsAscending from (pages_among rest) high → ((k : ℕ) → from ≤ k → fmap.find nat_cmp k es ≡ None)
        → pages_after (fmap.from_entries es) rest ≡ fmap.from_entries (es ++ map entry (filter is_page rest)))
        → (t : Bool) → IsAscending low ((if t then record { page = r.page; block = r.block } ∷ [] else []) ++ pages_among rest) high
        → pages_after (if t then fmap.insert (fmap.from_entries done) r.page (block_of g image r.block) else fmap.from_entries done) rest
        ≡ fmap.from_entries (done ++ map entry (cond t (r ∷ filter is_page rest) (filter is_page rest)))
    by_height later false up = later low done up none
    by_height later true up =
        ap (λ (m : Pages). pages_after m rest) (sym (fmap.from_entries_push nat_cmp_total nat_cmp-IsAntisymmetric done r.page (block_of g image r.block) (none r.page up.0)))
        ∙ later (r.page + 1) (done ++ entry r ∷ []) up.1
        (λ k past. found-last done k r.page (block_of g image r.block) (none k (let first = up.0 in omega (arith, first, past))) (λ e. omega (arith, e, past)))
        ∙ ap fmap.from_entries (append_assoc done (entry r ∷ []) (map entry (filter is_page rest)))

  kind-is : (k : Kind) (t : Bool) → t ≡ is_dir k → k ≡ (if t then Dir else File)
  kind-is File t e = ap (λ (b : Bool). if b then Dir else File) (sym e)
  kind-is Dir t e = ap (λ (b : Bool). if b then Dir else File) (sym e)

  -- a node without pages to which all pages that the inode reaches were put
  pub loaded-node : (inode : List ℕ) (b : InodeBody) → HasHead inode b → (s0 s1 s2 : Fs) → s1 ≡ with_node s0 n (node_without_pages b.kind b.mode b.links b.size)
      → s2 ≡ with_all_reached g image n s1 (reached g image inode) → s2 ≡ with_node s0 n (node_of g image inode)
  unfolding node_of
  loaded-node inode b head s0 s1 s2 one two =
      let pages : Pages = fmap.from_entries (map entry (filter is_page (reached g image inode))) in
      two ∙ ap (λ (s : Fs). with_all_reached g image n s (reached g image inode)) one
      ∙ on-node s0 (node_without_pages b.kind b.mode b.links b.size) (reached g image inode)
      ∙ ap (λ (m : Pages). with_node s0 n (record { kind = b.kind; mode = b.mode; links = b.links; size = b.size; pages = m }))
      (pages-all 0 (top g image) (reached g image inode) [] (reached-ascends g image inode) (λ k low. refl))
      ∙ ap (λ (k : Kind). with_node s0 n (record { kind = k; mode = b.mode; links = b.links; size = b.size; pages = pages })) (kind-is b.kind (is_directory inode) head.directory)
      ∙ ap (λ (x : ℕ). with_node s0 n (record { kind = if is_directory inode then Dir else File; mode = x; links = b.links; size = b.size; pages = pages })) (sym head.mode)
      ∙ ap (λ (x : ℕ). with_node s0 n (record { kind = if is_directory inode then Dir else File; mode = number16 inode 0 % 4096; links = x; size = b.size; pages = pages })) (sym head.links)
      ∙ ap (λ (x : ℕ). with_node s0 n (record { kind = if is_directory inode then Dir else File; mode = number16 inode 0 % 4096; links = links_of inode; size = x; pages = pages })) (sym head.size)

  -- a node that was added without pages is there, and has none
  pub added-there : (s0 s1 : Fs) (k : Kind) (mode links size : ℕ) → s1 ≡ with_node s0 n (node_without_pages k mode links size) → IsSome (fmap.get s1.nodes n)
  added-there s0 s1 k mode links size one =
      subst (λ (s : Fs). IsSome (fmap.get s.nodes n)) (sym one)
      (subst (λ (o : Option Node). IsSome o) (sym (get-here s0.nodes n (node_without_pages k mode links size))) refl)

  pub added-empty : (s0 s1 : Fs) (k : Kind) (mode links size : ℕ) → s1 ≡ with_node s0 n (node_without_pages k mode links size) → (page : ℕ) → page_of s1 n page ≡ None
  added-empty s0 s1 k mode links size one page =
      ap (λ (s : Fs). page_of s n page) one
      ∙ ap (λ (o : Option Node). option_and_then (λ (node : Node). fmap.get node.pages page) o) (get-here s0.nodes n (node_without_pages k mode links size))
      ∙ fmap.get-empty nat_cmp page

  -- and it is the node of the inode, if all its pages were put in
  pub loaded-inode : (inode : List ℕ) (b : InodeBody) → HasHead inode b → (s0 s1 s2 : Fs) → s1 ≡ with_node s0 n (node_without_pages b.kind b.mode b.links b.size)
      → s2 ≡ with_all_reached g image n s1 (reached g image inode) → s2 ≡ with_inode g image s0 n inode
  loaded-inode inode b head s0 s1 s2 one two =
      loaded-node inode b head s0 s1 s2 one two ∙ ap (λ (t : Bool). if t then s0 else with_node s0 n (node_of g image inode)) (sym head.used)
