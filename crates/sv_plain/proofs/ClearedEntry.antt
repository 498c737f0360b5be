-- A directory whose entry is cleared: one page of it changes, which is there.
use Rattle.std.proofs.Common.{◌≡◌, ◌≤◌, ◌<◌, ℕ, ◌+◌, ◌-◌, ◌*◌, ◌/◌, ◌%◌, ◌==◌, Bool, true, false, cond, max, Result, Ok, Err, IfOk, List, [], ◌∷◌, length, replicate, Option, Some, None, IsSome, option_map, option_and_then, unwrap_or, if◌then◌else◌, sym, refl, ap, subst, ◌∙◌, arith}
use Rattle.std.proofs.Math.Nat.{div-div-eq-div-mul, mod-add-div}
use Rattle.std.specs.List.{range_with_len}
use Rattle.std.specs.Cmp.{nat_cmp_total}
use Rattle.std.specs.Ordering.{nat_cmp, eq_by_cmp}
use Rattle.std.specs.FinMap as fmap
use Rattle.sv_form.specs.Node.{Node, entry_count, entry_inode}
use Rattle.sv_plain.specs.Fs.{Fs, changed, insert_some, with_page, with_page_of, page_of, is_live}
use Rattle.sv_plain.specs.Names.{place_of, child_of, child, links_of, is_open_to_names}
use Rattle.sv_form.specs.NodeChanges.{touched, page_after, with_pages, put}
use Rattle.sv_plain.specs.declared.history.reply.Reply.TheVariants.{Removed}
use Rattle.sv_plain.specs.Step.{rmdir_change}
use Rattle.sv_plain.specs.Totals.{at_or_0}
use Rattle.sv_plain.specs.Whole.{IsWhole, IsDirectory}
use Rattle.sv_plain.specs.Change.{without_entry, with_links, with_reference}
use Rattle.std.specs.FinMap.{nat_cmp-IsAntisymmetric}
use Rattle.sv_plain.proofs.Counts.{same_key}
use Rattle.sv_plain.proofs.Undone.{insert-insert}
use Rattle.sv_plain.proofs.KeepsWhole.{place-of, live-of}

in_sixteen : (j r : ℕ) → r < 16 → (16 * j + r) / 16 ≡ 16 * j / 16
in_sixteen j r small = omega (arith, small)

-- an entry lies in one page
within_page : (block j r : ℕ) → block % 16 ≡ 0 → r < 16 → (16 * j + r) / block ≡ 16 * j / block
within_page block j r whole small =
    let b : ℕ = block / 16 in
    let e : block ≡ 16 * b = omega (arith, whole) in
    ap (λ n. (16 * j + r) / n) e
    ∙ sym (div-div-eq-div-mul (16 * j + r) 16 b)
    ∙ ap (λ n. n / b) (in_sixteen j r small)
    ∙ div-div-eq-div-mul (16 * j) 16 b
    ∙ ap (λ n. 16 * j / n) (sym e)

its_page : (block j : ℕ) → block % 16 ≡ 0 → touched block (16 * j) 16 ≡ 16 * j / block ∷ []
its_page block j whole =
    let last : (16 * j + 16 - 1) / block ≡ 16 * j / block = ap (λ k. k / block) (omega arith) ∙ within_page block j 15 whole (omega arith) in
    let one : (16 * j + 16 - 1) / block - 16 * j / block + 1 ≡ 1 = omega (arith, last) in
    ap (λ n. range_with_len (16 * j / block) n) one

-- the page once sixteen bytes were put at entry j
abbrev pub page_with : ℕ → Node → ℕ → List ℕ → List ℕ
page_with block node j bytes = page_after block node (16 * j) bytes (16 * j / block)

-- what a page begins at lies before each of its bytes
pub begins_before : (block k : ℕ) → k / block * block ≤ k
begins_before block k = (let whole : k / block * block + k % block ≡ k = grind (arith, mod-add-div k block) in omega (arith, whole))

-- within the size, sixteen bytes put at an entry change its page alone
put-inside : (block : ℕ) (node : Node) (j : ℕ) → block % 16 ≡ 0 → j < entry_count node → put block node (16 * j) (replicate 16 0) ≡ with_page (16 * j / block) (page_with block node j (replicate 16 0)) node
unfolding put
put-inside block node j whole within =
    let size : max node.size (16 * j + 16) ≡ node.size = omega (arith, within) in
    (λ i. record node {
      pages = with_pages node.pages (page_after block node (16 * j) (replicate 16 0)) (its_page block j whole i);
      size = size i;
    })

-- the entry with the name, cleared
pub cleared : (block : ℕ) (node : Node) (name : List ℕ) (j : ℕ) → block % 16 ≡ 0 → place_of block node name ≡ Some j
    → without_entry block name node ≡ with_page (16 * j / block) (page_with block node j (replicate 16 0)) node
cleared block node name j whole e =
    ap (λ o. put block node (16 * unwrap_or o 0) (replicate 16 0)) e ∙ put-inside block node j whole (place-of block node name j e).0

-- the page is there
pub cleared-there : (fs : Fs) (d : ℕ) (node : Node) (name : List ℕ) (j : ℕ) → IsWhole fs → is_open_to_names fs d ≡ true → fmap.get fs.nodes d ≡ Some node → place_of fs.block node name ≡ Some j
    → IsSome (page_of fs d (16 * j / fs.block))
cleared-there fs d node name j w opened there e =
    let is = w.directories d node there (live-of fs d node there opened) in
    let within = (place-of fs.block node name j e).0 in
    let here : 16 * j / fs.block * fs.block < node.size = omega (arith, begins_before fs.block (16 * j), within) in
    subst (λ (o : Option Node). IsSome (option_and_then (λ (n : Node). fmap.get n.pages (16 * j / fs.block)) o)) (sym there) (is.present (16 * j / fs.block) here)

pub cleared-in : (fs : Fs) (d : ℕ) (node : Node) (name : List ℕ) (j : ℕ) → IsWhole fs → fmap.get fs.nodes d ≡ Some node → place_of fs.block node name ≡ Some j
    → changed fs.nodes d (with_page (16 * j / fs.block) (page_with fs.block node j (replicate 16 0))) ≡ changed fs.nodes d (without_entry fs.block name)
cleared-in fs d node name j w there e =
    ap (λ o. insert_some fs.nodes d (option_map (with_page (16 * j / fs.block) (page_with fs.block node j (replicate 16 0))) o)) there
    ∙ ap (λ n. fmap.insert fs.nodes d n) (sym (cleared fs.block node name j w.sized.entries e))
    ∙ sym (ap (λ o. insert_some fs.nodes d (option_map (without_entry fs.block name) o)) there)

pub if_ok : {T E : Type 0} (r : Result T E) (P Q : T → Type 0) → IfOk r P → ((x : T) → P x → Q x) → IfOk r Q
if_ok (Ok x) P Q h f = f x h
if_ok (Err e) P Q h f = tt

either : {A : Type 0} (b : Bool) (x : A) (o : Option A) → IsSome o → IsSome (cond b (Some x) o)
either true x o h = refl
either false x o h = h

-- a node that is changed is still there, and so are the others
pub still-there : (nodes : fmap.FinMap nat_cmp Node) (d i : ℕ) (f : Node → Node) → IsSome (fmap.get nodes i) → IsSome (fmap.get (changed nodes d f) i)
still-there nodes d i f there =
    elim (fmap.get nodes d) as (λ o. IsSome (fmap.get (insert_some nodes d (option_map f o)) i)) [
      | None ↦ there
      | Some node ↦ subst IsSome (sym (fmap.get-insert nat_cmp_total nodes d (f node) i)) (either (eq_by_cmp nat_cmp i d) (f node) (fmap.get nodes i) there)
    ]

-- links that were set to what f makes of them
pub links-set : (nodes : fmap.FinMap nat_cmp Node) (i n : ℕ) (f : ℕ → ℕ) → at_or_0 (λ (node : Node). f node.links) (fmap.get nodes i) ≡ n → changed nodes i (with_links (λ _. n)) ≡ changed nodes i (with_links f)
links-set nodes i n f e =
    elim (fmap.get nodes i) as (λ o. at_or_0 (λ (node : Node). f node.links) o ≡ n → insert_some nodes i (option_map (with_links (λ _. n)) o) ≡ insert_some nodes i (option_map (with_links f) o)) [
      | None ↦ λ _. refl
      | Some node ↦ λ h. ap (λ (m : ℕ). fmap.insert nodes i (record node { links = m })) (sym h)
    ] e

-- a node changed twice
pub changed-twice : (nodes : fmap.FinMap nat_cmp Node) (d : ℕ) (f g : Node → Node) → changed (changed nodes d f) d g ≡ changed nodes d (λ node. g (f node))
changed-twice nodes d f g =
    elim (fmap.get nodes d) as (λ o. fmap.get nodes d ≡ o → insert_some (insert_some nodes d (option_map f o)) d (option_map g (fmap.get (insert_some nodes d (option_map f o)) d)) ≡ insert_some nodes d (option_map (λ node. g (f node)) o)) [
      | None ↦ λ none. ap (λ o. insert_some nodes d (option_map g o)) none
      | Some node ↦ λ _.
          ap (λ o. insert_some (fmap.insert nodes d (f node)) d (option_map g o)) (fmap.get-insert nat_cmp_total nodes d (f node) d ∙ ap (λ b. cond b (Some (f node)) (fmap.get nodes d)) (same_key d))
          ∙ insert-insert nat_cmp_total nat_cmp-IsAntisymmetric nodes d (f node) (g (f node))
    ] refl

-- a name removed: the entry is cleared, and the links of its inode fall
pub unlinked : (nodes : fmap.FinMap nat_cmp Node) (d i n : ℕ) (f g : Node → Node) → changed nodes d f ≡ changed nodes d g → at_or_0 (λ (node : Node). node.links - 1) (fmap.get (changed nodes d f) i) ≡ n
    → changed (changed nodes d f) i (with_links (λ _. n)) ≡ changed (changed nodes d g) i (with_links (λ links. links - 1))
unlinked nodes d i n f g same e = links-set (changed nodes d f) i n (λ links. links - 1) e ∙ ap (λ m. changed m i (with_links (λ links. links - 1))) same

-- a directory removed: besides, the links of the one above fall
pub pruned : (nodes : fmap.FinMap nat_cmp Node) (d i n : ℕ) (f g : Node → Node) → changed nodes d f ≡ changed nodes d g → at_or_0 (λ (node : Node). node.links - 1) (fmap.get (changed nodes d f) d) ≡ n
    → changed (changed (changed nodes d f) d (with_links (λ _. n))) i (with_links (λ _. 0)) ≡ changed (changed nodes d (λ node. with_links (λ links. links - 1) (g node))) i (with_links (λ _. 0))
pruned nodes d i n f g same e =
    ap (λ m. changed m i (with_links (λ _. 0)))
    (unlinked nodes d d n f g same e ∙ changed-twice nodes d g (with_links (λ links. links - 1)))

less_links : (o : Option Node) → at_or_0 (λ (node : Node). node.links - 1) o ≡ at_or_0 (λ (node : Node). node.links) o - 1
less_links None = refl
less_links (Some node) = refl

-- the five changes of a directory's removal, one after another
pub rmdir-steps : (fs s1 s2 s3 s4 : Fs) (p d i page n : ℕ) (bytes name : List ℕ)
    → s1 ≡ with_reference fs p i → s2 ≡ with_page_of s1 d page bytes
    → s3 ≡ record s2 { nodes = changed s2.nodes d (with_links (λ _. n)) } → s4 ≡ record s3 { nodes = changed s3.nodes i (with_links (λ _. 0)) }
    → changed fs.nodes d (with_page page bytes) ≡ changed fs.nodes d (without_entry fs.block name) → links_of s2 d - 1 ≡ n
    → s4 ≡ rmdir_change fs p d name (Removed i)
rmdir-steps fs s1 s2 s3 s4 p d i page n bytes name e1 e2 e3 e4 same links =
    let fell : at_or_0 (λ (node : Node). node.links - 1) (fmap.get (changed fs.nodes d (with_page page bytes)) d) ≡ n =
    less_links (fmap.get (changed fs.nodes d (with_page page bytes)) d)
    ∙ ap (λ (s : Fs). links_of s d - 1) (sym (e2 ∙ ap (λ (s : Fs). with_page_of s d page bytes) e1)) ∙ links in
    e4
    ∙ ap (λ (s : Fs). record s { nodes = changed s.nodes i (with_links (λ _. 0)) }) (e3 ∙ ap (λ (s : Fs). record s { nodes = changed s.nodes d (with_links (λ _. n)) }) (e2 ∙ ap (λ (s : Fs). with_page_of s d page bytes) e1))
    ∙ ap (λ m. record (with_reference fs p i) { nodes = m }) (pruned fs.nodes d i n (with_page page bytes) (without_entry fs.block name) same fell)
