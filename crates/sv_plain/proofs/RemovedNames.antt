-- A name is removed: what the steps of the code make of the state, one after another.
use Rattle.std.proofs.Common.{◌≡◌, ◌≢◌, ℕ, ◌-◌, ◌==◌, Bool, true, false, cond, not, ◌&&◌, List, Option, Some, None, IsSome, option_map, option_and_then, sym, refl, ap, subst, ◌∙◌}
use Rattle.std.specs.Ordering.{nat_cmp, eq_by_cmp}
use Rattle.std.specs.Cmp.{nat_cmp_total, Equal-is}
use Rattle.std.specs.FinMap as map
use Rattle.std.specs.FinMap.{nat_cmp-IsAntisymmetric}
use Rattle.sv_form.specs.Node.{Node}
use Rattle.sv_plain.specs.declared.history.reply.Reply.TheVariants.{Removed}
use Rattle.sv_plain.specs.Totals.{at_or_0}
use Rattle.sv_plain.specs.Fs.{Fs, changed, insert_some, with_page, with_page_of, is_full_for}
use Rattle.sv_plain.specs.Names.{some_and, child, links_of, is_directory, is_open_to_names}
use Rattle.sv_plain.specs.Change.{without_entry, with_links, with_reference}
use Rattle.sv_plain.specs.Step.{unlink_replies, unlink_change, rmdir_change}
use Rattle.std.proofs.lemmas.Bool.{false≢true, eqb-true}
use Rattle.sv_plain.proofs.Got.{and_left, and_right, not_true}
use Rattle.sv_plain.proofs.KeepsWhole.{passes}
use Rattle.sv_plain.proofs.Counts.{same_key}
use Rattle.sv_plain.proofs.ClearedEntry.{links-set, changed-twice, unlinked}

abbrev Nodes : Type 0
Nodes = map.FinMap nat_cmp Node

-- what stands at q once the node at k was changed
at_changed : (e : Bool) (f : Node → Node) (o p : Option Node) → (e ≡ true → p ≡ o) → cond e (option_map f o) p ≡ cond e (option_map f p) p
at_changed true f o p same = ap (option_map f) (sym (same refl))
at_changed false f o p same = refl

none_or : (e : Bool) (p : Option Node) → (e ≡ true → p ≡ None) → p ≡ cond e None p
none_or true p none = none refl
none_or false p none = refl

get-changed : (m : Nodes) (k : ℕ) (f : Node → Node) (q : ℕ) → map.get (changed m k f) q ≡ cond (eq_by_cmp nat_cmp q k) (option_map f (map.get m q)) (map.get m q)
get-changed m k f q =
    let same : eq_by_cmp nat_cmp q k ≡ true → map.get m q ≡ map.get m k = λ tied. ap (map.get m) (nat_cmp-IsAntisymmetric q k ((Equal-is (nat_cmp q k)).0 tied)) in
    elim (map.get m k) as (λ o. map.get m k ≡ o → map.get (insert_some m k (option_map f o)) q ≡ cond (eq_by_cmp nat_cmp q k) (option_map f o) (map.get m q)) [
      | None ↦ λ none. none_or (eq_by_cmp nat_cmp q k) (map.get m q) (λ tied. same tied ∙ none)
      | Some node ↦ λ _. map.get-insert nat_cmp_total m k (f node) q
    ] refl
    ∙ at_changed (eq_by_cmp nat_cmp q k) f (map.get m k) (map.get m q) same

two : (a b : Bool) (f g : Node → Node) (o : Option Node) → (a ≡ true → b ≡ true → false ≡ true)
    → cond b (option_map g (cond a (option_map f o) o)) (cond a (option_map f o) o) ≡ cond a (option_map f (cond b (option_map g o) o)) (cond b (option_map g o) o)
two true true f g o apart = absurd (false≢true (apart refl refl))
two true false f g o apart = refl
two false b f g o apart = refl

-- two nodes are changed in either order
pub changed-apart : (m : Nodes) (i d : ℕ) (f g : Node → Node) → d ≢ i → changed (changed m i f) d g ≡ changed (changed m d g) i f
changed-apart m i d f g ne =
    map.same_map nat_cmp_total nat_cmp-IsAntisymmetric _ _
    (λ q.
    get-changed (changed m i f) d g q
    ∙ ap (λ o. cond (eq_by_cmp nat_cmp q d) (option_map g o) o) (get-changed m i f q)
    ∙ two (eq_by_cmp nat_cmp q i) (eq_by_cmp nat_cmp q d) f g (map.get m q)
    (λ at_i at_d. absurd (ne (sym (nat_cmp-IsAntisymmetric q d ((Equal-is (nat_cmp q d)).0 at_d)) ∙ nat_cmp-IsAntisymmetric q i ((Equal-is (nat_cmp q i)).0 at_i))))
    ∙ sym (get-changed (changed m d g) i f q ∙ ap (λ o. cond (eq_by_cmp nat_cmp q i) (option_map f o) o) (get-changed m d g q)))

-- other links leave the pages
pages_stay : (e : Bool) (page : ℕ) (f : ℕ → ℕ) (o : Option Node) → IsSome (option_and_then (λ (n : Node). map.get n.pages page) o)
    → IsSome (option_and_then (λ (n : Node). map.get n.pages page) (cond e (option_map (with_links f) o) o))
pages_stay true page f (Some node) some = some
pages_stay true page f None some = some
pages_stay false page f o some = some

pub page-still : (m : Nodes) (i d page : ℕ) (f : ℕ → ℕ) → IsSome (option_and_then (λ (n : Node). map.get n.pages page) (map.get m d))
    → IsSome (option_and_then (λ (n : Node). map.get n.pages page) (map.get (changed m i (with_links f)) d))
page-still m i d page f some =
    subst (λ o. IsSome (option_and_then (λ (n : Node). map.get n.pages page) o)) (sym (get-changed m i (with_links f) d)) (pages_stay (eq_by_cmp nat_cmp d i) page f (map.get m d) some)

less_links : (o : Option Node) → at_or_0 (λ (node : Node). node.links - 1) o ≡ at_or_0 (λ (node : Node). node.links) o - 1
less_links None = refl
less_links (Some node) = refl

links_of_page : (page : ℕ) (bytes : List ℕ) (o : Option Node) → at_or_0 (λ (node : Node). node.links - 1) (option_map (with_page page bytes) o) ≡ at_or_0 (λ (node : Node). node.links) o - 1
links_of_page page bytes None = refl
links_of_page page bytes (Some node) = refl

-- the links of inode i fall and it is referred to; then the page changes in which directory d named it
pub unlink-steps : (fs s1 s2 : Fs) (p d i page n : ℕ) (bytes name : List ℕ)
    → s1 ≡ record (with_reference fs p i) { nodes = changed fs.nodes i (with_links (λ _. n)) } → s2 ≡ with_page_of s1 d page bytes
    → changed fs.nodes d (with_page page bytes) ≡ changed fs.nodes d (without_entry fs.block name) → links_of fs i - 1 ≡ n → d ≢ i
    → s2 ≡ unlink_change fs p d name (Removed i)
unlink-steps fs s1 s2 p d i page n bytes name e1 e2 same links ne =
    let fall : ℕ → ℕ = λ l. l - 1 in
    e2 ∙ ap (λ (s : Fs). with_page_of s d page bytes) e1
    ∙ ap (λ (m : Nodes). record (with_reference fs p i) { nodes = m })
    (ap (λ (m : Nodes). changed m d (with_page page bytes)) (links-set fs.nodes i n fall (less_links (map.get fs.nodes i) ∙ links))
    ∙ changed-apart fs.nodes i d (with_links fall) (with_page page bytes) ne
    ∙ ap (λ (m : Nodes). changed m i (with_links fall)) same)

-- the same of a directory, which loses all links; then those of d fall too
pub rmdir-steps : (fs s1 s2 s3 : Fs) (p d i page n : ℕ) (bytes name : List ℕ)
    → s1 ≡ record (with_reference fs p i) { nodes = changed fs.nodes i (with_links (λ _. 0)) } → s2 ≡ with_page_of s1 d page bytes
    → s3 ≡ record s2 { nodes = changed s2.nodes d (with_links (λ _. n)) }
    → changed fs.nodes d (with_page page bytes) ≡ changed fs.nodes d (without_entry fs.block name) → links_of fs d - 1 ≡ n → d ≢ i
    → s3 ≡ rmdir_change fs p d name (Removed i)
rmdir-steps fs s1 s2 s3 p d i page n bytes name e1 e2 e3 same links ne =
    let fall : ℕ → ℕ = λ l. l - 1 in
    let page_put : Node → Node = with_page page bytes in
    let fell : at_or_0 (λ (node : Node). node.links - 1) (map.get (changed fs.nodes d page_put) d) ≡ n =
    ap (at_or_0 (λ (node : Node). node.links - 1)) (get-changed fs.nodes d page_put d ∙ ap (λ b. cond b (option_map page_put (map.get fs.nodes d)) (map.get fs.nodes d)) (same_key d))
    ∙ links_of_page page bytes (map.get fs.nodes d) ∙ links in
    e3 ∙ ap (λ (s : Fs). record s { nodes = changed s.nodes d (with_links (λ _. n)) }) (e2 ∙ ap (λ (s : Fs). with_page_of s d page bytes) e1)
    ∙ ap (λ (m : Nodes). record (with_reference fs p i) { nodes = m })
    (ap (λ (m : Nodes). changed m d (with_links (λ _. n))) (changed-apart fs.nodes i d (with_links (λ _. 0)) page_put ne)
    ∙ changed-apart (changed fs.nodes d page_put) i d (with_links (λ _. 0)) (with_links (λ _. n)) ne
    ∙ ap (λ (m : Nodes). changed m i (with_links (λ _. 0)))
    (unlinked fs.nodes d d n page_put (without_entry fs.block name) same fell
    ∙ changed-twice fs.nodes d (without_entry fs.block name) (with_links fall)))

-- a file is removed from a directory
pub unlink-apart : (fs : Fs) (d i : ℕ) (name : List ℕ) → unlink_replies fs d name (Removed i) ≡ true → d ≢ i
unlink-apart fs d i name right same =
    let test : ℕ → Bool = λ c. (c == i) && (not (is_full_for fs c) && not (is_directory fs c)) in
    let c = passes (child fs d name) test (and_right (is_open_to_names fs d) (some_and (child fs d name) test) right) in
    let is : c.0 ≡ i = eqb-true c.0 i (and_left (c.0 == i) (not (is_full_for fs c.0) && not (is_directory fs c.0)) c.2) in
    let plain : is_directory fs c.0 ≡ false = not_true (is_directory fs c.0) (and_right (not (is_full_for fs c.0)) (not (is_directory fs c.0)) (and_right (c.0 == i) (not (is_full_for fs c.0) && not (is_directory fs c.0)) c.2)) in
    let dir : is_directory fs d ≡ true = and_left (is_directory fs d) (not (links_of fs d == 0)) (and_left (is_open_to_names fs d) (some_and (child fs d name) test) right) in
    false≢true (sym (ap (is_directory fs) (same ∙ sym is) ∙ plain) ∙ dir)
