-- Which nodes have no links stays known as nodes change.
use Rattle.std.proofs.Common.{◌≡◌, ℕ, ◌==◌, Bool, true, false, cond, not, ◌&&◌, ◌||◌, if◌then◌else◌, List, Option, Some, None, IsSome, option_map, sym, refl, ap, ◌∙◌}
use Rattle.std.proofs.lemmas.Bool.{false≢true}
use Rattle.std.specs.Ordering.{nat_cmp, eq_by_cmp}
use Rattle.std.specs.Cmp.{nat_cmp_total, Equal-is}
use Rattle.std.specs.FinMap as map
use Rattle.std.specs.FinMap.{nat_cmp-IsAntisymmetric}
use Rattle.std.specs.FinSet as set
use Rattle.sv_form.specs.Node.{Node}
use Rattle.sv_plain.specs.Totals.{at_or_0}
use Rattle.sv_plain.specs.Fs.{with_page}
use Rattle.sv_form.specs.NodeChanges.{put}
use Rattle.sv_plain.specs.Unlinked.{has_no_links, AreUnlinked}
use Rattle.sv_plain.proofs.KeepsFile.{get_new}

-- the numbers with one in it or not
abbrev pub noted : Bool → set.FinSet nat_cmp → ℕ → set.FinSet nat_cmp
noted b s k = cond b (set.insert s k) (set.remove s k)

chosen : (b e c : Bool) → cond b (e || c) (not e && c) ≡ cond e b c
chosen true true c = refl
chosen true false c = refl
chosen false true c = refl
chosen false false c = refl

contains-noted : (b : Bool) (s : set.FinSet nat_cmp) (k i : ℕ) → set.contains (noted b s k) i ≡ cond (eq_by_cmp nat_cmp i k) b (set.contains s i)
contains-noted true s k i = set.contains-insert nat_cmp_total s k i ∙ chosen true (eq_by_cmp nat_cmp i k) (set.contains s i)
contains-noted false s k i = set.contains-remove nat_cmp_total s k i ∙ chosen false (eq_by_cmp nat_cmp i k) (set.contains s i)

either : (e : Bool) (node : Node) (o : Option Node) → cond e (node.links == 0) (has_no_links o) ≡ has_no_links (cond e (Some node) o)
either true node o = refl
either false node o = refl

gone : (e : Bool) (o : Option Node) → cond e false (has_no_links o) ≡ has_no_links (cond e None o)
gone true o = refl
gone false o = refl

module _ (nodes : map.FinMap nat_cmp Node) (s : set.FinSet nat_cmp) (h : AreUnlinked nodes s) where
  pub unlinked-insert : (k : ℕ) (node : Node) → AreUnlinked (map.insert nodes k node) (noted (node.links == 0) s k)
  unlinked-insert k node i =
      contains-noted (node.links == 0) s k i
      ∙ ap (cond (eq_by_cmp nat_cmp i k) (node.links == 0)) (h i)
      ∙ either (eq_by_cmp nat_cmp i k) node (map.get nodes i)
      ∙ ap has_no_links (sym (map.get-insert nat_cmp_total nodes k node i))

  pub unlinked-remove : (k : ℕ) → AreUnlinked (map.remove nodes k) (set.remove s k)
  unlinked-remove k i =
      contains-noted false s k i
      ∙ ap (cond (eq_by_cmp nat_cmp i k) false) (h i)
      ∙ gone (eq_by_cmp nat_cmp i k) (map.get nodes i)
      ∙ ap has_no_links (sym (map.get-remove nat_cmp_total nodes k i))

  same_links : (o : Option Node) (node : Node) → option_map (λ (n : Node). n.links) o ≡ Some node.links → has_no_links o ≡ (node.links == 0)
  same_links None node e = cc
  same_links (Some n) node e = ap (λ p. at_or_0 (λ l. l) p == 0) e

  kept_at : (e : Bool) (node : Node) (o : Option Node) → (e ≡ true → has_no_links o ≡ (node.links == 0)) → has_no_links o ≡ has_no_links (cond e (Some node) o)
  kept_at true node o same = same refl
  kept_at false node o same = refl

  -- a node with as many links in place of another
  pub unlinked-swap : (k : ℕ) (node : Node) → option_map (λ (n : Node). n.links) (map.get nodes k) ≡ Some node.links → AreUnlinked (map.insert nodes k node) s
  unlinked-swap k node e i =
      h i
      ∙ kept_at (eq_by_cmp nat_cmp i k) node (map.get nodes i)
      (λ tied. ap (λ q. has_no_links (map.get nodes q)) (nat_cmp-IsAntisymmetric i k ((Equal-is (nat_cmp i k)).0 tied)) ∙ same_links (map.get nodes k) node e)
      ∙ ap has_no_links (sym (map.get-insert nat_cmp_total nodes k node i))

  back : (e b : Bool) (o : Option Node) → (e ≡ true → o ≡ None) → cond e false (cond e b (has_no_links o)) ≡ has_no_links o
  back true b o none = ap has_no_links (sym (none refl))
  back false b o none = refl

  -- a number that was noted for a node that did not come
  pub unlinked-undone : (k : ℕ) (b : Bool) → map.get nodes k ≡ None → AreUnlinked nodes (set.remove (noted b s k) k)
  unlinked-undone k b absent i =
      contains-noted false (noted b s k) k i
      ∙ ap (cond (eq_by_cmp nat_cmp i k) false) (contains-noted b s k i ∙ ap (cond (eq_by_cmp nat_cmp i k) b) (h i))
      ∙ back (eq_by_cmp nat_cmp i k) b (map.get nodes i)
      (λ tied. ap (map.get nodes) (nat_cmp-IsAntisymmetric i k ((Equal-is (nat_cmp i k)).0 tied)) ∙ absent)

pub none_unlinked : AreUnlinked map.empty set.empty
none_unlinked i = set.contains-empty nat_cmp i ∙ ap has_no_links (sym (map.get-empty nat_cmp i))

-- what is there has its links
pub its-links : (o : Option Node) → IsSome o → option_map (λ (n : Node). n.links) o ≡ Some (at_or_0 (λ (n : Node). n.links) o)
its-links None h = absurd (false≢true h)
its-links (Some node) h = refl

-- what stands in for a node while that is worked on has as many links
pub links-swap : (nodes : map.FinMap nat_cmp Node) (k : ℕ) (dummy node other : Node) → map.get nodes k ≡ Some node → dummy.links ≡ at_or_0 (λ (n : Node). n.links) (map.get nodes k) → other.links ≡ node.links
    → option_map (λ (n : Node). n.links) (map.get (map.insert nodes k dummy) k) ≡ Some other.links
links-swap nodes k dummy node other there its same =
    ap (option_map (λ (n : Node). n.links)) (get_new nodes k dummy) ∙ ap Some (its ∙ ap (at_or_0 (λ (n : Node). n.links)) there ∙ sym same)

-- bytes that are put leave the links
pub put-links : (block : ℕ) (node : Node) (at : ℕ) (bytes : List ℕ) → (put block node at bytes).links ≡ node.links
unfolding put
put-links block node at bytes = refl

-- a page more or not, the links stay
pub page_or_not-links : (b : Bool) (page : ℕ) (bytes : List ℕ) (node : Node) → (if b then with_page page bytes node else node).links ≡ node.links
page_or_not-links true page bytes node = refl
page_or_not-links false page bytes node = refl
