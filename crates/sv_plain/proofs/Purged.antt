-- Nodes that no name leads to, where nothing is referred to: they go one after another.
use Rattle.std.proofs.Common.{◌≡◌, ◌≤◌, ◌<◌, inl, inr, ℕ, ◌+◌, ◌-◌, ◌==◌, Bool, true, false, cond, not, ◌&&◌, List, length, Option, Some, None, IsSome, IfSome, IfNone, is_some, sym, refl, ap, subst, ◌∙◌, arith}
use Rattle.std.proofs.lemmas.Bool.{eqb-true, ne_eqb, eq-eqb, cases_eq, false≢true}
use Rattle.std.specs.Ordering.{nat_cmp, eq_by_cmp}
use Rattle.std.specs.Cmp.{nat_cmp_total, Equal-is}
use Rattle.std.specs.FinMap as map
use Rattle.std.specs.FinMap.{nat_cmp-IsAntisymmetric}
use Rattle.sv_form.specs.Node.{Node}
use Rattle.sv_plain.specs.Fs.{Fs, holders, is_referenced}
use Rattle.sv_plain.specs.Totals.{at_or_0}
use Rattle.sv_plain.specs.Names.{is_idle, is_lost}
use Rattle.sv_plain.specs.Change.{without_node, without_lost}
use Rattle.sv_plain.specs.Step.{has_lost}
use Rattle.sv_plain.specs.Unlinked.{has_no_links}
use Rattle.sv_plain.proofs.Beginnings.{no_holders}
use Rattle.sv_plain.proofs.Got.{and_left, and_right}
use Rattle.sv_plain.proofs.KeepsPurge.{few-left}

both_true : (b : Bool) → (b && true) ≡ b
both_true true = refl
both_true false = refl

-- what stays at q once the nodes without links are taken out
abbrev stays : Option Node → Option Node
stays o = cond (not (has_no_links o)) o None

stays_none : (o : Option Node) → has_no_links o ≡ true → stays o ≡ None
stays_none o e = ap (λ b. cond (not b) o None) e

stays_some : (o : Option Node) → has_no_links o ≡ false → stays o ≡ o
stays_some o e = ap (λ b. cond (not b) o None) e

module _ (fs : Fs) (idle : is_idle fs ≡ true) where
  no_references : fs.references ≡ map.empty
  no_references = map.empty_of_len fs.references (eqb-true (map.len fs.references) 0 (and_left (map.len fs.references == 0) (map.len fs.files == 0) idle))

  no_files : fs.files ≡ map.empty
  no_files = map.empty_of_len fs.files (eqb-true (map.len fs.files) 0 (and_right (map.len fs.references == 0) (map.len fs.files == 0) idle))

  unreferenced : (i : ℕ) → is_referenced fs i ≡ false
  unreferenced i = ap (λ n. not (n == 0)) ((λ k. holders (no_references k) (no_files k) i) ∙ no_holders i)

  lost_or_linked : (o : Option Node) → (is_some o && (at_or_0 (λ (n : Node). n.links) o == 0) && true) ≡ has_no_links o
  lost_or_linked None = refl
  lost_or_linked (Some node) = both_true (node.links == 0)

  -- what is lost is what has no links
  pub lost-unlinked : (i : ℕ) → is_lost fs i ≡ has_no_links (map.get fs.nodes i)
  lost-unlinked i =
      ap (λ b. is_some (map.get fs.nodes i) && (at_or_0 (λ (n : Node). n.links) (map.get fs.nodes i) == 0) && not b) (unreferenced i)
      ∙ lost_or_linked (map.get fs.nodes i)

  pub get-left : (q : ℕ) → map.get (without_lost fs).nodes q ≡ stays (map.get fs.nodes q)
  get-left q =
      map.get-retain_keys fs.nodes (λ i. not (is_lost fs i)) q (λ x tied. ap (λ i. not (is_lost fs i)) (sym (nat_cmp-IsAntisymmetric q x tied)))
      ∙ ap (λ b. cond (not b) (map.get fs.nodes q) None) (lost-unlinked q)

  -- where all have links, none goes
  pub purge-end : ((i : ℕ) → has_no_links (map.get fs.nodes i) ≡ false) → without_lost fs ≡ fs
  purge-end none =
      ap (λ m. record fs { nodes = m })
      (map.same_map nat_cmp_total nat_cmp-IsAntisymmetric _ _ (λ q. get-left q ∙ stays_some (map.get fs.nodes q) (none q)))

removed_or_not : (b : Bool) (o : Option Node) → (b ≡ true → has_no_links o ≡ true) → stays (cond b None o) ≡ stays o
removed_or_not true o e = sym (stays_none o (e refl))
removed_or_not false o e = refl

-- one that goes first changes nothing of what stays
pub purge-step : (fs : Fs) (i : ℕ) → is_idle fs ≡ true → has_no_links (map.get fs.nodes i) ≡ true → without_lost (without_node fs i) ≡ without_lost fs
purge-step fs i idle gone =
    ap (λ m. record fs { nodes = m })
    (map.same_map nat_cmp_total nat_cmp-IsAntisymmetric _ _
    (λ q. get-left (without_node fs i) idle q
    ∙ ap stays (map.get-remove nat_cmp_total fs.nodes i q)
    ∙ removed_or_not (eq_by_cmp nat_cmp q i) (map.get fs.nodes q)
    (λ tied. ap (λ k. has_no_links (map.get fs.nodes k)) (nat_cmp-IsAntisymmetric q i ((Equal-is (nat_cmp q i)).0 tied)) ∙ gone)
    ∙ sym (get-left fs idle q)))

some_entry : (nodes : map.FinMap nat_cmp Node) (i : ℕ) → map.contains_key nodes i ≡ true → 1 ≤ map.len nodes
some_entry nodes i known =
    elim (cases_eq (map.len nodes) 0) [
      | inl none ↦ absurd (false≢true (sym (ap is_some (ap (λ (m : map.FinMap nat_cmp Node). map.get m i) (map.empty_of_len nodes none) ∙ map.get-empty nat_cmp i)) ∙ known))
      | inr some ↦ omega (arith, some)
    ]

there : (o : Option Node) → has_no_links o ≡ true → is_some o ≡ true
there None e = absurd (false≢true e)
there (Some node) e = refl

-- each that goes makes the map smaller
pub purge-less : (nodes : map.FinMap nat_cmp Node) (i : ℕ) → has_no_links (map.get nodes i) ≡ true → map.len (map.remove nodes i) < map.len nodes
purge-less nodes i gone =
    let known : map.contains_key nodes i ≡ true = there (map.get nodes i) gone in
    let less : map.len (map.remove nodes i) ≡ map.len nodes - 1 = map.len-remove nat_cmp_total nodes i ∙ ap (λ b. cond b (map.len nodes - 1) (map.len nodes)) known in
    let some = some_entry nodes i known in
    omega (arith, less, some)

-- something is lost exactly where a node without links is found
pub lost-some : (fs : Fs) (i : ℕ) → is_idle fs ≡ true → has_no_links (map.get fs.nodes i) ≡ true → has_lost fs ≡ true
lost-some fs i idle gone =
    let same = ap (λ (s : Fs). map.len s.nodes) (purge-step fs i idle gone) in
    let few = few-left (without_node fs i) (is_lost (without_node fs i)) in
    let less = purge-less fs.nodes i gone in
    ap not (ne_eqb (map.len (without_lost fs).nodes) (map.len fs.nodes) (λ e. absurd (omega (arith, same, few, less, e))))

pub lost-none : (fs : Fs) → is_idle fs ≡ true → ((i : ℕ) → has_no_links (map.get fs.nodes i) ≡ false) → has_lost fs ≡ false
lost-none fs idle none = ap not (eq-eqb (map.len (without_lost fs).nodes) (map.len fs.nodes) (ap (λ (s : Fs). map.len s.nodes) (purge-end fs idle none)))

pub lost-found : (fs : Fs) (o : Option ℕ) → is_idle fs ≡ true → IfSome o (λ i. has_no_links (map.get fs.nodes i) ≡ true) → IfNone o ((i : ℕ) → has_no_links (map.get fs.nodes i) ≡ false) → is_some o ≡ has_lost fs
lost-found fs (Some i) idle some none = sym (lost-some fs i idle some)
lost-found fs None idle some none = sym (lost-none fs idle none)
