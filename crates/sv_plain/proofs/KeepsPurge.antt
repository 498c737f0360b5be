-- A file system stays whole where nodes go that no link leads to and that nothing refers to.
use Rattle.std.proofs.Common.{◌≡◌, ◌≤◌, ℕ, ◌-◌, ◌==◌, Bool, true, false, cond, not, ◌&&◌, ◌||◌, List, [], ◌∷◌, Option, Some, None, is_some, sym, refl, ap, subst, ◌∙◌, arith}
use Rattle.std.proofs.lemmas.Bool.{eqb-true}
use Rattle.std.specs.List.{list_any, filter}
use Rattle.std.specs.Ordering.{nat_cmp, eq_by_cmp}
use Rattle.std.specs.Cmp.{nat_cmp_total, Equal-is}
use Rattle.std.specs.FinMap as fmap
use Rattle.std.specs.FinMap.{nat_cmp-IsAntisymmetric}
use Rattle.sv_form.specs.Node.{Node}
use Rattle.sv_plain.specs.declared.history.reply.Reply.{Reply}
use Rattle.sv_plain.specs.declared.history.reply.Reply.TheVariants.{Done, Late, LateMemory}
use Rattle.sv_plain.specs.Totals.{at_or_0}
use Rattle.sv_plain.specs.Fs.{Fs, is_referenced}
use Rattle.sv_plain.specs.Whole.{IsWhole}
use Rattle.sv_plain.specs.Names.{links_of, is_lost}
use Rattle.sv_plain.specs.Change.{without_node}
use Rattle.sv_plain.specs.Step.{HasPurged}
use Rattle.sv_plain.proofs.Got.{and_left, and_right, not_true}
use Rattle.sv_plain.proofs.KeepsRemoval.{Nodes, keeps-removal}

nested : {A : Type 0} (a b : Bool) (o : Option A) → cond a None (cond b None o) ≡ cond (a || b) None o
nested true b o = refl
nested false b o = refl

gone_or_not : {A : Type 0} (g b : Bool) (o : Option A) → is_some o ≡ b → cond (g && b) None o ≡ cond (not g) o None
gone_or_not true true o e = refl
gone_or_not true false None e = refl
gone_or_not true false (Some x) e = cc
gone_or_not false b o e = refl

nothing : (b : Bool) → false ≡ (b && false)
nothing true = refl
nothing false = refl

here : (a b : Bool) (test : ℕ → Bool) (k : ℕ) (rest : List ℕ) (all : Bool) → a ≡ b → test k ≡ true → list_any test rest ≡ (b && all) → list_any test (cond a (k ∷ rest) rest) ≡ (b && (true || all))
here true true test k rest all e t r = ap (λ c. c || list_any test rest) t
here false false test k rest all e t r = r
here true false test k rest all e t r = cc
here false true test k rest all e t r = cc

there : (a : Bool) (test : ℕ → Bool) (k : ℕ) (rest : List ℕ) → test k ≡ false → list_any test (cond a (k ∷ rest) rest) ≡ list_any test rest
there true test k rest t = ap (λ c. c || list_any test rest) t
there false test k rest t = refl

-- a key is among those that pass exactly if it is among all and passes
any-filter : (p : ℕ → Bool) (ks : List ℕ) (q : ℕ) → list_any (eq_by_cmp nat_cmp q) (filter p ks) ≡ (p q && list_any (eq_by_cmp nat_cmp q) ks)
any-filter p [] q = nothing (p q)
any-filter p (k ∷ ks) q =
    elim (eq_by_cmp nat_cmp q k) as (λ t. eq_by_cmp nat_cmp q k ≡ t → list_any (eq_by_cmp nat_cmp q) (cond (p k) (k ∷ filter p ks) (filter p ks)) ≡ (p q && (t || list_any (eq_by_cmp nat_cmp q) ks))) [
      | true ↦ λ t.
          (let same : q ≡ k = nat_cmp-IsAntisymmetric q k ((Equal-is (nat_cmp q k)).0 t) in
          let test : p k ≡ p q = ap p (sym same) in
          here (p k) (p q) (eq_by_cmp nat_cmp q) k (filter p ks) (list_any (eq_by_cmp nat_cmp q) ks) test t (any-filter p ks q))
      | false ↦ λ t. there (p k) (eq_by_cmp nat_cmp q) k (filter p ks) t ∙ any-filter p ks q
    ] refl

-- nodes go one after another
without_nodes : Fs → List ℕ → Fs
without_nodes fs [] = fs
without_nodes fs (i ∷ is) = without_node (without_nodes fs is) i

at_most : (b : Bool) (n : ℕ) → cond b (n - 1) n ≤ n
at_most true n = omega arith
at_most false n = omega arith

one_less : (nodes : Nodes) (i : ℕ) → fmap.len (fmap.remove nodes i) ≤ fmap.len nodes
one_less nodes i = (let e = fmap.len-remove nat_cmp_total nodes i in let most = at_most (fmap.contains_key nodes i) (fmap.len nodes) in omega (arith, e, most))

-- an inode that has no links has none once others went
links-after : (nodes : Nodes) (i j : ℕ) → at_or_0 (λ (n : Node). n.links) (fmap.get nodes j) ≡ 0 → at_or_0 (λ (n : Node). n.links) (fmap.get (fmap.remove nodes i) j) ≡ 0
links-after nodes i j none =
    ap (at_or_0 (λ (n : Node). n.links)) (fmap.get-remove nat_cmp_total nodes i j)
    ∙ elim (eq_by_cmp nat_cmp j i) as (λ b. at_or_0 (λ (n : Node). n.links) (cond b None (fmap.get nodes j)) ≡ 0) [ true ↦ refl | false ↦ none ]

module _ (fs : Fs) where
  links-without : (is : List ℕ) (j : ℕ) → links_of fs j ≡ 0 → links_of (without_nodes fs is) j ≡ 0
  unfolding without_nodes
  links-without [] j none = none
  links-without (i ∷ is) j none = links-after (without_nodes fs is).nodes i j (links-without is j none)

  idle-without : (is : List ℕ) (j : ℕ) → is_referenced (without_nodes fs is) j ≡ is_referenced fs j
  unfolding without_nodes
  idle-without [] j = refl
  idle-without (i ∷ is) j = idle-without is j

  lost-links : (i : ℕ) → is_lost fs i ≡ true → links_of fs i ≡ 0
  lost-links i e = eqb-true (links_of fs i) 0 (and_right (fmap.contains_key fs.nodes i) (links_of fs i == 0) (and_left (fmap.contains_key fs.nodes i && (links_of fs i == 0)) (not (is_referenced fs i)) e))

  lost-idle : (i : ℕ) → is_lost fs i ≡ true → is_referenced fs i ≡ false
  lost-idle i e = not_true (is_referenced fs i) (and_right (fmap.contains_key fs.nodes i && (links_of fs i == 0)) (not (is_referenced fs i)) e)

  keeps-without : (gone : ℕ → Bool) (ks : List ℕ) → ((i : ℕ) → gone i ≡ true → is_lost fs i ≡ true) → IsWhole fs → IsWhole (without_nodes fs (filter gone ks))
  unfolding without_nodes
  keeps-without gone [] lost w = w
  keeps-without gone (k ∷ ks) lost w =
      let rest = keeps-without gone ks lost w in
      elim (gone k) as (λ b. gone k ≡ b → IsWhole (without_nodes fs (cond b (k ∷ filter gone ks) (filter gone ks)))) [
        | true ↦ λ e. keeps-removal (without_nodes fs (filter gone ks)) k rest
            (links-without (filter gone ks) k (lost-links k (lost k e)))
            (idle-without (filter gone ks) k ∙ lost-idle k (lost k e))
        | false ↦ λ _. rest
      ] refl

  -- the nodes that stay
  get-without : (is : List ℕ) (q : ℕ) → fmap.get (without_nodes fs is).nodes q ≡ cond (list_any (eq_by_cmp nat_cmp q) is) None (fmap.get fs.nodes q)
  unfolding without_nodes
  get-without [] q = refl
  get-without (i ∷ is) q =
      fmap.get-remove nat_cmp_total (without_nodes fs is).nodes i q
      ∙ ap (cond (eq_by_cmp nat_cmp q i) None) (get-without is q)
      ∙ nested (eq_by_cmp nat_cmp q i) (list_any (eq_by_cmp nat_cmp q) is) (fmap.get fs.nodes q)

  same-but-nodes : (is : List ℕ) → without_nodes fs is ≡ record fs { nodes = (without_nodes fs is).nodes }
  unfolding without_nodes
  same-but-nodes [] = refl
  same-but-nodes (i ∷ is) = ap (λ (f : Fs). without_node f i) (same-but-nodes is)

  nodes-left : (gone : ℕ → Bool) → (without_nodes fs (filter gone (fmap.keys fs.nodes))).nodes ≡ fmap.retain_keys fs.nodes (λ i. not (gone i))
  nodes-left gone =
      let ks : List ℕ = fmap.keys fs.nodes in
      fmap.same_map nat_cmp_total nat_cmp-IsAntisymmetric _ _
      (λ q. get-without (filter gone ks) q
      ∙ ap (λ b. cond b None (fmap.get fs.nodes q)) (any-filter gone ks q)
      ∙ gone_or_not (gone q) (list_any (eq_by_cmp nat_cmp q) ks) (fmap.get fs.nodes q) (fmap.contains_key-keys fs.nodes q)
      ∙ sym (fmap.get-retain_keys fs.nodes (λ i. not (gone i)) q (λ x tied. ap (λ i. not (gone i)) (sym (nat_cmp-IsAntisymmetric q x tied)))))

  fewer : (is : List ℕ) → fmap.len (without_nodes fs is).nodes ≤ fmap.len fs.nodes
  unfolding without_nodes
  fewer [] = omega arith
  fewer (i ∷ is) = (let rest = fewer is in omega (arith, rest, one_less (without_nodes fs is).nodes i))

  -- no more nodes are left than there were
  pub few-left : (gone : ℕ → Bool) → fmap.len (fmap.retain_keys fs.nodes (λ i. not (gone i))) ≤ fmap.len fs.nodes
  few-left gone = subst (λ (m : Nodes). fmap.len m ≤ fmap.len fs.nodes) (nodes-left gone) (fewer (filter gone (fmap.keys fs.nodes)))

  -- all nodes that pass a test go, where each of them is lost
  pub keeps-gone : (gone : ℕ → Bool) → ((i : ℕ) → gone i ≡ true → is_lost fs i ≡ true) → IsWhole fs → IsWhole (record fs { nodes = fmap.retain_keys fs.nodes (λ i. not (gone i)) })
  keeps-gone gone lost w =
      let ks : List ℕ = fmap.keys fs.nodes in
      subst IsWhole (same-but-nodes (filter gone ks) ∙ ap (λ m. record fs { nodes = m }) (nodes-left gone)) (keeps-without gone ks lost w)

pub keeps-purge : (fs after : Fs) (reply : Reply) → IsWhole fs → HasPurged fs reply after → IsWhole after
keeps-purge fs after Done w h = subst IsWhole (sym h) (keeps-gone fs (is_lost fs) (λ i e. e) w)
keeps-purge fs after Late w h = subst IsWhole (sym h.changed) (keeps-gone fs h.gone h.lost w)
keeps-purge fs after LateMemory w h = subst IsWhole (sym h.changed) (keeps-gone fs h.gone h.lost w)
keeps-purge fs after _ w h = subst IsWhole (sym h) w
