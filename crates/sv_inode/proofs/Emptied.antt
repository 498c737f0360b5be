-- A file that was made empty, and its blocks on the way to the free ones.
use Rattle.std.proofs.Common.{◌≡◌, ◌≤◌, ◌<◌, ◌+◌, ◌-◌, ◌*◌, ◌/◌, ◌++◌, ◌⊎◌, ℕ, Bool, true, false, List, length, get_or, nat_lt, Option}
use Rattle.std.proofs.Common.{None, IsSome, is_some, cond, arith, refl, sym, ap, ◌∙◌, subst}
use Rattle.std.specs.FinMap.{get-empty}
use Rattle.std.specs.Ordering.{nat_cmp}
use Rattle.std.proofs.lemmas.Bool.Decides.{nat_tests}
use Rattle.sv_dev.specs.Causes.{last_count}
use Rattle.sv_form.specs.Geometry.{IsGeometry, IsNumber, block_lines, inode_count, inode_place}
use Rattle.sv_form.specs.Node.{Node}
use Rattle.sv_form.specs.NodeChanges.{emptied}
use Rattle.sv_form.specs.PagePath.{block_numbers}
use Rattle.sv_form.specs.declared.geometry.Geometry.{Geometry}
use Rattle.sv_form.specs.declared.inode.InodeBody.{InodeBody}
use Rattle.sv_store.specs.Held.{Apart, Both, Held, Lent, Origin, SameLines}
use Rattle.sv_store.proofs.Holding.{is_some-Both}
use Rattle.sv_bmap.specs.Tree.{page_block, path, places_of, slot_of}
use Rattle.sv_bmap.proofs.Empty.{down-hole, empty-tree, thirteen, zeros}
use Rattle.sv_super.specs.Core.{Core, alone}
use Rattle.sv_super.specs.Count.{times}
use Rattle.sv_inode.specs.StandsFor.{IsDescribed, IsPageOf, StandsFor}
use Rattle.sv_inode.specs.Truncate.{AreBlocks, CanFreeAll, FreesAll, HoldsInode, IsCutFrom, less_all, names_of, only}
use Rattle.sv_inode.proofs.GivenBack.{only-at}

hole-page : (g : Geometry) (h : Held) (page : ℕ) → page_block g h thirteen page ≡ 0
unfolding Rattle.sv_form.specs.AddressTree.page_block
hole-page g h page = down-hole h (get_or thirteen (slot_of (path (block_numbers g) page)) 0) (places_of (path (block_numbers g) page))
    (zeros (slot_of (path (block_numbers g) page)))

-- without size and addresses the inode stands for the node without bytes
pub empty-stands : (o : Origin) (h : Held) (body : InodeBody) (node : Node) → IsDescribed body node
    → StandsFor o h (record body { size = 0; addresses = thirteen }) (emptied node)
empty-stands o h body node is = record {
  described = record { kind = is.kind; mode = is.mode; links = is.links; size = refl };
  tree = empty-tree o h thirteen zeros;
  pages = record {
    within = λ page low.
        (let P : Option (List ℕ)
        → Type 0 = IsPageOf o.sizes h (page_block o.sizes h thirteen page) in subst P (sym (get-empty nat_cmp page))
        (hole-page o.sizes h page));
    past = λ page high. get-empty nat_cmp page;
  };
  data_blocks = record { at = λ slot ks spot some. absurd (some (down-hole h (get_or thirteen slot 0) ks (zeros slot))) };
  no_empty = record { some = λ slot ks spot deep some. absurd (some (down-hole h (get_or thirteen slot 0) ks (zeros slot))) };
}

pub blocks-after : {o o' : Origin} {h h' : Held} {xs ys : List ℕ} → o' ≡ o → h' ≡ h → ys ≡ xs → AreBlocks o h xs → AreBlocks o' h' ys
blocks-after {o} {o'} {h} {h'} {xs} {ys} p q e are =
    let P : Origin → Type 0 = λ z. AreBlocks z h' ys in
    let Q : Held → Type 0 = λ z. AreBlocks o z ys in
    let W : List ℕ → Type 0 = λ z. AreBlocks o h z in
    subst P (sym p) (subst Q (sym q) (subst W (sym e) are))

pub apart-only : {k h : Held} (xs : List ℕ) → Apart k h → Apart k (only xs h)
apart-only {k} {h} xs away = record { at = λ c l is. by c l is (nat_lt 0 (times c xs)) refl }
  where
    by : (c l : ℕ) → IsSome (k c l) → (t : Bool) → nat_lt 0 (times c xs) ≡ t → only xs h c l ≡ None
    by c l is true e = only-at xs h c l true e ∙ away.at c l is
    by c l is false e = only-at xs h c l false e

-- what was cut off can be freed
pub can-free : {S : Type 0} {held : S → Held} {lent : S → Lent} {origin : S → Origin} {forced : S → Bool} {faults : S → ℕ}
    {o o' o'' : Origin} {h h' now mine mine' : Held} {blocks : List ℕ} (cuts : List (ℕ × S))
    → IsCutFrom held lent origin forced faults o' h' now cuts → AreBlocks o h blocks → names_of cuts ≡ blocks → Apart mine h → o' ≡ o
    → o'' ≡ o → h' ≡ h → mine' ≡ mine → CanFreeAll held lent origin forced o'' h mine' cuts
can-free {S} {held} {lent} {origin} {forced} {faults} {o} {o'} {o''} {h} {h'} {now} {mine} {mine'} {blocks} cuts from are names away p r q
    m = record {
      are = blocks-after r refl names are;
      each = λ i d low.
          (let cut = from.each i d low in
          record {
            lines = record { at = λ c l. ap (λ q. is_some (q c l)) (cut.lines ∙ ap (alone (get_or cuts i d).0) q) };
            away = cut.away;
            home = cut.home ∙ (p ∙ sym r);
            unforced = cut.unforced;
          });
      apart = (let P : Held → Type 0 = λ z. Apart z (only (names_of cuts) h) in subst P (sym m) (apart-only (names_of cuts) away));
    }

pub freed-since : {S : Type 0} {before before' now : ℕ} {old old' new : Core S} {xs ys : List ℕ} → before' ≡ before
    → old'.chain ≡ old.chain → old'.aside ≡ old.aside → ys ≡ xs → FreesAll before' now old' new ys → FreesAll before now old new xs
freed-since {before = before} {now = now} e chain aside same freed = record {
  chained = freed.chained;
  kept = freed.kept;
  chain = freed.chain ∙ ap (λ q. freed.chained ++ q) chain;
  aside = freed.aside ∙ ap (λ q. q ++ freed.kept) aside;
  each = λ b. freed.each b ∙ ap (times b) same;
  count = freed.count ∙ ap length same;
  rose = λ some. (let P : ℕ → Type 0 = λ q. (q < now) ⊎ (last_count ≤ now) in subst P e (freed.rose some));
}

pub lines-since : (h : Held) {k x x' : Held} {xs ys : List ℕ} → x' ≡ x → ys ≡ xs → SameLines k (Both x' (only ys h))
    → SameLines k (Both x (only xs h))
lines-since h {k} {x} {x'} {xs} {ys} e same lines =
    let P : Held → Type 0 = λ q. SameLines k (Both q (only xs h)) in
    let Q : List ℕ → Type 0 = λ q. SameLines k (Both x' (only q h)) in
    subst P e (subst Q same lines)

pub others-since : {k x x' : Held} {xs ys : List ℕ} → x' ≡ x → ys ≡ xs → ((c l : ℕ) → times c ys ≡ 0 → k c l ≡ x' c l)
    → (c l : ℕ) → times c xs ≡ 0 → k c l ≡ x c l
others-since e same others = λ c l none. others c l (ap (times c) same ∙ none) ∙ ap (λ q. q c l) e

-- ---- what the stakes hold afterwards

pub less-is : (xs : List ℕ) (h : Held) (c l : ℕ) (t : Bool) → nat_lt 0 (times c xs) ≡ t → less_all xs h c l ≡ cond t None (h c l)
unfolding less_all
less-is xs h c l t e = ap (λ q. cond q None (h c l)) e

is-more : (n : ℕ) → nat_lt 0 n ≡ true → 0 < n
is-more n h = grind (nat_tests, arith)

before-data : (g : Geometry) (n : ℕ) → IsGeometry g → IsNumber g n → (inode_place g n).block < g.first_data
before-data g n sizes is =
    let lines : block_lines g ≡ 16 = ap (λ (q : ℕ). q / 64) sizes.block_size in
    let count : inode_count g ≡ (g.first_data - 2) * 1024 / 64 = ap (λ (q : ℕ). (g.first_data - 2) * q / 64) sizes.block_size in
    let place : (inode_place g n).block ≡ (n - 1) / 16 + 2 = ap (λ (q : ℕ). (n - 1) / q + 2) lines in
    omega (arith, count, place, is.least, is.most, sizes.least_first)

-- the inode's line is in no data block, and stays
pub inode-left : {o o' : Origin} {h h' : Held} {n : ℕ} (xs : List ℕ) → IsGeometry o.sizes → HoldsInode o h n → AreBlocks o h xs → o' ≡ o
    → h' ≡ less_all xs h → HoldsInode o' h' n
inode-left {o} {o'} {h} {h'} {n} xs sizes holds are home left =
    let P : Origin → Type 0 = λ q. HoldsInode q h' n in
    subst P (sym home) (record {
      number = holds.number;
      line = ap (λ q. is_some (q b l)) left
          ∙ (ap is_some (stays (nat_lt 0 (times b xs)) refl) ∙ holds.line);
    })
  where
    b : ℕ
    b = (inode_place o.sizes n).block

    l : ℕ
    l = (inode_place o.sizes n).line

    stays : (t : Bool) → nat_lt 0 (times b xs) ≡ t → less_all xs h b l ≡ h b l
    stays false e = less-is xs h b l false e
    stays true e = absurd (omega (arith, before-data o.sizes n sizes holds.number, (are.in_data b (is-more (times b xs) e)).least))

-- no line is held by both
pub apart-after : {mine h new h' : Held} (xs : List ℕ) → Apart mine h → SameLines new (Both mine (only xs h)) → h' ≡ less_all xs h
    → Apart new h'
apart-after {mine} {h} {new} {h'} xs away same left =
    record {
      at = λ c l is. ap (λ q. q c l) left
          ∙ by c l (sym (same.at c l ∙ is_some-Both mine (only xs h) c l) ∙ is) (nat_lt 0 (times c xs)) refl;
    }
  where
    first : (x : Bool) → cond x true false ≡ true → x ≡ true
    first true e = refl
    first false e = e

    by : (c l : ℕ) → cond (is_some (mine c l)) true (is_some (only xs h c l)) ≡ true → (t : Bool) → nat_lt 0 (times c xs) ≡ t
        → less_all xs h c l ≡ None
    by c l is true e = less-is xs h c l true e
    by c l is false e =
        less-is xs h c l false e
        ∙ away.at c l (first (is_some (mine c l))
        (sym (ap (λ q. cond (is_some (mine c l)) true (is_some q)) (only-at xs h c l false e)) ∙ is))
