-- A stake that holds only the inode's line and the lines of its tree holds no others once bytes were put.
use Rattle.std.proofs.Common.{◌≡◌, ◌<◌, ◌+◌, ◌-◌, ◌⊎◌, inl, inr, ℕ, Bool, true, false, cond, List, length, take, get_or, map}
use Rattle.std.proofs.Common.{nat_lt, Some, IsSome, is_some, Result, Ok, Err, OnOk, OnErr, refl, sym, ap, ◌∙◌, subst, arith}
use Rattle.std.proofs.lemmas.Bool.{false≢true}
use Rattle.std.proofs.lemmas.Bool.Decides.{nat_tests}
use Rattle.sv_form.specs.Geometry.{IsGeometry, inode_place}
use Rattle.sv_form.specs.PagePath.{IsPage}
use Rattle.sv_store.specs.Held.{Both, Held, Lent, Origin, SameLines, put}
use Rattle.sv_store.proofs.Holding.{is_some-Both}
use Rattle.sv_super.specs.Count.{times}
use Rattle.sv_bmap.specs.Attach.{Attaches, page_places, page_slot}
use Rattle.sv_bmap.specs.Order.{blocks_of}
use Rattle.sv_bmap.specs.Tree.{IsTree, block_at}
use Rattle.sv_bmap.proofs.Hang.{New, became, front-spot}
use Rattle.sv_bmap.proofs.Kept.{same-put}
use Rattle.sv_inode.specs.Contents.{block_of}
use Rattle.sv_inode.specs.Truncate.{HoldsOnly, IsInTree, less_all, only}
use Rattle.sv_inode.specs.Write.{ArePaired}
use Rattle.sv_inode.proofs.Emptied.{less-is}
use Rattle.sv_inode.proofs.GivenBack.{only-at}
use Rattle.sv_inode.proofs.PageMade.{new-lines, place-of}
use Rattle.sv_inode.proofs.TreeBlocks.{some-tree}
use Rattle.sv_inode.proofs.WrittenTree.{written-spots}

some : (n : ℕ) → nat_lt 0 n ≡ true → 0 < n
some n h = grind (nat_tests, arith)

none : (n : ℕ) → nat_lt 0 n ≡ false → n ≡ 0
none n h = grind (nat_tests, arith)

pub only-same : {o : Origin} {h h' : Held} {a a' : List ℕ} {n : ℕ} → h' ≡ h → a' ≡ a → HoldsOnly o h n a → HoldsOnly o h' n a'
only-same {o} {h = h} {h' = h'} {a' = a'} {n = n} e f was =
    let P : Held → Type 0 = λ q. HoldsOnly o q n a' in
    let Q : List ℕ → Type 0 = λ q. HoldsOnly o h n q in
    subst P (sym e) (subst Q (sym f) was)

pub only-moved : {o o' : Origin} {h k : Held} {a b : List ℕ} {n : ℕ} → o' ≡ o → (HoldsOnly o' h n a → HoldsOnly o' k n b)
    → HoldsOnly o h n a → HoldsOnly o k n b
only-moved {h = h} {k = k} {a = a} {b = b} {n = n} e step =
    let P : Origin → Type 0 = λ q. HoldsOnly q h n a → HoldsOnly q k n b in
    subst P e step

pub on-either : {T E : Type 0} {P Q R : Type 0} (r : Result T E) → (P → R) → (Q → R) → OnOk r P → OnErr r Q → R
on-either (Ok x) f g p q = f p
on-either (Err x) f g p q = g q

module _ {o : Origin} {h new : Held} {a b : List ℕ} {page : ℕ} {blocks : List ℕ} {parts : List Held} {bytes : List ℕ} (tree : IsTree o h a)
    (attaches : Attaches o h new a b page blocks parts bytes) where
  -- a block that stood in the tree stands in it yet
  tree-stays : (c : ℕ) → IsInTree o.sizes h a c → IsInTree o.sizes new b c
  tree-stays c one = by (became attaches.hangs tree (length one.places) one.slot one.places refl one.spot)
    where
      by : (block_at new b one.slot one.places ≡ block_at h a one.slot one.places) ⊎ ((i : ℕ) × New attaches.hangs one.slot one.places i)
          → IsInTree o.sizes new b c
      by (inl was) = record { some = one.some; slot = one.slot; places = one.places; spot = one.spot; at = was ∙ one.at }
      by (inr is) =
          absurd (one.some (sym one.at
          ∙ (ap (λ q. block_at h a q one.places) is.1.same
          ∙ (ap (block_at h a (page_slot o.sizes page)) is.1.on ∙ attaches.hangs.holes is.0 is.1.low))))

  -- each block of the row stands in the tree
  row-stands : (i : ℕ) → i < length blocks → IsInTree o.sizes new b (get_or blocks i 0)
  row-stands i low = record {
    some = attaches.hangs.named i low;
    slot = page_slot o.sizes page;
    places = take (length (page_places o.sizes page) + 1 - length blocks + i) (page_places o.sizes page);
    spot = front-spot (page_places o.sizes page) (length (page_places o.sizes page) + 1 - length blocks + i)
        (omega (arith, low, attaches.hangs.shape)) attaches.hangs.spot;
    at = attaches.row i low;
  }

  pub only-attached : (k : Held) (n : ℕ) → SameLines new (Both h (only blocks k)) → HoldsOnly o h n a → HoldsOnly o new n b
  only-attached k n lines was = record { at = λ c l is. by c l (is_some (h c l)) refl is }
    where
      own : (c l : ℕ) → IsSome (h c l) → ((c ≡ (inode_place o.sizes n).block) × (l ≡ (inode_place o.sizes n).line)) ⊎ IsInTree o.sizes h a c
          → ((c ≡ (inode_place o.sizes n).block) × (l ≡ (inode_place o.sizes n).line)) ⊎ IsInTree o.sizes new b c
      own c l is (inl line) = inl line
      own c l is (inr one) = inr (tree-stays c one)

      theirs : (c l : ℕ) (t : Bool) → nat_lt 0 (times c blocks) ≡ t → is_some (only blocks k c l) ≡ true → IsInTree o.sizes new b c
      theirs c l false e is = absurd (false≢true (sym (ap is_some (only-at blocks k c l false e)) ∙ is))
      theirs c l true e is =
          (let at = place-of c blocks (some (times c blocks) e) in
          let P : ℕ → Type 0 = IsInTree o.sizes new b in
          subst P at.1.1 (row-stands at.0 at.1.0))

      by : (c l : ℕ) (t : Bool) → is_some (h c l) ≡ t → IsSome (new c l)
          → ((c ≡ (inode_place o.sizes n).block) × (l ≡ (inode_place o.sizes n).line)) ⊎ IsInTree o.sizes new b c
      by c l true e is = own c l e (was.at c l e)
      by c l false e is =
          inr (theirs c l (nat_lt 0 (times c blocks)) refl
          (ap (λ q. cond q true (is_some (only blocks k c l))) (sym e)
          ∙ (sym (is_some-Both h (only blocks k) c l) ∙ (sym (lines.at c l) ∙ is))))

-- the lines that were taken in with the parts
pub only-grown : {S : Type 0} {held : S → Held} {lent : S → Lent} {origin : S → Origin} {forced : S → Bool} {o : Origin} {h new k : Held}
    {a b : List ℕ} {page : ℕ} {bytes : List ℕ} (ns : List ℕ) (ps : List S) (n : ℕ)
    → IsTree o h a → Attaches o h new a b page ns (map held ps) bytes → ArePaired held lent origin forced o k ns ps → HoldsOnly o h n a
    → HoldsOnly o new n b
only-grown ns ps n tree attaches pairs was = only-attached tree attaches _ n (new-lines ns ps pairs attaches.lines) was

-- a page was written in place
pub only-written : {o : Origin} {h h' new : Held} {a : List ℕ} {p : ℕ} (page : ℕ) (bytes : List ℕ) (n : ℕ)
    → IsGeometry o.sizes → IsPage o.sizes page → IsTree o h a → block_of o.sizes h a page ≡ Some p → h' ≡ h → new ≡ put p bytes h'
    → HoldsOnly o h n a → HoldsOnly o new n a
only-written {o} {h} {h'} {new} {a} {p} page bytes n sizes is tree there e puts was =
    record { at = λ c l held. by c l (was.at c l (sym ((same-put p bytes now).at c l) ∙ held)) }
  where
    now : new ≡ put p bytes h
    now = puts ∙ ap (put p bytes) e

    by : (c l : ℕ) → ((c ≡ (inode_place o.sizes n).block) × (l ≡ (inode_place o.sizes n).line)) ⊎ IsInTree o.sizes h a c
        → ((c ≡ (inode_place o.sizes n).block) × (l ≡ (inode_place o.sizes n).line)) ⊎ IsInTree o.sizes new a c
    by c l (inl line) = inl line
    by c l (inr one) =
        inr (record {
          some = one.some;
          slot = one.slot;
          places = one.places;
          spot = one.spot;
          at =
              written-spots page bytes sizes is tree there now one.slot one.places one.spot ∙ one.at;
        })

-- the blocks of the tree were cut off
pub only-emptied : {o : Origin} {h h' : Held} {a : List ℕ} (b : List ℕ) (n : ℕ) → h' ≡ less_all (blocks_of o.sizes h a) h
    → HoldsOnly o h n a → HoldsOnly o h' n b
only-emptied {o} {h} {h'} {a} b n left was =
    record { at = λ c l is. by c l (nat_lt 0 (times c (blocks_of o.sizes h a))) refl (sym (ap (λ q. is_some (q c l)) left) ∙ is) }
  where
    own : (c l : ℕ) → times c (blocks_of o.sizes h a) ≡ 0
        → ((c ≡ (inode_place o.sizes n).block) × (l ≡ (inode_place o.sizes n).line)) ⊎ IsInTree o.sizes h a c
        → ((c ≡ (inode_place o.sizes n).block) × (l ≡ (inode_place o.sizes n).line)) ⊎ IsInTree o.sizes h' b c
    own c l gone (inl line) = inl line
    own c l gone (inr one) = absurd (omega (arith, gone, some-tree o.sizes h a c one.slot one.places one.spot one.at one.some))

    by : (c l : ℕ) (t : Bool) → nat_lt 0 (times c (blocks_of o.sizes h a)) ≡ t → is_some (less_all (blocks_of o.sizes h a) h c l) ≡ true
        → ((c ≡ (inode_place o.sizes n).block) × (l ≡ (inode_place o.sizes n).line)) ⊎ IsInTree o.sizes h' b c
    by c l true e is = absurd (false≢true (sym (ap is_some (less-is (blocks_of o.sizes h a) h c l true e)) ∙ is))
    by c l false e is =
        own c l (none (times c (blocks_of o.sizes h a)) e)
        (was.at c l (sym (ap is_some (less-is (blocks_of o.sizes h a) h c l false e)) ∙ is))
