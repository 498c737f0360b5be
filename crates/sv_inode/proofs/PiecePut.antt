-- A piece is put into a page that is present, or into one that was a hole.
use Rattle.std.proofs.Common.{◌≡◌, ◌≤◌, ◌+◌, ◌++◌, ◌∷◌, [], ℕ, suc, List, length, take, drop, get_or, Option, Some, IfSome, Result, OnOk}
use Rattle.std.proofs.Common.{length-append, refl, sym, ap, ◌∙◌, subst, arith}
use Rattle.std.specs.FinMap as fmap
use Rattle.std.specs.List.{All}
use Rattle.std.proofs.lemmas.List.{length-drop, length-take}
use Rattle.sv_form.specs.Geometry.{IsGeometry}
use Rattle.sv_form.specs.Node.{Node}
use Rattle.sv_form.specs.PagePath.{IsPage}
use Rattle.sv_form.specs.declared.inode.InodeBody.{InodeBody}
use Rattle.sv_store.specs.Calls.{Gets}
use Rattle.sv_store.specs.Held.{Held, HoldsBlock, Origin, put}
use Rattle.sv_store.specs.Loan.{Loan}
use Rattle.sv_bmap.specs.Need.{need_of}
use Rattle.sv_bmap.specs.Tree.{IsTree}
use Rattle.sv_inode.specs.Contents.{block_of}
use Rattle.sv_inode.specs.StandsFor.{StandsFor}
use Rattle.sv_inode.specs.Write.{page_or_zeros, patched, with_piece}
use Rattle.sv_inode.proofs.PagesHeld.{block_held}
use Rattle.sv_inode.proofs.TakenOut.{at-front, at-last}
use Rattle.sv_inode.proofs.WrittenNeed.{need-written}
use Rattle.sv_inode.proofs.WrittenTree.{page-got, written-stands}

pub holds-got : {o : Origin} {h h' : Held} {b b' : ℕ} → h' ≡ h → b' ≡ b → HoldsBlock o h b → HoldsBlock o h' b'
holds-got {o} {h} {h'} {b} {b'} e f holds =
    let P : Held → Type 0 = λ q. HoldsBlock o q b' in
    let Q : ℕ → Type 0 = λ q. HoldsBlock o h q in
    subst P (sym e) (subst Q (sym f) holds)

pub some-held : {o o' : Origin} {h h' : Held} (a : List ℕ) (page p : ℕ) → IsGeometry o.sizes → IsPage o.sizes page → IsTree o h a
    → block_of o.sizes h a page ≡ Some p → o' ≡ o → h' ≡ h → HoldsBlock o' h' p
some-held {o} {o'} {h} {h'} a page p sizes is tree there e f =
    let P : Origin → Type 0 = λ q. HoldsBlock q h' p in
    let W : Option ℕ → Type 0 = λ q. IfSome q (HoldsBlock o h) in
    subst P (sym e) (holds-got f refl (subst W there (block_held o h a page tree sizes is)))

pub stands-since : {o o' : Origin} {h h' : Held} {body : InodeBody} {node : Node} → o' ≡ o → h' ≡ h → StandsFor o h body node
    → StandsFor o' h' body node
stands-since {o} {o'} {h} {h'} {body} {node} e f stands =
    let P : Origin → Type 0 = λ q. StandsFor q h' body node in
    let Q : Held → Type 0 = λ q. StandsFor o q body node in
    subst P (sym e) (subst Q (sym f) stands)

pub all-of-last : {A : Type 0} (P : A → Type 0) (xs ys : List A) (x : A) → xs ≡ ys ++ x ∷ [] → All P xs → P x
all-of-last P xs ys x e all = subst P (ap (λ q. get_or q (length ys) x) e ∙ at-last ys x x (length ys) refl)
    (all (length ys) x (omega (arith, ap length e, length-append ys (x ∷ []))))

pub all-of-front : {A : Type 0} (P : A → Type 0) (xs ys : List A) (x : A) → xs ≡ ys ++ x ∷ [] → All P xs → All P ys
all-of-front P xs ys x e all = λ i d low. subst P (ap (λ q. get_or q i d) e ∙ at-front ys x d i low)
    (all i d (omega (arith, low, ap length e, length-append ys (x ∷ []))))

patched-len : (bytes : List ℕ) (from : ℕ) (piece : List ℕ) → from + length piece ≤ length bytes
    → length (patched bytes from piece) ≡ length bytes
patched-len bytes from piece fits =
    omega (
      arith,
      fits,
      length-append (take from bytes ++ piece) (drop (from + length piece) bytes),
      length-append
          (take from bytes) piece,
      length-take from bytes,
      length-drop (from + length piece) bytes,
    )

-- the page was there
pub piece-present : {o o' o'' : Origin} {h h' new : Held} {body : InodeBody} {node : Node} {p : ℕ} {buf : Loan} (page from : ℕ)
    (piece : List ℕ) → IsGeometry o.sizes → IsPage o.sizes page → from + length piece ≤ o.sizes.block_size → StandsFor o h body node
    → block_of o.sizes h body.addresses page ≡ Some p → o' ≡ o → h' ≡ h → o'' ≡ o' → Gets o' h' p buf
    → new ≡ put p (patched buf.bytes from piece) h' → StandsFor o'' new body (with_piece o.sizes.block_size node page from piece)
piece-present {o} {o'} {o''} {h} {h'} {new} {body} {node} {p} {buf} page from piece sizes is fits stands there e f e' gets puts =
    let P : Origin → Type 0 = λ q. Gets q h' p buf in
    let Q : Held → Type 0 = λ q. Gets o q p buf in
    let got : Gets o h p buf = subst Q f (subst P e gets) in
    let at : fmap.get node.pages page ≡ Some buf.bytes = page-got page sizes is stands there got in
    let W : Option (List ℕ)
    → Type 0 = λ q. StandsFor o new body
    (record node { pages = fmap.insert node.pages page (patched (page_or_zeros o.sizes.block_size q) from piece) }) in
    let now : StandsFor o new body (record node { pages = fmap.insert node.pages page (patched buf.bytes from piece) }) =
    written-stands page (patched buf.bytes from piece) sizes is stands there
    (patched-len buf.bytes from piece (omega (arith, fits, got.size)) ∙ got.size)
    (puts ∙ ap (put p (patched buf.bytes from piece)) f) in
    stands-since (e' ∙ e) refl (subst W (sym at) now)

pub need-since : {T E : Type 0} {o o' : Origin} {h h' : Held} (new : Held) (a b : List ℕ) (page k m : ℕ) (result : Result T E) → o' ≡ o
    → h' ≡ h → OnOk result
    ((n : ℕ) → IsPage o'.sizes (page + n) → need_of o'.sizes h' a page (suc n) + m ≡ need_of o'.sizes new b (suc page) n + k)
    → OnOk result ((n : ℕ) → IsPage o.sizes (page + n) → need_of o.sizes h a page (suc n) + m ≡ need_of o.sizes new b (suc page) n + k)
need-since {o = o} {o' = o'} {h = h} {h' = h'} new a b page k m result e f needs =
    let P : Origin → Type 0 = λ q. OnOk result
    ((n : ℕ) → IsPage q.sizes (page + n) → need_of q.sizes h a page (suc n) + m ≡ need_of q.sizes new b (suc page) n + k) in
    let Q : Held → Type 0 = λ q. OnOk result
    ((n : ℕ) → IsPage o'.sizes (page + n) → need_of o'.sizes q a page (suc n) + m ≡ need_of o'.sizes new b (suc page) n + k) in
    subst P e (subst Q f needs)

pub need-put : {o : Origin} {h h' new : Held} (a : List ℕ) (page p m : ℕ) (bytes : List ℕ) → IsGeometry o.sizes → IsTree o h a
    → block_of o.sizes h a page ≡ Some p → h' ≡ h → new ≡ put p bytes h' → (n : ℕ) → IsPage o.sizes (page + n)
    → need_of o.sizes h a page (suc n) + m ≡ need_of o.sizes new a (suc page) n + m
need-put a page p m bytes sizes tree there f puts n is = ap (λ q. q + m)
    (need-written bytes page n sizes is tree there (puts ∙ ap (put p bytes) f))
