-- A write goes page by page.
use Rattle.std.proofs.Common.{◌≡◌, ◌≤◌, ◌<◌, ◌+◌, ◌-◌, ◌*◌, ◌/◌, ◌%◌, ℕ, suc, Bool, true, false, cond, List, [], length, take, drop, max}
use Rattle.std.proofs.Common.{min, slice_range, Option, Some, None, Result, Ok, Err, OnOk, OnErr, is_err, append_assoc, refl, sym, ap}
use Rattle.std.proofs.Common.{◌∙◌, subst, arith}
use Rattle.std.specs.FinMap as fmap
use Rattle.std.specs.List.{range_with_len}
use Rattle.std.proofs.lemmas.Bool.{false≢true}
use Rattle.std.proofs.lemmas.List.{length-drop, length-replicate, length-take, take-take}
use Rattle.std.proofs.lemmas.List.FromFn.{length-range_with_len}
use Rattle.std.proofs.Math.Nat.{div-mul-le_self, mul-le-mul_right}
use Rattle.sv_form.specs.Geometry.{IsGeometry}
use Rattle.sv_form.specs.Node.{Node}
use Rattle.sv_form.specs.NodeChanges.{put, touched}
use Rattle.sv_form.specs.PagePath.{IsPage, greatest_size}
use Rattle.sv_form.specs.declared.geometry.Geometry.{Geometry}
use Rattle.sv_form.specs.declared.inode.InodeBody.{InodeBody}
use Rattle.sv_store.specs.Held.{Held, Lent, Origin}
use Rattle.sv_super.proofs.Counts.{other}
use Rattle.sv_bmap.specs.Need.{need_of}
use Rattle.sv_bmap.specs.Tree.{page_block}
use Rattle.sv_inode.specs.StandsFor.{IsPageOf, StandsFor}
use Rattle.sv_inode.specs.Truncate.{CanFreeAll, names_of}
use Rattle.sv_inode.specs.Write.{Uses, page_or_zeros, patched, with_piece, write_need}
use Rattle.sv_inode.proofs.PageMade.{same-held, uses-none}
use Rattle.sv_inode.proofs.PieceEnds.{IsPiece, IsReached, first-count, page_count, piece-inside, range-pages, reached-all, reached-page}
use Rattle.sv_inode.proofs.WrittenNeed.{need-fewer}
use Rattle.sv_inode.proofs.WrittenNode.{bytes_in, put-next, reached-touched}
use Rattle.sv_inode.proofs.WrittenNode as written
use Rattle.sv_inode.proofs.WrittenTree.{sized-stands, within-reach}

pub on-err : {T E : Type 0} {P : Type 0} (r : Result T E) → is_err r ≡ true → OnErr r P → P
on-err (Ok x) e p = absurd (false≢true e)
on-err (Err x) e p = p

pub on-ok : {T E : Type 0} {P : Type 0} (r : Result T E) → is_err r ≡ false → OnOk r P → P
on-ok (Ok x) e p = p
on-ok (Err x) e p = absurd (false≢true (sym e))

-- ---- which blocks are left at hand

module _ {S : Type 0} {held : S → Held} {lent : S → Lent} {origin : S → Origin} {forced : S → Bool} {o : Origin} {h : Held} where
  pub uses-nothing : (mine : Held) (all : List (ℕ × S)) → CanFreeAll held lent origin forced o h mine all
      → Uses held lent origin forced o h mine mine all all
  uses-nothing mine all can = uses-none all all can (same-held refl) refl can.each

  pub uses-then : {before mid new : Held} (all some left : List (ℕ × S)) → Uses held lent origin forced o h before mid all some
      → Uses held lent origin forced o h mid new some left → Uses held lent origin forced o h before new all left
  uses-then {before} {mid} {new} all some left one two = record {
    front = two.front ∙ (ap (take (length left)) one.front ∙ take-take (length left) (length some) (names_of all) two.fewer);
    fewer = omega (arith, one.fewer, two.fewer);
    can = two.can;
    lines = record { at = λ c l. two.lines.at c l ∙ one.lines.at c l };
  }

  -- the next page is written
  pub uses-next : {o' : Origin} {before mid new : Held} (all some left : List (ℕ × S)) → o' ≡ o
      → Uses held lent origin forced o h before mid all some
      → (CanFreeAll held lent origin forced o' h mid some → Uses held lent origin forced o' h mid new some left)
      → Uses held lent origin forced o h before new all left
  uses-next {o'} {before} {mid} {new} all some left e one step =
      let P : Origin → Type 0 = λ q. CanFreeAll held lent origin forced q h mid some → Uses held lent origin forced q h mid new some left in
      uses-then all some left one (subst P e step one.can)

-- ---- pieces

-- a page of the range is not past the last byte
reached-open : (block at count k done : ℕ) → 0 < block → 0 < count → IsReached block at count k done
    → at / block + k ≤ (at + count - 1) / block → done < count
reached-open block at count k done pos some reached low =
    let rows : (at / block + k) * block ≤ (at + count - 1) / block * block = mul-le-mul_right block low in
    omega (arith, reached.is, rows, div-mul-le_self (at + count - 1) block, some)

-- the next piece, by its page
pub is-piece : (block at : ℕ) (from : List ℕ) (done page first last inside room next : ℕ) (piece : List ℕ) → 0 < block → 0 < length from
    → first ≡ at / block → last ≡ (at + length from - 1) / block → first ≤ page → page ≤ last
    → IsReached block at (length from) (page - first) done → inside ≡ (at + done) % block
    → room ≡ min (block - inside) (length from - done) → next ≡ done + room → piece ≡ slice_range from done next
    → IsPiece block at from done next page inside piece
is-piece block at from done page first last inside room next piece pos some f l low high reached ins r n p =
    let k : at / block + (page - first) ≡ page = omega (arith, f, low) in
    let under : done < length from = reached-open block at (length from) (page - first) done pos some reached (omega (arith, k, l, high)) in
    record {
      some = under;
      page_is = sym (reached-page block at pos (length from) (page - first) done reached under ∙ k);
      inside_is = ins;
      next_is = n ∙ ap (λ q. done + q) r;
      piece_is = p;
    }

piece-short : {block at : ℕ} {from : List ℕ} {done next page inside : ℕ} {piece : List ℕ} → 0 < block
    → IsPiece block at from done next page inside piece → inside + length piece ≤ block
piece-short {from = from} {done = done} {next = next} pos part =
    omega (
      arith,
      piece-inside pos part,
      part.next_is,
      ap length part.piece_is,
      length-take (next - done)
          (drop done from),
      length-drop done from,
    )

-- the bytes of a page, zeros where it is absent, are a block's length
page-length : (g : Geometry) (h : Held) (b : ℕ) (x : Option (List ℕ)) → IsPageOf g h b x → length (bytes_in g.block_size x) ≡ g.block_size
page-length g h b None is = length-replicate {A = ℕ} g.block_size 0
page-length g h b (Some bytes) is = is.size

same-bytes : (block : ℕ) (x : Option (List ℕ)) → page_or_zeros block x ≡ bytes_in block x
same-bytes block None = refl
same-bytes block (Some bytes) = refl

-- the inode stands for the node with one piece more
pub piece-written : {o o' : Origin} {h new : Held} {body body' : InodeBody} (node : Node) (block at : ℕ) (from : List ℕ)
    (done next page inside : ℕ) (piece : List ℕ) → IsGeometry o.sizes → block ≡ o.sizes.block_size → IsPage o.sizes page
    → IsPiece block at from done next page inside piece → StandsFor o h body (put block node at (take done from))
    → StandsFor o' new body' (with_piece o.sizes.block_size (put block node at (take done from)) page inside piece)
    → StandsFor o' new (record body' { size = max body'.size (at + next) }) (put block node at (take next from))
piece-written {o} {o'} {h} {new} {body} {body'} node block at from done next page inside piece sizes e is part stands now =
    let was : Node = put block node at (take done from) in
    let x : Option (List ℕ) = fmap.get was.pages page in
    let long : length (bytes_in block x) ≡ block = ap (λ q. length (bytes_in q x)) e
    ∙ (page-length o.sizes h (page_block o.sizes h body.addresses page) x
    (stands.pages.within page (within-reach o.sizes page sizes is)) ∙ sym e) in
    let made : put block node at (take next from)
    ≡ record was { pages = fmap.insert was.pages page (patched (bytes_in block x) inside piece); size = max was.size (at + next) } =
    put-next block node at from done next page inside piece (patched (bytes_in block x) inside piece)
    (omega (arith, e, sizes.block_size)) part long
    (let P : List ℕ → Type 0 = λ q. written.IsPatched (bytes_in block x) inside piece q in
    subst P (sym (append_assoc (take inside (bytes_in block x)) piece (drop (inside + length piece) (bytes_in block x))))
    (written.patched (bytes_in block x) inside piece (omega (arith, long, piece-short (omega (arith, e, sizes.block_size)) part)))) in
    let here : with_piece o.sizes.block_size was page inside piece
    ≡ record was { pages = fmap.insert was.pages page (patched (bytes_in block x) inside piece) } =
    ap (λ q. record was { pages = fmap.insert was.pages page (patched q inside piece) })
    (same-bytes o.sizes.block_size x ∙ ap (λ q. bytes_in q x) (sym e)) in
    let same : body'.size ≡ was.size = now.described.size in
    let W : Node → Type 0 = λ q. StandsFor o' new (record body' { size = max body'.size (at + next) }) q in
    subst W
    (ap (λ (q : Node). record q { size = max body'.size (at + next) }) here
    ∙ (ap (λ q. record was { pages = fmap.insert was.pages page (patched (bytes_in block x) inside piece); size = max q (at + next) }) same
    ∙ sym made))
    (sized-stands (max body'.size (at + next)) now)

-- ---- needs

pub need-zero : (g : Geometry) (h : Held) (a : List ℕ) (page : ℕ) → need_of g h a page 0 ≡ 0
unfolding need_of
need-zero g h a page = refl

-- what was taken is what the bytes need that were put
pub need-done : (g : Geometry) (block at count k done first rest all : ℕ) (h now : Held) (a b : List ℕ) (page : ℕ) → 0 < block
    → block ≡ g.block_size → 0 < count → first ≡ at / block → IsReached block at count k done → k ≤ page_count block at count
    → need_of g h a first (k + 0) + rest ≡ need_of g now b page 0 + all → write_need g h a at done + rest ≡ all
need-done g block at count k done first rest all h now a b page pos e some f reached low needs =
    let touches : length (touched g.block_size at done) ≡ k = ap (λ q. length (touched q at done)) (sym e)
    ∙ reached-touched block at count k done pos some reached low in
    let from : at / g.block_size ≡ first = ap (λ q. at / q) (sym e) ∙ sym f in
    let same : write_need g h a at done ≡ need_of g h a first (k + 0) = ap (λ q. need_of g h a q (length (touched g.block_size at done)))
    from ∙ ap (need_of g h a first) (touches ∙ omega arith) in
    omega (arith, same, needs, need-zero g now b page)

-- ---- the range of pages

pub touched-length : (block at count : ℕ) → 0 < count → length (touched block at count) ≡ page_count block at count
touched-length block at count some =
    ap (λ t. length (cond t [] (range_with_len (at / block) ((at + count - 1) / block - at / block + 1))))
    (other count 0 (λ e. omega (arith, some, e)))
    ∙ length-range_with_len (at / block) ((at + count - 1) / block - at / block + 1)

-- there is a room for each page
pub rooms-first : (block at count rooms first last : ℕ) → 0 < block → 0 < count → length (touched block at count) ≤ rooms
    → first ≡ at / block → last ≡ (at + count - 1) / block → last + 1 ≤ rooms + first
rooms-first block at count rooms first last pos some enough f l =
    omega (arith, touched-length block at count some, enough, f, l, first-count block at pos count some)

-- what all pages need
pub need-whole : (g : Geometry) (block at count : ℕ) (h : Held) (a : List ℕ) → block ≡ g.block_size → 0 < count
    → need_of g h a (at / block) ((at + count - 1) / block - at / block + 1) ≡ write_need g h a at count
need-whole g block at count h a e some =
    let pages : length (touched g.block_size at count) ≡ page_count block at count = ap (λ q. length (touched q at count)) (sym e)
    ∙ touched-length block at count some in
    sym (ap (λ q. need_of g h a (at / q) (length (touched g.block_size at count))) (sym e) ∙ ap (need_of g h a (at / block)) pages)

pub rooms-whole : (block size at count n : ℕ) → size ≡ block → 0 < count → n ≡ (at + count - 1) / size - at / size + 1
    → length (touched block at count) ≤ n
rooms-whole block size at count n e some rooms =
    omega (arith, ap (λ q. length (touched q at count)) (sym e), touched-length size at count some, rooms)

-- the next page needs no more than is left
pub need-enough : (g : Geometry) (block at count k first last page rest all : ℕ) (h now : Held) (a b : List ℕ) → 0 < block
    → block ≡ g.block_size → 0 < count → first ≡ at / block → last ≡ (at + count - 1) / block → first + k ≤ last
    → need_of g h a first (k + 1) + rest ≡ need_of g now b page 1 + all → all ≡ write_need g h a at count → need_of g now b page 1 ≤ rest
need-enough g block at count k first last page rest all h now a b pos e some f l low needs total =
    let from : at / g.block_size ≡ first = ap (λ q. at / q) (sym e) ∙ sym f in
    let pages : length (touched g.block_size at count) ≡ page_count block at count = ap (λ q. length (touched q at count)) (sym e)
    ∙ touched-length block at count some in
    let same : write_need g h a at count ≡ need_of g h a first (page_count block at count) =
    ap (λ q. need_of g h a q (length (touched g.block_size at count))) from ∙ ap (need_of g h a first) pages in
    let fewer : need_of g h a first (k + 1) ≤ need_of g h a first (page_count block at count) = need-fewer g h a first (k + 1)
    (page_count block at count) (omega (arith, f, l, low)) in
    omega (arith, needs, total, same, fewer)

pub needs-next : {o o' : Origin} (now now' was : Held) (old b b' : List ℕ) (block at count first last page n rest new all : ℕ) → o' ≡ o
    → IsGeometry o.sizes → block ≡ o.sizes.block_size → 0 < count → at + count ≤ greatest_size o.sizes → first ≡ at / block
    → last ≡ (at + count - 1) / block → first ≤ page → page + 1 + n ≤ last + 1
    → need_of o.sizes was old first (page - first + suc n) + rest ≡ need_of o.sizes now b page (suc n) + all
    → (IsPage o'.sizes (page + n) → need_of o'.sizes now b page (suc n) + new ≡ need_of o'.sizes now' b' (suc page) n + rest)
    → need_of o.sizes was old first (page + 1 - first + n) + new ≡ need_of o.sizes now' b' (page + 1) n + all
needs-next {o} {o'} now now' was old b b' block at count first last page n rest new all e sizes size some limit f l low high before step =
    let P : Origin → Type 0 = λ q. IsPage q.sizes (page + n)
    → need_of q.sizes now b page (suc n) + new ≡ need_of q.sizes now' b' (suc page) n + rest in
    let here : at / block + (page - first + n) ≡ page + n = omega (arith, f, low) in
    let pos : 0 < block = omega (arith, size, sizes.block_size) in
    let is : IsPage o.sizes (page + n) =
    (let W : ℕ → Type 0 = IsPage o.sizes in subst W here
    (range-pages block at pos o.sizes count (sym size) some limit (page - first + n) (omega (arith, f, l, low, high)))) in
    let now_is : need_of o.sizes now b page (suc n) + new ≡ need_of o.sizes now' b' (suc page) n + rest = subst P e step is in
    let same : need_of o.sizes was old first (page + 1 - first + n) ≡ need_of o.sizes was old first (page - first + suc n) =
    ap (need_of o.sizes was old first) (omega (arith, low)) in
    let next : need_of o.sizes now' b' (page + 1) n ≡ need_of o.sizes now' b' (suc page) n = ap (λ q. need_of o.sizes now' b' q n)
    (omega arith) in
    omega (arith, before, now_is, same, next)

-- the last page is done
pub all-done : (block at count k done first last page : ℕ) → 0 < block → 0 < count → first ≡ at / block → last ≡ (at + count - 1) / block
    → k ≡ page - first → last + 1 ≤ page → IsReached block at count k done → done ≡ count
all-done block at count k done first last page pos some f l e high reached = reached-all block at pos count k done reached
    (omega (arith, f, l, e, high, first-count block at pos count some))

pub reached-same : {block at count k k' done : ℕ} → k' ≡ k → IsReached block at count k done → IsReached block at count k' done
reached-same {block} {at} {count} {done = done} e reached = let P : ℕ
    → Type 0 = λ q. IsReached block at count q done in subst P (sym e) reached

-- the pages of the range are pages that a file may have
pub range-page : {o o' : Origin} (block at count first last page : ℕ) → o' ≡ o → IsGeometry o.sizes → block ≡ o.sizes.block_size
    → 0 < count → at + count ≤ greatest_size o.sizes → first ≡ at / block → last ≡ (at + count - 1) / block → first ≤ page → page ≤ last
    → IsPage o'.sizes page
range-page {o} {o'} block at count first last page e sizes size some limit f l low high =
    let P : Origin → Type 0 = λ q. IsPage q.sizes page in
    let W : ℕ → Type 0 = IsPage o.sizes in
    let pos : 0 < block = omega (arith, size, sizes.block_size) in
    let here : at / block + (page - first) ≡ page = omega (arith, f, low) in
    subst P (sym e) (subst W here
    (range-pages block at pos o.sizes count (sym size) some limit (page - first) (omega (arith, f, l, low, high))))
