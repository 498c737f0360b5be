-- The bytes of an entry are zero in its page: the inode stands for the node with these bytes.
use Rattle.std.proofs.Common.{◌≡◌, ◌≤◌, ◌<◌, ◌+◌, ◌*◌, ◌/◌, ◌%◌, ℕ, List, max, replicate, take, Some, arith, refl, sym, ap, ◌∙◌, subst}
use Rattle.sv_form.specs.Geometry.{IsGeometry}
use Rattle.sv_form.specs.Node.{Node}
use Rattle.sv_form.specs.NodeChanges as changes
use Rattle.sv_form.specs.PagePath.{IsPage, greatest_size}
use Rattle.sv_form.specs.declared.geometry.Geometry.{Geometry}
use Rattle.sv_form.specs.declared.inode.InodeBody.{InodeBody}
use Rattle.sv_store.specs.Calls.{Gets}
use Rattle.sv_store.specs.Held.{Held, Origin, put}
use Rattle.sv_store.specs.Loan.{Loan}
use Rattle.sv_inode.specs.Contents.{block_of}
use Rattle.sv_inode.specs.StandsFor.{StandsFor}
use Rattle.sv_inode.specs.Write.{patched, with_piece}
use Rattle.sv_inode.proofs.PagesPut.{piece-written}
use Rattle.sv_inode.proofs.PieceEnds.{IsPiece}
use Rattle.sv_inode.proofs.PiecePut.{piece-present}
use Rattle.sv_inode.proofs.PutBack.{node-same}

pub sizes-same : {g g' : Geometry} → g ≡ g' → IsGeometry g → IsGeometry g'
sizes-same e sizes = let P : Geometry → Type 0 = λ q. IsGeometry q in subst P e sizes

-- the page of an entry, and where it begins there
pub page-at : (g g' : Geometry) (place : ℕ) → g ≡ g' → IsGeometry g → 16 * place / g.block_size ≡ 16 * place / 1024
page-at g g' place e sizes = ap (λ b. 16 * place / b) sizes.block_size

pub from-at : (g : Geometry) (place : ℕ) → IsGeometry g → 16 * place % g.block_size ≡ 16 * place % 1024
from-at g place sizes = ap (λ b. 16 * place % b) sizes.block_size

pub entry-page : (g : Geometry) (place page size : ℕ) → IsGeometry g → size ≤ greatest_size g → place < size / 16 → page ≡ 16 * place / 1024
    → IsPage g page
entry-page g place page size sizes limit low at =
    let rows : page * g.block_size ≡ page * 1024 = ap (λ b. page * b) sizes.block_size in
    omega (arith, rows, at, low, limit)

pub entry-blanked : {o o' o'' : Origin} {h h' new : Held} {body : InodeBody} (node : Node) {p : ℕ} {buf : Loan} (place page from : ℕ)
    → IsGeometry o.sizes → body.size ≤ greatest_size o.sizes → place < body.size / 16 → page ≡ 16 * place / 1024
    → from ≡ 16 * place % 1024 → StandsFor o h body node → block_of o.sizes h body.addresses page ≡ Some p → o' ≡ o → h' ≡ h → o'' ≡ o'
    → Gets o' h' p buf → new ≡ put p (patched buf.bytes from (replicate 16 0)) h'
    → StandsFor o'' new body (changes.put o.sizes.block_size node (16 * place) (replicate 16 0))
entry-blanked {o} {o'} {o''} {h} {h'} {new} {body} node {p} {buf} place page from sizes limit low at begins stands there e f e' gets puts =
    let P : ℕ → Type 0 = λ q. StandsFor o'' new (record body { size = q }) (changes.put block node (16 * place) zeros) in
    subst P whole (piece-written node block (16 * place) zeros 0 16 page from zeros sizes refl is part was now)
  where
    zeros : List ℕ
    zeros = replicate 16 0

    block : ℕ
    block = o.sizes.block_size

    size : o.sizes.block_size ≡ 1024
    size = sizes.block_size

    whole : max body.size (16 * place + 16) ≡ body.size
    whole = omega (arith, low)

    is : IsPage o.sizes page
    is = entry-page o.sizes place page body.size sizes limit low at

    fits : from + 16 ≤ o.sizes.block_size
    fits = omega (arith, begins, size)

    part : IsPiece block (16 * place) zeros 0 16 page from zeros
    part = record {
      some = omega arith;
      page_is = (let here : page ≡ (16 * place + 0) / 1024 = omega (arith, at) in here ∙ ap (λ b. (16 * place + 0) / b) (sym size));
      inside_is = (let here : from ≡ (16 * place + 0) % 1024 = omega (arith, begins) in here ∙ ap (λ b. (16 * place + 0) % b) (sym size));
      next_is = omega (arith, fits);
      piece_is = refl;
    }

    was : StandsFor o h body (changes.put block node (16 * place) (take 0 zeros))
    was = node-same block (16 * place) (take 0 zeros) refl stands

    now : StandsFor o'' new body (with_piece block (changes.put block node (16 * place) (take 0 zeros)) page from zeros)
    now = piece-present page from zeros sizes is fits was there e f e' gets puts
