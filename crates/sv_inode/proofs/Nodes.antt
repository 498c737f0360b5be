-- The bytes of a node are those of the file that stands for it.
use Rattle.std.proofs.Common.{◌≡◌, ◌≢◌, ◌+◌, ◌-◌, ◌/◌, ◌%◌, ◌<◌, ◌≤◌, ◌==◌, ℕ, List, [], get_or, min, false, cond, Option, Some, None}
use Rattle.std.proofs.Common.{IfOk, Result, unwrap_or, arith, sym, ◌∙◌, ap, subst}
use Rattle.std.specs.FinMap as fmap
use Rattle.std.proofs.lemmas.Bool.Decides.{nat_tests}
use Rattle.sv_form.specs.Node.{Node, byte_of, bytes_of, page_byte}
use Rattle.sv_form.specs.PagePath.{greatest_size}
use Rattle.sv_form.specs.declared.geometry.Geometry.{Geometry}
use Rattle.sv_form.specs.declared.inode.InodeBody.{InodeBody}
use Rattle.sv_store.specs.Held.{Held, Origin}
use Rattle.sv_store.proofs.Lines.{get_or-by_line}
use Rattle.sv_bmap.specs.Tree.{no_hole, page_block}
use Rattle.sv_inode.specs.Contents.{part_byte, file_byte, file_bytes}
use Rattle.sv_inode.specs.StandsFor.{IsPageOf, StandsFor}
use Rattle.sv_inode.proofs.PageParts.{same_map}
use Rattle.sv_inode.proofs.PagesHeld.{reach}

apart : (a b : ℕ) → a ≢ b → (a == b) ≡ false
apart a b h = grind (nat_tests, arith)

hole_is : (b : ℕ) → b ≢ 0 → no_hole b ≡ Some b
hole_is b some = ap (λ t. cond t None (Some b)) (apart b 0 some)

-- byte r of a page is that of its block
page_is : (g : Geometry) (h : Held) (b r : ℕ) → r < g.block_size → (x : Option (List ℕ)) → IsPageOf g h b x
    → page_byte x r ≡ part_byte h (no_hole b) r
page_is g h b r low None e = sym (ap (λ q. part_byte h (no_hole q) r) e)
page_is g h b r low (Some bytes) is =
    get_or-by_line bytes r
    ∙ (ap (λ q. get_or (unwrap_or q []) (r % 64) 0) (sym (is.lines (r / 64) (omega arith)))
    ∙ ap (λ q. part_byte h q r) (sym (hole_is b is.some)))

rest_below : (x n : ℕ) → 0 < n → x % n < n
rest_below x n pos = grind arith

byte_is : (o : Origin) (h : Held) (body : InodeBody) (node : Node) → 0 < o.sizes.block_size → StandsFor o h body node → (k : ℕ)
    → k < greatest_size o.sizes → byte_of o.sizes.block_size node k ≡ file_byte o.sizes h body.addresses k
unfolding byte_of file_byte
byte_is o h body node pos stands k low =
    page_is o.sizes h (page_block o.sizes h body.addresses (k / o.sizes.block_size)) (k % o.sizes.block_size)
    (rest_below k o.sizes.block_size pos)
    (fmap.get node.pages (k / o.sizes.block_size)) (stands.pages.within (k / o.sizes.block_size) (reach o.sizes k pos low))

-- so many bytes of the node, below the greatest size
node_bytes : (o : Origin) (h : Held) (body : InodeBody) (node : Node) → 0 < o.sizes.block_size → StandsFor o h body node → (at count : ℕ)
    → (0 < count → at + count ≤ greatest_size o.sizes)
    → bytes_of o.sizes.block_size node at count ≡ file_bytes o.sizes h body.addresses at count
unfolding bytes_of file_byte file_bytes
node_bytes o h body node pos stands at count fits =
    same_map (byte_of o.sizes.block_size node) (file_byte o.sizes h body.addresses) at at count
    (λ k low. byte_is o h body node pos stands (at + k) (let end : at + count ≤ greatest_size o.sizes = fits (omega arith) in omega arith))

-- what was read of the file, n bytes, is what the node has there
pub read_node : {E : Type 0} (o : Origin) (h : Held) (body : InodeBody) (node : Node) (at count room n : ℕ) (result : Result (List ℕ) E)
    → 0 < o.sizes.block_size → body.size ≤ greatest_size o.sizes → StandsFor o h body node
    → room ≡ body.size - at → n ≡ min count room
    → IfOk result (λ bytes. bytes ≡ file_bytes o.sizes h body.addresses at n)
    → IfOk result (λ bytes. bytes ≡ bytes_of o.sizes.block_size node at (min count (node.size - at)))
read_node o h body node at count room n result pos limit stands e f is =
    let size : body.size ≡ node.size = stands.described.size in
    let many : n ≡ min count (node.size - at) = omega arith in
    let same : file_bytes o.sizes h body.addresses at n ≡ bytes_of o.sizes.block_size node at (min count (node.size - at)) =
    sym (node_bytes o h body node pos stands at n (λ some. omega arith)) ∙ ap (bytes_of o.sizes.block_size node at) many in
    let P : List ℕ → Type 0 = λ q. IfOk result (λ bytes. bytes ≡ q) in
    subst P same is
