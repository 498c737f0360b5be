-- The bytes of a node by those of a page that was looked up.
use Rattle.std.proofs.Common.{◌≡◌, ◌<◌, ◌+◌, ◌-◌, ◌*◌, ◌/◌, ◌%◌, ◌&&◌, ◌∙◌, ℕ, List, Option, ap, sym, length, nat_le, nat_lt, slice_index, if◌then◌else◌}
use Rattle.std.proofs.lemmas.Nat.{div-mul-add, mod-mul-add}
use Rattle.std.specs.FinMap as fmap
use Rattle.sv_form.specs.Node.{Node, byte_of, page_byte}
use Rattle.sv_form.specs.NodeChanges.{byte_after}

-- a byte of the page
pub near : (block : ℕ) (node : Node) (number k : ℕ) (page : Option (List ℕ)) → page ≡ fmap.get node.pages number → k / block ≡ number → page_byte page (k % block) ≡ byte_of block node k
unfolding byte_of
near block node number k page is at = ap (λ (o : Option (List ℕ)). page_byte o (k % block)) (is ∙ ap (λ (n : ℕ). fmap.get node.pages n) (sym at))

-- byte r of a page
pub in_page : (block : ℕ) (node : Node) (number r : ℕ) → r < block → page_byte (fmap.get node.pages number) r ≡ byte_of block node (number * block + r)
unfolding byte_of
in_page block node number r low =
    let page : (number * block + r) / block ≡ number = div-mul-add number block r low in
    let rest : (number * block + r) % block ≡ r = mod-mul-add number block r low in
    sym (ap (λ (n : ℕ). page_byte (fmap.get node.pages n) ((number * block + r) % block)) page ∙ ap (λ (m : ℕ). page_byte (fmap.get node.pages number) m) rest)

-- the same once bytes were put
pub put_in_page : (block : ℕ) (node : Node) (at : ℕ) (bytes : List ℕ) (number r : ℕ) (page : Option (List ℕ)) → page ≡ fmap.get node.pages number → r < block
    → (if nat_le at (number * block + r) && nat_lt (number * block + r) (at + length bytes) then slice_index bytes (number * block + r - at) else page_byte page r)
    ≡ byte_after block node at bytes (number * block + r)
put_in_page block node at bytes number r page is low =
    ap (λ (b : ℕ). if nat_le at (number * block + r) && nat_lt (number * block + r) (at + length bytes) then slice_index bytes (number * block + r - at) else b)
    (ap (λ (o : Option (List ℕ)). page_byte o r) is ∙ in_page block node number r low)
