use Rattle.std.proofs.Common.{◌≡◌, ◌<◌, ◌≤◌, ◌+◌, ◌-◌, ◌*◌, ◌&&◌, ℕ, List, drop, length, map, nat_le, nat_lt, option_copied}
use Rattle.std.proofs.Common.{slice_index, if◌then◌else◌, refl, sym, ap, ◌∙◌, arith}
use Rattle.std.proofs.lemmas.List.FromFn.{get_or-map-range_with_len, length-map-range_with_len}
use Rattle.std.specs.List.{range_with_len}
use Rattle.sv_form.specs.Node.{Node, page_byte}
use Rattle.sv_form.specs.NodeChanges.{byte_after}
use Rattle.sv_plain.proofs.PageBytes.{put_in_page}
use Rattle.sv_plain.proofs.PutBytes.{front_is, listed}
use Rattle.sv_plain.proofs.node.Node.page_after.Goals as goal

pub put_over-requires : goal.put_over-requires
put_over-requires c =
    let f = page_byte (option_copied c.page.result) in
    let long : length c.as_mut_slice.result.now ≡ c.args.block =
    ap length (c.as_mut_slice.ensures.value ∙ c.in_ok-after.ensures) ∙ length-map-range_with_len f 0 c.args.block in
    omega (arith, long)

pub returns : goal.returns
returns c =
    let block : ℕ = c.args.block in
    let node : Node = c.args.self.now in
    let page : ℕ = c.args.page in
    let at : ℕ = c.args.at in
    let bytes : List ℕ = c.args.bytes.now in
    let f = page_byte (option_copied c.page.result) in
    let was : List ℕ = c.as_mut_slice.result.now in
    let is : was ≡ map f (range_with_len 0 block) = c.as_mut_slice.ensures.value ∙ c.in_ok-after.ensures in
    let long : length was ≡ block = ap length is ∙ length-map-range_with_len f 0 block in
    let same : length c.put_over.new.page ≡ c.in_ok-after.after.len = c.put_over.ensures.len
    ∙ ap length c.as_mut_slice.ensures.value ∙ sym c.in_ok-after.after.ok.0 in
    c.from_vec.ensures
    ∙ front_is c.put_over.new.page (drop (length c.put_over.new.page) c.in_ok-after.after.items) c.in_ok-after.after.len same
    ∙ listed c.put_over.new.page (page * block) block (byte_after block node at bytes) (c.put_over.ensures.len ∙ long)
    (λ r low.
    (let there : r < length was = omega (arith, low, long) in
    let old : slice_index was r ≡ f r = ap (λ (xs : List ℕ). slice_index xs r) is
    ∙ get_or-map-range_with_len f 0 block r r 0 low (omega arith) in
    c.put_over.ensures.bytes r there
    ∙ ap (λ (b : ℕ). if nat_le at (page * block + r) && nat_lt (page * block + r) (at + length bytes) then slice_index bytes
    (page * block + r - at) else b) old
    ∙ put_in_page block node at bytes page r (option_copied c.page.result) c.page.ensures low))
