-- The blocks have the lines that were held, which are all.
use Rattle.std.proofs.Common.{◌≡◌, ◌<◌, ℕ, List, [], length, map, get_or, sym, ap, ◌∙◌, subst, arith, Vec, Global}
use Rattle.std.specs.List.{All}
use Rattle.std.proofs.lemmas.List.{get_or-map, length-map}
use Rattle.std.proofs.lemmas.List.Elements.{All-get_or, All-from_get_or}
use Rattle.sv_store.specs.Held.{of_content}
use Rattle.sv_store.specs.Content.{block_bytes}
use Rattle.sv_store.proofs.OwnContent.{block-at, content-held, whole-again, sizes-all, all-sizes}
use Rattle.sv_store.proofs.own_stake.OwnStake.into_content.Goals as goal

pub copy_all-requires-clause-bytes : goal.copy_all-requires-clause-bytes
copy_all-requires-clause-bytes c = λ b low.
    ap (λ q. length (block_bytes q b)) c.as_mut_slice.ensures.value
    ∙ all-sizes c.args.self.sizes.block_size c.in-Ok.content.items c.in-Ok.ensures.bytes b (omega (arith, low, c.in-Ok.ensures.count))

pub returns-clause-bytes : goal.returns-clause-bytes
returns-clause-bytes c =
    let P : List (Vec ℕ Global) → Type 0 = λ q. All (λ bytes. length bytes.items ≡ c.args.self.sizes.block_size) q in
    subst P (sym (whole-again c.in-Ok.content.len c.copy_all.new.content c.in-Ok.content.items (omega (arith, c.copy_all.ensures.count, c.in-Ok.ensures.count, c.in-Ok.content.ok.0)) (omega (arith, c.in-Ok.content.ok.0))))
    (sizes-all c.args.self.sizes.block_size c.copy_all.new.content (λ b low. c.copy_all.ensures.bytes b (omega (arith, low, c.copy_all.ensures.count))))

pub returns-clause-held : goal.returns-clause-held
returns-clause-held c =
    ap (λ q. of_content c.args.self.sizes (map (λ bytes. bytes.items) q)) (whole-again c.in-Ok.content.len c.copy_all.new.content c.in-Ok.content.items (omega (arith, c.copy_all.ensures.count, c.in-Ok.ensures.count, c.in-Ok.content.ok.0)) (omega (arith, c.in-Ok.content.ok.0)))
    ∙ content-held (record { id = c.args.self.tally.fails; sizes = c.args.self.sizes }) c.args.self.blocks c.copy_all.new.content c.args.self.sound c.copy_all.ensures.count c.requires.lines c.copy_all.ensures.lines
