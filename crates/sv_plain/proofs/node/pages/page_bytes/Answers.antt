use Rattle.std.proofs.Common.{◌≡◌, ◌+◌, ◌-◌, ◌++◌, ℕ, List, length, option_copied, replicate, take, ap, ◌∙◌, arith}
use Rattle.sv_form.specs.Node.{page_byte}
use Rattle.sv_plain.proofs.PutBytes.{filled_front}
use Rattle.sv_plain.proofs.node.pages.page_bytes.Goals as goal

pub returns : goal.returns
returns c =
    let all : List ℕ = c.present.result.now in
    let f = page_byte (option_copied c.args.page) in
    let whole : c.extend_from_slice.new.self.items ≡ all = c.in_ok-extend_from_slice.ensures.items
    ∙ ap (λ xs. xs ++ all) c.new-bytes.ensures.items in
    let len : c.extend_from_slice.new.self.len ≡ length all = c.extend_from_slice.new.self.ok.0 ∙ ap length whole in
    c.in_ok-resize.ensures.items
    ∙ (λ i. take c.args.block (whole i) ++ replicate (c.args.block - len i) 0)
    ∙ filled_front all 0 c.args.block f (λ k. let at : 0 + k ≡ k = omega arith in ap f at ∙ c.present.ensures k)
