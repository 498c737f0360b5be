use Rattle.std.proofs.Common.{◌≡◌, ◌≢◌, ◌+◌, get_or, sym, ◌∙◌, ap, arith}
use Rattle.sv_form.specs.Node.{byte_of}
use Rattle.sv_plain.proofs.SameBytes.{same-begins, same-not, same-more, same-ends}
use Rattle.sv_plain.proofs.node.Node.has_bytes.Goals as goal

pub loop-k-init : goal.loop-k-init
loop-k-init c = record { same = same-begins c.args.block c.args.self.now c.args.at c.args.bytes.now; page = c.page.ensures }

pub returns-then-byte-bytes : goal.returns-then-byte-bytes
returns-then-byte-bytes c =
    let other : byte_of c.args.block c.args.self.now (c.args.at + c.loop-k.k) ≢ get_or c.args.bytes.now c.loop-k.k 0 = λ e. c.if-byte-bytes.true (c.byte_near-byte.ensures ∙ e) in
    sym (c.loop-k.invariant.same ∙ same-not c.args.block c.args.self.now c.args.at c.args.bytes.now c.loop-k.k (omega arith) other)

pub loop-k-preserved : goal.loop-k-preserved
loop-k-preserved c =
    let same : byte_of c.args.block c.args.self.now (c.args.at + c.loop-k.k) ≡ get_or c.args.bytes.now c.loop-k.k 0 = sym c.byte_near-byte.ensures ∙ c.if-byte-bytes.false in
    record { same = c.loop-k.invariant.same ∙ same-more c.args.block c.args.self.now c.args.at c.args.bytes.now c.loop-k.k (omega arith) same; page = c.page_near-near.ensures.page }

pub returns : goal.returns
returns c = sym (c.loop-k.invariant.same ∙ same-ends c.args.block c.args.self.now c.args.at c.args.bytes.now c.loop-k.k (omega arith))
