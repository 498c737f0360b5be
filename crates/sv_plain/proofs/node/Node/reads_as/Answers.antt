use Rattle.std.proofs.Common.{◌≡◌, ◌-◌, min, length, sym, ◌∙◌, ap, arith}
use Rattle.sv_form.specs.Node.{Node, bytes_of}
use Rattle.sv_plain.proofs.SameBytes.{other_length, length-bytes_of, none_read}
use Rattle.sv_plain.proofs.node.Node.reads_as.Goals as goal

pub returns-then-bytes-left : goal.returns-then-bytes-left
returns-then-bytes-left c =
    let size : c.self.inside.size ≡ c.args.self.now.size = ap (λ (n : Node). n.size) c.self.view_is in
    let left : c.min-left.result ≡ min c.args.count (c.args.self.now.size - c.args.at) = omega (arith, c.min-left.ensures, c.saturating_sub.ensures, size) in
    sym (other_length c.args.bytes.now (bytes_of c.args.block c.args.self.now c.args.at (min c.args.count (c.args.self.now.size - c.args.at)))
    (λ e. c.if-bytes-left.true (e ∙ length-bytes_of c.args.block c.args.self.now c.args.at (min c.args.count (c.args.self.now.size - c.args.at)) ∙ sym left)))

pub returns-then-left-eq0 : goal.returns-then-left-eq0
returns-then-left-eq0 c =
    let size : c.self.inside.size ≡ c.args.self.now.size = ap (λ (n : Node). n.size) c.self.view_is in
    let none : min c.args.count (c.args.self.now.size - c.args.at) ≡ 0 = omega (arith, c.min-left.ensures, c.saturating_sub.ensures, size) in
    none_read c.args.block c.args.self.now c.args.at (min c.args.count (c.args.self.now.size - c.args.at)) c.args.bytes.now none (omega arith)
