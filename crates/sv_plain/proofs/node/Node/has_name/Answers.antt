use Rattle.std.proofs.Common.{◌≡◌, ◌≢◌, ◌≤◌, ◌<◌, ℕ, ◌+◌, ◌*◌, ◌==◌, length, get_or, ap, sym, ◌∙◌, arith}
use Rattle.sv_form.specs.Node.{byte_of}
use Rattle.sv_plain.proofs.NameBytes.{rest_is, rest-begins, name-ends, name-zero, name-differs, name-same, name-over}
use Rattle.sv_plain.proofs.node.Node.has_name.Goals as goal

pub loop-k-init : goal.loop-k-init
loop-k-init c =
    let place : 16 * c.args.j + 2 ≡ c.place_in_bytes-first.result + 2 + 0 = omega (arith, c.place_in_bytes-first.ensures.begins) in
    record {
      within = omega arith;
      same = rest-begins c.args.block c.args.self.now c.args.j c.args.name.now ∙ ap (λ at. rest_is c.args.block c.args.self.now at 14 c.args.name.now) place;
    }

pub returns-then-place-name : goal.returns-then-place-name
returns-then-place-name c =
    let first : ℕ = c.place_in_bytes-first.result + 2 in
    ap (λ b. b == 0) c.byte_near-byte.ensures
    ∙ sym (c.loop-k.invariant.same ∙ name-ends c.args.block c.args.self.now first c.args.name.now c.loop-k.k (omega arith) (omega arith))

pub returns-then-byte-eq0 : goal.returns-then-byte-eq0
returns-then-byte-eq0 c =
    let first : ℕ = c.place_in_bytes-first.result + 2 in
    let zero_byte : byte_of c.args.block c.args.self.now (first + c.loop-k.k) ≡ 0 = omega (arith, c.byte_near-byte.ensures, c.if-byte-eq0.true) in
    sym (c.loop-k.invariant.same ∙ name-zero c.args.block c.args.self.now first c.args.name.now c.loop-k.k (omega arith) (omega arith) zero_byte)

pub returns-then-byte-name : goal.returns-then-byte-name
returns-then-byte-name c =
    let first : ℕ = c.place_in_bytes-first.result + 2 in
    let other : byte_of c.args.block c.args.self.now (first + c.loop-k.k) ≢ get_or c.args.name.now c.loop-k.k 0 = λ e. c.if-byte-name.true (c.byte_near-byte.ensures ∙ e) in
    sym (c.loop-k.invariant.same ∙ name-differs c.args.block c.args.self.now first c.args.name.now c.loop-k.k (omega arith) (omega arith) other)

pub loop-k-preserved : goal.loop-k-preserved
loop-k-preserved c =
    let first : ℕ = c.place_in_bytes-first.result + 2 in
    let same : byte_of c.args.block c.args.self.now (first + c.loop-k.k) ≡ get_or c.args.name.now c.loop-k.k 0 = sym c.byte_near-byte.ensures ∙ c.if-byte-name.false in
    let some : byte_of c.args.block c.args.self.now (first + c.loop-k.k) ≢ 0 = λ e. c.if-byte-eq0.false (c.byte_near-byte.ensures ∙ e) in
    record {
      within = omega arith;
      same = c.loop-k.invariant.same ∙ name-same c.args.block c.args.self.now first c.args.name.now c.loop-k.k (omega arith) (omega arith) same some;
    }

pub returns : goal.returns
returns c =
    let first : ℕ = c.place_in_bytes-first.result + 2 in
    sym (c.loop-k.invariant.same ∙ name-over c.args.block c.args.self.now first c.args.name.now c.loop-k.k (omega arith) c.loop-k.invariant.within)
