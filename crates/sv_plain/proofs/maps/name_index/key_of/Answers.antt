use Rattle.std.proofs.Common.{◌≡◌, ◌+◌, ◌*◌, ◌%◌, ◌^◌, ℕ, drop, get_or, sym, ap, ◌∙◌, arith}
use Rattle.sv_plain.specs.NameIndex.{key_from}
use Rattle.sv_plain.proofs.NameNotes.{key-ends, key-more, key-over, rest}
use Rattle.sv_plain.proofs.maps.name_index.key_of.Goals as goal

pub returns-then-byte-eq0 : goal.returns-then-byte-eq0
returns-then-byte-eq0 c =
    let bytes = c.args.bytes.now in
    sym (c.loop-k.invariant ∙ ap (key_from c.loop-k.key) (rest bytes c.loop-k.k (omega arith))
    ∙ key-ends c.loop-k.key (get_or bytes c.loop-k.k 0) (drop (c.loop-k.k + 1) bytes) c.if-byte-eq0.true)

pub loop-k-preserved : goal.loop-k-preserved
loop-k-preserved c =
    let bytes = c.args.bytes.now in
    c.loop-k.invariant ∙ ap (key_from c.loop-k.key) (rest bytes c.loop-k.k (omega arith))
    ∙ key-more c.loop-k.key (get_or bytes c.loop-k.k 0) (drop (c.loop-k.k + 1) bytes) c.if-byte-eq0.false
    ∙ ap (λ (b : ℕ). key_from (c.loop-k.key % 2 ^ 120 * 256 + b) (drop (c.loop-k.k + 1) bytes)) (sym c.from.ensures)

pub returns : goal.returns
returns c = sym (c.loop-k.invariant ∙ key-over c.loop-k.key c.loop-k.k c.args.bytes.now (omega arith))
