use Rattle.std.proofs.Common.{◌≡◌, ◌+◌, ◌-◌, ◌*◌, ◌%◌, ◌^◌, ℕ, map, option_copied, sym, ap, ◌∙◌, arith}
use Rattle.std.specs.List.{range_with_len}
use Rattle.sv_form.specs.FileBytes.{page_byte}
use Rattle.sv_plain.specs.NameIndex.{key_from, name_key}
use Rattle.sv_plain.proofs.NameNotes.{key-ends, key-more, ranged}
use Rattle.sv_plain.proofs.maps.name_index.key_at.Goals as goal

pub loop-k-init : goal.loop-k-init
loop-k-init c = let first : c.args.at ≡ c.args.at + 0 = omega arith in
    ap (λ (n : ℕ). name_key (map (page_byte (option_copied c.args.page)) (range_with_len n 14))) first

pub returns-then-byte-eq0 : goal.returns-then-byte-eq0
returns-then-byte-eq0 c =
    let f = page_byte (option_copied c.args.page) in
    let k : ℕ = c.loop-k.k in
    let none : f (c.args.at + k) ≡ 0 = sym c.byte_of_page-byte.ensures ∙ c.if-byte-eq0.true in
    sym (c.loop-k.invariant ∙ ap (key_from c.loop-k.key) (ranged f c.args.at k (omega arith))
    ∙ key-ends c.loop-k.key (f (c.args.at + k)) (map f (range_with_len (c.args.at + (k + 1)) (14 - (k + 1)))) none)

pub loop-k-preserved : goal.loop-k-preserved
loop-k-preserved c =
    let f = page_byte (option_copied c.args.page) in
    let k : ℕ = c.loop-k.k in
    let tail = map f (range_with_len (c.args.at + (k + 1)) (14 - (k + 1))) in
    c.loop-k.invariant
    ∙ ap (key_from c.loop-k.key) (ranged f c.args.at k (omega arith))
    ∙ key-more c.loop-k.key (f (c.args.at + k)) tail (λ e. c.if-byte-eq0.false (c.byte_of_page-byte.ensures ∙ e))
    ∙ ap (λ (b : ℕ). key_from (c.loop-k.key % 2 ^ 120 * 256 + b) tail) (sym (c.from.ensures ∙ c.byte_of_page-byte.ensures))

pub returns : goal.returns
returns c =
    let f = page_byte (option_copied c.args.page) in
    let over : c.loop-k.k ≡ 14 = omega arith in
    sym (c.loop-k.invariant ∙ ap (λ (n : ℕ). key_from c.loop-k.key (map f (range_with_len (c.args.at + n) (14 - n)))) over)
