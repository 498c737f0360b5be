use Rattle.std.proofs.lemmas.Bool.{iff_false}
use Rattle.sv_session.proofs.NumberWords.{read_decimal, no_decimal, no_sign, no_zero}
use Rattle.sv_session.proofs.words.number.Goals as goal

pub returns-then-not-begins_plainly-clause-none : goal.returns-then-not-begins_plainly-clause-none
returns-then-not-begins_plainly-clause-none c n fits is =
    iff_false c.begins_plainly.ensures c.if-not-begins_plainly.true ((λ sign. no_sign _ n fits is sign), no_zero _ n fits is)

pub returns-clause-some : goal.returns-clause-some
returns-clause-some c =
    let plain = c.begins_plainly.ensures.0 c.if-not-begins_plainly.false in
    rw c.ok.ensures.value (read_decimal _ _ _ c.parse.ensures.value.0 plain.0 plain.1)

pub returns-clause-none : goal.returns-clause-none
returns-clause-none c =
    let plain = c.begins_plainly.ensures.0 c.if-not-begins_plainly.false in
    rw c.ok.ensures.value (no_decimal _ _ _ c.parse.ensures.value.0 plain.0)
