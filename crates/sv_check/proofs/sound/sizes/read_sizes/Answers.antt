use Rattle.std.proofs.Common.{arith, sym, ◌∙◌}
use Rattle.std.proofs.lemmas.Bool.{iff_false}
use Rattle.sv_check.proofs.SizeFlaws.{no_magic, has_magic, wrong_type, has_type, spelled, unreadable, unfit, sized}
use Rattle.sv_check.proofs.sound.sizes.read_sizes.Goals as goal

pub returns-then-number32-ne-MAGIC-clause-err : goal.returns-then-number32-ne-MAGIC-clause-err
returns-then-number32-ne-MAGIC-clause-err g c =
    no_magic _ _ c.in_ok-bytes.ensures.bytes (λ is. c.if-number32-ne-MAGIC.true (c.number32.ensures ∙ is))

pub returns-then-block_type-ne-BLOCK_TYPE-clause-err : goal.returns-then-block_type-ne-BLOCK_TYPE-clause-err
returns-then-block_type-ne-BLOCK_TYPE-clause-err g c =
    let e = c.in_ok-bytes.ensures.bytes in
    let has = has_magic _ _ e (omega arith) (sym c.number32.ensures ∙ c.if-number32-ne-MAGIC.false) in
    wrong_type _ _ e _ has (omega arith) (λ two. c.if-block_type-ne-BLOCK_TYPE.true (omega arith))

pub returns-in_default-clause-err : goal.returns-in_default-clause-err
returns-in_default-clause-err g c =
    let e = c.in_ok-bytes.ensures.bytes in
    let has = has_magic _ _ e (omega arith) (sym c.number32.ensures ∙ c.if-number32-ne-MAGIC.false) in
    let type = has_type _ _ e _ c.number16-block_type.ensures c.if-block_type-ne-BLOCK_TYPE.false in
    unreadable _ _ e has type c.in_default.ensures.none

pub returns-then-not-fits-clause-err : goal.returns-then-not-fits-clause-err
returns-then-not-fits-clause-err g c =
    let e = c.in_ok-bytes.ensures.bytes in
    let has = has_magic _ _ e (omega arith) (sym c.number32.ensures ∙ c.if-number32-ne-MAGIC.false) in
    let type = has_type _ _ e _ c.number16-block_type.ensures c.if-block_type-ne-BLOCK_TYPE.false in
    unfit _ _ e c.in-Some.head _ c.length-length.ensures has type c.in-Some.ensures.some (iff_false c.fits.ensures c.if-not-fits.true)

pub returns-clause-sized : goal.returns-clause-sized
returns-clause-sized g c =
    let e = c.in_ok-bytes.ensures.bytes in
    let has = has_magic _ _ e (omega arith) (sym c.number32.ensures ∙ c.if-number32-ne-MAGIC.false) in
    let type = has_type _ _ e _ c.number16-block_type.ensures c.if-block_type-ne-BLOCK_TYPE.false in
    sized _ _ e c.in-Some.head _ c.length-length.ensures has type c.in-Some.ensures.some (c.fits.ensures.0 c.if-not-fits.false)

pub returns-clause-head : goal.returns-clause-head
returns-clause-head g c = spelled _ _ c.in_ok-bytes.ensures.bytes c.in-Some.head c.in-Some.ensures.some
