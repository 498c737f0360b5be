-- The line is written over, and each byte outside it stays.
use Rattle.std.proofs.Common.{◌≡◌, ◌+◌, ◌*◌, cond, take, drop, ◌-◌, sym, ap, ◌∙◌, arith, rules}
use borrow.Rule.Slice.PartMut.{put_mid}
use Rattle.std.proofs.lemmas.List.{places}
use Rattle.std.proofs.lemmas.Slice.{overwrites}
use Rattle.sv_store.specs.Held.{line_of}
use Rattle.sv_store.proofs.Lines.{line_of-same}
use Rattle.sv_store.proofs.own_block.copy_line.Goals as goal

pub returns-then-held-clause-line : goal.returns-then-held-clause-line
unfolding line_of
returns-then-held-clause-line c =
    (let cut : take (c.args.l * 64 + 64 - c.args.l * 64) (drop (c.args.l * 64) (put_mid (c.args.l * 64) (c.args.l * 64 + 64 - c.args.l * 64) c.args.into.now c.copy_from_slice.new.self)) ≡ c.copy_from_slice.new.self = search (rules, overwrites) in cut ∙ c.copy_from_slice.ensures.after)
    ∙ sym (ap (λ q. cond q (line_of c.args.from.now c.args.l) (line_of c.args.into.now c.args.l)) c.if-held.true)

pub returns-then-held-clause-others : goal.returns-then-held-clause-others
returns-then-held-clause-others c = λ m other. line_of-same _ _ m (search (rules, places)) (λ k below. grind (arith, places))
