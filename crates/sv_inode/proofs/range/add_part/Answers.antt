-- What is copied is the part of the page, and the block goes back as it came.
use Rattle.std.proofs.Common.{◌+◌, ◌++◌, ℕ, Option, IfSome, slice_range, sym, ap, ◌∙◌, subst}
use Rattle.sv_store.specs.Held.{Lent, HoldsBlock, without}
use Rattle.sv_store.proofs.Holding.{CanReturn-got, without-with}
use Rattle.sv_inode.specs.Contents.{part_bytes}
use Rattle.sv_inode.proofs.PageParts.{hole_part, part_got}
use Rattle.sv_inode.proofs.range.add_part.Goals as goal

pub returns-in_default-clause-bytes : goal.returns-in_default-clause-bytes
returns-in_default-clause-bytes g c =
    c.in_ok-add_zeros.ensures
    ∙ ap (λ q. c.args.bytes.now.items ++ q)
    (hole_part (g.S.Stake.held c.args.s.now) c.args.from c.args.count
    ∙ ap (λ (x : Option ℕ). part_bytes (g.S.Stake.held c.args.s.now) x c.args.from c.args.count) (sym c.in_default.is))

pub brelse-requires : goal.brelse-requires
brelse-requires g c = CanReturn-got c.in_ok-buf.ensures.ok _ _ c.in_ok-buf.ensures.lends

pub returns-in_err-added-clause-stake : goal.returns-in_err-added-clause-stake
returns-in_err-added-clause-stake g c = record {
  lines = c.brelse.ensures.held ∙ c.get_page.ensures.held;
  away =
      c.brelse.ensures.lends
      ∙ (ap (λ q. without q (g.S.Stake.lent c.get_page.new.s)) c.in_ok-buf.ensures.ok.block
      ∙ (ap (without c.in-Some.b) c.in_ok-buf.ensures.lends
      ∙ (without-with c.in-Some.b c.in_ok-buf.buf.bytes (g.S.Stake.lent c.args.s.now) (ap (λ (q : Lent). q c.in-Some.b) c.requires.lent)
      ∙ c.requires.lent)));
  as_forced = c.brelse.ensures.forced ∙ c.get_page.ensures.forced;
  home = c.brelse.ensures.origin ∙ c.get_page.ensures.origin;
}

pub returns-clause-bytes : goal.returns-clause-bytes
returns-clause-bytes g c =
    c.in_ok-added.ensures.items
    ∙ ap (λ q. c.args.bytes.now.items ++ q)
    (ap (λ q. slice_range q c.args.from (c.args.from + c.args.count)) c.bytes-page.ensures
    ∙ (part_got c.in_ok-buf.ensures.ok holds c.args.from c.args.count c.requires.part
    ∙ ap (λ (x : Option ℕ). part_bytes (g.S.Stake.held c.args.s.now) x c.args.from c.args.count) (sym c.in-Some.is)))
  where
    holds : HoldsBlock (g.S.Stake.origin c.args.s.now) (g.S.Stake.held c.args.s.now) c.in-Some.b
    holds = (let P : Option ℕ
        → Type 0 = λ q. IfSome q (λ b. HoldsBlock (g.S.Stake.origin c.args.s.now) (g.S.Stake.held c.args.s.now) b) in subst P c.in-Some.is
        c.requires.block)

pub returns-clause-stake : goal.returns-clause-stake
returns-clause-stake g c = record {
  lines = c.brelse.ensures.held ∙ c.get_page.ensures.held;
  away =
      c.brelse.ensures.lends
      ∙ (ap (λ q. without q (g.S.Stake.lent c.get_page.new.s)) c.in_ok-buf.ensures.ok.block
      ∙ (ap (without c.in-Some.b) c.in_ok-buf.ensures.lends
      ∙ (without-with c.in-Some.b c.in_ok-buf.buf.bytes (g.S.Stake.lent c.args.s.now) (ap (λ (q : Lent). q c.in-Some.b) c.requires.lent)
      ∙ c.requires.lent)));
  as_forced = c.brelse.ensures.forced ∙ c.get_page.ensures.forced;
  home = c.brelse.ensures.origin ∙ c.get_page.ensures.origin;
}
