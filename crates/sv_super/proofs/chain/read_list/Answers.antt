-- The begin of the block is the list that stands there.
use Rattle.std.proofs.Common.{ℕ, List, take, refl, sym, ap, ◌∙◌, subst}
use Rattle.sv_form.specs.LinkBlock.{IsLinkBlock}
use Rattle.sv_store.proofs.Holding.{CanReturn-got}
use Rattle.sv_super.specs.FreeList.{list_of}
use Rattle.sv_super.proofs.Fronts.{block_list, got-front, read-is}
use Rattle.sv_store.proofs.Puts.{back, lent-with}
use Rattle.sv_super.proofs.chain.read_list.Goals as goal

pub list_in-list-requires-clause-list : goal.list_in-list-requires-clause-list
list_in-list-requires-clause-list g c = (
  block_list (list_of (g.S.Stake.held c.args.s.now c.args.b)),
  (let P : List ℕ → Type 0 = λ q. IsLinkBlock q (block_list (list_of (g.S.Stake.held c.args.s.now c.args.b))) in
      subst P (got-front c.geometry-sizes.result c.geometry-sizes.ensures.value c.geometry-sizes.ensures.sizes c.in_ok-buf.ensures.ok c.requires.block ∙ ap (take 204) (sym c.bytes.ensures)) c.requires.list.spelled),
)

pub brelse-requires : goal.brelse-requires
brelse-requires g c = CanReturn-got c.in_ok-buf.ensures.ok _ _ c.in_ok-buf.ensures.lends

pub returns-clause-list : goal.returns-clause-list
returns-clause-list g c =
    read-is (g.S.Stake.held c.args.s.now c.args.b) c.bytes.result.now _ c.list_in-list.result
    (got-front c.geometry-sizes.result c.geometry-sizes.ensures.value c.geometry-sizes.ensures.sizes c.in_ok-buf.ensures.ok c.requires.block ∙ ap (take 204) (sym c.bytes.ensures)) c.requires.list c.list_in-list.ensures

pub returns-clause-lends : goal.returns-clause-lends
returns-clause-lends g c = back c.in_ok-buf.buf.bytes (lent-with c.in_ok-buf.buf.bytes c.in_ok-buf.ensures.lends c.requires.lent c.in_ok-buf.ensures.ok.block) refl c.brelse.ensures.lends
