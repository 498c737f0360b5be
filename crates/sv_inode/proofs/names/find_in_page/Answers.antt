-- What is found in the page's bytes is found in the node, and the block goes back as it came.
use Rattle.std.proofs.Common.{◌≡◌, ℕ, List, sym, ap, ◌∙◌, refl, subst, arith}
use Rattle.sv_form.specs.Geometry.{IsGeometry}
use Rattle.sv_form.specs.declared.geometry.Geometry.{Geometry}
use Rattle.sv_store.specs.Held.{HoldsBlock, Lent, without}
use Rattle.sv_store.proofs.Holding.{CanReturn-got, without-with}
use Rattle.sv_inode.specs.Names.{Finds, inode_in, is_sought_at}
use Rattle.sv_inode.proofs.FoundNames.{hole-found, page-found}
use Rattle.sv_inode.proofs.PiecePut.{some-held}
use Rattle.sv_inode.proofs.names.find_in_page.Goals as goal

pub returns-in_default-clause-found : goal.returns-in_default-clause-found
returns-in_default-clause-found g c = λ node stands.
    hole-found node c.args.page c.args.count c.args.name.now c.find_in_hole.result sizes c.requires.page c.requires.count stands
    (sym c.in_ok-block.ensures.block ∙ c.in_default.is) c.find_in_hole.ensures.found
  where
    sizes : IsGeometry (g.S.Stake.origin c.args.s.now).sizes
    sizes = let P : Geometry → Type 0 = λ q. IsGeometry q in subst P c.geometry-sizes.ensures.value c.geometry-sizes.ensures.sizes

pub bread-requires : goal.bread-requires
bread-requires g c = record {
  some = (0, holds.at 0 (omega (arith, long)));
  away = ap (λ (q : Lent). q c.in-Some.b) c.lookup.ensures.stake.away;
}
  where
    sizes : IsGeometry (g.S.Stake.origin c.args.s.now).sizes
    sizes = let P : Geometry → Type 0 = λ q. IsGeometry q in subst P c.geometry-sizes.ensures.value c.geometry-sizes.ensures.sizes

    holds : HoldsBlock (g.S.Stake.origin c.args.s.now) (g.S.Stake.held c.lookup.new.s) c.in-Some.b
    holds = some-held c.args.body.now.addresses c.args.page c.in-Some.b sizes c.requires.page c.requires.tree
        (sym c.in_ok-block.ensures.block ∙ c.in-Some.is) refl c.lookup.ensures.stake.lines

    long : (g.S.Stake.origin c.args.s.now).sizes.block_size ≡ 1024
    long = sizes.block_size

pub brelse-requires : goal.brelse-requires
brelse-requires g c = CanReturn-got c.in_ok-buf.ensures.ok _ _ c.in_ok-buf.ensures.lends

pub returns-clause-found : goal.returns-clause-found
returns-clause-found g c = λ node stands.
    page-found node c.args.page c.args.count c.args.name.now c.find_sought-found.result sizes c.requires.page c.requires.count stands
    (sym c.in_ok-block.ensures.block ∙ c.in-Some.is) c.lookup.ensures.stake.home c.lookup.ensures.stake.lines c.in_ok-buf.ensures.ok
    (let P : List ℕ → Type 0 = λ q. Finds (is_sought_at q c.args.name.now) (inode_in q) c.args.count
    c.find_sought-found.result in
    subst P c.bytes-bytes.ensures c.find_sought-found.ensures.found)
  where
    sizes : IsGeometry (g.S.Stake.origin c.args.s.now).sizes
    sizes = let P : Geometry → Type 0 = λ q. IsGeometry q in subst P c.geometry-sizes.ensures.value c.geometry-sizes.ensures.sizes

pub returns-clause-stake : goal.returns-clause-stake
returns-clause-stake g c = record {
  lines = c.brelse.ensures.held ∙ (c.bread.ensures.held ∙ c.lookup.ensures.stake.lines);
  away =
      c.brelse.ensures.lends
      ∙ (ap (λ q. without q (g.S.Stake.lent c.bread.new.self)) c.in_ok-buf.ensures.ok.block
      ∙ (ap (without c.in-Some.b) c.in_ok-buf.ensures.lends
      ∙ (without-with c.in-Some.b c.in_ok-buf.buf.bytes (g.S.Stake.lent c.lookup.new.s)
      (ap (λ (q : Lent). q c.in-Some.b) c.lookup.ensures.stake.away)
      ∙ c.lookup.ensures.stake.away)));
  as_forced = c.brelse.ensures.forced ∙ (c.bread.ensures.forced ∙ c.lookup.ensures.stake.as_forced);
  home = c.brelse.ensures.origin ∙ (c.bread.ensures.origin ∙ c.lookup.ensures.stake.home);
}
