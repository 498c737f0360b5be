-- The part has the block's lines, and the stake all others.
use Rattle.std.proofs.Common.{◌≡◌, sym, ap, ◌∙◌, subst, refl, arith}
use Rattle.sv_form.specs.Geometry.{IsGeometry, block_lines}
use Rattle.sv_form.specs.declared.geometry.Geometry.{Geometry}
use Rattle.sv_store.specs.Held.{InRange}
use Rattle.sv_super.specs.Core.{alone, less}
use Rattle.sv_store.proofs.Holding.{SameLines-eq}
use Rattle.sv_super.proofs.OnlyFree.{only-alone}
use Rattle.sv_super.proofs.Samples.{alone-apart, source-less, source-part}
use Rattle.sv_super.proofs.Taken.{frees-left}
use Rattle.sv_super.proofs.Writes.{cut-apart, holds-alone}
use Rattle.sv_super.proofs.tests.free_one.Goals as goal

pub part-requires : goal.part-requires
part-requires g c = source-part c.args.b (record { block = c.args.b; first = 0; count = 16 }) c.requires.source c.requires.in_data (omega arith) refl refl refl

pub free-requires-clause-block : goal.free-requires-clause-block
free-requires-clause-block g c _ _ = holds-alone c.args.b (cut.1) (c.requires.source.whole c.args.b c.requires.in_data (omega arith))
  where
    cut : (g.S.Stake.held c.part.new.self ≡ less c.args.b (g.S.Stake.held c.args.source.now)) × (g.S.Stake.held c.in_ok-part.part ≡ alone c.args.b (g.S.Stake.held c.args.source.now))
    cut =
        cut-apart (g.S.Stake.origin c.args.source.now) (g.S.Stake.held c.args.source.now) c.args.b (record { block = c.args.b; first = 0; count = 16 })
        (let P : Geometry → Type 0 = IsGeometry in subst P c.geometry-sizes.ensures.value c.geometry-sizes.ensures.sizes)
        (let P : Geometry → Type 0 = λ q. InRange q (g.S.Stake.held c.args.source.now) in subst P c.geometry-sizes.ensures.value c.geometry-sizes.ensures.range) refl refl
        (sym (ap (λ q. block_lines q.sizes) c.requires.source.home ∙ ap block_lines c.requires.source.sizes)) c.in_ok-part.ensures.ok

pub free-requires-clause-only : goal.free-requires-clause-only
free-requires-clause-only g c _ _ = only-alone (g.S.Stake.origin c.args.core.now.stake) (g.S.Stake.held c.args.source.now) c.args.b (SameLines-eq _ _ cut.1)
  where
    cut : (g.S.Stake.held c.part.new.self ≡ less c.args.b (g.S.Stake.held c.args.source.now)) × (g.S.Stake.held c.in_ok-part.part ≡ alone c.args.b (g.S.Stake.held c.args.source.now))
    cut =
        cut-apart (g.S.Stake.origin c.args.source.now) (g.S.Stake.held c.args.source.now) c.args.b (record { block = c.args.b; first = 0; count = 16 })
        (let P : Geometry → Type 0 = IsGeometry in subst P c.geometry-sizes.ensures.value c.geometry-sizes.ensures.sizes)
        (let P : Geometry → Type 0 = λ q. InRange q (g.S.Stake.held c.args.source.now) in subst P c.geometry-sizes.ensures.value c.geometry-sizes.ensures.range) refl refl
        (sym (ap (λ q. block_lines q.sizes) c.requires.source.home ∙ ap block_lines c.requires.source.sizes)) c.in_ok-part.ensures.ok

pub free-requires-clause-apart : goal.free-requires-clause-apart
free-requires-clause-apart g c _ _ = alone-apart c.args.b c.requires.source.apart (cut.1)
  where
    cut : (g.S.Stake.held c.part.new.self ≡ less c.args.b (g.S.Stake.held c.args.source.now)) × (g.S.Stake.held c.in_ok-part.part ≡ alone c.args.b (g.S.Stake.held c.args.source.now))
    cut =
        cut-apart (g.S.Stake.origin c.args.source.now) (g.S.Stake.held c.args.source.now) c.args.b (record { block = c.args.b; first = 0; count = 16 })
        (let P : Geometry → Type 0 = IsGeometry in subst P c.geometry-sizes.ensures.value c.geometry-sizes.ensures.sizes)
        (let P : Geometry → Type 0 = λ q. InRange q (g.S.Stake.held c.args.source.now) in subst P c.geometry-sizes.ensures.value c.geometry-sizes.ensures.range) refl refl
        (sym (ap (λ q. block_lines q.sizes) c.requires.source.home ∙ ap block_lines c.requires.source.sizes)) c.in_ok-part.ensures.ok

pub returns-clause-source : goal.returns-clause-source
returns-clause-source g c = source-less c.args.b c.requires.source c.requires.in_data c.free.ensures.lines (cut.1) (cut.0) c.free.ensures.origin c.part.ensures.origin c.part.ensures.lends
  where
    cut : (g.S.Stake.held c.part.new.self ≡ less c.args.b (g.S.Stake.held c.args.source.now)) × (g.S.Stake.held c.in_ok-part.part ≡ alone c.args.b (g.S.Stake.held c.args.source.now))
    cut =
        cut-apart (g.S.Stake.origin c.args.source.now) (g.S.Stake.held c.args.source.now) c.args.b (record { block = c.args.b; first = 0; count = 16 })
        (let P : Geometry → Type 0 = IsGeometry in subst P c.geometry-sizes.ensures.value c.geometry-sizes.ensures.sizes)
        (let P : Geometry → Type 0 = λ q. InRange q (g.S.Stake.held c.args.source.now) in subst P c.geometry-sizes.ensures.value c.geometry-sizes.ensures.range) refl refl
        (sym (ap (λ q. block_lines q.sizes) c.requires.source.home ∙ ap block_lines c.requires.source.sizes)) c.in_ok-part.ensures.ok

pub returns-clause-left : goal.returns-clause-left
returns-clause-left g c = frees-left c.free.ensures.block
