-- The entry's page is present, and has zero bytes at its place then; its block is a data block.
use Rattle.std.proofs.Common.{◌≡◌, ◌*◌, ◌/◌, ◌%◌, arith, replicate, sym, ap, ◌∙◌, refl}
use Rattle.std.proofs.lemmas.Result.{IfOk-weaker}
use Rattle.sv_form.specs.Geometry.{IsDataBlock, IsGeometry}
use Rattle.sv_form.specs.PagePath.{IsPage}
use Rattle.sv_inode.proofs.Blanked.{entry-blanked, entry-page, from-at, page-at, sizes-same}
use Rattle.sv_inode.proofs.FoundNames.{place-hole}
use Rattle.sv_inode.specs.Write.{patched}
use Rattle.sv_inode.proofs.OwnLines.{on-either, only-same, only-written}
use Rattle.sv_inode.proofs.PiecePut.{some-held}
use Rattle.sv_inode.proofs.WrittenTree.{page-in-data}
use Rattle.sv_inode.proofs.names.blank_entry.Goals as goal

pub blank_in-requires-clause-block : goal.blank_in-requires-clause-block
blank_in-requires-clause-block g c κs within =
    some-held c.args.body.now.addresses (16 * c.args.place / c.geometry-sizes.result.block_size) c.in-Some.b sizes is c.requires.tree.tree
    (sym c.in_ok-block.ensures.block ∙ c.in-Some.is) c.lookup.ensures.stake.home c.lookup.ensures.stake.lines
  where
    sizes : IsGeometry (g.S.Stake.origin c.args.s.now).sizes
    sizes = sizes-same c.geometry-sizes.ensures.value c.geometry-sizes.ensures.sizes

    is : IsPage (g.S.Stake.origin c.args.s.now).sizes (16 * c.args.place / c.geometry-sizes.result.block_size)
    is = entry-page (g.S.Stake.origin c.args.s.now).sizes c.args.place (16 * c.args.place / c.geometry-sizes.result.block_size)
        c.args.body.now.size sizes c.requires.size c.requires.place
        (page-at c.geometry-sizes.result c.geometry-sizes.result c.args.place refl c.geometry-sizes.ensures.sizes)

pub returns-in-Some-clause-node : goal.returns-in-Some-clause-node
returns-in-Some-clause-node g c = λ node stands.
    IfOk-weaker c.blank_in.result _ _ (λ _ got.
    entry-blanked node c.args.place (16 * c.args.place / c.geometry-sizes.result.block_size)
    (16 * c.args.place % c.geometry-sizes.result.block_size)
    (sizes-same c.geometry-sizes.ensures.value c.geometry-sizes.ensures.sizes) c.requires.size c.requires.place
    (page-at c.geometry-sizes.result c.geometry-sizes.result c.args.place refl c.geometry-sizes.ensures.sizes)
    (from-at c.geometry-sizes.result c.args.place c.geometry-sizes.ensures.sizes) stands
    (sym c.in_ok-block.ensures.block ∙ c.in-Some.is) c.lookup.ensures.stake.home c.lookup.ensures.stake.lines c.blank_in.ensures.origin
    got.1.0 got.1.1) c.blank_in.ensures.ok

pub returns-in-Some-clause-front : goal.returns-in-Some-clause-front
returns-in-Some-clause-front g c = record {
  stake = record {
    away = c.blank_in.ensures.lends;
    as_forced = c.blank_in.ensures.forced ∙ c.lookup.ensures.stake.as_forced;
    home = c.blank_in.ensures.origin ∙ c.lookup.ensures.stake.home;
    no_less = omega (arith, c.lookup.ensures.cause.no_less, c.blank_in.ensures.cause.no_less);
  };
  before = λ b l low is.
      c.blank_in.ensures.others b l (λ e. omega (arith, low, e, owned.least))
      ∙ ap (λ q. q b l) c.lookup.ensures.stake.lines;
}
  where
    sizes : IsGeometry (g.S.Stake.origin c.args.s.now).sizes
    sizes = sizes-same c.geometry-sizes.ensures.value c.geometry-sizes.ensures.sizes

    owned : IsDataBlock (g.S.Stake.origin c.args.s.now).sizes c.in-Some.b
    owned = page-in-data (16 * c.args.place / c.geometry-sizes.result.block_size) sizes
        (entry-page (g.S.Stake.origin c.args.s.now).sizes c.args.place (16 * c.args.place / c.geometry-sizes.result.block_size)
        c.args.body.now.size sizes c.requires.size c.requires.place
        (page-at c.geometry-sizes.result c.geometry-sizes.result c.args.place refl c.geometry-sizes.ensures.sizes)) c.requires.tree.in_data
        (sym c.in_ok-block.ensures.block ∙ c.in-Some.is)

pub returns-in-None-clause-node : goal.returns-in-None-clause-node
returns-in-None-clause-node g c = λ node stands.
    absurd (c.requires.used node stands
    (place-hole node (16 * c.args.place / c.geometry-sizes.result.block_size) c.args.place sizes
    (entry-page (g.S.Stake.origin c.args.s.now).sizes c.args.place (16 * c.args.place / c.geometry-sizes.result.block_size)
    c.args.body.now.size sizes c.requires.size c.requires.place at) at stands (sym c.in_ok-block.ensures.block ∙ c.in-None.is)))
  where
    sizes : IsGeometry (g.S.Stake.origin c.args.s.now).sizes
    sizes = sizes-same c.geometry-sizes.ensures.value c.geometry-sizes.ensures.sizes

    at : 16 * c.args.place / c.geometry-sizes.result.block_size ≡ 16 * c.args.place / 1024
    at = page-at c.geometry-sizes.result c.geometry-sizes.result c.args.place refl c.geometry-sizes.ensures.sizes

pub returns-in-Some-clause-only : goal.returns-in-Some-clause-only
returns-in-Some-clause-only g c = λ n was.
    on-either c.blank_in.result
    (λ got. only-written (16 * c.args.place / c.geometry-sizes.result.block_size)
    (patched got.0.bytes (16 * c.args.place % c.geometry-sizes.result.block_size) (replicate 16 0)) n sizes is c.requires.tree.tree
    (sym c.in_ok-block.ensures.block ∙ c.in-Some.is) c.lookup.ensures.stake.lines got.1.1 was)
    (λ same. only-same (same ∙ c.lookup.ensures.stake.lines) refl was) c.blank_in.ensures.ok c.blank_in.ensures.err
  where
    sizes : IsGeometry (g.S.Stake.origin c.args.s.now).sizes
    sizes = sizes-same c.geometry-sizes.ensures.value c.geometry-sizes.ensures.sizes

    is : IsPage (g.S.Stake.origin c.args.s.now).sizes (16 * c.args.place / c.geometry-sizes.result.block_size)
    is = entry-page (g.S.Stake.origin c.args.s.now).sizes c.args.place (16 * c.args.place / c.geometry-sizes.result.block_size)
        c.args.body.now.size sizes c.requires.size c.requires.place
        (page-at c.geometry-sizes.result c.geometry-sizes.result c.args.place refl c.geometry-sizes.ensures.sizes)
