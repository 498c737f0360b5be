-- The run ends with the block, or where no more pages are asked for.
use Rattle.std.proofs.Common.{◌+◌, ◌==◌, ap, ◌∙◌, arith}
use Rattle.std.specs.List.{count_by, range_with_len}
use Rattle.sv_form.specs.PagePath.{block_numbers}
use Rattle.sv_bmap.specs.Tree.{child}
use Rattle.sv_bmap.proofs.pages.run_below.Goals as goal

pub holes_of-requires-clause-places : goal.holes_of-requires-clause-places
holes_of-requires-clause-places g c _ _ =
    omega (
      arith,
      c.from-2.ensures,
      c.min-pages.ensures,
      c.from.ensures,
      c.block_numbers.ensures,
      ap block_numbers
          c.geometry-sizes.ensures.value,
      c.requires.place,
    )

pub returns-clause-run : goal.returns-clause-run
returns-clause-run g c = record {
  some = omega (
    arith,
    c.min-pages.ensures,
    c.from.ensures,
    c.block_numbers.ensures,
    ap block_numbers
        c.geometry-sizes.ensures.value,
    c.requires.place,
    c.requires.some,
  );
  most = omega (arith, c.min-pages.ensures);
  within = omega (
    arith,
    c.min-pages.ensures,
    c.from.ensures,
    c.block_numbers.ensures,
    ap block_numbers
        c.geometry-sizes.ensures.value,
    c.requires.place,
  );
  counted =
      ap (λ z. c.args.above + z)
      (c.in_ok-holes.ensures.holes
      ∙ ap (λ z. count_by (λ p. child (g.S.Stake.held c.args.s.now) c.args.b p == 0) (range_with_len z c.min-pages.result))
      c.from-2.ensures);
  few = omega (arith, c.in_ok-holes.ensures.few);
}
