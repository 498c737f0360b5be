use Rattle.std.proofs.Common.{◌/◌, ◌∙◌, ℕ, List, slice_index, ap, arith}
use Rattle.sv_check.proofs.ClimbSteps.{climbed_even, climbed_odd, climbed_one, if_ok_on, table_after}
use Rattle.sv_check.proofs.sound.dots.+climb.Goals as goal

pub returns-then-steps-eq1 : goal.returns-then-steps-eq1
returns-then-steps-eq1 t c = if_ok_on c.copy.result (λ ends is. climbed_one c.args.up.now ends.items c.args.steps c.if-steps-eq1.true is) c.copy.ensures

pub climb-requires : goal.climb-requires
climb-requires t c = (
  omega (arith, c.decreases, c.requires.steps),
  (
    ap (λ (l : List ℕ). slice_index l 0) (c.deref.ensures.value) ∙ ap (λ (f : ℕ → ℕ). f 0) (table_after (slice_index c.args.up.now) c.args.up.now _ c.requires.nowhere c.in_ok-two.ensures)
        ∙ ap (slice_index c.args.up.now) c.requires.nowhere ∙ c.requires.nowhere,
    omega (arith, c.requires.steps, c.if-steps-eq1.false),
  ),
)

pub returns-then-steps-eq0 : goal.returns-then-steps-eq0
returns-then-steps-eq0 t c =
    climbed_even c.args.up.now c.in_ok-two.two.items c.deref.result.now c.in_ok-even.even.items (c.args.steps / 2) c.args.steps c.requires.nowhere c.in_ok-two.ensures c.deref.ensures.value c.in_ok-even.ensures
    (omega (arith, c.if-steps-eq0.true))

pub returns : goal.returns
returns t c =
    if_ok_on c.follow-2.result (λ ends is.
    climbed_odd c.args.up.now c.in_ok-two.two.items c.deref.result.now c.in_ok-even.even.items (c.args.steps / 2) c.args.steps c.requires.nowhere c.in_ok-two.ensures c.deref.ensures.value c.in_ok-even.ensures
    c.deref-2.result.now ends.items c.deref-2.ensures.value (omega (arith, c.if-steps-eq0.false)) is) c.follow-2.ensures
