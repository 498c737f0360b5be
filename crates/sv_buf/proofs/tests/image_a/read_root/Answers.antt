-- A stake of all lines can get block 4, and still has all lines afterwards.
use Rattle.std.proofs.Common.{◌∙◌, ◌<◌, ap, sym, subst, arith}
use Rattle.sv_form.specs.declared.geometry.Geometry.{Geometry}
use Rattle.sv_store.specs.Calls.{CanGet}
use Rattle.sv_store.specs.Held.{SameLines, Lent}
use Rattle.sv_buf.specs.Stake.{pass_held, pass_lent, pass_origin}
use Rattle.sv_buf.proofs.Ending.{all-kept}
use Rattle.sv_buf.proofs.tests.image_a.read_root.Goals as goal

pub read_ahead-got-requires-clause-block : goal.read_ahead-got-requires-clause-block
read_ahead-got-requires-clause-block g c _ _ =
    let blocks = ap (λ (s : Geometry). s.blocks) c.requires.sizes in
    let size = ap (λ (s : Geometry). s.block_size) c.requires.sizes in
    subst (λ p. CanGet (pass_held p) (pass_lent p) 4) (sym c.stake-stake.ensures) (record {
      some = (0, c.requires.all.all.at 4 0 (omega (arith, blocks)) (omega (arith, size)));
      away = ap (λ (m : Lent). m 4) c.requires.all.idle;
    })

pub read_ahead-got-requires-clause-next : goal.read_ahead-got-requires-clause-next
read_ahead-got-requires-clause-next g c _ _ =
    let blocks = ap (λ (s : Geometry). s.blocks) c.requires.sizes in
    subst (λ p. 5 < (pass_origin p).sizes.blocks) (sym c.stake-stake.ensures)
    (subst (λ (s : Geometry). 5 < s.blocks) (sym (ap (λ o. o.sizes) c.requires.all.opened)) (omega (arith, blocks)))

pub read_ahead-got-requires-clause-size : goal.read_ahead-got-requires-clause-size
read_ahead-got-requires-clause-size g c _ _ =
    ap (λ p. (pass_origin p).sizes.block_size) c.stake-stake.ensures
    ∙ (ap (λ o. o.sizes.block_size) c.requires.all.opened ∙ ap (λ (s : Geometry). s.block_size) c.requires.sizes)

pub returns : goal.returns
returns g c =
    let kept = c.read_ahead-got.ensures.kept in
    let back = c.give_up.ensures in
    all-kept c.args.cache.now.turn c.args.first c.give_up.result c.requires.all
    (ap pass_origin back.same ∙ kept.home ∙ ap pass_origin c.stake-stake.ensures)
    back.own.1 back.fit
    (subst (λ p. SameLines (pass_held p) (pass_held c.args.first)) (sym back.same)
    (subst (λ p. SameLines (pass_held c.read_ahead-got.new.stake.pass) (pass_held p)) c.stake-stake.ensures kept.lines))
    (ap pass_lent back.same ∙ kept.away ∙ ap pass_lent c.stake-stake.ensures)
