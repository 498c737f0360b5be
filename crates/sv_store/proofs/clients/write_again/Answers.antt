-- The block is put with the bytes with which it was got.
use Rattle.std.proofs.Common.{◌∙◌, ap, refl}
use Rattle.sv_store.specs.Held.{put}
use Rattle.sv_store.proofs.Holding.{CanPut-got}
use Rattle.sv_store.proofs.OwnSteps.{put-same}
use Rattle.sv_store.proofs.Puts.{returned}
use Rattle.sv_store.proofs.clients.write_again.Goals as goal

pub bwrite-requires : goal.bwrite-requires
bwrite-requires g c = CanPut-got c.in_ok-again.ensures.ok _ _ _ c.breada.ensures.held c.in_ok-again.ensures.lends _ refl (λ l none. refl)

pub returns-clause-held : goal.returns-clause-held
returns-clause-held g c =
    c.bwrite.ensures.held
    ∙ (ap (λ q. put q c.in_ok-again.again.bytes (g.S.Stake.held c.breada.new.self)) c.in_ok-again.ensures.ok.block
    ∙ (ap (put c.args.block c.in_ok-again.again.bytes) c.breada.ensures.held ∙ put-same c.args.block c.in_ok-again.again.bytes (g.S.Stake.held c.args.stake.now) c.in_ok-again.ensures.ok.lines))

pub returns-clause-lends : goal.returns-clause-lends
returns-clause-lends g c = returned c.in_ok-again.again.bytes c.in_ok-again.ensures.lends c.in_ok-again.ensures.ok.block c.requires.block.away c.bwrite.ensures.lends
