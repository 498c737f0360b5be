-- All lines of all blocks are held.
use Rattle.std.proofs.Common.{map, is_some, ap, ◌∙◌, arith}
use Rattle.std.proofs.lemmas.List.{length-map}
use Rattle.sv_store.proofs.OwnWhole.{held-content}
use Rattle.sv_inode.proofs.names_tests.stake.Goals as goal

pub returns-clause-held : goal.returns-clause-held
returns-clause-held c = λ b l block line.
    ap (λ q. is_some (q b l)) c.in_ok-stake.ensures.held
    ∙ held-content _ (map (λ bytes. bytes.items) c.in_ok-content.content.items) b l
    (omega (arith, block, length-map c.in_ok-content.content.items (λ bytes. bytes.items), c.in_ok-content.ensures.count))
    (omega (arith, line))
