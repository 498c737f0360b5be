-- All lines of all blocks are held.
use Rattle.std.proofs.Common.{◌≡◌, ◌<◌, ℕ, [], refl, map, set, length, get_or, is_some, ap, ◌∙◌, arith}
use Rattle.std.proofs.lemmas.List.{length-map}
use Rattle.std.proofs.lemmas.List.Elements.{All-get_or, All-map}
use Rattle.sv_store.proofs.OwnWhole.{held-content}
use Rattle.sv_super.proofs.Samples.{first-content}
use Rattle.sv_inode.proofs.ElevenPages.{changed-length, changed-other, changed-same, row, row-content}
use Rattle.sv_inode.proofs.truncate_tests.whole_stake.Goals as goal

pub returns-clause-held : goal.returns-clause-held
returns-clause-held c = λ b l block line.
    ap (λ q. is_some (q b l)) c.in_ok-stake.ensures.held
    ∙ held-content _ (map (λ bytes. bytes.items) (set c.in_ok-content.content.items 2 c.in_ok-content-2.field-0)) b l
    (omega (arith, block, changed-length (λ bytes. bytes.items) c.in_ok-content.content.items c.in_ok-content-2.field-0, c.in_ok-content.ensures.count)) (omega (arith, line))

pub returns-clause-first : goal.returns-clause-first
returns-clause-first c =
    ap (λ q. q 2 0) c.in_ok-stake.ensures.held
    ∙ first-content _ (map (λ bytes. bytes.items) (set c.in_ok-content.content.items 2 c.in_ok-content-2.field-0)) refl
    (omega (arith, changed-length (λ bytes. bytes.items) c.in_ok-content.content.items c.in_ok-content-2.field-0, c.in_ok-content.ensures.count))
    (changed-same (λ bytes. bytes.items) c.in_ok-content.content.items c.in_ok-content-2.field-0 (omega (arith, c.in_ok-content.ensures.count)) ∙ c.in_ok-content-2.ensures.zeros)

pub returns-clause-row : goal.returns-clause-row
returns-clause-row c = λ l line.
    ap (λ q. q 60 l) c.in_ok-stake.ensures.held
    ∙ row-content _ (map (λ bytes. bytes.items) (set c.in_ok-content.content.items 2 c.in_ok-content-2.field-0)) l refl
    (omega (arith, changed-length (λ bytes. bytes.items) c.in_ok-content.content.items c.in_ok-content-2.field-0, c.in_ok-content.ensures.count))
    (changed-other (λ bytes. bytes.items) c.in_ok-content.content.items c.in_ok-content-2.field-0
    ∙ All-get_or (λ q. q ≡ row) (map (λ bytes. bytes.items) c.in_ok-content.content.items) 60 [] (omega (arith, length-map c.in_ok-content.content.items (λ bytes. bytes.items), c.in_ok-content.ensures.count))
    (All-map (λ q. q ≡ row) (λ bytes. bytes.items) c.in_ok-content.content.items c.in_ok-content.ensures.row)) line
