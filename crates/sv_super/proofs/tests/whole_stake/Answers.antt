-- All lines of all blocks are held.
use Rattle.std.proofs.Common.{◌≡◌, [], map, replicate, refl, is_some, ap, ◌∙◌, arith}
use Rattle.std.proofs.lemmas.List.{length-map}
use Rattle.std.proofs.lemmas.List.Elements.{All-get_or, All-map}
use Rattle.sv_store.proofs.OwnWhole.{held-content}
use Rattle.sv_super.proofs.Samples.{first-content, zero-content}
use Rattle.sv_super.proofs.tests.whole_stake.Goals as goal

pub returns-clause-held : goal.returns-clause-held
returns-clause-held c = λ b l block line.
    ap (λ q. is_some (q b l)) c.in_ok-stake.ensures.held
    ∙ held-content _ (map (λ bytes. bytes.items) c.in_ok-content.content.items) b l
    (omega (arith, block, length-map c.in_ok-content.content.items (λ bytes. bytes.items), c.in_ok-content.ensures.count)) (omega (arith, line))

pub returns-clause-first : goal.returns-clause-first
returns-clause-first c =
    ap (λ q. q 2 0) c.in_ok-stake.ensures.held
    ∙ first-content _ (map (λ bytes. bytes.items) c.in_ok-content.content.items) refl
    (omega (arith, length-map c.in_ok-content.content.items (λ bytes. bytes.items), c.in_ok-content.ensures.count))
    (All-get_or (λ q. q ≡ replicate 1024 0) (map (λ bytes. bytes.items) c.in_ok-content.content.items) 2 [] (omega (arith, length-map c.in_ok-content.content.items (λ bytes. bytes.items), c.in_ok-content.ensures.count))
    (All-map (λ q. q ≡ replicate 1024 0) (λ bytes. bytes.items) c.in_ok-content.content.items c.in_ok-content.ensures.zeros))

pub returns-clause-line : goal.returns-clause-line
returns-clause-line c =
    ap (λ q. q 2 2) c.in_ok-stake.ensures.held
    ∙ zero-content _ (map (λ bytes. bytes.items) c.in_ok-content.content.items) refl
    (omega (arith, length-map c.in_ok-content.content.items (λ bytes. bytes.items), c.in_ok-content.ensures.count))
    (All-get_or (λ q. q ≡ replicate 1024 0) (map (λ bytes. bytes.items) c.in_ok-content.content.items) 2 [] (omega (arith, length-map c.in_ok-content.content.items (λ bytes. bytes.items), c.in_ok-content.ensures.count))
    (All-map (λ q. q ≡ replicate 1024 0) (λ bytes. bytes.items) c.in_ok-content.content.items c.in_ok-content.ensures.zeros))
