use Rattle.std.proofs.Common.{◌≡◌, ◌+◌, ◌*◌, ◌∷◌, [], ◌∙◌, ℕ, List, length, refl, ap, arith, zero-add}
use Rattle.std.proofs.lemmas.List.{length-append}
use Rattle.sv_check.specs.BlockOwners.{place_of}
use Rattle.sv_check.specs.Sound.{line_owner}
use Rattle.sv_check.proofs.InodeSteps.{map_more}
use Rattle.sv_check.proofs.OwnedLines.{all_lines}
use Rattle.sv_check.proofs.sound.line_owners.line_owners.Goals as goal

pub loop-line-preserved : goal.loop-line-preserved
loop-line-preserved c = record {
  len = ap (λ (l : List ℕ). length l) c.in_ok-push.ensures.items ∙ length-append c.loop-line.lines.items (c.line_owner.result ∷ []) ∙ ap (λ (n : ℕ). n + 1) c.loop-line.invariant.len;
  owners = λ image used owners none.
      map_more (λ line. line_owner c.args.sizes.now image (place_of c.args.sizes.now line)) 0 c.loop-line.line (c.loop-line.line + 1) c.loop-line.line c.line_owner.result _ _ refl (zero-add c.loop-line.line)
      (c.line_owner.ensures image used owners none) (c.loop-line.invariant.owners image used owners none) c.in_ok-push.ensures.items;
}

pub returns-clause-owners : goal.returns-clause-owners
returns-clause-owners c = λ image used owners none.
    let many : c.loop-line.line ≡ c.args.sizes.now.blocks * c.block_lines.result = omega (arith, c.loop-line.auto.line-end, c.loop-line-test.false) in
    all_lines c.args.sizes.now image c.loop-line.line _ (many ∙ ap (λ (s : ℕ). c.args.sizes.now.blocks * s) c.block_lines.ensures) (c.loop-line.invariant.owners image used owners none)
