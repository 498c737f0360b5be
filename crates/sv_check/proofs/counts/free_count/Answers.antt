use Rattle.std.proofs.Common.{◌≡◌, ◌∙◌, ◌==◌, ◌+◌, ◌-◌, ◌<◌, ◌≤◌, ℕ, suc, Bool, ap, arith, refl, subst, sym, if◌then◌else◌}
use Rattle.std.specs.Int.{from_bool}
use Rattle.sv_form.specs.declared.geometry.Geometry.{Geometry}
use Rattle.sv_form.specs.Owners.{owner_of}
use Rattle.sv_check.proofs.FreeBlocks.{flag_of, flag_small, free_as_unowned, passing, passing_more}
use Rattle.sv_check.proofs.SoundParts.{are_met}
use Rattle.sv_check.proofs.counts.free_count.Goals as goal

pub loop-block-preserved : goal.loop-block-preserved
loop-block-preserved c =
    let p : ℕ → Bool = λ b. owner_of c.args.mounted.now.owners (record { block = b; line = 0 }) == 0 in
    let first : ℕ = c.args.mounted.now.geometry.first_data in
    let one : c.from-free.result ≡ (if p c.loop-block.block then 1 else 0) =
    flag_of (p c.loop-block.block) c.from-free.result (c.from-free.ensures ∙ ap (λ (n : ℕ). from_bool (n == 0)) c.owner-owner.ensures.value) in
    let next : c.loop-block.block + 1 - first ≡ suc (c.loop-block.block - first) = omega (arith, c.loop-block.auto.block) in
    let more : passing p first (suc (c.loop-block.block - first)) ≡ passing p first (c.loop-block.block - first) + (if p c.loop-block.block then 1 else 0) =
    passing_more p first (c.loop-block.block - first) c.loop-block.block (p c.loop-block.block) (omega (arith, c.loop-block.auto.block)) refl in
    let small : (if p c.loop-block.block then 1 else 0) ≤ 1 = flag_small (p c.loop-block.block) in
    record {
      counted = ap (λ (k : ℕ). k + c.from-free.result) c.loop-block.invariant.counted ∙ ap (λ (k : ℕ). passing p first (c.loop-block.block - first) + k) one ∙ sym more ∙ sym (ap (passing p first) next);
      few = omega (arith, c.loop-block.invariant.few, one, small);
    }

pub returns : goal.returns
returns c = λ image from.
    let first : ℕ = c.args.mounted.now.geometry.first_data in
    let p : ℕ → Bool = λ b. owner_of c.args.mounted.now.owners (record { block = b; line = 0 }) == 0 in
    let ways = are_met image from.sound in
    let ordered : c.args.mounted.now.geometry.first_data < c.args.mounted.now.geometry.blocks =
    subst (λ (g : Geometry). g.first_data < g.blocks) (sym from.geometry) from.sound.sized.sizes.bounds.some_data in
    let end : c.loop-block.block - first ≡ c.args.mounted.now.geometry.blocks - first = omega (arith, c.loop-block-test.false, c.loop-block.auto.block-end, c.loop-block.auto.block, ordered) in
    c.loop-block.invariant.counted ∙ ap (passing p first) end ∙ free_as_unowned image c.args.mounted.now from from.sound.sized.sizes.bounds ways.chain ways.lost
