-- The part between the two others is the superblock.
use Rattle.std.proofs.Common.{◌≡◌, ℕ, List, sym, subst}
use Rattle.sv_form.specs.Superblock.{IsSuper}
use Rattle.sv_super.proofs.Supers.{middle}
use Rattle.sv_super.proofs.superblock.write_head.Goals as goal

pub returns-clause-spelled : goal.returns-clause-spelled
returns-clause-spelled c =
    (let P : List ℕ → Type 0 = λ q. IsSuper q c.args.head.now in
    subst P (sym (middle c.split_at_mut-before.result.0.now c.write.new.into c.split_at_mut-into.result.1.now c.args.at c.split_at_mut-before.ensures.front_len c.write.ensures.size)) c.write.ensures)
