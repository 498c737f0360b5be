use Rattle.std.proofs.Common.{◌≤◌, ◌-◌, ◌∙◌, ℕ, not, false, sym, ap, slice_index_or, arith}
use Rattle.sv_form.specs.Geometry.{inode_count}
use Rattle.sv_check.specs.ChainSteps.{met_in}
use Rattle.sv_check.proofs.CacheSteps.{in_use, not_in_use}
use Rattle.sv_check.proofs.sound.inode_cache.may_stand.Goals as goal

pub returns-then-used-from-clause-result : goal.returns-then-used-from-clause-result
returns-then-used-from-clause-result c = λ image is.
    let least : 2 ≤ c.args.n = omega (arith, c.if-n-lt2.false) in
    let most : c.args.n ≤ inode_count c.args.sizes.now = omega (arith, c.if-inode_count-from.false, c.inode_count.ensures, c.from.ensures) in
    in_use c.args.sizes.now image (met_in c.args.met.now) c.args.n least most c.args.used.now is false
    (ap (λ (x : ℕ). slice_index_or c.args.used.now (x - 1) false) (sym c.from-2.ensures) ∙ c.if-used-from.true)

pub returns-clause-result : goal.returns-clause-result
returns-clause-result c = λ image is.
    let least : 2 ≤ c.args.n = omega (arith, c.if-n-lt2.false) in
    let most : c.args.n ≤ inode_count c.args.sizes.now = omega (arith, c.if-inode_count-from.false, c.inode_count.ensures, c.from.ensures) in
    ap (λ (x : ℕ). not (slice_index_or c.args.met.now x false)) c.from-3.ensures
    ∙ not_in_use c.args.sizes.now image (met_in c.args.met.now) c.args.n least most c.args.used.now is false
    (ap (λ (x : ℕ). slice_index_or c.args.used.now (x - 1) false) (sym c.from-2.ensures) ∙ c.if-used-from.false)
