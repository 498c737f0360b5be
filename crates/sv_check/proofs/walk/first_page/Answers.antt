use Rattle.std.proofs.Common.{◌≡◌, ◌≤◌, ◌+◌, ◌^◌, ℕ, subst, sym, arith}
use Rattle.std.proofs.Math.Nat.{pow-zero}
use Rattle.sv_form.specs.PagePath.{block_numbers}
use Rattle.sv_check.specs.Walk.{height_of}
use Rattle.sv_check.proofs.walk.first_page.Goals as goal

pub returns-then-k-lt-DIRECT-clause-pages : goal.returns-then-k-lt-DIRECT-clause-pages
returns-then-k-lt-DIRECT-clause-pages c =
    let page : height_of c.args.k ≡ 0 = omega (arith, c.if-k-lt-DIRECT.true) in
    subst (λ (h : ℕ). c.args.k + block_numbers c.args.sizes.now ^ h ≤ 2 ^ 25) (sym page) (omega (arith, c.if-k-lt-DIRECT.true, pow-zero (block_numbers c.args.sizes.now)))
