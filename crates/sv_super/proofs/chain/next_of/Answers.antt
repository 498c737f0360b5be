-- A list of more than one is cut short, and the only number leads to the next list.
use Rattle.std.proofs.Common.{◌≡◌, ◌-◌, ◌<◌, length, take, ap, sym, ◌∙◌, arith}
use Rattle.sv_super.specs.FreeList.{last, list_of}
use Rattle.sv_super.proofs.Chains.{after-long, after-one}
use Rattle.sv_super.proofs.chain.next_of.Goals as goal

pub returns-then-before-gt0-clause-list : goal.returns-then-before-gt0-clause-list
returns-then-before-gt0-clause-list g c =
    let long : 1 < length c.args.list.now.numbers.items = omega (arith, c.if-before-gt0.true, ap length c.as_slice-numbers.ensures.value) in
    c.first_of.ensures ∙ (ap (λ xs. take (length xs - 1) xs) c.as_slice-numbers.ensures.value ∙ sym (after-long (g.S.Stake.held c.args.s.now) c.args.list.now.numbers.items long))

pub returns-clause-list : goal.returns-clause-list
returns-clause-list g c =
    let one : length c.args.list.now.numbers.items ≡ 1 = omega (arith, c.if-before-gt0.false, c.requires.some, ap length c.as_slice-numbers.ensures.value) in
    c.in_ok-below.ensures.list
    ∙ (ap (λ xs. list_of (g.S.Stake.held c.args.s.now (last xs))) c.as_slice-numbers.ensures.value ∙ sym (after-one (g.S.Stake.held c.args.s.now) c.args.list.now.numbers.items one))
