-- Block 5 is cut off, and block 4 stays.
use Rattle.std.proofs.Common.{ap, arith}
use Rattle.sv_store.specs.Held.{Lent}
use Rattle.sv_store.proofs.Holding.{CanPart-range, in_range-first, in_range-other}
use Rattle.sv_store.proofs.tests.a_part_is_cut_off_and_merged.Goals as goal

pub cut_and_merge-requires-clause-lines : goal.cut_and_merge-requires-clause-lines
cut_and_merge-requires-clause-lines g c _ =
    CanPart-range _ _ (record { block = 5; first = 0; count = 16 }) (λ l low high. c.in_ok-stake.ensures.held 5 l (omega arith) high) (ap (λ (q : Lent). q 5) c.in_ok-stake.ensures.lent) (omega arith) 4 0 (c.in_ok-stake.ensures.held 4 0 (omega arith) (omega arith)) (λ e. omega arith)

pub cut_and_merge-requires-clause-stays : goal.cut_and_merge-requires-clause-stays
cut_and_merge-requires-clause-stays g c _ = in_range-other (record { block = 5; first = 0; count = 16 }) 4 0 (λ e. omega arith)

pub cut_and_merge-requires-clause-goes : goal.cut_and_merge-requires-clause-goes
cut_and_merge-requires-clause-goes g c _ = in_range-first (record { block = 5; first = 0; count = 16 }) (omega arith)
