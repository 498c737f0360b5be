-- A buffer whose bytes are lent to be written.
use Rattle.std.specs.Prelude.{ℕ, List, length}
use Rattle.std.specs.Borrow.{Lends, MutBor, Fml, u8, Array}
use Rattle.std.specs.List.{refill}
use Rattle.sv_store.specs.Loan.{Loan}
use Rattle.sv_store.specs.contracts.buf.Buf.{the_row}

-- the buffer ends with the bytes that were written, of its block; a slice keeps its length, so these are all of them
abbrev pub LendsBytes : MutBor Loan → MutBor (List ℕ) → Fml
LendsBytes b r = Lends the_row (Array u8 0) b r (λ w. record { block = b.now.block; bytes = refill (length b.now.bytes) b.now.bytes w })
