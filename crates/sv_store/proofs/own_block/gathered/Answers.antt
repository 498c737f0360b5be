-- A slice of all bytes replaces them.
use Rattle.std.proofs.Common.{◌≡◌, List, length, drop, ℕ, sym, subst, IfSome, arith}
use Rattle.std.proofs.lemmas.List.{take_at}
use Rattle.sv_store.specs.Held.{line_of}
use Rattle.sv_store.specs.OwnBlock.{held_of}
use Rattle.sv_store.proofs.own_block.gathered.Goals as goal

pub returns-clause-lines : goal.returns-clause-lines
returns-clause-lines c = λ l.
    let P : List ℕ → Type 0 = λ q. IfSome (held_of c.args.blocks.now c.args.b l) (λ x. line_of q l ≡ x) in
    subst P (sym (take_at c.gather.new.into (drop (length c.gather.new.into) c.args.bytes.items) c.args.bytes.len (omega (arith, c.as_mut_slice.ensures.len, c.gather.auto.into, c.args.bytes.ok.0)))) (c.gather.ensures.lines l)
