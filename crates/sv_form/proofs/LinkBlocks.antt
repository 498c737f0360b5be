-- A link block's list and its 204 bytes fix one another.
use Rattle.std.proofs.Common.{◌≡◌, ℕ, List, ap}
use Rattle.sv_form.specs.Number.{AreBytes}
use Rattle.sv_form.specs.LinkBlock.{IsLinkBlock}
use Rattle.sv_form.specs.declared.link_block.LinkBlock.{LinkBlock}
use Rattle.sv_form.proofs.Spellings.{same_join, same_zero, same16, same_table32, same_block_list, same_whole}

pub one_link_block : (bytes : List ℕ) (l m : LinkBlock) → IsLinkBlock bytes l → IsLinkBlock bytes m → l ≡ m
one_link_block bytes l m x y =
    let made : List ℕ → LinkBlock = λ xs. record { numbers = record { items = xs } } in
    ap made (same_block_list bytes 0 4 l.numbers.items m.numbers.items x.numbers y.numbers)

pub one_link_block_spelling : (a b : List ℕ) (l : LinkBlock) → AreBytes a → AreBytes b → IsLinkBlock a l → IsLinkBlock b l → a ≡ b
one_link_block_spelling a b l p q x y =
    same_whole a b 204 x.size y.size (
    same_join a b 0 2 204 (same16 a b 0 _ p q x.numbers.count y.numbers.count) (
    same_join a b 2 4 204 (same_zero a b 2 4 x.zero y.zero) (same_table32 a b l.numbers.items 4 50 p q x.numbers.table y.numbers.table)))
