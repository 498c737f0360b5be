-- The free inode cache of the superblock, as a loop reads it.
use Rattle.std.proofs.Common.{◌≡◌, ◌+◌, ◌*◌, ℕ, List, subst, sym, ◌∙◌}
use Rattle.sv_form.specs.Number.{number16, IsZero}
use Rattle.sv_form.specs.Superblock.{IsInodeCache}
use Rattle.sv_form.proofs.Numbers.{unused16}

-- each place past the count of the free inode cache is 0
pub inodes_unused : (bytes list : List ℕ) (count : ℕ) → number16 bytes 14 ≡ count → IsInodeCache bytes list → IsZero bytes (216 + 2 * count) 416
inodes_unused bytes list count e cache =
    subst (λ (n : ℕ). IsZero bytes (216 + 2 * n) 416) (sym cache.count ∙ e) (unused16 bytes list 216 100 cache.table)
