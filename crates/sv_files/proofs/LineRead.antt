-- The line of a used inode in a block that was got.
use Rattle.std.proofs.Common.{◌≡◌, ◌+◌, ◌*◌, ℕ, List, Some, IfSome, sym, subst}
use Rattle.std.specs.Prelude.{slice_range}
use Rattle.sv_form.specs.Inode.{IsInode}
use Rattle.sv_form.specs.declared.inode.DiskInode.TheVariants.{Used}
use Rattle.sv_form.specs.declared.inode.InodeBody.{InodeBody}
use Rattle.sv_store.specs.Held.{Held, Origin, line_of}
use Rattle.sv_store.specs.Calls.{Gets}
use Rattle.sv_store.specs.Loan.{Loan}

cut-line : (bytes : List ℕ) (l : ℕ) (line : List ℕ) (body : InodeBody) → line_of bytes l ≡ line → IsInode line (Used body)
    → IsInode (slice_range bytes (l * 64) (l * 64 + 64)) (Used body)
unfolding line_of
cut-line bytes l line body same is = subst (λ y. IsInode y (Used body)) (sym same) is

pub line-spells : (o : Origin) (h : Held) (b l : ℕ) (buf : Loan) (bytes line : List ℕ) (body : InodeBody) → Gets o h b buf
    → bytes ≡ buf.bytes → h b l ≡ Some line → IsInode line (Used body)
    → IsInode (slice_range bytes (l * 64) (l * 64 + 64)) (Used body)
line-spells o h b l buf bytes line body got same there is =
    subst (λ q. IsInode (slice_range q (l * 64) (l * 64 + 64)) (Used body)) (sym same)
    (cut-line buf.bytes l line body (subst (λ x. IfSome x (λ y. line_of buf.bytes l ≡ y)) there (got.lines l)) is)
