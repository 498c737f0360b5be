-- The body that the line of an inode spells, which is not in core, is what its stake stands for.
use Rattle.std.proofs.Common.{◌≡◌, ℕ, List, Option, Some, None, Result, Ok, Err, IfOk, sym, subst}
use Rattle.sv_form.specs.Geometry.{inode_place}
use Rattle.sv_form.specs.Inode.{IsInode}
use Rattle.sv_form.specs.Node.{Node}
use Rattle.sv_form.specs.declared.inode.InodeBody.{InodeBody}
use Rattle.sv_form.specs.declared.inode.DiskInode.TheVariants.{Used}
use Rattle.sv_store.specs.Held.{Origin}
use Rattle.sv_store.specs.declared.refusal.Refusal.{Refusal}
use Rattle.sv_inode.specs.StandsFor.{StandsFor}
use Rattle.sv_files.specs.declared.in_core.InCore.{InCore}
use Rattle.sv_files.specs.View.{Seen}
use Rattle.sv_files.specs.FileRule.{HasBody, StandsAs}

pub body-stands : (n : ℕ) (core : Option InCore) (z : Seen) (result : Result InodeBody Refusal) → core ≡ None
    → IfOk result (λ b. (line : List ℕ) (body : InodeBody)
    → z.held (inode_place z.origin.sizes n).block (inode_place z.origin.sizes n).line ≡ Some line → IsInode line (Used body) → b ≡ body)
    → IfOk result (λ b. (o : Origin) (node : Node) → StandsAs o n core z node → StandsFor o z.held b node)
body-stands n core z (Err e) none read = tt
body-stands n core z (Ok b) none read = λ o node s.
    subst (λ x. StandsFor o z.held x node) (sym (read s.line s.body
    (subst (λ (q : Origin). z.held (inode_place q.sizes n).block (inode_place q.sizes n).line ≡ Some s.line) (sym s.origin) s.there)
    (subst (λ c. HasBody c s.line s.body) none s.has))) s.stands
