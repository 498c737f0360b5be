-- What a search of a directory tells, in terms of its node.
use Rattle.std.proofs.Common.{◌≡◌, ◌≢◌, ◌≤◌, ◌==◌, ℕ, Bool, true, false, List, Option, Some, None, Result, Ok, Err, IfOk, if◌then◌else◌}
use Rattle.std.proofs.Common.{refl, sym, subst, ◌∙◌, arith}
use Rattle.std.proofs.lemmas.Bool.Decides.{nat_tests}
use Rattle.sv_form.specs.Node.{Node, is_dir}
use Rattle.sv_form.specs.NodeNames.{child_of}
use Rattle.sv_form.specs.PagePath.{greatest_size}
use Rattle.sv_form.specs.declared.inode.InodeBody.{InodeBody}
use Rattle.sv_store.specs.Held.{Held, Origin}
use Rattle.sv_store.specs.declared.refusal.Refusal.{Refusal}
use Rattle.sv_bmap.specs.Tree.{IsTree}
use Rattle.sv_inode.specs.StandsFor.{IsDescribed, StandsFor}
use Rattle.sv_files.specs.declared.in_core.InCore.{InCore}
use Rattle.sv_files.specs.declared.search.Miss.{Miss}
use Rattle.sv_files.specs.declared.search.Miss.TheVariants as miss
use Rattle.sv_files.specs.View.{Seen}
use Rattle.sv_files.specs.FileRule.{StandsAs}
use Rattle.sv_files.specs.Adding.{StandsForSome}
use Rattle.sv_files.specs.Looking.{Searches, closed_of, told_of}

zero-of : (n : ℕ) → (n == 0) ≡ true → n ≡ 0
zero-of n e = grind (arith, nat_tests)

some-of : (n : ℕ) → (n == 0) ≡ false → n ≢ 0
some-of n e = grind (arith, nat_tests)

abbrev closed_by : Bool → Bool → Option Miss
closed_by d z = if d then (if z then Some miss.Gone else None) else Some miss.NotDir

closed-by : (block : ℕ) (node : Node) (name : List ℕ) (d z : Bool) (m : Miss) → is_dir node.kind ≡ d → (node.links == 0) ≡ z
    → closed_by d z ≡ Some m → Searches block node name (Err m)
closed-by block node name false z m dir links e =
    let is : miss.NotDir ≡ m = cc e in subst (λ x. Searches block node name (Err x)) is dir
closed-by block node name true true m dir links e =
    let is : miss.Gone ≡ m = cc e in subst (λ x. Searches block node name (Err x)) is (dir, zero-of node.links links)
closed-by block node name true false m dir links e = absurd (cc e)

open-by : (node : Node) (d z : Bool) → is_dir node.kind ≡ d → (node.links == 0) ≡ z → closed_by d z ≡ None
    → (is_dir node.kind ≡ true) × (node.links ≢ 0)
open-by node false z dir links e = absurd (cc e)
open-by node true true dir links e = absurd (cc e)
open-by node true false dir links e = (dir, some-of node.links links)

same-closed : (body : InodeBody) (node : Node) → IsDescribed body node → closed_of body ≡ closed_by (is_dir node.kind) (node.links == 0)
same-closed body node is = rw (is.kind, is.links) refl

pub closed-searches : (block : ℕ) (node : Node) (name : List ℕ) (body : InodeBody) (m : Miss) → IsDescribed body node
    → closed_of body ≡ Some m → Searches block node name (Err m)
closed-searches block node name body m is e =
    closed-by block node name (is_dir node.kind) (node.links == 0) m refl refl (sym (same-closed body node is) ∙ e)

pub open-searches : (block : ℕ) (node : Node) (name : List ℕ) (body : InodeBody) (found : Result (Option ℕ) Refusal) → IsDescribed body node
    → closed_of body ≡ None → IfOk found (λ f. f ≡ child_of block node name) → Searches block node name (told_of found)
open-searches block node name body (Ok (Some c)) is e leads =
    let live = open-by node (is_dir node.kind) (node.links == 0) refl refl (sym (same-closed body node is) ∙ e) in
    (live.0, live.1, sym leads)
open-searches block node name body (Ok None) is e leads =
    let live = open-by node (is_dir node.kind) (node.links == 0) refl refl (sym (same-closed body node is) ∙ e) in
    (live.0, live.1, sym leads)
open-searches block node name body (Err refusal) is e leads = tt

-- a search can be made, and what it finds is what the inode's node has
pub can-search : (n : ℕ) (core : Option InCore) (z : Seen) (held : Held) (origin : Origin) (body : InodeBody) → StandsForSome n core z
    → held ≡ z.held → origin ≡ z.origin → ((o : Origin) (node : Node) → StandsAs o n core z node → StandsFor o z.held body node)
    → IsTree origin held body.addresses × (body.size ≤ greatest_size origin.sizes)
can-search n core z held origin body some same home stands =
    let here = stands some.origin some.node some.stands in
    let at : origin ≡ some.origin = home ∙ some.stands.origin in
    let size = some.size in
    let is = here.described.size in (
      subst (λ h. IsTree origin h body.addresses) (sym same) (subst (λ o. IsTree o z.held body.addresses) (sym at) here.tree),
      subst (λ (o : Origin). body.size ≤ greatest_size o.sizes) (sym at) (omega (arith, size, is)),
    )
