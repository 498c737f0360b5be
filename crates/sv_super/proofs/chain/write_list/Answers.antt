-- The first part of the slice is the list.
use Rattle.std.proofs.Common.{◌≡◌, ◌++◌, ℕ, List, take, sym, ap, ◌∙◌, subst}
use Rattle.std.proofs.Math.Seq.{take-append_seam}
use Rattle.sv_form.specs.LinkBlock.{IsLinkBlock}
use Rattle.sv_super.proofs.chain.write_list.Goals as goal

pub returns : goal.returns
returns c =
    let new : List ℕ = c.write.new.into in
    let old : List ℕ = c.split_at_mut-front.result.1.now in
    let e : take 204 (new ++ old) ≡ new = ap (λ n. take n (new ++ old)) (sym c.write.ensures.size) ∙ take-append_seam new old in
    let P : List ℕ → Type 0 = λ q. IsLinkBlock q c.args.list.now in
    subst P (sym e) c.write.ensures
