use Rattle.std.proofs.Common.{◌≡◌, ◌++◌, ◌∙◌, ℕ, List, codes, sym, append_assoc}
use Rattle.std.specs.Fmt.{decimal}
use Rattle.std.proofs.lemmas.Result.{IfOk-weaker}
use Rattle.sv_journal.proofs.line.head_line.Goals as goal

joined : (first a between b last : List ℕ) → first ++ (a ++ (between ++ (b ++ last))) ≡ first ++ a ++ between ++ b ++ last
joined first a between b last =
    sym (append_assoc first a _) ∙ sym (append_assoc (first ++ a) between _) ∙ sym (append_assoc (first ++ a ++ between) b last)

pub returns : goal.returns
returns c =
    IfOk-weaker c.format.result _ _
    (λ text e. e ∙ joined (codes "svj 1 ") (decimal c.args.processes) (codes " ") (decimal c.args.table) (codes "\n")) c.format.ensures.ok
