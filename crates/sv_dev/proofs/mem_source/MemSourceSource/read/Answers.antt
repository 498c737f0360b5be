use Rattle.std.proofs.Common.{ap, sym, ◌∙◌, Some, arith, length-drop}
use Rattle.sv_dev.proofs.Known.{copied_front}
use Rattle.sv_dev.proofs.mem_source.MemSourceSource.read.Goals as goal

pub returns-clause-bytes : goal.returns-clause-bytes
returns-clause-bytes c =
    let bytes = c.self.inside.bytes.items in
    let given = c.self.inside.given in
    ap Some (sym (ap (λ s. s.left) c.self.view_is) ∙ copied_front bytes _ _ _ given _ c.deref.ensures.value c.copy_from_slice.ensures.after (omega (arith, length-drop given bytes)))
