use Rattle.std.proofs.Common.{◌∙◌, ap, subst, Option, Ok, IfSome}
use Rattle.sv_script.specs.declared.call.Call.{Call}
use Rattle.sv_script.specs.Grammar.{IsCall}
use Rattle.sv_script.proofs.ScriptSteps.{reads_added, reads_passed}
use Rattle.sv_script.proofs.reading.Reading.take_line.Goals as goal

pub returns-in-Ok-Some : goal.returns-in-Ok-Some
returns-in-Ok-Some c = λ before read. reads_added before c.args.line.now c.args.self.now c.add.new.self c.in-Ok-Some.call c.add.result read
    (c.in-Ok-Some.ensures.value ∙ ap (λ (said : Option Call). Ok said) c.in-Ok-Some.field-0-is) (subst (λ (said : Option Call). IfSome said IsCall) c.in-Ok-Some.field-0-is c.in-Ok-Some.ensures.limits) c.add.ensures

pub returns-in-Ok-None : goal.returns-in-Ok-None
returns-in-Ok-None c = λ before read. reads_passed before c.args.line.now c.args.self.now c.pass_over.new.self c.pass_over.result read
    (c.in-Ok-None.ensures.value ∙ ap (λ (said : Option Call). Ok said) c.in-Ok-None.field-0-is) c.pass_over.ensures
