-- What a step of the reading answers: a value, or a fault.
use Rattle.std.specs.Prelude.{◌≡◌, Result, Ok, Err}
use Rattle.sv_script.specs.declared.fault.ScriptFault.{ScriptFault}
use Rattle.sv_script.specs.declared.fault.ScriptFault.TheVariants as faults

-- the second step, where the first has a value
infixl 10 ◌>>=◌
abbrev pub ◌>>=◌ : {A B : Type 0} → Result A ScriptFault → (A → Result B ScriptFault) → Result B ScriptFault
(Ok x) >>= f = f x
(Err e) >>= f = Err e

-- want of memory is tied to nothing
abbrev pub Fails : {Y : Type 0} → ScriptFault → Result Y ScriptFault → Type 0
Fails faults.Word said = said ≡ Err faults.Word
Fails faults.Count said = said ≡ Err faults.Count
Fails faults.Number said = said ≡ Err faults.Number
Fails faults.Hex said = said ≡ Err faults.Hex
Fails faults.Lines said = said ≡ Err faults.Lines
Fails faults.Volume said = said ≡ Err faults.Volume
Fails faults.NoMemory said = Unit {0}

-- what was answered, seen by view, is what the words say, unless memory ran out
abbrev pub Gives : {X Y : Type 0} → (X → Y) → Result X ScriptFault → Result Y ScriptFault → Type 0
Gives view (Ok x) said = said ≡ Ok (view x)
Gives view (Err e) said = Fails e said
