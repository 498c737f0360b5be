use Rattle.std.proofs.Common.{refl}
use Rattle.sv_plain.specs.declared.maps.name_index.NameIndex.{NameIndex}
use Rattle.sv_plain.proofs.NameNotes.{none_there}
use Rattle.sv_plain.proofs.maps.name_index.NameIndex.new.Goals as goal

pub returns : goal.returns
returns c =
    let index : NameIndex = record { slots = c.args.slots; covered = 0; places = c.new.result; empty = c.new-2.result } in
    record { empty = none_there index c.requires.some c.requires.few refl }
