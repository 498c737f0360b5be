use Rattle.std.proofs.Common.{◌≡◌, drop}
use Rattle.sv_plain.specs.NameIndex.{key_from, name_key}
use Rattle.sv_plain.proofs.maps.name_index.key_of.Given as goal

abbrev pub invariant-loop-k : goal.invariant-loop-k
invariant-loop-k l = name_key l.bytes ≡ key_from l.key (drop l.k l.bytes)
