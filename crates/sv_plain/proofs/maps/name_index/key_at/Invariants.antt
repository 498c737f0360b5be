use Rattle.std.proofs.Common.{◌≡◌, ◌+◌, ◌-◌, map, option_copied}
use Rattle.std.specs.List.{range_with_len}
use Rattle.sv_form.specs.FileBytes.{page_byte}
use Rattle.sv_plain.specs.NameIndex.{key_from, name_key}
use Rattle.sv_plain.proofs.maps.name_index.key_at.Given as goal

abbrev pub invariant-loop-k : goal.invariant-loop-k
invariant-loop-k l = name_key (map (page_byte (option_copied l.page)) (range_with_len l.at 14))
    ≡ key_from l.key (map (page_byte (option_copied l.page)) (range_with_len (l.at + l.k) (14 - l.k)))
