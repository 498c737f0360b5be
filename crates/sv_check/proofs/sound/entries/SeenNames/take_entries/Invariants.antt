use Rattle.std.proofs.Common.{◌≡◌, List, ℕ, true}
use Rattle.sv_form.specs.declared.geometry.Geometry.{Geometry}
use Rattle.sv_check.specs.Directories.{pieces}
use Rattle.sv_check.specs.EntrySteps.{Takes, seen_after}
use Rattle.sv_check.specs.InodeList.{used_flags}
use Rattle.sv_check.specs.SeenNames.{HasSeen}
use Rattle.sv_check.proofs.sound.entries.SeenNames.take_entries.Given as goal

abbrev pub invariant-loop-k : goal.invariant-loop-k
invariant-loop-k l = record {
  takes : (g : Geometry) (image : List ℕ) (seen : List (List ℕ)) → l.used ≡ used_flags g image → HasSeen l.fn.self seen → Takes g image seen (pieces l.k l.bytes) true;
  seen : (seen : List (List ℕ)) → HasSeen l.fn.self seen → HasSeen l.self (seen_after seen (pieces l.k l.bytes));
}
