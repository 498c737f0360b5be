use Rattle.std.proofs.Common.{option_copied, ◌≡◌, length}
use Rattle.std.specs.FinMap as map
use Rattle.sv_form.specs.Node.{bytes_of}
use Rattle.sv_plain.specs.Names.{same_bytes}
use Rattle.sv_plain.proofs.SameBytes.{same_from}
use Rattle.sv_plain.proofs.node.Node.has_bytes.Given as goal

abbrev pub invariant-loop-k : goal.invariant-loop-k
invariant-loop-k l = record {
  same : same_bytes l.bytes (bytes_of l.block l.self l.at (length l.bytes)) ≡ same_from l.block l.self l.at l.bytes l.k;
  page : option_copied l.near.1 ≡ map.get l.self.pages l.near.0;
}
