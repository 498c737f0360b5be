use Rattle.std.proofs.Common.{◌≡◌, ◌≤◌, ◌+◌, ◌-◌, length, drop}
use Rattle.sv_form.specs.Node.{entry_name}
use Rattle.sv_plain.specs.Names.{same_bytes}
use Rattle.sv_plain.proofs.NameBytes.{rest_is}
use Rattle.sv_plain.proofs.node.Node.has_name.Given as goal

abbrev pub invariant-loop-k : goal.invariant-loop-k
invariant-loop-k l = record {
  within : l.k ≤ length l.name;
  same : same_bytes (entry_name l.block l.self l.j) l.name ≡ rest_is l.block l.self (l.first + l.k) (14 - l.k) (drop l.k l.name);
}
