use Rattle.std.proofs.Common.{◌≡◌, ◌≤◌, ◌<◌, ℕ, take, get_or}
use Rattle.std.specs.Char.{digit_value}
use Rattle.std.specs.Str.Parse.{digits_value}
use Rattle.sv_plain.proofs.text.digits.value_of.Given as goal

abbrev pub invariant-loop-byte : goal.invariant-loop-byte
invariant-loop-byte l = record {
  digits : (k : ℕ) → k < l.byte-index → digit_value (get_or l.word k 0) < l.base;
  value : l.value ≡ digits_value l.base (take l.byte-index l.word);
  most : l.value ≤ l.most;
}
