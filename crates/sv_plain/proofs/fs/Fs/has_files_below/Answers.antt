use Rattle.std.proofs.Common.{◌≡◌, ◌<◌, ◌≤◌, false, sym, arith}
use Rattle.std.specs.FinMap as map
use Rattle.sv_plain.proofs.LowestUnused.{none_passes, some_passes}
use Rattle.sv_plain.proofs.fs.Fs.has_files_below.Goals as goal

pub returns-then-not-has_file : goal.returns-then-not-has_file
returns-then-not-has_file c =
    let fails : map.contains_key c.args.self.now.files c.loop-lower.lower ≡ false = cc in
    sym (some_passes (map.contains_key c.args.self.now.files) c.loop-lower.lower c.args.n (omega arith) fails)

pub returns : goal.returns
returns c = sym (none_passes (map.contains_key c.args.self.now.files) c.args.n (λ k h. c.loop-lower.invariant k (omega arith)))
