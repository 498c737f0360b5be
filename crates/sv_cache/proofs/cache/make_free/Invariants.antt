use Rattle.std.proofs.Common.{◌≡◌, [], ◌∷◌}
use Rattle.std.specs.List.{range_with_len}
use Rattle.sv_cache.proofs.cache.make_free.Given as goal

abbrev pub invariant-loop-buffer : goal.invariant-loop-buffer
invariant-loop-buffer l = l.free ≡ record { numbers = l.buffers; lists = range_with_len 0 l.buffer ∷ [] }
