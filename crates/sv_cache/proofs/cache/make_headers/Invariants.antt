use Rattle.std.proofs.Common.{◌≡◌, replicate}
use Rattle.sv_cache.specs.Cache.{new_buffer}
use Rattle.sv_cache.proofs.cache.make_headers.Given as goal

abbrev pub invariant-loop : goal.invariant-loop
invariant-loop l = l.headers.items ≡ replicate l.counter (new_buffer l.block_size)
