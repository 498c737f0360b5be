use Rattle.std.proofs.Common.{◌≡◌, ◌<◌, ◌≤◌, ◌+◌, ℕ, length, IsSome, vec_len}
use Rattle.std.specs.FinMap as map
use Rattle.sv_plain.specs.Written.{with_pages_from}
use Rattle.sv_plain.proofs.node.Node.replace_pages.Given as goal

abbrev pub invariant-loop-bytes : goal.invariant-loop-bytes
invariant-loop-bytes l = record {
  node : record l.self { pages = with_pages_from l.self.pages l.first l.pages.items } ≡ record l.initial.self { pages = with_pages_from l.initial.self.pages l.first l.initial.pages.items };
  there : (k : ℕ) → k < length l.pages.items → IsSome (map.get l.self.pages (l.first + k));
  fits : l.first + length l.pages.items ≤ 4294967295;
}

abbrev pub decreases-loop-bytes : goal.decreases-loop-bytes
decreases-loop-bytes l = vec_len l.pages
