use Rattle.std.proofs.Common.{◌≡◌, drop}
use Rattle.sv_plain.specs.Written.{without_pages}
use Rattle.sv_plain.proofs.node.Node.remove_pages.Given as goal

abbrev pub invariant-loop-block : goal.invariant-loop-block
invariant-loop-block l =
    record l.self { pages = without_pages l.self.pages (drop l.block-index l.gone) } ≡ record l.initial.self { pages = without_pages l.initial.self.pages l.gone }
