-- Which nodes have no links.
use Rattle.std.specs.Prelude.{◌≡◌, ◌==◌, ℕ, Bool, false, Option, Some, None}
use Rattle.std.specs.FinMap as map
use Rattle.std.specs.FinSet as set
use Rattle.std.specs.Ordering.{nat_cmp}
use Rattle.sv_form.specs.Node.{Node}

-- a node that no name leads to
abbrev pub has_no_links : Option Node → Bool
has_no_links None = false
has_no_links (Some node) = node.links == 0

-- the set has the numbers of the nodes without links, and no others
abbrev pub AreUnlinked : map.FinMap nat_cmp Node → set.FinSet nat_cmp → Type 0
AreUnlinked nodes unlinked = (i : ℕ) → set.contains unlinked i ≡ has_no_links (map.get nodes i)
