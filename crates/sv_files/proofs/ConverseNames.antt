-- The conditions 13 to 16 from the nodes of a whole file system at rest.
use Rattle.sv_files.specs.ConverseNames.{NodesAreNamed}
use Rattle.sv_files.proofs.ConverseDots.{dots_hold, root_holds}
use Rattle.sv_files.proofs.ConverseEntries.{entry_holds, links_hold}
use Rattle.sv_files.proofs.RestedNodes.{at-rest}

pub nodes_named : NodesAreNamed
nodes_named image fs w shows rest =
    let still = at-rest image fs shows rest in
    record {
      root = root_holds image w fs still;
      entry = entry_holds image w fs still;
      dots = dots_hold image w fs still;
      links = links_hold image w fs still;
    }
