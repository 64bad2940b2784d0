-- The network that lent rows are. Assumes nothing: this is a definition.
use Rattle.std.specs.Prelude.{length, nat_lt}
use Rattle.day.specs.Bills.{reads}
use Rattle.heights.specs.Network.{Network as Graph}
use Rattle.rings.specs.declared.network.Network.{Network}

-- the first arcs count, the others don't
abbrev pub network_in : Network → Graph
network_in n =
    record {
      nodes = n.nodes;
      arcs = length n.tail.now;
      tail = reads n.tail.now;
      head = reads n.head.now;
      capacity = reads n.capacity.now;
      counts = λ e. nat_lt e n.counted;
      tail_there = n.tail_there;
      head_there = n.head_there;
    }
