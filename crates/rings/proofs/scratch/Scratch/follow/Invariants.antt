-- So many last steps lead to the node.
use Rattle.std.proofs.Common.{◌<◌}
use Rattle.day.specs.Bills.{reads}
use Rattle.rings.specs.Chains.{tail_of}
use Rattle.rings.specs.Rows.{network_in}
use Rattle.rings.proofs.Following.{Leading}
use Rattle.rings.proofs.scratch.Scratch.follow.Given as goal

abbrev pub invariant-steps : goal.invariant-steps
invariant-steps l =
    record {
      there : l.at < l.network.nodes;
      so_far : Leading l.network.nodes (tail_of (network_in l.network)) (reads l.self.last.now) l.from l.counter l.at;
    }
