-- The steps that were passed are written down, and have not come back yet.
use Rattle.std.proofs.Common.{◌-◌, ◌<◌}
use Rattle.day.specs.Bills.{reads}
use Rattle.rings.specs.Chains.{tail_of}
use Rattle.rings.specs.Rows.{network_in}
use Rattle.rings.specs.Scratch.{RingWritten}
use Rattle.rings.proofs.Collecting.{Collecting}
use Rattle.rings.proofs.scratch.Scratch.collect.Given as goal

abbrev pub invariant-ring : goal.invariant-ring
invariant-ring l =
    record {
      there : l.at < l.network.nodes;
      so_far : Collecting (tail_of (network_in l.network)) (reads l.fn.self.last.now) l.start l.m l.at l.self.ring.now;
      kept : RingWritten l.fn.self l.self;
    }

abbrev pub decreases-ring : goal.decreases-ring
decreases-ring l = l.network.nodes - l.m
