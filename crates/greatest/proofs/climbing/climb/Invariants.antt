-- A circulation that gains more with each ring; the measure is the cents that can still be struck out.
use Rattle.std.proofs.Common.{◌≡◌, ◌-◌, ◌<◌, ◌⊎◌}
use Rattle.day.specs.Bills.{reads, span}
use Rattle.heights.specs.Network.{Circulation, gain}
use Rattle.rings.specs.Improving.{RowsFit}
use Rattle.rings.specs.Rows.{network_in}
use Rattle.rings.specs.Scratch.{SameRows}
use Rattle.greatest.proofs.climbing.climb.Given as goal

abbrev pub invariant-rings : goal.invariant-rings
invariant-rings l =
    record {
      rows : RowsFit (network_in l.network) l.flow l.scratch;
      even : Circulation (network_in l.network) (reads l.flow);
      more : (l.flow ≡ l.initial.flow) ⊎ (gain (network_in l.network) (reads l.initial.flow) < gain (network_in l.network) (reads l.flow));
      same : SameRows l.fn.scratch l.scratch;
    }

abbrev pub decreases-rings : goal.decreases-rings
decreases-rings l = span (network_in l.network).capacity (network_in l.network).arcs - gain (network_in l.network) (reads l.flow)
