-- A circulation that stays as it is or gains more.
use Rattle.std.proofs.Common.{◌≡◌, ◌<◌, ◌⊎◌}
use Rattle.day.specs.Bills.{reads}
use Rattle.heights.specs.Network.{Circulation, gain}
use Rattle.rings.specs.Improving.{RowsFit}
use Rattle.rings.specs.Rows.{network_in}
use Rattle.rings.specs.Scratch.{SameRows}
use Rattle.greatest.proofs.climbing.climb_in_scales.Given as goal

abbrev pub invariant-scales : goal.invariant-scales
invariant-scales l =
    record {
      rows : RowsFit (network_in l.network) l.flow l.scratch;
      even : Circulation (network_in l.network) (reads l.flow);
      more : (l.flow ≡ l.initial.flow) ⊎ (gain (network_in l.network) (reads l.initial.flow) < gain (network_in l.network) (reads l.flow));
      same : SameRows l.fn.scratch l.scratch;
    }

abbrev pub decreases-scales : goal.decreases-scales
decreases-scales l = l.least
