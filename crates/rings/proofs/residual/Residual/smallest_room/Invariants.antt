-- The smallest room of the steps that were passed; of none, the largest number.
use Rattle.std.proofs.Common.{◌≡◌, ◌-◌, ◌^◌, ◌<◌}
use Rattle.day.specs.Bills.{reads}
use Rattle.rings.specs.Residual.{residual_in}
use Rattle.rings.specs.Striking.{Smallest}
use Rattle.rings.proofs.residual.Residual.smallest_room.Given as goal

abbrev pub invariant-loop-step : goal.invariant-loop-step
invariant-loop-step l =
    record {
      none : l.step-index ≡ 0 → l.smallest ≡ 2 ^ 64 - 1;
      some : 0 < l.step-index → Smallest (residual_in l.self).room (reads l.ring) l.step-index l.smallest;
    }
