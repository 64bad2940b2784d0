-- The steps that were passed are pushed along.
use Rattle.std.proofs.Common.{◌≡◌}
use Rattle.day.specs.Bills.{reads}
use Rattle.heights.specs.Residual.{pushed_all}
use Rattle.rings.proofs.striking.push.Given as goal

abbrev pub invariant-loop-step : goal.invariant-loop-step
invariant-loop-step l = reads l.flow ≡ pushed_all (reads l.initial.flow) (reads l.ring) l.cents l.step-index
