-- The numbers that were passed are written.
use Rattle.std.proofs.Common.{◌≡◌, ℕ, ◌<◌}
use Rattle.day.specs.Bills.{reads}
use Rattle.rings.specs.Numbers.{levels}
use Rattle.greatest.proofs.settling.write_heights.Given as goal

abbrev pub invariant-loop-v : goal.invariant-loop-v
invariant-loop-v l = (u : ℕ) → u < l.v → reads l.height u ≡ levels l.number u
