-- One step of the residual graph, as the code has it. Assumes nothing: this is a definition.
use Rattle.std.specs.Prelude.{◌≡◌, ℕ, ◌<◌, pos, ◌+ℤ◌}
use Rattle.heights.specs.Residual.{Steps}
use Rattle.rings.specs.declared.steps.Step.{Step}

-- step f: from its tail to its head, what a cent gains on it (less than 0 on a step back), and for how many it has room
pub record IsStep (S : Steps) (f : ℕ) (step : Step) : Type 0 where
  pub tail : step.tail ≡ S.tail f
  pub head : step.head ≡ S.head f
  pub gain : step.gain +ℤ pos (S.down f) ≡ pos (S.up f)
  pub room : step.room ≡ S.room f
  pub tail_there : step.tail < S.nodes
  pub head_there : step.head < S.nodes
