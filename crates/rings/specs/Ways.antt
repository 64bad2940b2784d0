-- The ways of steps as numbers in lent rows. Assumes nothing: these are definitions.
use Rattle.std.specs.Prelude.{◌≡◌, ℕ, suc, ◌+◌, ◌*◌, Some, None, Option}
use Rattle.rings.specs.declared.ways.Way.{Way}
use Rattle.rings.specs.declared.ways.Way.TheVariants.{Along, Back}

-- the number of a step: 2e along arc e, and 2e + 1 back
abbrev pub step_in : Way → ℕ
step_in (Along e) = 2 * e
step_in (Back e) = 2 * e + 1

-- what the row of last steps holds for a node: 0 for none, else the step's number and 1
abbrev pub LastIn : ℕ → Option Way → Type 0
LastIn held None = held ≡ 0
LastIn held (Some way) = held ≡ suc (step_in way)
