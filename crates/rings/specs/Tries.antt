-- What a try of a step leaves in the rows of numbers and of last steps. Assumes nothing: these are definitions.
use Rattle.std.specs.Prelude.{◌≡◌, ℕ, ◌+◌, ◌-◌, ◌*◌, ◌<◌, true, ◌⊎◌, pos, is_some, Some, None, Option, slice_set}
use Rattle.heights.specs.Residual.{Steps, Open, Fitted}
use Rattle.rings.specs.Numbers.{levels}
use Rattle.rings.specs.declared.scratch.Scratch.{Scratch}

-- step f is open and raises node v, its head, to what it leads to; it is then the node's last step
pub record Raised (S : Steps) (f : ℕ) (w w' : Scratch) (v : ℕ) : Type 0 where
  pub there : Open S f
  pub node : v ≡ S.head f
  pub gains : levels w.number.now (S.head f) + S.down f < levels w.number.now (S.tail f) + S.up f
  pub number : w'.number.now ≡ slice_set w.number.now v (pos ((levels w.number.now (S.tail f) + S.up f) - S.down f))
  pub step : w'.last.now ≡ slice_set w.last.now v (f + 1)

-- the node that it raises; or nothing changes, and the step is not open or is fitted
abbrev pub Tried : Steps → ℕ → (w w' : Scratch) → Option ℕ → Type 0
Tried S f w w' (Some v) = Raised S f w w' v
Tried S f w w' None = (w'.number.now ≡ w.number.now) × (w'.last.now ≡ w.last.now) × (Open S f → Fitted S (levels w.number.now) f)

-- of an arc first the step along it is tried and, where that raises nothing, the step back
abbrev pub ArcTried : Steps → ℕ → (w w' : Scratch) → Option ℕ → Type 0
ArcTried S e w w' r =
    ((is_some r ≡ true) × Tried S (2 * e) w w' r)
    ⊎ ((Open S (2 * e) → Fitted S (levels w.number.now) (2 * e)) × Tried S (2 * e + 1) w w' r)
