-- Rings struck out until none is left that gains. Assumes nothing: these are definitions.
use Rattle.std.specs.Prelude.{◌≡◌, ℕ, ◌<◌, ◌≤◌, ◌⊎◌, List, length}
use Rattle.day.specs.Bills.{reads}
use Rattle.heights.specs.Network.{Network, Circulation, gain}
use Rattle.heights.specs.Residual.{residual}
use Rattle.rings.specs.Found.{Settled}
use Rattle.rings.specs.declared.scratch.Scratch.{Scratch}

-- a circulation stays one. It stays as it is or gains more, and no ring is left that gains and has room for `least` cents
pub record Climbed (N : Network) (least : ℕ) (flow flow' : List ℕ) (s : Scratch) : Type 0 where
  pub even : Circulation N (reads flow')
  pub more : (flow' ≡ flow) ⊎ (gain N (reads flow) < gain N (reads flow'))
  pub settled : Settled (residual N (reads flow') least) s

-- the largest number of a row, or 0 where there is none
pub record Largest (row : List ℕ) (top : ℕ) : Type 0 where
  pub above : (e : ℕ) → e < length row → reads row e ≤ top
  pub one : (top ≡ 0) ⊎ ((e : ℕ) × (e < length row) × (reads row e ≡ top))
