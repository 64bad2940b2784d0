-- Striking out along a ring: how many cents it has room for, and where they can be written. Assumes nothing: these are definitions.
use Rattle.std.specs.Prelude.{◌≡◌, ℕ, ◌+◌, ◌/◌, ◌^◌, ◌<◌, ◌≤◌, Bool, true, false}
use Rattle.heights.specs.Residual.{along, pushed_all}

-- c is the smallest room of the steps `at 0` to `at (m - 1)`
pub record Smallest (room at : ℕ → ℕ) (m c : ℕ) : Type 0 where
  pub each : (j : ℕ) → j < m → c ≤ room (at j)
  pub one : (j : ℕ) × (j < m) × (c ≡ room (at j))

-- c cents more along an arc fit 64 bits, and c cents less are there
abbrev pub Holds : Bool → ℕ → ℕ → Type 0
Holds true s c = s + c < 2 ^ 64
Holds false s c = c ≤ s

-- step after step, each arc is there and can take the cents
pub record Pushable (arcs : ℕ) (s at : ℕ → ℕ) (m c : ℕ) : Type 0 where
  pub there : (j : ℕ) → j < m → at j / 2 < arcs
  pub holds : (j : ℕ) → j < m → Holds (along (at j)) (pushed_all s at c j (at j / 2)) c
