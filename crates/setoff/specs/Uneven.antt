-- The first firm that a row of cents leaves uneven. Assumes nothing: these are definitions.
use Rattle.std.specs.Prelude.{◌≡◌, ℕ, ◌<◌, ◌≢◌, Some, None, Option}
use Rattle.day.specs.Bills.{Day, let_off, lets_off, SetOff}
use Rattle.setoff.specs.Promise.{Stays}

-- the cents are a set-off, which keeps the position of each firm
pub record Balanced (d : Day) (s : ℕ → ℕ) : Type 0 where
  pub set_off : SetOff d s
  pub kept : (v : ℕ) → v < d.firms → Stays d s v

-- no firm is uneven, or else one is the first that is let off another sum than it lets off
abbrev pub Evenness : Day → (ℕ → ℕ) → Option ℕ → Type 0
Evenness d s None = Balanced d s
Evenness d s (Some v) = (v < d.firms) × (let_off d s v ≢ lets_off d s v) × ((u : ℕ) → u < v → let_off d s u ≡ lets_off d s u)
