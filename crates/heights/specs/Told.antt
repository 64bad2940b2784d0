-- What is told of heights: their bound, and whether they fit what is struck out. Assumes nothing.
use Rattle.std.specs.Prelude.{◌≡◌, ℕ, ◌+◌, ◌-◌, ◌*◌, ◌^◌, ◌<◌, ◌≤◌, Bool, true, Decides}
use Rattle.day.specs.Bills.{Day, SetOff, total, Greatest, bound, Ring}
use Rattle.setoff.specs.Promise.{left_by}
use Rattle.heights.specs.Promise.{Fits}

-- what invoice e counts for: its amount, as many times as the height of who owes it, and 1, are above the height of who is owed
abbrev pub counted : Day → (ℕ → ℕ) → ℕ → ℕ
counted d h e = d.amount e * ((h (d.from e) + 1) - h (d.to e))

-- b is the bound of heights, so that no set-off whatever is above it
pub record Bounds (d : Day) (h : ℕ → ℕ) (b : ℕ) : Type 0 where
  pub sum : b ≡ bound d h
  pub above : (s : ℕ → ℕ) → SetOff d s → total d s ≤ b
  pub small : b < 2 ^ 63

-- heights fit at invoice e: it leads up by one at least where something is left of it, and by one at most where something is struck out
abbrev pub FitsAt : Day → (ℕ → ℕ) → (ℕ → ℕ) → ℕ → Type 0
FitsAt d s h e = (s e < d.amount e → h (d.from e) + 1 ≤ h (d.to e)) × (0 < s e → h (d.to e) ≤ h (d.from e) + 1)

-- the answer is whether heights fit: that is, for a set-off, whether it meets their bound. Then it is a greatest one, and leaves no ring
pub record Judges (d : Day) (s h : ℕ → ℕ) (answer : Bool) : Type 0 where
  pub fits : Decides answer (Fits d s h)
  pub meets : SetOff d s → Decides answer (total d s ≡ bound d h)
  pub greatest : answer ≡ true → SetOff d s → Greatest d s
  pub no_ring : answer ≡ true → SetOff d s → (v : ℕ) → Ring d (left_by d s) v v → ⊥
