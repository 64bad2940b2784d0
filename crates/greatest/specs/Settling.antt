-- A greatest set-off with its heights, in rows that are as long as the day is. Assumes nothing: these are definitions.
use Rattle.std.specs.Prelude.{◌≡◌, ℕ, ◌<◌, List, length, replicate, pos}
use Rattle.day.specs.Bills.{Day, reads, Greatest, total}
use Rattle.heights.specs.Promise.{Shown}
use Rattle.rings.specs.Scratch.{RowsEach as Each}
use Rattle.rings.specs.declared.scratch.Scratch.{Scratch}
use Rattle.setoff.specs.Promise.{Stays}

-- heights show the set-off to be greatest; each position is kept, the sum is the total, and what was greatest already is as it was
pub record Settles (d : Day) (struck struck' height : List ℕ) (sum : ℕ) : Type 0 where
  pub shown : Shown d (reads struck') (reads height)
  pub positions : (v : ℕ) → v < d.firms → Stays d (reads struck') v
  pub in_all : sum ≡ total d (reads struck')
  pub stays : Greatest d (reads struck) → struck' ≡ struck

-- rows with a place for each invoice or firm
pub record RowsEach (d : Day) (struck height : List ℕ) (s : Scratch) : Type 0 where
  pub struck_each : length struck ≡ d.invoices
  pub height_each : length height ≡ d.firms
  pub scratch_each : Each d.firms s

-- rows of n places that hold 0 again
pub record Wiped (n : ℕ) (s : Scratch) : Type 0 where
  pub number_clear : s.number.now ≡ replicate n (pos 0)
  pub last_clear : s.last.now ≡ replicate n 0
  pub ring_clear : s.ring.now ≡ replicate n 0
