-- The rows that a search is lent. Assumes nothing: these are definitions.
use Rattle.std.specs.Prelude.{◌≡◌, ℕ, length}
use Rattle.rings.specs.declared.scratch.Scratch.{Scratch}

-- a place for each of n nodes
pub record RowsEach (n : ℕ) (s : Scratch) : Type 0 where
  pub number_each : length s.number.now ≡ n
  pub last_each : length s.last.now ≡ n
  pub ring_each : length s.ring.now ≡ n

-- the very same rows, as long as before, whatever is written in them
pub record SameRows (s s' : Scratch) : Type 0 where
  pub number : s'.number.ghost_name ≡ s.number.ghost_name
  pub last : s'.last.ghost_name ≡ s.last.ghost_name
  pub ring : s'.ring.ghost_name ≡ s.ring.ghost_name
  pub number_each : length s'.number.now ≡ length s.number.now
  pub last_each : length s'.last.now ≡ length s.last.now
  pub ring_each : length s'.ring.now ≡ length s.ring.now

-- only the row of the ring was written
pub record RingWritten (s s' : Scratch) : Type 0 where
  pub same : SameRows s s'
  pub number : s'.number.now ≡ s.number.now
  pub last : s'.last.now ≡ s.last.now
