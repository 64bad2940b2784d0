-- The numbers of the nodes during a search: signed in the code, and never below 0 in their row. Assumes nothing: these are definitions.
use Rattle.std.specs.Prelude.{◌≡◌, ℕ, ◌<◌, List, length, ℤ, pos, negsuc, slice_index_or}

abbrev pub natural : ℤ → ℕ
natural (pos n) = n
natural (negsuc n) = 0

-- a row of numbers, as a function of the node
abbrev pub levels : List ℤ → ℕ → ℕ
levels row v = natural (slice_index_or row v (pos 0))

-- a number for each of n nodes, from 0 on and below b
pub record Below (b n : ℕ) (row : List ℤ) : Type 0 where
  pub each : length row ≡ n
  pub exact : (v : ℕ) → v < n → slice_index_or row v (pos 0) ≡ pos (levels row v)
  pub low : (v : ℕ) → v < n → levels row v < b
