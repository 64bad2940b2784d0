-- Last steps followed back: they end, or lead into a ring. Assumes nothing: these are definitions.
use Rattle.std.specs.Prelude.{◌≡◌, ℕ, suc, ◌<◌, ◌≤◌, ◌≢◌, List, Some, None, Option}
use Rattle.day.specs.Bills.{reads}
use Rattle.heights.specs.Network.{Network}
use Rattle.heights.specs.Residual.{residual}
use Rattle.heights.specs.Search.{back}

-- where a step begins does not depend on the flow
abbrev pub tail_of : Network → ℕ → ℕ
tail_of N = (residual N (λ e. 0) 0).tail

-- the last steps from a node come back to it within n steps
pub record Returns (n : ℕ) (tail last : ℕ → ℕ) (start : ℕ) : Type 0 where
  pub period : ℕ
  pub some : 0 < period
  pub few : period ≤ n
  pub closes : back tail last start period ≡ start
  pub long : (t : ℕ) → t < period → last (back tail last start t) ≢ 0

-- the ring from there: `at j` is the last step of the node that j steps lead back to; the m-th comes back, and none before it
pub record Closed (tail last : ℕ → ℕ) (start m : ℕ) (at : ℕ → ℕ) : Type 0 where
  pub some : 0 < m
  pub steps : (j : ℕ) → j < m → last (back tail last start j) ≡ suc (at j)
  pub closes : back tail last start m ≡ start
  pub first : (j : ℕ) → 0 < j → j < m → back tail last start j ≢ start

-- the last steps from node v end, at a node that has none, before they have met n nodes
pub record Ends (n : ℕ) (tail last : ℕ → ℕ) (v : ℕ) : Type 0 where
  pub at : ℕ
  pub few : at < n
  pub long : (j : ℕ) → j < at → last (back tail last v j) ≢ 0
  pub root : last (back tail last v at) ≡ 0

-- from node v the last steps end; or else they lead into a ring of m steps
abbrev pub Followed : ℕ → (tail last : ℕ → ℕ) → ℕ → List ℕ → Option ℕ → Type 0
Followed n tail last v ring None = Ends n tail last v
Followed n tail last v ring (Some m) = (m ≤ n) × ((start : ℕ) × Closed tail last start m (reads ring))
