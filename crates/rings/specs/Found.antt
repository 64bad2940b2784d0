-- What a search for a ring answers: a ring that gains, or numbers by which no step would gain. Assumes nothing: these are definitions.
use Rattle.std.specs.Prelude.{ℕ, ◌≤◌, List, Some, None, Option}
use Rattle.day.specs.Bills.{reads}
use Rattle.heights.specs.Residual.{Steps, AllFitted, Gaining}
use Rattle.heights.specs.Search.{Searched}
use Rattle.rings.specs.declared.scratch.Scratch.{Scratch}
use Rattle.rings.specs.Numbers.{levels, Below}

-- the rows of a search that found no ring: from these numbers no open step leads higher
pub record Settled (S : Steps) (w : Scratch) : Type 0 where
  pub numbers : Below S.nodes S.nodes w.number.now
  pub round : ℕ
  pub step : ℕ
  pub kept : Searched S round step (levels w.number.now) (reads w.last.now)
  pub fitted : AllFitted S (levels w.number.now)

-- m steps of a ring that gains, written in a row
abbrev pub Ringed : Steps → ℕ → List ℕ → Type 0
Ringed S m ring = (m ≤ S.nodes) × ((u : ℕ → ℕ) × Gaining S m u (reads ring))

abbrev pub Searches : Steps → Scratch → Option ℕ → Type 0
Searches S w None = Settled S w
Searches S w (Some m) = Ringed S m w.ring.now
