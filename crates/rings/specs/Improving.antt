-- What one improvement of a flow comes to. Assumes nothing: these are definitions.
use Rattle.std.specs.Prelude.{◌≡◌, ℕ, ◌+◌, ◌≤◌, ◌≢◌, List, length, Some, None, Ok, Err, Option, Result}
use Rattle.day.specs.Bills.{reads}
use Rattle.heights.specs.Network.{Network, Circulation, gain}
use Rattle.heights.specs.Residual.{room_of, residual, Gaining, pushed_all}
use Rattle.rings.specs.declared.rows.Unfit.{Unfit}
use Rattle.rings.specs.declared.rows.Unfit.TheVariants.{Flow, Number, Last, Ring}
use Rattle.rings.specs.declared.scratch.Scratch.{Scratch}
use Rattle.rings.specs.Found.{Settled}
use Rattle.rings.specs.Scratch.{RowsEach}
use Rattle.rings.specs.Striking.{Smallest}

-- lent rows with a place for each arc or node
pub record RowsFit (N : Network) (flow : List ℕ) (s : Scratch) : Type 0 where
  pub flow_each : length flow ≡ N.arcs
  pub rows_each : RowsEach N.nodes s

-- or the first row that is too long or too short, with its length
abbrev pub Unfits : Network → List ℕ → Scratch → Unfit → Type 0
Unfits N flow s (Flow l) = (l ≡ length flow) × (length flow ≢ N.arcs)
Unfits N flow s (Number l) = (length flow ≡ N.arcs) × (l ≡ length s.number.now) × (length s.number.now ≢ N.nodes)
Unfits N flow s (Last l) = (length flow ≡ N.arcs) × (length s.number.now ≡ N.nodes) × (l ≡ length s.last.now) × (length s.last.now ≢ N.nodes)
Unfits N flow s (Ring l) =
    (length flow ≡ N.arcs) × (length s.number.now ≡ N.nodes) × (length s.last.now ≡ N.nodes) × (l ≡ length s.ring.now) × (length s.ring.now ≢ N.nodes)

-- c cents were pushed round a ring that gains, as many as its smallest room: a circulation stays one, and gains so many at least
pub record PushedRound (N : Network) (least : ℕ) (s s' : ℕ → ℕ) (c : ℕ) : Type 0 where
  pub steps : ℕ
  pub node : ℕ → ℕ
  pub at : ℕ → ℕ
  pub ring : Gaining (residual N s least) steps node at
  pub smallest : Smallest (room_of N s) at steps c
  pub after : s' ≡ pushed_all s at c steps
  pub gains : Circulation N s → Circulation N s' × (gain N s + c ≤ gain N s')

-- a ring was struck out; or there is none, the flow is as it was, and the numbers show it
abbrev pub Improved : Network → ℕ → (flow flow' : List ℕ) → Scratch → Option ℕ → Type 0
Improved N least flow flow' s (Some c) = (least ≤ c) × PushedRound N least (reads flow) (reads flow') c
Improved N least flow flow' s None = (flow' ≡ flow) × Settled (residual N (reads flow) least) s

-- rows that don't fit are refused, and nothing is changed
abbrev pub Improves : Network → ℕ → (flow flow' : List ℕ) → (s s' : Scratch) → Result (Option ℕ) Unfit → Type 0
Improves N least flow flow' s s' (Ok r) = RowsFit N flow s × Improved N least flow flow' s' r
Improves N least flow flow' s s' (Err u) =
    Unfits N flow s u × (flow' ≡ flow) × (s'.number.now ≡ s.number.now) × (s'.last.now ≡ s.last.now) × (s'.ring.now ≡ s.ring.now)
