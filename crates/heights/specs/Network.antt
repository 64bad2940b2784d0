-- Networks: nodes and arcs with a capacity, of which some count; circulations, and potentials that bound them. Assumes nothing.
-- A day is the network in which every arc counts. Limits on a firm and lent cash are arcs that count nothing.
use Rattle.std.specs.Prelude.{◌≡◌, ℕ, ◌+◌, ◌-◌, ◌*◌, ◌<◌, ◌≤◌, Bool, true, ◌==◌}
use Rattle.day.specs.Bills.{Day, pick, span}

pub record Network : Type 0 where
  pub nodes : ℕ
  pub arcs : ℕ
  pub tail : ℕ → ℕ
  pub head : ℕ → ℕ
  pub capacity : ℕ → ℕ
  pub counts : ℕ → Bool
  pub tail_there : (e : ℕ) → e < arcs → tail e < nodes
  pub head_there : (e : ℕ) → e < arcs → head e < nodes

-- firms are nodes, an invoice is an arc from who owes to who is owed
abbrev pub network_of : Day → Network
network_of d =
    record {
      nodes = d.firms;
      arcs = d.invoices;
      tail = d.from;
      head = d.to;
      capacity = d.amount;
      counts = λ _. true;
      tail_there = d.from_there;
      head_there = d.to_there;
    }

-- what flows out of node v, and what flows into it
unfoldable pub outflow : Network → (ℕ → ℕ) → ℕ → ℕ
outflow N s v = span (λ e. pick (N.tail e == v) (s e) 0) N.arcs

unfoldable pub inflow : Network → (ℕ → ℕ) → ℕ → ℕ
inflow N s v = span (λ e. pick (N.head e == v) (s e) 0) N.arcs

-- a flow within the capacities that leaves each node as it enters it
pub record Circulation (N : Network) (s : ℕ → ℕ) : Type 0 where
  pub within : (e : ℕ) → e < N.arcs → s e ≤ N.capacity e
  pub even : (v : ℕ) → v < N.nodes → outflow N s v ≡ inflow N s v

-- what a cent on arc e gains: 1 if the arc counts
abbrev pub unit : Network → ℕ → ℕ
unit N e = pick (N.counts e) 1 0

-- the flow on all arcs that count
unfoldable pub gain : Network → (ℕ → ℕ) → ℕ
gain N s = span (λ e. pick (N.counts e) (s e) 0) N.arcs

-- no circulation gains more
pub record Maximum (N : Network) (s : ℕ → ℕ) : Type 0 where
  pub is : Circulation N s
  pub most : (q : ℕ → ℕ) → Circulation N q → gain N q ≤ gain N s

-- the bound that potentials of the nodes give
unfoldable pub dual : Network → (ℕ → ℕ) → ℕ
dual N h = span (λ e. N.capacity e * ((h (N.tail e) + unit N e) - h (N.head e))) N.arcs

-- potentials fit a flow: they rise along each arc that has room left by at least its unit, and by at most that where anything flows
pub record Fit (N : Network) (s h : ℕ → ℕ) : Type 0 where
  pub left : (e : ℕ) → e < N.arcs → s e < N.capacity e → h (N.tail e) + unit N e ≤ h (N.head e)
  pub used : (e : ℕ) → e < N.arcs → 0 < s e → h (N.head e) ≤ h (N.tail e) + unit N e

-- a greatest circulation, with the least potentials that show it to be one
pub record Certified (N : Network) (s h : ℕ → ℕ) : Type 0 where
  pub maximum : Maximum N s
  pub tight : gain N s ≡ dual N h
  pub fit : Fit N s h
  pub low : (v : ℕ) → v < N.nodes → h v < N.nodes
  pub least : (g : ℕ → ℕ) → Fit N s g → (v : ℕ) → v < N.nodes → h v ≤ g v
