-- What is promised of heights and of greatest set-offs, in the words of the rules. Each is a statement, whose proof is owed. Assumes nothing.
use Rattle.std.specs.Prelude.{◌≡◌, ℕ, ◌+◌, ◌*◌, ◌<◌, ◌≤◌, ◌==◌}
use Rattle.day.specs.Bills.{Day, pick, SetOff, total, Greatest, bound, Ring}
use Rattle.setoff.specs.Promise.{left_by}
use Rattle.heights.specs.Network.{Network, Circulation, gain, Certified}
use Rattle.heights.specs.Residual.{Steps, residual, Gaining, pushed_all}
use Rattle.heights.specs.Search.{Answer}

-- heights fit a set-off: an invoice with something left leads up by one at least, one with something struck out by one at most
pub record Fits (d : Day) (s h : ℕ → ℕ) : Type 0 where
  pub left : (e : ℕ) → e < d.invoices → s e < d.amount e → h (d.from e) + 1 ≤ h (d.to e)
  pub struck : (e : ℕ) → e < d.invoices → 0 < s e → h (d.to e) ≤ h (d.from e) + 1

-- a greatest set-off with heights that show it: the total is their bound, they are below the number of firms,
-- and they are the least that fit it
pub record Shown (d : Day) (s h : ℕ → ℕ) : Type 0 where
  pub greatest : Greatest d s
  pub tight : total d s ≡ bound d h
  pub fits : Fits d s h
  pub low : (v : ℕ) → v < d.firms → h v < d.firms
  pub least : (g : ℕ → ℕ) → Fits d s g → (v : ℕ) → v < d.firms → h v ≤ g v

-- every day whatever has one
unfoldable pub Always : Type 0
Always = (d : Day) → (s : ℕ → ℕ) × (h : ℕ → ℕ) × Shown d s h

-- and so has every network, whichever of its arcs count, from any circulation on
unfoldable pub AlwaysFrom : Type 0
AlwaysFrom = (N : Network) (s : ℕ → ℕ) → Circulation N s → (q : ℕ → ℕ) × (h : ℕ → ℕ) × Certified N q h

-- for two reasons. A search over steps ends with a ring that gains, or with numbers by which no open step would gain;
unfoldable pub SearchEnds : Type 0
SearchEnds = (S : Steps) → ((f : ℕ) → f < S.steps → S.tail f < S.nodes) → Answer S

-- and c cents pushed round a ring whose steps have room for them make a circulation that gains c more at least
unfoldable pub RingGains : Type 0
RingGains =
    (N : Network) (s : ℕ → ℕ) (c m : ℕ) (u at : ℕ → ℕ) → Circulation N s → Gaining (residual N s c) m u at →
    Circulation N (pushed_all s at c m) × (gain N s + c ≤ gain N (pushed_all s at c m))

-- whatever the heights, no set-off is above their bound
unfoldable pub HeightsBound : Type 0
HeightsBound = (d : Day) (s h : ℕ → ℕ) → SetOff d s → total d s ≤ bound d h

-- so a set-off that meets a bound is a greatest one
unfoldable pub MeetsIsGreatest : Type 0
MeetsIsGreatest = (d : Day) (s h : ℕ → ℕ) → SetOff d s → total d s ≡ bound d h → Greatest d s

-- a set-off meets the bound of heights exactly where they fit it
unfoldable pub Slackness : Type 0
Slackness = (d : Day) (s h : ℕ → ℕ) → SetOff d s → (total d s ≡ bound d h → Fits d s h) × (Fits d s h → total d s ≡ bound d h)

-- after a greatest set-off no ring of invoices is left
unfoldable pub NoRingLeft : Type 0
NoRingLeft = (d : Day) (s : ℕ → ℕ) (v : ℕ) → Greatest d s → Ring d (left_by d s) v v → ⊥

-- the day with c cents more on invoice e
unfoldable pub raised : Day → ℕ → ℕ → Day
raised d e c =
    record {
      firms = d.firms;
      invoices = d.invoices;
      from = d.from;
      to = d.to;
      amount = λ i. d.amount i + pick (i == e) c 0;
      from_there = d.from_there;
      to_there = d.to_there;
    }

-- more on an invoice never lowers the greatest total, and raises it for each cent by at most the number of firms
unfoldable pub Raise : Type 0
Raise =
    (d : Day) (s q : ℕ → ℕ) (e c : ℕ) → e < d.invoices → Greatest d s → Greatest (raised d e c) q →
    (total d s ≤ total (raised d e c) q) × (total (raised d e c) q ≤ total d s + c * d.firms)
