-- The residual graph of a flow: steps along arcs that have room left, and back along arcs that are used. Assumes nothing.
use Rattle.std.specs.Prelude.{◌≡◌, ℕ, zero, suc, ◌+◌, ◌-◌, ◌*◌, ◌/◌, ◌%◌, ◌<◌, ◌≤◌, Bool, ◌≢◌, ◌==◌}
use Rattle.day.specs.Bills.{pick, span}
use Rattle.heights.specs.Network.{Network, unit}

-- steps from node to node. A step gains what it is up less what it is down, and is open where it has room for `least` cents
pub record Steps : Type 0 where
  pub nodes : ℕ
  pub steps : ℕ
  pub tail : ℕ → ℕ
  pub head : ℕ → ℕ
  pub up : ℕ → ℕ
  pub down : ℕ → ℕ
  pub room : ℕ → ℕ
  pub least : ℕ

abbrev pub Open : Steps → ℕ → Type 0
Open S f = (f < S.steps) × (S.least ≤ S.room f)

-- step 2e goes along arc e, and step 2e + 1 back
abbrev pub along : ℕ → Bool
along f = f % 2 == 0

abbrev pub room_of : Network → (ℕ → ℕ) → ℕ → ℕ
room_of N s f = pick (along f) (N.capacity (f / 2) - s (f / 2)) (s (f / 2))

abbrev pub residual : Network → (ℕ → ℕ) → ℕ → Steps
residual N s least =
    record {
      nodes = N.nodes;
      steps = 2 * N.arcs;
      tail = λ f. pick (along f) (N.tail (f / 2)) (N.head (f / 2));
      head = λ f. pick (along f) (N.head (f / 2)) (N.tail (f / 2));
      up = λ f. pick (along f) (unit N (f / 2)) 0;
      down = λ f. pick (along f) 0 (unit N (f / 2));
      room = room_of N s;
      least = least;
    }

-- potentials by which a step would gain nothing
abbrev pub Fitted : Steps → (ℕ → ℕ) → ℕ → Type 0
Fitted S h f = h (S.tail f) + S.up f ≤ h (S.head f) + S.down f

abbrev pub AllFitted : Steps → (ℕ → ℕ) → Type 0
AllFitted S h = (f : ℕ) → Open S f → Fitted S h f

-- m steps in a ring, told against their direction: step `at j` leads from node u (j + 1) to node u j. No node is met twice,
-- and there are more steps up than down
pub record Gaining (S : Steps) (m : ℕ) (u at : ℕ → ℕ) : Type 0 where
  pub some : 0 < m
  pub there : (j : ℕ) → j < m → Open S (at j)
  pub heads : (j : ℕ) → j < m → S.head (at j) ≡ u j
  pub tails : (j : ℕ) → j < m → S.tail (at j) ≡ u (suc j)
  pub closed : u m ≡ u 0
  pub apart : (i j : ℕ) → i < j → j < m → u i ≢ u j
  pub gains : span (λ j. S.down (at j)) m < span (λ j. S.up (at j)) m

-- the flow with c more along a step, or c less where it goes back; and after the first j steps of a ring
unfoldable pub pushed : (ℕ → ℕ) → ℕ → ℕ → ℕ → ℕ
pushed s f c e = pick (e == f / 2) (pick (along f) (s e + c) (s e - c)) (s e)

unfoldable pub pushed_all : (ℕ → ℕ) → (ℕ → ℕ) → ℕ → ℕ → ℕ → ℕ
pushed_all s at c zero = s
pushed_all s at c (suc j) = pushed (pushed_all s at c j) (at j) c
