-- What a search for rings keeps true, step after step and round after round. Assumes nothing.
use Rattle.std.specs.Prelude.{◌≡◌, ℕ, zero, suc, ◌+◌, ◌-◌, ◌<◌, ◌≤◌, ◌⊎◌, ◌==◌}
use Rattle.day.specs.Bills.{pick}
use Rattle.heights.specs.Residual.{Steps, Open, Fitted, AllFitted, Gaining}

-- a function with one value changed
unfoldable pub put : (ℕ → ℕ) → ℕ → ℕ → ℕ → ℕ
put g v x w = pick (w == v) x (g w)

-- node v was last raised by step f: `when` says in which round, and `rank` falls along last steps that are exact
pub record Link (S : Steps) (num when rank : ℕ → ℕ) (v f : ℕ) : Type 0 where
  pub there : Open S f
  pub ends : S.head f ≡ v
  pub rise : num v + S.down f ≤ num (S.tail f) + S.up f
  pub falls : num v + S.down f ≡ num (S.tail f) + S.up f → rank (S.tail f) < rank v
  pub soon : when v ≤ when (S.tail f) + 1

-- in round k, with the steps below i passed: each node's number, and by which step it was last raised (0: never, else the step and 1)
pub record Searched (S : Steps) (k i : ℕ) (num last : ℕ → ℕ) : Type 0 where
  pub when : ℕ → ℕ
  pub rank : ℕ → ℕ
  pub root : (v : ℕ) → last v ≡ 0 → (num v ≡ 0) × (when v ≡ 0)
  pub link : (v f : ℕ) → last v ≡ suc f → Link S num when rank v f
  pub recent : (v : ℕ) → when v ≤ k
  pub passed : (f : ℕ) → Open S f → f < i → Fitted S num f ⊎ (when (S.tail f) ≡ k)
  pub ahead : (f : ℕ) → Open S f → i ≤ f → Fitted S num f ⊎ (k ≤ when (S.tail f) + 1)

-- the node that j last steps lead back to
abbrev pub back : (tail last : ℕ → ℕ) → ℕ → ℕ → ℕ
back tail last v zero = v
back tail last v (suc j) = tail (last (back tail last v j) - 1)

-- how a search ends: with a ring that gains, or with numbers by which no open step would gain
pub data Answer (S : Steps) : Type 0 where
  rings : (m : ℕ) (u at : ℕ → ℕ) → Gaining S m u at → Answer S
  fits : (k i : ℕ) (num last : ℕ → ℕ) → Searched S k i num last → AllFitted S num → Answer S
