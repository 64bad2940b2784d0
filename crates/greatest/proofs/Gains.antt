-- What a ring that is struck out gains, and rows that stay as they are or gain more, twice. Assumes nothing.
use Rattle.std.proofs.Common.{◌≡◌, ℕ, ◌<◌, ◌⊎◌, ◌≤◌, List, Some, Option, sym, ◌∙◌, subst, inl, inr, arith}
use Rattle.day.specs.Bills.{reads}
use Rattle.heights.specs.Network.{Network, Circulation, gain}
use Rattle.rings.specs.Improving.{Improved}
use Rattle.rings.specs.declared.scratch.Scratch.{Scratch}

pub gains_on : (gain : (ℕ → ℕ) → ℕ) (f g h : List ℕ) → (g ≡ f) ⊎ (gain (reads f) < gain (reads g)) → (h ≡ g) ⊎ (gain (reads g) < gain (reads h)) →
    (h ≡ f) ⊎ (gain (reads f) < gain (reads h))
gains_on gain f g h (inl same) (inl still) = inl (still ∙ same)
gains_on gain f g h (inl same) (inr more) = inr (subst (λ q. gain (reads q) < gain (reads h)) same more)
gains_on gain f g h (inr more) (inl still) = inr (subst (λ q. gain (reads f) < gain (reads q)) (sym still) more)
gains_on gain f g h (inr more) (inr again) = inr (omega arith)

-- a ring struck out leaves a circulation that gains more
pub ring_gains_more : (N : Network) (least : ℕ) (flow flow' : List ℕ) (s : Scratch) (r : Option ℕ) (cents : ℕ) → 1 ≤ least → r ≡ Some cents →
    Circulation N (reads flow) → Improved N least flow flow' s r → Circulation N (reads flow') × (gain N (reads flow) < gain N (reads flow'))
ring_gains_more N least flow flow' s r cents some is even improved =
    let (enough, round) = subst (Improved N least flow flow' s) is improved in
    let (kept, more) = round.gains even in
    (kept, omega arith)
