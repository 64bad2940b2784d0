-- Heights in a lent row: one for each firm and none above the number of firms, or why they are turned away. Assumes nothing.
use Rattle.std.specs.Prelude.{◌≡◌, ℕ, ◌<◌, ◌≤◌, List, length, Result, MatchResult}
use Rattle.day.specs.Bills.{reads}
use Rattle.setoff.specs.Strike.{Misfits}
use Rattle.setoff.specs.declared.misfits.Misfit.{Misfit}

pub record Low (n : ℕ) (heights : List ℕ) : Type 0 where
  pub each : length heights ≡ n
  pub low : (v : ℕ) → v < n → reads heights v ≤ n

-- an answer that says P of heights that are taken; turned away are heights that misfit n limits, each n
abbrev pub Answers : {A : Type 0} → ℕ → List ℕ → (A → Type 0) → Result A Misfit → Type 0
Answers n heights P r = MatchResult r (λ a. Low n heights × P a) (λ m. Misfits n (λ _. n) heights m)
