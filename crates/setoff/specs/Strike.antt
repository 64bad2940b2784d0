-- When a row of cents can be struck out of a day's invoices, and what is said of a row that does not fit. Assumes nothing: these are definitions.
use Rattle.std.specs.Prelude.{◌≡◌, ℕ, ◌<◌, ◌≤◌, ◌≢◌, List, length, Ok, Err, Result}
use Rattle.day.specs.Bills.{Day, reads}
use Rattle.setoff.specs.declared.misfits.Misfit.{Misfit}
use Rattle.setoff.specs.declared.misfits.Misfit.TheVariants.{Length, Above}

-- why a row is not one of n numbers, each up to its limit: it is too long or too short, or a number is the first above its limit
abbrev pub Misfits : ℕ → (ℕ → ℕ) → List ℕ → Misfit → Type 0
Misfits n limit row (Length l) = (l ≡ length row) × (length row ≢ n)
Misfits n limit row (Above e) = (length row ≡ n) × (e < n) × (limit e < reads row e) × ((i : ℕ) → i < e → reads row i ≤ limit i)

-- exactly one answer is right: the row fits, or else this is why it does not
abbrev pub Strikes : Day → List ℕ → Result (Unit {0}) Misfit → Type 0
Strikes d cents (Ok _) = (length cents ≡ d.invoices) × ((e : ℕ) → e < d.invoices → reads cents e ≤ d.amount e)
Strikes d cents (Err m) = Misfits d.invoices d.amount cents m
