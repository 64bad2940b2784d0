-- Lent rows that are a sound day: who owes, who is owed and the cents of each invoice. Assumes nothing: this is a definition.
use Rattle.std.specs.Prelude.{◌≡◌, ℕ, List, length}
use Rattle.day.specs.Bills.{Sound, reads}

-- rows with a place for each invoice, within the limits of a clearing day of n firms
pub record SoundRows (n : ℕ) (from to amount : List ℕ) : Type 0 where
  pub to_each : length to ≡ length from
  pub amount_each : length amount ≡ length from
  pub sound : Sound n (length from) (reads from) (reads to) (reads amount)
