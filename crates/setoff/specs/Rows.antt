-- The day that lent rows are, and what is struck out of its invoices. Assumes nothing: these are definitions.
use Rattle.std.specs.Prelude.{ℕ, length}
use Rattle.day.specs.Bills.{Day, day_of, reads}
use Rattle.setoff.specs.declared.invoices.Invoices.{Invoices}
use Rattle.setoff.specs.declared.struck.Struck.{Struck}

-- the day that the invoices are, sound by their type
abbrev pub day_in : Invoices → Day
day_in i = day_of i.firms (length i.from.now) (reads i.from.now) (reads i.to.now) (reads i.amount.now) i.sound.sound

-- what is struck out of each of its invoices
abbrev pub cents_in : Struck → ℕ → ℕ
cents_in s = reads s.cents.now
