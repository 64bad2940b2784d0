-- The memory that the program lends: enough for every day that a file of this length can be. Assumes nothing.
use Rattle.std.specs.Prelude.{ℕ, List}
use Rattle.day.specs.declared.sizes.Room.{Room}
use Rattle.day.specs.File.{whole}

abbrev pub ample : List ℕ → Room
ample b = record { invoices = whole b; numbers = 512; rings = 514 }
