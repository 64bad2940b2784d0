-- The invoices so far are written, and fit the bytes that they are given.
use Rattle.std.proofs.Common.{◌≡◌, take, vec_items}
use Rattle.std.specs.List.{AllByRecursion}
use Rattle.day.specs.File.{written, Fits}
use Rattle.day.proofs.writer.write.Given as goal

abbrev pub invariant-loop-invoice : goal.invariant-loop-invoice
invariant-loop-invoice l =
    (vec_items l.file ≡ written l.firms (take l.invoice-index l.invoices)) × AllByRecursion Fits (take l.invoice-index l.invoices)
