-- Each place holds its firm's shares of the invoices that were passed.
use Rattle.setoff.proofs.Tallies.{Shows, sums_of}
use Rattle.setoff.proofs.struck.Struck.first_uneven.Given as goal

abbrev pub invariant-loop-e : goal.invariant-loop-e
invariant-loop-e l = Shows (sums_of l.self l.e l.e) l.sums
