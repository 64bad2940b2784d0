-- The sum so far is the firm's share of the invoices that were passed.
use Rattle.std.proofs.Common.{◌≡◌}
use Rattle.day.specs.Bills.{reads}
use Rattle.setoff.proofs.Portions.{share}
use Rattle.setoff.proofs.struck.Struck.share_of.Given as goal

abbrev pub invariant-loop-e : goal.invariant-loop-e
invariant-loop-e l = l.sum ≡ share (reads l.row) (reads l.self.cents.now) l.firm l.e
