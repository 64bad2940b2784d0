-- Heights that fit at each invoice fit.
use Rattle.std.proofs.Common.{rules}
use Rattle.std.proofs.iter.runs.Sources.{ranges}
use Rattle.day.specs.Bills.{reads}
use Rattle.setoff.specs.Rows.{day_in}
use Rattle.heights.proofs.Counted.{judges}
use Rattle.heights.proofs.low.Heights.fits_each.Goals as goal

pub returns : goal.returns
returns c = judges (day_in c.args.self.invoices) (reads c.args.cents.now) (reads c.args.self.of_firm.now) c.all.result (search (rules, ranges))
