-- What counts is small.
use Rattle.std.proofs.Common.{◌≡◌, ◌*◌, get_or, arith, rules}
use Rattle.day.specs.Bills.{reads}
use Rattle.setoff.specs.Rows.{day_in}
use Rattle.heights.specs.Told.{counted}
use Rattle.heights.proofs.Counted.{counted_small}
use Rattle.heights.proofs.low.Heights.counted.Goals as goal

pub overflow_mul-result : goal.overflow_mul-result
overflow_mul-result c =
    let i = c.args.self.invoices in
    let h = c.args.self.of_firm.now in
    let is : get_or i.amount.now c.args.e 0 * c.times.result ≡ counted (day_in i) (reads h) c.args.e = search rules in
    omega (arith, is, counted_small i h c.args.self.low c.args.e c.requires)
