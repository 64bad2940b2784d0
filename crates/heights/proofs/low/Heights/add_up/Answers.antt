-- The sum of what the invoices count for is the bound.
use Rattle.std.proofs.Common.{length, refl, arith, rules}
use Rattle.std.proofs.lemmas.Iterator.{YieldsList-from_range, YieldsList-from_map}
use Rattle.std.proofs.lemmas.Iterator.Consumers.{YieldsList-at, sum_from_yields_List, fits_from_yields_list}
use Rattle.day.specs.Bills.{reads}
use Rattle.setoff.specs.Rows.{day_in}
use Rattle.heights.specs.Told.{counted}
use Rattle.heights.proofs.Counted.{bounds}
use Rattle.heights.proofs.low.Heights.add_up.Goals as goal

pub sum-requires-clause-fits : goal.sum-requires-clause-fits
sum-requires-clause-fits c =
    let n = length c.args.self.invoices.from.now in
    let f = counted (day_in c.args.self.invoices) (reads c.args.self.of_firm.now) in
    let told = bounds c.args.self.invoices c.args.self.of_firm.now c.args.self.low in
    fits_from_yields_list c.map.result _
    (YieldsList-from_map _ f (YieldsList-at c.map.ensures.source (YieldsList-from_range 0 n n refl (omega arith))) c.map.ensures.closure (λ x r q k. search rules))
    (omega (arith, told.small))

pub returns : goal.returns
returns c =
    let n = length c.args.self.invoices.from.now in
    let f = counted (day_in c.args.self.invoices) (reads c.args.self.of_firm.now) in
    let told = bounds c.args.self.invoices c.args.self.of_firm.now c.args.self.low in
    let added =
    sum_from_yields_List c.map.result c.sum.result c.sum.ensures.ran
    (YieldsList-from_map _ f (YieldsList-at c.map.ensures.source (YieldsList-from_range 0 n n refl (omega arith))) c.map.ensures.closure (λ x r q k. search rules)) in
    rw added told
