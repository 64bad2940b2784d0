-- The sum is the list's, which is that of all its places; so few numbers, none of them large, fit 64 bits.
use Rattle.std.proofs.Common.{rules, ◌<◌, ◌^◌, length, sum, arith}
use Rattle.std.proofs.lemmas.Iterator.{YieldsList-from_slice}
use Rattle.std.proofs.lemmas.Iterator.Consumers.{fits_from_yields_list}
use Rattle.day.specs.Bills.{reads}
use Rattle.setoff.proofs.Spans.{span_reads, span_bound}
use Rattle.setoff.proofs.sums.sum_of.Goals as goal

pub sum-requires-clause-fits : goal.sum-requires-clause-fits
sum-requires-clause-fits c =
    let row = c.args.row.now in
    let fits : sum row < 2 ^ 64 = omega (arith, span_reads row, span_bound (reads row) (10 ^ 12) (length row) c.requires.small, c.requires.few) in
    fits_from_yields_list c.iter.result _ (YieldsList-from_slice row cc) fits

pub returns : goal.returns
returns c = search (rules, span_reads)
