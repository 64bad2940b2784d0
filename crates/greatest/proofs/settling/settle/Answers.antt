-- The day is a network in which every arc counts, and what is certified of it is shown of the day.
use Rattle.day.specs.Bills.{reads}
use Rattle.heights.specs.Network.{Circulation}
use Rattle.setoff.specs.Rows.{day_in}
use Rattle.greatest.specs.Climbing.{Climbed}
use Rattle.greatest.specs.Settling.{Settles}
use Rattle.greatest.proofs.Counted.{circulation}
use Rattle.greatest.proofs.OfDay.{by_day}
use Rattle.greatest.proofs.Settled.{settles}
use Rattle.greatest.proofs.settling.settle.Goals as goal

pub climb_in_scales-requires-clause-even : goal.climb_in_scales-requires-clause-even
climb_in_scales-requires-clause-even c =
    let i = c.args.invoices in
    let s = reads c.args.struck.now in
    by_day i c.from.result c.from.ensures (λ N. Circulation N s) (λ tails heads. circulation (day_in i) tails heads s c.requires.set)

pub returns-clause-settled : goal.returns-clause-settled
returns-clause-settled c =
    let i = c.args.invoices in
    let before = c.args.struck.now in
    let after = c.climb_in_scales.new.flow in
    let height = c.write_heights.new.height in
    let w = c.climb_in_scales.new.scratch in
    by_day i c.from.result c.from.ensures (λ N. Climbed N 1 before after w → Settles (day_in i) before after height c.total.result)
    (λ tails heads climbed. settles (day_in i) tails heads before after height w c.total.result climbed c.write_heights.ensures c.total.ensures)
    c.climb_in_scales.ensures.climbed
