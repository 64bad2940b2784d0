-- The places that were passed are written, and the others are as they were.
use Rattle.std.proofs.Common.{◌≡◌}
use Rattle.day.proofs.Rows.{partly}
use Rattle.day.proofs.reader.fill.Given as goal

abbrev pub invariant-loop-e : goal.invariant-loop-e
invariant-loop-e l =
    (l.from ≡ partly (λ i. i.from) l.records l.e l.initial.from)
    × (l.to ≡ partly (λ i. i.to) l.records l.e l.initial.to)
    × (l.amount ≡ partly (λ i. i.amount) l.records l.e l.initial.amount)
