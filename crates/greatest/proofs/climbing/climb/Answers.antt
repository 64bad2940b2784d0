-- Each ring gains a cent at least, and there are no more to gain than all capacities.
use Rattle.std.proofs.Common.{max, inr, arith, rules}
use Rattle.day.specs.Bills.{reads}
use Rattle.heights.specs.Network.{gain}
use Rattle.heights.proofs.Existence.{gain-le}
use Rattle.rings.specs.Rows.{network_in}
use Rattle.greatest.proofs.Gains.{gains_on, ring_gains_more}
use Rattle.greatest.proofs.climbing.climb.Goals as goal

pub rings-preserved : goal.rings-preserved
rings-preserved c =
    let N = network_in c.args.network in
    let flow' = c.improve.new.flow in
    let ring = c.in-Ok-Some in
    let (even, more)
    = ring_gains_more N (max c.args.least 1) c.rings.flow flow' c.improve.new.scratch ring.field-0 ring.field-0-0 (omega arith) ring.field-0-is
    c.rings.invariant.even ring.ensures.improves.1 in
    record {
      rows = search rules;
      even = even;
      more = gains_on (gain N) c.args.flow.now c.rings.flow flow' c.rings.invariant.more (inr more);
      same = search rules;
    }

pub rings-smaller : goal.rings-smaller
rings-smaller c =
    let N = network_in c.args.network in
    let flow' = c.improve.new.flow in
    let ring = c.in-Ok-Some in
    let (even, more)
    = ring_gains_more N (max c.args.least 1) c.rings.flow flow' c.improve.new.scratch ring.field-0 ring.field-0-0 (omega arith) ring.field-0-is
    c.rings.invariant.even ring.ensures.improves.1 in
    omega (arith, gain-le N (reads flow') even)
