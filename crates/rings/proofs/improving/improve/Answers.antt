-- What the ring has room for fits, and what is pushed round it gains.
use Rattle.std.proofs.Common.{◌≤◌, subst, length, arith}
use Rattle.day.specs.Bills.{reads}
use Rattle.rings.specs.Improving.{PushedRound}
use Rattle.rings.specs.Rows.{network_in}
use Rattle.rings.proofs.Strikes.{ring_pushable, ring_pushed}
use Rattle.rings.proofs.improving.improve.Goals as goal

pub push-requires : goal.push-requires
push-requires c =
    let found = c.in-Some.ensures.searches in
    let room : c.in-Some.m ≤ length c.search.new.scratch.ring.now = omega (arith, found.0, c.in_ok-check.ensures.rows_each.ring_each, c.in-Some.ensures.same.ring_each) in
    ring_pushable (network_in c.args.network) (reads c.args.flow.now) c.max.result c.in-Some.m c.smallest_room-cents.result c.search.new.scratch.ring.now room found
    c.smallest_room-cents.ensures _ c.in_ok-check.ensures.flow_each (omega (arith, c.max.ensures)) c.args.network.capacity_fits

pub returns-clause-improves : goal.returns-clause-improves
returns-clause-improves c =
    let N = network_in c.args.network in
    let s = reads c.args.flow.now in
    let found = c.in-Some.ensures.searches in
    let room : c.in-Some.m ≤ length c.search.new.scratch.ring.now = omega (arith, found.0, c.in_ok-check.ensures.rows_each.ring_each, c.in-Some.ensures.same.ring_each) in (
      c.in_ok-check.ensures,
      subst (λ least. (least ≤ c.smallest_room-cents.result) × PushedRound N least s (reads c.push.new.flow) c.smallest_room-cents.result) c.max.ensures
          (ring_pushed N s c.max.result c.in-Some.m c.smallest_room-cents.result c.search.new.scratch.ring.now room found c.smallest_room-cents.ensures _ c.push.ensures),
    )
