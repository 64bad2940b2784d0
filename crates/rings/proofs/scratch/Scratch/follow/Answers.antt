-- One last step more; after as many as there are nodes, the node lies on a ring.
use Rattle.std.proofs.Common.{◌≡◌, subst, arith}
use Rattle.day.specs.Bills.{reads}
use Rattle.rings.specs.Chains.{tail_of}
use Rattle.rings.specs.Rows.{network_in}
use Rattle.rings.specs.Ways.{step_in}
use Rattle.rings.proofs.Following.{Leading, leads_more, leads_on}
use Rattle.rings.proofs.scratch.Scratch.follow.Goals as goal

pub steps-preserved : goal.steps-preserved
steps-preserved c =
    record {
      there = c.tail_of-at.ensures.there;
      so_far = leads_more c.args.network.nodes (tail_of (network_in c.args.network)) (reads c.args.self.now.last.now) c.args.from c.steps.counter c.steps.at
          (step_in c.in_ok-last_step.field-0) c.tail_of-at.result c.steps.invariant.so_far c.in_ok-last_step.ensures c.tail_of-at.ensures.node c.tail_of-at.ensures.there;
    }

pub collect-requires-clause-returns : goal.collect-requires-clause-returns
collect-requires-clause-returns c =
    let n = c.args.network.nodes in
    let tail = tail_of (network_in c.args.network) in
    let last = reads c.args.self.now.last.now in
    let all : c.steps.counter ≡ n = omega arith in
    leads_on n tail last c.args.from c.steps.at (subst (λ j. Leading n tail last c.args.from j c.steps.at) all c.steps.invariant.so_far)
