-- A step more is written down.
use Rattle.std.proofs.Common.{suc, sym, ap, ◌∙◌, arith, rules}
use Rattle.day.specs.Bills.{reads}
use Rattle.rings.specs.Chains.{tail_of}
use Rattle.rings.specs.Rows.{network_in}
use Rattle.rings.proofs.Collecting.{collects_more}
use Rattle.rings.proofs.scratch.Scratch.collect.Goals as goal

pub ring-preserved : goal.ring-preserved
ring-preserved c =
    let tail = tail_of (network_in c.args.network) in
    let last = reads c.args.self.now.last.now in
    let at = c.ring.at in
    let is = ap (λ row. reads row at) (sym c.ring.invariant.kept.last) ∙ c.in-Some.ensures ∙ ap suc (sym c.number.ensures) in
    record {
      there = c.tail_of-at.ensures.there;
      so_far = collects_more tail last c.args.start c.ring.m at c.ring.self.ring.now c.ring.invariant.so_far _ c.requires.returns
          (omega arith) c.number.result c.tail_of-at.result is (c.tail_of-at.ensures.node ∙ ap tail (sym c.number.ensures)) c.if-at-start.false;
      kept = search rules;
    }
