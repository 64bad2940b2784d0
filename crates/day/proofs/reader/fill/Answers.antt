-- One more place is written in each row.
use Rattle.std.proofs.Common.{◌≡◌, length, arith}
use Rattle.day.proofs.Rows.{wrote, filled}
use Rattle.day.proofs.Taken.{rows_sound}
use Rattle.day.proofs.reader.fill.Goals as goal

pub loop-e-preserved : goal.loop-e-preserved
loop-e-preserved c =
    let rs = c.records-records.result.now in (
      wrote (λ i. i.from) rs c.loop-e.e c.args.from.now _ _ (omega arith) (omega arith) c.from-invoice.ensures c.loop-e.invariant.0,
      wrote (λ i. i.to) rs c.loop-e.e c.args.to.now _ _ (omega arith) (omega arith) c.from-invoice.ensures c.loop-e.invariant.1,
      wrote (λ i. i.amount) rs c.loop-e.e c.args.amount.now _ _ (omega arith) (omega arith) c.from-invoice.ensures c.loop-e.invariant.2,
    )

pub returns : goal.returns
returns c =
    let file = c.args.file.now in
    let is = c.records-records.ensures.invoices in
    let all : c.loop-e.e ≡ length c.records-records.result.now = omega arith in
    let from = filled (λ i. i.from) file _ _ c.args.from.now _ is all c.loop-e.invariant.0 in
    let to = filled (λ i. i.to) file _ _ c.args.to.now _ is all c.loop-e.invariant.1 in
    let amount = filled (λ i. i.amount) file _ _ c.args.amount.now _ is all c.loop-e.invariant.2 in
    record { from = from; to = to; amount = amount; sound = rows_sound file _ _ _ _ _ _ c.requires from to amount }
