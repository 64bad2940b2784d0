-- One more invoice is written at each turn, and all of them are read back.
use Rattle.std.proofs.Common.{◌≡◌, ℕ, List, ◌++◌, vec_items, ap, ◌∙◌, subst, arith}
use Rattle.std.specs.List.{AllByRecursion}
use Rattle.std.proofs.ByRecursion.{All-more}
use Rattle.std.proofs.lemmas.List.{take_all}
use Rattle.day.specs.File.{written, Fits}
use Rattle.day.proofs.Rows.{blank}
use Rattle.day.proofs.Written.{written_more, written_brings}
use Rattle.day.proofs.writer.write.Goals as goal

pub loop-invoice-preserved : goal.loop-invoice-preserved
loop-invoice-preserved c =
    let is = c.args.invoices.now in
    let k = c.loop-invoice.invoice-index in
    let added = c.in_ok-extend_from_slice-2.ensures.items ∙ ap (λ (bytes : List ℕ). vec_items c.loop-invoice.file ++ bytes) c.from.ensures.0 in (
      written_more c.args.firms is k _ _ (omega arith) c.loop-invoice.invariant.0 added,
      All-more Fits is k blank (omega arith) c.loop-invoice.invariant.1 c.from.ensures.1,
    )

pub returns-clause-back : goal.returns-clause-back
returns-clause-back c =
    let n = c.args.firms in
    let is = c.args.invoices.now in
    let all = take_all c.loop-invoice.invoice-index is (omega arith) in
    let bytes : vec_items c.loop-invoice.file ≡ written n is = c.loop-invoice.invariant.0 ∙ ap (written n) all in
    rw bytes (written_brings n is (omega arith) (subst (AllByRecursion Fits) all c.loop-invoice.invariant.1))
