-- The rows have a place for each invoice.
use Rattle.std.proofs.Common.{◌≡◌, ◌+◌, subst, rules, arith}
use Rattle.day.specs.declared.refusals.Refusal.TheVariants.{Memory}
use Rattle.day.specs.Promise.{First}
use Rattle.day.specs.Reading.{refusal_in, answered, size_in}
use Rattle.clear.proofs.Ample.{never_short, room_ample}
use Rattle.clear.proofs.judge.Goals as goal

pub returns : goal.returns
returns c =
    let b = c.args.file.now in
    let same =
    room_ample b (record { invoices = c.whole_invoices-invoices.result; numbers = c.from-firms.result; rings = c.from-firms.result + 2 })
    c.deref_mut.result.now c.deref_mut-2.result.now c.deref_mut-3.result.now
    (search rules) (search rules) (omega arith) (search rules) (search rules) (search rules) in
    record {
      answer = subst (λ room. c.read.result ≡ answered (refusal_in room b) (size_in b)) same c.read.ensures.answer;
      enough = λ k e. never_short b k (subst (λ room. First room b (Memory k)) same ((c.read.ensures.refused.exactly (Memory k)).0 e));
    }
