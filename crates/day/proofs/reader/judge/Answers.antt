-- What is refused is the first refusal, and what is taken can be written.
use Rattle.std.proofs.Common.{rules}
use Rattle.day.specs.Reading.{size_in}
use Rattle.day.proofs.Refused.{refuses}
use Rattle.day.proofs.Taken.{writable}
use Rattle.day.proofs.reader.judge.Goals as goal

pub returns-clause-refused : goal.returns-clause-refused
returns-clause-refused c = refuses _ _ (size_in c.args.file.now) _ (search rules)

pub returns-clause-taken : goal.returns-clause-taken
returns-clause-taken c = writable c.args.room c.args.file.now c.args.from.now c.args.to.now c.args.amount.now _ (search rules)
