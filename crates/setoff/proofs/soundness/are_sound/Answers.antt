-- Where all invoices are sound, the rows are, and the other way round.
use Rattle.std.proofs.Common.{rules}
use borrow.Author.Tests.{tests}
use Rattle.setoff.proofs.soundness.are_sound.Goals as goal

pub returns-then-fits_limits : goal.returns-then-fits_limits
returns-then-fits_limits c = (λ yes. search (rules, tests), λ rows. search (rules, tests))
