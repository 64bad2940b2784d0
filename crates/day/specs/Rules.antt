-- The rules that turn a day away, and the number and the place that are told of each refusal. Assumes nothing.
use Rattle.std.specs.Prelude.{ℕ, ◌^◌, Bool, ◌||◌, ◌==◌, nat_le, nat_lt}
use Rattle.day.specs.declared.invoices.Invoice.{Invoice}
use Rattle.day.specs.declared.invoices.Rule.{Rule}
use Rattle.day.specs.declared.invoices.Rule.TheVariants.{FirmsThere, TwoFirms, AmountInRange}
use Rattle.day.specs.declared.refusals.Kind.{Kind}
use Rattle.day.specs.declared.refusals.Kind.TheVariants.{Invoices, Numbers, Rings}
use Rattle.day.specs.declared.refusals.Refusal.{Refusal}
use Rattle.day.specs.declared.refusals.Refusal.TheVariants.{Firms, Length, NoFirm, ToItself, Amount, Memory}

-- whether an invoice breaks a rule on a day of n firms
abbrev pub breaks : Rule → ℕ → Invoice → Bool
breaks FirmsThere n i = nat_le n i.from || nat_le n i.to
breaks TwoFirms n i = i.from == i.to
breaks AmountInRange n i = i.amount == 0 || nat_lt (10 ^ 12) i.amount

-- the refusal of a day whose invoice e breaks a rule
abbrev pub refusal_by : Rule → ℕ → Refusal
refusal_by FirmsThere e = NoFirm e
refusal_by TwoFirms e = ToItself e
refusal_by AmountInRange e = Amount e

-- the number that is told of a refusal
abbrev pub number_of : Refusal → ℕ
number_of Firms = 1
number_of (Length p) = 2
number_of (NoFirm e) = 3
number_of (ToItself e) = 4
number_of (Amount e) = 5
number_of (Memory k) = 9

-- and the place: 0, the file's length, an invoice, or a kind of lent memory
abbrev pub kind_of : Kind → ℕ
kind_of Invoices = 0
kind_of Numbers = 1
kind_of Rings = 2

abbrev pub place_of : Refusal → ℕ
place_of Firms = 0
place_of (Length p) = p
place_of (NoFirm e) = e
place_of (ToItself e) = e
place_of (Amount e) = e
place_of (Memory k) = kind_of k
