-- What is printed of a day: a refusal's line, and how large the day is. Assumes nothing.
use Rattle.std.specs.Prelude.{ℕ, List, ◌++◌, codes, decimal}
use Rattle.day.specs.declared.refusals.Refusal.{Refusal}
use Rattle.day.specs.declared.sizes.Size.{Size}
use Rattle.day.specs.Rules.{number_of, place_of}

-- as "refused 4 at 2"
abbrev pub refusal_text : Refusal → List ℕ
refusal_text r = codes "refused " ++ (decimal (number_of r) ++ (codes " at " ++ decimal (place_of r)))

-- as "300 firms, 2000 invoices"
abbrev pub size_text : Size → List ℕ
size_text s = decimal s.firms ++ (codes " firms, " ++ (decimal s.invoices ++ codes " invoices"))
