-- What is printed of a row that does not fit. Assumes nothing.
use Rattle.std.specs.Prelude.{ℕ, List, ◌++◌, codes, decimal}
use Rattle.setoff.specs.declared.misfits.Misfit.{Misfit}
use Rattle.setoff.specs.declared.misfits.Misfit.TheVariants.{Length, Above}

-- as "the row has 2 numbers, and not one for each limit", or "number 1 of the row is above its limit"
abbrev pub misfit_text : Misfit → List ℕ
misfit_text (Length l) = codes "the row has " ++ (decimal l ++ codes " numbers, and not one for each limit")
misfit_text (Above e) = codes "number " ++ (decimal e ++ codes " of the row is above its limit")
