-- The steps that lent rows are. Assumes nothing: this is a definition.
use Rattle.day.specs.Bills.{reads}
use Rattle.heights.specs.Residual.{Steps, residual}
use Rattle.rings.specs.Rows.{network_in}
use Rattle.rings.specs.declared.residual.Residual.{Residual}

abbrev pub residual_in : Residual → Steps
residual_in r = residual (network_in r.network) (reads r.flow.now) r.least
