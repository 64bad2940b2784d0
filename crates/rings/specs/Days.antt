-- A day as a network in lent rows. Assumes nothing: this is a definition.
use Rattle.std.specs.Prelude.{◌≡◌, length}
use Rattle.rings.specs.declared.network.Network.{Network}
use Rattle.setoff.specs.declared.invoices.Invoices.{Invoices}

-- firms are nodes, each invoice is an arc from who owes to who is owed, and all arcs count
pub record OfDay (i : Invoices) (n : Network) : Type 0 where
  pub nodes : n.nodes ≡ i.firms
  pub tail : n.tail.now ≡ i.from.now
  pub head : n.head.now ≡ i.to.now
  pub capacity : n.capacity.now ≡ i.amount.now
  pub counted : n.counted ≡ length i.from.now
