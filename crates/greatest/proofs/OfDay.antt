-- What holds of the network in which every invoice of a day counts, holds of lent rows that are the day's. Assumes nothing.
use Rattle.std.proofs.Common.{ℕ, ◌<◌, List, length, ltb, sym, subst}
use Rattle.day.specs.Bills.{reads}
use Rattle.heights.specs.Network.{Network as Graph}
use Rattle.rings.specs.Days.{OfDay}
use Rattle.rings.specs.Rows.{network_in}
use Rattle.rings.specs.declared.network.Network.{Network}
use Rattle.setoff.specs.declared.invoices.Invoices.{Invoices}

-- of a network in rows, whatever shows that its nodes are there
abbrev pub Holds : (Graph → Type 0) → (nodes : ℕ) → (tail head capacity : List ℕ) → (counts : ℕ) → Type 0
Holds P nodes tail head capacity counts =
    (tails : (e : ℕ) → e < length tail → reads tail e < nodes) → (heads : (e : ℕ) → e < length tail → reads head e < nodes) →
    P (record {
      nodes = nodes;
      arcs = length tail;
      tail = reads tail;
      head = reads head;
      capacity = reads capacity;
      counts = λ e. ltb e counts;
      tail_there = tails;
      head_there = heads;
    })

pub by_day : (i : Invoices) (n : Network) → OfDay i n → (P : Graph → Type 0) → Holds P i.firms i.from.now i.to.now i.amount.now (length i.from.now) →
    P (network_in n)
by_day i n is P holds =
    let counts = subst (λ c. Holds P i.firms i.from.now i.to.now i.amount.now c) (sym is.counted) holds in
    let capacity = subst (λ row. Holds P i.firms i.from.now i.to.now row n.counted) (sym is.capacity) counts in
    let head = subst (λ row. Holds P i.firms i.from.now row n.capacity.now n.counted) (sym is.head) capacity in
    let tail = subst (λ row. Holds P i.firms row n.head.now n.capacity.now n.counted) (sym is.tail) head in
    let nodes = subst (λ k. Holds P k n.tail.now n.head.now n.capacity.now n.counted) (sym is.nodes) tail in
    nodes n.tail_there n.head_there
