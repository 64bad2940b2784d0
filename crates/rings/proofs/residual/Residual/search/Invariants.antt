-- What holds between two rounds, and inside a round between two arcs.
use Rattle.std.proofs.Common.{◌≡◌, None}
use Rattle.rings.specs.Residual.{residual_in}
use Rattle.rings.specs.Scratch.{SameRows}
use Rattle.rings.proofs.Sweeps.{Swept, Sweeping}
use Rattle.rings.proofs.residual.Residual.search.Given as goal

abbrev pub invariant-rounds : goal.invariant-rounds
invariant-rounds l =
    record {
      swept : Swept (residual_in l.self) l.counter l.scratch;
      none : l.found ≡ None;
      same : SameRows l.fn.scratch l.scratch;
    }

abbrev pub invariant-arcs : goal.invariant-arcs
invariant-arcs l =
    record {
      sweeping : Sweeping (residual_in l.self) l.counter l.e l.scratch l.raised;
      none : l.found ≡ None;
      same : SameRows l.fn.scratch l.scratch;
    }
