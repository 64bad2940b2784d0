-- A residual graph is lawful: what a step gains is small, and its nodes are there. Assumes nothing.
use Rattle.std.proofs.Common.{◌≡◌, ℕ, ◌+◌, ◌*◌, ◌/◌, ◌%◌, ◌<◌, ◌≤◌, Bool, true, false, refl, arith}
use Rattle.std.proofs.lemmas.Bool.{eq-eqb, ne_eqb}
use Rattle.day.specs.Bills.{pick, reads}
use Rattle.heights.specs.Network.{Network}
use Rattle.heights.specs.Residual.{along, residual}
use Rattle.heights.proofs.Existence.{tails_there}
use Rattle.rings.specs.Residual.{residual_in}
use Rattle.rings.specs.Rows.{network_in}
use Rattle.rings.specs.declared.residual.Residual.{Residual}
use Rattle.rings.proofs.Rounds.{Opposite, Lawful}

-- both nodes of an arc are there, either way
there : (N : Network) (b : Bool) (e : ℕ) → e < N.arcs → pick b (N.head e) (N.tail e) < N.nodes
there N true e l = N.head_there e l
there N false e l = N.tail_there e l

-- a cent gains one or none
up : (b counts : Bool) → pick b (pick counts 1 0) 0 ≤ 1
up true true = omega arith
up true false = omega arith
up false counts = omega arith

down : (b counts : Bool) → pick b 0 (pick counts 1 0) ≤ 1
down true counts = omega arith
down false true = omega arith
down false false = omega arith

-- step 2e + 1 is step 2e the other way round
pub opposite : (N : Network) (s : ℕ → ℕ) (least e : ℕ) → Opposite (residual N s least) (2 * e) (2 * e + 1)
opposite N s least e =
    let forth : along (2 * e) ≡ true = eq-eqb ((2 * e) % 2) 0 (omega arith) in
    let back : along (2 * e + 1) ≡ false = ne_eqb ((2 * e + 1) % 2) 0 (omega arith) in
    let arc : (2 * e) / 2 ≡ e = omega arith in
    let arc' : (2 * e + 1) / 2 ≡ e = omega arith in
    record { tail = rw (forth, back, arc, arc') refl; head = rw (forth, back, arc, arc') refl; up = rw (forth, back) refl; down = rw (forth, back, arc, arc') refl }

pub lawful : (r : Residual) → Lawful (residual_in r)
lawful r =
    let N = network_in r.network in
    record {
      tails = λ f l. tails_there N (reads r.flow.now) f l;
      heads = λ f l. there N (along f) (f / 2) (omega arith);
      turn = opposite N (reads r.flow.now) r.least;
      small = λ f. up (along f) (N.counts (f / 2));
      small_down = λ f. down (along f) (N.counts (f / 2));
    }
