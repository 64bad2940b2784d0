-- With ample memory no day is refused for want of it. Assumes nothing.
use Rattle.std.proofs.Common.{◌≡◌, ℕ, ◌<◌, List, length, inl, inr, arith}
use Rattle.day.specs.declared.refusals.Kind.{Kind}
use Rattle.day.specs.declared.refusals.Kind.TheVariants.{Invoices, Numbers, Rings}
use Rattle.day.specs.declared.refusals.Refusal.TheVariants.{Firms, Memory}
use Rattle.day.specs.declared.sizes.Room.{Room}
use Rattle.day.specs.File.{firms_in, whole}
use Rattle.day.specs.Reading.{room_with}
use Rattle.day.specs.Promise.{First}
use Rattle.clear.specs.Lent.{ample}

-- too many firms are refused before
few : (b : List ℕ) (k : Kind) → First (ample b) b (Memory k) → 512 < firms_in b → ⊥
few b k first many = first.none_before Firms (inl (omega arith)) (inr (inr many))

pub never_short : (b : List ℕ) (k : Kind) → First (ample b) b (Memory k) → ⊥
never_short b Invoices first = let short = first.broken in omega arith
never_short b Numbers first = few b Numbers first first.broken
never_short b Rings first = few b Rings first (let short = first.broken in omega arith)

-- rows with a place for each invoice, and room for the most firms
pub room_ample : (b : List ℕ) (room : Room) (from to amount : List ℕ) → room.invoices ≡ whole b → room.numbers ≡ 512 → room.rings ≡ 514 →
    length from ≡ whole b → length to ≡ whole b → length amount ≡ whole b → room_with room from to amount ≡ ample b
room_ample b room from to amount all numbers rings f t a =
    let same : (room_with room from to amount).invoices ≡ whole b = omega arith in
    λ i. record { invoices = same i; numbers = numbers i; rings = rings i }
