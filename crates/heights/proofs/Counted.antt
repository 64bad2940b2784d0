-- One invoice by heights, what it counts for and whether they fit there; and what is told of all of them. Assumes nothing.
use Rattle.std.proofs.Common.{◌≡◌, ℕ, ◌+◌, ◌-◌, ◌*◌, ◌^◌, ◌<◌, ◌≤◌, Bool, true, List, length, map, sum, Decides, sym, arith}
use Rattle.std.specs.List.{range_with_len}
use Rattle.std.proofs.lemmas.Nat.{mul-le}
use Rattle.day.specs.Bills.{Day, reads, SetOff, Greatest, bound}
use Rattle.setoff.specs.declared.invoices.Invoices.{Invoices}
use Rattle.setoff.specs.Rows.{day_in}
use Rattle.setoff.proofs.Spans.{span_bound}
use Rattle.heights.specs.Rows.{Low}
use Rattle.heights.specs.Promise.{Fits, HeightsBound, MeetsIsGreatest, Slackness, NoRingLeft}
use Rattle.heights.specs.Told.{counted, Bounds, FitsAt, Judges}
use Rattle.heights.proofs.Ranges.{span_range}
use Rattle.heights.proofs.Days.{heights_bound, meets_is_greatest, slackness, no_ring_left}

-- at most 10^12 cents count, 513 times
pub counted_small :
    (i : Invoices) (heights : List ℕ) → Low i.firms heights → (e : ℕ) → e < length i.from.now → counted (day_in i) (reads heights) e ≤ 513 * 10 ^ 12
counted_small i heights low e there =
    let d = day_in i in
    let h = reads heights in
    let times = low.low (d.from e) (d.from_there e there) in
    omega (
      arith,
      mul-le (d.amount e) ((h (d.from e) + 1) - h (d.to e)) (10 ^ 12) 513 (i.sound.sound.few_cents e there) (omega (arith, times, i.sound.sound.few_firms)),
    )

-- the sum of what all invoices count for is the bound; at most 4,096 of them, they stay below 2^63
pub bounds :
    (i : Invoices) (heights : List ℕ) → Low i.firms heights →
    Bounds (day_in i) (reads heights) (sum (map (counted (day_in i) (reads heights)) (range_with_len 0 (length i.from.now))))
unfolding bound HeightsBound
bounds i heights low =
    let d = day_in i in
    let h = reads heights in
    let is = span_range (counted d h) d.invoices in
    let small = span_bound (counted d h) (513 * 10 ^ 12) d.invoices (counted_small i heights low) in
    record {
      sum = sym is;
      above = λ s set. omega (arith, is, heights_bound d s h set);
      small = omega (arith, is, small, i.sound.sound.few_invoices);
    }

-- heights that fit at each invoice fit, and what that says of a set-off is complementary slackness
pub judges :
    (d : Day) (s h : ℕ → ℕ) (answer : Bool) → Decides answer ((e : ℕ) → e < d.invoices → FitsAt d s h e) → Judges d s h answer
unfolding MeetsIsGreatest Slackness NoRingLeft
judges d s h answer each =
    let fits : Decides answer (Fits d s h) = (
      λ t. record { left = λ e l. (each.0 t e l).0; struck = λ e l. (each.0 t e l).1 },
      λ fitting. each.1 (λ e l. (fitting.left e l, fitting.struck e l)),
    ) in
    let greatest : answer ≡ true → SetOff d s → Greatest d s = λ t set. meets_is_greatest d s h set ((slackness d s h set).1 (fits.0 t)) in
    record {
      fits = fits;
      meets = λ set. (λ t. (slackness d s h set).1 (fits.0 t), λ meeting. fits.1 ((slackness d s h set).0 meeting));
      greatest = greatest;
      no_ring = λ t set v ring. no_ring_left d s v (greatest t set) ring;
    }
