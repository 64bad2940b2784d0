-- A set-off keeps each firm's position. Assumes nothing.
use Rattle.std.proofs.Common.{◌≡◌, ℕ, ◌+◌, ◌-◌, ◌<◌, ◌≤◌, ◌≢◌, Bool, true, false, eqb, Option, Some, None, MatchOption, sym, ◌∙◌, arith}
use Rattle.day.specs.Bills.{Day, pick, span, let_off, lets_off, SetOff}
use Rattle.setoff.specs.Promise.{owes, is_owed, left_by, PositionKept}
use Rattle.setoff.specs.Rows.{day_in, cents_in}
use Rattle.setoff.specs.Uneven.{Evenness}
use Rattle.setoff.specs.declared.struck.Struck.{Struck}
use Rattle.setoff.proofs.Spans.{span-add, span_ext}

-- what is left and what is struck out are the whole, by the invoices at a firm
left_and_struck : (d : Day) (s place : ℕ → ℕ) (v : ℕ) → SetOff d s →
    span (λ e. pick (eqb (place e) v) (left_by d s e) 0) d.invoices + span (λ e. pick (eqb (place e) v) (s e) 0) d.invoices
    ≡ span (λ e. pick (eqb (place e) v) (d.amount e) 0) d.invoices
left_and_struck d s place v set =
    sym (span-add (λ e. pick (eqb (place e) v) (left_by d s e) 0) (λ e. pick (eqb (place e) v) (s e) 0) d.invoices)
    ∙ span_ext (λ e. pick (eqb (place e) v) (left_by d s e) 0 + pick (eqb (place e) v) (s e) 0) (λ e. pick (eqb (place e) v) (d.amount e) 0) d.invoices
    (λ e l. by (eqb (place e) v) (d.amount e) (s e) (set.within e l))
  where
    by : (b : Bool) (a x : ℕ) → x ≤ a → pick b (a - x) 0 + pick b x 0 ≡ pick b a 0
    by true a x h = omega arith
    by false a x h = omega arith

pub position_kept : PositionKept
unfolding PositionKept owes is_owed let_off lets_off
position_kept d s v set there =
    let p = left_and_struck d s d.from v set in
    let q = left_and_struck d s d.to v set in
    let even = set.even v there in
    omega arith

-- firm v, if it is there, is even, or is not
abbrev pub Even : Struck → ℕ → Type 0
Even s v = v < s.invoices.firms → let_off (day_in s.invoices) (cents_in s) v ≡ lets_off (day_in s.invoices) (cents_in s) v

abbrev pub Uneven : Struck → ℕ → Type 0
Uneven s v = v < s.invoices.firms → let_off (day_in s.invoices) (cents_in s) v ≢ lets_off (day_in s.invoices) (cents_in s) v

-- where a search through the firms finds none that is uneven, the cents are a set-off, and so each position is kept
pub first_evenness : (s : Struck) (r : Option ℕ) →
    MatchOption r ((v : ℕ) → 0 ≤ v → v < s.invoices.firms → Even s v) (λ v. (0 ≤ v) × (v < s.invoices.firms) × Uneven s v × ((u : ℕ) → 0 ≤ u → u < v → Even s u)) →
    Evenness (day_in s.invoices) (cents_in s) r
unfolding PositionKept
first_evenness s None even =
    let set : SetOff (day_in s.invoices) (cents_in s) = record { within = s.within; even = λ v there. even v (omega arith) there there } in
    record { set_off = set; kept = λ v there. position_kept (day_in s.invoices) (cents_in s) v set there }
first_evenness s (Some v) found = (found.1, found.2 found.1, λ u l. found.3 u (omega arith) l (omega (arith, found.1)))
