-- What is promised of set-offs alone: positions are kept, and what falls apart clears apart. Each is a statement, whose proof is owed.
use Rattle.std.specs.Prelude.{◌≡◌, ℕ, ◌+◌, ◌-◌, ◌<◌, ◌≤◌, Bool, true, false, not, ◌≢◌, ◌==◌}
use Rattle.day.specs.Bills.{Day, pick, span, SetOff, Greatest}

-- what firm v owes in all, and what it is owed, where invoice e is of a e cents
unfoldable pub owes : Day → (ℕ → ℕ) → ℕ → ℕ
owes d a v = span (λ e. pick (d.from e == v) (a e) 0) d.invoices

unfoldable pub is_owed : Day → (ℕ → ℕ) → ℕ → ℕ
is_owed d a v = span (λ e. pick (d.to e == v) (a e) 0) d.invoices

-- what is left of each invoice
abbrev pub left_by : Day → (ℕ → ℕ) → ℕ → ℕ
left_by d s e = d.amount e - s e

-- what firm v owes in all, less what it is owed in all, is what it was
abbrev pub Stays : Day → (ℕ → ℕ) → ℕ → Type 0
Stays d s v = owes d (left_by d s) v + is_owed d d.amount v ≡ owes d d.amount v + is_owed d (left_by d s) v

-- nobody's position changes
unfoldable pub PositionKept : Type 0
PositionKept = (d : Day) (s : ℕ → ℕ) (v : ℕ) → SetOff d s → v < d.firms → Stays d s v

-- two invoices without a firm in common
abbrev pub Strangers : Day → ℕ → ℕ → Type 0
Strangers d e f = (d.from e ≢ d.from f) × (d.from e ≢ d.to f) × (d.to e ≢ d.from f) × (d.to e ≢ d.to f)

-- invoices of two sorts with no firm in common: a greatest set-off is greatest for either sort
unfoldable pub Apart : Type 0
Apart =
    (d : Day) (s : ℕ → ℕ) (sort : ℕ → Bool) → Greatest d s →
    ((e f : ℕ) → e < d.invoices → f < d.invoices → sort e ≡ true → sort f ≡ false → Strangers d e f) →
    (q : ℕ → ℕ) → SetOff d q →
    (span (λ e. pick (sort e) (q e) 0) d.invoices ≤ span (λ e. pick (sort e) (s e) 0) d.invoices)
    × (span (λ e. pick (not (sort e)) (q e) 0) d.invoices ≤ span (λ e. pick (not (sort e)) (s e) 0) d.invoices)
