-- The words of the clearing day: sums, firms, and the invoices between them. Assumes nothing: these are definitions.
use Rattle.std.specs.Prelude.{◌≡◌, ℕ, zero, suc, ◌+◌, ◌-◌, ◌*◌, ◌^◌, ◌<◌, ◌≤◌, Bool, true, false, ◌≢◌, List, ◌==◌, slice_index}

abbrev pub pick : {A : Type 0} → Bool → A → A → A
pick true a b = a
pick false a b = b

-- f 0 + f 1 + .. , of so many numbers
unfoldable pub span : (ℕ → ℕ) → ℕ → ℕ
span f zero = 0
span f (suc n) = f n + span f n

-- so many firms and invoices; invoice e is owed by one firm to another
pub record Day : Type 0 where
  pub firms : ℕ
  pub invoices : ℕ
  pub from : ℕ → ℕ
  pub to : ℕ → ℕ
  pub amount : ℕ → ℕ
  pub from_there : (e : ℕ) → e < invoices → from e < firms
  pub to_there : (e : ℕ) → e < invoices → to e < firms

-- the limits of a clearing day: k invoices between n firms, by who owes, who is owed and the cents of each
pub record Sound (n k : ℕ) (from to amount : ℕ → ℕ) : Type 0 where
  pub some_firm : 1 ≤ n
  pub few_firms : n ≤ 512
  pub few_invoices : k ≤ 4096
  pub from_there : (e : ℕ) → e < k → from e < n
  pub to_there : (e : ℕ) → e < k → to e < n
  pub two_firms : (e : ℕ) → e < k → from e ≢ to e
  pub some_cents : (e : ℕ) → e < k → 1 ≤ amount e
  pub few_cents : (e : ℕ) → e < k → amount e ≤ 10 ^ 12

-- what is sound is a day
abbrev pub day_of : (n k : ℕ) (from to amount : ℕ → ℕ) → Sound n k from to amount → Day
day_of n k from to amount s =
    record { firms = n; invoices = k; from = from; to = to; amount = amount; from_there = s.from_there; to_there = s.to_there }

-- a row of numbers, as a function of the place
abbrev pub reads : List ℕ → ℕ → ℕ
reads xs e = slice_index xs e

-- what firm v is let off, on the invoices that it owes, and what it lets others off, on those that are owed to it
unfoldable pub let_off : Day → (ℕ → ℕ) → ℕ → ℕ
let_off d s v = span (λ e. pick (d.from e == v) (s e) 0) d.invoices

unfoldable pub lets_off : Day → (ℕ → ℕ) → ℕ → ℕ
lets_off d s v = span (λ e. pick (d.to e == v) (s e) 0) d.invoices

-- a set-off takes from each invoice no more than it is, and leaves each firm as much better off as worse
pub record SetOff (d : Day) (s : ℕ → ℕ) : Type 0 where
  pub within : (e : ℕ) → e < d.invoices → s e ≤ d.amount e
  pub even : (v : ℕ) → v < d.firms → let_off d s v ≡ lets_off d s v

-- what is struck out in all
abbrev pub total : Day → (ℕ → ℕ) → ℕ
total d s = span s d.invoices

-- no set-off whatever has a larger total
pub record Greatest (d : Day) (s : ℕ → ℕ) : Type 0 where
  pub is : SetOff d s
  pub most : (q : ℕ → ℕ) → SetOff d q → total d q ≤ total d s

-- the bound of heights: an invoice counts as many times as the height of who owes it, and one, are above the height of who is owed
unfoldable pub bound : Day → (ℕ → ℕ) → ℕ
bound d h = span (λ e. d.amount e * ((h (d.from e) + 1) - h (d.to e))) d.invoices

-- a way from firm to firm along invoices, each with something left; a ring where it ends at its first firm
pub data Ring (d : Day) (left : ℕ → ℕ) : ℕ → ℕ → Type 0 where
  one : (e : ℕ) → e < d.invoices → 0 < left e → Ring d left (d.from e) (d.to e)
  more : {v : ℕ} (e : ℕ) → Ring d left v (d.from e) → e < d.invoices → 0 < left e → Ring d left v (d.to e)
