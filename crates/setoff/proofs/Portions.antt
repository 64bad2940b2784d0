-- A firm's share, invoice by invoice, and that the sums of what is struck out fit 64 bits. Assumes nothing.
use Rattle.std.proofs.Common.{◌≡◌, ℕ, ◌+◌, ◌*◌, ◌^◌, ◌<◌, ◌≤◌, Bool, true, false, eqb, ◌≢◌, length, arith}
use Rattle.day.specs.Bills.{pick, span, reads}
use Rattle.setoff.specs.declared.struck.Struck.{Struck}
use Rattle.setoff.proofs.Spans.{pick_same, pick_other, span-zero, span_more, span_bound}

-- of the first k invoices, what is struck out of those at which firm v stands
abbrev pub share : (firm cents : ℕ → ℕ) (v k : ℕ) → ℕ
share firm cents v k = span (λ e. pick (eqb (firm e) v) (cents e) 0) k

module _ (firm cents : ℕ → ℕ) (v : ℕ) where
  pub share_none : share firm cents v 0 ≡ 0
  share_none = span-zero (λ e. pick (eqb (firm e) v) (cents e) 0)

  share_more : (k : ℕ) → share firm cents v (k + 1) ≡ pick (eqb (firm k) v) (cents k) 0 + share firm cents v k
  share_more k = span_more (λ e. pick (eqb (firm e) v) (cents e) 0) k

  -- one invoice more, at which the firm stands, or another
  pub share_same : (k : ℕ) → firm k ≡ v → share firm cents v (k + 1) ≡ share firm cents v k + cents k
  share_same k same = let here = pick_same (firm k) v (cents k) 0 same in omega (arith, share_more k)

  pub share_other : (k : ℕ) → firm k ≢ v → share firm cents v (k + 1) ≡ share firm cents v k
  share_other k other = let none = pick_other (firm k) v (cents k) 0 other in omega (arith, share_more k)

  share_bound : (b k : ℕ) → ((e : ℕ) → e < k → cents e ≤ b) → share firm cents v k ≤ k * b
  share_bound b k few = span_bound (λ e. pick (eqb (firm e) v) (cents e) 0) b k (λ e h. at_most (eqb (firm e) v) (cents e) (few e h))
    where
      at_most : (t : Bool) (x : ℕ) → x ≤ b → pick t x 0 ≤ b
      at_most true x h = h
      at_most false x h = omega arith

-- at most 10^12 cents are struck out of each of at most 4,096 invoices, so that no sum is too large
module _ (s : Struck) where
  few_struck : (e : ℕ) → e < length s.cents.now → reads s.cents.now e ≤ 10 ^ 12
  few_struck e h =
      let there : e < length s.invoices.from.now = omega (arith, s.cents_each) in
      omega (arith, s.within e there, s.invoices.sound.sound.few_cents e there)

  pub share_fits : (firm : ℕ → ℕ) (v k : ℕ) → k ≤ length s.cents.now → share firm (reads s.cents.now) v k < 2 ^ 64
  share_fits firm v k h =
      omega (arith, share_bound firm (reads s.cents.now) v (10 ^ 12) k (λ e l. few_struck e (omega arith)), s.cents_each, s.invoices.sound.sound.few_invoices)

  -- also with one invoice more, at whichever firm
  pub more_fits : (firm : ℕ → ℕ) (v k : ℕ) → k < length s.cents.now → share firm (reads s.cents.now) v k + reads s.cents.now k < 2 ^ 64
  more_fits firm v k h =
      omega (arith, share_bound firm (reads s.cents.now) v (10 ^ 12) k (λ e l. few_struck e (omega arith)), few_struck k h, s.cents_each, s.invoices.sound.sound.few_invoices)
