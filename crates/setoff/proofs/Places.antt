-- Looking through the first places for one that passes a test. Assumes nothing.
use Rattle.std.proofs.Common.{◌≡◌, ℕ, zero, suc, ◌<◌, Bool, true, false, ◌⊎◌, ap, ◌∙◌, inl, inr, arith}
use Rattle.std.proofs.lemmas.Bool.{cases_eq, cases_Bool}

pub some_below : (test : ℕ → Bool) (k : ℕ) → ((i : ℕ) × (i < k) × (test i ≡ true)) ⊎ ((i : ℕ) → i < k → test i ≡ false)
some_below test zero = inr (λ i l. absurd (omega arith))
some_below test (suc k) = elim (some_below test k) [
  | inl found ↦ inl (found.0, omega (arith, found.1), found.2)
  | inr none ↦ elim (cases_Bool (test k)) [
    | inl passes ↦ inl (k, omega arith, passes)
    | inr fails ↦ inr (λ i l. elim (cases_eq i k) [ inl last ↦ ap test last ∙ fails | inr before ↦ none i (omega arith) ])
  ]
]
