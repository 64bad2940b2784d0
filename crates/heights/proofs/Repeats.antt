-- Pigeonhole: of more than n numbers below n two are equal, and there is a first one that was met before. Assumes nothing.
use Rattle.std.proofs.Common.{◌≡◌, ℕ, zero, suc, ◌<◌, ◌≤◌, true, eqb, ◌≢◌, ◌⊎◌, length, map, get_or, sym, ap, ◌∙◌, inl, inr, arith}
use Rattle.std.specs.List.{range_with_len, list_any, IsDistinct}
use Rattle.std.proofs.lemmas.Bool.{cases_eq, eqb-true, eqb-false, ne_eqb}
use Rattle.std.proofs.lemmas.List.Folds.{Any-from_list_any}
use Rattle.std.proofs.lemmas.List.FromFn.{length-map-range_with_len, get_or-map-range_with_len}
use Rattle.std.proofs.lemmas.Map.Keys.{IsDistinct-from_apart}
use Rattle.std.proofs.lemmas.Map.Steps.{length-le_from_distinct_below}
use Rattle.setoff.proofs.Places.{some_below}

-- the first k numbers differ from one another
abbrev pub ApartBelow : (ℕ → ℕ) → ℕ → Type 0
ApartBelow u k = (i j : ℕ) → i < j → j < k → u i ≢ u j

-- number j was met before, at i, and up to there all differ
pub record Repeat (u : ℕ → ℕ) (k : ℕ) : Type 0 where
  pub first : ℕ
  pub again : ℕ
  pub after : first < again
  pub below : again < k
  pub same : u first ≡ u again
  pub apart : ApartBelow u again

apart_or_repeat : (u : ℕ → ℕ) (k : ℕ) → ApartBelow u k ⊎ Repeat u k
apart_or_repeat u zero = inl (λ i j l m. omega arith)
apart_or_repeat u (suc k) = elim (apart_or_repeat u k) [
  | inr r ↦
      inr record { first = r.first; again = r.again; after = r.after; below = omega (arith, r.below); same = r.same; apart = r.apart }
  | inl apart ↦ elim (some_below (λ i. eqb (u i) (u k)) k) [
    | inl (i, there, same) ↦ inr record { first = i; again = k; after = there; below = omega arith; same = eqb-true (u i) (u k) same; apart = apart }
    | inr none ↦ inl
        (λ i j l m. elim (cases_eq j k) [
          | inl at ↦ λ e. eqb-false (u i) (u k) (none i (omega arith)) (e ∙ ap u at)
          | inr before ↦ apart i j l (omega arith)
        ])
  ]
]

-- at most n numbers below n differ
pub few_apart : (u : ℕ → ℕ) (k n : ℕ) → ((j : ℕ) → j < k → u j < n) → ApartBelow u k → k ≤ n
few_apart u k n there apart =
    let xs = map u (range_with_len 0 k) in
    let long : length xs ≡ k = length-map-range_with_len u 0 k in
    let at : (i d : ℕ) → i < k → get_or xs i d ≡ u i = λ i d l. get_or-map-range_with_len u 0 k i i d l (omega arith) in
    let distinct : IsDistinct eqb xs =
    IsDistinct-from_apart eqb xs
    (λ i j d l m.
    let last : j < k = omega arith in
    ne_eqb (get_or xs i d) (get_or xs j d) (λ e. apart i j l last (sym (at i d (omega arith)) ∙ e ∙ at j d last))) in
    let below : (q : ℕ) → list_any (eqb q) xs ≡ true → q < n =
    λ q any.
    let (i, x, l, is, same) = Any-from_list_any (eqb q) xs any in
    omega (arith, eqb-true q x same, is, at i x (omega arith), there i (omega arith)) in
    omega (arith, long, length-le_from_distinct_below xs n distinct below)

pub repeats : (u : ℕ → ℕ) (k n : ℕ) → ((j : ℕ) → j < k → u j < n) → n < k → Repeat u k
repeats u k n there many =
    elim (apart_or_repeat u k) [ inl apart ↦ absurd (let few = few_apart u k n there apart in omega arith) | inr r ↦ r ]
