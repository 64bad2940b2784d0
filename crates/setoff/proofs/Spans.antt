-- Laws of sums over places, and how a sum by firms is one over invoices. Assumes nothing.
use Rattle.std.proofs.Common.{◌≡◌, ℕ, zero, suc, ◌+◌, ◌*◌, ◌<◌, ◌≤◌, true, false, eqb, ◌≢◌, List, [], ◌∷◌, length, sum, sym, refl, ap, ◌∙◌, inl, inr, arith}
use Rattle.std.proofs.lemmas.Bool.{eq-eqb, ne_eqb, cases_eq}
use Rattle.std.proofs.lemmas.List.Sums.{sum_by-cons}
use Rattle.day.specs.Bills.{pick, span, reads}

-- a choice by whether two numbers are equal
pub pick_same : {A : Type 0} (a b : ℕ) (x y : A) → a ≡ b → pick (eqb a b) x y ≡ x
pick_same a b x y e = rw (eq-eqb a b e)

pub pick_other : {A : Type 0} (a b : ℕ) (x y : A) → a ≢ b → pick (eqb a b) x y ≡ y
pick_other a b x y ne = rw (ne_eqb a b ne)

pub span-zero : (f : ℕ → ℕ) → span f 0 ≡ 0
unfolding span
span-zero f = refl

-- a loop's step
pub span_more : (f : ℕ → ℕ) (k : ℕ) → span f (k + 1) ≡ f k + span f k
unfolding span
span_more f k = let e : k + 1 ≡ suc k = omega arith in rw e

pub span-le : (f g : ℕ → ℕ) (k : ℕ) → ((e : ℕ) → e < k → f e ≤ g e) → span f k ≤ span g k
unfolding span
span-le f g zero h = omega arith
span-le f g (suc k) h = let ih = span-le f g k (λ e l. h e (omega arith)) in omega (arith, h k (omega arith))

pub span_ext : (f g : ℕ → ℕ) (k : ℕ) → ((e : ℕ) → e < k → f e ≡ g e) → span f k ≡ span g k
unfolding span
span_ext f g zero h = refl
span_ext f g (suc k) h = let ih = span_ext f g k (λ e l. h e (omega arith)) in omega (arith, h k (omega arith))

pub span_none : (f : ℕ → ℕ) (k : ℕ) → ((e : ℕ) → e < k → f e ≡ 0) → span f k ≡ 0
unfolding span
span_none f zero h = refl
span_none f (suc k) h = let ih = span_none f k (λ e l. h e (omega arith)) in omega (arith, h k (omega arith))

pub span-add : (f g : ℕ → ℕ) (k : ℕ) → span (λ e. f e + g e) k ≡ span f k + span g k
unfolding span
span-add f g zero = refl
span-add f g (suc k) = let ih = span-add f g k in omega arith

pub span_bound : (f : ℕ → ℕ) (b k : ℕ) → ((e : ℕ) → e < k → f e ≤ b) → span f k ≤ k * b
unfolding span
span_bound f b zero h = omega arith
span_bound f b (suc k) h = let ih = span_bound f b k (λ e l. h e (omega arith)) in omega (arith, h k (omega arith))

-- each number is at most the sum
pub span_at : (f : ℕ → ℕ) (k e : ℕ) → e < k → f e ≤ span f k
unfolding span
span_at f zero e h = omega arith
span_at f (suc k) e h = elim (cases_eq e k) [ inl same ↦ omega (arith, ap f same) | inr other ↦ let ih = span_at f k e (omega arith) in omega arith ]

-- equal sums of numbers that are nowhere larger are equal everywhere
pub span_tight : (f g : ℕ → ℕ) (k : ℕ) → ((e : ℕ) → e < k → f e ≤ g e) → span f k ≡ span g k → (e : ℕ) → e < k → f e ≡ g e
unfolding span
span_tight f g zero h all e l = omega arith
span_tight f g (suc k) h all e l =
    let below = span-le f g k (λ i m. h i (omega arith)) in
    let here = h k (omega arith) in
    elim (cases_eq e k) [
      | inl same ↦ let a = ap f same in let b = ap g same in omega arith
      | inr other ↦ span_tight f g k (λ i m. h i (omega arith)) (omega arith) e (omega arith)
    ]

-- two rows that differ at one place only
pub span_differ : (f g : ℕ → ℕ) (k i : ℕ) → i < k → ((e : ℕ) → e < k → e ≢ i → f e ≡ g e) → span f k + g i ≡ span g k + f i
unfolding span
span_differ f g zero i l h = omega arith
span_differ f g (suc k) i l h = elim (cases_eq i k) [
  | inl same ↦
      let a = ap f same in
      let b = ap g same in
      let rest = span_ext f g k (λ e m. h e (omega arith) (omega arith)) in
      omega arith
  | inr other ↦
      let here = h k (omega arith) (λ e. other (sym e)) in
      let ih = span_differ f g k i (omega arith) (λ e m ne. h e (omega arith) ne) in
      omega arith
]

-- one number alone
pub span_one : (g : ℕ → ℕ) (p n : ℕ) → p < n → span (λ v. pick (eqb p v) (g v) 0) n ≡ g p
span_one g p n h =
    let rest = span_differ (λ v. pick (eqb p v) (g v) 0) (λ v. 0) n p h (λ e l ne. pick_other p e (g e) 0 (λ same. ne (sym same))) in
    let none = span_none (λ v. 0) n (λ e l. refl) in
    let here = pick_same p p (g p) 0 refl in
    omega arith

-- one place further on
pub span_shift : (f : ℕ → ℕ) (k : ℕ) → span (λ j. f (suc j)) k + f 0 ≡ span f k + f k
unfolding span
span_shift f zero = omega arith
span_shift f (suc k) = let ih = span_shift f k in omega arith

-- a row's sum, place by place, is the list's
pub span_reads : (xs : List ℕ) → span (reads xs) (length xs) ≡ sum xs
unfolding span
span_reads [] = refl
span_reads (x ∷ xs) = omega (arith, span_shift (reads (x ∷ xs)) (length xs), span_reads xs, sum_by-cons (λ y. y) x xs)

-- weighing: to weigh each number by its firm is to weigh each firm's sum
pub weigh : (s h place : ℕ → ℕ) (k n : ℕ) → ((e : ℕ) → e < k → place e < n) →
    span (λ e. s e * h (place e)) k ≡ span (λ v. h v * span (λ e. pick (eqb (place e) v) (s e) 0) k) n
unfolding span
weigh s h place zero n there = sym (span_none (λ v. h v * 0) n (λ e l. omega arith))
weigh s h place (suc k) n there =
    let ih = weigh s h place k n (λ e l. there e (omega arith)) in
    let inner = λ (v : ℕ). span (λ e. pick (eqb (place e) v) (s e) 0) k in
    let split : span (λ v. h v * (pick (eqb (place k) v) (s k) 0 + inner v)) n ≡ span (λ v. h v * pick (eqb (place k) v) (s k) 0) n + span (λ v. h v * inner v) n
    = span_ext (λ v. h v * (pick (eqb (place k) v) (s k) 0 + inner v)) (λ v. h v * pick (eqb (place k) v) (s k) 0 + h v * inner v) n (λ e l. omega arith)
    ∙ span-add (λ v. h v * pick (eqb (place k) v) (s k) 0) (λ v. h v * inner v) n in
    let single : span (λ v. h v * pick (eqb (place k) v) (s k) 0) n ≡ h (place k) * s k
    = span_ext (λ v. h v * pick (eqb (place k) v) (s k) 0) (λ v. pick (eqb (place k) v) (h v * s k) 0) n (λ v l. by_cases (place k) v (h v) (s k))
    ∙ span_one (λ v. h v * s k) (place k) n (there k (omega arith)) in
    omega arith
  where
    by_cases : (a b x y : ℕ) → x * pick (eqb a b) y 0 ≡ pick (eqb a b) (x * y) 0
    by_cases a b x y = elim (eqb a b) as (λ t. x * pick t y 0 ≡ pick t (x * y) 0) [ true ↦ refl | false ↦ omega arith ]
