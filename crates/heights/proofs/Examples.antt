-- The worked days hold: one test for all of them, which is computed, and what follows from it. Assumes nothing.
use Rattle.std.proofs.Common.{◌≡◌, ℕ, zero, suc, ◌+◌, ◌-◌, ◌*◌, ◌^◌, ◌<◌, ◌≤◌, Bool, true, not, ◌||◌, eqb, ltb, leb, List, [], ◌∷◌, length, get_or, refl, sym, ap, ◌∙◌, inl, inr, arith}
use Rattle.std.specs.List.{list_all, list_any, range_with_len, AllByRecursion}
use Rattle.std.proofs.lemmas.Bool.{eqb-true, eqb-false, ltb-true, leb-true, and_parts, or_cases, not-true}
use Rattle.std.proofs.lemmas.List.Folds.{Any-from_list_any}
use Rattle.std.proofs.lemmas.List.FromFn.{length-range_with_len, get_or-range_with_len}
use Rattle.std.proofs.lemmas.List.Sums.{AllPass-from_list_all}
use Rattle.day.specs.Bills.{Day, Sound, day_of, pick, span, reads, let_off, lets_off, SetOff, total, bound}
use Rattle.day.specs.File.{debtors, creditors, amounts}
use Rattle.heights.specs.Promise.{Fits, Shown, MeetsIsGreatest, Slackness}
use Rattle.heights.specs.Worked.{Worked, Holds, worked, WorkedDays}
use Rattle.heights.proofs.Days.{meets_is_greatest, slackness}

-- a test passed at each of the first k places, and at some one
every : (ℕ → Bool) → ℕ → Bool
every test k = list_all test (range_with_len 0 k)

every_at : (test : ℕ → Bool) (k : ℕ) → every test k ≡ true → (e : ℕ) → e < k → test e ≡ true
unfolding every
every_at test k all e l =
    let here : get_or (range_with_len 0 k) e 0 ≡ e = omega (arith, get_or-range_with_len 0 k e 0 l) in
    ap test (sym here) ∙ AllPass-from_list_all test (range_with_len 0 k) all e 0 (omega (arith, length-range_with_len 0 k))

some : (ℕ → Bool) → ℕ → Bool
some test k = list_any test (range_with_len 0 k)

some_at : (test : ℕ → Bool) (k : ℕ) → some test k ≡ true → (e : ℕ) × (e < k) × (test e ≡ true)
unfolding some
some_at test k found =
    let (i, e, l, here, passed) = Any-from_list_any test (range_with_len 0 k) found in
    let there : i < k = omega (arith, length-range_with_len 0 k) in
    (e, omega (arith, here, get_or-range_with_len 0 k i e there), passed)

-- every test of a list passed
abbrev all_of : List Bool → Bool
all_of = list_all (λ b. b)

abbrev EachTrue : List Bool → Type 0
EachTrue [] = Unit {0}
EachTrue (b ∷ bs) = (b ≡ true) × EachTrue bs

each_true : (bs : List Bool) → all_of bs ≡ true → EachTrue bs
each_true [] all = tt
each_true (b ∷ bs) all = let parts = and_parts b (all_of bs) all in (parts.0, each_true bs parts.1)

-- n firms and k invoices, with what is struck out and the heights
module _ (n k : ℕ) (from to amount s h : ℕ → ℕ) where
  abbrev bill_tests : ℕ → List Bool
  bill_tests e =
      ltb (from e) n ∷ ltb (to e) n ∷ not (eqb (from e) (to e)) ∷ leb 1 (amount e) ∷ leb (amount e) (10 ^ 12) ∷ leb (s e) (amount e) ∷ []

  -- firm v is reached from a firm of height 0 along invoices with something left, one up at a time
  reached : ℕ → ℕ → Bool
  reached zero v = eqb (h v) 0
  reached (suc fuel) v =
      eqb (h v) 0
      || some (λ e. all_of (ltb (s e) (amount e) ∷ eqb (to e) v ∷ eqb (h v) (h (from e) + 1) ∷ reached fuel (from e) ∷ [])) k

  abbrev firm_tests : ℕ → List Bool
  firm_tests v =
      eqb (span (λ e. pick (eqb (from e) v) (s e) 0) k) (span (λ e. pick (eqb (to e) v) (s e) 0) k) ∷ ltb (h v) n ∷ reached n v ∷ []

  abbrev tests : ℕ → List Bool
  tests in_all =
      leb 1 n
      ∷ leb n 512
      ∷ leb k 4096
      ∷ eqb (span s k) in_all
      ∷ eqb (span s k) (span (λ e. amount e * ((h (from e) + 1) - h (to e))) k)
      ∷ every (λ e. all_of (bill_tests e)) k
      ∷ every (λ v. all_of (firm_tests v)) n
      ∷ []

  module _ (in_all : ℕ) (passed : EachTrue (tests in_all)) where
    bill : (e : ℕ) → e < k → EachTrue (bill_tests e)
    bill e l = each_true (bill_tests e) (every_at (λ e. all_of (bill_tests e)) k passed.1.1.1.1.1.0 e l)

    firm : (v : ℕ) → v < n → EachTrue (firm_tests v)
    firm v l = each_true (firm_tests v) (every_at (λ v. all_of (firm_tests v)) n passed.1.1.1.1.1.1.0 v l)

    sound : Sound n k from to amount
    sound =
        record {
          some_firm = leb-true 1 n passed.0;
          few_firms = leb-true n 512 passed.1.0;
          few_invoices = leb-true k 4096 passed.1.1.0;
          from_there = λ e l. ltb-true (from e) n (bill e l).0;
          to_there = λ e l. ltb-true (to e) n (bill e l).1.0;
          two_firms = λ e l. eqb-false (from e) (to e) (not-true (eqb (from e) (to e)) (bill e l).1.1.0);
          some_cents = λ e l. leb-true 1 (amount e) (bill e l).1.1.1.0;
          few_cents = λ e l. leb-true (amount e) (10 ^ 12) (bill e l).1.1.1.1.0;
        }

    abbrev d : Day
    d = day_of n k from to amount sound

    in_all_is : total d s ≡ in_all
    in_all_is = eqb-true (span s k) in_all passed.1.1.1.0

    tight : total d s ≡ bound d h
    unfolding bound
    tight = eqb-true (total d s) (bound d h) passed.1.1.1.1.0

    set : SetOff d s
    unfolding let_off lets_off
    set =
        record {
          within = λ e l. leb-true (s e) (amount e) (bill e l).1.1.1.1.1.0;
          even = λ v l. eqb-true (let_off d s v) (lets_off d s v) (firm v l).0;
        }

    -- heights that are reached so are the least that fit
    reached_least : (g : ℕ → ℕ) → Fits d s g → (fuel v : ℕ) → reached fuel v ≡ true → h v ≤ g v
    unfolding reached
    reached_least g fitting zero v low = omega (arith, eqb-true (h v) 0 low)
    reached_least g fitting (suc fuel) v by =
        let steps : ℕ → List Bool = λ e. ltb (s e) (amount e) ∷ eqb (to e) v ∷ eqb (h v) (h (from e) + 1) ∷ reached fuel (from e) ∷ [] in
        elim (or_cases (eqb (h v) 0) (some (λ e. all_of (steps e)) k) by) [
          | inl low ↦ omega (arith, eqb-true (h v) 0 low)
          | inr found ↦
              let (e, l, all) = some_at (λ e. all_of (steps e)) k found in
              let p = each_true (steps e) all in
              let before = reached_least g fitting fuel (from e) p.1.1.1.0 in
              omega (arith, fitting.left e l (ltb-true (s e) (amount e) p.0), ap g (eqb-true (to e) v p.1.0), eqb-true (h v) (h (from e) + 1) p.1.1.0)
        ]

    shown : Shown d s h
    unfolding MeetsIsGreatest Slackness
    shown =
        record {
          greatest = meets_is_greatest d s h set tight;
          tight = tight;
          fits = (slackness d s h set).0 tight;
          low = λ v l. ltb-true (h v) n (firm v l).1.0;
          least = λ g fitting v l. reached_least g fitting n v (firm v l).1.1.0;
        }

    all_shown : (t : Sound n k from to amount) × ((total (day_of n k from to amount t) s ≡ in_all) × Shown (day_of n k from to amount t) s h)
    all_shown = (sound, (in_all_is, shown))

abbrev tests_of : Worked → List Bool
tests_of w =
    tests w.firms (length w.invoices) (reads (debtors w.invoices)) (reads (creditors w.invoices)) (reads (amounts w.invoices)) (reads w.struck)
    (reads w.heights) w.in_all

holds : (w : Worked) → all_of (tests_of w) ≡ true → Holds w
holds w passed =
    all_shown w.firms (length w.invoices) (reads (debtors w.invoices)) (reads (creditors w.invoices)) (reads (amounts w.invoices)) (reads w.struck)
    (reads w.heights) w.in_all (each_true (tests_of w) passed)

all_hold : (ws : List Worked) → list_all (λ w. all_of (tests_of w)) ws ≡ true → AllByRecursion Holds ws
all_hold [] passed = tt
all_hold (w ∷ ws) passed =
    let parts = and_parts (all_of (tests_of w)) (list_all (λ w. all_of (tests_of w)) ws) passed in
    (holds w parts.0, all_hold ws parts.1)

pub worked_days : WorkedDays
unfolding WorkedDays reached every some span
worked_days = all_hold worked refl
