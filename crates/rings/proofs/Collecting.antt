-- Writing down the last steps from a node until they come back to it. Assumes nothing.
use Rattle.std.proofs.Common.{◌≡◌, ℕ, suc, ◌+◌, ◌-◌, ◌<◌, ◌≤◌, ◌≢◌, List, length, set, sym, ap, ◌∙◌, inl, inr, arith}
use Rattle.std.proofs.lemmas.Grind.{get_or-set_at}
use Rattle.std.proofs.lemmas.List.{get_or-set_other}
use Rattle.std.proofs.lemmas.Bool.{cases_eq, cases_lt}
use Rattle.day.specs.Bills.{reads}
use Rattle.heights.specs.Search.{back}
use Rattle.rings.specs.Chains.{Returns}

-- m steps are written down, and have not come back yet
pub record Collecting (tail last : ℕ → ℕ) (start m at : ℕ) (ring : List ℕ) : Type 0 where
  pub here : at ≡ back tail last start m
  pub steps : (j : ℕ) → j < m → last (back tail last start j) ≡ suc (reads ring j)
  pub first : (j : ℕ) → 0 < j → j ≤ m → back tail last start j ≢ start

module _ (tail last : ℕ → ℕ) (start : ℕ) where
  module _ (m at : ℕ) (ring : List ℕ) (so_far : Collecting tail last start m at ring) where
    module _ (n : ℕ) (r : Returns n tail last start) where
      early : m < r.period
      early = elim (cases_lt m r.period) [ inl before ↦ before | inr past ↦ absurd (so_far.first r.period r.some past r.closes) ]

      pub room : m < n
      room = omega (arith, early, r.few)

    module _ (n : ℕ) (r : Returns n tail last start) (each : length ring ≡ n) (step next : ℕ) (is : last at ≡ suc step) (leads : next ≡ tail step) where
      written : (j : ℕ) → j < m + 1 → last (back tail last start j) ≡ suc (reads (set ring m step) j)
      written j l = elim (cases_eq j m) [
        | inl same ↦ ap (λ i. last (back tail last start i)) same ∙ ap last (sym so_far.here) ∙ is ∙ ap suc (sym (get_or-set_at ring m j step 0 same (omega (arith, room n r))))
        | inr other ↦ so_far.steps j (omega arith) ∙ ap suc (sym (get_or-set_other ring m j step 0 other))
      ]

      further : next ≡ back tail last start (m + 1)
      further =
          let e : suc m ≡ m + 1 = omega arith in
          let taken : step ≡ last at - 1 = omega arith in
          leads ∙ ap tail taken ∙ ap (λ v. tail (last v - 1)) so_far.here ∙ ap (back tail last start) e

      pub collects_more : next ≢ start → Collecting tail last start (m + 1) next (set ring m step)
      collects_more other =
          record {
            here = further;
            steps = written;
            first = λ j some l. elim (cases_eq j (m + 1)) [
              | inl same ↦ λ e. other (further ∙ ap (back tail last start) (sym same) ∙ e)
              | inr before ↦ so_far.first j some (omega arith)
            ];
          }
