-- As many last steps as there are nodes lead onto a ring. Assumes nothing.
use Rattle.std.proofs.Common.{◌≡◌, ℕ, zero, suc, ◌+◌, ◌-◌, ◌<◌, ◌≤◌, ◌≢◌, sym, ap, ◌∙◌, subst, inl, inr, arith}
use Rattle.std.proofs.lemmas.Bool.{cases_eq}
use Rattle.heights.specs.Search.{back}
use Rattle.heights.proofs.Repeats.{Repeat, repeats}
use Rattle.rings.specs.Chains.{Returns}

-- j steps lead from node v to a node, all of them last steps between nodes that are there
pub record Leading (n : ℕ) (tail last : ℕ → ℕ) (v j at : ℕ) : Type 0 where
  pub here : at ≡ back tail last v j
  pub there : (t : ℕ) → t ≤ j → back tail last v t < n
  pub long : (t : ℕ) → t < j → last (back tail last v t) ≢ 0

module _ (n : ℕ) (tail last : ℕ → ℕ) (v : ℕ) where
  pub back-add : (i j : ℕ) → back tail last (back tail last v i) j ≡ back tail last v (i + j)
  back-add i zero = let e : i ≡ i + 0 = omega arith in ap (back tail last v) e
  back-add i (suc j) = let e : suc (i + j) ≡ i + suc j = omega arith in ap (λ w. tail (last w - 1)) (back-add i j) ∙ ap (back tail last v) e

  module _ (at : ℕ) (whole : Leading n tail last v n at) where
    abbrev b : ℕ → ℕ
    b = back tail last v

    -- two of the nodes are one, so from the first of them on they come again
    met : Repeat b (suc n)
    met = repeats b (suc n) n (λ j l. whole.there j (omega arith)) (omega arith)

    abbrev period : ℕ
    period = met.again - met.first

    comes_again : (i : ℕ) → b (met.first + i) ≡ b (met.again + i)
    comes_again i = sym (back-add met.first i) ∙ ap (λ w. back tail last w i) met.same ∙ back-add met.again i

    earlier : (i : ℕ) → n ≤ i → b i ≡ b (i - period)
    earlier i past =
        let after = met.after in
        let below = met.below in
        let left : i ≡ met.again + (i - met.again) = omega arith in
        let right : met.first + (i - met.again) ≡ i - period = omega arith in
        ap b left ∙ sym (comes_again (i - met.again)) ∙ ap b right

    from_there : (t : ℕ) → back tail last at t ≡ b (n + t)
    from_there t = ap (λ w. back tail last w t) whole.here ∙ back-add n t

    pub leads_on : Returns n tail last at
    leads_on =
        let after = met.after in
        let below = met.below in
        record {
          period = period;
          some = omega arith;
          few = omega arith;
          closes =
              from_there period ∙ earlier (n + period) (omega arith)
              ∙ ap b (let e : (n + period) - period ≡ n = omega arith in e) ∙ sym whole.here;
          long = λ t l e. whole.long ((n + t) - period) (omega arith) (ap last (sym (from_there t ∙ earlier (n + t) (omega arith))) ∙ e);
        }

  pub leads_more : (j at step next : ℕ) → Leading n tail last v j at → last at ≡ suc step → next ≡ tail step → next < n → Leading n tail last v (j + 1) next
  leads_more j at step next so_far is leads below =
      let e : suc j ≡ j + 1 = omega arith in
      let taken : step ≡ last at - 1 = omega arith in
      let some : last at ≢ 0 = omega arith in
      let further : next ≡ back tail last v (j + 1) = leads ∙ ap tail taken ∙ ap (λ w. tail (last w - 1)) so_far.here ∙ ap (back tail last v) e in
      record {
        here = further;
        there = λ t l. elim (cases_eq t (j + 1)) [
          | inl same ↦ subst (λ w. w < n) (further ∙ ap (back tail last v) (sym same)) below
          | inr before ↦ so_far.there t (omega arith)
        ];
        long = λ t l. elim (cases_eq t j) [
          | inl same ↦ λ e. some (ap last (so_far.here ∙ ap (back tail last v) (sym same)) ∙ e)
          | inr before ↦ so_far.long t (omega arith)
        ];
      }
