-- Every network has a greatest circulation with least potentials that show it, from any circulation on. Assumes nothing.
use Rattle.std.proofs.Common.{◌≡◌, ℕ, zero, suc, ◌+◌, ◌-◌, ◌*◌, ◌/◌, ◌%◌, ◌<◌, ◌≤◌, Bool, true, false, eqb, sym, refl, ◌∙◌, subst₂, arith}
use Rattle.std.proofs.lemmas.Bool.{eq-eqb, ne_eqb}
use Rattle.day.specs.Bills.{pick, span}
use Rattle.setoff.proofs.Spans.{span-le, span_none}
use Rattle.heights.specs.Network.{Network, outflow, inflow, Circulation, unit, gain, Fit, Certified}
use Rattle.heights.specs.Residual.{AllFitted, along, residual, pushed_all}
use Rattle.heights.specs.Promise.{AlwaysFrom, SearchEnds, RingGains}
use Rattle.heights.specs.Search.{Searched, rings, fits}
use Rattle.heights.proofs.Duality.{fit_tight, tight_maximum}
use Rattle.heights.proofs.Chains.{low, least}
use Rattle.heights.proofs.Rounds.{search_ends}
use Rattle.heights.proofs.Pushing.{ring_gains}

module _ (N : Network) (s : ℕ → ℕ) where
  -- the two steps of arc e: along it where b is true, else back
  abbrev HasRoom : Bool → ℕ → Type 0
  HasRoom b e = 1 ≤ pick b (N.capacity e - s e) (s e)

  abbrev FitsStep : (ℕ → ℕ) → Bool → ℕ → Type 0
  FitsStep h b e = h (pick b (N.tail e) (N.head e)) + pick b (unit N e) 0 ≤ h (pick b (N.head e) (N.tail e)) + pick b 0 (unit N e)

  by_arc : (h : ℕ → ℕ) → AllFitted (residual N s 1) h → (b : Bool) (e : ℕ) → e < N.arcs → HasRoom b e → FitsStep h b e
  by_arc h all b e l =
      let f = 2 * e + pick b 0 1 in
      let arc : f / 2 ≡ e = half b in
      let way : along f ≡ b = forth b in
      subst₂ (λ b e. HasRoom b e → FitsStep h b e) way arc (λ room. all f (below b, room))
    where
      half : (b : Bool) → (2 * e + pick b 0 1) / 2 ≡ e
      half true = omega arith
      half false = omega arith

      forth : (b : Bool) → along (2 * e + pick b 0 1) ≡ b
      forth true = eq-eqb ((2 * e + 0) % 2) 0 (omega arith)
      forth false = ne_eqb ((2 * e + 1) % 2) 0 (omega arith)

      below : (b : Bool) → 2 * e + pick b 0 1 < 2 * N.arcs
      below true = omega arith
      below false = omega arith

  -- potentials fit a flow exactly where no open step of its residual graph would gain
  pub fitted_fit : (h : ℕ → ℕ) → AllFitted (residual N s 1) h → Fit N s h
  fitted_fit h all =
      record {
        left = λ e l room. omega (arith, by_arc h all true e l (omega arith));
        used = λ e l some. omega (arith, by_arc h all false e l (omega arith));
      }

  pub fit_fitted : (h : ℕ → ℕ) → Fit N s h → AllFitted (residual N s 1) h
  fit_fitted h fit f o = by (along f) (f / 2) (omega (arith, o.0)) o.1
    where
      by : (b : Bool) (e : ℕ) → e < N.arcs → HasRoom b e → FitsStep h b e
      by true e l room = omega (arith, fit.left e l (omega arith))
      by false e l room = omega (arith, fit.used e l (omega arith))

  pub tails_there : (f : ℕ) → f < 2 * N.arcs → (residual N s 1).tail f < N.nodes
  tails_there f l = by (along f)
    where
      by : (b : Bool) → pick b (N.tail (f / 2)) (N.head (f / 2)) < N.nodes
      by true = N.tail_there (f / 2) (omega arith)
      by false = N.head_there (f / 2) (omega arith)

  up_small : (f : ℕ) → (residual N s 1).up f ≤ 1
  up_small f = by (along f) (N.counts (f / 2))
    where
      by : (b counts : Bool) → pick b (pick counts 1 0) 0 ≤ 1
      by true true = omega arith
      by true false = omega arith
      by false true = omega arith
      by false false = omega arith

  -- where no step is left that would gain, the numbers of the search are the certificate
  pub certified : Circulation N s → (k i : ℕ) (num last : ℕ → ℕ) → Searched (residual N s 1) k i num last → AllFitted (residual N s 1) num →
      Certified N s num
  certified even k i num last at all =
      let fit = fitted_fit num all in
      let tight = fit_tight N s num even fit in
      let S = residual N s 1 in
      record {
        maximum = tight_maximum N s num even tight;
        tight = tight;
        fit = fit;
        low = low S tails_there k i num last at all up_small;
        least = λ g other. least S tails_there k i num last at all g (fit_fitted g other);
      }

  pub gain-le : Circulation N s → gain N s ≤ span N.capacity N.arcs
  unfolding gain
  gain-le even =
      span-le (λ e. pick (N.counts e) (s e) 0) N.capacity N.arcs (λ e l. by (N.counts e) (s e) (N.capacity e) (even.within e l))
    where
      by : (b : Bool) (x y : ℕ) → x ≤ y → pick b x 0 ≤ y
      by true x y h = h
      by false x y h = omega arith

-- each ring gains a cent at least, and there are no more to gain than all capacities
climb : (N : Network) (fuel : ℕ) (s : ℕ → ℕ) → Circulation N s → span N.capacity N.arcs < gain N s + fuel →
    (q : ℕ → ℕ) × (h : ℕ → ℕ) × Certified N q h
unfolding SearchEnds RingGains
climb N zero s even more = absurd (omega (arith, gain-le N s even))
climb N (suc fuel) s even more = elim (search_ends (residual N s 1) (tails_there N s)) [
  | fits k i num last at all ↦ (s, num, certified N s even k i num last at all)
  | rings m u at ring ↦
      let pushed = ring_gains N s 1 m u at even ring in
      climb N fuel (pushed_all s at 1 m) pushed.0 (omega (arith, pushed.1))
]

pub always_from : AlwaysFrom
unfolding AlwaysFrom
always_from N s even = climb N (suc (span N.capacity N.arcs)) s even (omega arith)

pub nothing_even : (N : Network) → Circulation N (λ e. 0)
unfolding outflow inflow
nothing_even N =
    let none = λ (place : ℕ → ℕ) (v : ℕ). span_none (λ e. pick (eqb (place e) v) 0 0) N.arcs (λ e l. by (eqb (place e) v)) in
    record { within = λ e l. omega arith; even = λ v l. none N.tail v ∙ sym (none N.head v) }
  where
    by : (b : Bool) → pick {A = ℕ} b 0 0 ≡ 0
    by true = refl
    by false = refl
