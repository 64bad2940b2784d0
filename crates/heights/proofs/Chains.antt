-- Last steps followed back: a closed chain gains, a long one closes, and without rings numbers are low and least. Assumes nothing.
use Rattle.std.proofs.Common.{◌≡◌, ℕ, zero, suc, ◌+◌, ◌-◌, ◌<◌, ◌≤◌, ◌≢◌, ◌⊎◌, sym, refl, ap, ◌∙◌, inl, inr, arith}
use Rattle.std.proofs.lemmas.Bool.{cases_eq, cases_lt}
use Rattle.day.specs.Bills.{span}
use Rattle.setoff.proofs.Spans.{span-le, span-add, span_tight, span_shift, span_at}
use Rattle.heights.specs.Residual.{Steps, AllFitted, Gaining}
use Rattle.heights.specs.Search.{Link, Searched, back as back_along}
use Rattle.heights.proofs.Repeats.{Repeat, repeats}

-- the node that j last steps lead back to
abbrev pub back : Steps → (ℕ → ℕ) → ℕ → ℕ → ℕ
back S last v zero = v
back S last v (suc j) = S.tail (last (back S last v j) - 1)

-- over the tails alone it is the same node
pub back-along : (S : Steps) (last : ℕ → ℕ) (v j : ℕ) → back_along S.tail last v j ≡ back S last v j
back-along S last v zero = refl
back-along S last v (suc j) = ap (λ w. S.tail (last w - 1)) (back-along S last v j)

-- a sum over the nodes of a ring is the same one node further on
around : (g u : ℕ → ℕ) (m : ℕ) → u m ≡ u 0 → span (λ j. g (u (suc j))) m ≡ span (λ j. g (u j)) m
around g u m closed = omega (arith, span_shift (λ j. g (u j)) m, ap g closed)

-- numbers that rise by at most each step's gain, and by less or with falling rank: round a ring the steps gain
pub chain_gains : (S : Steps) (num when rank u at : ℕ → ℕ) (m : ℕ) → 0 < m → ((j : ℕ) → j < m → Link S num when rank (u j) (at j)) →
    ((j : ℕ) → j < m → S.tail (at j) ≡ u (suc j)) → u m ≡ u 0 → span (λ j. S.down (at j)) m < span (λ j. S.up (at j)) m
chain_gains S num when rank u at m some links tails closed =
    let f : ℕ → ℕ = λ j. num (u j) + S.down (at j) in
    let g : ℕ → ℕ = λ j. num (u (suc j)) + S.up (at j) in
    let le : (j : ℕ) → j < m → f j ≤ g j = λ j l. omega (arith, (links j l).rise, ap num (tails j l)) in
    let fs = span-add (λ j. num (u j)) (λ j. S.down (at j)) m in
    let gs = span-add (λ j. num (u (suc j))) (λ j. S.up (at j)) m in
    let shift = around num u m closed in
    elim (cases_lt (span (λ j. S.down (at j)) m) (span (λ j. S.up (at j)) m)) [
      | inl gains ↦ gains
      | inr none ↦
          let tight = span_tight f g m le (omega (arith, span-le f g m le)) in
          let falls : (j : ℕ) → j < m → 1 + rank (u (suc j)) ≤ rank (u j)
          = λ j l. omega (arith, (links j l).falls (tight j l ∙ ap (λ z. num z + S.up (at j)) (sym (tails j l))), ap rank (tails j l)) in
          let sum = span-le (λ j. 1 + rank (u (suc j))) (λ j. rank (u j)) m falls in
          let one = span_at (λ j. 1) m 0 some in
          absurd (omega (arith, span-add (λ j. 1) (λ j. rank (u (suc j))) m, around rank u m closed))
    ]

-- potentials by which no open step would gain leave no ring that gains
pub fitted_no_ring : (S : Steps) (h : ℕ → ℕ) (m : ℕ) (u at : ℕ → ℕ) → AllFitted S h → Gaining S m u at → ⊥
fitted_no_ring S h m u at fitted ring =
    let f : ℕ → ℕ = λ j. h (u (suc j)) + S.up (at j) in
    let g : ℕ → ℕ = λ j. h (u j) + S.down (at j) in
    let le : (j : ℕ) → j < m → f j ≤ g j
    = λ j l. omega (arith, fitted (at j) (ring.there j l), ap h (ring.tails j l), ap h (ring.heads j l)) in
    omega (arith, span-le f g m le, span-add (λ j. h (u (suc j))) (λ j. S.up (at j)) m, span-add (λ j. h (u j)) (λ j. S.down (at j)) m, around h u m ring.closed, ring.gains)

module _ (S : Steps) (tails_there : (f : ℕ) → f < S.steps → S.tail f < S.nodes) (k i : ℕ) (num last : ℕ → ℕ) (at : Searched S k i num last) where
  -- the first j nodes of the chain from v all have a last step
  abbrev pub Long : ℕ → ℕ → Type 0
  Long v j = (t : ℕ) → t < j → last (back S last v t) ≢ 0

  pub linked : (v t : ℕ) → last (back S last v t) ≢ 0 → Link S num at.when at.rank (back S last v t) (last (back S last v t) - 1)
  linked v t some = at.link (back S last v t) (last (back S last v t) - 1) (omega arith)

  pub back_there : (v j : ℕ) → v < S.nodes → Long v j → back S last v j < S.nodes
  back_there v zero h long = h
  back_there v (suc j) h long = tails_there (last (back S last v j) - 1) (linked v j (long j (omega arith))).there.0

  -- a chain of as many last steps as there are nodes closes
  pub long_ring : (v : ℕ) → v < S.nodes → Long v S.nodes → (m : ℕ) × (u : ℕ → ℕ) × (steps : ℕ → ℕ) × Gaining S m u steps
  long_ring v h long =
      let n = S.nodes in
      let b : ℕ → ℕ = back S last v in
      let r : Repeat b (suc n) = repeats b (suc n) n (λ j l. back_there v j h (λ t m. long t (omega arith))) (omega arith) in
      let from = r.first in
      let m = r.again - from in
      let u : ℕ → ℕ = λ j. b (from + j) in
      let steps : ℕ → ℕ = λ j. last (b (from + j)) - 1 in
      let after = r.after in
      let below = r.below in
      let links : (j : ℕ) → j < m → Link S num at.when at.rank (u j) (steps j) = λ j l. linked v (from + j) (long (from + j) (omega arith)) in
      let tails : (j : ℕ) → j < m → S.tail (steps j) ≡ u (suc j) = λ j l. ap b (let e : suc (from + j) ≡ from + suc j = omega arith in e) in
      let closed : u m ≡ u 0
      = ap b (let e : from + m ≡ r.again = omega arith in e) ∙ sym r.same ∙ ap b (let e : from ≡ from + 0 = omega arith in e) in (
        m,
        u,
        steps,
        record {
          some = omega arith;
          there = λ j l. (links j l).there;
          heads = λ j l. (links j l).ends;
          tails = tails;
          closed = closed;
          apart = λ i j l below_m. r.apart (from + i) (from + j) (omega arith) (omega arith);
          gains = chain_gains S num at.when at.rank u steps m (omega arith) links tails closed;
        },
      )

  -- a node that was raised in round n or later has such a chain behind it
  pub when_back : (v j : ℕ) → j ≤ at.when v → (at.when v ≤ at.when (back S last v j) + j) × Long v j
  when_back v zero h = (omega arith, λ t l. absurd (omega arith))
  when_back v (suc j) h =
      let ih = when_back v j (omega arith) in
      let some : last (back S last v j) ≢ 0 = λ e. (let none = (at.root (back S last v j) e).1 in omega (arith, ih.0)) in (
        omega (arith, ih.0, (linked v j some).soon),
        λ t l. elim (cases_eq t j) [ inl here ↦ λ e. some (ap (λ z. last (back S last v z)) (sym here) ∙ e) | inr before ↦ ih.1 t (omega arith) ],
      )

  pub late_ring : (v : ℕ) → v < S.nodes → S.nodes ≤ at.when v → (m : ℕ) × (u : ℕ → ℕ) × (steps : ℕ → ℕ) × Gaining S m u steps
  late_ring v h late = long_ring v h (when_back v S.nodes late).1

  -- the chain from v ends at a node without a last step, or is that long
  ends_or_long : (v j : ℕ) → ((t : ℕ) × (t < j) × (last (back S last v t) ≡ 0) × Long v t) ⊎ Long v j
  ends_or_long v zero = inr (λ t l. absurd (omega arith))
  ends_or_long v (suc j) = elim (ends_or_long v j) [
    | inl end ↦ inl (end.0, omega (arith, end.1), end.2, end.3)
    | inr long ↦ elim (cases_eq (last (back S last v j)) 0) [
      | inl root ↦ inl (j, omega arith, root, long)
      | inr some ↦ inr
          (λ t l. elim (cases_eq t j) [ inl here ↦ λ e. some (ap (λ z. last (back S last v z)) (sym here) ∙ e) | inr before ↦ long t (omega arith) ])
    ]
  ]

  -- a number is at most the last steps behind it, if a step gains at most 1
  pub risen : ((f : ℕ) → S.up f ≤ 1) → (v j : ℕ) → Long v j → num v ≤ num (back S last v j) + j
  risen small v zero long = omega arith
  risen small v (suc j) long =
      let ih = risen small v j (λ t l. long t (omega arith)) in
      let f = last (back S last v j) - 1 in
      omega (arith, (linked v j (long j (omega arith))).rise, small f)

  module _ (fitted : AllFitted S num) where
    -- where no ring gains, it ends before it has met all nodes
    ends : (v : ℕ) → v < S.nodes → (t : ℕ) × (t < S.nodes) × (last (back S last v t) ≡ 0) × Long v t
    ends v h = elim (ends_or_long v S.nodes) [
      | inl end ↦ end
      | inr long ↦ (let ring = long_ring v h long in absurd (fitted_no_ring S num ring.0 ring.1 ring.2 fitted ring.3))
    ]

    -- so numbers are below the number of nodes, if a step gains at most 1
    pub low : ((f : ℕ) → S.up f ≤ 1) → (v : ℕ) → v < S.nodes → num v < S.nodes
    low small v h =
        let end = ends v h in
        let t = end.0 in
        omega (arith, risen small v t end.3, end.1, (at.root (back S last v t) end.2).0)

    under : (g : ℕ → ℕ) → AllFitted S g → (v j : ℕ) → Long v j → num v + g (back S last v j) ≤ num (back S last v j) + g v
    under g others v zero long = omega arith
    under g others v (suc j) long =
        let ih = under g others v j (λ t l. long t (omega arith)) in
        let link = linked v j (long j (omega arith)) in
        let f = last (back S last v j) - 1 in
        omega (arith, link.rise, others f link.there, ap g link.ends)

    -- and they are the least by which no open step would gain
    pub least : (g : ℕ → ℕ) → AllFitted S g → (v : ℕ) → v < S.nodes → num v ≤ g v
    least g others v h =
        let end = ends v h in
        let t = end.0 in
        omega (arith, under g others v t end.3, (at.root (back S last v t) end.2).0)
