-- Weak duality, and that a circulation meets the bound of potentials exactly where they fit it. Assumes nothing.
use Rattle.std.proofs.Common.{◌≡◌, ℕ, ◌+◌, ◌-◌, ◌*◌, ◌<◌, ◌≤◌, Bool, true, false, ap, ◌∙◌, inl, inr, mul-le-mul_right, mul-le-mul_left, arith}
use Rattle.std.proofs.lemmas.Bool.{cases_lt}
use Rattle.day.specs.Bills.{pick, span}
use Rattle.setoff.proofs.Spans.{span-le, span_ext, span-add, span_tight, weigh}
use Rattle.heights.specs.Network.{Network, outflow, inflow, Circulation, unit, gain, Maximum, dual, Fit}

-- one arc: s of its capacity a flows, x is the potential of its tail with its unit, y that of its head
above : (s x y : ℕ) → y ≤ x → s * x ≡ s * y + s * (x - y)
above s x y h = ap (λ z. s * z) (let e : x ≡ y + (x - y) = omega arith in e) ∙ omega arith

below : (a x y : ℕ) → x ≤ y → a * (x - y) ≡ 0
below a x y h = ap (λ z. a * z) (let e : x - y ≡ 0 = omega arith in e) ∙ omega arith

part_le : (s a x y : ℕ) → s ≤ a → s * x ≤ s * y + a * (x - y)
part_le s a x y h = elim (cases_lt x y) [
  | inl less ↦ omega (arith, mul-le-mul_left {m = x} {n = y} s (omega arith))
  | inr more ↦ omega (arith, above s x y more, mul-le-mul_right {m = s} {n = a} (x - y) h)
]

part_tight : (s a x y : ℕ) → s ≤ a → s * x ≡ s * y + a * (x - y) → (s < a → x ≤ y) × (0 < s → y ≤ x)
part_tight s a x y h all = elim (cases_lt x y) [
  | inl less ↦ (λ l. omega arith, λ l. omega (arith, below a x y (omega arith), mul-le-mul_left {m = x + 1} {n = y} s (omega arith)))
  | inr more ↦ (λ l. omega (arith, above s x y more, mul-le-mul_right {m = s + 1} {n = a} (x - y) (omega arith)), λ l. more)
]

part_fit : (s a x y : ℕ) → s ≤ a → (s < a → x ≤ y) → (0 < s → y ≤ x) → s * x ≡ s * y + a * (x - y)
part_fit s a x y h left used = elim (cases_lt x y) [
  | inl less ↦ elim (cases_lt 0 s) [
    | inl some ↦ absurd (omega (arith, used some))
    | inr none ↦
        let zero' : s ≡ 0 = omega arith in
        omega (arith, below a x y (omega arith), ap (λ z. z * x) zero', ap (λ z. z * y) zero')
  ]
  | inr more ↦ elim (cases_lt s a) [
    | inl part ↦ omega (arith, above s x y more, below s x y (left part), below a x y (left part))
    | inr all ↦ omega (arith, above s x y more, ap (λ z. z * (x - y)) (let e : s ≡ a = omega arith in e))
  ]
]

module _ (N : Network) (s h : ℕ → ℕ) where
  flowing : ℕ → ℕ
  flowing e = s e * (h (N.tail e) + unit N e)

  allowed : ℕ → ℕ
  allowed e = s e * h (N.head e) + N.capacity e * ((h (N.tail e) + unit N e) - h (N.head e))

  counted : (b : Bool) (x y : ℕ) → x * (y + pick b 1 0) ≡ pick b x 0 + x * y
  counted true x y = omega arith
  counted false x y = omega arith

  -- what flows, weighed by potentials, is the gain and a sum over nodes
  flowing_all : span flowing N.arcs ≡ gain N s + span (λ v. h v * outflow N s v) N.nodes
  unfolding flowing gain outflow
  flowing_all =
      span_ext flowing (λ e. pick (N.counts e) (s e) 0 + s e * h (N.tail e)) N.arcs (λ e l. counted (N.counts e) (s e) (h (N.tail e)))
      ∙ span-add (λ e. pick (N.counts e) (s e) 0) (λ e. s e * h (N.tail e)) N.arcs
      ∙ ap (λ z. gain N s + z) (weigh s h N.tail N.arcs N.nodes N.tail_there)

  allowed_all : span allowed N.arcs ≡ span (λ v. h v * inflow N s v) N.nodes + dual N h
  unfolding allowed dual inflow
  allowed_all =
      span-add (λ e. s e * h (N.head e)) (λ e. N.capacity e * ((h (N.tail e) + unit N e) - h (N.head e))) N.arcs
      ∙ ap (λ z. z + dual N h) (weigh s h N.head N.arcs N.nodes N.head_there)

  module _ (c : Circulation N s) where
    nodes_even : span (λ v. h v * outflow N s v) N.nodes ≡ span (λ v. h v * inflow N s v) N.nodes
    nodes_even = span_ext (λ v. h v * outflow N s v) (λ v. h v * inflow N s v) N.nodes (λ v l. ap (λ z. h v * z) (c.even v l))

    arc_le : (e : ℕ) → e < N.arcs → flowing e ≤ allowed e
    unfolding flowing allowed
    arc_le e l = part_le (s e) (N.capacity e) (h (N.tail e) + unit N e) (h (N.head e)) (c.within e l)

    -- no circulation gains more than the bound of any potentials
    pub gain-le-dual : gain N s ≤ dual N h
    gain-le-dual = omega (arith, span-le flowing allowed N.arcs arc_le, flowing_all, allowed_all, nodes_even)

    -- one that meets it fits, and one that fits meets it
    pub tight_fit : gain N s ≡ dual N h → Fit N s h
    unfolding flowing allowed
    tight_fit tight =
        let same : (e : ℕ) → e < N.arcs → flowing e ≡ allowed e
        = span_tight flowing allowed N.arcs arc_le (omega (arith, flowing_all, allowed_all, nodes_even)) in
        let part = λ (e : ℕ) (l : e < N.arcs). part_tight (s e) (N.capacity e) (h (N.tail e) + unit N e) (h (N.head e)) (c.within e l) (same e l) in
        record { left = λ e l. (part e l).0; used = λ e l. (part e l).1 }

    pub fit_tight : Fit N s h → gain N s ≡ dual N h
    unfolding flowing allowed
    fit_tight fit =
        let same : (e : ℕ) → e < N.arcs → flowing e ≡ allowed e
        = λ e l. part_fit (s e) (N.capacity e) (h (N.tail e) + unit N e) (h (N.head e)) (c.within e l) (fit.left e l) (fit.used e l) in
        omega (arith, span_ext flowing allowed N.arcs same, flowing_all, allowed_all, nodes_even)

-- meeting a bound is greatest
pub tight_maximum : (N : Network) (s h : ℕ → ℕ) → Circulation N s → gain N s ≡ dual N h → Maximum N s
tight_maximum N s h c tight = record { is = c; most = λ q d. omega (arith, gain-le-dual N q h d) }
