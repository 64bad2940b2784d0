-- Pushing c cents along a step, and round a ring of steps that all have room for them: a circulation again, that gains more. Assumes nothing.
use Rattle.std.proofs.Common.{◌≡◌, ℕ, zero, suc, ◌+◌, ◌-◌, ◌*◌, ◌/◌, ◌%◌, ◌<◌, ◌≤◌, Bool, true, false, eqb, ◌≢◌, sym, refl, ap, ◌∙◌, subst, inl, inr, mul-le-mul_left, arith}
use Rattle.std.proofs.lemmas.Bool.{cases_eq, cases_Bool, eqb-true, eqb-false}
use Rattle.day.specs.Bills.{pick, span}
use Rattle.setoff.proofs.Spans.{pick_same, pick_other, span_differ}
use Rattle.heights.specs.Network.{Network, outflow, inflow, Circulation, gain}
use Rattle.heights.specs.Promise.{RingGains}
use Rattle.heights.specs.Residual.{along, room_of, residual, Gaining, pushed, pushed_all}

pub pushed_at : (s : ℕ → ℕ) (f c e : ℕ) → e ≡ f / 2 → pushed s f c e ≡ pick (along f) (s e + c) (s e - c)
unfolding pushed
pushed_at s f c e same = pick_same e (f / 2) (pick (along f) (s e + c) (s e - c)) (s e) same

pub pushed_other : (s : ℕ → ℕ) (f c e : ℕ) → e ≢ f / 2 → pushed s f c e ≡ s e
unfolding pushed
pushed_other s f c e other = pick_other e (f / 2) (pick (along f) (s e + c) (s e - c)) (s e) other

-- a step's two nodes, by the tests whether each is the one that is looked at: what flows out and in changes alike
balance : (b t h : Bool) (out in' out' into s c : ℕ) → c ≤ pick b (s + c) s →
    out' + pick t s 0 ≡ out + pick t (pick b (s + c) (s - c)) 0 → into + pick h s 0 ≡ in' + pick h (pick b (s + c) (s - c)) 0 →
    out' + in' + pick (pick b h t) c 0 ≡ out + into + pick (pick b t h) c 0
balance true true true out in' out' into s c r p q = omega arith
balance true true false out in' out' into s c r p q = omega arith
balance true false true out in' out' into s c r p q = omega arith
balance true false false out in' out' into s c r p q = omega arith
balance false true true out in' out' into s c r p q = omega arith
balance false true false out in' out' into s c r p q = omega arith
balance false false true out in' out' into s c r p q = omega arith
balance false false false out in' out' into s c r p q = omega arith

gained : (b counts : Bool) (was now s c : ℕ) → c ≤ pick b (s + c) s → now + pick counts s 0 ≡ was + pick counts (pick b (s + c) (s - c)) 0 →
    now + c * pick b 0 (pick counts 1 0) ≡ was + c * pick b (pick counts 1 0) 0
gained true true was now s c r p = omega arith
gained true false was now s c r p = omega arith
gained false true was now s c r p = omega arith
gained false false was now s c r p = omega arith

roomy : (b : Bool) (a s c : ℕ) → c ≤ pick b (a - s) s → c ≤ pick b (s + c) s
roomy true a s c h = omega arith
roomy false a s c h = h

stays_within : (b : Bool) (a s c : ℕ) → s ≤ a → c ≤ pick b (a - s) s → pick b (s + c) (s - c) ≤ a
stays_within true a s c w h = omega arith
stays_within false a s c w h = omega arith

test_of_pick : (b : Bool) (x y v : ℕ) → eqb (pick b x y) v ≡ pick b (eqb x v) (eqb y v)
test_of_pick true x y v = refl
test_of_pick false x y v = refl

-- the two steps of one arc
opposite : (p q : Bool) (a s c : ℕ) → p ≢ q → c ≤ pick p (a - s) s → pick q (a - s) s ≤ pick q (a - pick p (s + c) (s - c)) (pick p (s + c) (s - c))
opposite true true a s c ne r = absurd (ne refl)
opposite true false a s c ne r = omega arith
opposite false true a s c ne r = omega arith
opposite false false a s c ne r = absurd (ne refl)

same_step : (f g : ℕ) → g / 2 ≡ f / 2 → along f ≡ along g → g ≡ f
same_step f g half e = elim (cases_Bool (along f)) [
  | inl forth ↦ omega (arith, eqb-true (f % 2) 0 forth, eqb-true (g % 2) 0 (sym e ∙ forth))
  | inr back ↦
      let p : f % 2 ≢ 0 = eqb-false (f % 2) 0 back in
      let q : g % 2 ≢ 0 = eqb-false (g % 2) 0 (sym e ∙ back) in
      omega arith
]

module _ (N : Network) (s : ℕ → ℕ) (f c : ℕ) (there : f < 2 * N.arcs) (enough : c ≤ room_of N s f) where
  abbrev i : ℕ
  i = f / 2

  arc_there : i < N.arcs
  arc_there = omega arith

  room : c ≤ pick (along f) (s i + c) (s i)
  room = roomy (along f) (N.capacity i) (s i) c enough

  one_place : (through : ℕ → ℕ → ℕ) →
      span (λ e. through e (pushed s f c e)) N.arcs + through i (s i) ≡ span (λ e. through e (s e)) N.arcs + through i (pick (along f) (s i + c) (s i - c))
  one_place through =
      span_differ (λ e. through e (pushed s f c e)) (λ e. through e (s e)) N.arcs i arc_there (λ e l ne. ap (through e) (pushed_other s f c e ne))
      ∙ ap (λ z. span (λ e. through e (s e)) N.arcs + through i z) (pushed_at s f c i refl)

  pub push_flow : (v : ℕ) →
      outflow N (pushed s f c) v + inflow N s v + pick (eqb ((residual N s c).head f) v) c 0
      ≡ outflow N s v + inflow N (pushed s f c) v + pick (eqb ((residual N s c).tail f) v) c 0
  unfolding outflow inflow
  push_flow v =
      let same =
      balance (along f) (eqb (N.tail i) v) (eqb (N.head i) v) (outflow N s v) (inflow N s v) (outflow N (pushed s f c) v) (inflow N (pushed s f c) v) (s i) c room
      (one_place (λ e x. pick (eqb (N.tail e) v) x 0)) (one_place (λ e x. pick (eqb (N.head e) v) x 0)) in
      ap (λ t. outflow N (pushed s f c) v + inflow N s v + pick t c 0) (test_of_pick (along f) (N.head i) (N.tail i) v)
      ∙ same
      ∙ ap (λ t. outflow N s v + inflow N (pushed s f c) v + pick t c 0) (sym (test_of_pick (along f) (N.tail i) (N.head i) v))

  pub push_gain : gain N (pushed s f c) + c * (residual N s c).down f ≡ gain N s + c * (residual N s c).up f
  unfolding gain
  push_gain = gained (along f) (N.counts i) (gain N s) (gain N (pushed s f c)) (s i) c room (one_place (λ e x. pick (N.counts e) x 0))

  pub push_within : ((e : ℕ) → e < N.arcs → s e ≤ N.capacity e) → (e : ℕ) → e < N.arcs → pushed s f c e ≤ N.capacity e
  push_within within e l = elim (cases_eq e i) [
    | inl same ↦
        subst (λ z. pushed s f c z ≤ N.capacity z) (sym same)
        (rw (pushed_at s f c i refl) (stays_within (along f) (N.capacity i) (s i) c (within i arc_there) enough))
    | inr other ↦ rw (pushed_other s f c e other) (within e l)
  ]

  -- no other step loses room
  pub push_room : (g : ℕ) → g ≢ f → room_of N s g ≤ room_of N (pushed s f c) g
  push_room g ne = elim (cases_eq (g / 2) i) [
    | inr other ↦ rw (pushed_other s f c (g / 2) other) (omega arith)
    | inl same ↦
        let turned : along f ≢ along g = λ e. ne (same_step f g same e) in
        subst (λ z. pick (along g) (N.capacity z - s z) (s z) ≤ pick (along g) (N.capacity z - pushed s f c z) (pushed s f c z)) (sym same)
        (rw (pushed_at s f c i refl) (opposite (along f) (along g) (N.capacity i) (s i) c turned enough))
  ]

-- round a ring the steps ahead keep their room, since none of them is met twice
pub rooms_ahead : (N : Network) (s : ℕ → ℕ) (c m : ℕ) (u at : ℕ → ℕ) → Gaining (residual N s c) m u at → (j t : ℕ) → j ≤ t → t < m →
    c ≤ room_of N (pushed_all s at c j) (at t)
unfolding pushed_all
rooms_ahead N s c m u at ring zero t l h = (ring.there t h).1
rooms_ahead N s c m u at ring (suc j) t l h =
    let now = pushed_all s at c j in
    let there = (ring.there j (omega arith)).0 in
    let enough = rooms_ahead N s c m u at ring j j (omega arith) (omega arith) in
    let other : at t ≢ at j
    = λ e. ring.apart j t (omega arith) h (sym (ring.heads j (omega arith)) ∙ ap (residual N s c).head (sym e) ∙ ring.heads t h) in
    omega (arith, push_room N now (at j) c there enough (at t) other, rooms_ahead N s c m u at ring j t (omega arith) h)

-- round a ring, after j of its steps
record Going (N : Network) (s u at : ℕ → ℕ) (c m j : ℕ) : Type 0 where
  within : (e : ℕ) → e < N.arcs → pushed_all s at c j e ≤ N.capacity e
  rooms : (t : ℕ) → j ≤ t → t < m → c ≤ room_of N (pushed_all s at c j) (at t)
  flows : (v : ℕ) → v < N.nodes → outflow N (pushed_all s at c j) v + pick (eqb (u 0) v) c 0 ≡ inflow N (pushed_all s at c j) v + pick (eqb (u j) v) c 0
  gains :
      gain N (pushed_all s at c j) + c * span (λ t. (residual N s c).down (at t)) j ≡ gain N s + c * span (λ t. (residual N s c).up (at t)) j

module _ (N : Network) (s : ℕ → ℕ) (c m : ℕ) (u at : ℕ → ℕ) (even : Circulation N s) (ring : Gaining (residual N s c) m u at) where
  begin : Going N s u at c m 0
  unfolding pushed_all span
  begin =
      record {
        within = even.within;
        rooms = rooms_ahead N s c m u at ring 0;
        flows = λ v h. ap (λ z. z + pick (eqb (u 0) v) c 0) (even.even v h);
        gains = refl;
      }

  go : (j : ℕ) → j < m → Going N s u at c m j → Going N s u at c m (suc j)
  unfolding pushed_all span
  go j l at_j =
      let now = pushed_all s at c j in
      let f = at j in
      let there = (ring.there j l).0 in
      let enough : c ≤ room_of N now f = rooms_ahead N s c m u at ring j j (omega arith) l in
      record {
        within = push_within N now f c there enough at_j.within;
        rooms = rooms_ahead N s c m u at ring (suc j);
        flows = λ v h.
            let p = push_flow N now f c there enough v in
            let q = at_j.flows v h in
            let a = ap (λ z. pick (eqb z v) c 0) (ring.heads j l) in
            let b = ap (λ z. pick (eqb z v) c 0) (ring.tails j l) in
            omega arith;
        gains =
            let p = push_gain N now f c there enough in
            let q = at_j.gains in
            omega arith;
      }

  goes : (j : ℕ) → j ≤ m → Going N s u at c m j
  goes zero l = begin
  goes (suc j) l = go j (omega arith) (goes j (omega arith))

  -- all the way round
  round_circulation : Circulation N (pushed_all s at c m)
  round_circulation =
      let end = goes m (omega arith) in
      record {
        within = end.within;
        even = λ v h. let p = end.flows v h in let q = ap (λ z. pick (eqb z v) c 0) ring.closed in omega arith;
      }

  round_gain : gain N s + c ≤ gain N (pushed_all s at c m)
  round_gain =
      let p = (goes m (omega arith)).gains in
      let down = span (λ t. (residual N s c).down (at t)) m in
      let up = span (λ t. (residual N s c).up (at t)) m in
      let more = mul-le-mul_left {m = down + 1} {n = up} c (let g = ring.gains in omega arith) in
      omega arith

pub ring_gains : RingGains
unfolding RingGains
ring_gains N s c m u at even ring = (round_circulation N s c m u at even ring, round_gain N s c m u at even ring)
