-- What a round of the search comes to: both steps of an arc tried, last steps that end or close, and numbers that stay low. Assumes nothing.
use Rattle.std.proofs.Common.{◌≡◌, ℕ, zero, suc, ◌+◌, ◌-◌, ◌*◌, ◌<◌, ◌≤◌, true, length, is_some, Some, None, Option, sym, refl, ap, ◌∙◌, subst, inl, inr, arith}
use Rattle.std.proofs.lemmas.Bool.{cases_eq, false≢true}
use Rattle.day.specs.Bills.{reads}
use Rattle.heights.specs.Residual.{Steps, Fitted, Gaining}
use Rattle.heights.specs.Search.{put, Link, Searched, back}
use Rattle.heights.proofs.Searching.{put_same, put_other}
use Rattle.heights.proofs.Chains.{back as back_by, back-along, chain_gains, when_back, risen}
use Rattle.rings.specs.Chains.{Closed, Ends}
use Rattle.rings.specs.Numbers.{levels}
use Rattle.rings.specs.Tries.{Raised, Tried, ArcTried}
use Rattle.rings.specs.declared.scratch.Scratch.{Scratch}
use Rattle.rings.proofs.Following.{back-add}
use Rattle.rings.proofs.Going.{Going, later, levels-set, passes_on, tries_on}

-- step j is step i the other way round
pub record Opposite (S : Steps) (i j : ℕ) : Type 0 where
  pub tail : S.tail j ≡ S.head i
  pub head : S.head j ≡ S.tail i
  pub up : S.up j ≡ S.down i
  pub down : S.down j ≡ S.up i

-- nodes are there, the steps of an arc are opposite, and none gains more than a cent
pub record Lawful (S : Steps) : Type 0 where
  pub tails : (f : ℕ) → f < S.steps → S.tail f < S.nodes
  pub heads : (f : ℕ) → f < S.steps → S.head f < S.nodes
  pub turn : (e : ℕ) → Opposite S (2 * e) (2 * e + 1)
  pub small : (f : ℕ) → S.up f ≤ 1
  pub small_down : (f : ℕ) → S.down f ≤ 1

module _ (S : Steps) where
  -- a step that has just raised its head leaves nothing to gain on the way back
  back_fitted : (i j : ℕ) (w w' : Scratch) (v : ℕ) → Opposite S i j → length w.number.now ≡ S.nodes → v < S.nodes → Raised S i w w' v → Fitted S (levels w'.number.now) j
  back_fitted i j w w' v turn each below up =
      let num = levels w.number.now in
      let num' = levels w'.number.now in
      let x = (num (S.tail i) + S.up i) - S.down i in
      let new : (u : ℕ) → num' u ≡ put num v x u = λ u. ap (λ row. levels row u) up.number ∙ sym (ap (λ g. g u) (levels-set w.number.now v x (omega arith))) in
      let gains = up.gains in
      let at_head : num' (S.tail j) ≡ x = new (S.tail j) ∙ put_same num v x (S.tail j) (turn.tail ∙ sym up.node) in
      let at_tail : num (S.tail i) ≤ num' (S.head j) = elim (cases_eq (S.tail i) v) [
        | inl loop ↦ omega (arith, new (S.head j), put_same num v x (S.head j) (turn.head ∙ loop), ap num (loop ∙ up.node))
        | inr other ↦ omega (arith, new (S.head j), put_other num v x (S.head j) (λ e. other (sym turn.head ∙ e)), ap num turn.head)
      ] in
      omega (arith, turn.up, turn.down)

  module _ (k e : ℕ) (law : Lawful S) (w w' : Scratch) (each : length w.number.now ≡ S.nodes) (each' : length w.last.now ≡ S.nodes) where
    pub arc_on : (r before : Option ℕ) → ArcTried S e w w' r → Going S k (2 * e) (levels w.number.now) (reads w.last.now) before →
        Going S k (2 * (e + 1)) (levels w'.number.now) (reads w'.last.now) (later r before)
    arc_on r before tried going = elim tried [
      | inl (some, first) ↦ along r some first
      | inr (fitted, second) ↦
          let even : suc (2 * e) ≡ 2 * e + 1 = omega arith in
          let next : suc (2 * e + 1) ≡ 2 * (e + 1) = omega arith in
          subst (λ i. Going S k i (levels w'.number.now) (reads w'.last.now) (later r before)) next
          (tries_on S k (2 * e + 1) w w' r before each each' law.heads second
          (subst (λ i. Going S k i (levels w.number.now) (reads w.last.now) before) even (passes_on S k (2 * e) (levels w.number.now) (reads w.last.now) before fitted going)))
    ]
      where
        along : (r : Option ℕ) → is_some r ≡ true → Tried S (2 * e) w w' r → Going S k (2 * (e + 1)) (levels w'.number.now) (reads w'.last.now) (later r before)
        along None some first = absurd (false≢true some)
        along (Some v) some first =
            let even : suc (2 * e) ≡ 2 * e + 1 = omega arith in
            let next : suc (suc (2 * e)) ≡ 2 * (e + 1) = omega arith in
            let below : v < S.nodes = subst (λ u. u < S.nodes) (sym first.node) (law.heads (2 * e) first.there.0) in
            let fitted = back_fitted (2 * e) (2 * e + 1) w w' v (law.turn e) each below first in
            subst (λ i. Going S k i (levels w'.number.now) (reads w'.last.now) (Some v)) next
            (passes_on S k (suc (2 * e)) (levels w'.number.now) (reads w'.last.now) (Some v) (λ o. subst (λ g. Fitted S (levels w'.number.now) g) (sym even) fitted)
            (tries_on S k (2 * e) w w' (Some v) before each each' law.heads first going))

  module _ (k i : ℕ) (num last : ℕ → ℕ) (at : Searched S k i num last) where
    -- last steps are steps
    pub lasts_there : (v : ℕ) → last v ≤ S.steps
    lasts_there v = by (last v) refl
      where
        by : (x : ℕ) → last v ≡ x → x ≤ S.steps
        by zero e = omega arith
        by (suc f) e = omega (arith, (at.link v f e).there.0)

    -- every closed chain of last steps is a ring that gains
    pub closed_gains : (start m : ℕ) (steps : ℕ → ℕ) → Closed S.tail last start m steps → Gaining S m (back S.tail last start) steps
    closed_gains start m steps ring =
        let u = back S.tail last start in
        let links : (j : ℕ) → j < m → Link S num at.when at.rank (u j) (steps j) = λ j l. at.link (u j) (steps j) (ring.steps j l) in
        let tails : (j : ℕ) → j < m → S.tail (steps j) ≡ u (suc j) = λ j l. ap S.tail (omega (arith, ring.steps j l)) in
        record {
          some = ring.some;
          there = λ j l. (links j l).there;
          heads = λ j l. (links j l).ends;
          tails = tails;
          closed = ring.closes;
          apart = λ i j l below same.
              ring.first (i + (m - j)) (omega arith) (omega arith)
              (sym (back-add m S.tail last start i (m - j)) ∙ ap (λ w. back S.tail last w (m - j)) same ∙ back-add m S.tail last start j (m - j)
              ∙ ap u (let e : j + (m - j) ≡ m = omega arith in e) ∙ ring.closes);
          gains = chain_gains S num at.when at.rank u steps m ring.some links tails ring.closes;
        }

    module _ (law : Lawful S) where
      -- last steps don't end behind a node that was raised in a round as late as there are nodes, or to such a number
      pub late_goes_on : (v : ℕ) → S.nodes ≤ at.when v → Ends S.nodes S.tail last v → ⊥
      late_goes_on v late end =
          (when_back S law.tails k i num last at v S.nodes late).1 end.at end.few (ap last (sym (back-along S last v end.at)) ∙ end.root)

      pub high_goes_on : (v : ℕ) → S.nodes ≤ num v → Ends S.nodes S.tail last v → ⊥
      high_goes_on v high end =
          let long = λ (t : ℕ) (l : t < end.at) (root : last (back_by S last v t) ≡ 0). end.long t l (ap last (back-along S last v t) ∙ root) in
          let root = ap last (sym (back-along S last v end.at)) ∙ end.root in
          omega (arith, risen S law.tails k i num last at law.small v end.at long, (at.root (back_by S last v end.at) root).0, end.few)
