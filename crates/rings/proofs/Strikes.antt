-- Cents pushed along one step, written in a row; and that a ring that gains can take them. Assumes nothing.
use Rattle.std.proofs.Common.{◌≡◌, ℕ, suc, ◌+◌, ◌-◌, ◌/◌, ◌%◌, ◌^◌, ◌<◌, ◌≤◌, Bool, true, false, ◌≢◌, List, length, set, take, sym, refl, ap, ◌∙◌, subst, inl, inr, arith}
use Rattle.std.proofs.lemmas.List.{get_or-set_same, get_or-set_other, get_or-take, length-take-le}
use Rattle.std.proofs.lemmas.Bool.{cases_eq, eq-eqb, ne_eqb}
use Rattle.day.specs.Bills.{pick, reads}
use Rattle.setoff.proofs.Spans.{span_ext}
use Rattle.heights.specs.Network.{Network, Circulation, gain}
use Rattle.heights.specs.Promise.{RingGains}
use Rattle.heights.specs.Residual.{Steps, Open, along, room_of, residual, Gaining, pushed, pushed_all}
use Rattle.heights.proofs.Pushing.{pushed_at, pushed_other, rooms_ahead, ring_gains}
use Rattle.rings.specs.Found.{Ringed}
use Rattle.rings.specs.Improving.{PushedRound}
use Rattle.rings.specs.Striking.{Smallest, Holds, Pushable}

module _ (flow : List ℕ) (f c e x : ℕ) (arc : e ≡ f / 2) (there : e < length flow) (new : x ≡ pick (along f) (reads flow e + c) (reads flow e - c)) where
  pub pushed-set : reads (set flow e x) ≡ pushed (reads flow) f c
  pushed-set = λ i p. at p i
    where
      at : (p : ℕ) → reads (set flow e x) p ≡ pushed (reads flow) f c p
      at p = elim (cases_eq p e) [
        | inl same ↦
            ap (reads (set flow e x)) same ∙ get_or-set_same flow e x 0 there ∙ new
            ∙ sym (ap (pushed (reads flow) f c) same ∙ pushed_at (reads flow) f c e arc)
        | inr other ↦ get_or-set_other flow e p x 0 other ∙ sym (pushed_other (reads flow) f c p (λ q. other (q ∙ sym arc)))
      ]

  -- one step more
  pub pushed_more : (s at : ℕ → ℕ) (j : ℕ) → f ≡ at j → reads flow ≡ pushed_all s at c j → reads (set flow e x) ≡ pushed_all s at c (j + 1)
  unfolding pushed_all
  pushed_more s at j step so_far =
      let one : suc j ≡ j + 1 = omega arith in
      pushed-set ∙ ap (λ g. pushed (reads flow) g c) step ∙ ap (λ q. pushed q (at j) c) so_far ∙ ap (pushed_all s at c) one

pub pushed_none : (s at : ℕ → ℕ) (c : ℕ) → s ≡ pushed_all s at c 0
unfolding pushed_all
pushed_none s at c = refl

-- the way that a step goes
pub forth : (f : ℕ) → f % 2 ≡ 0 → along f ≡ true
forth f e = eq-eqb (f % 2) 0 e

pub backward : (f : ℕ) → f % 2 ≢ 0 → along f ≡ false
backward f e = ne_eqb (f % 2) 0 e

-- a ring that gains has room for the smallest room of its steps, cents that fit the row
pub narrowed : (N : Network) (s : ℕ → ℕ) (least m c : ℕ) (u at : ℕ → ℕ) → Gaining (residual N s least) m u at → ((j : ℕ) → j < m → c ≤ room_of N s (at j)) →
    Gaining (residual N s c) m u at
narrowed N s least m c u at ring room =
    record {
      some = ring.some;
      there = λ j l. ((ring.there j l).0, room j l);
      heads = ring.heads;
      tails = ring.tails;
      closed = ring.closed;
      apart = ring.apart;
      gains = ring.gains;
    }

-- the ring as it stands in the row's first m places, which are the whole of a shorter row
shortened : (S : Steps) (m : ℕ) (u : ℕ → ℕ) (ring : List ℕ) → m ≤ length ring → Gaining S m u (reads ring) → Gaining S (length (take m ring)) u (reads (take m ring))
shortened S m u ring fits found = subst (λ k. Gaining S k u at) (sym (length-take-le m ring fits)) record {
  some = found.some;
  there = λ j l. subst (Open S) (sym (same j l)) (found.there j l);
  heads = λ j l. ap S.head (same j l) ∙ found.heads j l;
  tails = λ j l. ap S.tail (same j l) ∙ found.tails j l;
  closed = found.closed;
  apart = found.apart;
  gains = rw (span_ext (λ j. S.down (at j)) (λ j. S.down (reads ring j)) m (λ j l. ap S.down (same j l)), span_ext (λ j. S.up (at j)) (λ j. S.up (reads ring j)) m (λ j l. ap S.up (same j l))) found.gains;
}
  where
    at : ℕ → ℕ
    at = reads (take m ring)

    same : (j : ℕ) → j < m → at j ≡ reads ring j
    same j l = get_or-take m ring j 0 l

pub pushable : (N : Network) (s : ℕ → ℕ) (m c : ℕ) (u at : ℕ → ℕ) → 1 ≤ c → ((e : ℕ) → e < N.arcs → N.capacity e < 2 ^ 64) → Gaining (residual N s c) m u at → Pushable N.arcs s at m c
pushable N s m c u at some fits ring =
    record {
      there = λ j l. omega (arith, (ring.there j l).0);
      holds = λ j l. by (along (at j)) (N.capacity (at j / 2)) (pushed_all s at c j (at j / 2)) (fits (at j / 2) (omega (arith, (ring.there j l).0))) (rooms_ahead N s c m u at ring j j (omega arith) l);
    }
  where
    by : (b : Bool) (a q : ℕ) → a < 2 ^ 64 → c ≤ pick b (a - q) q → Holds b q c
    by true a q fits room = omega arith
    by false a q fits room = room

-- as many cents as a ring that gains has room for, pushed along its steps
module _ (N : Network) (s : ℕ → ℕ) (least m cents : ℕ) (row : List ℕ) (fits : m ≤ length row) (found : Ringed (residual N s least) m row)
    (smallest : Smallest (room_of N s) (reads (take m row)) (length (take m row)) cents) where
  abbrev at : ℕ → ℕ
  at = reads (take m row)

  ring : Gaining (residual N s least) (length (take m row)) found.1.0 at
  ring = shortened (residual N s least) m found.1.0 row fits found.1.1

  enough : least ≤ cents
  enough = omega (arith, smallest.one.2, (ring.there smallest.one.0 smallest.one.1).1)

  narrow : Gaining (residual N s cents) (length (take m row)) found.1.0 at
  narrow = narrowed N s least (length (take m row)) cents found.1.0 at ring smallest.each

  pub ring_pushable : (arcs : ℕ) → arcs ≡ N.arcs → 1 ≤ least → ((e : ℕ) → e < N.arcs → N.capacity e < 2 ^ 64) → Pushable arcs s at (length (take m row)) cents
  ring_pushable arcs each some bound =
      subst (λ k. Pushable k s at (length (take m row)) cents) (sym each) (pushable N s (length (take m row)) cents found.1.0 at (omega (arith, enough)) bound narrow)

  pub ring_pushed : (s' : ℕ → ℕ) → s' ≡ pushed_all s at cents (length (take m row)) → (least ≤ cents) × PushedRound N least s s' cents
  unfolding RingGains
  ring_pushed s' after = (
    enough,
    record {
      steps = length (take m row);
      node = found.1.0;
      at = at;
      ring = ring;
      smallest = smallest;
      after = after;
      gains = λ even. subst (λ q. Circulation N q × (gain N s + cents ≤ gain N q)) (sym after) (ring_gains N s cents (length (take m row)) found.1.0 at even narrow);
    },
  )
