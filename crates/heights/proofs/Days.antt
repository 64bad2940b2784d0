-- The theorems of the clearing day: a day is the network in which every arc counts. Assumes nothing.
use Rattle.std.proofs.Common.{◌≡◌, ℕ, ◌+◌, ◌-◌, ◌*◌, ◌<◌, eqb, refl, ap, ◌∙◌, mul-le-mul_left, arith}
use Rattle.day.specs.Bills.{Day, pick, let_off, lets_off, SetOff, total, Greatest, bound, Ring, one, more}
use Rattle.setoff.specs.Promise.{left_by}
use Rattle.setoff.proofs.Spans.{pick_same, pick_other, span_differ}
use Rattle.heights.specs.Network.{network_of, outflow, inflow, Circulation, gain, Maximum, dual, Fit, Certified}
use Rattle.heights.specs.Promise.{Fits, Shown, Always, AlwaysFrom, HeightsBound, MeetsIsGreatest, Slackness, NoRingLeft, raised, Raise}
use Rattle.heights.proofs.Duality.{gain-le-dual, tight_fit, fit_tight, tight_maximum}
use Rattle.heights.proofs.Existence.{always_from, nothing_even}

pub circulation : {d : Day} {s : ℕ → ℕ} → SetOff d s → Circulation (network_of d) s
unfolding let_off lets_off outflow inflow
circulation set = record { within = set.within; even = set.even }

pub set_off : {d : Day} {s : ℕ → ℕ} → Circulation (network_of d) s → SetOff d s
unfolding let_off lets_off outflow inflow
set_off even = record { within = even.within; even = even.even }

-- by computation: a day's total and bound are the gain and the dual of its network
greatest : {d : Day} {s : ℕ → ℕ} → Maximum (network_of d) s → Greatest d s
unfolding gain
greatest max = record { is = set_off max.is; most = λ q set. max.most q (circulation set) }

fits : {d : Day} {s h : ℕ → ℕ} → Fit (network_of d) s h → Fits d s h
fits fit = record { left = fit.left; struck = fit.used }

fit : {d : Day} {s h : ℕ → ℕ} → Fits d s h → Fit (network_of d) s h
fit fits = record { left = fits.left; used = fits.struck }

pub heights_bound : HeightsBound
unfolding HeightsBound gain dual bound
heights_bound d s h set = gain-le-dual (network_of d) s h (circulation set)

pub meets_is_greatest : MeetsIsGreatest
unfolding MeetsIsGreatest gain dual bound
meets_is_greatest d s h set meets = greatest (tight_maximum (network_of d) s h (circulation set) meets)

pub slackness : Slackness
unfolding Slackness gain dual bound
slackness d s h set =
    (λ meets. fits (tight_fit (network_of d) s h (circulation set) meets), λ fitting. fit_tight (network_of d) s h (circulation set) (fit fitting))

pub shown : {d : Day} {s h : ℕ → ℕ} → Certified (network_of d) s h → Shown d s h
unfolding gain dual bound
shown certified =
    record {
      greatest = greatest certified.maximum;
      tight = certified.tight;
      fits = fits certified.fit;
      low = certified.low;
      least = λ g fitting. certified.least g (fit fitting);
    }

pub always : Always
unfolding Always AlwaysFrom
always d = let found = always_from (network_of d) (λ e. 0) (nothing_even (network_of d)) in (found.0, found.1, shown found.2)

-- heights that show one greatest set-off show every other
shows : (d : Day) (s : ℕ → ℕ) → Greatest d s → (h : ℕ → ℕ) × (total d s ≡ bound d h) × ((v : ℕ) → v < d.firms → h v < d.firms)
unfolding Always
shows d s most =
    let found = always d in
    let q = found.0 in
    let sh = found.2 in
    let up = most.most q sh.greatest.is in
    let down = sh.greatest.most s most.is in
    (found.1, omega (arith, sh.tight), sh.low)

-- along what is left heights rise
rises : (d : Day) (s h : ℕ → ℕ) → Fits d s h → {v w : ℕ} → Ring d (left_by d s) v w → h v < h w
rises d s h fitting (one e there some) = omega (arith, fitting.left e there (omega arith))
rises d s h fitting (more e ring there some) = let before = rises d s h fitting ring in omega (arith, fitting.left e there (omega arith))

pub no_ring_left : NoRingLeft
unfolding NoRingLeft Slackness
no_ring_left d s v most ring =
    let show = shows d s most in
    let up = rises d s show.0 ((slackness d s show.0 most.is).0 show.1) ring in
    omega arith

-- the bound of the raised day is larger on one invoice only
bound-raised : (d : Day) (h : ℕ → ℕ) (e c : ℕ) → e < d.invoices → bound (raised d e c) h ≡ bound d h + c * ((h (d.from e) + 1) - h (d.to e))
unfolding bound raised
bound-raised d h e c there =
    let w : ℕ → ℕ = λ i. (h (d.from i) + 1) - h (d.to i) in
    let p =
    span_differ (λ i. (d.amount i + pick (eqb i e) c 0) * w i) (λ i. d.amount i * w i) d.invoices e there
    (λ i l other. ap (λ z. (d.amount i + z) * w i) (pick_other i e c 0 other) ∙ omega arith) in
    let q : (d.amount e + pick (eqb e e) c 0) * w e ≡ (d.amount e + c) * w e = ap (λ z. (d.amount e + z) * w e) (pick_same e e c 0 refl) in
    omega arith

pub raise : Raise
unfolding Raise raised let_off lets_off HeightsBound
raise d s q e c there most raised_most =
    let still : SetOff (raised d e c) s = record { within = λ i l. omega (arith, most.is.within i l); even = most.is.even } in
    let show = shows d s most in
    let h = show.0 in
    let above = heights_bound (raised d e c) q h raised_most.is in
    let times = mul-le-mul_left {m = (h (d.from e) + 1) - h (d.to e)} {n = d.firms} c (omega (arith, show.2 (d.from e) (d.from_there e there))) in
    (raised_most.most s still, omega (arith, bound-raised d h e c there, show.1))
