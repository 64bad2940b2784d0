-- A day is the network in which all arcs are among the first that count: what is certified of it is shown of the day. Assumes nothing.
use Rattle.std.proofs.Common.{◌≡◌, ℕ, ◌<◌, ltb, ap, arith}
use Rattle.std.proofs.lemmas.Bool.{lt-ltb}
use Rattle.day.specs.Bills.{Day, pick, let_off, lets_off, SetOff, total}
use Rattle.setoff.proofs.Spans.{span_ext}
use Rattle.heights.specs.Network.{Network, outflow, inflow, Circulation, gain, unit, Fit, Certified}
use Rattle.heights.specs.Promise.{Fits, Shown, Slackness}
use Rattle.heights.proofs.Days.{slackness}

module _ (d : Day) (tails : (e : ℕ) → e < d.invoices → d.from e < d.firms) (heads : (e : ℕ) → e < d.invoices → d.to e < d.firms) where
  abbrev pub counted : Network
  counted =
      record {
        nodes = d.firms;
        arcs = d.invoices;
        tail = d.from;
        head = d.to;
        capacity = d.amount;
        counts = λ e. ltb e d.invoices;
        tail_there = tails;
        head_there = heads;
      }

  pub circulation : (s : ℕ → ℕ) → SetOff d s → Circulation counted s
  unfolding let_off lets_off outflow inflow
  circulation s set = record { within = set.within; even = set.even }

  pub set_off : (s : ℕ → ℕ) → Circulation counted s → SetOff d s
  unfolding let_off lets_off outflow inflow
  set_off s even = record { within = even.within; even = even.even }

  -- below the number of invoices each arc counts
  one_each : (e : ℕ) → e < d.invoices → unit counted e ≡ 1
  one_each e l = ap (λ b. pick b 1 0) (lt-ltb e d.invoices l)

  pub gain-total : (s : ℕ → ℕ) → gain counted s ≡ total d s
  unfolding gain
  gain-total s = span_ext (λ e. pick (ltb e d.invoices) (s e) 0) s d.invoices (λ e l. ap (λ b. pick b (s e) 0) (lt-ltb e d.invoices l))

  fits : (s h : ℕ → ℕ) → Fit counted s h → Fits d s h
  fits s h fit =
      record { left = λ e l left. omega (arith, fit.left e l left, one_each e l); struck = λ e l some. omega (arith, fit.used e l some, one_each e l) }

  fit : (s h : ℕ → ℕ) → Fits d s h → Fit counted s h
  fit s h fitting =
      record { left = λ e l left. omega (arith, fitting.left e l left, one_each e l); used = λ e l some. omega (arith, fitting.struck e l some, one_each e l) }

  pub shown : (s h : ℕ → ℕ) → Certified counted s h → Shown d s h
  unfolding Slackness
  shown s h certified =
      let set = set_off s certified.maximum.is in
      let fitting = fits s h certified.fit in
      record {
        greatest = record {
          is = set;
          most = λ q other. omega (arith, gain-total q, gain-total s, certified.maximum.most q (circulation q other));
        };
        tight = (slackness d s h set).1 fitting;
        fits = fitting;
        low = certified.low;
        least = λ g other. certified.least g (fit s g other);
      }
