-- Invoices of two sorts without a common firm clear apart: one sort of any set-off can stand in a greatest one. Assumes nothing.
use borrow.Author.Tests.{tests}
use Rattle.std.proofs.Common.{rules, ◌≡◌, ℕ, ◌+◌, ◌<◌, ◌≤◌, Bool, true, false, not, ◌&&◌, ◌||◌, eqb, ◌⊎◌, sym, refl, ap, ◌∙◌, inl, inr, arith}
use Rattle.std.proofs.lemmas.Bool.{cases_Bool, cases_eq, and_parts, and_cases, not-true, not-false}
use Rattle.day.specs.Bills.{Day, pick, span, let_off, lets_off, SetOff, Greatest}
use Rattle.setoff.specs.Promise.{Strangers, Apart}
use Rattle.setoff.proofs.Places.{some_below}
use Rattle.setoff.proofs.Spans.{pick_other, span_ext, span-add}

-- invoices of the first sort and of the second have no firm in common
abbrev Split : Day → (ℕ → Bool) → Type 0
Split d sort = (e f : ℕ) → e < d.invoices → f < d.invoices → sort e ≡ true → sort f ≡ false → Strangers d e f

-- of the first sort as q, of the second as s
abbrev spliced : (ℕ → Bool) → (ℕ → ℕ) → (ℕ → ℕ) → ℕ → ℕ
spliced sort q s e = pick (sort e) (q e) (s e)

-- invoice e is at firm v
abbrev AtFirm : Day → ℕ → ℕ → Type 0
AtFirm d v e = (d.from e ≡ v) ⊎ (d.to e ≡ v)

strangers_apart : (d : Day) (e f v : ℕ) → Strangers d e f → AtFirm d v e → AtFirm d v f → ⊥
strangers_apart d e f v apart (inl p) (inl q) = apart.0 (p ∙ sym q)
strangers_apart d e f v apart (inl p) (inr q) = apart.1 (p ∙ sym q)
strangers_apart d e f v apart (inr p) (inl q) = apart.2 (p ∙ sym q)
strangers_apart d e f v apart (inr p) (inr q) = apart.3 (p ∙ sym q)

at_by_test : (d : Day) (v e : ℕ) → (eqb (d.from e) v || eqb (d.to e) v) ≡ true → AtFirm d v e
at_by_test d v e test = search (rules, tests)

not_by_test : (d : Day) (v e : ℕ) → (eqb (d.from e) v || eqb (d.to e) v) ≡ false → AtFirm d v e → ⊥
not_by_test d v e test at = search (rules, tests)

module _ (d : Day) (sort : ℕ → Bool) (split : Split d sort) (q s : ℕ → ℕ) where
  -- all invoices at a firm are of one sort, so that r has of them what q has, or what s has
  one_sort : (v : ℕ) →
      ((e : ℕ) → e < d.invoices → AtFirm d v e → spliced sort q s e ≡ q e) ⊎ ((e : ℕ) → e < d.invoices → AtFirm d v e → spliced sort q s e ≡ s e)
  one_sort v = elim (some_below (λ e. sort e && (eqb (d.from e) v || eqb (d.to e) v)) d.invoices) [
    | inl (e, there, test) ↦
        let parts = and_parts (sort e) (eqb (d.from e) v || eqb (d.to e) v) test in
        inl
        (λ f l at. elim (cases_Bool (sort f)) [
          | inl first ↦ ap (λ b. pick b (q f) (s f)) first
          | inr second ↦ absurd (strangers_apart d e f v (split e f there l parts.0 second) (at_by_test d v e parts.1) at)
        ])
    | inr none ↦ inr
        (λ f l at. elim (and_cases (sort f) (eqb (d.from f) v || eqb (d.to f) v) (none f l)) [
          | inl second ↦ ap (λ b. pick b (q f) (s f)) second
          | inr away ↦ absurd (not_by_test d v f away at)
        ])
  ]

  -- where r is x at firm v, so is what it is let off there
  like : (r x place : ℕ → ℕ) (v : ℕ) → ((e : ℕ) → e < d.invoices → place e ≡ v → r e ≡ x e) →
      span (λ e. pick (eqb (place e) v) (r e) 0) d.invoices ≡ span (λ e. pick (eqb (place e) v) (x e) 0) d.invoices
  like r x place v same = span_ext (λ e. pick (eqb (place e) v) (r e) 0) (λ e. pick (eqb (place e) v) (x e) 0) d.invoices
      (λ e l. elim (cases_eq (place e) v) [
        | inl at ↦ ap (λ z. pick (eqb (place e) v) z 0) (same e l at)
        | inr away ↦ pick_other (place e) v (r e) 0 away ∙ sym (pick_other (place e) v (x e) 0 away)
      ])

  even_like : (x : ℕ → ℕ) (v : ℕ) → v < d.firms → SetOff d x → ((e : ℕ) → e < d.invoices → AtFirm d v e → spliced sort q s e ≡ x e) →
      let_off d (spliced sort q s) v ≡ lets_off d (spliced sort q s) v
  unfolding let_off lets_off
  even_like x v there set same =
      like (spliced sort q s) x d.from v (λ e l at. same e l (inl at))
      ∙ set.even v there
      ∙ sym (like (spliced sort q s) x d.to v (λ e l at. same e l (inr at)))

  splice : SetOff d q → SetOff d s → SetOff d (spliced sort q s)
  splice one two =
      record {
        within = λ e l. by (sort e) (q e) (s e) (d.amount e) (one.within e l) (two.within e l);
        even = λ v there. elim (one_sort v) [ inl same ↦ even_like q v there one same | inr same ↦ even_like s v there two same ];
      }
    where
      by : (b : Bool) (x y a : ℕ) → x ≤ a → y ≤ a → pick b x y ≤ a
      by true x y a p r = p
      by false x y a p r = r

parts_of : (sort : ℕ → Bool) (q s : ℕ → ℕ) (k : ℕ) →
    span (spliced sort q s) k ≡ span (λ e. pick (sort e) (q e) 0) k + span (λ e. pick (not (sort e)) (s e) 0) k
parts_of sort q s k =
    span_ext (spliced sort q s) (λ e. pick (sort e) (q e) 0 + pick (not (sort e)) (s e) 0) k (λ e l. by (sort e) (q e) (s e))
    ∙ span-add (λ e. pick (sort e) (q e) 0) (λ e. pick (not (sort e)) (s e) 0) k
  where
    by : (b : Bool) (x y : ℕ) → pick b x y ≡ pick b x 0 + pick (not b) y 0
    by true x y = omega arith
    by false x y = omega arith

-- the first sort
first_sort : (d : Day) (s : ℕ → ℕ) (sort : ℕ → Bool) → Greatest d s → Split d sort → (q : ℕ → ℕ) → SetOff d q →
    span (λ e. pick (sort e) (q e) 0) d.invoices ≤ span (λ e. pick (sort e) (s e) 0) d.invoices
first_sort d s sort greatest split q set =
    let most = greatest.most (spliced sort q s) (splice d sort split q s set greatest.is) in
    let whole : span (spliced sort s s) d.invoices ≡ span s d.invoices
    = span_ext (spliced sort s s) s d.invoices (λ e l. by (sort e) (s e)) in
    omega (arith, parts_of sort q s d.invoices, parts_of sort s s d.invoices)
  where
    by : (b : Bool) (x : ℕ) → pick b x x ≡ x
    by true x = refl
    by false x = refl

-- and the second, which is the first of the opposite sorting
pub apart : Apart
unfolding Apart
apart d s sort greatest split q set = (
  first_sort d s sort greatest split q set,
  first_sort d s (λ e. not (sort e)) greatest
      (λ e f l m p r.
      let far = split f e m l (not-false (sort f) r) (not-true (sort e) p) in
      (λ x. far.0 (sym x), λ x. far.2 (sym x), λ x. far.1 (sym x), λ x. far.3 (sym x)))
      q set,
)
