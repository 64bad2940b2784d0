-- The search run: in rounds over all steps, until every step is fitted or a ring gains. Assumes nothing.
use Rattle.std.proofs.Common.{ℕ, zero, suc, ◌+◌, ◌-◌, ◌<◌, ◌≤◌, ◌⊎◌, sym, subst, inl, inr, arith}
use Rattle.std.proofs.lemmas.Bool.{cases_eq, cases_lt}
use Rattle.heights.specs.Residual.{Steps, Open, Fitted}
use Rattle.heights.specs.Promise.{SearchEnds}
use Rattle.heights.specs.Search.{put, Searched, rings, fits}
use Rattle.heights.proofs.Searching.{begins, passes, raises}
use Rattle.heights.proofs.Chains.{late_ring}

-- numbers and last steps, with what the search keeps true of them
pub record State (S : Steps) (k i : ℕ) : Type 0 where
  pub num : ℕ → ℕ
  pub last : ℕ → ℕ
  pub kept : Searched S k i num last

-- step i is open and would gain, or else it is passed over
abbrev Gains : Steps → (ℕ → ℕ) → ℕ → Type 0
Gains S num f = Open S f × (num (S.head f) + S.down f < num (S.tail f) + S.up f)

tried : (S : Steps) (num : ℕ → ℕ) (i : ℕ) → Gains S num i ⊎ (Open S i → Fitted S num i)
tried S num i = elim (cases_lt (num (S.head i) + S.down i) (num (S.tail i) + S.up i)) [
  | inr fitted ↦ inr (λ o. fitted)
  | inl gain ↦ elim (cases_lt i S.steps) [
    | inr past ↦ inr (λ o. absurd (omega (arith, o.0)))
    | inl there ↦ elim (cases_lt (S.room i) S.least) [
      | inl small ↦ inr (λ o. absurd (omega (arith, o.1)))
      | inr enough ↦ inl ((there, enough), gain)
    ]
  ]
]

step : (S : Steps) (k i : ℕ) → State S k i → State S k (suc i)
step S k i st = elim (tried S st.num i) [
  | inr fitted ↦ record { num = st.num; last = st.last; kept = passes S k i st.num st.last st.kept fitted }
  | inl (there, gain) ↦ record {
    num = put st.num (S.head i) ((st.num (S.tail i) + S.up i) - S.down i);
    last = put st.last (S.head i) (suc i);
    kept = raises S k i st.num st.last st.kept there gain;
  }
]

round : (S : Steps) (k i : ℕ) → State S k 0 → State S k i
round S k zero st = st
round S k (suc i) st = step S k i (round S k i st)

-- all steps passed, so the next round begins
pub next_round : (S : Steps) (k : ℕ) (num last : ℕ → ℕ) → Searched S k S.steps num last → Searched S (suc k) 0 num last
next_round S k num last at =
    record {
      when = at.when;
      rank = at.rank;
      root = at.root;
      link = at.link;
      recent = λ v. omega (arith, at.recent v);
      passed = λ f o l. absurd (omega arith);
      ahead = λ f o l. elim (at.passed f o o.0) [ inl fitted ↦ inl fitted | inr late ↦ inr (omega arith) ];
    }

begun : (S : Steps) (k : ℕ) → State S (suc k) 0
begun S zero = record { num = λ v. 0; last = λ v. 0; kept = begins S }
begun S (suc k) =
    let st = round S (suc k) S.steps (begun S k) in
    record { num = st.num; last = st.last; kept = next_round S (suc k) st.num st.last st.kept }

-- whether a step below i would gain
gaining : (S : Steps) (num : ℕ → ℕ) (i : ℕ) → ((f : ℕ) × Gains S num f) ⊎ ((f : ℕ) → f < i → Open S f → Fitted S num f)
gaining S num zero = inr (λ f l. absurd (omega arith))
gaining S num (suc i) = elim (gaining S num i) [
  | inl found ↦ inl found
  | inr all ↦ elim (tried S num i) [
    | inl gain ↦ inl (i, gain)
    | inr here ↦ inr
        (λ f l. elim (cases_eq f i) [
          | inl same ↦ subst (λ g. Open S g → Fitted S num g) (sym same) here
          | inr before ↦ all f (omega arith)
        ])
  ]
]

-- as many rounds as there are nodes, and one, are enough
pub search_ends : SearchEnds
unfolding SearchEnds
search_ends S there =
    let n = S.nodes in
    let st = round S (suc n) S.steps (begun S n) in
    elim (gaining S st.num S.steps) [
      | inr all ↦ fits (suc n) S.steps st.num st.last st.kept (λ f o. all f o.0 o)
      | inl (f, (there_f, gain)) ↦
          let late : suc n ≤ st.kept.when (S.tail f)
          = elim (st.kept.passed f there_f there_f.0) [ inl fitted ↦ absurd (omega arith) | inr late ↦ omega arith ] in
          let (m, u, at, ring) = late_ring S there (suc n) S.steps st.num st.last st.kept (S.tail f) (there f there_f.0) (omega arith) in
          rings m u at ring
    ]
