-- The search keeps what it promises: as it begins, at a step that is passed over, and at a step that raises a node. Assumes nothing.
use Rattle.std.proofs.Common.{◌≡◌, ℕ, suc, ◌+◌, ◌-◌, ◌<◌, ◌≤◌, ◌≢◌, sym, refl, ap, ◌∙◌, subst, inl, inr, arith}
use Rattle.std.proofs.lemmas.Bool.{cases_eq}
use Rattle.setoff.proofs.Spans.{pick_same, pick_other}
use Rattle.heights.specs.Residual.{Steps, Open, Fitted}
use Rattle.heights.specs.Search.{put, Link, Searched}

pub put_same : (g : ℕ → ℕ) (v x w : ℕ) → w ≡ v → put g v x w ≡ x
unfolding put
put_same g v x w e = pick_same w v x (g w) e

pub put_other : (g : ℕ → ℕ) (v x w : ℕ) → w ≢ v → put g v x w ≡ g w
unfolding put
put_other g v x w e = pick_other w v x (g w) e

-- before the first round
pub begins : (S : Steps) → Searched S 1 0 (λ v. 0) (λ v. 0)
begins S =
    record {
      when = λ v. 0;
      rank = λ v. 0;
      root = λ v e. (refl, refl);
      link = λ v f e. absurd (let z : 0 ≡ suc f = e in omega arith);
      recent = λ v. omega arith;
      passed = λ f o l. absurd (omega arith);
      ahead = λ f o l. inr (omega arith);
    }

module _ (S : Steps) (k i : ℕ) (num last : ℕ → ℕ) (at : Searched S k i num last) where
  -- a step that is not open, or is fitted, is passed over
  pub passes : (Open S i → Fitted S num i) → Searched S k (suc i) num last
  passes fitted =
      record {
        when = at.when;
        rank = at.rank;
        root = at.root;
        link = at.link;
        recent = at.recent;
        passed = λ f o l. elim (cases_eq f i) [
          | inl here ↦ inl (subst (λ g. Fitted S num g) (sym here) (fitted (subst (λ g. Open S g) here o)))
          | inr before ↦ at.passed f o (omega arith)
        ];
        ahead = λ f o l. at.ahead f o (omega arith);
      }

  pub passes_when : (fitted : Open S i → Fitted S num i) (w : ℕ) → (passes fitted).when w ≡ at.when w
  unfolding passes
  passes_when fitted w = refl

  module _ (o : Open S i) (gain : num (S.head i) + S.down i < num (S.tail i) + S.up i) where
    abbrev v : ℕ
    v = S.head i

    abbrev u : ℕ
    u = S.tail i

    abbrev x : ℕ
    x = (num u + S.up i) - S.down i

    abbrev num' : ℕ → ℕ
    num' = put num v x

    abbrev when' : ℕ → ℕ
    when' = put at.when v k

    abbrev rank' : ℕ → ℕ
    rank' = put at.rank v (suc (at.rank u))

    -- numbers only rise
    rises : (w : ℕ) → num w ≤ num' w
    rises w = elim (cases_eq w v) [
      | inl e ↦ omega (arith, put_same num v x w e, ap num e)
      | inr ne ↦ omega (arith, put_other num v x w ne)
    ]

    later : (w : ℕ) → at.when w ≤ when' w
    later w = elim (cases_eq w v) [
      | inl e ↦ omega (arith, put_same at.when v k w e, at.recent w)
      | inr ne ↦ omega (arith, put_other at.when v k w ne)
    ]

    -- the step was ahead and not fitted, so its tail was raised in this round or in the one before
    fresh : k ≤ at.when u + 1
    fresh = elim (at.ahead i o (omega arith)) [ inl fitted ↦ absurd (omega arith) | inr late ↦ late ]

    link_new : Link S num' when' rank' v i
    link_new =
        let nv = put_same num v x v refl in
        let wv = put_same at.when v k v refl in
        let rv = put_same at.rank v (suc (at.rank u)) v refl in
        elim (cases_eq u v) [
          | inl loop ↦
              let nu = put_same num v x u loop in
              let wu = put_same at.when v k u loop in
              let same = ap num loop in
              record { there = o; ends = refl; rise = omega arith; falls = λ e. absurd (omega arith); soon = omega arith }
          | inr other ↦
              let nu = put_other num v x u other in
              let wu = put_other at.when v k u other in
              let ru = put_other at.rank v (suc (at.rank u)) u other in
              record { there = o; ends = refl; rise = omega arith; falls = λ e. omega arith; soon = omega (arith, fresh) }
        ]

    link_old : (w f : ℕ) → w ≢ v → Link S num at.when at.rank w f → Link S num' when' rank' w f
    link_old w f ne old =
        let t = S.tail f in
        let nw = put_other num v x w ne in
        let ww = put_other at.when v k w ne in
        let rw' = put_other at.rank v (suc (at.rank u)) w ne in
        let rise = old.rise in
        let soon = old.soon in
        elim (cases_eq t v) [
          | inl raised ↦
              let nt = put_same num v x t raised in
              let was = ap num raised in
              record {
                there = old.there;
                ends = old.ends;
                rise = omega (arith, rises t);
                falls = λ e. absurd (omega arith);
                soon = omega (arith, later t);
              }
          | inr other ↦
              let nt = put_other num v x t other in
              let wt = put_other at.when v k t other in
              let rt = put_other at.rank v (suc (at.rank u)) t other in
              record {
                there = old.there;
                ends = old.ends;
                rise = omega arith;
                falls = λ e. omega (arith, old.falls (omega arith));
                soon = omega arith;
              }
        ]

    -- a fitted step stays so unless its tail was raised
    still : (f : ℕ) → S.tail f ≢ v → Fitted S num f → Fitted S num' f
    still f ne fitted = omega (arith, put_other num v x (S.tail f) ne, rises (S.head f), fitted)

    pub raises : Searched S k (suc i) num' (put last v (suc i))
    raises =
        record {
          when = when';
          rank = rank';
          root = λ w e. elim (cases_eq w v) [
            | inl here ↦ absurd (omega (arith, put_same last v (suc i) w here))
            | inr ne ↦
                let old = at.root w (sym (put_other last v (suc i) w ne) ∙ e) in
                (put_other num v x w ne ∙ old.0, put_other at.when v k w ne ∙ old.1)
          ];
          link = λ w f e. elim (cases_eq w v) [
            | inl here ↦
                let which : i ≡ f = omega (arith, put_same last v (suc i) w here) in
                subst (λ y. Link S num' when' rank' y f) (sym here) (subst (λ g. Link S num' when' rank' v g) which link_new)
            | inr ne ↦ link_old w f ne (at.link w f (sym (put_other last v (suc i) w ne) ∙ e))
          ];
          recent = λ w. elim (cases_eq w v) [
            | inl here ↦ omega (arith, put_same at.when v k w here)
            | inr ne ↦ omega (arith, put_other at.when v k w ne, at.recent w)
          ];
          passed = λ f p l. elim (cases_eq (S.tail f) v) [
            | inl raised ↦ inr (put_same at.when v k (S.tail f) raised)
            | inr ne ↦ elim (cases_eq f i) [
              | inl here ↦ inl
                  (subst (λ g. Fitted S num' g) (sym here) (let nu = put_other num v x u (subst (λ g. S.tail g ≢ v) here ne) in omega (arith, put_same num v x v refl)))
              | inr before ↦ elim (at.passed f p (omega arith)) [
                | inl fitted ↦ inl (still f ne fitted)
                | inr late ↦ inr (put_other at.when v k (S.tail f) ne ∙ late)
              ]
            ]
          ];
          ahead = λ f p l. elim (cases_eq (S.tail f) v) [
            | inl raised ↦ inr (omega (arith, put_same at.when v k (S.tail f) raised))
            | inr ne ↦ elim (at.ahead f p (omega arith)) [
              | inl fitted ↦ inl (still f ne fitted)
              | inr late ↦ inr (omega (arith, put_other at.when v k (S.tail f) ne))
            ]
          ];
        }

    -- its head was raised in this round
    pub raises_when : raises.when (S.head i) ≡ k
    unfolding raises
    raises_when = put_same at.when v k v refl
