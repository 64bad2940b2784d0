-- A round of the search as it goes: what holds after the steps that were tried, by the node that was raised last. Assumes nothing.
use Rattle.std.proofs.Common.{◌≡◌, ℕ, suc, ◌+◌, ◌-◌, ◌<◌, List, length, get_or, set, ℤ, pos, Some, None, Option, sym, ap, ◌∙◌, subst, subst₂, inl, inr, arith}
use Rattle.std.proofs.lemmas.Grind.{get_or-set_at}
use Rattle.std.proofs.lemmas.List.{get_or-set_other}
use Rattle.std.proofs.lemmas.Bool.{cases_eq}
use Rattle.day.specs.Bills.{reads}
use Rattle.heights.specs.Residual.{Steps, Open, Fitted}
use Rattle.heights.specs.Search.{put, Searched}
use Rattle.heights.proofs.Searching.{put_same, put_other, passes, passes_when, raises, raises_when}
use Rattle.rings.specs.Numbers.{natural, levels}
use Rattle.rings.specs.Tries.{Raised, Tried}
use Rattle.rings.specs.declared.scratch.Scratch.{Scratch}

-- nothing was raised in this round, so all steps that were tried are fitted; or else v was raised last, and in this round
abbrev pub Going : Steps → ℕ → ℕ → (num last : ℕ → ℕ) → Option ℕ → Type 0
Going S k i num last None = Searched S k i num last × ((f : ℕ) → Open S f → f < i → Fitted S num f)
Going S k i num last (Some v) = (v < S.nodes) × ((at : Searched S k i num last) × (at.when v ≡ k))

-- the later of two answers
abbrev pub later : Option ℕ → Option ℕ → Option ℕ
later (Some v) before = Some v
later None before = before

-- a row after a write, as a function
row-set : {A : Type 0} (f : A → ℕ) (d : A) (row : List A) (v : ℕ) (x : A) → v < length row → put (λ w. f (get_or row w d)) v (f x) ≡ (λ w. f (get_or (set row v x) w d))
row-set f d row v x there = λ i w. at w i
  where
    at : (w : ℕ) → put (λ w. f (get_or row w d)) v (f x) w ≡ f (get_or (set row v x) w d)
    at w = elim (cases_eq w v) [
      | inl same ↦ put_same (λ w. f (get_or row w d)) v (f x) w same ∙ sym (ap f (get_or-set_at row v w x d same there))
      | inr other ↦ put_other (λ w. f (get_or row w d)) v (f x) w other ∙ sym (ap f (get_or-set_other row v w x d other))
    ]

pub levels-set : (row : List ℤ) (v x : ℕ) → v < length row → put (levels row) v x ≡ levels (set row v (pos x))
levels-set row v x there = row-set natural (pos 0) row v (pos x) there

pub reads-set : (row : List ℕ) (v x : ℕ) → v < length row → put (reads row) v x ≡ reads (set row v x)
reads-set row v x there = row-set (λ n. n) 0 row v x there

module _ (S : Steps) (k : ℕ) where
  pub passes_on : (i : ℕ) (num last : ℕ → ℕ) (r : Option ℕ) → (Open S i → Fitted S num i) → Going S k i num last r → Going S k (suc i) num last r
  passes_on i num last None fitted (at, all) = (
    passes S k i num last at fitted,
    λ f o l. elim (cases_eq f i) [
      | inl here ↦ subst (λ g. Fitted S num g) (sym here) (fitted (subst (λ g. Open S g) here o))
      | inr before ↦ all f o (omega arith)
    ],
  )
  passes_on i num last (Some v) fitted (there, (at, raised)) = (there, (passes S k i num last at fitted, passes_when S k i num last at fitted v ∙ raised))

  pub searched : (i : ℕ) (num last : ℕ → ℕ) (r : Option ℕ) → Going S k i num last r → Searched S k i num last
  searched i num last None g = g.0
  searched i num last (Some v) g = g.1.0

  raises_on : (i : ℕ) (w w' : Scratch) (v : ℕ) → v < S.nodes → length w.number.now ≡ S.nodes → length w.last.now ≡ S.nodes → Raised S i w w' v →
      Searched S k i (levels w.number.now) (reads w.last.now) → Going S k (suc i) (levels w'.number.now) (reads w'.last.now) (Some v)
  raises_on i w w' v below each each' up at =
      let num = levels w.number.now in
      let last = reads w.last.now in
      let x = (num (S.tail i) + S.up i) - S.down i in
      let new : Searched S k (suc i) (put num (S.head i) x) (put last (S.head i) (suc i)) = raises S k i num last at up.there up.gains in
      let number : put num (S.head i) x ≡ levels w'.number.now
      = ap (λ u. put num u x) (sym up.node) ∙ levels-set w.number.now v x (omega arith) ∙ ap levels (sym up.number) in
      let step : put last (S.head i) (suc i) ≡ reads w'.last.now
      = (let e : suc i ≡ i + 1 = omega arith in ap (λ u. put last u (suc i)) (sym up.node) ∙ ap (put last v) e ∙ reads-set w.last.now v (i + 1) (omega arith) ∙ ap reads (sym up.step)) in
      let now : new.when v ≡ k = ap new.when up.node ∙ raises_when S k i num last at up.there up.gains in
      (below, subst₂ (λ n l. (at : Searched S k (suc i) n l) × (at.when v ≡ k)) number step (new, now))

  -- one step tried, and both steps of an arc
  pub tries_on : (i : ℕ) (w w' : Scratch) (r before : Option ℕ) → length w.number.now ≡ S.nodes → length w.last.now ≡ S.nodes → ((f : ℕ) → f < S.steps → S.head f < S.nodes) →
      Tried S i w w' r → Going S k i (levels w.number.now) (reads w.last.now) before → Going S k (suc i) (levels w'.number.now) (reads w'.last.now) (later r before)
  tries_on i w w' (Some v) before each each' heads up going =
      raises_on i w w' v (subst (λ u. u < S.nodes) (sym up.node) (heads i up.there.0)) each each' up (searched i (levels w.number.now) (reads w.last.now) before going)
  tries_on i w w' None before each each' heads (same, same', fitted) going =
      subst₂ (λ n l. Going S k (suc i) (levels n) (reads l) before) (sym same) (sym same') (passes_on i (levels w.number.now) (reads w.last.now) before fitted going)
