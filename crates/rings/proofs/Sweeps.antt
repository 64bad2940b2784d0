-- What holds between two rounds of the search, and inside a round between two arcs. Assumes nothing.
use Rattle.std.proofs.Common.{◌≡◌, ℕ, suc, ◌+◌, ◌-◌, ◌*◌, ◌<◌, ◌≤◌, ◌≢◌, List, length, get_or, set, replicate, ℤ, pos, Some, None, Option, sym, refl, ap, ◌∙◌, subst, subst₂, inl, inr, arith}
use Rattle.std.proofs.lemmas.List.{get_or-replicate, get_or_past, length-replicate, get_or-set_same, get_or-set_other, length-set}
use Rattle.std.proofs.lemmas.Grind.{get_or-set_at}
use Rattle.std.proofs.lemmas.Bool.{cases_eq, cases_lt, false≢true}
use Rattle.day.specs.Bills.{reads}
use Rattle.heights.specs.Residual.{Steps, AllFitted}
use Rattle.heights.specs.Search.{Searched, back}
use Rattle.heights.proofs.Rounds.{next_round}
use Rattle.heights.proofs.Searching.{begins}
use Rattle.rings.specs.Chains.{Closed, Ends, Followed}
use Rattle.rings.specs.Found.{Ringed, Searches}
use Rattle.rings.specs.Numbers.{natural, levels, Below}
use Rattle.rings.specs.Tries.{Raised, ArcTried}
use Rattle.rings.specs.declared.scratch.Scratch.{Scratch}
use Rattle.rings.proofs.Going.{Going, later, searched}
use Rattle.rings.proofs.Rounds.{Lawful, arc_on, late_goes_on, high_goes_on, closed_gains}

-- so many rounds have gone over all steps
pub record Swept (S : Steps) (rounds : ℕ) (w : Scratch) : Type 0 where
  pub numbers : Below S.nodes S.nodes w.number.now
  pub each : length w.last.now ≡ S.nodes
  pub kept : Searched S (rounds + 1) 0 (levels w.number.now) (reads w.last.now)
  pub done : S.nodes ≤ rounds → AllFitted S (levels w.number.now)

-- and the next one over the first e arcs; v was raised last, or nothing was
pub record Sweeping (S : Steps) (rounds e : ℕ) (w : Scratch) (raised : Option ℕ) : Type 0 where
  pub numbers : Below S.nodes S.nodes w.number.now
  pub each : length w.last.now ≡ S.nodes
  pub going : Going S (rounds + 1) (2 * e) (levels w.number.now) (reads w.last.now) raised

-- an arc has raised node v, to whatever number
pub record Raising (S : Steps) (rounds e : ℕ) (w : Scratch) (v : ℕ) : Type 0 where
  pub there : v < S.nodes
  pub exact : get_or w.number.now v (pos 0) ≡ pos (levels w.number.now v)
  pub kept : Searched S (rounds + 1) (2 * (e + 1)) (levels w.number.now) (reads w.last.now)

-- a clear row, as a function
zeros : {A : Type 0} (f : A → ℕ) (d : A) → f d ≡ 0 → (n v : ℕ) → f (get_or (replicate n d) v d) ≡ 0
zeros f d none n v = elim (cases_lt v n) [
  | inl l ↦ ap f (get_or-replicate n v d d l) ∙ none
  | inr past ↦ ap f (get_or_past (replicate n d) v d (omega (arith, length-replicate n d))) ∙ none
]

below-set : (n : ℕ) (row : List ℤ) (v x : ℕ) → v < n → x < n → Below n n row → Below n n (set row v (pos x))
below-set n row v x there low at =
    record {
      each = length-set row v (pos x) ∙ at.each;
      exact = λ u l. elim (cases_eq u v) [ inl same ↦ new u same ∙ ap pos (sym (ap natural (new u same))) | inr other ↦ old u other ∙ at.exact u l ∙ ap pos (sym (ap natural (old u other))) ];
      low = λ u l. elim (cases_eq u v) [ inl same ↦ omega (arith, ap natural (new u same)) | inr other ↦ omega (arith, ap natural (old u other), at.low u l) ];
    }
  where
    new : (u : ℕ) → u ≡ v → get_or (set row v (pos x)) u (pos 0) ≡ pos x
    new u same = get_or-set_at row v u (pos x) (pos 0) same (omega (arith, at.each))

    old : (u : ℕ) → u ≢ v → get_or (set row v (pos x)) u (pos 0) ≡ get_or row u (pos 0)
    old u other = get_or-set_other row v u (pos x) (pos 0) other

-- last steps that lead into a ring lead into one that gains
pub rings : (S : Steps) (k i : ℕ) (w w' : Scratch) → Searched S k i (levels w.number.now) (reads w.last.now) → (m : ℕ) →
    (m ≤ S.nodes) × ((start : ℕ) × Closed S.tail (reads w.last.now) start m (reads w'.ring.now)) → Ringed S m w'.ring.now
rings S k i w w' at m (few, (start, closed)) =
    (few, (back S.tail (reads w.last.now) start, closed_gains S k i (levels w.number.now) (reads w.last.now) at start m (reads w'.ring.now) closed))

module _ (S : Steps) (law : Lawful S) where
  pub swept_none : (w : Scratch) → 1 ≤ S.nodes → w.number.now ≡ replicate S.nodes (pos 0) → w.last.now ≡ replicate S.nodes 0 → Swept S 0 w
  swept_none w some clear clear' =
      let n = S.nodes in
      let zero = λ (v : ℕ). sym (zeros natural (pos 0) refl n v) in
      let at_zero : (λ (v : ℕ). 0) ≡ levels w.number.now = (λ i v. zero v i) ∙ ap levels (sym clear) in
      let at_zero' : (λ (v : ℕ). 0) ≡ reads w.last.now = (λ i v. sym (zeros (λ (x : ℕ). x) 0 refl n v) i) ∙ ap reads (sym clear') in
      record {
        numbers = subst (Below n n) (sym clear)
            record {
              each = length-replicate n (pos 0);
              exact = λ v l. get_or-replicate n v (pos 0) (pos 0) l ∙ ap pos (zero v);
              low = λ v l. subst (λ x. x < n) (zero v) some;
            };
        each = ap length clear' ∙ length-replicate {A = ℕ} n 0;
        kept = subst₂ (λ g h. Searched S 1 0 g h) at_zero at_zero' (begins S);
        done = λ none. absurd (omega arith);
      }

  -- the ring's row is of no account
  pub swept_same : (rounds : ℕ) (w w' : Scratch) → w'.number.now ≡ w.number.now → w'.last.now ≡ w.last.now → Swept S rounds w → Swept S rounds w'
  swept_same rounds w w' same same' at =
      record {
        numbers = subst (Below S.nodes S.nodes) (sym same) at.numbers;
        each = ap length same' ∙ at.each;
        kept = subst₂ (λ n l. Searched S (rounds + 1) 0 (levels n) (reads l)) (sym same) (sym same') at.kept;
        done = λ late. subst (λ n. AllFitted S (levels n)) (sym same) (at.done late);
      }

  module _ (rounds e : ℕ) (w : Scratch) where
    pub sweeping_kept : (raised : Option ℕ) → Sweeping S rounds e w raised → Searched S (rounds + 1) (2 * e) (levels w.number.now) (reads w.last.now)
    sweeping_kept raised at = searched S (rounds + 1) (2 * e) (levels w.number.now) (reads w.last.now) raised at.going

    -- a round more, with nothing raised or with last steps that end
    pub swept_more : (raised : Option ℕ) → 2 * e ≡ S.steps → ((v : ℕ) → raised ≡ Some v → Ends S.nodes S.tail (reads w.last.now) v) →
        Sweeping S rounds e w raised → Swept S (rounds + 1) w
    swept_more raised all ends at =
        let num = levels w.number.now in
        let last = reads w.last.now in
        let next : suc (rounds + 1) ≡ rounds + 1 + 1 = omega arith in
        record {
          numbers = at.numbers;
          each = at.each;
          kept = subst (λ k. Searched S k 0 num last) next (next_round S (rounds + 1) num last (subst (λ i. Searched S (rounds + 1) i num last) all (sweeping_kept raised at)));
          done = λ late. by num last raised ends late at.going;
        }
      where
        by : (num last : ℕ → ℕ) (raised : Option ℕ) → ((v : ℕ) → raised ≡ Some v → Ends S.nodes S.tail last v) → S.nodes ≤ rounds + 1 →
            Going S (rounds + 1) (2 * e) num last raised → AllFitted S num
        by num last None ends late (kept, fitted) = λ f o. fitted f o (subst (λ i. f < i) (sym all) o.0)
        by num last (Some v) ends late (there, (kept, now)) = absurd (late_goes_on S (rounds + 1) (2 * e) num last kept law v (omega (arith, now)) (ends v refl))

    module _ (w' : Scratch) (raised : Option ℕ) where
      which : (v : ℕ) → ArcTried S e w w' (Some v) → (i : ℕ) × Raised S i w w' v
      which v tried = elim tried [ inl (some, first) ↦ (2 * e, first) | inr (fitted, second) ↦ (2 * e + 1, second) ]

      raised_there : (i v : ℕ) → Raised S i w w' v → v < S.nodes
      raised_there i v up = subst (λ u. u < S.nodes) (sym up.node) (law.heads i up.there.0)

      -- the number of a node that was raised, as it was written
      written : (i v : ℕ) → Raised S i w w' v → Sweeping S rounds e w raised → get_or w'.number.now v (pos 0) ≡ pos ((levels w.number.now (S.tail i) + S.up i) - S.down i)
      written i v up at = ap (λ row. get_or row v (pos 0)) up.number ∙ get_or-set_same w.number.now v _ (pos 0) (omega (arith, raised_there i v up, at.numbers.each))

      goes_on : (r : Option ℕ) → ArcTried S e w w' r → Sweeping S rounds e w raised → Going S (rounds + 1) (2 * (e + 1)) (levels w'.number.now) (reads w'.last.now) (later r raised)
      goes_on r tried at = arc_on S (rounds + 1) e law w w' at.numbers.each at.each r raised tried at.going

      pub raising : (v : ℕ) → ArcTried S e w w' (Some v) → Sweeping S rounds e w raised → Raising S rounds e w' v
      raising v tried at =
          let (i, up) = which v tried in
          let new = written i v up at in
          record { there = raised_there i v up; exact = new ∙ ap pos (sym (ap natural new)); kept = (goes_on (Some v) tried at).1.0 }

      -- one arc more, which raised a node to a low number, or none
      pub sweeping_raised : (v : ℕ) → ArcTried S e w w' (Some v) → levels w'.number.now v < S.nodes → Sweeping S rounds e w raised → Sweeping S rounds (e + 1) w' (Some v)
      sweeping_raised v tried low at =
          let (i, up) = which v tried in
          let below = subst (λ x. x < S.nodes) (ap natural (written i v up at)) low in
          record {
            numbers = subst (Below S.nodes S.nodes) (sym up.number) (below-set S.nodes w.number.now v _ (raised_there i v up) below at.numbers);
            each = ap length up.step ∙ length-set w.last.now v _ ∙ at.each;
            going = goes_on (Some v) tried at;
          }

      pub sweeping_passed : ArcTried S e w w' None → Sweeping S rounds e w raised → Sweeping S rounds (e + 1) w' raised
      sweeping_passed tried at = elim tried [
        | inl (some, first) ↦ absurd (false≢true some)
        | inr (fitted, (same, same', step)) ↦ record {
          numbers = subst (Below S.nodes S.nodes) (sym same) at.numbers;
          each = ap length same' ∙ at.each;
          going = goes_on None (inr (fitted, (same, same', step))) at;
        }
      ]

  -- last steps that lead back from a number as high as there are nodes can't end: they lead into a ring that gains
  pub finds_high : (rounds e : ℕ) (w w' : Scratch) (v : ℕ) (r : Option ℕ) → Raising S rounds e w v → S.nodes ≤ levels w.number.now v →
      Followed S.nodes S.tail (reads w.last.now) v w'.ring.now r → Searches S w' r
  finds_high rounds e w w' v None up high end =
      absurd (high_goes_on S (rounds + 1) (2 * (e + 1)) (levels w.number.now) (reads w.last.now) up.kept law v high end)
  finds_high rounds e w w' v (Some m) up high found = rings S (rounds + 1) (2 * (e + 1)) w w' up.kept m found
