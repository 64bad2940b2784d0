-- The smaller of the smallest so far and of the next step's room.
use Rattle.std.proofs.Common.{◌≡◌, ℕ, ◌+◌, ◌<◌, ◌≤◌, min, ap, ◌∙◌, inl, inr, arith}
use Rattle.std.proofs.lemmas.Bool.{cases_eq, cases_lt}
use Rattle.day.specs.Bills.{reads}
use Rattle.rings.specs.Residual.{residual_in}
use Rattle.rings.specs.Striking.{Smallest}
use Rattle.rings.proofs.residual.Residual.smallest_room.Goals as goal

-- of no step, c is as large as any room
smaller : (room at : ℕ → ℕ) (j c : ℕ) → (j ≡ 0 → room (at j) ≤ c) → (0 < j → Smallest room at j c) → Smallest room at (j + 1) (min c (room (at j)))
smaller room at j c none some =
    record {
      each = λ i l. elim (cases_eq i j) [ inl same ↦ omega (arith, ap (λ k. room (at k)) same) | inr before ↦ omega (arith, (some (omega arith)).each i (omega arith)) ];
      one = elim (cases_lt c (room (at j))) [
        | inr below ↦ (j, omega arith, omega arith)
        | inl above ↦ elim (cases_eq j 0) [
          | inl first ↦ absurd (omega (arith, none first))
          | inr later ↦
              let so_far = some (omega arith) in
              (so_far.one.0, omega (arith, so_far.one.1), omega (arith, so_far.one.2))
        ]
      ];
    }

pub loop-step-preserved : goal.loop-step-preserved
loop-step-preserved c =
    let room = (residual_in c.args.self).room in
    let at = reads c.args.ring.now in
    let j = c.loop-step.step-index in
    let is : c.step.result.room ≡ room (at j) = c.step.ensures.room ∙ ap room c.from.ensures in
    record {
      none = λ z. absurd (omega arith);
      some = λ _. rw (c.min-smallest.ensures, is) (smaller room at j c.loop-step.smallest (λ z. omega (arith, c.loop-step.invariant.none z)) c.loop-step.invariant.some);
    }
