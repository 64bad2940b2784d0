-- Each step changes one place of the row.
use Rattle.std.proofs.Common.{◌≡◌, ℕ, ◌+◌, ◌-◌, ◌*◌, ◌/◌, ◌^◌, ◌<◌, ◌≤◌, Bool, true, false, length, get_or, sym, refl, ap, subst, arith}
use Rattle.day.specs.Bills.{reads}
use Rattle.heights.specs.Residual.{pushed_all}
use Rattle.rings.specs.Striking.{Holds}
use Rattle.rings.proofs.Strikes.{pushed_none, pushed_more, forth, backward}
use Rattle.rings.proofs.striking.push.Goals as goal
use Rattle.rings.proofs.striking.push.Goals.{in-Along, in-Back}

pub loop-step-init : goal.loop-step-init
loop-step-init c = pushed_none (reads c.args.flow.now) (reads c.args.ring.now) c.args.cents

pub loop-step-preserved : goal.loop-step-preserved
loop-step-preserved c =
    let s = reads c.args.flow.now in
    let at = reads c.args.ring.now in
    let j = c.loop-step.step-index in
    let f = at j in
    let cents = c.args.cents in
    let flow = c.loop-step.flow in
    let there : f / 2 < length flow = omega (arith, c.requires.there j (omega arith)) in
    elim c.match-from.branch [
      | in-Along w ↦
          let e = w.in-Along.e in
          let is : 2 * e ≡ f = w.in-Along.ensures in
          subst (λ row. reads row ≡ pushed_all s at cents (j + 1)) (sym w.flow-is)
          (pushed_more flow f cents e (get_or flow e 0 + cents) (omega arith) (omega arith) (rw (forth f (omega arith)) refl) s at j refl c.loop-step.invariant)
      | in-Back w ↦
          let e = w.in-Back.e in
          let is : 2 * e + 1 ≡ f = w.in-Back.ensures in
          subst (λ row. reads row ≡ pushed_all s at cents (j + 1)) (sym w.flow-is)
          (pushed_more flow f cents e (get_or flow e 0 - cents) (omega arith) (omega arith) (rw (backward f (omega arith)) refl) s at j refl c.loop-step.invariant)
    ]

-- what the row holds for a step is known of the flow that the steps before it leave
held : (b : Bool) (s row : ℕ → ℕ) (way : Bool) (e c : ℕ) → way ≡ b → row ≡ s → Holds way (s e) c → Holds b (row e) c
held b s row way e c turned same holds = subst (λ q. Holds b (q e) c) (sym same) (subst (λ w. Holds w (s e) c) turned holds)

pub overflow_add-flow : goal.overflow_add-flow
overflow_add-flow c =
    let f = reads c.args.ring.now c.loop-step.step-index in
    let is : 2 * c.in-Along.e ≡ f = c.in-Along.ensures in
    let arc : f / 2 ≡ c.in-Along.e = omega arith in
    let fits : reads c.loop-step.flow (f / 2) + c.args.cents < 2 ^ 64 =
    held true _ (reads c.loop-step.flow) _ (f / 2) c.args.cents (forth f (omega arith)) c.loop-step.invariant (c.requires.holds c.loop-step.step-index (omega arith)) in
    omega (arith, ap (reads c.loop-step.flow) arc)

pub overflow_sub-flow : goal.overflow_sub-flow
overflow_sub-flow c =
    let f = reads c.args.ring.now c.loop-step.step-index in
    let is : 2 * c.in-Back.e + 1 ≡ f = c.in-Back.ensures in
    let arc : f / 2 ≡ c.in-Back.e = omega arith in
    subst (λ e. c.args.cents ≤ reads c.loop-step.flow e) arc
    (held false _ (reads c.loop-step.flow) _ (f / 2) c.args.cents (backward f (omega arith)) c.loop-step.invariant (c.requires.holds c.loop-step.step-index (omega arith)))
