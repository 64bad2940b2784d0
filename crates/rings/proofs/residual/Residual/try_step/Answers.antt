-- A step that leads higher than its head raises it.
use Rattle.std.proofs.Common.{◌≡◌, ℕ, ◌+◌, ◌-◌, ◌<◌, ◌≤◌, false, get_or, set, ℤ, pos, ◌+ℤ◌, ap, ◌∙◌, arith, w32, to_z, of_z}
use lib.Signed.{le_z}
use Rattle.std.proofs.lemmas.Int.{ints}
use Rattle.rings.specs.Numbers.{levels}
use Rattle.rings.specs.Residual.{residual_in}
use Rattle.rings.specs.Ways.{step_in}
use Rattle.rings.proofs.Laws.{lawful}
use Rattle.rings.proofs.residual.Residual.try_step.Goals as goal

-- what a step leads to, as the code computes it
abbrev reached : ℤ → ℤ → ℤ
reached a g = to_z w32 (of_z w32 (to_z w32 (of_z w32 a) +ℤ to_z w32 (of_z w32 g)))

higher : (a g b : ℤ) (x y up down : ℕ) → a ≡ pos x → b ≡ pos y → x < 4096 → up ≤ 1 → down ≤ 1 → g +ℤ pos down ≡ pos up →
    y < 4096 → le_z (reached a g) (to_z w32 (of_z w32 b)) ≡ false → y + down < x + up
higher a g b x y up down e h low u d gain lower test = grind (arith, ints)

exact : (a g : ℤ) (x up down : ℕ) → a ≡ pos x → x < 4096 → up ≤ 1 → down ≤ 1 → g +ℤ pos down ≡ pos up →
    down ≤ x + up → reached a g ≡ pos ((x + up) - down)
exact a g x up down e low u d gain some = omega (arith, ints)

pub returns-clause-tried : goal.returns-clause-tried
returns-clause-tried c =
    let num = c.args.scratch.now.number.now in
    let step = c.step-step.result in
    let is = c.step-step.ensures in
    let S = residual_in c.args.self in
    let f = step_in c.args.way in
    let tail = c.from.result in
    let head = c.from-else-step-self.result in
    let numbers = c.requires.number in
    let few = c.args.self.network.few_nodes in
    let tail_there : tail < S.nodes = omega (arith, is.tail_there, c.from.ensures) in
    let head_there : head < S.nodes = omega (arith, is.head_there, c.from-else-step-self.ensures) in
    let at_tail = ap (levels num) (c.from.ensures ∙ is.tail) in
    let at_head = ap (levels num) (c.from-else-step-self.ensures ∙ is.head) in
    let law = lawful c.args.self in
    let gains : levels num head + S.down f < levels num tail + S.up f
    = higher (get_or num tail (pos 0)) step.gain (get_or num head (pos 0)) (levels num tail) (levels num head) (S.up f) (S.down f)
    (numbers.exact tail tail_there) (numbers.exact head head_there) (omega (arith, numbers.low tail tail_there)) (law.small f) (law.small_down f) is.gain
    (omega (arith, numbers.low head head_there)) c.if-reached-scratch.false in
    record {
      there = (c.requires.there, omega (arith, is.room));
      node = is.head;
      gains = omega arith;
      number =
          c.raise.ensures.number
          ∙ ap (set num step.head)
          (exact (get_or num tail (pos 0)) step.gain (levels num tail) (S.up f) (S.down f) (numbers.exact tail tail_there)
          (omega (arith, numbers.low tail tail_there)) (law.small f) (law.small_down f) is.gain (omega arith)
          ∙ ap (λ x. pos ((x + S.up f) - S.down f)) at_tail);
      step = c.raise.ensures.last;
    }
