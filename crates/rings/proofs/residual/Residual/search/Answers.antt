-- The rounds, arc by arc. A number as high as there are nodes, and a node raised in the last round, have a ring behind them.
use Rattle.std.proofs.Common.{◌≡◌, ℕ, ◌+◌, ◌*◌, ◌<◌, ◌≤◌, true, false, get_or, replicate, ℤ, pos, sym, refl, ap, ◌∙◌, subst, arith, w32, SFits, to_z, of_z, rules}
use lib.Signed.{le_z}
use Rattle.std.proofs.lemmas.Int.{ints}
use Rattle.day.specs.Bills.{reads}
use Rattle.rings.specs.Chains.{Ends}
use Rattle.rings.specs.Numbers.{levels}
use Rattle.rings.specs.Residual.{residual_in}
use Rattle.rings.specs.Scratch.{SameRows}
use Rattle.rings.proofs.Rounds.{lasts_there}
use Rattle.rings.proofs.Sweeps.{Swept, Sweeping, swept_none, swept_same, swept_more, sweeping_kept, sweeping_raised, sweeping_passed, raising, finds_high, rings}
use Rattle.rings.proofs.Laws.{lawful}
use Rattle.rings.proofs.residual.Residual.search.Goals as goal
use Rattle.rings.proofs.residual.Residual.search.Goals.{in-Some+else-scratch-from, in_default, in-Some-raised+in_default-follow, in_default-raised}

pub rounds-init : goal.rounds-init
rounds-init c =
    record {
      swept = swept_none (residual_in c.args.self) (lawful c.args.self) _ c.args.self.network.some_node
          (c.fill.ensures.after (λ y same. same) ∙ ap (λ n. replicate n (pos 0)) c.requires.number_each)
          (c.fill-2.ensures.after (λ y same. same) ∙ ap (λ n. replicate n 0) c.requires.last_each);
      none = refl;
      same = search rules;
    }

-- the test of a number against the number of nodes
lower : (z : ℤ) (x n : ℕ) (b : ℤ) → z ≡ pos x → b ≡ pos n → SFits w32 z → n < 4097 → le_z (to_z w32 (of_z w32 b)) (to_z w32 (of_z w32 z)) ≡ false → x < n
lower z x n b e f small few test = grind (arith, ints)

higher : (z : ℤ) (x n : ℕ) (b : ℤ) → z ≡ pos x → b ≡ pos n → SFits w32 z → n < 4097 → le_z (to_z w32 (of_z w32 b)) (to_z w32 (of_z w32 z)) ≡ true → n ≤ x
higher z x n b e f small few test = grind (arith, ints)

pub follow-found-requires-clause-steps : goal.follow-found-requires-clause-steps
follow-found-requires-clause-steps c v l =
    let S = residual_in c.args.self in
    let e = c.arcs.e in
    let w = c.try_arc.new.scratch in
    let up = raising S (lawful c.args.self) c.rounds.counter e c.arcs.scratch w c.arcs.raised c.in-Some.v c.in-Some.ensures.tried c.arcs.invariant.sweeping in
    lasts_there S (c.rounds.counter + 1) (2 * (e + 1)) (levels w.number.now) (reads w.last.now) up.kept v

pub arcs-preserved : goal.arcs-preserved
arcs-preserved c =
    let S = residual_in c.args.self in
    let round = c.rounds.counter in
    let e = c.arcs.e in
    let w' = c.try_arc.new.scratch in
    let num = w'.number.now in
    let at = c.arcs.invariant.sweeping in
    record {
      sweeping = elim c.match-try_arc.branch [
        | in-Some+else-scratch-from w ↦
            let v = w.in-Some.v in
            let tried = w.in-Some.ensures.tried in
            let up = raising S (lawful c.args.self) round e c.arcs.scratch w' c.arcs.raised v tried at in
            let z = get_or num w.from.result (pos 0) in
            let fits : SFits w32 z = search rules in
            let low = lower z (levels num v) S.nodes w.from-in-Some.result (ap (λ i. get_or num i (pos 0)) w.from.ensures ∙ up.exact) w.from-in-Some.ensures fits
            (omega (arith, c.args.self.network.few_nodes)) w.if-scratch-from.false in
            subst (Sweeping S round (e + 1) w') (sym w.raised-is) (sweeping_raised S (lawful c.args.self) round e c.arcs.scratch w' c.arcs.raised v tried low at)
        | in_default w ↦
            subst (Sweeping S round (e + 1) w') (sym w.raised-is)
            (sweeping_passed S (lawful c.args.self) round e c.arcs.scratch w' c.arcs.raised w.in_default.ensures.tried at)
      ];
      none = c.arcs.invariant.none;
      same = search rules;
    }

pub follow-requires-clause-steps : goal.follow-requires-clause-steps
follow-requires-clause-steps c v l =
    let S = residual_in c.args.self in
    let w = c.arcs.scratch in
    let kept = sweeping_kept S (lawful c.args.self) c.rounds.counter c.arcs.e w c.arcs.raised c.arcs.invariant.sweeping in
    lasts_there S (c.rounds.counter + 1) (2 * c.arcs.e) (levels w.number.now) (reads w.last.now) kept v

pub rounds-preserved : goal.rounds-preserved
rounds-preserved c =
    let S = residual_in c.args.self in
    let round = c.rounds.counter in
    let w' = c.arcs.scratch in
    let swept : Swept S (round + 1) w'
    = swept_more S (lawful c.args.self) round c.arcs.e w' c.arcs.raised (omega arith)
    (λ v same. elim c.match-raised.branch [
      | in-Some-raised+in_default-follow w ↦
          let is = w.in-Some-raised.is in
          let here : w.in-Some-raised.v ≡ v = cc in
          subst (λ u. Ends S.nodes S.tail (reads w'.last.now) u) here w.in_default-follow.ensures.followed
      | in_default-raised w ↦ absurd (w.in_default-raised.not-Some v same)
    ])
    c.arcs.invariant.sweeping in
    let after : Swept S (round + 1) c.match-raised.scratch × SameRows c.args.scratch.now c.match-raised.scratch
    = elim c.match-raised.branch [
      | in-Some-raised+in_default-follow w ↦
          let kept = w.follow.ensures.kept in
          subst (λ s. Swept S (round + 1) s × SameRows c.args.scratch.now s) (sym w.scratch-is)
          (swept_same S (lawful c.args.self) (round + 1) w' w.follow.new.self kept.number kept.last swept, search rules)
      | in_default-raised w ↦ subst (λ s. Swept S (round + 1) s × SameRows c.args.scratch.now s) (sym w.scratch-is) (swept, c.arcs.invariant.same)
    ] in
    record { swept = after.0; none = c.arcs.invariant.none; same = after.1 }

pub returns-then-scratch-from-clause-searches : goal.returns-then-scratch-from-clause-searches
returns-then-scratch-from-clause-searches c =
    let S = residual_in c.args.self in
    let round = c.rounds.counter in
    let e = c.arcs.e in
    let v = c.in-Some.v in
    let w = c.try_arc.new.scratch in
    let num = w.number.now in
    let up = raising S (lawful c.args.self) round e c.arcs.scratch w c.arcs.raised v c.in-Some.ensures.tried c.arcs.invariant.sweeping in
    let z = get_or num c.from.result (pos 0) in
    let fits : SFits w32 z = search rules in
    let high = higher z (levels num v) S.nodes c.from-in-Some.result (ap (λ i. get_or num i (pos 0)) c.from.ensures ∙ up.exact) c.from-in-Some.ensures fits
    (omega (arith, c.args.self.network.few_nodes)) c.if-scratch-from.true in
    finds_high S (lawful c.args.self) round e w c.follow-found.new.self v c.follow-found.result up high c.follow-found.ensures.followed

pub returns-in-Some-follow-clause-searches : goal.returns-in-Some-follow-clause-searches
returns-in-Some-follow-clause-searches c =
    let S = residual_in c.args.self in
    let w = c.arcs.scratch in
    let kept = sweeping_kept S (lawful c.args.self) c.rounds.counter c.arcs.e w c.arcs.raised c.arcs.invariant.sweeping in
    rings S (c.rounds.counter + 1) (2 * c.arcs.e) w c.follow.new.self kept c.in-Some-follow.m c.in-Some-follow.ensures.followed
