-- The checks of a file find the first refusal in the order of the rules. Assumes nothing.
use Rattle.std.proofs.Common.{◌≡◌, ℕ, ◌+◌, ◌*◌, ◌<◌, ◌≤◌, Bool, true, false, leb, ltb, List, length, get_or, position, Some, None, Ok, Err, Decides, Option, Result, sym, refl, ap, ◌∙◌, subst, inl, inr, arith}
use Rattle.std.proofs.lemmas.Bool.{leb-true, le-leb, eqb-true, eqb-false, ltb-true, ltb-false, not-true, not-false, or_cases, or_parts, cases_Bool, cases_lt, cond-true, both_ways}
use Rattle.std.proofs.lemmas.Bool.Decides.{Decides-or, Decides-eqb, Decides-ltb}
use Rattle.std.proofs.lemmas.List.Quantifiers.{position-Some}
use Rattle.std.proofs.lemmas.List.Sums.{fails_before_first}
use Rattle.std.specs.List.{position_or_len}
use Rattle.std.specs.Bool.{then_some}
use Rattle.std.specs.Option.{option_map}
use Rattle.day.specs.declared.invoices.Invoice.{Invoice}
use Rattle.day.specs.declared.invoices.Rule.{Rule}
use Rattle.day.specs.declared.invoices.Rule.TheVariants.{FirmsThere, TwoFirms, AmountInRange}
use Rattle.day.specs.declared.refusals.Kind.TheVariants.{Invoices, Numbers, Rings}
use Rattle.day.specs.declared.refusals.Refusal.{Refusal}
use Rattle.day.specs.declared.refusals.Refusal.TheVariants.{Firms, Length, Memory}
use Rattle.day.specs.declared.sizes.Room.{Room}
use Rattle.day.specs.File.{firms_in, whole, invoices_in}
use Rattle.day.specs.Rules.{breaks, refusal_by, place_of}
use Rattle.day.specs.Reading.{by_rule, by_rules, by_room, bad_firms, bad_length, refusal_in, answered}
use Rattle.day.specs.Promise.{Fault, Faulty, Broken, First, Told, Due, Exactly, Refuses, turn}
use Rattle.day.proofs.Rows.{blank}
use Rattle.day.proofs.Turns.{Finds, finds_if, finds_next, finds_first, told_at, turn_below}

Decides-leb : (a b : ℕ) → Decides (leb a b) (a ≤ b)
Decides-leb a b = (leb-true a b, le-leb a b)

Decides-breaks : (r : Rule) (n : ℕ) (i : Invoice) → Decides (breaks r n i) (Fault r n i)
Decides-breaks FirmsThere n i = Decides-or _ _ (Decides-leb n i.from) (Decides-leb n i.to)
Decides-breaks TwoFirms n i = Decides-eqb i.from i.to
Decides-breaks AmountInRange n i = Decides-or _ _ (Decides-eqb i.amount 0) (Decides-ltb _ i.amount)

-- where no place is the first, the test fails at all
none_passes : (test : Invoice → Bool) (is : List Invoice) → position test is ≡ None → (k : ℕ) → k < length is → test (get_or is k blank) ≡ false
none_passes test is none k h = elim (cases_lt (position_or_len test is) (length is)) [
  | inl there ↦
      let some = sym (cond-true (ltb (position_or_len test is) (length is)) _ _ ((Decides-ltb _ _).1 there)) ∙ none in
      absurd (grind arith)
  | inr past ↦ fails_before_first test is k blank (omega arith)
]

-- a rule for invoices
module _ (B : Refusal → Type 0) (r : Rule) (n t : ℕ) (is : List Invoice) (turns : (e : ℕ) → turn (refusal_by r e) ≡ t)
    (places : (e : ℕ) → place_of (refusal_by r e) ≡ e) (only : (q : Refusal) → turn q ≡ t → q ≡ refusal_by r (place_of q))
    (says : (e : ℕ) → (B (refusal_by r e) → Faulty r n is e) × (Faulty r n is e → B (refusal_by r e))) where
  -- a broken refusal of this turn is of an invoice that breaks the rule
  caught : (q : Refusal) → turn q ≡ t → B q → (place_of q < length is) × ((d : Invoice) → breaks r n (get_or is (place_of q) d) ≡ true)
  caught q at broken =
      let f = (says (place_of q)).0 (subst B (only q at) broken) in
      (f.0, λ d. (Decides-breaks r n (get_or is (place_of q) d)).1 (f.1 d))

  finds_by : (o : Option ℕ) → position (breaks r n) is ≡ o → Finds B t (t + 1) (option_map (refusal_by r) o)
  finds_by None none =
      record {
        none = λ e q l h broken. let f = caught q (omega arith) broken in both_ways _ (none_passes (breaks r n) is none (place_of q) f.0) (f.1 blank);
        some = λ s e. absurd (grind arith);
      }
  finds_by (Some e) at =
      let here = λ (d : Invoice). position-Some (breaks r n) is e d at in
      record {
        none = λ e. absurd (grind arith);
        some = λ s found_s. let same : s ≡ refusal_by r e = cc in
            rw same (
              omega (arith, turns e),
              omega (arith, turns e),
              (says e).1 ((here blank).0, λ d. (Decides-breaks r n (get_or is e d)).0 (here d).1),
              λ q l before broken. elim before [
                | inl earlier ↦ omega (arith, turns e)
                | inr nearer ↦
                    let f = caught q (nearer.0 ∙ turns e) broken in
                    both_ways _ ((here blank).2 (place_of q) (omega (arith, nearer.1, places e))) (f.1 blank)
              ],
            );
      }

  finds_rule : Finds B t (t + 1) (by_rule r n is)
  finds_rule = finds_by (position (breaks r n) is) refl

module _ (room : Room) (b : List ℕ) where
  Decides-bad_firms : Decides (bad_firms b) (Broken room b Firms)
  Decides-bad_firms =
      Decides-or _ _ (Decides-ltb (length b) 2) (Decides-or _ _ (Decides-eqb (firms_in b) 0) (Decides-ltb 512 (firms_in b)))

  Decides-bad_length : Decides (bad_length b) (Broken room b (Length (length b)))
  Decides-bad_length = (
    (λ e. (
      refl,
      λ k few is. elim (or_cases _ _ e) [
        | inl other ↦ eqb-false (length b) (2 + 12 * whole b) (not-true _ other) (omega arith)
        | inr many ↦ let more = ltb-true _ _ many in omega arith
      ],
    )),
    (λ f. elim (cases_Bool (bad_length b)) [
      | inl so ↦ so
      | inr not_so ↦
          let p = or_parts _ _ not_so in
          absurd (f.1 (whole b) (ltb-false _ _ p.1) (eqb-true _ _ (not-false _ p.0)))
    ]),
  )

  finds_room : Finds (Broken room b) 1 4 (by_room room (firms_in b) (whole b))
  finds_room =
      finds_next _ 1 2 4 _ _ (omega arith) (omega arith)
      (finds_if _ _ (Memory Invoices) (Decides-ltb room.invoices (whole b)) (λ q t _. told_at 1 q t))
      (finds_next _ 2 3 4 _ _ (omega arith) (omega arith)
      (finds_if _ _ (Memory Numbers) (Decides-ltb room.numbers (firms_in b)) (λ q t _. told_at 2 q t))
      (finds_if _ _ (Memory Rings) (Decides-ltb room.rings (firms_in b + 2)) (λ q t _. told_at 3 q t)))

  finds_length : Finds (Broken room b) 4 5 (then_some (bad_length b) (Length (length b)))
  finds_length = finds_if _ _ (Length (length b)) Decides-bad_length (λ q t broken. let at = told_at 4 q t in at ∙ ap Length (subst (Broken room b) at broken).0)

  finds_rules : Finds (Broken room b) 5 8 (by_rules (firms_in b) (invoices_in b))
  finds_rules =
      finds_next _ 5 6 8 _ _ (omega arith) (omega arith)
      (finds_rule _ FirmsThere (firms_in b) 5 (invoices_in b) (λ e. refl) (λ e. refl) (λ q t. told_at 5 q t) (λ e. ((λ x. x), (λ x. x))))
      (finds_next _ 6 7 8 _ _ (omega arith) (omega arith)
      (finds_rule _ TwoFirms (firms_in b) 6 (invoices_in b) (λ e. refl) (λ e. refl) (λ q t. told_at 6 q t) (λ e. ((λ x. x), (λ x. x))))
      (finds_rule _ AmountInRange (firms_in b) 7 (invoices_in b) (λ e. refl) (λ e. refl) (λ q t. told_at 7 q t) (λ e. ((λ x. x), (λ x. x)))))

  finds_refusal : Finds (Broken room b) 0 8 (refusal_in room b)
  unfolding refusal_in
  finds_refusal =
      finds_next _ 0 1 8 _ _ (omega arith) (omega arith)
      (finds_if _ _ Firms Decides-bad_firms (λ q t _. told_at 0 q t))
      (finds_next _ 1 4 8 _ _ (omega arith) (omega arith) finds_room
      (finds_next _ 4 5 8 _ _ (omega arith) (omega arith) finds_length finds_rules))

  refused_first : (r : Refusal) → (refusal_in room b ≡ Some r → First room b r) × (First room b r → refusal_in room b ≡ Some r)
  refused_first r =
      let both = finds_first (Broken room b) 8 (refusal_in room b) finds_refusal turn_below r in
      ((λ e. let f = both.0 e in record { broken = f.0; none_before = f.1 }), (λ f. both.1 (f.broken, f.none_before)))

  pub none_broken : refusal_in room b ≡ None → (q : Refusal) → Broken room b q → ⊥
  none_broken e q = finds_refusal.none e q (omega arith) (turn_below q)

none_if : (room : Room) (b : List ℕ) (o : Option Refusal) → refusal_in room b ≡ o → ((q : Refusal) → Broken room b q → ⊥) → o ≡ None
none_if room b None e unbroken = refl
none_if room b (Some r) e unbroken = absurd (unbroken r ((refused_first room b r).0 e).broken)

-- where no rule is broken there is no refusal
pub none_from_unbroken : (room : Room) (b : List ℕ) → ((q : Refusal) → Broken room b q → ⊥) → refusal_in room b ≡ None
none_from_unbroken room b unbroken = none_if room b (refusal_in room b) refl unbroken

exactly_by : {A : Type 0} (room : Room) (b : List ℕ) (o : Option Refusal) (x : A) → refusal_in room b ≡ o → Exactly room b (answered o x)
exactly_by room b None x e =
    λ r. (
      (λ err. absurd (grind arith)),
      (λ f. let some = (refused_first room b r).1 f in absurd (grind arith)),
    )
exactly_by room b (Some q) x e =
    λ r. (
      (λ err. let same : q ≡ r = cc in (refused_first room b r).0 (e ∙ ap Some same)),
      (λ f. let some = (refused_first room b r).1 f in cc),
    )

told_by : {A : Type 0} (room : Room) (b : List ℕ) (answer : Result A Refusal) → Exactly room b answer → (k p : ℕ) →
    (Told answer k p → Due room b k p) × (Due room b k p → Told answer k p)
told_by room b (Ok x) exactly k p = ((λ t. absurd t), (λ d. let err = (exactly d.0).1 d.1 in absurd (grind arith)))
told_by room b (Err r) exactly k p = (
  (λ t. (r, (exactly r).0 refl, t.0, t.1)),
  (λ d. let err = (exactly d.0).1 d.1 in let same : r ≡ d.0 = cc in rw same (d.2, d.3)),
)

-- an answer by the checks refuses exactly with the first refusal
pub refuses : {A : Type 0} (room : Room) (b : List ℕ) (x : A) (r : Result A Refusal) → r ≡ answered (refusal_in room b) x → Refuses room b r
refuses room b x r e =
    let exactly : Exactly room b r = rw e (exactly_by room b (refusal_in room b) x refl) in
    record { exactly = exactly; told = told_by room b r exactly }
