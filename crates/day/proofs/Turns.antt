-- A row of checks finds the first refusal in the order of the rules. Assumes nothing.
use Rattle.std.proofs.Common.{◌≡◌, ℕ, zero, suc, ◌+◌, ◌<◌, ◌≤◌, Bool, true, false, Some, None, Decides, Option, sym, refl, ap, ◌∙◌, subst, inl, inr, arith, lit<}
use Rattle.std.proofs.lemmas.Bool.{cases_lt, cases_order}
use Rattle.day.specs.declared.refusals.Kind.TheVariants.{Invoices, Numbers, Rings}
use Rattle.day.specs.declared.refusals.Refusal.{Refusal}
use Rattle.day.specs.declared.refusals.Refusal.TheVariants.{Firms, Length, NoFirm, ToItself, Amount, Memory}
use Rattle.std.specs.Bool.{then_some}
use Rattle.std.specs.Option.{option_or}
use Rattle.day.specs.Rules.{place_of}
use Rattle.day.specs.Promise.{turn, Before}

-- a refusal is told by its turn and its place
abbrev pub told : ℕ → ℕ → Refusal
told zero p = Firms
told (suc zero) p = Memory Invoices
told (suc (suc zero)) p = Memory Numbers
told (suc (suc (suc zero))) p = Memory Rings
told (suc (suc (suc (suc zero)))) p = Length p
told (suc (suc (suc (suc (suc zero))))) p = NoFirm p
told (suc (suc (suc (suc (suc (suc zero)))))) p = ToItself p
told (suc (suc (suc (suc (suc (suc (suc t))))))) p = Amount p

told_is : (q : Refusal) → told (turn q) (place_of q) ≡ q
told_is Firms = refl
told_is (Memory Invoices) = refl
told_is (Memory Numbers) = refl
told_is (Memory Rings) = refl
told_is (Length p) = refl
told_is (NoFirm e) = refl
told_is (ToItself e) = refl
told_is (Amount e) = refl

pub told_at : (t : ℕ) (q : Refusal) → turn q ≡ t → q ≡ told t (place_of q)
told_at t q at = sym (told_is q) ∙ ap (λ (u : ℕ). told u (place_of q)) at

same_refusal : (q r : Refusal) → turn q ≡ turn r → place_of q ≡ place_of r → q ≡ r
same_refusal q r t p = told_at (turn r) q t ∙ ap (told (turn r)) p ∙ told_is r

pub turn_below : (q : Refusal) → turn q < 8
turn_below Firms = lit< tt
turn_below (Memory Invoices) = lit< tt
turn_below (Memory Numbers) = lit< tt
turn_below (Memory Rings) = lit< tt
turn_below (Length p) = lit< tt
turn_below (NoFirm e) = lit< tt
turn_below (ToItself e) = lit< tt
turn_below (Amount e) = lit< tt

-- of two refusals neither of which is before the other
same_first : (q r : Refusal) → (Before q r → ⊥) → (Before r q → ⊥) → q ≡ r
same_first q r f g =
    elim (cases_order (turn q) (turn r)) [
      | inl same ↦ elim (cases_order (place_of q) (place_of r)) [
        | inl place ↦ same_refusal q r same place
        | inr other ↦ elim other [ inl less ↦ absurd (f (inr (same, less))) | inr more ↦ absurd (g (inr (sym same, more))) ]
      ]
      | inr other ↦ elim other [ inl less ↦ absurd (f (inl less)) | inr more ↦ absurd (g (inl more)) ]
    ]

-- of the refusals whose turn is from lo on and below hi, o is the first that is broken
pub record Finds (Broken : Refusal → Type 0) (lo hi : ℕ) (o : Option Refusal) : Type 0 where
  pub none : o ≡ None → (q : Refusal) → lo ≤ turn q → turn q < hi → Broken q → ⊥
  pub some : (r : Refusal) → o ≡ Some r →
      (lo ≤ turn r) × (turn r < hi) × Broken r × ((q : Refusal) → lo ≤ turn q → Before q r → Broken q → ⊥)

-- one check after another
pub finds_next : (B : Refusal → Type 0) (lo mid hi : ℕ) (o p : Option Refusal) → lo ≤ mid → mid ≤ hi →
    Finds B lo mid o → Finds B mid hi p → Finds B lo hi (option_or o p)
finds_next B lo mid hi (Some r) p low high here next =
    record {
      none = λ e. absurd (grind arith);
      some = λ s e. let f = here.some s e in (f.0, (let l = f.1 in omega arith), f.2, f.3);
    }
finds_next B lo mid hi None p low high here next =
    record {
      none = λ e q l h broken. elim (cases_lt (turn q) mid) [
        | inl below ↦ here.none refl q l below broken
        | inr above ↦ next.none e q above h broken
      ];
      some = λ s e. let f = next.some s e in (
        (let l = f.0 in omega arith),
        f.1,
        f.2,
        λ q l before broken. elim (cases_lt (turn q) mid) [
          | inl below ↦ here.none refl q l below broken
          | inr above ↦ f.3 q above before broken
        ],
      );
    }

-- a check of one rule by a test
pub finds_if : (B : Refusal → Type 0) (test : Bool) (r : Refusal) →
    Decides test (B r) → ((q : Refusal) → turn q ≡ turn r → B q → q ≡ r) → Finds B (turn r) (turn r + 1) (then_some test r)
finds_if B true r tells only =
    record {
      none = λ e. absurd (grind arith);
      some = λ s e. let same : s ≡ r = cc in
          rw same (
            omega arith,
            omega arith,
            tells.0 refl,
            λ q l before broken. elim before [
              | inl earlier ↦ omega arith
              | inr nearer ↦ let place = ap place_of (only q nearer.0 broken) in omega (arith, nearer.1)
            ],
          );
    }
finds_if B false r tells only =
    record {
      none = λ e q l h broken.
          let f = tells.1 (subst B (only q (omega arith) broken) broken) in absurd (grind arith);
      some = λ s e. absurd (grind arith);
    }

-- what the checks find is the first of all, and the first of all is what they find
pub finds_first : (B : Refusal → Type 0) (hi : ℕ) (o : Option Refusal) → Finds B 0 hi o → ((q : Refusal) → turn q < hi) → (r : Refusal) →
    (o ≡ Some r → B r × ((q : Refusal) → Before q r → B q → ⊥)) × (B r × ((q : Refusal) → Before q r → B q → ⊥) → o ≡ Some r)
finds_first B hi None found all r = (
  (λ e. absurd (grind arith)),
  (λ f. absurd (found.none refl r (omega arith) (all r) f.0)),
)
finds_first B hi (Some s) found all r = (
  (λ e. let f = found.some r e in (f.2, λ q before. f.3 q (omega arith) before)),
  (λ f. let g = found.some s refl in ap Some (same_first s r (λ before. f.1 s before g.2) (λ before. g.3 r (omega arith) before f.0))),
)
