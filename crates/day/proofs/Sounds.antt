-- Invoices are sound exactly where none of them breaks a rule. Assumes nothing.
use Rattle.std.proofs.Common.{◌≡◌, ℕ, ◌^◌, ◌<◌, ◌≤◌, List, map, length, get_or, sym, ◌∙◌, inl, inr, arith}
use Rattle.std.proofs.lemmas.List.{get_or_default, get_or-map}
use Rattle.std.proofs.lemmas.Bool.{cases_lt}
use Rattle.day.specs.declared.invoices.Invoice.{Invoice}
use Rattle.day.specs.declared.invoices.Rule.{Rule}
use Rattle.day.specs.declared.invoices.Rule.TheVariants.{FirmsThere, TwoFirms, AmountInRange}
use Rattle.day.specs.Bills.{Sound, reads}
use Rattle.day.specs.File.{SoundList}
use Rattle.day.specs.Promise.{Fault, Faulty}
use Rattle.day.proofs.Rows.{blank}

module _ (n : ℕ) (is : List Invoice) where
  reads-map : (get : Invoice → ℕ) (e : ℕ) → e < length is → reads (map get is) e ≡ get (get_or is e blank)
  reads-map get e h = get_or-map get is e blank 0 h

  faulty_at : (r : Rule) (e : ℕ) → e < length is → Fault r n (get_or is e blank) → Faulty r n is e
  faulty_at r e h fault = (h, λ d. rw (get_or_default is e d blank h) fault)

  -- invoices of which none breaks a rule are sound
  pub sound_list : 1 ≤ n → n ≤ 512 → length is ≤ 4096 → ((r : Rule) (e : ℕ) → Faulty r n is e → ⊥) → SoundList n is
  sound_list some few few_is none =
      let bad = λ (r : Rule) (e : ℕ) (h : e < length is) (f : Fault r n (get_or is e blank)). none r e (faulty_at r e h f) in
      record {
        some_firm = some;
        few_firms = few;
        few_invoices = few_is;
        from_there = λ e h. rw (reads-map (λ i. i.from) e h)
            (elim (cases_lt (get_or is e blank).from n) [ inl there ↦ there | inr past ↦ absurd (bad FirmsThere e h (inl past)) ]);
        to_there = λ e h. rw (reads-map (λ i. i.to) e h)
            (elim (cases_lt (get_or is e blank).to n) [ inl there ↦ there | inr past ↦ absurd (bad FirmsThere e h (inr past)) ]);
        two_firms = λ e h same. bad TwoFirms e h (sym (reads-map (λ i. i.from) e h) ∙ same ∙ reads-map (λ i. i.to) e h);
        some_cents = λ e h. rw (reads-map (λ i. i.amount) e h)
            (elim (cases_lt 0 (get_or is e blank).amount) [ inl cents ↦ omega arith | inr no' ↦ absurd (bad AmountInRange e h (inl (omega arith))) ]);
        few_cents = λ e h. rw (reads-map (λ i. i.amount) e h)
            (elim (cases_lt (10 ^ 12) (get_or is e blank).amount) [ inl many ↦ absurd (bad AmountInRange e h (inr many)) | inr cents ↦ cents ]);
      }

  -- and of sound invoices none breaks a rule
  pub faultless : SoundList n is → (r : Rule) (e : ℕ) → Faulty r n is e → ⊥
  faultless sound FirmsThere e (h, fault) = elim (fault blank) [
    | inl past ↦ let there = rw (reads-map (λ i. i.from) e h) at (sound.from_there e h) in omega arith
    | inr past ↦ let there = rw (reads-map (λ i. i.to) e h) at (sound.to_there e h) in omega arith
  ]
  faultless sound TwoFirms e (h, fault) =
      sound.two_firms e h (reads-map (λ i. i.from) e h ∙ fault blank ∙ sym (reads-map (λ i. i.to) e h))
  faultless sound AmountInRange e (h, fault) = elim (fault blank) [
    | inl none ↦ let cents = rw (reads-map (λ i. i.amount) e h) at (sound.some_cents e h) in omega arith
    | inr many ↦ let cents = rw (reads-map (λ i. i.amount) e h) at (sound.few_cents e h) in omega arith
  ]

-- soundness is a matter of the first places
pub sound_like : (n k : ℕ) (f t a f' t' a' : ℕ → ℕ) → ((e : ℕ) → e < k → f' e ≡ f e) → ((e : ℕ) → e < k → t' e ≡ t e) → ((e : ℕ) → e < k → a' e ≡ a e) →
    Sound n k f t a → Sound n k f' t' a'
sound_like n k f t a f' t' a' from to amount sound =
    record {
      some_firm = sound.some_firm;
      few_firms = sound.few_firms;
      few_invoices = sound.few_invoices;
      from_there = λ e h. rw (from e h) (sound.from_there e h);
      to_there = λ e h. rw (to e h) (sound.to_there e h);
      two_firms = λ e h same. sound.two_firms e h (sym (from e h) ∙ same ∙ to e h);
      some_cents = λ e h. rw (amount e h) (sound.some_cents e h);
      few_cents = λ e h. rw (amount e h) (sound.few_cents e h);
    }
