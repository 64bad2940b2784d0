-- A row with a place for each firm, in which the firms' two sums are added up invoice by invoice. Assumes nothing.
use Rattle.std.proofs.Common.{◌≡◌, ℕ, ◌+◌, ◌<◌, ◌≢◌, Fits, w64, List, length, replicate, set, slice_index_or, sym, refl, ap, ◌∙◌, inl, inr, arith}
use Rattle.std.proofs.lemmas.List.{get_or-set_same, get_or-set_other, length-set, get_or-replicate}
use Rattle.std.proofs.lemmas.Bool.{cases_eq}
use Rattle.day.specs.Bills.{reads}
use Rattle.setoff.specs.declared.evenness.Sums.{Sums}
use Rattle.setoff.specs.declared.struck.Struck.{Struck}
use Rattle.setoff.proofs.Portions.{share, share_none, share_same, share_other, more_fits}

-- a row with a place for each firm of the largest day shows f: at each place, f of the place
pub record Shows (f : ℕ → Sums) (row : List Sums) : Type 0 where
  pub places : length row ≡ 512
  pub at : (v : ℕ) (other : Sums) → v < 512 → slice_index_or row v other ≡ f v

-- what each firm is let off of the first i invoices, and lets off of the first j
abbrev pub sums_of : Struck → ℕ → ℕ → ℕ → Sums
sums_of s i j v =
    record {
      let_off = share (reads s.invoices.from.now) (reads s.cents.now) v i;
      lets_off = share (reads s.invoices.to.now) (reads s.cents.now) v j;
    }

-- where one place is written, the row shows what differs there alone
shows_set : (f g : ℕ → Sums) (row : List Sums) (p : ℕ) (x : Sums) → Shows f row → p < 512 → x ≡ g p → ((v : ℕ) → v ≢ p → f v ≡ g v) → Shows g (set row p x)
shows_set f g row p x shows there here rest =
    record {
      places = length-set row p x ∙ shows.places;
      at = λ v other h. elim (cases_eq v p) [
        | inl same ↦ ap (λ u. slice_index_or (set row p x) u other) same ∙ get_or-set_same row p x other (omega arith) ∙ here ∙ ap g (sym same)
        | inr away ↦ get_or-set_other row p v x other away ∙ shows.at v other h ∙ rest v away
      ];
    }

-- before the first invoice all sums are 0
abbrev pub no_sums : Sums
no_sums = record { let_off = 0; lets_off = 0 }

pub shows_none : (s : Struck) → Shows (sums_of s 0 0) (replicate 512 no_sums)
shows_none s =
    record {
      places = refl;
      at = λ v other h.
          let from = share_none (reads s.invoices.from.now) (reads s.cents.now) v in
          let to = share_none (reads s.invoices.to.now) (reads s.cents.now) v in
          get_or-replicate 512 v no_sums other h ∙ cc;
    }

-- both firms of an invoice have a place
module _ (s : Struck) (k : ℕ) (h : k < length s.cents.now) where
  pub from_placed : reads s.invoices.from.now k < 512
  from_placed = omega (arith, s.cents_each, s.invoices.sound.sound.from_there k (omega (arith, s.cents_each)), s.invoices.sound.sound.few_firms)

  pub to_placed : reads s.invoices.to.now k < 512
  to_placed = omega (arith, s.cents_each, s.invoices.sound.sound.to_there k (omega (arith, s.cents_each)), s.invoices.sound.sound.few_firms)

-- one invoice more: the place of who owes grows, and then that of who is owed
module _ (s : Struck) (row : List Sums) (k : ℕ) (other : Sums) (h : k < length s.cents.now) where
  pub owing_more : Shows (sums_of s k k) row →
      let sums = slice_index_or row (reads s.invoices.from.now k) other in
      Shows (sums_of s (k + 1) k) (set row (reads s.invoices.from.now k) (record { let_off = sums.let_off + reads s.cents.now k; lets_off = sums.lets_off }))
  owing_more shows =
      let from = reads s.invoices.from.now in
      let there = from_placed s k h in
      let more = share_same from (reads s.cents.now) (from k) k refl in
      shows_set (sums_of s k k) (sums_of s (k + 1) k) row (from k) _ shows there
      (cc (shows.at (from k) other there, more))
      (λ v away. let still = share_other from (reads s.cents.now) v k (λ same. away (sym same)) in cc)

  pub owed_more : Shows (sums_of s (k + 1) k) row →
      let sums = slice_index_or row (reads s.invoices.to.now k) other in
      Shows (sums_of s (k + 1) (k + 1)) (set row (reads s.invoices.to.now k) (record { let_off = sums.let_off; lets_off = sums.lets_off + reads s.cents.now k }))
  owed_more shows =
      let to = reads s.invoices.to.now in
      let there = to_placed s k h in
      let more = share_same to (reads s.cents.now) (to k) k refl in
      shows_set (sums_of s (k + 1) k) (sums_of s (k + 1) (k + 1)) row (to k) _ shows there
      (cc (shows.at (to k) other there, more))
      (λ v away. let still = share_other to (reads s.cents.now) v k (λ same. away (sym same)) in cc)

  -- within 64 bits
  pub owing_fits : Shows (sums_of s k k) row → Fits w64 ((slice_index_or row (reads s.invoices.from.now k) other).let_off + reads s.cents.now k)
  owing_fits shows =
      let from = reads s.invoices.from.now in
      let is = ap (λ (x : Sums). x.let_off) (shows.at (from k) other (from_placed s k h)) in
      omega (arith, more_fits s from (from k) k h)

  pub owed_fits : Shows (sums_of s (k + 1) k) row → Fits w64 ((slice_index_or row (reads s.invoices.to.now k) other).lets_off + reads s.cents.now k)
  owed_fits shows =
      let to = reads s.invoices.to.now in
      let is = ap (λ (x : Sums). x.lets_off) (shows.at (to k) other (to_placed s k h)) in
      omega (arith, more_fits s to (to k) k h)
