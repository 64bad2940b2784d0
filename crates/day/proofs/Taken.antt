-- A file that is taken is a sound day, and so are the rows that hold it; and a sound day's file is taken. Assumes nothing.
use Rattle.std.proofs.Common.{◌≡◌, ℕ, ◌+◌, ◌*◌, ◌<◌, ◌≤◌, List, map, length, IfOk, Some, None, Ok, Err, Option, Result, sym, refl, inl, inr, arith}
use Rattle.std.proofs.lemmas.List.{get_or_append_left, length-map}
use Rattle.std.proofs.lemmas.Bool.{cases_lt}
use Rattle.day.specs.declared.invoices.Invoice.{Invoice}
use Rattle.day.specs.declared.invoices.Rule.{Rule}
use Rattle.day.specs.declared.invoices.Rule.TheVariants.{FirmsThere, TwoFirms, AmountInRange}
use Rattle.day.specs.declared.refusals.Kind.TheVariants.{Invoices, Numbers, Rings}
use Rattle.day.specs.declared.refusals.Refusal.{Refusal}
use Rattle.day.specs.declared.refusals.Refusal.TheVariants.{Firms, Length, NoFirm, ToItself, Amount, Memory}
use Rattle.day.specs.declared.sizes.Room.{Room}
use Rattle.day.specs.declared.sizes.Size.{Size}
use Rattle.day.specs.Bills.{Sound, reads}
use Rattle.day.specs.File.{firms_in, whole, invoices_in, debtors, creditors, amounts, SoundList}
use Rattle.day.specs.Reading.{refusal_in, answered, size_in, row_read, room_with, Writable}
use Rattle.day.specs.Promise.{Faulty, Broken, Enough}
use Rattle.day.proofs.Refused.{none_broken, none_from_unbroken}
use Rattle.day.proofs.Rows.{length-invoices_in}
use Rattle.day.proofs.Sounds.{sound_list, faultless, sound_like}

module _ (room : Room) (b : List ℕ) (none : refusal_in room b ≡ None) where
  unbroken : (q : Refusal) → Broken room b q → ⊥
  unbroken = none_broken room b none

  taken_room : whole b ≤ room.invoices
  taken_room = elim (cases_lt room.invoices (whole b)) [ inl short ↦ absurd (unbroken (Memory Invoices) short) | inr enough ↦ enough ]

  kept : (r : Rule) (e : ℕ) → Faulty r (firms_in b) (invoices_in b) e → ⊥
  kept FirmsThere e = unbroken (NoFirm e)
  kept TwoFirms e = unbroken (ToItself e)
  kept AmountInRange e = unbroken (Amount e)

  taken_sound : SoundList (firms_in b) (invoices_in b)
  taken_sound =
      sound_list (firms_in b) (invoices_in b)
      (elim (cases_lt 0 (firms_in b)) [ inl some ↦ omega arith | inr no' ↦ absurd (unbroken Firms (inr (inl (omega arith)))) ])
      (elim (cases_lt 512 (firms_in b)) [ inl many ↦ absurd (unbroken Firms (inr (inr many))) | inr few ↦ few ])
      (elim (cases_lt 4096 (whole b)) [
        | inl many ↦ absurd (unbroken (Length (length b)) (refl, λ k few is. omega arith))
        | inr few ↦ omega (arith, length-invoices_in b)
      ])
      kept

-- and where it is sound, as long as it should be, and memory is enough, no rule is broken
module _ (room : Room) (b : List ℕ) (long : length b ≡ 2 + 12 * length (invoices_in b))
    (sound : SoundList (firms_in b) (invoices_in b)) (enough : Enough room (firms_in b) (length (invoices_in b))) where
  unbroken_by_sound : (q : Refusal) → Broken room b q → ⊥
  unbroken_by_sound Firms (inl short) = omega arith
  unbroken_by_sound Firms (inr (inl none)) = let some = sound.some_firm in omega arith
  unbroken_by_sound Firms (inr (inr many)) = let few = sound.few_firms in omega arith
  unbroken_by_sound (Memory Invoices) short = let room_for = enough.invoices in omega (arith, length-invoices_in b)
  unbroken_by_sound (Memory Numbers) short = let room_for = enough.numbers in omega arith
  unbroken_by_sound (Memory Rings) short = let room_for = enough.rings in omega arith
  unbroken_by_sound (Length p) (is_long, other) = other (length (invoices_in b)) sound.few_invoices long
  unbroken_by_sound (NoFirm e) faulty = faultless (firms_in b) (invoices_in b) sound FirmsThere e faulty
  unbroken_by_sound (ToItself e) faulty = faultless (firms_in b) (invoices_in b) sound TwoFirms e faulty
  unbroken_by_sound (Amount e) faulty = faultless (firms_in b) (invoices_in b) sound AmountInRange e faulty

  pub sound_taken : refusal_in room b ≡ None
  sound_taken = none_from_unbroken room b unbroken_by_sound

-- an answer that took the file
none_from_ok : {A : Type 0} (o : Option Refusal) (x y : A) → Ok x ≡ answered o y → (o ≡ None) × (x ≡ y)
none_from_ok None x y e = (refl, cc)
none_from_ok (Some r) x y e = absurd (grind arith)

pub writable : (room : Room) (b f t a : List ℕ) (r : Result Size Refusal) → r ≡ answered (refusal_in (room_with room f t a) b) (size_in b) →
    IfOk r (λ s. (s ≡ size_in b) × Writable b f t a)
writable room b f t a (Err r) e = tt
writable room b f t a (Ok s) e =
    let none = none_from_ok (refusal_in (room_with room f t a) b) s (size_in b) e in
    let enough = taken_room (room_with room f t a) b none.0 in (
      none.1,
      record {
        sound = taken_sound (room_with room f t a) b none.0;
        from_room = omega arith;
        to_room = omega arith;
        amount_room = omega arith;
      },
    )

-- rows that hold the file's invoices are sound where it is
pub rows_sound : (b f₀ t₀ a₀ f t a : List ℕ) → Writable b f₀ t₀ a₀ → f ≡ row_read (debtors (invoices_in b)) f₀ →
    t ≡ row_read (creditors (invoices_in b)) t₀ → a ≡ row_read (amounts (invoices_in b)) a₀ →
    Sound (firms_in b) (whole b) (reads f) (reads t) (reads a)
rows_sound b f₀ t₀ a₀ f t a w fs ts cents =
    let is = invoices_in b in
    let first : (get : Invoice → ℕ) (old : List ℕ) (e : ℕ) → e < length is → reads (row_read (map get is) old) e ≡ reads (map get is) e =
    λ get old e h. let h' : e < length (map get is) = omega (arith, length-map is get) in get_or_append_left (map get is) _ 0 e h' in
    rw (sym (length-invoices_in b))
    (sound_like (firms_in b) (length is) _ _ _ (reads f) (reads t) (reads a)
    (λ e h. rw fs (first (λ i. i.from) f₀ e h)) (λ e h. rw ts (first (λ i. i.to) t₀ e h)) (λ e h. rw cents (first (λ i. i.amount) a₀ e h))
    w.sound)
