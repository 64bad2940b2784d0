-- A day that is written is read back as it was. Assumes nothing.
use Rattle.std.proofs.Common.{◌≡◌, ℕ, ◌+◌, ◌*◌, ◌/◌, ◌%◌, ◌^◌, ◌<◌, List, [], ◌∷◌, ◌++◌, map, length, get_or, take, sym, refl, ap, ap₂, ◌∙◌, arith}
use Rattle.std.proofs.lemmas.Nat.{from_le_bytes-to_le_bytes_2, from_le_bytes-to_le_bytes_8}
use Rattle.std.specs.List.{flat_map, AllByRecursion}
use Rattle.std.specs.Simd.{first_chunks}
use Rattle.std.proofs.lemmas.List.{length-append, take_more, flat_map_more}
use Rattle.day.specs.declared.invoices.Invoice.{Invoice}
use Rattle.day.specs.File.{firms_in, whole, invoice_of, invoices_in, two_bytes, invoice_bytes, written, Fits}
use Rattle.day.specs.Promise.{Brings}
use Rattle.day.proofs.Rows.{blank, recorded}
use Rattle.day.proofs.Taken.{sound_taken}

-- the bytes of a number give it back
two_back : (x : ℕ) → x < 256 ^ 2 → x % 256 + 256 * (x / 256 % 256) ≡ x
two_back x h = omega (arith, from_le_bytes-to_le_bytes_2 x h)

eight_back : (x : ℕ) → x < 256 ^ 8 →
    x % 256 + 256 * (x / 256 % 256) + 256 ^ 2 * (x / 256 ^ 2 % 256) + 256 ^ 3 * (x / 256 ^ 3 % 256)
    + 256 ^ 4 * (x / 256 ^ 4 % 256) + 256 ^ 5 * (x / 256 ^ 5 % 256) + 256 ^ 6 * (x / 256 ^ 6 % 256) + 256 ^ 7 * (x / 256 ^ 7 % 256) ≡ x
eight_back x h = omega (arith, from_le_bytes-to_le_bytes_8 x h)

length-joined : (is : List Invoice) → length (flat_map invoice_bytes is) ≡ 12 * length is
length-joined [] = refl
length-joined (i ∷ is) = length-append (invoice_bytes i) (flat_map invoice_bytes is) ∙ omega (arith, length-joined is)

-- a record's bytes are its invoice, and the twelves of joined records are theirs
invoice_back : (i : Invoice) → Fits i → invoice_of (invoice_bytes i) ≡ i
invoice_back i fits = λ k. record { from = two_back i.from fits.from k; to = two_back i.to fits.to k; amount = eight_back i.amount fits.amount k }

joined_back : (is : List Invoice) → AllByRecursion Fits is → map invoice_of (first_chunks 12 (length is) (flat_map invoice_bytes is)) ≡ is
joined_back [] fits = refl
joined_back (i ∷ is) (fit, fits) = ap₂ ◌∷◌ (invoice_back i fit) (joined_back is fits)

module _ (n : ℕ) (is : List Invoice) where
  length-written : length (written n is) ≡ 2 + 12 * length is
  unfolding written
  length-written = length-append (two_bytes n) (flat_map invoice_bytes is) ∙ omega (arith, length-joined is)

  whole-written : whole (written n is) ≡ length is
  whole-written = omega (arith, length-written)

  firms_back : n < 256 ^ 2 → firms_in (written n is) ≡ n
  unfolding written
  firms_back h = two_back n h

  invoices_back : AllByRecursion Fits is → invoices_in (written n is) ≡ is
  unfolding written
  invoices_back fits =
      sym (recorded (written n is)) ∙ ap (λ (k : ℕ). map invoice_of (first_chunks 12 k (flat_map invoice_bytes is))) whole-written ∙ joined_back is fits

  -- the day is brought by its file
  pub written_brings : n < 256 ^ 2 → AllByRecursion Fits is → Brings n is (written n is)
  written_brings small fits =
      let firms = firms_back small in
      let invoices = invoices_back fits in
      record {
        firms = firms;
        invoices = invoices;
        taken = λ room sound enough.
            sound_taken room (written n is) (rw invoices length-written) (rw (firms, invoices) sound) (rw (firms, invoices) enough);
      }

-- one invoice more
pub written_more : (n : ℕ) (is : List Invoice) (k : ℕ) (was now : List ℕ) → k < length is →
    was ≡ written n (take k is) → now ≡ was ++ invoice_bytes (get_or is k blank) → now ≡ written n (take (k + 1) is)
unfolding written
written_more n is k was now h before more =
    more ∙ ap (λ (b : List ℕ). b ++ invoice_bytes (get_or is k blank)) before
    ∙ flat_map_more invoice_bytes (two_bytes n) (take k is) (get_or is k blank)
    ∙ ap (λ (js : List Invoice). two_bytes n ++ flat_map invoice_bytes js) (sym (take_more is k blank h))
