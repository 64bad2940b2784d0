-- A file's invoices, as its records give them, and how a loop writes them into a row. Assumes nothing.
use Rattle.std.proofs.Common.{◌≡◌, ℕ, zero, suc, ◌+◌, ◌*◌, ◌<◌, List, [], ◌∷◌, ◌++◌, map, length, get_or, take, drop, set, sym, refl, ap, ap₂, ◌∙◌, length-take-le, arith}
use Rattle.std.specs.List.{range_with_len}
use Rattle.std.specs.Simd.{first_chunks}
use Rattle.std.proofs.lemmas.List.{set_at, drop_more, map_more, append_assoc, length-map, take_all, get_or-take, get_or-drop, drop-drop}
use Rattle.std.proofs.lemmas.List.FromFn.{length-map-range_with_len}
use Rattle.std.proofs.lemmas.Simd.{map-map}
use Rattle.day.specs.declared.invoices.Invoice.{Invoice}
use Rattle.day.specs.File.{two, eight, invoice_from, invoice_of, invoice_at, invoices_in, whole}

-- any invoice, for the places past a list
abbrev pub blank : Invoice
blank = record { from = 0; to = 0; amount = 0 }

pub length-invoices_in : (b : List ℕ) → length (invoices_in b) ≡ whole b
unfolding invoices_in
length-invoices_in b = length-map-range_with_len (invoice_at b) 0 (whole b)

-- twelve bytes that are cut out of a file write the invoice that they write there
cut_out : (b : List ℕ) (p : ℕ) → invoice_of (take 12 (drop p b)) ≡ invoice_from b p
cut_out b p =
    let byte : (j k : ℕ) → j < 12 → k ≡ p + j → get_or (take 12 (drop p b)) j 0 ≡ get_or b k 0
    = λ j k h at. rw at (get_or-take 12 (drop p b) j 0 h ∙ get_or-drop p b j 0) in
    let first : two (take 12 (drop p b)) 0 ≡ two b p = omega (arith, byte 0 p (omega arith) (omega arith), byte 1 (p + 1) (omega arith) (omega arith)) in
    let second : two (take 12 (drop p b)) 2 ≡ two b (p + 2) =
    omega (arith, byte 2 (p + 2) (omega arith) (omega arith), byte 3 (p + 2 + 1) (omega arith) (omega arith)) in
    let cents : eight (take 12 (drop p b)) 4 ≡ eight b (p + 4) =
    omega (
      arith,
      byte 4 (p + 4) (omega arith) (omega arith),
      byte 5 (p + 4 + 1) (omega arith) (omega arith),
      byte 6 (p + 4 + 2) (omega arith) (omega arith),
      byte 7 (p + 4 + 3) (omega arith) (omega arith),
      byte 8 (p + 4 + 4) (omega arith) (omega arith),
      byte 9 (p + 4 + 5) (omega arith) (omega arith),
      byte 10 (p + 4 + 6) (omega arith) (omega arith),
      byte 11 (p + 4 + 7) (omega arith) (omega arith),
    ) in
    λ i. record { from = first i; to = second i; amount = cents i }

cut_up : (b : List ℕ) (k s : ℕ) → map invoice_of (first_chunks 12 k (drop (2 + 12 * s) b)) ≡ map (invoice_at b) (range_with_len s k)
unfolding invoice_at
cut_up b zero s = refl
cut_up b (suc k) s =
    let next : drop 12 (drop (2 + 12 * s) b) ≡ drop (2 + 12 * (s + 1)) b = drop-drop 12 (2 + 12 * s) b ∙ ap (λ (n : ℕ). drop n b) (omega arith) in
    ap₂ ◌∷◌ (cut_out b (2 + 12 * s)) (ap (λ (xs : List ℕ). map invoice_of (first_chunks 12 k xs)) next ∙ cut_up b k (s + 1))

-- a file's invoices are those of its records
pub recorded : (b : List ℕ) → map invoice_of (first_chunks 12 (whole b) (drop 2 b)) ≡ invoices_in b
unfolding invoices_in
recorded b = cut_up b (whole b) 0

-- a row into which the first k of some records are written
abbrev pub partly : (Invoice → ℕ) → List (List ℕ) → ℕ → List ℕ → List ℕ
partly get rs k old = map (λ r. get (invoice_of r)) (take k rs) ++ drop k old

-- one more of them is
pub wrote : (get : Invoice → ℕ) (rs : List (List ℕ)) (k : ℕ) (old now : List ℕ) (i : Invoice) → k < length rs → k < length old →
    i ≡ invoice_of (get_or rs k []) → now ≡ partly get rs k old → set now k (get i) ≡ partly get rs (k + 1) old
wrote get rs k old now i there room is before =
    let f = λ (r : List ℕ). get (invoice_of r) in
    rw (is, before) (
    ap (λ (t : List ℕ). set (map f (take k rs) ++ t) k (f (get_or rs k []))) (drop_more old k 0 room)
    ∙ set_at (map f (take k rs)) (get_or old k 0) (drop (k + 1) old) (f (get_or rs k [])) k (length-map (take k rs) f ∙ length-take-le k rs (omega arith))
    ∙ sym (append_assoc (map f (take k rs)) (f (get_or rs k []) ∷ []) (drop (k + 1) old))
    ∙ ap (λ (t : List ℕ). t ++ drop (k + 1) old) (sym (map_more f rs k [] there))
    )

-- all of them are
pub filled : (get : Invoice → ℕ) (b : List ℕ) (rs : List (List ℕ)) (k : ℕ) (old now : List ℕ) → map invoice_of rs ≡ invoices_in b → k ≡ length rs →
    now ≡ partly get rs k old → now ≡ map get (invoices_in b) ++ drop (length (map get (invoices_in b))) old
filled get b rs k old now is all before =
    let row : map (λ r. get (invoice_of r)) (take k rs) ≡ map get (invoices_in b)
    = ap (map (λ r. get (invoice_of r))) (take_all k rs (omega arith)) ∙ sym (map-map get invoice_of rs) ∙ ap (map get) is in
    let long : k ≡ length (map get (invoices_in b)) = all ∙ sym (length-map rs invoice_of) ∙ ap length is ∙ sym (length-map (invoices_in b) get) in
    before ∙ ap (λ (t : List ℕ). t ++ drop k old) row ∙ ap (λ (j : ℕ). map get (invoices_in b) ++ drop j old) long
