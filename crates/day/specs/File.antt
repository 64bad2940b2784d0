-- What a day's file says: how many firms there are, and the invoices, numbers with the low byte first. Assumes nothing.
use Rattle.std.specs.Prelude.{ℕ, ◌+◌, ◌-◌, ◌*◌, ◌/◌, ◌%◌, ◌^◌, ◌<◌, List, [], ◌∷◌, ◌++◌, map, length, slice_index}
use Rattle.std.specs.List.{range_with_len, flat_map}
use Rattle.day.specs.declared.invoices.Invoice.{Invoice}
use Rattle.day.specs.Bills.{Sound, reads}

-- the number that two bytes write from place i on, and the one that eight bytes write
abbrev pub two : List ℕ → ℕ → ℕ
two b i = slice_index b i + 256 * slice_index b (i + 1)

abbrev pub eight : List ℕ → ℕ → ℕ
eight b i =
    slice_index b i + 256 * slice_index b (i + 1) + 256 ^ 2 * slice_index b (i + 2) + 256 ^ 3 * slice_index b (i + 3)
    + 256 ^ 4 * slice_index b (i + 4) + 256 ^ 5 * slice_index b (i + 5) + 256 ^ 6 * slice_index b (i + 6) + 256 ^ 7 * slice_index b (i + 7)

-- the number of firms
abbrev pub firms_in : List ℕ → ℕ
firms_in b = two b 0

-- the invoice that twelve bytes write from place i on, who owes, who is owed, the cents; and that of twelve bytes alone
abbrev pub invoice_from : List ℕ → ℕ → Invoice
invoice_from b i = record { from = two b i; to = two b (i + 2); amount = eight b (i + 4) }

abbrev pub invoice_of : List ℕ → Invoice
invoice_of r = invoice_from r 0

-- in a file they come after the number of firms, twelve bytes for each invoice
unfoldable pub invoice_at : List ℕ → ℕ → Invoice
invoice_at b e = invoice_from b (2 + 12 * e)

-- how many invoices the file's length has whole
abbrev pub whole : List ℕ → ℕ
whole b = (length b - 2) / 12

-- the invoices, as they come in
unfoldable pub invoices_in : List ℕ → List Invoice
invoices_in b = map (invoice_at b) (range_with_len 0 (whole b))

-- invoices as three rows of numbers: who owes, who is owed, the cents
abbrev pub debtors : List Invoice → List ℕ
debtors is = map (λ i. i.from) is

abbrev pub creditors : List Invoice → List ℕ
creditors is = map (λ i. i.to) is

abbrev pub amounts : List Invoice → List ℕ
amounts is = map (λ i. i.amount) is

-- n firms and these invoices are a day within the limits
abbrev pub SoundList : ℕ → List Invoice → Type 0
SoundList n is = Sound n (length is) (reads (debtors is)) (reads (creditors is)) (reads (amounts is))

-- the bytes that write a number, and those of a day
abbrev pub two_bytes : ℕ → List ℕ
two_bytes x = x % 256 ∷ x / 256 % 256 ∷ []

abbrev pub eight_bytes : ℕ → List ℕ
eight_bytes x =
    x % 256 ∷ x / 256 % 256 ∷ x / 256 ^ 2 % 256 ∷ x / 256 ^ 3 % 256
    ∷ x / 256 ^ 4 % 256 ∷ x / 256 ^ 5 % 256 ∷ x / 256 ^ 6 % 256 ∷ x / 256 ^ 7 % 256 ∷ []

-- an invoice's numbers have two, two and eight bytes
pub record Fits (i : Invoice) : Type 0 where
  pub from : i.from < 256 ^ 2
  pub to : i.to < 256 ^ 2
  pub amount : i.amount < 256 ^ 8

abbrev pub invoice_bytes : Invoice → List ℕ
invoice_bytes i = two_bytes i.from ++ (two_bytes i.to ++ eight_bytes i.amount)

unfoldable pub written : ℕ → List Invoice → List ℕ
written n is = two_bytes n ++ flat_map invoice_bytes is
