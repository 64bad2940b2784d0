-- Worked days, each with a greatest set-off, its total and its heights, and the statement that they are. Assumes nothing.
use Rattle.std.specs.Prelude.{◌≡◌, ℕ, List, [], ◌∷◌, length}
use Rattle.std.specs.List.{AllByRecursion}
use Rattle.day.specs.declared.invoices.Invoice.{Invoice}
use Rattle.day.specs.Bills.{day_of, reads, total}
use Rattle.day.specs.File.{debtors, creditors, amounts, SoundList}
use Rattle.heights.specs.Promise.{Shown}

pub record Worked : Type 0 where
  pub firms : ℕ
  pub invoices : List Invoice
  pub struck : List ℕ
  pub in_all : ℕ
  pub heights : List ℕ

-- the day is one, so much is struck out in all, and the heights show that no more could be
abbrev pub Holds : Worked → Type 0
Holds w =
    (sound : SoundList w.firms w.invoices)
    × (let d = day_of w.firms (length w.invoices) (reads (debtors w.invoices)) (reads (creditors w.invoices)) (reads (amounts w.invoices)) sound in
    (total d (reads w.struck) ≡ w.in_all) × Shown d (reads w.struck) (reads w.heights))

-- who owes, who is owed, the cents
abbrev pub bill : ℕ → ℕ → ℕ → Invoice
bill from to amount = record { from = from; to = to; amount = amount }

abbrev pub worked : List Worked
worked =
    record { firms = 2; invoices = bill 0 1 10 ∷ bill 1 0 7 ∷ []; struck = 7 ∷ 7 ∷ []; in_all = 14; heights = 0 ∷ 1 ∷ [] }
    ∷ record { firms = 3; invoices = bill 0 1 5 ∷ bill 1 2 4 ∷ bill 2 0 6 ∷ []; struck = 4 ∷ 4 ∷ 4 ∷ []; in_all = 12; heights = 1 ∷ 2 ∷ 0 ∷ [] }
    ∷ record { firms = 3; invoices = bill 0 1 5 ∷ bill 1 2 4 ∷ []; struck = 0 ∷ 0 ∷ []; in_all = 0; heights = 0 ∷ 1 ∷ 2 ∷ [] }
    ∷ record {
      firms = 4;
      invoices = bill 0 1 10 ∷ bill 1 2 6 ∷ bill 2 0 5 ∷ bill 1 3 8 ∷ bill 3 0 4 ∷ [];
      struck = 9 ∷ 5 ∷ 5 ∷ 4 ∷ 4 ∷ [];
      in_all = 27;
      heights = 0 ∷ 1 ∷ 2 ∷ 2 ∷ [];
    }
    ∷ record {
      firms = 4;
      invoices = bill 0 1 3 ∷ bill 1 0 3 ∷ bill 1 2 3 ∷ bill 2 3 3 ∷ bill 3 1 3 ∷ [];
      struck = 3 ∷ 3 ∷ 3 ∷ 3 ∷ 3 ∷ [];
      in_all = 15;
      heights = 0 ∷ 0 ∷ 0 ∷ 0 ∷ [];
    }
    ∷ record {
      firms = 3;
      invoices = bill 0 1 4 ∷ bill 1 2 4 ∷ bill 2 0 4 ∷ bill 1 0 4 ∷ [];
      struck = 4 ∷ 4 ∷ 4 ∷ 0 ∷ [];
      in_all = 12;
      heights = 1 ∷ 0 ∷ 0 ∷ [];
    }
    ∷ []

unfoldable pub WorkedDays : Type 0
WorkedDays = AllByRecursion Holds worked
