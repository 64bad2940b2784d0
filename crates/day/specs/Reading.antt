-- Which refusal applies first to a file, and what is answered and written. Assumes nothing.
use Rattle.std.specs.Prelude.{ℕ, ◌+◌, ◌*◌, ◌≤◌, min, Bool, not, ◌||◌, List, ◌++◌, length, drop, position, Some, None, Ok, Err, Option, Result, ◌==◌, nat_lt}
use Rattle.std.specs.Bool.{then_some}
use Rattle.std.specs.Option.{option_map, option_or}
use Rattle.day.specs.declared.invoices.Invoice.{Invoice}
use Rattle.day.specs.declared.invoices.Rule.{Rule}
use Rattle.day.specs.declared.invoices.Rule.TheVariants.{FirmsThere, TwoFirms, AmountInRange}
use Rattle.day.specs.declared.refusals.Kind.TheVariants.{Invoices, Numbers, Rings}
use Rattle.day.specs.declared.refusals.Refusal.{Refusal}
use Rattle.day.specs.declared.refusals.Refusal.TheVariants.{Firms, Length, Memory}
use Rattle.day.specs.declared.sizes.Room.{Room}
use Rattle.day.specs.declared.sizes.Size.{Size}
use Rattle.day.specs.File.{firms_in, whole, invoices_in, SoundList}
use Rattle.day.specs.Rules.{breaks, refusal_by}

-- A row of checks is joined by `option_or`, which takes the first refusal; a check by one test is `then_some` of it.

-- a rule is looked for in all invoices before the next one
abbrev pub by_rule : Rule → ℕ → List Invoice → Option Refusal
by_rule r n is = option_map (refusal_by r) (position (breaks r n) is)

abbrev pub by_rules : ℕ → List Invoice → Option Refusal
by_rules n is = option_or (by_rule FirmsThere n is) (option_or (by_rule TwoFirms n is) (by_rule AmountInRange n is))

-- lent memory for n firms and k invoices: a place for each invoice, one for each firm, and one ring
abbrev pub by_room : Room → ℕ → ℕ → Option Refusal
by_room room n k =
    option_or (then_some (nat_lt room.invoices k) (Memory Invoices))
    (option_or (then_some (nat_lt room.numbers n) (Memory Numbers)) (then_some (nat_lt room.rings (n + 2)) (Memory Rings)))

-- the number of firms is missing, 0 or above 512
abbrev pub bad_firms : List ℕ → Bool
bad_firms b = nat_lt (length b) 2 || (firms_in b == 0 || nat_lt 512 (firms_in b))

-- not twelve bytes for each invoice, or more than 4,096 invoices
abbrev pub bad_length : List ℕ → Bool
bad_length b = not (length b == 2 + 12 * whole b) || nat_lt 4096 (whole b)

-- the first refusal that applies to a file
unfoldable pub refusal_in : Room → List ℕ → Option Refusal
refusal_in room b =
    option_or (then_some (bad_firms b) Firms)
    (option_or (by_room room (firms_in b) (whole b))
    (option_or (then_some (bad_length b) (Length (length b))) (by_rules (firms_in b) (invoices_in b))))

-- the answer: the refusal, or else a value
abbrev pub answered : {A : Type 0} → Option Refusal → A → Result A Refusal
answered None x = Ok x
answered (Some r) x = Err r

abbrev pub size_in : List ℕ → Size
size_in b = record { firms = firms_in b; invoices = whole b }

-- a lent row with new numbers in its first places and, past them, as it was
abbrev pub row_read : List ℕ → List ℕ → List ℕ
row_read new old = new ++ drop (length new) old

-- what a lent row holds after an answer: where the day is refused, it is as it was
abbrev pub row_after : {A : Type 0} → Result A Refusal → List ℕ → List ℕ → List ℕ
row_after (Ok x) new old = row_read new old
row_after (Err r) new old = old

-- the room of lent memory of which these rows for invoices are a part
abbrev pub room_with : Room → List ℕ → List ℕ → List ℕ → Room
room_with room from to amount =
    record { invoices = min (min (min room.invoices (length from)) (length to)) (length amount); numbers = room.numbers; rings = room.rings }

-- a file that is sound, and rows with a place for each of its invoices
pub record Writable (b from to amount : List ℕ) : Type 0 where
  pub sound : SoundList (firms_in b) (invoices_in b)
  pub from_room : whole b ≤ length from
  pub to_room : whole b ≤ length to
  pub amount_room : whole b ≤ length amount
