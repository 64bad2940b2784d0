-- What is promised of reading a day, in the words of the rules. Each is a statement, whose proof is owed. Assumes nothing.
use Rattle.std.specs.Prelude.{◌≡◌, ℕ, ◌+◌, ◌*◌, ◌^◌, ◌<◌, ◌≤◌, ◌≢◌, ◌⊎◌, List, length, None, Ok, Err, Result}
use Rattle.std.specs.List.{HoldsAt}
use Rattle.day.specs.declared.invoices.Invoice.{Invoice}
use Rattle.day.specs.declared.invoices.Rule.{Rule}
use Rattle.day.specs.declared.invoices.Rule.TheVariants.{FirmsThere, TwoFirms, AmountInRange}
use Rattle.day.specs.declared.refusals.Kind.TheVariants.{Invoices, Numbers, Rings}
use Rattle.day.specs.declared.refusals.Refusal.{Refusal}
use Rattle.day.specs.declared.refusals.Refusal.TheVariants.{Firms, Length, NoFirm, ToItself, Amount, Memory}
use Rattle.day.specs.declared.sizes.Room.{Room}
use Rattle.day.specs.declared.sizes.Size.{Size}
use Rattle.day.specs.Bills.{Sound, reads}
use Rattle.day.specs.File.{firms_in, whole, invoices_in, SoundList}
use Rattle.day.specs.Rules.{number_of, place_of, kind_of}
use Rattle.day.specs.Reading.{refusal_in}

-- what breaks a rule for invoices, on a day of n firms
abbrev pub Fault : Rule → ℕ → Invoice → Type 0
Fault FirmsThere n i = (n ≤ i.from) ⊎ (n ≤ i.to)
Fault TwoFirms n i = i.from ≡ i.to
Fault AmountInRange n i = (i.amount ≡ 0) ⊎ (10 ^ 12 < i.amount)

-- invoice e is there, and breaks the rule
abbrev pub Faulty : Rule → ℕ → List Invoice → ℕ → Type 0
Faulty r n is e = (e < length is) × HoldsAt (Fault r n) is e

-- the rule of a refusal is broken at its place
abbrev pub Broken : Room → List ℕ → Refusal → Type 0
Broken room b Firms = (length b < 2) ⊎ ((firms_in b ≡ 0) ⊎ (512 < firms_in b))
Broken room b (Memory Invoices) = room.invoices < whole b
Broken room b (Memory Numbers) = room.numbers < firms_in b
Broken room b (Memory Rings) = room.rings < firms_in b + 2
Broken room b (Length p) = (p ≡ length b) × ((k : ℕ) → k ≤ 4096 → length b ≢ 2 + 12 * k)
Broken room b (NoFirm e) = Faulty FirmsThere (firms_in b) (invoices_in b) e
Broken room b (ToItself e) = Faulty TwoFirms (firms_in b) (invoices_in b) e
Broken room b (Amount e) = Faulty AmountInRange (firms_in b) (invoices_in b) e

-- the rules' order: number 1, then 9 kind by kind, then 2, 3, 4 and 5
abbrev pub turn : Refusal → ℕ
turn Firms = 0
turn (Memory k) = 1 + kind_of k
turn (Length p) = 4
turn (NoFirm e) = 5
turn (ToItself e) = 6
turn (Amount e) = 7

-- a refusal comes before another by its rule, and under one rule by its place
abbrev pub Before : Refusal → Refusal → Type 0
Before q r = (turn q < turn r) ⊎ ((turn q ≡ turn r) × (place_of q < place_of r))

-- r is what a file is to be refused with: its rule is broken at its place, and no rule before it is broken anywhere
pub record First (room : Room) (b : List ℕ) (r : Refusal) : Type 0 where
  pub broken : Broken room b r
  pub none_before : (q : Refusal) → Before q r → Broken room b q → ⊥

-- an answer is a refusal with number k at place p
abbrev pub Told : {A : Type 0} → Result A Refusal → ℕ → ℕ → Type 0
Told (Ok x) k p = ⊥
Told (Err r) k p = (number_of r ≡ k) × (place_of r ≡ p)

-- number k is due at place p: its rule is broken there, and no rule before it is broken anywhere
abbrev pub Due : Room → List ℕ → ℕ → ℕ → Type 0
Due room b k p = (r : Refusal) × First room b r × (number_of r ≡ k) × (place_of r ≡ p)

-- an answer is a refusal exactly where it is the first one
abbrev pub Exactly : {A : Type 0} → Room → List ℕ → Result A Refusal → Type 0
Exactly room b answer = (r : Refusal) → (answer ≡ Err r → First room b r) × (First room b r → answer ≡ Err r)

-- so it refuses a file with the number and at the place that are due, and with no other
pub record Refuses {A : Type 0} (room : Room) (b : List ℕ) (answer : Result A Refusal) : Type 0 where
  pub exactly : Exactly room b answer
  pub told : (k p : ℕ) → (Told answer k p → Due room b k p) × (Due room b k p → Told answer k p)

-- an answer takes a file only where the rows then hold a sound day, the one that `day_of` makes of them
abbrev pub Takes : Result Size Refusal → List ℕ → List ℕ → List ℕ → Type 0
Takes (Ok s) from to amount = Sound s.firms s.invoices (reads from) (reads to) (reads amount)
Takes (Err r) from to amount = Unit {0}

-- memory for n firms and k invoices
pub record Enough (room : Room) (n k : ℕ) : Type 0 where
  pub invoices : k ≤ room.invoices
  pub numbers : n ≤ room.numbers
  pub rings : n + 2 ≤ room.rings

-- a file has these firms and invoices, and where they are sound it is taken with every memory that is enough
pub record Brings (n : ℕ) (is : List Invoice) (b : List ℕ) : Type 0 where
  pub firms : firms_in b ≡ n
  pub invoices : invoices_in b ≡ is
  pub taken : (room : Room) → SoundList n is → Enough room n (length is) → refusal_in room b ≡ None
