-- The records are the twelves of bytes after the first two.
use Rattle.std.proofs.Common.{◌≡◌, ℕ, ◌/◌, List, map, length, drop, refl, length-drop, arith}
use Rattle.std.specs.Simd.{first_chunks}
use Rattle.day.specs.File.{invoice_of, invoices_in, whole}
use Rattle.day.proofs.Rows.{recorded}
use Rattle.day.proofs.layout.records.Goals as goal

pub returns-in_default-clause-invoices : goal.returns-in_default-clause-invoices
unfolding invoices_in
returns-in_default-clause-invoices c =
    let few = c.in_default.ensures.cases in
    let none : whole c.args.file.now ≡ 0 = omega arith in rw none refl

cut : (b rest : List ℕ) (rs : List (List ℕ)) → rest ≡ drop 2 b → rs ≡ first_chunks 12 (length rest / 12) rest → map invoice_of rs ≡ invoices_in b
cut b rest rs is chunks = rw (chunks, is, length-drop 2 b) (recorded b)

pub returns-clause-invoices : goal.returns-clause-invoices
returns-clause-invoices c = cut c.args.file.now c.in-Some.rest.now _ c.in-Some.ensures.cases.1 c.as_chunks.ensures.front
