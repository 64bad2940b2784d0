-- A sum over places is that of a list. Assumes nothing.
use Rattle.std.proofs.Common.{◌≡◌, ℕ, zero, suc, map, sum, refl, add-one, arith}
use Rattle.std.specs.List.{range_with_len}
use Rattle.std.proofs.lemmas.List.FromFn.{sum_by-map-range_with_len_more}
use Rattle.day.specs.Bills.{span}

pub span_range : (f : ℕ → ℕ) (n : ℕ) → span f n ≡ sum (map f (range_with_len 0 n))
unfolding span
span_range f zero = refl
span_range f (suc n) = let more = sum_by-map-range_with_len_more (λ x. x) f 0 n n (omega arith) in omega (arith, span_range f n, rw add-one at more)
