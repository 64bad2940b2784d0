-- Where no ring is left that gains, the set-off is shown to be greatest by the numbers of the search. Assumes nothing.
use Rattle.std.proofs.Common.{◌≡◌, ℕ, ◌<◌, List, sym, subst, inl, inr, arith}
use Rattle.day.specs.Bills.{Day, reads, total}
use Rattle.heights.specs.Promise.{Shown}
use Rattle.heights.proofs.Existence.{certified}
use Rattle.rings.specs.Numbers.{levels}
use Rattle.rings.specs.declared.scratch.Scratch.{Scratch}
use Rattle.setoff.specs.Promise.{PositionKept}
use Rattle.setoff.proofs.Positions.{position_kept}
use Rattle.greatest.specs.Climbing.{Climbed}
use Rattle.greatest.specs.Settling.{Settles}
use Rattle.greatest.proofs.Counted.{counted, set_off, gain-total, shown}

pub settles : (d : Day) (tails : (e : ℕ) → e < d.invoices → d.from e < d.firms) (heads : (e : ℕ) → e < d.invoices → d.to e < d.firms)
    (struck struck' height : List ℕ) (w : Scratch) (sum : ℕ) → Climbed (counted d tails heads) 1 struck struck' w → reads height ≡ levels w.number.now →
    sum ≡ total d (reads struck') → Settles d struck struck' height sum
unfolding PositionKept
settles d tails heads struck struck' height w sum climbed written in_all =
    let s = reads struck' in
    let set = set_off d tails heads s climbed.even in
    let settled = climbed.settled in
    let certificate = certified (counted d tails heads) s climbed.even settled.round settled.step (levels w.number.now) (reads w.last.now) settled.kept settled.fitted in
    record {
      shown = subst (λ h. Shown d s h) (sym written) (shown d tails heads s (levels w.number.now) certificate);
      positions = λ v there. position_kept d s v set there;
      in_all = in_all;
      stays = λ greatest. elim climbed.more [
        | inl same ↦ same
        | inr gained ↦ absurd (omega (arith, greatest.most s set, gain-total d tails heads s, gain-total d tails heads (reads struck)))
      ];
    }
