-- What a turn keeps: the accumulator stays good and the positions stay small. `w` is the width.
use mathlib.Core.Path.{◌≡◌, refl}
use mathlib.Core.Bool.{Bool, true, false, cond}
use Prim.Native.Nat.{ℕ, ◌+◌, ◌≤◌, ◌<◌}
use native.Mathlib.Omega.{arith}
use Rattle.batcher.specs.declared.Work.{Work}
use Rattle.accumulator.specs.Good.{record_groups, Good}
use Rattle.accumulator.specs.Model.{fits_in, added_acc}
use Rattle.batcher.specs.Model.{ended_work, room_work}
use Rattle.accumulator.proofs.Good.{good_wider, ended_total_lem, added_good, added_total, new_good, new_fits, total_le}

pub record Roomy (w : ℕ) (imm : Bool) (s r : Work) : Type 0 where
  pub good : Good w r.acc
  pub fits : fits_in w imm r.acc ≡ true
  pub base : r.base ≤ s.base + 72
  pub batches : r.batches ≤ s.batches + 1

pub roomy : (w : ℕ) (imm : Bool) (s : Work) → 2 ≤ w → w ≤ record_groups → Good w s.acc → Roomy w imm s (room_work w imm s)
unfolding room_work ended_work
roomy w imm s l h g = go (fits_in w imm s.acc) refl
  where
    go : (b : Bool) → fits_in w imm s.acc ≡ b → Roomy w imm s (cond b s (ended_work s))
    go true p = record { good = g; fits = p; base = omega arith; batches = omega arith }
    go false p =
        let e = ended_total_lem s.acc (good_wider s.acc h g) in
        record { good = new_good w l; fits = new_fits w imm l; base = omega arith; batches = omega arith }

pub stepped_total : (w c : ℕ) (imm : Bool) (s : Work) → 2 ≤ w → w ≤ record_groups → c < 128 → Good w s.acc
    → (0 < (added_acc c imm (room_work w imm s).acc).total) × ((added_acc c imm (room_work w imm s).acc).total ≤ 72)
stepped_total w c imm s l h k g =
    let r = roomy w imm s l h g in
    let a = (room_work w imm s).acc in
    (added_total c imm a, total_le (added_acc c imm a) (good_wider (added_acc c imm a) h (added_good c imm a k r.good r.fits)))
