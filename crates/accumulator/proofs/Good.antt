-- What keeps an accumulator good. `w` is what next free is held to.
use mathlib.Core.Path.{◌≡◌, refl, sym, ap, ◌∙◌}
use mathlib.Core.Bool.{Bool, true, false, cond}
use mathlib.Core.List.{List}
use Prim.Native.Nat.{ℕ, zero, suc, ◌+◌, ◌-◌, ◌*◌, ◌/◌, ◌^◌, ◌≤◌, ◌<◌, min, max}
use native.Mathlib.Omega.{arith}
use native.Mathlib.Nat.{pow-suc, pow-le-pow_right}
use native.Mathlib.Numerals.{add-one}
use lib.Dec.{leb, ltb, eqb}
use borrow.Author.Tests.{ltb-true, leb-true, leb-false, eqb-true, le-leb, lt-leb, le-ltb, lt-ltb}
use Rattle.rules.specs.Batching.{target}
use Rattle.op_batch.specs.declared.record_mut.RecordMut.{RecordMut}
use Rattle.op_batch.specs.RecordMut.{stored}
use Rattle.accumulator.specs.declared.OpBatchAccumulator.{OpBatchAccumulator}
use Rattle.accumulator.specs.Good.{record_groups, Good}
use Rattle.accumulator.specs.Model.{new_acc, fits_in, pads, pad_of, closed_run, turned_acc, slotted_acc, slotted_run, joined_acc, crosses, ready_acc, ready_run, added_acc, added_run, filled_acc, filled_run, last_acc, ended_total}
use Rattle.accumulator.proofs.Places.{number_next}

-- a greater bound
pub good_wider : {v w : ℕ} (a : OpBatchAccumulator) → v ≤ w → Good v a → Good w a
good_wider a h g = record { low = g.low; high = omega (arith, g.high); few = g.few; imm = g.imm; sum = g.sum; small = g.small; power = g.power }

ltb_wider : (n v w : ℕ) → v ≤ w → ltb n v ≡ true → ltb n w ≡ true
ltb_wider n v w h e = lt-ltb n w (omega (arith, ltb-true n v e))

pub fits_wider : (v w : ℕ) (imm : Bool) (a : OpBatchAccumulator) → v ≤ w → fits_in v imm a ≡ true → fits_in w imm a ≡ true
fits_wider v w true a h e = go (ltb a.inside 8) e
  where
    go : (b : Bool) → cond b (ltb a.next v) (ltb (a.next + 1) v) ≡ true → cond b (ltb a.next w) (ltb (a.next + 1) w) ≡ true
    go true e = ltb_wider a.next v w h e
    go false e = ltb_wider (a.next + 1) v w h e
fits_wider v w false a h e = go (ltb a.inside 9) e
  where
    go : (b : Bool) → cond b true (ltb a.next v) ≡ true → cond b true (ltb a.next w) ≡ true
    go true e = refl
    go false e = ltb_wider a.next v w h e

-- a group that is padded has room
pad_room : {w : ℕ} (a : OpBatchAccumulator) → Good w a → pads a ≡ true → a.inside < 9
pad_room a g e = go (eqb a.inside 0) refl e
  where
    go : (b : Bool) → eqb a.inside 0 ≡ b → cond b true a.tail ≡ true → a.inside < 9
    go true p q = omega (arith, g.few, eqb-true a.inside 0 p)
    go false p q = omega (arith, g.imm q)

closed_total : {w : ℕ} (a : OpBatchAccumulator) → Good w a → a.total + pad_of a ≤ 9 * a.cur + 9
closed_total a g = go (pads a) refl
  where
    go : (b : Bool) → pads a ≡ b → a.total + cond b 1 0 ≤ 9 * a.cur + 9
    go true p = omega (arith, pad_room a g p)
    go false p = omega arith

pub turned_good : {w : ℕ} (a : OpBatchAccumulator) → Good w a → a.next < w → Good w (turned_acc a)
unfolding turned_acc
turned_good a g h =
    let t = closed_total a g in
    record { low = omega arith; high = omega arith; few = omega arith; imm = λ e. omega arith; sum = omega arith; small = omega arith; power = refl }

-- what fitting says of an operation that opens a group, and of an immediate that does not
next_room : (w : ℕ) (imm : Bool) (a : OpBatchAccumulator) → fits_in w imm a ≡ true → crosses imm a ≡ true → a.next + cond imm 1 0 < w
next_room w true a f p = ltb-true (a.next + 1) w (rw (le-ltb a.inside 8 (leb-true 8 a.inside p)) at f)
next_room w false a f p =
    let h : a.next < w = ltb-true a.next w (rw (le-ltb a.inside 9 (leb-true 9 a.inside p)) at f) in
    omega arith

next_imm : (w : ℕ) (a : OpBatchAccumulator) → fits_in w true a ≡ true → crosses true a ≡ false → a.next < w
next_imm w a f p = ltb-true a.next w (rw (lt-ltb a.inside 8 (leb-false 8 a.inside p)) at f)

pub here_9 : (imm : Bool) (n : ℕ) → n < cond imm 8 9 → n < 9
here_9 true n h = omega arith
here_9 false n h = h

-- where an operation can join, with a slot for its immediate
pub record Ready (w : ℕ) (imm : Bool) (a : OpBatchAccumulator) : Type 0 where
  pub good : Good w a
  pub here : a.inside < cond imm 8 9
  pub slot : a.next + cond imm 1 0 ≤ w

ready_new : {w : ℕ} (imm : Bool) (a : OpBatchAccumulator) → Good w a → fits_in w imm a ≡ true → crosses imm a ≡ true → Ready w imm (turned_acc a)
unfolding turned_acc
ready_new {w} imm a g f p =
    let n = next_room w imm a f p in
    record { good = turned_good a g (omega arith); here = some imm; slot = omega arith }
  where
    some : (imm : Bool) → 0 < cond imm 8 9
    some true = omega arith
    some false = omega arith

ready_old : {w : ℕ} (imm : Bool) (a : OpBatchAccumulator) → Good w a → fits_in w imm a ≡ true → crosses imm a ≡ false → Ready w imm a
ready_old {w} true a g f p = record { good = g; here = leb-false 8 a.inside p; slot = omega (arith, next_imm w a f p) }
ready_old {w} false a g f p = record { good = g; here = leb-false 9 a.inside p; slot = omega (arith, g.high) }

pub ready : {w : ℕ} (imm : Bool) (a : OpBatchAccumulator) → Good w a → fits_in w imm a ≡ true → Ready w imm (ready_acc imm a)
unfolding ready_acc
ready {w} imm a g f = go (crosses imm a) refl
  where
    go : (b : Bool) → crosses imm a ≡ b → Ready w imm (cond b (turned_acc a) a)
    go true p = ready_new imm a g f p
    go false p = ready_old imm a g f p

pub slot_free : {w : ℕ} (imm : Bool) (a : OpBatchAccumulator) → Ready w imm a → imm ≡ true → a.next < w
slot_free {w} imm a r e = let h : a.next + 1 ≤ w = rw e at r.slot in omega arith

pub slotted_ready : {w : ℕ} (imm : Bool) (a : OpBatchAccumulator) → imm ≡ true → Ready w imm a → Good w (slotted_acc a) × ((slotted_acc a).inside < 8)
unfolding slotted_acc
slotted_ready imm a e r =
    let h = slot_free imm a r e in
    let g = r.good in
    (record { low = omega arith; high = omega arith; few = omega arith; imm = g.imm; sum = omega arith; small = g.small; power = g.power }, rw e at r.here)

unit_step : {w : ℕ} (a : OpBatchAccumulator) → Good w a → a.unit * 128 ≡ 128 ^ (a.inside + 1)
unit_step a g = ap (λ (k : ℕ). k * 128) g.power ∙ sym (pow-suc 128 a.inside) ∙ ap (λ (k : ℕ). 128 ^ k) (sym (add-one a.inside))

joined_good : {w : ℕ} (c : ℕ) (imm : Bool) (a : OpBatchAccumulator) → c < 128 → Good w a → a.inside < cond imm 8 9 → Good w (joined_acc c imm a)
unfolding joined_acc
joined_good c imm a hc g h =
    record {
      low = g.low;
      high = g.high;
      few = omega (arith, here_9 imm a.inside h);
      imm = λ e. let k : a.inside < 8 = rw e at h in omega arith;
      sum = omega arith;
      small = rw g.power (number_next a.number c a.inside hc g.small);
      power = unit_step a g;
    }

-- and the numbers of the group that it joins do not overflow
pub joined_fits : {w : ℕ} (c : ℕ) (a : OpBatchAccumulator) → c < 128 → Good w a → a.inside < 9 → (a.number + c * a.unit < 128 ^ 9) × (a.unit * 128 ≤ 128 ^ 9)
unfolding joined_acc
joined_fits c a hc g h =
    let j = joined_good c false a hc g h in
    let p = pow-le-pow_right {n = 128} (omega arith) {i = a.inside + 1} {j = 9} (omega arith) in
    (omega (arith, j.small, p), omega (arith, j.power, p))

pub added_good : {w : ℕ} (c : ℕ) (imm : Bool) (a : OpBatchAccumulator) → c < 128 → Good w a → fits_in w imm a ≡ true → Good w (added_acc c imm a)
unfolding added_acc
added_good c true a hc g f =
    let s = slotted_ready true (ready_acc true a) refl (ready true a g f) in
    joined_good c true (slotted_acc (ready_acc true a)) hc s.0 s.1
added_good c false a hc g f =
    let r = ready false a g f in
    joined_good c false (ready_acc false a) hc r.good r.here

-- ---- what stores come to, by what they make of the run

pub stored_same : (x : RecordMut) {xs ys : List ℕ} → xs ≡ ys → stored (λ _. xs) x ≡ stored (λ _. ys) x
stored_same x e = ap (λ (l : List ℕ). stored (λ _. l) x) e

-- ---- adding, where the code knows whether there is an immediate

module _ (imm b : Bool) (a : OpBatchAccumulator) (e : imm ≡ b) where
  pub added_as : (c : ℕ) → added_acc c imm a ≡ joined_acc c imm (cond b (slotted_acc (ready_acc imm a)) (ready_acc imm a))
  unfolding added_acc
  added_as c = ap (λ (k : Bool). joined_acc c imm (cond k (slotted_acc (ready_acc imm a)) (ready_acc imm a))) e

  pub run_as : (v nb : ℕ) (xs : List ℕ) → added_run imm v nb a xs ≡ cond b (slotted_run v nb (ready_acc imm a) (ready_run imm nb a xs)) (ready_run imm nb a xs)
  unfolding added_run
  run_as v nb xs = ap (λ (k : Bool). cond k (slotted_run v nb (ready_acc imm a) (ready_run imm nb a xs)) (ready_run imm nb a xs)) e

-- ---- the end of a batch

pub target_bounds : (n : ℕ) → n ≤ record_groups → (n ≤ target n) × (target n ≤ record_groups)
unfolding target
target_bounds n h = go (leb n 1) (leb n 2) (leb n 4) refl refl refl
  where
    go : (x y z : Bool) → leb n 1 ≡ x → leb n 2 ≡ y → leb n 4 ≡ z → (n ≤ cond x 1 (cond y 2 (cond z 4 8))) × (cond x 1 (cond y 2 (cond z 4 8)) ≤ 8)
    go true y z p q r = omega (arith, leb-true n 1 p)
    go false true z p q r = omega (arith, leb-true n 2 q)
    go false false true p q r = omega (arith, leb-true n 4 r)
    go false false false p q r = omega arith

-- the power of two that is next, where that is 8 at most
pub target_power : (n r k : ℕ) → r ≡ 2 ^ k → min n 8 ≤ r → r / 2 < max 1 (min n 8) → r ≡ target n
unfolding target
target_power n r zero e lo hi = rw (le-leb n 1 (omega arith)) e
target_power n r (suc zero) e lo hi = rw (lt-leb n 1 (omega arith), le-leb n 2 (omega arith)) e
target_power n r (suc (suc zero)) e lo hi = rw (lt-leb n 1 (omega arith), lt-leb n 2 (omega arith), le-leb n 4 (omega arith)) e
target_power n r (suc (suc (suc zero))) e lo hi = rw (lt-leb n 1 (omega arith), lt-leb n 2 (omega arith), lt-leb n 4 (omega arith)) e
target_power n r (suc (suc (suc (suc k)))) e lo hi =
    let p : 2 ^ 4 ≤ 2 ^ suc (suc (suc (suc k))) = pow-le-pow_right {n = 2} (omega arith) {i = 4} {j = suc (suc (suc (suc k)))} (omega arith) in
    absurd (omega arith)

pub turned_next : (a : OpBatchAccumulator) → (turned_acc a).next ≡ a.next + 1
unfolding turned_acc
turned_next a = refl

-- the loop that closes and opens until n groups are open: a turn, and the end
module _ (n : ℕ) (a : OpBatchAccumulator) where
  left : a.next < n → suc (n - (turned_acc a).next) ≡ n - a.next
  left h = omega (arith, turned_next a)

  pub filled_turn : a.next < n → filled_acc (n - (turned_acc a).next) (turned_acc a) ≡ filled_acc (n - a.next) a
  unfolding filled_acc
  filled_turn h = ap (λ (k : ℕ). filled_acc k a) (left h)

  pub run_turn : (nb : ℕ) (xs : List ℕ) → a.next < n → filled_run (n - (turned_acc a).next) nb (turned_acc a) (closed_run nb a xs) ≡ filled_run (n - a.next) nb a xs
  unfolding filled_run
  run_turn nb xs h = ap (λ (k : ℕ). filled_run k nb a xs) (left h)

  none : n ≤ a.next → n - a.next ≡ 0
  none h = omega arith

  pub filled_none : n ≤ a.next → filled_acc (n - a.next) a ≡ a
  unfolding filled_acc
  filled_none h = rw (none h)

  pub run_none : (nb : ℕ) (xs : List ℕ) → n ≤ a.next → filled_run (n - a.next) nb a xs ≡ xs
  unfolding filled_run
  run_none nb xs h = rw (none h)

filled_good : {w : ℕ} (k : ℕ) (a : OpBatchAccumulator) → Good w a → a.next + k ≤ w → Good w (filled_acc k a)
unfolding filled_acc
filled_good zero a g h = g
filled_good (suc k) a g h = filled_good k (turned_acc a) (turned_good a g (omega arith)) (omega (arith, turned_next a))

last_good : (a : OpBatchAccumulator) → Good record_groups a → Good record_groups (last_acc a)
unfolding last_acc
last_good a g =
    let b = target_bounds a.next g.high in
    filled_good (target a.next - a.next) a g (omega arith)

pub ended_total_lem : (a : OpBatchAccumulator) → Good record_groups a → ended_total a ≤ 72
unfolding ended_total
ended_total_lem a g =
    let q = last_good a g in
    omega (arith, closed_total (last_acc a) q, q.low, q.high)

pub new_good : (w : ℕ) → 2 ≤ w → Good w new_acc
new_good w h = record { low = omega arith; high = omega arith; few = omega arith; imm = λ e. omega arith; sum = omega arith; small = omega arith; power = refl }

-- a new batch takes any operation
pub new_fits : (w : ℕ) (imm : Bool) → 2 ≤ w → fits_in w imm new_acc ≡ true
new_fits w true h = lt-ltb 1 w (omega arith)
new_fits w false h = refl

-- one operation more
pub added_total : (c : ℕ) (imm : Bool) (a : OpBatchAccumulator) → 0 < (added_acc c imm a).total
unfolding added_acc joined_acc
added_total c imm a = omega arith

pub total_le : (a : OpBatchAccumulator) → Good record_groups a → a.total ≤ 72
total_le a g = omega arith
