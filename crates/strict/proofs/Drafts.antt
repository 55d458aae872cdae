-- What keeps a draft fine, and what it does to its numbers. `w` is what next free is held to. Assumes nothing.
use mathlib.Core.Path.{◌≡◌, refl, ap}
use mathlib.Core.Bool.{Bool, true, false, cond}
use Prim.Native.Nat.{ℕ, zero, suc, ◌+◌, ◌-◌, ◌*◌, ◌%◌, ◌^◌, ◌≤◌, ◌<◌}
use native.Mathlib.Nat.{add-zero, pow-suc, pow-le-pow_right, mul-le-mul_right}
use native.Mathlib.Omega.{arith}
use borrow.Author.Tests.{lt-leb, lt-ltb}
use Rattle.std.specs.Int.{from_bool}
use Rattle.accumulator.specs.declared.OpBatchAccumulator.{OpBatchAccumulator}
use Rattle.accumulator.specs.Model.{fits_in, pads, pad_of, turned_acc, slotted_acc, joined_acc, crosses, ready_acc, added_acc}
use Rattle.accumulator.proofs.Good.{turned_good, turned_next, Ready, ready, added_good}
use Rattle.strict.specs.Draft.{Draft, closed_draft, closed_times, ready_draft, joined_draft, added_draft, Fine}

-- ---- bytes of a number

pub unit_is : (g : ℕ) → g < 8 → (1 * 2 ^ (8 * g)) % 2 ^ 64 ≡ 256 ^ g
unit_is zero h = refl
unit_is (suc zero) h = refl
unit_is (suc (suc zero)) h = refl
unit_is (suc (suc (suc zero))) h = refl
unit_is (suc (suc (suc (suc zero)))) h = refl
unit_is (suc (suc (suc (suc (suc zero))))) h = refl
unit_is (suc (suc (suc (suc (suc (suc zero)))))) h = refl
unit_is (suc (suc (suc (suc (suc (suc (suc zero))))))) h = refl
unit_is (suc (suc (suc (suc (suc (suc (suc (suc g)))))))) h = absurd (omega arith)

-- one more byte
byte_more : (n m g : ℕ) → n < 256 ^ g → m ≤ 255 → n + m * 256 ^ g < 256 ^ suc g
byte_more n m g h k = let e = pow-suc 256 g in let l = mul-le-mul_right (256 ^ g) k in omega arith

byte_up : (n g h : ℕ) → n < 256 ^ g → g ≤ h → n < 256 ^ h
byte_up n g h k l = omega (arith, pow-le-pow_right {n = 256} (omega arith) l)

pad_small : (a : OpBatchAccumulator) → pad_of a ≤ 1
pad_small a = go (pads a)
  where
    go : (b : Bool) → cond b 1 0 ≤ 1
    go true = omega arith
    go false = omega arith

-- ---- closing a group

module _ {w : ℕ} (d : Draft) (f : Fine w d) where
  size_small : d.acc.inside + pad_of d.acc ≤ 255
  size_small = omega (arith, f.good.few, pad_small d.acc)

  sizes_more : d.sizes + (d.acc.inside + pad_of d.acc) * 256 ^ d.acc.cur < 256 ^ suc d.acc.cur
  sizes_more = byte_more d.sizes (d.acc.inside + pad_of d.acc) d.acc.cur f.sizes size_small

  flags_more : d.flags + pad_of d.acc * 256 ^ d.acc.cur < 256 ^ suc d.acc.cur
  flags_more = byte_more d.flags (pad_of d.acc) d.acc.cur f.flags (omega (arith, pad_small d.acc))

  -- it overflows nothing
  pub closed_fits : w ≤ 8
      → (d.sizes + (d.acc.inside + pad_of d.acc) * 256 ^ d.acc.cur < 18446744073709551616) × (d.flags + pad_of d.acc * 256 ^ d.acc.cur < 18446744073709551616)
  closed_fits h =
      let l : suc d.acc.cur ≤ 8 = omega (arith, f.good.low, f.good.high) in
      (byte_up _ (suc d.acc.cur) 8 sizes_more l, byte_up _ (suc d.acc.cur) 8 flags_more l)

  pub closed_fine : d.acc.next < w → Fine w (closed_draft d)
  unfolding closed_draft turned_acc
  closed_fine h =
      record {
        good = turned_good d.acc f.good h;
        sizes = byte_up _ (suc d.acc.cur) d.acc.next sizes_more f.good.low;
        flags = byte_up _ (suc d.acc.cur) d.acc.next flags_more f.good.low;
      }

pub closed_next : (d : Draft) → (closed_draft d).acc.next ≡ d.acc.next + 1
unfolding closed_draft turned_acc
closed_next d = refl

-- the loop that closes and opens until n groups are open: a turn, and the end
module _ (n : ℕ) (d : Draft) where
  pub times_turn : d.acc.next < n → closed_times (n - (closed_draft d).acc.next) (closed_draft d) ≡ closed_times (n - d.acc.next) d
  unfolding closed_times
  times_turn h = let e : suc (n - (closed_draft d).acc.next) ≡ n - d.acc.next = omega (arith, closed_next d) in ap (λ (k : ℕ). closed_times k d) e

  pub times_none : n ≤ d.acc.next → closed_times (n - d.acc.next) d ≡ d
  unfolding closed_times
  times_none h = let e : n - d.acc.next ≡ 0 = omega arith in rw e

-- ---- an operation is added

pub ready_acc_lem : (imm : Bool) (d : Draft) → (ready_draft imm d).acc ≡ ready_acc imm d.acc
unfolding ready_draft ready_acc closed_draft
ready_acc_lem imm d = go (crosses imm d.acc)
  where
    go : (b : Bool) → (cond b (closed_draft d) d).acc ≡ cond b (turned_acc d.acc) d.acc
    go true = refl
    go false = refl

pub added_acc_lem : (c : ℕ) (imm : Bool) (d : Draft) → (added_draft c imm d).acc ≡ added_acc c imm d.acc
unfolding joined_draft added_acc
added_acc_lem c imm d = ap (λ (a : OpBatchAccumulator). joined_acc c imm (cond imm (slotted_acc a) a)) (ready_acc_lem imm d)

with_room : {w : ℕ} (imm : Bool) (a : OpBatchAccumulator) → Ready w imm a → (a.inside + from_bool imm < 9) × (a.next + from_bool imm ≤ w)
with_room true a r = (omega (arith, r.here), r.slot)
with_room false a r = (omega (arith, r.here), r.slot)

module _ {w : ℕ} (imm : Bool) (d : Draft) (f : Fine w d) (fits : fits_in w imm d.acc ≡ true) where
  ready_fine : Fine w (ready_draft imm d)
  unfolding ready_draft ready_acc
  ready_fine = go (crosses imm d.acc) (ready imm d.acc f.good fits).good.high
    where
      go : (b : Bool) → (cond b (turned_acc d.acc) d.acc).next ≤ w → Fine w (cond b (closed_draft d) d)
      go true h = closed_fine d f (omega (arith, turned_next d.acc))
      go false h = f

  added_cur : (c : ℕ) → (added_draft c imm d).acc.cur ≡ (ready_draft imm d).acc.cur
  unfolding joined_draft joined_acc slotted_acc
  added_cur c = go imm (ready_draft imm d).acc
    where
      go : (b : Bool) (a : OpBatchAccumulator) → (cond b (slotted_acc a) a).cur ≡ a.cur
      go true a = refl
      go false a = refl

  pub added_fine : (c : ℕ) → c < 128 → Fine w (added_draft c imm d)
  unfolding joined_draft
  added_fine c h =
      record {
        good = rw (added_acc_lem c imm d) (added_good c imm d.acc h f.good fits);
        sizes = rw (added_cur c) ready_fine.sizes;
        flags = rw (added_cur c) ready_fine.flags;
      }

  -- then it joins
  pub ready_joins : ((ready_draft imm d).acc.inside + from_bool imm < 9) × ((ready_draft imm d).acc.next + from_bool imm ≤ w)
  ready_joins = rw (ready_acc_lem imm d) (with_room imm (ready_acc imm d.acc) (ready imm d.acc f.good fits))

-- ---- an operation that joins as it is

stays : (imm : Bool) (a : OpBatchAccumulator) → a.inside + from_bool imm < 9 → crosses imm a ≡ false
stays true a h = lt-leb 8 a.inside (omega arith)
stays false a h = lt-leb 9 a.inside (omega arith)

pub join_fits : (w : ℕ) (imm : Bool) (a : OpBatchAccumulator) → a.inside + from_bool imm < 9 → a.next + from_bool imm ≤ w → fits_in w imm a ≡ true
join_fits w true a h l = rw (lt-ltb a.inside 8 (omega arith)) (lt-ltb a.next w (omega arith))
join_fits w false a h l = rw (lt-ltb a.inside 9 (omega arith))

-- an operation that joins is added
pub join_is : (c : ℕ) (imm : Bool) (d : Draft) → d.acc.inside + from_bool imm < 9 → joined_draft c imm d ≡ added_draft c imm d
unfolding ready_draft
join_is c imm d h = rw (stays imm d.acc h)

-- as the code has it: next free is counted up by the slots that are taken
abbrev with_slots : Bool → OpBatchAccumulator → OpBatchAccumulator
with_slots imm a = record { cur = a.cur; next = a.next + from_bool imm; inside = a.inside; number = a.number; unit = a.unit; total = a.total; tail = a.tail }

abbrev by_slots : ℕ → Bool → Draft → Draft
by_slots c imm d = record { acc = with_slots imm (joined_acc c imm d.acc); sizes = d.sizes; flags = d.flags }

pub slots_joined : (c : ℕ) (imm : Bool) (d : Draft) → by_slots c imm d ≡ joined_draft c imm d
unfolding joined_draft joined_acc slotted_acc
slots_joined c true d = refl
slots_joined c false d = rw add-zero

pub joined_fine : {w : ℕ} (c : ℕ) (imm : Bool) (d : Draft) → Fine w d → c < 128 → d.acc.inside + from_bool imm < 9 → d.acc.next + from_bool imm ≤ w → Fine w (by_slots c imm d)
joined_fine c imm d f k h l = rw (slots_joined c imm d, join_is c imm d h) (added_fine imm d f (join_fits _ imm d.acc h l) c k)

-- ---- the first
