-- The ways that a batch ends, and its record. Assumes nothing.
use mathlib.Core.Path.{◌≡◌, refl, sym, ap, ◌∙◌}
use mathlib.Core.Bool.{false, true}
use mathlib.Core.List.{List, [], ◌∷◌}
use Prim.Native.Nat.{ℕ, zero, suc, ◌+◌, ◌/◌, ◌%◌, ◌≤◌, ◌<◌}
use native.Mathlib.Omega.{arith}
use borrow.Author.Tests.{lt-ltb, le-ltb}
use lib.ListN.{length, take, drop}
use lib.Dec.{leb}
use Rattle.rules.specs.Lists.{fitted, total, every}
use Rattle.rules.specs.Digits.{digits}
use Rattle.rules.specs.Answer.{refused, Read, found}
use Rattle.rules.specs.Refusals.{past_operations₇, bad_padding₁₀}
use Rattle.rules.specs.Operations.{Op}
use Rattle.rules.specs.Record.{Record, record_by, record_size, record_bytes, cut}
use Rattle.rules.specs.Bytes.{up_to}
use Rattle.rules.specs.Block.{batch_at}
use Rattle.rules.proofs.Slots.{slots, batch_by, batch_is, total_split}
use Rattle.rules.specs.Checks.{padding_right}
use Rattle.rules.proofs.Runs.{fitted_length}
use Rattle.rules.proofs.Operations.{true_left, true_right, true_both}
use Rattle.op_batch.specs.Stores.{record_set, packed}
use Rattle.op_batch.proofs.Stores.{packed_whole}
use Rattle.rules.proofs.Records.{record_length}
use Rattle.claims.proofs.ReadThenChecked.{zeros_total}

-- ---- sizes of which those from the width on are 0

pub take_digits : (j k v : ℕ) → j ≤ k → take j (digits 16 k v) ≡ digits 16 j v
unfolding digits
take_digits zero k v h = refl
take_digits (suc j) zero v h = absurd (omega arith)
take_digits (suc j) (suc k) v h = ap (λ (l : List ℕ). v % 16 ∷ l) (take_digits j k (v / 16) (omega arith))

up_to_take : (j m : ℕ) (ns : List ℕ) → up_to m ns ≡ true → up_to m (take j ns) ≡ true
unfolding every
up_to_take zero m ns h = refl
up_to_take (suc j) m [] h = refl
up_to_take (suc j) m (n ∷ ns) h = true_both (leb n m) (up_to m (take j ns)) (true_left (leb n m) (up_to m ns) h) (up_to_take j m ns (true_right (leb n m) (up_to m ns) h))

module _ (w v : ℕ) (m : w ≤ 8) where
  pub total_under : up_to 0 (drop w (digits 16 8 v)) ≡ true → total (digits 16 w v) ≡ total (digits 16 8 v)
  total_under z = omega (arith, zeros_total (drop w (digits 16 8 v)) z, total_split w (digits 16 8 v), ap total (take_digits w 8 v m))

  pub small_under : up_to 9 (digits 16 8 v) ≡ true → up_to 9 (digits 16 w v) ≡ true
  small_under s = rw (← take_digits w 8 v m) (up_to_take w 9 (digits 16 8 v) s)

-- ---- the ways that a batch ends

module _ (w : ℕ) (t : List ℕ) (xs : List Op) (at b v f : ℕ) where
  abbrev pub batch : Read Record
  batch = batch_at w t xs at b (digits 16 8 v) (digits 2 8 f)

  pub way_7 : length xs < at + total (digits 16 8 v) → batch ≡ refused past_operations₇ b
  unfolding batch_at
  way_7 h = rw (lt-ltb (length xs) (at + total (digits 16 8 v)) h)

  module _ (m : w ≤ 8) (z : up_to 0 (drop w (digits 16 8 v)) ≡ true) (h : at + total (digits 16 8 v) ≤ length xs) where
    walked : batch ≡ batch_by w t xs at b (digits 16 8 v) (digits 2 8 f)
    walked = batch_is w t xs at b (digits 16 8 v) (digits 2 8 f) (zeros_total (drop w (digits 16 8 v)) z)

    pub way_slots : (n p : ℕ) → slots t b (digits 16 w v) [] xs at ≡ refused n p → batch ≡ refused n p
    unfolding batch_by
    way_slots n p e = walked ∙ rw (le-ltb (length xs) (at + total (digits 16 8 v)) h, take_digits w 8 v m, e)

    module _ (vs : List ℕ) (end : ℕ) (e : slots t b (digits 16 w v) [] xs at ≡ found vs end) where
      pub way_10 : padding_right (take (length vs) (cut (digits 16 8 v) xs at)) (digits 2 8 f) ≡ false → batch ≡ refused bad_padding₁₀ b
      unfolding batch_by
      way_10 g = walked ∙ rw (le-ltb (length xs) (at + total (digits 16 8 v)) h, take_digits w 8 v m, e, g)

      pub way_good : padding_right (take (length vs) (cut (digits 16 8 v) xs at)) (digits 2 8 f) ≡ true → batch ≡ found (record_by (digits 16 8 v) (digits 2 8 f) vs) end
      unfolding batch_by
      way_good g = walked ∙ rw (le-ltb (length xs) (at + total (digits 16 8 v)) h, take_digits w 8 v m, e, g)

-- ---- its record

module _ (v f : ℕ) (vs : List ℕ) where
  abbrev pub made : Record
  made = record_by (digits 16 8 v) (digits 2 8 f) vs

  made_packed : (gs : List ℕ) (n : ℕ) → gs ≡ fitted 8 vs → length vs ≡ n → packed v f gs n ≡ made
  unfolding packed record_by
  made_packed gs n e d = rw (e, ← d)

  pub made_size : length (record_bytes made) ≡ record_size
  made_size =
      ap (λ (r : Record). length (record_bytes r)) (sym (made_packed (fitted 8 vs) (length vs) refl refl))
      ∙ record_length (packed v f (fitted 8 vs) (length vs)) (packed_whole v f (fitted 8 vs) (length vs) (fitted_length 8 vs))

  pub made_stored : (gs : List ℕ) (n b : ℕ) (l out : List ℕ) → gs ≡ fitted 8 vs → length vs ≡ n → out ≡ record_set b (packed v f gs n) l → out ≡ record_set b made l
  made_stored gs n b l out e d h = rw (made_packed gs n e d) at h
