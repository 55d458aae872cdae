-- The items of a block, written one after the other, and their lengths. Assumes nothing.
use mathlib.Core.Path.{◌≡◌, refl, sym, ap, ◌∙◌}
use mathlib.Core.Bool.{Bool, true, false, cond}
use mathlib.Core.List.{List, [], ◌∷◌, ◌++◌}
use Prim.Native.Nat.{ℕ, suc, ◌+◌, ◌-◌, ◌*◌, ◌/◌, ◌≤◌, ◌<◌}
use native.Mathlib.Nat.{sub-zero}
use native.Mathlib.Omega.{arith}
use lib.ListN.{length, get_or, drop, set, length-append}
use lib.Seq.{sets}
use Rattle.std.proofs.lemmas.List.Sums.{sum_by-cons}
use Rattle.rules.specs.Lists.{in_row}
use Rattle.rules.specs.Digits.{number, le_bytes}
use Rattle.rules.specs.Operations.{Op, operations, valued}
use Rattle.rules.specs.Record.{differences, record_size, record_at, records_from, records_in}
use Rattle.rules.specs.Bytes.{more, count_bytes, op_bytes, ops_bytes, nibble_bytes, flag_bytes}
use Rattle.rules.specs.Block.{block_bytes}
use Rattle.rules.specs.Functions.{arena, block_in}
use Rattle.rules.proofs.Digits.{split, length_le_bytes}
use Rattle.rules.proofs.Operations.{op, length_operations, operations_turn, operations_end}
use Rattle.checks.proofs.Walk.{records_turn, records_end}
use Rattle.encoder.specs.Parts.{op_size, ops_size}
use Rattle.rules.proofs.Sizes.{length_records, length_count, length_nibbles, length_flags, more_0, more_1, more_2}
use Rattle.rules.proofs.Runs.{sets_next}

-- ---- operations

op_length : (t : List ℕ) (x : Op) → length (op_bytes t x) ≡ op_size t x.code
unfolding op_bytes
op_length t x = go (valued t x.code)
  where
    go : (b : Bool) → suc (length (cond b (le_bytes 8 x.value) [])) ≡ cond b 9 1
    go true = ap suc (length_le_bytes 8 x.value)
    go false = refl

pub ops_length : (t cs vs : List ℕ) → length cs ≡ length vs → length (ops_bytes t (operations cs vs)) ≡ ops_size t cs
unfolding operations in_row
ops_length t [] vs h = refl
ops_length t (c ∷ cs) [] h = absurd (omega arith)
ops_length t (c ∷ cs) (v ∷ vs) h =
    length-append (op_bytes t (op c v)) (ops_bytes t (operations cs vs)) ∙ omega (arith, op_length t (op c v), sum_by-cons (op_size t) c cs, ops_length t cs vs (omega arith))

-- no operation takes more than nine bytes
pub ops_most : (t cs : List ℕ) → ops_size t cs ≤ 9 * length cs
ops_most t [] = omega arith
ops_most t (c ∷ cs) = omega (arith, sum_by-cons (op_size t) c cs, nine (valued t c), ops_most t cs)
  where
    nine : (b : Bool) → cond b 9 1 ≤ 9
    nine true = omega arith
    nine false = omega arith

module _ (t cs vs : List ℕ) (i : ℕ) where
  abbrev pub left : List ℕ
  left = ops_bytes t (operations (drop i cs) (drop i vs))

  pub ops_turn : i < length cs → i < length vs → left ≡ op_bytes t (op (get_or cs i 0) (get_or vs i 0)) ++ ops_bytes t (operations (drop (i + 1) cs) (drop (i + 1) vs))
  unfolding in_row
  ops_turn h k = rw (operations_turn cs vs i h k)

  pub ops_end : length cs ≤ i → left ≡ []
  unfolding in_row
  ops_end h = rw (operations_end cs vs i h)

-- ---- the sizes and flags of each record

module _ (rs : List ℕ) (n b : ℕ) where
  pub deltas_turn : (l : List ℕ) (at : ℕ) → b < n
      → sets (sets l (at + 4 * b) (le_bytes 4 (number 16 (differences (record_at rs b).starts)))) (at + 4 * (b + 1)) (nibble_bytes (records_from (n - (b + 1)) rs (b + 1)))
      ≡ sets l (at + 4 * b) (nibble_bytes (records_from (n - b) rs b))
  unfolding in_row
  deltas_turn l at h =
      let v = number 16 (differences (record_at rs b).starts) in
      rw (records_turn n rs b h) (sets_next l (at + 4 * b) (le_bytes 4 v) (at + 4 * (b + 1)) (nibble_bytes (records_from (n - (b + 1)) rs (b + 1))) (omega (arith, length_le_bytes 4 v)))

  pub flags_turn : (l : List ℕ) (at : ℕ) → b < n
      → sets (set l (at + b) (number 2 (record_at rs b).flags)) (at + (b + 1)) (flag_bytes (records_from (n - (b + 1)) rs (b + 1))) ≡ sets l (at + b) (flag_bytes (records_from (n - b) rs b))
  unfolding in_row
  flags_turn l at h = let e : at + (b + 1) ≡ suc (at + b) = omega arith in rw (records_turn n rs b h, e)

  pub deltas_end : (l : List ℕ) (at : ℕ) → n ≤ b → sets l at (nibble_bytes (records_from (n - b) rs b)) ≡ l
  unfolding in_row
  deltas_end l at h = rw (records_end n rs b h)

  pub flags_end : (l : List ℕ) (at : ℕ) → n ≤ b → sets l at (flag_bytes (records_from (n - b) rs b)) ≡ l
  unfolding in_row
  flags_end l at h = rw (records_end n rs b h)

pub all_records : (rs : List ℕ) → records_from (length rs / record_size - 0) rs 0 ≡ records_in rs
unfolding records_in
all_records rs = rw sub-zero

-- ---- lengths

pub more_most : (v : ℕ) → more v ≤ 2
more_most v = split v 128 (λ h. omega (arith, more_0 v h)) (λ h. split v 16384 (λ k. omega (arith, more_1 v h k)) (λ k. omega (arith, more_2 v k)))

-- ---- the block

module _ (t cs vs rs : List ℕ) (e : length cs ≡ length vs) where
  abbrev bytes : List ℕ
  bytes = block_bytes t (block_in (arena cs vs rs))

  abbrev items : List ℕ
  items = count_bytes (length cs) ++ (ops_bytes t (operations cs vs) ++ (le_bytes 4 (length rs / record_size) ++ (nibble_bytes (records_in rs) ++ flag_bytes (records_in rs))))

  block_items : bytes ≡ items
  unfolding block_bytes block_in
  block_items = rw (length_operations cs vs e, length_records rs)

  pub block_length : length bytes ≡ 5 * (length rs / record_size) + 4 + (more (length cs) + 1) + ops_size t cs
  block_length =
      let c = length_count (length cs) in
      let o = ops_length t cs vs e in
      let k = length_le_bytes 4 (length rs / record_size) in
      let n = length_nibbles (records_in rs) in
      let f = length_flags (records_in rs) in
      let m = length_records rs in
      ap length block_items ∙ simp length-append (omega arith)

  -- its items, stored one after the other
  pub block_stored : (l : List ℕ) (at p q : ℕ) → p ≡ at + more (length cs) + 1 → q ≡ p + length (ops_bytes t (operations cs vs))
      → sets (sets (sets (sets (sets l at (count_bytes (length cs))) p (ops_bytes t (operations cs vs))) q (le_bytes 4 (length rs / record_size))) (q + 4) (nibble_bytes (records_in rs))) (q + 4 + 4 * (length rs / record_size)) (flag_bytes (records_in rs))
      ≡ sets l at bytes
  block_stored l at p q h k =
      let c = count_bytes (length cs) in
      let o = ops_bytes t (operations cs vs) in
      let b = le_bytes 4 (length rs / record_size) in
      let n = nibble_bytes (records_in rs) in
      let f = flag_bytes (records_in rs) in
      sets_next (sets (sets (sets l at c) p o) q b) (q + 4) n (q + 4 + 4 * (length rs / record_size)) f (omega (arith, length_nibbles (records_in rs), length_records rs))
      ∙ sets_next (sets (sets l at c) p o) q b (q + 4) (n ++ f) (omega (arith, length_le_bytes 4 (length rs / record_size)))
      ∙ sets_next (sets l at c) p o q (b ++ (n ++ f)) k
      ∙ sets_next l at c p (o ++ (b ++ (n ++ f))) (omega (arith, length_count (length cs)))
      ∙ ap (sets l at) (sym block_items)
