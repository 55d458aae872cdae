-- How long a block's bytes are. Assumes nothing.
use mathlib.Core.Path.{◌≡◌, refl, ◌∙◌}
use mathlib.Core.Bool.{Bool, true, false, cond}
use mathlib.Core.List.{List, [], ◌∷◌, map}
use Prim.Native.Nat.{ℕ, suc, ◌*◌, ◌≤◌}
use native.Mathlib.Omega.{arith}
use lib.ListN.{length, length-append}
use lib.Dec.{ltb}
use Rattle.rules.specs.Lists.{total, in_row}
use Rattle.rules.specs.Digits.{le_bytes}
use Rattle.rules.specs.Operations.{Op, valued}
use Rattle.rules.specs.Record.{Block}
use Rattle.rules.specs.Bytes.{more, op_bytes, ops_bytes}
use Rattle.rules.specs.Block.{block_bytes}
use Rattle.rules.proofs.Digits.{length_le_bytes}
use Rattle.rules.proofs.Sizes.{length_count, length_nibbles, length_flags}
use Rattle.claims.specs.Sizes.{op_length, BlockLength}

module _ (t : List ℕ) where
  op_length_lem : (x : Op) → length (op_bytes t x) ≡ op_length t x
  unfolding op_bytes
  op_length_lem x = go (valued t x.code)
    where
      go : (b : Bool) → suc (length (cond b (le_bytes 8 x.value) [])) ≡ cond b 9 1
      go true = omega (arith, length_le_bytes 8 x.value)
      go false = refl

  ops_length : (xs : List Op) → length (ops_bytes t xs) ≡ total (map (op_length t) xs)
  unfolding in_row total
  ops_length [] = refl
  ops_length (x ∷ xs) = length-append (op_bytes t x) (ops_bytes t xs) ∙ omega (arith, op_length_lem x, ops_length xs)

  ops_size_lem : (xs : List Op) → total (map (op_length t) xs) ≤ 9 * length xs
  unfolding total
  ops_size_lem [] = omega arith
  ops_size_lem (x ∷ xs) = omega (arith, op_size (valued t x.code), ops_size_lem xs)
    where
      op_size : (b : Bool) → cond b 9 1 ≤ 9
      op_size true = omega arith
      op_size false = omega arith

pub block_length : BlockLength
unfolding block_bytes
block_length t b =
    simp length-append
    (omega (arith, length_count (length b.ops), ops_length t b.ops, length_le_bytes 4 (length b.records), length_nibbles b.records, length_flags b.records))

more_size : (v : ℕ) → more v ≤ 2
unfolding more
more_size v = go (ltb v 128) (ltb v 16384)
  where
    go : (a b : Bool) → cond a 0 (cond b 1 2) ≤ 2
    go true b = omega arith
    go false true = omega arith
    go false false = omega arith

-- the longest block
pub block_size : (t : List ℕ) (b : Block) → length b.ops ≤ 65535 → length b.records ≤ 16384 → length (block_bytes t b) ≤ 671742
block_size t b h k = omega (arith, block_length t b, more_size (length b.ops), ops_size_lem t b.ops)
