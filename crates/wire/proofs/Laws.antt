-- Laws of the items: the bytes of an operation, one read, tests of digits. Assumes nothing.
use mathlib.Core.Path.{◌≡◌, refl}
use mathlib.Core.Bool.{true, false, cond, not}
use mathlib.Core.List.{List, [], ◌∷◌}
use Prim.Native.Nat.{ℕ, ◌+◌, ◌≤◌, ◌<◌}
use native.Mathlib.Omega.{arith}
use borrow.Author.Tests.{le-leb, lt-leb, lt-ltb, ne_eqb}
use lib.ListN.{length, get_or}
use Rattle.rules.specs.Lists.{every}
use lib.Dec.{ltb, eqb}
use Rattle.rules.specs.Answer.{found, refuse}
use Rattle.rules.specs.Digits.{le_bytes, le_at}
use Rattle.rules.specs.Operations.{kind_of, assigned, valued, field}
use Rattle.rules.specs.Bytes.{op_at, value_at, op_bytes, up_to}
use Rattle.rules.proofs.Operations.{op, kind_at, op_guards, value_guards, value_tested}

-- ---- the bytes of an operation, by its kind

module _ (t : List ℕ) (c v : ℕ) where
  pub op_plain : not (eqb (kind_of t c) 0) ≡ false → op_bytes t (op c v) ≡ c ∷ []
  unfolding op_bytes valued
  op_plain e = rw e

  pub op_valued : not (eqb (kind_of t c) 0) ≡ true → op_bytes t (op c v) ≡ c ∷ le_bytes 8 v
  unfolding op_bytes valued
  op_valued e = rw e

-- ---- an operation at a place, its opcode assigned

module _ (t s : List ℕ) (at i : ℕ) (l : length t ≡ 128) (h : at < length s) (c : get_or s at 0 < 128) (k : get_or t (get_or s at 0) 0 < 3) where
  pub assigned_here : op_at t s at i ≡ cond (valued t (get_or s at 0)) (value_at t s at i (get_or s at 0)) (found (op (get_or s at 0) 0) (at + 1))
  unfolding assigned
  assigned_here = let x = get_or s at 0 in rw (op_guards t s at i) (simp (lt-leb (length s) at h, lt-ltb x 128 c, kind_at t x (omega arith), lt-ltb (get_or t x 0) 3 k))

  pub valued_here : (get_or t (get_or s at 0) 0 ≡ 0 → ⊥) → op_at t s at i
      ≡ refuse (ltb (length s) (at + 9)) 2 at (refuse (not (ltb (le_at 8 s (at + 1)) field)) 17 i (found (op (get_or s at 0) (le_at 8 s (at + 1))) (at + 9)))
  unfolding valued
  valued_here z =
      let x = get_or s at 0 in
      let v : valued t x ≡ true = simp (kind_at t x (omega arith), ne_eqb (get_or t x 0) 0 z) in
      rw (assigned_here, v, value_guards t s at i x, value_tested t (op x (le_at 8 s (at + 1))) v)

-- ---- tests of digits

pub up_to_stop : (m d : ℕ) (ds : List ℕ) → m < d → up_to m (d ∷ ds) ≡ false
unfolding every
up_to_stop m d ds h = rw (lt-leb d m h)

pub up_to_turn : (m d : ℕ) (ds : List ℕ) → d ≤ m → up_to m (d ∷ ds) ≡ up_to m ds
unfolding every
up_to_turn m d ds h = rw (le-leb d m h)

pub up_to_end : (m : ℕ) → up_to m [] ≡ true
unfolding every
up_to_end m = refl
