-- What is looked at before a block, and an answer after it: refused alike, or the answer. Assumes nothing.
use mathlib.Core.Path.{◌≡◌, refl, ap₂}
use mathlib.Core.Bool.{Bool, true, false, not}
use mathlib.Core.List.{List}
use Prim.Native.Nat.{ℕ}
use lib.Dec.{ltb}
use Rattle.rules.specs.Answer.{Answer, good, refused, refuse}
use Rattle.rules.specs.Operations.{good_table}
use Rattle.wire.specs.Opened.{opened}

module _ {A : Type 0} (rest : Answer A) where
  abbrev Three : Bool → Bool → Bool → Answer A
  Three a b c = refuse a 3 0 (refuse b 14 0 (refuse c 1 0 rest))

  abbrev Alone : Bool → Bool → Bool → Answer Unit
  Alone a b c = refuse a 3 0 (refuse b 14 0 (refuse c 1 0 (good tt)))

  opens_by : (a b c : Bool) → good tt ≡ Alone a b c → rest ≡ Three a b c
  opens_by true b c e = cc
  opens_by false true c e = cc
  opens_by false false true e = cc
  opens_by false false false e = refl

  moved : (n p m q : ℕ) → ◌≡◌ {A = Answer Unit} (refused n p) (refused m q) → ◌≡◌ {A = Answer A} (refused n p) (refused m q)
  moved n p m q e = let x : n ≡ m = cc in let y : p ≡ q = cc in ap₂ (λ (i j : ℕ). refused i j) x y

  shuts_by : (n p : ℕ) (a b c : Bool) → refused n p ≡ Alone a b c → refused n p ≡ Three a b c
  shuts_by n p true b c e = moved n p 3 0 e
  shuts_by n p false true c e = moved n p 14 0 e
  shuts_by n p false false true e = moved n p 1 0 e
  shuts_by n p false false false e = cc

  module _ (t : List ℕ) (size at : ℕ) where
    pub opens : good tt ≡ opened t size at → rest ≡ Three (ltb 1048576 size) (not (good_table t)) (ltb size at)
    opens = opens_by (ltb 1048576 size) (not (good_table t)) (ltb size at)

    pub shuts : (n p : ℕ) → refused n p ≡ opened t size at → refused n p ≡ Three (ltb 1048576 size) (not (good_table t)) (ltb size at)
    shuts n p = shuts_by n p (ltb 1048576 size) (not (good_table t)) (ltb size at)
