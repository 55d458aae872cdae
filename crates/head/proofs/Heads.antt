-- The head of a block, stage by stage, with room that no head exceeds. Assumes nothing.
use mathlib.Core.Path.{◌≡◌, refl, sym, ap}
use mathlib.Core.Bool.{true, false}
use mathlib.Core.List.{List, ◌∷◌}
use Prim.Native.Nat.{ℕ, zero, suc, ◌+◌, ◌-◌, ◌/◌, ◌^◌, ◌≤◌, ◌<◌}
use native.Mathlib.Omega.{arith}
use borrow.Author.Tests.{lt-ltb, le-ltb, ltb-false, le-leb}
use lib.ListN.{length, get_or}
use lib.Dec.{leb, ltb}
use lib.Count.{count_trailing_zeros}
use Rattle.rules.specs.Digits.{le_at}
use Rattle.rules.specs.Answer.{good, refused, Read, found, ◌then◌, row}
use Rattle.rules.specs.Refusals.{past_end₁, over_limit₃, bad_table₁₄}
use Rattle.rules.specs.Operations.{Op, good_table}
use Rattle.rules.specs.Bytes.{least, count_by, count_at, op_at, ops_at, batch_count_at}
use Rattle.rules.specs.Block.{head_at}
use Rattle.rules.specs.Functions.{most, headed}
use Rattle.std.specs.Prelude.{Result}
use Rattle.refusal.specs.declared.Refusal.{Refusal}
use Rattle.refusal.specs.Told.{told}
use Rattle.wire.specs.Stages.{after, IfFound, Passed}
use Rattle.wire.proofs.Stages.{if_refuse, if_then, held}

-- ---- the walk over the operations

after_then : {A : Type 0} (x : A) (r : Read (List A)) → after (r then λ l end. found (x ∷ l) end) ≡ after r
after_then x (good i) = refl
after_then x (refused n p) = refl

module _ (t s : List ℕ) (n at i : ℕ) where
  pub turn : (x : Op) (next : ℕ) → i < n → op_at t s at i ≡ found x next → after (ops_at t s (n - (i + 1)) next (i + 1)) ≡ after (ops_at t s (n - i) at i)
  unfolding row
  turn x next h o = let e : n - i ≡ suc (n - (i + 1)) = omega arith in rw (e, o) (sym (after_then x (ops_at t s (n - (i + 1)) next (i + 1))))

  pub stop : (m p : ℕ) → i < n → op_at t s at i ≡ refused m p → after (ops_at t s (n - i) at i) ≡ refused m p
  unfolding row
  stop m p h o = let e : n - i ≡ suc (n - (i + 1)) = omega arith in rw (e, o)

  pub done : n ≤ i → after (ops_at t s (n - i) at i) ≡ good at
  unfolding row
  done h = let e : n - i ≡ 0 = omega arith in rw e

-- there are as many as were asked for
pub ops_many : (t s : List ℕ) (n at i : ℕ) → IfFound (λ (xs : List Op) (next : ℕ). length xs ≡ n) (ops_at t s n at i)
unfolding row
ops_many t s zero at i = refl
ops_many t s (suc n) at i =
    if_then _ (op_at t s at i) _ (λ x next e. if_then _ (ops_at t s n next (i + 1)) _ (λ xs end f. ap suc (held _ (ops_at t s n next (i + 1)) xs end f (ops_many t s n next (i + 1)))))

-- what the walk's answer says of them
pub passed : (t s : List ℕ) (n at : ℕ) (r : Result ℕ Refusal) → told r ≡ after (ops_at t s n at 0) → Passed (λ (xs : List Op) (next : ℕ). length xs ≡ n) (ops_at t s n at 0) r
passed t s n at r e = record { reply = e; left = ops_many t s n at 0 }

-- ---- no count is over its limit

pub few_operations : (s : List ℕ) (at : ℕ) → IfFound (λ (n next : ℕ). n ≤ 65535) (count_at s at)
unfolding count_at count_by
few_operations s at =
    let t = count_trailing_zeros 8 (get_or s at 0) in
    let v = le_at (t + 1) s at / 2 ^ (t + 1) in
    if_refuse _ (leb (length s) at) 2 at _ (λ _. if_refuse _ (ltb 2 t) 3 0 _ (λ _. if_refuse _ (ltb (length s) (at + t + 1)) 2 at _ (λ _. if_refuse _ (ltb v (least t)) 3 0 _ (λ _. if_refuse _ (ltb 65535 v) 3 0 _ (λ b. ltb-false 65535 v b)))))

pub few_batches : (s : List ℕ) (at : ℕ) → IfFound (λ (k next : ℕ). k ≤ 16384) (batch_count_at s at)
unfolding batch_count_at
few_batches s at =
    let k = le_at 4 s at in
    if_refuse _ (ltb (length s) (at + 4)) 2 at _ (λ _. if_refuse _ (ltb ((length s - (at + 4)) / 5) k) 5 0 _ (λ _. if_refuse _ (ltb 16384 k) 3 0 _ (λ b. ltb-false 16384 k b)))

-- ---- the ways that items 1 to 3 end

module _ (t s : List ℕ) (at : ℕ) where
  pub head_uncounted : (m p : ℕ) → count_at s at ≡ refused m p → head_at t s at most ≡ refused m p
  unfolding head_at
  head_uncounted m p e = rw e

  module _ (n a₁ : ℕ) (e : count_at s at ≡ found n a₁) where
    few : leb n 65535 ≡ true
    few = le-leb n 65535 (held _ (count_at s at) n a₁ e (few_operations s at))

    pub head_lost : (m p : ℕ) → ops_at t s n a₁ 0 ≡ refused m p → head_at t s at most ≡ refused m p
    unfolding head_at
    head_lost m p f = rw (e, few, f)

    module _ (xs : List Op) (a₂ : ℕ) (f : ops_at t s n a₁ 0 ≡ found xs a₂) where
      pub head_unbatched : (m p : ℕ) → batch_count_at s a₂ ≡ refused m p → head_at t s at most ≡ refused m p
      unfolding head_at
      head_unbatched m p g = rw (e, few, f, g)

      pub head_good : (k a₃ : ℕ) → batch_count_at s a₂ ≡ found k a₃ → head_at t s at most ≡ found (record { ops = xs; batches = k }) a₃
      unfolding head_at
      head_good k a₃ g = rw (e, few, f, g, le-ltb 16384 k (held _ (batch_count_at s a₂) k a₃ g (few_batches s a₂)))
