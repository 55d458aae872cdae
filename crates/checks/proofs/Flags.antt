-- The padding test of one batch, flag by flag. Assumes nothing.
use mathlib.Core.Path.{◌≡◌, sym, ap, ◌∙◌}
use mathlib.Core.Bool.{Bool, true, false, cond, ◌&&◌}
use mathlib.Core.List.{List, ◌∷◌}
use Prim.Native.Nat.{ℕ, zero, suc, ◌+◌, ◌-◌, ◌≤◌, ◌<◌}
use native.Mathlib.Nat.{add-zero}
use native.Mathlib.Numerals.{add-one}
use native.Mathlib.Omega.{arith}
use borrow.Author.Tests.{eq-eqb, ne_eqb}
use lib.ListN.{length, get_or, drop}
use lib.Seq.{drop-cons}
use lib.Dec.{eqb}
use Rattle.rules.specs.Digits.{number}
use Rattle.rules.specs.Answer.{good, refused}
use Rattle.rules.specs.Operations.{Op, operations}
use Rattle.rules.specs.Record.{Record, differences, cut, part}
use Rattle.rules.specs.Checks.{padding_fault, ends_in_noop, padding_right}
use Rattle.rules.proofs.Digits.{split}
use Rattle.rules.proofs.Operations.{op}
use Rattle.op_batch.proofs.Right.{flags_ahead}
use Rattle.operation.specs.Verdict.{one_fault}
use Rattle.checks.specs.Batch.{under}
use Rattle.checks.proofs.Groups.{Lying, part_turn, span_none, group, under_start, under_turn, under_none, bounds}

-- ---- how a group ends

ends : (n i : ℕ) (cs vs : List ℕ) → i + suc n ≤ length cs → length cs ≡ length vs → ends_in_noop (part (suc n) (operations cs vs) i) ≡ eqb (get_or cs (i + n) 0) 0
unfolding ends_in_noop
ends zero i cs vs h e = rw (part_turn 0 i cs vs (omega arith) e, add-zero i)
ends (suc n) i cs vs h e =
    ap ends_in_noop (part_turn (suc n) i cs vs (omega arith) e)
    ∙ skip (op (get_or cs i 0) (get_or vs i 0))
    ∙ ends n (i + 1) cs vs (omega arith) e
    ∙ ap (λ (k : ℕ). eqb (get_or cs k 0) 0) (omega arith)
  where
    skip : (y : Op) → ends_in_noop (y ∷ part (suc n) (operations cs vs) (i + 1)) ≡ ends_in_noop (part (suc n) (operations cs vs) (i + 1))
    skip y = rw (part_turn n (i + 1) cs vs (omega arith) e)

-- ---- the walk

-- whether the flags from the g-th on are right
unfoldable pub pad_left : Record → List Op → ℕ → ℕ → Bool
pad_left r xs from g = padding_right (under r xs from g) (drop g r.flags)

-- none is looked at from the count on
pub over : (r : Record) (xs : List Op) (from g : ℕ) → r.count ≤ g → pad_left r xs from g ≡ true
unfolding pad_left padding_right
over r xs from g k = rw (under_none r xs from g k)

module _ (r : Record) (cs vs : List ℕ) (from : ℕ) (x : Lying r cs vs from) (g : ℕ) (h : g < 8) where
  -- under the count
  step : g < r.count → pad_left r (operations cs vs) from g
      ≡ cond (eqb (get_or r.flags g 0) 0) true (ends_in_noop (group r (operations cs vs) from g)) && pad_left r (operations cs vs) from (g + 1)
  unfolding pad_left padding_right
  step k =
      let f : drop g r.flags ≡ get_or r.flags g 0 ∷ drop (g + 1) r.flags = rw (add-one g) (drop-cons r.flags g 0 (omega (arith, x.laid.flags))) in
      rw (under_turn r cs vs from x g k, f)

  pub plain : get_or r.flags g 0 ≡ 0 → pad_left r (operations cs vs) from (g + 1) ≡ pad_left r (operations cs vs) from g
  plain e =
      split g r.count
      (λ k. sym (step k ∙ rw (eq-eqb (get_or r.flags g 0) 0 e)))
      (λ k. over r (operations cs vs) from (g + 1) (omega arith) ∙ sym (over r (operations cs vs) from g k))

  -- a set flag
  module _ (f : get_or r.flags g 0 ≡ 0 → ⊥) where
    -- of a group under the count, from one operation up to another
    module _ (k : g < r.count) (start end : ℕ) (a : start ≡ get_or r.starts g 0) (z : end ≡ get_or r.starts (g + 1) 0) where
      pub empty : start ≡ end → pad_left r (operations cs vs) from g ≡ false
      unfolding ends_in_noop
      empty e = step k ∙ rw (ne_eqb (get_or r.flags g 0) 0 f, span_none (from + get_or r.starts g 0) (from + get_or r.starts (g + 1) 0) (operations cs vs) (omega arith))

      module _ (n : start ≡ end → ⊥) where
        last : ends_in_noop (group r (operations cs vs) from g) ≡ eqb (get_or cs (from + end - 1) 0) 0
        last =
            let i = from + get_or r.starts g 0 in
            let to = from + get_or r.starts (g + 1) 0 in
            let b = bounds r cs vs from x g k start end a z in
            let e : to - i ≡ suc (to - i - 1) = omega arith in
            ap (λ (k : ℕ). ends_in_noop (part k (operations cs vs) i)) e
            ∙ ends (to - i - 1) i cs vs (omega arith) x.equal
            ∙ ap (λ (k : ℕ). eqb (get_or cs k 0) 0) (omega arith)

        pub other : (get_or cs (from + end - 1) 0 ≡ 0 → ⊥) → pad_left r (operations cs vs) from g ≡ false
        other c = step k ∙ rw (ne_eqb (get_or r.flags g 0) 0 f, last, ne_eqb (get_or cs (from + end - 1) 0) 0 c)

        pub noop : get_or cs (from + end - 1) 0 ≡ 0 → pad_left r (operations cs vs) from (g + 1) ≡ pad_left r (operations cs vs) from g
        noop c = sym (step k ∙ rw (ne_eqb (get_or r.flags g 0) 0 f, last, eq-eqb (get_or cs (from + end - 1) 0) 0 c))

-- ---- where no flag is ahead

module _ (r : Record) (cs vs : List ℕ) (from : ℕ) (x : Lying r cs vs from) where
  unflagged : (k g : ℕ) → g + k ≡ 8 → number 256 (drop g r.flags) ≡ 0 → pad_left r (operations cs vs) from g ≡ true
  unflagged zero g h e = over r (operations cs vs) from g (omega (arith, x.laid.count))
  unflagged (suc k) g h e = let a = flags_ahead x.laid.width r x.laid.sound x.laid.flags g (omega arith) in sym (plain r cs vs from x g (omega arith) (omega arith)) ∙ unflagged k (g + 1) (omega arith) (omega arith)

  pub no_flags : (g left : ℕ) → g ≤ 8 → left ≡ number 256 (drop g r.flags) → left ≡ 0 → pad_left r (operations cs vs) from g ≡ true
  no_flags g left h e z = unflagged (8 - g) g (omega arith) (sym e ∙ z)

-- ---- the answer, where the walk came to the g-th group

module _ (r : Record) (cs vs : List ℕ) (from : ℕ) (x : Lying r cs vs from) (g : ℕ) (same : pad_left r (operations cs vs) from g ≡ pad_left r (operations cs vs) from 0) where
  abbrev fault : ℕ
  fault = padding_fault (record { batch = r; groups = cut (differences r.starts) (operations cs vs) from })

  begin : cond (pad_left r (operations cs vs) from 0) 0 10 ≡ fault
  unfolding pad_left padding_fault
  begin = rw (under_start r cs vs from x)

  pub faulty : (b : ℕ) → pad_left r (operations cs vs) from g ≡ false → refused 10 b ≡ one_fault fault b
  faulty b e = let h : 10 ≡ fault = ap (λ (x : Bool). cond x 0 10) (sym e ∙ same) ∙ begin in rw (← h)

  pub faultless : (b : ℕ) → pad_left r (operations cs vs) from g ≡ true → good tt ≡ one_fault fault b
  faultless b e = let h : 0 ≡ fault = ap (λ (x : Bool). cond x 0 10) (sym e ∙ same) ∙ begin in rw (← h)
