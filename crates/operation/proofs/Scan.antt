-- The walk over a table's kinds, and the one over a list of operations to the first that is not admissible. Assumes nothing.
use mathlib.Core.Path.{◌≡◌, refl, sym, ap, ◌∙◌}
use mathlib.Core.List.{List, map}
use Prim.Native.Nat.{ℕ, ◌+◌, ◌≤◌, ◌<◌, suc}
use lib.ListN.{length, get_or, drop}
use Rattle.rules.specs.Answer.{Answer, good, refused, refuse_first}
use Rattle.rules.specs.Operations.{operations, op_fault}
use Rattle.rules.proofs.Answer.{first_turn, first_stop, first_done}
use Rattle.rules.proofs.Operations.{op, operations_turn, operations_end, every_end, none_left}
use mathlib.Core.Bool.{Bool, true, false, ◌&&◌}
use native.Mathlib.Omega.{arith}
use lib.Seq.{drop-cons}
use lib.Dec.{leb}
use Rattle.rules.specs.Lists.{every}

-- ---- kinds

-- whether the kinds from the i-th on are at most 3
abbrev pub kinds_from : List ℕ → ℕ → Bool
kinds_from t i = every (λ (k : ℕ). leb k 3) (drop i t)

pub kind_turn : (t : List ℕ) (i : ℕ) (ok : Bool) → i < length t → ((ok && leb (get_or t i 0) 3) && kinds_from t (i + 1)) ≡ (ok && kinds_from t i)
unfolding every
kind_turn t i true h = let e : i + 1 ≡ suc i = omega arith in rw (e, drop-cons t i 0 h)
kind_turn t i false h = refl

pub kinds_end : (t : List ℕ) (i : ℕ) (ok : Bool) → length t ≤ i → ok ≡ (ok && kinds_from t i)
kinds_end t i ok h = none_left ok ∙ ap (λ (b : Bool). ok && b) (sym (every_end 0 (λ (k : ℕ). leb k 3) t i h))

-- ---- operations

-- what the walk finds from the i-th operation on
abbrev pub left : List ℕ → List ℕ → List ℕ → ℕ → Answer Unit
left t cs vs i = refuse_first i (map (op_fault t) (operations (drop i cs) (drop i vs))) (good tt)

module _ (t cs vs : List ℕ) (i : ℕ) (h : i < length cs) (k : i < length vs) where
  pub turn : op_fault t (op (get_or cs i 0) (get_or vs i 0)) ≡ 0 → left t cs vs (i + 1) ≡ left t cs vs i
  turn e = rw (operations_turn cs vs i h k) (sym (first_turn i (op_fault t (op (get_or cs i 0) (get_or vs i 0))) _ (good tt) e))

  pub stop : (n : ℕ) → n ≡ op_fault t (op (get_or cs i 0) (get_or vs i 0)) → (n ≡ 0 → ⊥) → left t cs vs i ≡ refused n i
  stop n e f = rw (operations_turn cs vs i h k, sym e) (first_stop i n _ (good tt) f)

pub done : (t cs vs : List ℕ) (i : ℕ) → length cs ≤ i → left t cs vs i ≡ good tt
done t cs vs i h = rw (operations_end cs vs i h) (first_done i (good tt))
