-- The walk over an arena where all is right: cited by the contracts of private functions only.
use Rattle.std.specs.Prelude.{◌≡◌, Option, None, Some, option_and_then, cond, ◌&&◌, List, [], ◌∷◌, map, ℕ, zero, suc, ◌+◌, get_or, drop, ltb, eqb}
use Rattle.rules.specs.Answer.{Answer, good, refuse_first}
use Rattle.rules.specs.Operations.{Op, operations, kind_of, field, op_fault}
use Rattle.rules.specs.Record.{record_at}
use Rattle.rules.specs.Checks.{ninth, commitment_fault, commitment_faults}
use Rattle.rules.specs.Functions.{Arena, block_in}
use Rattle.checks.specs.Batch.{held_at}

-- the group after an operation's immediate, by the operation's kind and value and the eight groups' numbers, where the immediate belongs in the j-th; none
-- where something is not right. No width: the walk over the groups holds the slots to the count.
unfoldable pub slot_after : ℕ → ℕ → List ℕ → ℕ → Option ℕ
slot_after zero v ns j = cond (eqb v 0) (Some j) None
slot_after (suc zero) v ns j = cond (ltb v field && (ltb j 8 && eqb (get_or ns j 0) v)) (Some (j + 1)) None
slot_after (suc (suc zero)) v ns j = cond (ltb v field) (Some j) None
slot_after (suc (suc (suc k))) v ns j = None

-- the same for operations one after the other
unfoldable pub slots_after : List ℕ → List Op → List ℕ → ℕ → Option ℕ
slots_after t [] ns j = Some j
slots_after t (x ∷ xs) ns j = option_and_then (λ (k : ℕ). slots_after t xs ns k) (slot_after (kind_of t x.code) x.value ns j)

-- the first operation from the i-th on that is not admissible
abbrev pub admissible_from : List ℕ → List ℕ → List ℕ → ℕ → Answer Unit
admissible_from t cs vs i = refuse_first i (map (op_fault t) (operations (drop i cs) (drop i vs))) (good tt)

-- a batch has no fault, and its operations are admissible
pub record BatchRight (t : List ℕ) (a : Arena) (b from : ℕ) : Type 0 where
  pub fault : commitment_fault t (held_at a b from) ≡ 0
  pub scan : admissible_from t a.codes a.values (from + ninth (record_at a.records b)) ≡ admissible_from t a.codes a.values from

pub record AllRight (t : List ℕ) (a : Arena) : Type 0 where
  pub admissible : admissible_from t a.codes a.values 0 ≡ good tt
  pub commitment : ◌≡◌ {A = Answer Unit} (refuse_first 0 (commitment_faults t (block_in a)) (good tt)) (good tt)
