-- The stages of the commitment check, past its two guards, and the ways out of it. Assumes nothing.
use mathlib.Core.Path.{◌≡◌, sym, ap, ◌∙◌}
use mathlib.Core.Bool.{true}
use mathlib.Core.List.{List, map}
use Prim.Native.Nat.{ℕ}
use Rattle.rules.specs.Answer.{Answer, good, refused, refuse_first}
use Rattle.rules.specs.Operations.{operations, good_table, op_fault}
use Rattle.rules.specs.Checks.{structure_faults, commitment_faults}
use Rattle.rules.specs.Functions.{Arena, block_in, within, structure_checked, commitment_checked}
use Rattle.checks.proofs.Passed.{and_then, first_then, went_on, structure_stage, admissible_stage}
use Rattle.commitment.specs.Walk.{AllRight}

abbrev pub commitment_stage : List ℕ → Arena → Answer Unit
commitment_stage t a = refuse_first 0 (commitment_faults t (block_in a)) (good tt)

module _ (w : ℕ) (t : List ℕ) (a : Arena) (inside : within a ≡ true) (known : good_table t ≡ true) where
  stages : commitment_checked w t a ≡ and_then (structure_stage w a) (and_then (admissible_stage t a) (commitment_stage t a))
  unfolding commitment_checked block_in
  stages =
      let s = structure_faults w (block_in a) in
      rw (inside, known)
      (ap (refuse_first 0 s) (first_then 0 (map (op_fault t) (operations a.codes a.values)) (good tt) (commitment_stage t a))
      ∙ first_then 0 s (good tt) (and_then (admissible_stage t a) (commitment_stage t a)))

  -- the ways out
  pub no_structure : (n p : ℕ) → refused n p ≡ structure_stage w a → refused n p ≡ commitment_checked w t a
  no_structure n p e = rw (stages, ← e)

  module _ (s : good tt ≡ structure_stage w a) where
    pub structure_passed : structure_checked w a ≡ good tt
    unfolding structure_checked
    structure_passed = rw inside (sym s)

    rest : commitment_checked w t a ≡ and_then (admissible_stage t a) (commitment_stage t a)
    rest = stages ∙ went_on (structure_stage w a) (and_then (admissible_stage t a) (commitment_stage t a)) (sym s)

    pub all_well : AllRight t a → good tt ≡ commitment_checked w t a
    all_well r = sym (rest ∙ went_on (admissible_stage t a) (commitment_stage t a) r.admissible ∙ r.commitment)

    pub not_admissible : (n p : ℕ) → refused n p ≡ admissible_stage t a → refused n p ≡ commitment_checked w t a
    not_admissible n p e = rw (rest, ← e)

    pub by_batches : good tt ≡ admissible_stage t a → commitment_stage t a ≡ commitment_checked w t a
    by_batches f = sym (rest ∙ went_on (admissible_stage t a) (commitment_stage t a) (sym f))
