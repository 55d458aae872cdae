-- Wrong checks that the contracts of `structure`, `padding` and `commitment` shut out, each at a named input.
use Rattle.std.specs.Prelude.{◌≡◌, [], ◌∷◌, Result, Ok, Err, replicate}
use Rattle.rules.specs.Record.{Record, Block}
use Rattle.rules.specs.Functions.{structure_checked, padding_checked, commitment_checked}
use Rattle.rules.specs.Examples.{table_t, op, is, block, lent, pair, p1, p7more}
use Rattle.refusal.specs.declared.Refusal.{Refusal}
use Rattle.refusal.specs.Told.{number_of, place_of, told}

-- what the three checks ensure
abbrev pub Structure : Block → Result Unit Refusal → Type 0
Structure b r = told r ≡ structure_checked 8 (lent b)

abbrev pub Padding : Block → Result Unit Refusal → Type 0
Padding b r = told r ≡ padding_checked 8 (lent b)

abbrev pub Commitment : Block → Result Unit Refusal → Type 0
Commitment b r = told r ≡ commitment_checked 8 table_t (lent b)

-- seven immediates, and one in a second batch whose record is this
abbrev pub second : Record → Block
second r = block p7more.ops (is (0 ∷ replicate 8 8) (1 ∷ replicate 7 0) (4432676798593 ∷ replicate 7 5) 8 ∷ r ∷ [])

-- its count is over 8; its flag stands on an empty group; its immediate is another
abbrev pub wrong_count : Block
wrong_count = second (is (0 ∷ replicate 8 2) (1 ∷ replicate 7 0) (1 ∷ 5 ∷ replicate 6 0) 9)

abbrev pub wrong_flag : Block
wrong_flag = second (is (0 ∷ replicate 8 2) (0 ∷ 1 ∷ replicate 6 0) (1 ∷ 5 ∷ replicate 6 0) 2)

abbrev pub stale : Block
stale = second (is (0 ∷ replicate 8 2) (1 ∷ replicate 7 0) (1 ∷ 6 ∷ replicate 6 0) 2)

pub record ShutOut : Type 0 where
  -- one that passes everything
  pub passes_everything : (Structure wrong_count (Ok tt) → ⊥) × (Padding wrong_flag (Ok tt) → ⊥) × (Commitment stale (Ok tt) → ⊥)
  -- "one that refuses everything"
  pub refuses_everything : (e : Refusal) → (Structure p1 (Err e) → ⊥) × (Padding p1 (Err e) → ⊥) × (Commitment p1 (Err e) → ⊥)
  -- one that answers the place 0
  pub place_zero : (e : Refusal) → place_of e ≡ 0 → (Structure wrong_count (Err e) → ⊥) × (Padding wrong_flag (Err e) → ⊥) × (Commitment stale (Err e) → ⊥)
  -- one that answers another number
  pub number : (e : Refusal) → (Structure wrong_count (Err e) → number_of e ≡ 15) × (Padding wrong_flag (Err e) → number_of e ≡ 10) × (Commitment stale (Err e) → number_of e ≡ 16)
  -- one that tells a wrong value as a wrong opcode
  pub value_told_lem : (e : Refusal) → Commitment (pair (op 2 0) (op 2 1)) (Err e) → (number_of e ≡ 17) × (place_of e ≡ 1)
