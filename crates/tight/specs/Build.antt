-- Wrong batchers that the contract of `build` shuts out, each at a named input. `Outcome` is what `build` ensures; the lent runs have room for 100
-- operations and 10 batches, all zero.
use Rattle.std.specs.Prelude.{◌≡◌, List, [], ◌∷◌, ◌++◌, ℕ, Result, Ok, Err, replicate}
use Rattle.rules.specs.Lists.{fitted}
use Rattle.rules.specs.Answer.{Answer}
use Rattle.rules.specs.Record.{Block, record_bytes}
use Rattle.rules.specs.Block.{Room}
use Rattle.rules.specs.Functions.{Arena, arena, built}
use Rattle.rules.specs.Examples.{table_t, is}
use Rattle.refusal.specs.declared.Refusal.{Refusal}
use Rattle.refusal.specs.Told.{number_of, place_of}
use Rattle.batcher.specs.declared.Totals.{Totals}
use Rattle.build.specs.Outcome.{Outcome}

abbrev pub lent_runs : Arena
lent_runs = arena (replicate 100 0) (replicate 100 0) (replicate 820 0)

-- what build is to answer for these opcodes and values, by the room
abbrev pub answer : List ℕ → List ℕ → Room → Answer Block
answer cs vs = built 8 table_t cs vs

-- the record of seven immediates, and room for it twice
abbrev pub twice : List ℕ
twice = fitted 820 (record_bytes (is (0 ∷ replicate 8 8) (1 ∷ replicate 7 0) (4432676798593 ∷ replicate 7 5) 8) ++ record_bytes (is (0 ∷ replicate 8 8) (1 ∷ replicate 7 0) (4432676798593 ∷ replicate 7 5) 8))

abbrev pub totals : ℕ → ℕ → Totals
totals b o = record { batches = b; operations = o }

pub record ShutOut : Type 0 where
  -- "one that refuses everything": wrong at P1
  pub refuses_everything : (e : Refusal) (after : Arena) → Outcome (answer (1 ∷ []) (5 ∷ [])) (Err e) lent_runs after → ⊥
  -- "or returns P1 for all lists": wrong at nine of opcode 2
  pub always_p1 : (after : Arena) → Outcome (answer (replicate 9 2) (replicate 9 0)) (Ok (totals 1 2)) lent_runs after → ⊥
  -- "one that writes nothing": wrong at P1
  pub writes_nothing : (r : Result Totals Refusal) → Outcome (answer (1 ∷ []) (5 ∷ [])) r lent_runs lent_runs → ⊥
  -- "one that opens a batch per operation, though it keeps the list": wrong at two of opcode 2
  pub batch_per_operation : (n : ℕ) (after : Arena) → Outcome (answer (2 ∷ 2 ∷ []) (0 ∷ 0 ∷ [])) (Ok (totals 2 n)) lent_runs after → ⊥
  -- "one that batches the first eight groups properly and copies them later": wrong at eight of opcode 1
  pub copies_the_first : (r : Result Totals Refusal) (cs vs : List ℕ) → Outcome (answer (replicate 8 1) (replicate 8 5)) r lent_runs (arena cs vs twice) → ⊥
  -- "one that replies with an invented length or batch total": at P1 there is one reply
  pub invented_totals : (b o : ℕ) (after : Arena) → Outcome (answer (1 ∷ []) (5 ∷ [])) (Ok (totals b o)) lent_runs after → (b ≡ 1) × (o ≡ 2)
  -- one that tells a wrong value as a wrong opcode: at a value on the second of two of opcode 2 there is one reply
  pub value_told_lem : (e : Refusal) (after : Arena) → Outcome (answer (2 ∷ 2 ∷ []) (0 ∷ 1 ∷ [])) (Err e) lent_runs after → (number_of e ≡ 17) × (place_of e ≡ 1)
