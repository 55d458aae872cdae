-- The accumulator's numbers and its record as views of a batch of the rules. No face's contract cites this page.
use Rattle.std.specs.Prelude.{Bool, false, List, [], ◌∷◌, ◌++◌, map, ℕ, ◌+◌, ◌^◌, length}
use Rattle.rules.specs.Lists.{fitted}
use Rattle.rules.specs.Operations.{Op}
use Rattle.rules.specs.Batching.{Group, ops, imm, Batch, next_free, wants_noop}
use Rattle.rules.specs.Record.{Record, starts_from, size_of, flag_of, number_of, codes_number, ops_of}
use Rattle.accumulator.specs.declared.OpBatchAccumulator.{OpBatchAccumulator}

-- ---- the numbers

-- whether a group that is not empty ends in an operation with an immediate
unfoldable pub ends_in : List ℕ → List Op → Bool
ends_in t [] = false
ends_in t (x ∷ xs) = wants_noop t (x ∷ xs)

unfoldable pub acc_of : List ℕ → Batch → OpBatchAccumulator
acc_of t b =
    record {
      cur = length b.closed;
      next = next_free b;
      inside = length b.current;
      number = codes_number b.current;
      unit = 128 ^ length b.current;
      total = length (ops_of b.closed) + length b.current;
      tail = ends_in t b.current;
    }

-- the operations ops_so_far so far
unfoldable pub ops_so_far : Batch → List Op
ops_so_far b = ops_of b.closed ++ b.current

-- ---- its record

-- the groups so far, the current one still empty
unfoldable pub drafted : Batch → List Group
drafted b = b.closed ++ ops [] false ∷ map imm b.placed

-- the record of the groups so far, with c for the count
unfoldable pub record_with : ℕ → List Group → Record
record_with c gs = record { starts = starts_from 0 (fitted 8 (map size_of gs)); flags = fitted 8 (map flag_of gs); numbers = fitted 8 (map number_of gs); count = c }
