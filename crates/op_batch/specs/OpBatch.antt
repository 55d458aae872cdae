-- What an OpBatch says, and what the lookups' answers say of the definitions' answers.
use Rattle.std.specs.Prelude as std
use Rattle.std.specs.Prelude.{ℕ, ◌+◌, cond, List, [], ◌∷◌, nat_lt}
use Rattle.std.proofs.Math.Option.{Option, none, some}
use Rattle.rules.specs.Answer.{Answer, good, refused}
use Rattle.rules.specs.Record.{Record}
use Rattle.rules.specs.Lookups as rule
use Rattle.op_batch.specs.declared.OpBatch.{OpBatch}
use Rattle.op_batch.specs.declared.Place.{Place}

abbrev pub record_in : OpBatch → Record
record_in b = record { starts = b.starts; flags = b.flags; numbers = b.groups; count = b.count }

-- a record by what the structure test looks at: starts, flags and count
abbrev pub layout : List ℕ → List ℕ → ℕ → Record
layout starts flags count = record { starts = starts; flags = flags; numbers = []; count = count }

-- ---- answers

abbrev pub found_in : Option rule.Place → std.Option Place
found_in none = std.None
found_in (some p) = std.Some (record { group = p.group; place = p.place })

abbrev pub lookup_of : Answer (Option rule.Place) → Answer (std.Option Place)
lookup_of (good p) = good (found_in p)
lookup_of (refused n p) = refused n p

abbrev pub next_in : Option ℕ → std.Option ℕ
next_in none = std.None
next_in (some g) = std.Some g

abbrev pub next_of : Answer (Option ℕ) → Answer (std.Option ℕ)
next_of (good g) = good (next_in g)
next_of (refused n p) = refused n p

-- the first non-empty of groups of these sizes, the first of them the k-th: cited by the contract of a private function only
unfoldable pub first_full : ℕ → List ℕ → Option ℕ
first_full k [] = none
first_full k (n ∷ ns) = cond (nat_lt 0 n) (some k) (first_full (k + 1) ns)
