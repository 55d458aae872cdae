-- Demand 3, said of a block as it is left: of its operations, and of the starts, flags, numbers and counts of its records, and of nothing else.
use Rattle.std.specs.Prelude.{◌≡◌, Bool, false, List, [], ◌∷◌, ◌++◌, ℕ, ◌≤◌, length, drop}
use Rattle.rules.specs.Lists.{fitted, All}
use Rattle.rules.specs.Operations.{Op, has_immediate}
use Rattle.rules.specs.Record.{Record, Block, differences}
use Rattle.rules.specs.Checks.{Held, held}
use Rattle.rules.specs.Block.{numbers_from}
use Rattle.rules.specs.Lookups.{marks}
use Rattle.rules.specs.Strict.{own_list}
use Rattle.claims.specs.Shape.{EndsInNoop, PowerOfTwo}

-- "every batch has 1, 2, 4 or 8 groups, each but the last has 8" (the width)
abbrev pub Counts : ℕ → List Record → Type 0
Counts w [] = Unit {0}
Counts w (r ∷ []) = PowerOfTwo r.count × (r.count ≤ w)
Counts w (r ∷ s ∷ rs) = PowerOfTwo r.count × (r.count ≡ w) × Counts w (s ∷ rs)

-- "ends in one with an immediate"
abbrev pub ends_in_immediate : List ℕ → List Op → Bool
ends_in_immediate t [] = false
ends_in_immediate t (x ∷ []) = has_immediate t x
ends_in_immediate t (x ∷ y ∷ xs) = ends_in_immediate t (y ∷ xs)

-- "no group holds over nine operations or ends in one with an immediate"
pub record LeftGroup (t : List ℕ) (g : List Op) : Type 0 where
  pub nine : length g ≤ 9
  pub closed : ends_in_immediate t g ≡ false

-- a flag is 0, or it is 1 and its group ends in a Noop
pub data Flagged : List Op → ℕ → Type 0 where
  plain : {g : List Op} → Flagged g 0
  padding : {g : List Op} → EndsInNoop g → Flagged g 1

-- as many flags as groups, each right for its group
abbrev pub AllFlagged : List (List Op) → List ℕ → Type 0
AllFlagged [] [] = Unit {0}
AllFlagged [] (f ∷ fs) = ⊥
AllFlagged (g ∷ gs) [] = ⊥
AllFlagged (g ∷ gs) (f ∷ fs) = Flagged g f × AllFlagged gs fs

-- the operations of groups, and of batches with their groups, one after another
abbrev pub together : List (List Op) → List Op
together [] = []
together (g ∷ gs) = g ++ together gs

abbrev pub all_held : List Held → List Op
all_held [] = []
all_held (h ∷ hs) = together h.groups ++ all_held hs

-- a batch, with the groups that its starts cut out of the operations
pub record LeftBatch (t : List ℕ) (h : Held) : Type 0 where
  pub eight : length h.groups ≡ 8
  pub groups : All (LeftGroup t) h.groups
  pub flags : AllFlagged h.groups h.batch.flags
  -- its numbers are those of its groups and of their immediates
  pub numbers : h.batch.numbers ≡ fitted 8 (numbers_from t [] h.groups)
  -- from the count on groups are empty, flags and numbers 0; M-100: "Batches we build still have those bits clear"
  pub no_sizes : All (λ n. n ≡ 0) (drop h.batch.count (differences h.batch.starts))
  pub no_flags : All (λ n. n ≡ 0) (drop h.batch.count h.batch.flags)
  pub no_numbers : All (λ n. n ≡ 0) (drop h.batch.count h.batch.numbers)

-- the list xs, batched
pub record Left (w : ℕ) (t : List ℕ) (xs : List Op) (b : Block) : Type 0 where
  -- "dropping the flagged padding .. gives the list back": each operation has its mark, and those that are not marked are the list
  pub marked : length (marks b.records) ≡ length b.ops
  pub back : own_list b ≡ xs
  pub counts : Counts w b.records
  -- each operation lies in one group
  pub whole : all_held (held b) ≡ b.ops
  pub batches : All (LeftBatch t) (held b)
