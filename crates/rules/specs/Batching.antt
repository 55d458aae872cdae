-- Document 01, "Batching (000)". `w` is the batch width, 8 in document 01; `t` is the table of kinds.
use Rattle.std.specs.Prelude.{Bool, true, false, cond, List, [], ◌∷◌, ◌++◌, map, ℕ, zero, suc, ◌+◌, ◌-◌, length, leb, ltb}
use Rattle.rules.specs.Operations.{Op, noop, has_immediate}

-- "A group holds 1 to 9 operations, or one immediate and no operations." The flag says that the last operation is a padding.
pub data Group : Type 0 where
  ops : List Op → Bool → Group
  imm : ℕ → Group

-- A batch in the making: the groups closed so far, each followed by its immediates; then the current group's operations, and its immediates, which
-- stand right after it. "Keep: current group (first 0), next free group (first 1), operations in the current group (first 0)": these are the
-- number of closed groups, `next_free`, and the length of `current`.
pub record Batch : Type 0 where
  pub closed : List Group
  pub current : List Op
  pub placed : List ℕ

unfoldable pub empty : Batch
empty = record { closed = []; current = []; placed = [] }

unfoldable pub next_free : Batch → ℕ
next_free b = length b.closed + 1 + length b.placed

-- "An operation without an immediate fits if the current group has under 9, or next free is under 8."
-- "One with an immediate, if the current group has under 8: fits if next free is under 8. With 8 or 9: fits if next free plus 1 is under 8."
unfoldable pub fits : ℕ → List ℕ → Op → Batch → Bool
fits w t x b =
    cond (has_immediate t x)
    (cond (ltb (length b.current) 8) (ltb (next_free b) w) (ltb (next_free b + 1) w))
    (cond (ltb (length b.current) 9) true (ltb (next_free b) w))

-- "a group that is empty or ends in an operation with an immediate"
unfoldable pub wants_noop : List ℕ → List Op → Bool
wants_noop t [] = true
wants_noop t (x ∷ []) = has_immediate t x
wants_noop t (x ∷ y ∷ xs) = wants_noop t (y ∷ xs)

-- "Closing [such a group] adds one Noop and sets its flag."
unfoldable pub close_group : List ℕ → List Op → Group
close_group t xs = cond (wants_noop t xs) (ops (xs ++ (noop ∷ [])) true) (ops xs false)

-- all groups, the current one closed
unfoldable pub groups : List ℕ → Batch → List Group
groups t b = b.closed ++ close_group t b.current ∷ map imm b.placed

-- "close it and open the group at next free"
unfoldable pub turned : List ℕ → Batch → Batch
turned t b = record { closed = groups t b; current = []; placed = [] }

-- "if the current group has 9, or has 8 and an immediate comes"
unfoldable pub full : List ℕ → Op → Batch → Bool
full t x b = leb (cond (has_immediate t x) 8 9) (length b.current)

unfoldable pub ready : List ℕ → Op → Batch → Batch
ready t x b = cond (full t x b) (turned t b) b

-- "An immediate takes next free as its slot. Then the operation joins the current group."
unfoldable pub joined : List ℕ → Op → Batch → Batch
joined t x b =
    record {
      closed = b.closed;
      current = b.current ++ (x ∷ []);
      placed = cond (has_immediate t x) (b.placed ++ (x.value ∷ [])) b.placed;
    }

-- "To add: ..."
unfoldable pub added : List ℕ → Op → Batch → Batch
added t x b = joined t x (ready t x b)

-- the least power of two that is not below n, up to 8
unfoldable pub target : ℕ → ℕ
target n = cond (leb n 1) 1 (cond (leb n 2) 2 (cond (leb n 4) 4 8))

unfoldable pub turned_times : ℕ → List ℕ → Batch → Batch
turned_times zero t b = b
turned_times (suc k) t b = turned_times k t (turned t b)

-- "Ending a batch: close and open until next free is a power of two, then close the last. That number is the group count."
unfoldable pub ended : List ℕ → Batch → List Group
ended t b = groups t (turned_times (target (next_free b) - next_free b) t b)

-- "The driver is greedy: an operation that does not fit ends the batch and starts a new one."
pub record Work : Type 0 where
  pub batches : List (List Group)
  pub current : Batch

unfoldable pub start : Work
start = record { batches = []; current = empty }

unfoldable pub end_batch : List ℕ → Work → Work
end_batch t d = record { batches = d.batches ++ (ended t d.current ∷ []); current = empty }

unfoldable pub room : ℕ → List ℕ → Op → Work → Work
room w t x d = cond (fits w t x d.current) d (end_batch t d)

unfoldable pub step : ℕ → List ℕ → Op → Work → Work
step w t x d = record { batches = (room w t x d).batches; current = added t x (room w t x d).current }

unfoldable pub steps : ℕ → List ℕ → List Op → Work → Work
steps w t [] d = d
steps w t (x ∷ xs) d = steps w t xs (step w t x d)

-- the batches of a list that is not empty
unfoldable pub batches_of : ℕ → List ℕ → List Op → List (List Group)
batches_of w t xs = (end_batch t (steps w t xs start)).batches
