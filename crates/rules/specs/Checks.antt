-- Document 01, "Checks (000, 002)": each check as the faults of a block's batches, 0 where a batch has none.
use Rattle.std.specs.Prelude.{Bool, true, false, cond, ◌&&◌, List, [], ◌∷◌, ◌++◌, map, ℕ, zero, suc, ◌+◌, length, get_or, take, leb, eqb}
use Rattle.rules.specs.Lists.{total, every}
use Rattle.rules.specs.Answer.{or_else}
use Rattle.rules.specs.Operations.{Op}
use Rattle.rules.specs.Record.{Record, Block, differences, cut, immediates, codes_number}
use Rattle.rules.specs.Refusals.{no_slot₈, slot_taken₉, bad_padding₁₀, bad_structure₁₅, bad_commitment₁₆}

-- ---- structure

-- the batch's operation total
abbrev pub ninth : Record → ℕ
ninth r = get_or r.starts 8 0

-- "starts .. never fall; no group over 9"
unfoldable pub starts_right : List ℕ → Bool
starts_right [] = true
starts_right (a ∷ []) = true
starts_right (a ∷ b ∷ s) = leb a b && (leb b (a + 9) && starts_right (b ∷ s))

-- "count at most 8; flags 0 or 1; starts begin at 0 and never fall; no group over 9; start at the count equals the ninth start"
unfoldable pub record_right : ℕ → Record → Bool
record_right w r =
    leb r.count w &&
    (every (λ (f : ℕ). leb f 1) r.flags &&
    (eqb (get_or r.starts 0 0) 0 &&
    (starts_right r.starts &&
    eqb (get_or r.starts r.count 0) (ninth r))))

-- "ninth starts sum to the operations lent": a fault there has the place after the last batch, "the batch total if only the sum is wrong"
unfoldable pub structure_faults : ℕ → Block → List ℕ
structure_faults w b =
    map (λ (r : Record). cond (record_right w r) 0 bad_structure₁₅) b.records ++
    (cond (eqb (total (map ninth b.records)) (length b.ops)) 0 bad_structure₁₅ ∷ [])

-- ---- padding and commitment look at each batch with its operations

pub record Held : Type 0 where
  pub batch : Record
  pub groups : List (List Op)

-- each batch with its eight groups, the first batch's operations from a place on
unfoldable pub held_from : List Record → List Op → ℕ → List Held
held_from [] xs at = []
held_from (r ∷ rs) xs at = record { batch = r; groups = cut (differences r.starts) xs at } ∷ held_from rs xs (at + ninth r)

unfoldable pub held : Block → List Held
held b = held_from b.records b.ops 0

abbrev pub under_count : Held → List (List Op)
under_count h = take h.batch.count h.groups

unfoldable pub ends_in_noop : List Op → Bool
ends_in_noop [] = false
ends_in_noop (x ∷ []) = eqb x.code 0
ends_in_noop (x ∷ y ∷ xs) = ends_in_noop (y ∷ xs)

-- "a flagged group under the count is non-empty and ends in opcode 0, and no flag is set from the count on" (document 01). M-100: "keep such a bit unread",
-- one "set for a group at or above the group count"; "Refusal 10 now covers only empty or non-Noop flagged groups." For the groups under the count and all flags.
unfoldable pub padding_right : List (List Op) → List ℕ → Bool
padding_right [] fs = true
padding_right (g ∷ gs) [] = true
padding_right (g ∷ gs) (f ∷ fs) = cond (eqb f 0) true (ends_in_noop g) && padding_right gs fs

unfoldable pub padding_fault : Held → ℕ
padding_fault h = cond (padding_right (under_count h) h.batch.flags) 0 bad_padding₁₀

unfoldable pub padding_faults : Block → List ℕ
padding_faults b = map padding_fault (held b)

-- ---- commitment

-- "immediates placed under 8 and under the count in empty groups": what becomes of k immediates in the groups that come next, which are those under the
-- count here and those under 8 where a batch is decoded
unfoldable pub placing_fault : ℕ → List (List Op) → ℕ
placing_fault zero gs = 0
placing_fault (suc k) [] = no_slot₈
placing_fault (suc k) ([] ∷ gs) = placing_fault k gs
placing_fault (suc k) ((x ∷ xs) ∷ gs) = slot_taken₉

-- whether a list begins with another
unfoldable pub begins : List ℕ → List ℕ → Bool
begins ns [] = true
begins [] (v ∷ vs) = false
begins (n ∷ ns) (v ∷ vs) = eqb n v && begins ns vs

-- "group by group, number right, then immediates placed under 8 and under the count in empty groups, then their values right", for groups under the
-- count and the numbers from the first of them on
unfoldable pub groups_fault : List ℕ → List (List Op) → List ℕ → ℕ
groups_fault t [] ns = 0
groups_fault t (g ∷ gs) [] = 0
groups_fault t ([] ∷ gs) (n ∷ ns) = groups_fault t gs ns
groups_fault t ((x ∷ xs) ∷ gs) (n ∷ ns) =
    let vs = immediates t (x ∷ xs) in
    or_else (cond (eqb n (codes_number (x ∷ xs))) 0 bad_commitment₁₆)
    (or_else (placing_fault (length vs) gs)
    (or_else (cond (begins ns vs) 0 bad_commitment₁₆)
    (groups_fault t gs ns)))

-- "every empty group under the count without an immediate is 0": the next k empty groups hold the immediates of the group before them, and a group with
-- operations says how many of those after it hold its own
unfoldable pub empty_zero : List ℕ → ℕ → List (List Op) → List ℕ → Bool
empty_zero t k [] ns = true
empty_zero t k (g ∷ gs) [] = true
empty_zero t zero ([] ∷ gs) (n ∷ ns) = eqb n 0 && empty_zero t zero gs ns
empty_zero t (suc k) ([] ∷ gs) (n ∷ ns) = empty_zero t k gs ns
empty_zero t k ((x ∷ xs) ∷ gs) (n ∷ ns) = empty_zero t (length (immediates t (x ∷ xs))) gs ns

-- "last in each batch, every empty group under the count without an immediate is 0"
unfoldable pub commitment_fault : List ℕ → Held → ℕ
commitment_fault t h = or_else (groups_fault t (under_count h) h.batch.numbers) (cond (empty_zero t 0 (under_count h) h.batch.numbers) 0 bad_commitment₁₆)

unfoldable pub commitment_faults : List ℕ → Block → List ℕ
commitment_faults t b = map (commitment_fault t) (held b)
