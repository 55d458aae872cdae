-- Document 01, "Block bytes (001)": a whole block, written and read.
use Rattle.std.specs.Prelude.{not, ◌&&◌, List, [], ◌∷◌, ◌++◌, ℕ, ◌+◌, length, get_or, take, leb, ltb}
use Rattle.rules.specs.Lists.{fitted, total}
use Rattle.rules.specs.Digits.{le_bytes}
use Rattle.rules.specs.Answer.{Read, found, refuse, or_else, refuse_first, ◌then◌, row}
use Rattle.rules.specs.Refusals.{past_operations₇, bad_padding₁₀, left_over₁₁, no_room₁₃}
use Rattle.rules.specs.Operations.{Op}
use Rattle.rules.specs.Record.{Record, Block, starts_from, cut, immediates, codes_number}
use Rattle.rules.specs.Checks.{placing_fault, padding_right}
use Rattle.rules.specs.Bytes.{count_at, count_bytes, ops_at, ops_bytes, batch_count_at, nibbles_at, nibble_bytes, flags_at, flag_bytes}

-- ---- writing: the five items, one after the other

unfoldable pub block_bytes : List ℕ → Block → List ℕ
block_bytes t b =
    count_bytes (length b.ops) ++
    (ops_bytes t b.ops ++
    (le_bytes 4 (length b.records) ++
    (nibble_bytes b.records ++ flag_bytes b.records)))

-- ---- "Decoding a batch", of groups cut out of the operations

-- "for each non-empty group in order .. its immediates go to the slots right after it": the first fault of placing
unfoldable pub placings_fault : List ℕ → List (List Op) → ℕ
placings_fault t [] = 0
placings_fault t (g ∷ gs) = or_else (placing_fault (length (immediates t g)) gs) (placings_fault t gs)

-- "its number is worked out as above and its immediates go to the slots right after it"; "Other group numbers are 0": where the immediates `due` of the
-- group before still want a slot
unfoldable pub numbers_from : List ℕ → List ℕ → List (List Op) → List ℕ
numbers_from t due [] = []
numbers_from t [] ([] ∷ gs) = 0 ∷ numbers_from t [] gs
numbers_from t (v ∷ due) ([] ∷ gs) = v ∷ numbers_from t due gs
numbers_from t due ((x ∷ xs) ∷ gs) = codes_number (x ∷ xs) ∷ numbers_from t (immediates t (x ∷ xs)) gs

-- "The count is the last non-empty group's index (0 to 7), plus 1, plus how many immediates it placed; if all nibbles are 0 the count is 0": where the
-- first group here is the i-th, and n is the count that the groups before it give
unfoldable pub count_from : List ℕ → ℕ → ℕ → List (List Op) → ℕ
count_from t i n [] = n
count_from t i n ([] ∷ gs) = count_from t (i + 1) n gs
count_from t i n ((x ∷ xs) ∷ gs) = count_from t (i + 1) (i + 1 + length (immediates t (x ∷ xs))) gs

-- the b-th batch, of these sizes and flags, in the operations from a place on: "7, 8 or 9, 10". Its groups are those under the width. Its flags are all
-- that were read, M-100's too: "keep such a bit unread".
unfoldable pub batch_at : ℕ → List ℕ → List Op → ℕ → ℕ → List ℕ → List ℕ → Read Record
batch_at w t xs at b ns fs =
    let gs = cut (take w ns) xs at in
    let n = count_from t 0 0 gs in
    refuse (ltb (length xs) (at + total ns)) past_operations₇ b
    (refuse_first b (placings_fault t gs ∷ [])
    (refuse (not (padding_right (take n gs) fs)) bad_padding₁₀ b
    (found (record { starts = starts_from 0 ns; flags = fs; numbers = fitted 8 (numbers_from t [] gs); count = n }) (at + total ns))))

-- all batches, the b-th of the b-th sizes and flags
unfoldable pub batches_at : ℕ → List ℕ → List Op → List (List ℕ) → List (List ℕ) → Read (List Record)
batches_at w t xs nss fss = row (λ at b. batch_at w t xs at b (get_or nss b []) (get_or fss b [])) (length nss) 0 0

-- ---- reading a block, in three stages

-- how many opcodes, values and records the lent outputs hold
pub record Room : Type 0 where
  pub codes : ℕ
  pub values : ℕ
  pub records : ℕ

-- items 1 to 3: "count (2, 3, 13), operations in order .., batch count (2, 5, 3, 13)"
pub record Head : Type 0 where
  pub ops : List Op
  pub batches : ℕ

unfoldable pub head_at : List ℕ → List ℕ → ℕ → Room → Read Head
head_at t s at room =
    count_at s at then λ n a₁.
    refuse (not (leb n room.codes && leb n room.values)) no_room₁₃ 0
    (ops_at t s n a₁ 0 then λ xs a₂.
    batch_count_at s a₂ then λ k a₃.
    refuse (ltb room.records k) no_room₁₃ 0
    (found (record { ops = xs; batches = k }) a₃))

-- items 4 and 5: "all nibbles, all flags"
pub record Layout : Type 0 where
  pub sizes : List (List ℕ)
  pub flags : List (List ℕ)

unfoldable pub layout_at : ℕ → List ℕ → ℕ → ℕ → Read Layout
layout_at w s k at =
    nibbles_at w s k at 0 then λ nss a₁.
    flags_at w s k a₁ 0 then λ fss a₂.
    found (record { sizes = nss; flags = fss }) a₂

-- "then batch by batch 7, 8 or 9, 10, and 11": the records, and how many operations they take
unfoldable pub batches_by : ℕ → List ℕ → List Op → Layout → Read (List Record)
batches_by w t xs l =
    batches_at w t xs l.sizes l.flags then λ rs end.
    refuse (ltb end (length xs)) left_over₁₁ 0
    (found rs end)

-- the block at a place, and the place after it
unfoldable pub block_at : ℕ → List ℕ → List ℕ → ℕ → Room → Read Block
block_at w t s at room =
    head_at t s at room then λ h a₁.
    layout_at w s h.batches a₁ then λ l a₂.
    batches_by w t h.ops l then λ rs n.
    found (record { ops = h.ops; records = rs }) a₂
