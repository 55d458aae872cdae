-- What a function's reply says of the definitions' answer.
use Rattle.std.specs.Prelude.{ℕ, Result, Ok, Err}
use Rattle.rules.specs.Answer.{Answer, good, refused}
use Rattle.rules.specs.Refusals.{past_end₁, cut_short₂, over_limit₃, unassigned₄, too_many_batches₅, bad_nibble₆, past_operations₇, no_slot₈, slot_taken₉, bad_padding₁₀, left_over₁₁, empty_list₁₂, no_room₁₃, bad_table₁₄, bad_structure₁₅, bad_commitment₁₆, bad_value₁₇, unfinished₁₈}
use Rattle.refusal.specs.declared.Refusal.{Refusal}
use Rattle.refusal.specs.declared.Refusal.TheVariants.{PastEnd, CutShort, OverLimit, Unassigned, TooManyBatches, BadNibble, PastOperations, NoSlot, SlotTaken, BadPadding, LeftOver, EmptyList, NoRoom, BadTable, BadStructure, BadCommitment, BadValue, Unfinished}

abbrev pub number_of : Refusal → ℕ
number_of PastEnd = past_end₁
number_of (CutShort at) = cut_short₂
number_of OverLimit = over_limit₃
number_of (Unassigned i) = unassigned₄
number_of TooManyBatches = too_many_batches₅
number_of (BadNibble b) = bad_nibble₆
number_of (PastOperations b) = past_operations₇
number_of (NoSlot b) = no_slot₈
number_of (SlotTaken b) = slot_taken₉
number_of (BadPadding b) = bad_padding₁₀
number_of LeftOver = left_over₁₁
number_of EmptyList = empty_list₁₂
number_of NoRoom = no_room₁₃
number_of BadTable = bad_table₁₄
number_of (BadStructure b) = bad_structure₁₅
number_of (BadCommitment b) = bad_commitment₁₆
number_of (BadValue i) = bad_value₁₇
number_of (Unfinished b) = unfinished₁₈

abbrev pub place_of : Refusal → ℕ
place_of PastEnd = 0
place_of (CutShort at) = at
place_of OverLimit = 0
place_of (Unassigned i) = i
place_of TooManyBatches = 0
place_of (BadNibble b) = b
place_of (PastOperations b) = b
place_of (NoSlot b) = b
place_of (SlotTaken b) = b
place_of (BadPadding b) = b
place_of LeftOver = 0
place_of EmptyList = 0
place_of NoRoom = 0
place_of BadTable = 0
place_of (BadStructure b) = b
place_of (BadCommitment b) = b
place_of (BadValue i) = i
place_of (Unfinished b) = b

-- the answer that a reply gives
abbrev pub told : {A : Type 0} → Result A Refusal → Answer A
told (Ok a) = good a
told (Err r) = refused (number_of r) (place_of r)

-- the same of what a reply holds
abbrev pub told_by : {A B : Type 0} → (A → B) → Result A Refusal → Answer B
told_by f (Ok a) = good (f a)
told_by f (Err r) = refused (number_of r) (place_of r)
