-- What a refusal tells, said by the numbers themselves ("Numbers of refusal" of document 01, 17 of M-101, 18 of M-107), and that no two replies tell one answer.
use Rattle.std.specs.Prelude.{◌≡◌, ℕ, Result, Ok, Err}
use Rattle.rules.specs.Answer.{Answer, good, refused}
use Rattle.refusal.specs.declared.Refusal.{Refusal}
use Rattle.refusal.specs.declared.Refusal.TheVariants.{PastEnd, CutShort, OverLimit, Unassigned, TooManyBatches, BadNibble, PastOperations, NoSlot, SlotTaken, BadPadding, LeftOver, EmptyList, NoRoom, BadTable, BadStructure, BadCommitment, BadValue, Unfinished}
use Rattle.refusal.specs.Told.{told}
use Rattle.operation.specs.Verdict.{one_fault}

abbrev pub tells : Refusal → Answer Unit
tells r = told (Err r)

pub record Refusals : Type 0 where
  -- "A place .. names the first at fault", and is 0 where there is nothing to name
  pub past_end : tells PastEnd ≡ refused 1 0
  pub cut_short : tells (CutShort 7) ≡ refused 2 7
  pub over_limit : tells OverLimit ≡ refused 3 0
  pub unassigned : tells (Unassigned 7) ≡ refused 4 7
  pub too_many_batches : tells TooManyBatches ≡ refused 5 0
  pub bad_nibble : tells (BadNibble 7) ≡ refused 6 7
  pub past_operations : tells (PastOperations 7) ≡ refused 7 7
  pub no_slot : tells (NoSlot 7) ≡ refused 8 7
  pub slot_taken : tells (SlotTaken 7) ≡ refused 9 7
  pub bad_padding : tells (BadPadding 7) ≡ refused 10 7
  pub left_over : tells LeftOver ≡ refused 11 0
  pub empty_list : tells EmptyList ≡ refused 12 0
  pub no_room : tells NoRoom ≡ refused 13 0
  pub bad_table : tells BadTable ≡ refused 14 0
  pub bad_structure : tells (BadStructure 7) ≡ refused 15 7
  pub bad_commitment : tells (BadCommitment 7) ≡ refused 16 7
  pub bad_value : tells (BadValue 7) ≡ refused 17 7
  pub unfinished : tells (Unfinished 7) ≡ refused 18 7
  -- what is not refused is told as it is
  pub result : told {A = ℕ} (Ok 7) ≡ good 7
  -- a fault of one thing: 0 is none
  pub fault : one_fault 17 7 ≡ refused 17 7
  pub no_fault : one_fault 0 7 ≡ good tt
  pub one_told : (r s : Result ℕ Refusal) → told r ≡ told s → r ≡ s
