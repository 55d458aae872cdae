-- What a refusal tells. Assumes nothing.
use mathlib.Core.Path.{refl}
use Rattle.refusal.proofs.Told.{one_told}
use Rattle.tight.specs.Refusals.{Refusals}

pub refusals : Refusals
refusals =
    record {
      past_end = refl;
      cut_short = refl;
      over_limit = refl;
      unassigned = refl;
      too_many_batches = refl;
      bad_nibble = refl;
      past_operations = refl;
      no_slot = refl;
      slot_taken = refl;
      bad_padding = refl;
      left_over = refl;
      empty_list = refl;
      no_room = refl;
      bad_table = refl;
      bad_structure = refl;
      bad_commitment = refl;
      bad_value = refl;
      unfinished = refl;
      result = refl;
      fault = refl;
      no_fault = refl;
      one_told = one_told;
    }
