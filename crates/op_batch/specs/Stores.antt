-- What a store does to the b-th record of a run, in the run and in the record. What the run has no room for falls away.
use Rattle.std.specs.Prelude.{ℕ, ◌+◌, ◌-◌, ◌*◌, List, replicate, slice_set}
use Rattle.std.proofs.lemmas.List.Edits.{sets}
use Rattle.rules.specs.Digits.{digits, le_bytes}
use Rattle.rules.specs.Record.{Record, starts_from, record_size, record_bytes, flags_place, numbers_place, count_place}

-- ---- in the run

unfoldable pub start_set : ℕ → ℕ → ℕ → List ℕ → List ℕ
start_set b g v s = slice_set s (record_size * b + g) v

-- all starts from the g-th on
unfoldable pub starts_set : ℕ → ℕ → ℕ → List ℕ → List ℕ
starts_set b g v s = sets s (record_size * b + g) (replicate (9 - g) v)

unfoldable pub flag_set : ℕ → ℕ → ℕ → List ℕ → List ℕ
flag_set b g v s = slice_set s (record_size * b + flags_place + g) v

unfoldable pub number_set : ℕ → ℕ → ℕ → List ℕ → List ℕ
number_set b g v s = sets s (record_size * b + numbers_place + 8 * g) (le_bytes 8 v)

unfoldable pub count_set : ℕ → ℕ → List ℕ → List ℕ
count_set b v s = slice_set s (record_size * b + count_place) v

unfoldable pub record_set : ℕ → Record → List ℕ → List ℕ
record_set b r s = sets s (record_size * b) (record_bytes r)

-- ---- in the record

abbrev pub with_starts : ℕ → ℕ → Record → Record
with_starts g v r = record { starts = sets r.starts g (replicate (9 - g) v); flags = r.flags; numbers = r.numbers; count = r.count }

abbrev pub with_flag : ℕ → ℕ → Record → Record
with_flag g v r = record { starts = r.starts; flags = slice_set r.flags g v; numbers = r.numbers; count = r.count }

abbrev pub with_number : ℕ → ℕ → Record → Record
with_number g v r = record { starts = r.starts; flags = r.flags; numbers = slice_set r.numbers g v; count = r.count }

abbrev pub with_count : ℕ → Record → Record
with_count v r = record { starts = r.starts; flags = r.flags; numbers = r.numbers; count = v }

-- by its packed sizes and flags
unfoldable pub packed : ℕ → ℕ → List ℕ → ℕ → Record
packed deltas flags numbers count = record { starts = starts_from 0 (digits 16 8 deltas); flags = digits 2 8 flags; numbers = numbers; count = count }
