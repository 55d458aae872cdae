-- One answer for each function of the library's face, by its contract: the reply and every lent output.
use Rattle.std.specs.Prelude.{◌≡◌, List, ℕ, ℤ, Result, length}
use Rattle.rules.specs.Lookups.{raw_at, padded_at, padded_index, raw_index}
use Rattle.rules.specs.Functions.{Arena, built, compared, structure_checked, padding_checked, commitment_checked, raw_tabled, padded_tabled, group_lookup, next_lookup, headed, count_here, op_here}
use Rattle.claims.specs.One.{One, Only}
use Rattle.refusal.specs.declared.Refusal.{Refusal}
use Rattle.refusal.specs.Told.{told}
use Rattle.op_batch.specs.declared.OpBatch.{OpBatch}
use Rattle.op_batch.specs.OpBatch.{record_in, lookup_of, next_of}
use Rattle.wire.specs.Replies.{count_told, op_told}
use Rattle.build.specs.Outcome.{Outcome}
use Rattle.encoder.specs.Replies.{Encodes}
use Rattle.decoder.specs.Replies.{Decodes, StrictlyDecodes}
use Rattle.comparison.specs.Replies.{side, room_for, Compares}
use Rattle.head.specs.Replies.{head_of}
use Rattle.prefix.specs.Tables.{Answered, padded_found, raw_found}

pub record OneAnswer : Type 0 where
  pub build : (t cs vs : List ℕ) (before : Arena) → One (λ r after. Outcome (built 8 t cs vs) r before after)
  pub encode : (t : List ℕ) (a : Arena) (at : ℕ) (before : List ℕ) → One (λ r after. Encodes t a at before after r)
  pub decode : (t s : List ℕ) (at : ℕ) (before : Arena) → One (λ r after. Decodes t s at before after r)
  pub decode_strict : (t s : List ℕ) (at : ℕ) (before : Arena) → One (λ r after. StrictlyDecodes t s at before after r)
  -- the report and both rooms
  pub compare : (t s : List ℕ) (at : ℕ) (u z : List ℕ) (from : ℕ) (a c : Arena) (before : List ℤ)
      → One (λ r (after : Arena × Arena × List ℤ). Compares (compared 8 (side t s at a) (side u z from c) (room_for before)) a after.0 c after.1 before after.2 r)
  pub structure : (a : Arena) → Only (λ (r : Result Unit Refusal). told r ≡ structure_checked 8 a)
  pub padding : (a : Arena) → Only (λ (r : Result Unit Refusal). told r ≡ padding_checked 8 a)
  pub commitment : (t : List ℕ) (a : Arena) → Only (λ (r : Result Unit Refusal). told r ≡ commitment_checked 8 t a)
  pub raw_to_padded : (a : Arena) (before : List ℕ) → One (λ r after. Answered (raw_tabled 8 a (length before)) r before after)
  pub padded_to_raw : (a : Arena) (before : List ℕ) → One (λ r after. Answered (padded_tabled 8 a (length before)) r before after)
  pub raw_to_padded_index : (table : List ℕ) (i : ℕ) → Only (λ r. r ≡ padded_found (padded_index table (raw_at i)))
  pub padded_to_raw_index : (table : List ℕ) (i : ℕ) → Only (λ r. r ≡ raw_found (raw_index table (padded_at i)))
  pub op_idx_in_batch_to_group : (b : OpBatch) (i : ℕ) → Only (λ r. told r ≡ lookup_of (group_lookup 8 (record_in b) i))
  pub next_op_group_index : (b : OpBatch) (g : ℕ) → Only (λ r. told r ≡ next_of (next_lookup 8 (record_in b) g))
  pub head : (t s : List ℕ) (at : ℕ) → Only (λ r. told r ≡ head_of (headed t s at))
  -- the reader's steps
  pub reader_count : (s : List ℕ) (at : ℕ) → Only (λ r. count_told r ≡ count_here s at)
  pub reader_op : (t s : List ℕ) (at i : ℕ) → Only (λ r. op_told r ≡ op_here t s at i)
