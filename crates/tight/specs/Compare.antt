-- What the contract of `compare`, `Compares`, says by that of `decode`; and wrong comparers that it shuts out, each at a named input: P2's bytes, and those
-- with an empty batch more.
use Rattle.std.specs.Prelude.{◌≡◌, List, ℕ, ℤ, pos, neg_ℤ, Result, Ok, Err, replicate, get_or}
use Rattle.rules.specs.Functions.{Arena, compared}
use Rattle.rules.specs.Examples.{table_t, p2}
use Rattle.claims.specs.Which.{Exactly}
use Rattle.decoder.specs.declared.Decoded.{Decoded}
use Rattle.decoder.specs.Replies.{Decodes}
use Rattle.refusal.specs.declared.Refusal.{Refusal}
use Rattle.refusal.specs.declared.Refusal.TheVariants.{PastEnd, CutShort}
use Rattle.comparison.specs.declared.Refused.{Refused}
use Rattle.comparison.specs.declared.Refused.TheVariants.{First, Second, Report}
use Rattle.comparison.specs.Replies.{side, room_for, Compares}
use Rattle.tight.specs.Build.{lent_runs}
use Rattle.tight.specs.Bytes.{empty_last, DecodesP2}
use Rattle.tight.specs.FromContracts.{cut_at}

-- From contract to contract: what compare replies for two blocks, by what decode replies for each of them and leaves in the room that is lent for it.
pub record ByDecode (t s : List ℕ) (at : ℕ) (u z : List ℕ) (from : ℕ) (a a' c c' : Arena) (r : Result ℕ Refused) : Type 0 where
  -- "If either is refused, only its refusal is given, the first one's if both are, with a mark saying which block."
  pub first : (e : Refusal) → Decodes t s at a a' (Err e) → r ≡ Err (First e)
  pub second : (d : Decoded) (e : Refusal) → Decodes t s at a a' (Ok d) → Decodes u z from c c' (Err e) → r ≡ Err (Second e)
  -- "Nothing is reported exactly when the decoded blocks agree": every byte and every number that decode leaves of them
  pub nothing : (d e : Decoded) → Decodes t s at a a' (Ok d) → Decodes u z from c c' (Ok e) → Exactly (r ≡ Ok 0) (cut_at d.batches d.operations a' ≡ cut_at e.batches e.operations c')

-- proved in proofs/Compare.antt
abbrev pub CompareByDecode : Type 0
CompareByDecode = (t s : List ℕ) (at : ℕ) (u z : List ℕ) (from : ℕ) (a a' a'' c c' c'' : Arena) (before after : List ℤ) (r : Result ℕ Refused)
    → Compares (compared 8 (side t s at a) (side u z from c) (room_for before)) a a'' c c'' before after r → ByDecode t s at u z from a a' c c' r

-- ---- wrong comparers; the lent report is full of nines

abbrev pub lent_report : ℕ → List ℤ
lent_report n = replicate n (pos 9)

-- compare of the blocks at two places, with a report of n numbers
abbrev pub ComparesAt : ℕ → List ℕ → ℕ → List ℕ → ℕ → Arena → Arena → List ℤ → Result ℕ Refused → Type 0
ComparesAt n s at z from a c out r = Compares (compared 8 (side table_t s at lent_runs) (side table_t z from lent_runs) (room_for (lent_report n))) lent_runs a lent_runs c (lent_report n) out r

pub record ShutOut : Type 0 where
  -- "one that refuses everything", and one that finds a difference in one block
  pub same : (r : Result ℕ Refused) (a c : Arena) (out : List ℤ) → ComparesAt 9 p2 0 p2 0 a c out r → r ≡ Ok 0
  -- one that finds none in two, and one that replies with an invented number of entries
  pub apart : (r : Result ℕ Refused) (a c : Arena) (out : List ℤ) → ComparesAt 9 empty_last 0 p2 0 a c out r → r ≡ Ok 2
  -- "one that writes nothing"
  pub writes_nothing : (r : Result ℕ Refused) (a c : Arena) → ComparesAt 9 p2 0 p2 0 a c (lent_report 9) r → ⊥
  -- one that takes the other side as the one that lacks a batch, and one that takes the second total from the first
  pub missing : (r : Result ℕ Refused) (a c : Arena) (out : List ℤ) → ComparesAt 9 empty_last 0 p2 0 a c out r → get_or out 2 (pos 0) ≡ pos 2
  pub difference : (r : Result ℕ Refused) (a c : Arena) (out : List ℤ) → ComparesAt 9 empty_last 0 p2 0 a c out r → get_or out 7 (pos 0) ≡ neg_ℤ (pos 1)
  -- one that tells a refusal without its mark, or the second block's before the first's
  pub second_told : (r : Result ℕ Refused) (a c : Arena) (out : List ℤ) → ComparesAt 9 p2 0 p2 20 a c out r → r ≡ Err (Second (CutShort 20))
  pub first_told : (r : Result ℕ Refused) (a c : Arena) (out : List ℤ) → ComparesAt 9 p2 21 p2 20 a c out r → r ≡ Err (First PastEnd)
  -- one that leaves the first entry in a report too short for the second
  pub short : (r : Result ℕ Refused) (a c : Arena) (out : List ℤ) → ComparesAt 7 empty_last 0 p2 0 a c out r → (r ≡ Err Report) × (out ≡ replicate 7 (pos 0))
  -- one that leaves in a room what decode leaves there
  pub first_room : (r : Result ℕ Refused) (q : Result Decoded Refusal) (a c : Arena) (out : List ℤ) → ComparesAt 9 p2 0 p2 0 a c out r → DecodesP2 a q → ⊥
  pub second_room : (r : Result ℕ Refused) (q : Result Decoded Refusal) (a c : Arena) (out : List ℤ) → ComparesAt 9 p2 0 p2 0 a c out r → DecodesP2 c q → ⊥
