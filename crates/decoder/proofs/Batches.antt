-- A walk over all batches. Assumes nothing.
use mathlib.Core.Path.{◌≡◌, refl, sym, ap, ◌∙◌}
use mathlib.Core.List.{List, [], ◌∷◌, ◌++◌, append_assoc, append-nil}
use Prim.Native.Nat.{ℕ, zero, suc, ◌+◌, ◌-◌, ◌*◌, ◌≤◌, ◌<◌}
use native.Mathlib.Nat.{add-zero, sub-zero}
use native.Mathlib.Omega.{arith}
use lib.ListN.{length, get_or, take, drop, length-append}
use lib.Seq.{sets-eq, take_at, length-take-le}
use Rattle.rules.specs.Digits.{digits, le_at}
use Rattle.rules.specs.Answer.{refused, Read, found, ◌then◌, row}
use Rattle.rules.specs.Operations.{Op}
use Rattle.rules.specs.Record.{Record, record_size, record_bytes, records_bytes}
use Rattle.rules.specs.Block.{batch_at, batches_at}
use Rattle.op_batch.specs.Stores.{record_set}
use Rattle.unpacker.proofs.Batch.{batch}
use Rattle.decoder.specs.Stages.{sizes_from, flags_from}
use Rattle.wire.proofs.Stages.{onto, onto_nil, onto_then, onto_found}
use Rattle.rules.specs.Lists.{in_row}

bytes_snoc : (rs : List Record) (r : Record) → records_bytes (rs ++ (r ∷ [])) ≡ records_bytes rs ++ record_bytes r
unfolding in_row
bytes_snoc [] r = append-nil (record_bytes r)
bytes_snoc (q ∷ rs) r = ap (λ (l : List ℕ). record_bytes q ++ l) (bytes_snoc rs r) ∙ sym (append_assoc (record_bytes q) (records_bytes rs) (record_bytes r))

-- a record more, behind those of which a run has the bytes
stored : (run : List ℕ) (b : ℕ) (r : Record) → length (record_bytes r) ≡ record_size → record_size * b + record_size ≤ length run
    → take (record_size * (b + 1)) (record_set b r run) ≡ take (record_size * b) run ++ record_bytes r
unfolding record_set
stored run b r e h =
    let i = record_size * b in
    ap (take (record_size * (b + 1))) (sets-eq (record_bytes r) run i (omega arith))
    ∙ take_at (take i run ++ record_bytes r) (drop (i + length (record_bytes r)) run) (record_size * (b + 1)) (length-append (take i run) (record_bytes r) ∙ omega (arith, length-take-le i run (omega arith)))

-- the sizes and the flags of the b-th batch
sizes_many : (k : ℕ) (s : List ℕ) (at : ℕ) → length (sizes_from k s at) ≡ k
unfolding sizes_from
sizes_many zero s at = refl
sizes_many (suc k) s at = ap suc (sizes_many k s (at + 4))

sizes_at_lem : (k : ℕ) (s : List ℕ) (at b : ℕ) → b < k → get_or (sizes_from k s at) b [] ≡ digits 16 8 (le_at 4 s (at + 4 * b))
unfolding sizes_from
sizes_at_lem zero s at b h = absurd (omega arith)
sizes_at_lem (suc k) s at zero h = rw add-zero
sizes_at_lem (suc k) s at (suc b) h = sizes_at_lem k s (at + 4) b (omega arith) ∙ ap (λ (i : ℕ). digits 16 8 (le_at 4 s i)) (omega arith)

flags_at_lem : (k : ℕ) (s : List ℕ) (at b : ℕ) → b < k → get_or (flags_from k s at) b [] ≡ digits 2 8 (get_or s (at + b) 0)
unfolding flags_from
flags_at_lem zero s at b h = absurd (omega arith)
flags_at_lem (suc k) s at zero h = rw add-zero
flags_at_lem (suc k) s at (suc b) h = flags_at_lem k s (at + 1) b (omega arith) ∙ ap (λ (i : ℕ). digits 2 8 (get_or s i 0)) (omega arith)

module _ (w : ℕ) (t : List ℕ) (xs : List Op) (s : List ℕ) (sizes flags k : ℕ) where
  abbrev pub whole : Read (List Record)
  whole = batches_at w t xs (sizes_from k s sizes) (flags_from k s flags)

  -- the batches from the b-th on
  abbrev pub rest : ℕ → ℕ → Read (List Record)
  rest b from = row (λ at b. batch_at w t xs at b (get_or (sizes_from k s sizes) b []) (get_or (flags_from k s flags) b [])) (k - b) from b

  -- the records of the first b batches are found and stand in the run
  pub record Going (run : List ℕ) (b from : ℕ) : Type 0 where
    pub records : List Record
    pub many : length records ≡ b
    pub bytes : take (record_size * b) run ≡ records_bytes records
    pub size : length (records_bytes records) ≡ record_size * b
    pub walk : whole ≡ onto records (rest b from)

  pub start : (run : List ℕ) → Going run 0 0
  unfolding in_row batches_at
  start run = record { records = []; many = refl; bytes = refl; size = refl; walk = rw (sizes_many k s sizes) (sym (onto_nil (rest 0 0) ∙ rw sub-zero)) }

module _ {w : ℕ} {t : List ℕ} {xs : List Op} {s : List ℕ} {sizes flags k : ℕ} {run : List ℕ} {b from : ℕ} (g : Going w t xs s sizes flags k run b from) where
  module _ (h : b < k) {v : ℕ} (e : v ≡ le_at 4 s (sizes + 4 * b)) where
    abbrev pub one : Read Record
    one = batch w t xs from b v (get_or s (flags + b) 0)

    next : rest w t xs s sizes flags k b from ≡ (one then λ r end. rest w t xs s sizes flags k (b + 1) end then λ rs end. found (r ∷ rs) end)
    unfolding row
    next =
        let d : k - b ≡ suc (k - (b + 1)) = omega arith in
        rw (d, sizes_at_lem k s sizes b h, flags_at_lem k s flags b h, e)

    pub stop : {n p : ℕ} → one ≡ refused n p → whole w t xs s sizes flags k ≡ refused n p
    stop r = g.walk ∙ rw (next, r)

    pub turn : {r : Record} {end : ℕ} → one ≡ found r end → length (record_bytes r) ≡ record_size → record_size * b + record_size ≤ length run → Going w t xs s sizes flags k (record_set b r run) (b + 1) end
    turn {r} {end} f n l =
        record {
          records = g.records ++ (r ∷ []);
          many = length-append g.records (r ∷ []) ∙ omega (arith, g.many);
          bytes = rw (bytes_snoc g.records r) (stored run b r n l ∙ ap (λ (l : List ℕ). l ++ record_bytes r) g.bytes);
          size = rw (bytes_snoc g.records r) (length-append (records_bytes g.records) (record_bytes r) ∙ omega (arith, g.size));
          walk = g.walk ∙ rw (next, f) (onto_then g.records r (rest w t xs s sizes flags k (b + 1) end));
        }

  pub done : k ≤ b → whole w t xs s sizes flags k ≡ found g.records from
  unfolding row
  done h = let e : k - b ≡ 0 = omega arith in g.walk ∙ rw e (onto_found g.records from)
