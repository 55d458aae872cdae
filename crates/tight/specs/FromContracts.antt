-- Demand 3, from contract to contract: `build`, then `encode` on what it left, then `decode` or `decode_strict` of what that wrote. Of these functions
-- nothing is known but what they ensure: `Outcome`, `Encodes`, `Decodes` and `StrictlyDecodes`. `Left` says of a block's operations and records what
-- demand 3 asks.
use Rattle.std.specs.Prelude.{◌≡◌, List, ◌⊎◌, ℕ, Result, Ok, ◌+◌, ◌*◌, ◌≤◌, length, take}
use Rattle.rules.specs.Operations.{Op, operations}
use Rattle.rules.specs.Batching.{batches_of}
use Rattle.rules.specs.Record.{Block, block_of, record_size}
use Rattle.rules.specs.Block.{block_bytes}
use Rattle.rules.specs.Functions.{Arena, arena, block_in, built}
use Rattle.claims.specs.Demand3.{Premises}
use Rattle.claims.specs.Left.{Left}
use Rattle.refusal.specs.declared.Refusal.{Refusal}
use Rattle.batcher.specs.declared.Totals.{Totals}
use Rattle.build.specs.Outcome.{Outcome}
use Rattle.encoder.specs.Replies.{Encodes}
use Rattle.decoder.specs.declared.Decoded.{Decoded}
use Rattle.decoder.specs.Replies.{Decodes, StrictlyDecodes}

-- runs cut at the totals of a reply
abbrev pub cut_at : ℕ → ℕ → Arena → Arena
cut_at batches ops a = arena (take ops a.codes) (take ops a.values) (take (record_size * batches) a.records)

-- runs with room for so much
pub record Holds (batches ops : ℕ) (a : Arena) : Type 0 where
  pub codes : ops ≤ length a.codes
  pub values : ops ≤ length a.values
  pub records : record_size * batches ≤ length a.records

-- how many bytes the block in these runs takes
abbrev pub size : List ℕ → Arena → ℕ
size t a = length (block_bytes t (block_in a))

-- What `encode` and the one that reads reply, and what the latter leaves in its runs, where the runs `a` were encoded.
pub record FromDecode (t : List ℕ) (xs : List Op) (batches ops : ℕ) (a : Arena) (e : Result ℕ Refusal) (d : Result Decoded Refusal) (out : Arena) : Type 0 where
  pub wrote : e ≡ Ok (size t a)
  pub read : d ≡ Ok (record { batches = batches; operations = ops; used = size t a })
  -- "gives those batches again, every start, flag, group number and count": every byte and every number of the runs, and so the block in them
  pub runs : cut_at batches ops out ≡ a
  pub block : block_in (cut_at batches ops out) ≡ block_in a
  pub left : Left 8 t xs (block_in (cut_at batches ops out))

-- What `build` replied and left for the list xs, and what comes of it.
pub record FromBuild (t : List ℕ) (xs : List Op) (r : Result Totals Refusal) (after : Arena) : Type 0 where
  pub batches : ℕ
  pub ops : ℕ
  pub reply : r ≡ Ok (record { batches = batches; operations = ops })
  pub left : Left 8 t xs (block_in (cut_at batches ops after))
  -- a buffer of document 01's limit has room for it
  pub short : size t (cut_at batches ops after) ≤ 671742
  -- any buffer, any place in it, and any runs, with room; read strictly or not
  pub returns : (at : ℕ) (buffer buffer' : List ℕ) (e : Result ℕ Refusal) (out out' : Arena) (d : Result Decoded Refusal)
      → length buffer ≤ 1048576 → at + size t (cut_at batches ops after) ≤ length buffer → Encodes t (cut_at batches ops after) at buffer buffer' e
      → Holds batches ops out → Decodes t buffer' at out out' d ⊎ StrictlyDecodes t buffer' at out out' d
      → FromDecode t xs batches ops (cut_at batches ops after) e d out'

-- the block of a list
abbrev pub block_for : List ℕ → List Op → Block
block_for t xs = block_of (batches_of 8 t xs)

-- proved in proofs/FromContracts.antt
pub record Contracts : Type 0 where
  pub returns : (t cs vs : List ℕ) → length cs ≡ length vs → Premises t (operations cs vs)
      → (r : Result Totals Refusal) (before after : Arena) → Holds (length (block_for t (operations cs vs)).records) (length (block_for t (operations cs vs)).ops) before
      → Outcome (built 8 t cs vs) r before after → FromBuild t (operations cs vs) r after
  -- runs for all that document 01 lets a block have are enough
  pub enough : (t : List ℕ) (xs : List Op) → Premises t xs → (before : Arena) → Holds 16384 65535 before → Holds (length (block_for t xs).records) (length (block_for t xs).ops) before
