-- What the decoder's stages answer and leave: cited by the contracts of private functions only.
use Rattle.std.specs.Prelude.{◌≡◌, List, [], ◌∷◌, ℕ, zero, suc, ◌+◌, ◌*◌, length, get_or, take, ltb, Result}
use Rattle.rules.specs.Lists.{fitted}
use Rattle.rules.specs.Digits.{digits, le_at}
use Rattle.rules.specs.Answer.{Read, found, refuse, ◌then◌}
use Rattle.rules.specs.Refusals.{no_room₁₃}
use Rattle.rules.specs.Operations.{Op, codes, values}
use Rattle.rules.specs.Record.{Record, Block, record_size, records_bytes}
use Rattle.rules.specs.Bytes.{ops_at, batch_count_at}
use Rattle.rules.specs.Block.{Head, layout_at, batches_by}
use Rattle.rules.specs.Functions.{Arena, arena}
use Rattle.refusal.specs.declared.Refusal.{Refusal}
use Rattle.refusal.specs.Told.{told}
use Rattle.wire.specs.Stages.{IfFound}
use Rattle.decoder.specs.declared.Decoded.{Decoded}
use Rattle.decoder.specs.Replies.{decoded_of}

-- two runs that begin with the operations
abbrev pub OpsIn : List ℕ → List ℕ → List Op → Type 0
OpsIn cs vs xs = (take (length xs) cs ≡ codes xs) × (take (length xs) vs ≡ values xs)

-- a run that begins with the records
abbrev pub RecordsIn : List ℕ → List Record → Type 0
RecordsIn s rs = (take (length (records_bytes rs)) s ≡ records_bytes rs) × (length (records_bytes rs) ≡ record_size * length rs)

-- the block's answer, and runs that begin with the block
pub record Reading (at : ℕ) (d : Read Block) (after : Arena) (r : Result Decoded Refusal) : Type 0 where
  pub reply : told r ≡ decoded_of at d
  pub left : IfFound (λ (b : Block) (end : ℕ). OpsIn after.codes after.values b.ops × RecordsIn after.records b.records) d

-- ---- the stages of a block

-- items 2 and 3 of a block of n operations, with room for so many records
unfoldable pub items_at : List ℕ → List ℕ → ℕ → ℕ → ℕ → Read Head
items_at t s n at room =
    ops_at t s n at 0 then λ xs a₂.
    batch_count_at s a₂ then λ k a₃.
    refuse (ltb room k) no_room₁₃ 0
    (found (record { ops = xs; batches = k }) a₃)

-- items 4 and 5, and the records of k batches
unfoldable pub records_at : ℕ → List ℕ → List ℕ → List Op → ℕ → ℕ → Read (List Record)
records_at w t s xs k at =
    layout_at w s k at then λ l end.
    batches_by w t xs l then λ rs n.
    found rs end

-- the sizes and the flags of k batches, by their bytes
unfoldable pub sizes_from : ℕ → List ℕ → ℕ → List (List ℕ)
sizes_from zero s at = []
sizes_from (suc k) s at = digits 16 8 (le_at 4 s at) ∷ sizes_from k s (at + 4)

unfoldable pub flags_from : ℕ → List ℕ → ℕ → List (List ℕ)
flags_from zero s at = []
flags_from (suc k) s at = digits 2 8 (get_or s at 0) ∷ flags_from k s (at + 1)

-- an arena of which the first n operations and the first m bytes of records are kept
abbrev pub tailless : ℕ → ℕ → Arena → Arena
tailless n m a =
    arena
    (fitted (length a.codes) (take n a.codes))
    (fitted (length a.values) (take n a.values))
    (fitted (length a.records) (take m a.records))
