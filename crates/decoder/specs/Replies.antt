-- What the decoder answers and leaves in the lent runs, said of the definitions' answer.
use Rattle.std.specs.Prelude.{◌≡◌, List, ℕ, ◌-◌, length, Result}
use Rattle.rules.specs.Answer.{Answer, good, refused, Read, item_of}
use Rattle.rules.specs.Record.{Block, no_block}
use Rattle.rules.specs.Block.{Room}
use Rattle.rules.specs.Functions.{Arena, room_in, filled, decoded, strictly_decoded, leaves}
use Rattle.refusal.specs.declared.Refusal.{Refusal}
use Rattle.refusal.specs.Told.{told}
use Rattle.decoder.specs.declared.Decoded.{Decoded}

-- batches, padded operations, and "how many were used"
abbrev pub decoded_of : ℕ → Read Block → Answer Decoded
decoded_of at (good i) = good (record { batches = length i.item.records; operations = length i.item.ops; used = i.next - at })
decoded_of at (refused n p) = refused n p

-- what a decoder answers and leaves in the three lent runs; `answer` is the definition's answer for a room
pub record Reads (answer : Room → Read Block) (at : ℕ) (before after : Arena) (r : Result Decoded Refusal) : Type 0 where
  pub reply : told r ≡ decoded_of at (answer (room_in before))
  pub runs : after ≡ filled before (leaves no_block (item_of (answer (room_in before))))

-- `decode`, and `decode_strict`
abbrev pub Decodes : List ℕ → List ℕ → ℕ → Arena → Arena → Result Decoded Refusal → Type 0
Decodes t s at = Reads (decoded 8 t s at) at

abbrev pub StrictlyDecodes : List ℕ → List ℕ → ℕ → Arena → Arena → Result Decoded Refusal → Type 0
StrictlyDecodes t s at = Reads (strictly_decoded 8 t s at) at
