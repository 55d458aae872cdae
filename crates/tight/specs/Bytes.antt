-- Wrong encoders and decoders that the contracts of `encode`, `decode` and `decode_strict` shut out, each at a named input, most at P1's block or P2's bytes.
-- `Encodes`, `Decodes` and `StrictlyDecodes` are what they ensure.
use Rattle.std.specs.Prelude.{◌≡◌, List, [], ◌∷◌, ◌++◌, ℕ, Result, Ok, Err, replicate}
use Rattle.rules.specs.Lists.{fitted}
use Rattle.rules.specs.Functions.{Arena}
use Rattle.rules.specs.Examples.{table_t, op, pair, over, low, push, laid, p1, p2}
use Rattle.rules.specs.Examples as examples
use Rattle.refusal.specs.declared.Refusal.{Refusal}
use Rattle.refusal.specs.Told.{number_of, place_of}
use Rattle.encoder.specs.Replies.{Encodes}
use Rattle.decoder.specs.declared.Decoded.{Decoded}
use Rattle.decoder.specs.Replies.{Decodes, StrictlyDecodes}
use Rattle.tight.specs.Build.{lent_runs}

-- encode on P1's block, from byte 3 of a buffer of 30 zeros
abbrev pub EncodesP1 : List ℕ → Result ℕ Refusal → Type 0
EncodesP1 after r = Encodes table_t (examples.lent p1) 3 (replicate 30 0) after r

-- decode of P2's bytes
abbrev pub DecodesP2 : Arena → Result Decoded Refusal → Type 0
DecodesP2 after r = Decodes table_t p2 0 lent_runs after r

-- strict reading of P2's bytes
abbrev pub StrictlyDecodesP2 : Arena → Result Decoded Refusal → Type 0
StrictlyDecodesP2 after r = StrictlyDecodes table_t p2 0 lent_runs after r

-- P2's bytes with an empty batch more: decode takes them, and no list writes them
abbrev pub empty_last : List ℕ
empty_last = laid 2 (push ++ (0 ∷ [])) 2 (low 2 ++ low 0) (1 ∷ 0 ∷ [])

abbrev pub DecodesMore : Arena → Result Decoded Refusal → Type 0
DecodesMore after r = Decodes table_t empty_last 0 lent_runs after r

abbrev pub StrictlyDecodesMore : Arena → Result Decoded Refusal → Type 0
StrictlyDecodesMore after r = StrictlyDecodes table_t empty_last 0 lent_runs after r

-- two of opcode 2 in two batches, the first of which would hold both
abbrev pub one_each : List ℕ
one_each = laid 2 (2 ∷ 2 ∷ []) 2 (low 1 ++ low 1) (0 ∷ 0 ∷ [])

abbrev pub totals : ℕ → ℕ → ℕ → Decoded
totals b o u = record { batches = b; operations = o; used = u }

pub record ShutOut : Type 0 where
  -- "one that refuses everything"
  pub encode_refuses : (e : Refusal) (after : List ℕ) → EncodesP1 after (Err e) → ⊥
  pub decode_refuses : (e : Refusal) (after : Arena) → DecodesP2 after (Err e) → ⊥
  -- "one that writes nothing"
  pub encode_writes_nothing : (r : Result ℕ Refusal) → EncodesP1 (replicate 30 0) r → ⊥
  -- one that ignores the write position
  pub encode_at_the_start : (r : Result ℕ Refusal) → EncodesP1 (fitted 30 p2) r → ⊥
  pub decode_writes_nothing : (r : Result Decoded Refusal) → DecodesP2 lent_runs r → ⊥
  -- "one that replies with an invented length or batch total"
  pub encode_length : (n : ℕ) (after : List ℕ) → EncodesP1 after (Ok n) → n ≡ 20
  pub decode_totals : (b o u : ℕ) (after : Arena) → DecodesP2 after (Ok (totals b o u)) → (b ≡ 1) × (o ≡ 2) × (u ≡ 20)
  -- one that tells a wrong value as a wrong opcode: at a value on the second of two of opcode 2, and at the field's size as a value after one of opcode 2
  pub encode_value_told : (e : Refusal) (after : List ℕ) → Encodes table_t (examples.lent (pair (op 2 0) (op 2 1))) 3 (replicate 30 0) after (Err e) → (number_of e ≡ 17) × (place_of e ≡ 1)
  pub decode_value_told : (e : Refusal) (after : Arena) → Decodes table_t (5 ∷ 2 ∷ 1 ∷ over) 0 lent_runs after (Err e) → (number_of e ≡ 17) × (place_of e ≡ 1)
  -- strict reading: one that refuses everything
  pub strict_refuses : (e : Refusal) (after : Arena) → StrictlyDecodesP2 after (Err e) → ⊥
  pub strict_totals : (b o u : ℕ) (after : Arena) → StrictlyDecodesP2 after (Ok (totals b o u)) → (b ≡ 1) × (o ≡ 2) × (u ≡ 20)
  -- one that takes what decode takes, as a block that is not finished
  pub decode_takes : (r : Result Decoded Refusal) (after : Arena) → DecodesMore after r → r ≡ Ok (totals 2 2 25)
  pub strict_takes : (b o u : ℕ) (after : Arena) → StrictlyDecodesMore after (Ok (totals b o u)) → ⊥
  -- one that tells another refusal, or 18 with another batch
  pub strict_place : (e : Refusal) (after : Arena) → StrictlyDecodesMore after (Err e) → (number_of e ≡ 18) × (place_of e ≡ 1)
  pub strict_first : (e : Refusal) (after : Arena) → StrictlyDecodes table_t one_each 0 lent_runs after (Err e) → (number_of e ≡ 18) × (place_of e ≡ 0)
  -- one that leaves in the lent runs what decode leaves there
  pub strict_writes : (r q : Result Decoded Refusal) (after : Arena) → DecodesMore after q → StrictlyDecodesMore after r → ⊥
