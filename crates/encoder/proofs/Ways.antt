-- The ways out of `encode`. Assumes nothing.
use mathlib.Core.Path.{◌≡◌, sym, ap, ◌∙◌}
use mathlib.Core.Bool.{true, false, not}
use mathlib.Core.List.{List, map}
use Prim.Native.Nat.{ℕ, ◌+◌, ◌-◌, ◌/◌, ◌≤◌, ◌<◌}
use native.Mathlib.Omega.{arith}
use borrow.Author.Tests.{lt-ltb, le-ltb}
use lib.ListN.{length}
use lib.Dec.{ltb}
use lib.Seq.{sets}
use Rattle.std.specs.Prelude.{Result, Ok, Err, IsErrAnd, IfErr, All}
use Rattle.std.proofs.lemmas.List.Elements.{All-from_get_or}
use Rattle.rules.specs.Answer.{Answer, good, refused, refuse}
use Rattle.rules.specs.Refusals.{past_end₁, over_limit₃, no_room₁₃, bad_table₁₄}
use Rattle.rules.specs.Operations.{good_table, op_fault}
use Rattle.rules.specs.Record.{record_size, record_at}
use Rattle.rules.specs.Block.{block_bytes}
use Rattle.rules.specs.Checks.{record_right, structure_faults}
use Rattle.rules.specs.Functions.{Arena, block_in, within, encoded, written}
use Rattle.refusal.specs.declared.Refusal.{Refusal}
use Rattle.refusal.specs.Told.{number_of, place_of, told}
use Rattle.checks.proofs.Walk.{equal_lengths, few_codes, few_records}
use Rattle.checks.proofs.Passed.{and_then, first_then, structure_stage, admissible_stage, structured, apt}
use Rattle.wire.specs.Opened.{opened}
use Rattle.wire.proofs.Openings.{opens, shuts}
use Rattle.encoder.specs.Replies.{encoded_of, Encodes}

-- ---- what is looked at first

-- an arena within the limits
module _ (a : Arena) (w : true ≡ within a) where
  pub even : length a.codes ≡ length a.values
  even = equal_lengths a.codes a.values a.records (sym w)

  pub few : (length a.codes ≤ 65535) × (length a.records / record_size ≤ 16384)
  few = (few_codes a.codes a.values a.records (sym w), few_records a.codes a.values a.records (sym w))

module _ (t : List ℕ) (a : Arena) (size at : ℕ) where
  pub encoded_3 : false ≡ within a → encoded 8 t a size at ≡ refused over_limit₃ 0
  unfolding encoded
  encoded_3 h = rw (← h)

  abbrev last : Answer (List ℕ)
  last = refuse (ltb size (at + length (block_bytes t (block_in a)))) no_room₁₃ 0 (good (block_bytes t (block_in a)))

  abbrev rest : Answer (List ℕ)
  rest = and_then (structure_stage 8 a) (and_then (admissible_stage t a) last)

  module _ (w : true ≡ within a) where
    begun : encoded 8 t a size at ≡ refuse (ltb 1048576 size) over_limit₃ 0 (refuse (not (good_table t)) bad_table₁₄ 0 (refuse (ltb size at) past_end₁ 0 rest))
    unfolding encoded block_in
    begun =
        rw (← w)
        (rw (← first_then 0 (structure_faults 8 (block_in a)) (good tt) (and_then (admissible_stage t a) last), ← first_then 0 (map (op_fault t) (block_in a).ops) (good tt) last))

    pub not_opened : (n p : ℕ) → refused n p ≡ opened t size at → encoded 8 t a size at ≡ refused n p
    not_opened n p e = begun ∙ sym (shuts rest t size at n p e)

    module _ (o : good tt ≡ opened t size at) where
      onward : encoded 8 t a size at ≡ rest
      onward = begun ∙ sym (opens rest t size at o)

      pub encoded_15 : (n p : ℕ) → refused n p ≡ structure_stage 8 a → encoded 8 t a size at ≡ refused n p
      encoded_15 n p e = onward ∙ rw (← e)

      module _ (e : good tt ≡ structure_stage 8 a) where
        pub encoded_4 : (n p : ℕ) → refused n p ≡ admissible_stage t a → encoded 8 t a size at ≡ refused n p
        encoded_4 n p f = onward ∙ rw (← e, ← f)

        pub encoded_left : good tt ≡ admissible_stage t a → encoded 8 t a size at ≡ last
        encoded_left f = onward ∙ rw (← e, ← f)

-- what the block is then
pub known : (t : List ℕ) (a : Arena) → true ≡ within a → good_table t ≡ true → good tt ≡ admissible_stage t a → All (λ c. c < 128) a.codes
known t a w g f = All-from_get_or (λ c. c < 128) a.codes 0 (apt t a.codes a.values g (even a w) (sym f)).codes

pub right : (a : Arena) → good tt ≡ structure_stage 8 a → (b : ℕ) → b < length a.records / record_size → record_right 8 (record_at a.records b) ≡ true
right a e = (structured 8 a.codes a.values a.records (good tt) tt (sym e)).0.right

-- a refusal that `?` hands on
pub lost : {A B : Type 0} {d : Answer A} (r : Result B Refusal) (e : Refusal) → IsErrAnd r (λ y. y ≡ e) → d ≡ refused (number_of e) (place_of e) → IfErr r (λ y. d ≡ refused (number_of y) (place_of y))
lost (Ok b) e h k = absurd h
lost (Err y) e h k = rw h k

-- ---- what is answered and left

module _ {t : List ℕ} {a : Arena} {at : ℕ} {out : List ℕ} where
  pub encodes_lost : {n p : ℕ} {r : Result ℕ Refusal} → encoded 8 t a (length out) at ≡ refused n p → told r ≡ refused n p → Encodes t a at out out r
  unfolding written
  encodes_lost d h = record { reply = h ∙ sym (ap encoded_of d); bytes = sym (ap (written out at) d) }

  pub encodes_found : {bytes out' : List ℕ} {r : Result ℕ Refusal} → encoded 8 t a (length out) at ≡ good bytes → told r ≡ good (length bytes) → out' ≡ sets out at bytes → Encodes t a at out out' r
  unfolding written
  encodes_found d h k = record { reply = h ∙ sym (ap encoded_of d); bytes = k ∙ sym (ap (written out at) d) }

-- whether a buffer has room for these bytes
module _ (bytes : List ℕ) {size at : ℕ} (i : at ≤ size) where
  pub no_room : size - at < length bytes → refuse (ltb size (at + length bytes)) no_room₁₃ 0 (good bytes) ≡ refused no_room₁₃ 0
  no_room h = rw (lt-ltb size (at + length bytes) (omega arith))

  pub room : length bytes ≤ size - at → refuse (ltb size (at + length bytes)) no_room₁₃ 0 (good bytes) ≡ good bytes
  room h = rw (le-ltb size (at + length bytes) (omega arith))
