-- One answer for each input. Assumes nothing.
use mathlib.Core.Path.{◌≡◌, refl, sym, ap, ◌∙◌}
use Prim.Native.Nat.{ℕ}
use Rattle.std.specs.Prelude.{Result, Ok, Err}
use Rattle.rules.specs.Answer.{Answer, good, refused}
use Rattle.rules.specs.Answer as answer
use Rattle.rules.specs.Operations as rules
use Rattle.claims.specs.One.{Only}
use Rattle.claims.proofs.One.{equal}
use Rattle.refusal.specs.declared.Refusal.{Refusal}
use Rattle.refusal.specs.Told.{told}
use Rattle.refusal.proofs.Told.{one_told}
use Rattle.wire.specs.declared.Item.{Item}
use Rattle.wire.specs.declared.Op.{Op}
use Rattle.wire.specs.Replies.{count_told, op_told}
use Rattle.tight.proofs.Compare.{one_compared}
use Rattle.tight.specs.OneAnswer.{OneAnswer}

-- a contract that says what the reply tells admits one reply
one_reply : {A : Type 0} (answer : Answer A) → Only (λ (r : Result A Refusal). told r ≡ answer)
one_reply answer r q h k = one_told r q (h ∙ sym k)

-- an item and the place after it are the rules'
read_count : answer.Read ℕ → Answer (Item ℕ)
read_count (good i) = good (record { item = i.item; next = i.next })
read_count (refused n p) = refused n p

read_op : answer.Read rules.Op → Answer (Item Op)
read_op (good i) = good (record { item = record { code = i.item.code; value = i.item.value }; next = i.next })
read_op (refused n p) = refused n p

one_count : (answer : answer.Read ℕ) → Only (λ r. count_told r ≡ answer)
unfolding read_count
one_count d r q h k = one_told r q (back r ∙ ap read_count (h ∙ sym k) ∙ sym (back q))
  where
    back : (r : Result (Item ℕ) Refusal) → told r ≡ read_count (count_told r)
    back (Ok i) = refl
    back (Err e) = refl

one_op : (answer : answer.Read rules.Op) → Only (λ r. op_told r ≡ answer)
unfolding read_op
one_op d r q h k = one_told r q (back r ∙ ap read_op (h ∙ sym k) ∙ sym (back q))
  where
    back : (r : Result (Item Op) Refusal) → told r ≡ read_op (op_told r)
    back (Ok i) = refl
    back (Err e) = refl

pub one_answer : OneAnswer
one_answer =
    record {
      build = λ t cs vs before r q x y h k. (one_told r q (h.reply ∙ sym k.reply), h.runs ∙ sym k.runs);
      encode = λ t a at before r q x y h k. (one_told r q (h.reply ∙ sym k.reply), h.bytes ∙ sym k.bytes);
      decode = λ t s at before r q x y h k. (one_told r q (h.reply ∙ sym k.reply), h.runs ∙ sym k.runs);
      decode_strict = λ t s at before r q x y h k. (one_told r q (h.reply ∙ sym k.reply), h.runs ∙ sym k.runs);
      compare =
          λ t s at u z from a c before r q x y h k. (one_compared r q (h.reports.reply ∙ sym k.reports.reply), λ i. ((h.first ∙ sym k.first) i, (h.second ∙ sym k.second) i, (h.reports.report ∙ sym k.reports.report) i));
      structure = λ a. one_reply _;
      padding = λ a. one_reply _;
      commitment = λ t a. one_reply _;
      raw_to_padded = λ a before r q x y h k. (one_told r q (h.reply ∙ sym k.reply), h.left ∙ sym k.left);
      padded_to_raw = λ a before r q x y h k. (one_told r q (h.reply ∙ sym k.reply), h.left ∙ sym k.left);
      raw_to_padded_index = λ table i. equal _;
      padded_to_raw_index = λ table i. equal _;
      op_idx_in_batch_to_group = λ b i. one_reply _;
      next_op_group_index = λ b g. one_reply _;
      head = λ t s at. one_reply _;
      reader_count = λ s at. one_count _;
      reader_op = λ t s at i. one_op _;
    }
