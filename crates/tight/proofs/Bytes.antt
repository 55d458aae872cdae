-- The wrong encoders and decoders are shut out. Assumes nothing.
use mathlib.Core.Path.{◌≡◌, refl, sym, ap, ◌∙◌}
use mathlib.Core.List.{List, ◌∷◌}
use Prim.Native.Nat.{ℕ}
use native.Mathlib.Omega.{arith}
use lib.ListN.{get_or, replicate}
use Rattle.rules.specs.Lists.{fitted}
use Rattle.rules.specs.Functions as rules
use Rattle.rules.specs.Functions.{Arena, room_in}
use Rattle.rules.specs.Examples.{table_t, op, pair, over, p1, p2}
use Rattle.rules.specs.Examples as examples
use Rattle.rules.specs.Open.{document}
use Rattle.std.specs.Prelude.{Result, Ok}
use Rattle.rules.specs.Answer.{Answer, good, refused}
use Rattle.rules.proofs.Answer.{clash, value}
use Rattle.refusal.specs.declared.Refusal.{Refusal}
use Rattle.refusal.specs.Told.{number_of, place_of}
use Rattle.refusal.proofs.Told.{one_told}
use Rattle.encoder.specs.Replies.{encoded_of}
use Rattle.decoder.specs.declared.Decoded.{Decoded}
use Rattle.decoder.specs.Replies.{decoded_of}
use Rattle.tight.specs.Build.{lent_runs}
use Rattle.tight.specs.Bytes.{EncodesP1, DecodesP2, empty_last, one_each, DecodesMore, StrictlyDecodesMore, totals, ShutOut}

-- the right replies
written : encoded_of (rules.encoded 8 table_t (examples.lent p1) 30 3) ≡ good 20
unfolding document
written = refl

read : decoded_of 0 (rules.decoded 8 table_t p2 0 (room_in lent_runs)) ≡ good (totals 1 2 20)
unfolding document
read = refl

value_not_written : encoded_of (rules.encoded 8 table_t (examples.lent (pair (op 2 0) (op 2 1))) 30 3) ≡ refused 17 1
unfolding document
value_not_written = refl

value_not_read : decoded_of 0 (rules.decoded 8 table_t (5 ∷ 2 ∷ 1 ∷ over) 0 (room_in lent_runs)) ≡ refused 17 1
unfolding document
value_not_read = refl

read_strictly : decoded_of 0 (rules.strictly_decoded 8 table_t p2 0 (room_in lent_runs)) ≡ good (totals 1 2 20)
unfolding document
read_strictly = refl

more_read : decoded_of 0 (rules.decoded 8 table_t empty_last 0 (room_in lent_runs)) ≡ good (totals 2 2 25)
unfolding document
more_read = refl

more_unfinished : decoded_of 0 (rules.strictly_decoded 8 table_t empty_last 0 (room_in lent_runs)) ≡ refused 18 1
unfolding document
more_unfinished = refl

each_unfinished : decoded_of 0 (rules.strictly_decoded 8 table_t one_each 0 (room_in lent_runs)) ≡ refused 18 0
unfolding document
each_unfinished = refl

one_refused : {A : Type 0} (n p m q : ℕ) → ◌≡◌ {A = Answer A} (refused n p) (refused m q) → (n ≡ m) × (p ≡ q)
one_refused n p m q h = (cc, cc)

same_totals : (b o u : ℕ) → ◌≡◌ {A = Answer Decoded} (good (totals b o u)) (good (totals 1 2 20)) → (b ≡ 1) × (o ≡ 2) × (u ≡ 20)
same_totals b o u h =
    let e : totals b o u ≡ totals 1 2 20 = cc in
    (ap (λ (d : Decoded). d.batches) e, ap (λ (d : Decoded). d.operations) e, ap (λ (d : Decoded). d.used) e)

-- the first byte written is 5, and the first opcode read is 1
writes : (r : Result ℕ Refusal) → EncodesP1 (replicate 30 0) r → ⊥
unfolding document
writes r h = let z : ◌≡◌ {A = ℕ} 0 5 = ap (λ (l : List ℕ). get_or l 3 0) h.bytes in omega arith

elsewhere : (r : Result ℕ Refusal) → EncodesP1 (fitted 30 p2) r → ⊥
unfolding document
elsewhere r h = let z : ◌≡◌ {A = ℕ} 5 0 = ap (λ (l : List ℕ). get_or l 0 0) h.bytes in omega arith

fills : (r : Result Decoded Refusal) → DecodesP2 lent_runs r → ⊥
unfolding document
fills r h = let z : ◌≡◌ {A = ℕ} 0 1 = ap (λ (a : Arena). get_or a.codes 0 0) h.runs in omega arith

-- decode leaves the opcode 1 first, and strict reading zeros alone
clears : (r q : Result Decoded Refusal) (after : Arena) → DecodesMore after q → StrictlyDecodesMore after r → ⊥
unfolding document
clears r q after h k = let z : ◌≡◌ {A = ℕ} 1 0 = ap (λ (a : Arena). get_or a.codes 0 0) (sym h.runs ∙ k.runs) in omega arith

pub shut_out : ShutOut
shut_out =
    record {
      encode_refuses = λ e after h. clash (number_of e) (place_of e) 20 (h.reply ∙ written);
      decode_refuses = λ e after h. clash (number_of e) (place_of e) (totals 1 2 20) (h.reply ∙ read);
      encode_writes_nothing = writes;
      encode_at_the_start = elsewhere;
      decode_writes_nothing = fills;
      encode_length = λ n after h. value n 20 (h.reply ∙ written);
      decode_totals = λ b o u after h. same_totals b o u (h.reply ∙ read);
      encode_value_told = λ e after h. one_refused (number_of e) (place_of e) 17 1 (h.reply ∙ value_not_written);
      decode_value_told = λ e after h. one_refused (number_of e) (place_of e) 17 1 (h.reply ∙ value_not_read);
      strict_refuses = λ e after h. clash (number_of e) (place_of e) (totals 1 2 20) (h.reply ∙ read_strictly);
      strict_totals = λ b o u after h. same_totals b o u (h.reply ∙ read_strictly);
      decode_takes = λ r after h. one_told r (Ok (totals 2 2 25)) (h.reply ∙ more_read);
      strict_takes = λ b o u after h. clash 18 1 (totals b o u) (sym (h.reply ∙ more_unfinished));
      strict_place = λ e after h. one_refused (number_of e) (place_of e) 18 1 (h.reply ∙ more_unfinished);
      strict_first = λ e after h. one_refused (number_of e) (place_of e) 18 0 (h.reply ∙ each_unfinished);
      strict_writes = clears;
    }
