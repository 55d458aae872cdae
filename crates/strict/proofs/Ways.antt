-- From decode's contract and the walk's answer to strict reading's. Assumes nothing.
use mathlib.Core.Path.{◌≡◌, sym, ap, ◌∙◌}
use mathlib.Core.Bool.{not}
use mathlib.Core.List.{List, map}
use Prim.Native.Nat.{ℕ, ◌*◌, ◌/◌, ◌≤◌}
use native.Mathlib.Omega.{arith}
use lib.ListN.{length, take, length-take}
use Rattle.std.specs.Prelude.{Result, Ok, Err, IsErrAnd}
use Rattle.refusal.specs.declared.Refusal.{Refusal}
use Rattle.refusal.specs.Told.{number_of, place_of, told}
use Rattle.rules.specs.Lists.{in_row}
use Rattle.rules.specs.Answer.{Answer, good, refused, Read, found, item_of, refuse, refuse_first}
use Rattle.rules.specs.Operations.{codes, values}
use Rattle.rules.specs.Batching.{batches_of}
use Rattle.rules.specs.Record.{Block, no_block, record_of, record_size, records_bytes}
use Rattle.rules.specs.Refusals.{unfinished₁₈}
use Rattle.rules.specs.Strict.{own_list, listable, differing, refuse_unfinished}
use Rattle.rules.specs.Functions.{Arena, room_in, filled, decoded, strictly_decoded, leaves}
use Rattle.claims.proofs.Right.{width_8}
use Rattle.checks.proofs.Passed.{and_then, refuse_then, first_then}
use Rattle.refusal.proofs.Told.{handed}
use Rattle.decoder.specs.declared.Decoded.{Decoded}
use Rattle.decoder.specs.Replies.{decoded_of, Decodes, StrictlyDecodes}
use Rattle.decoder.specs.Stages.{tailless}
use Rattle.decoder.proofs.Taken.{refused_answer, Took, took, lengths, room, begins}
use Rattle.strict.specs.Model.{Judged, verdict_in}
use Rattle.strict.proofs.Strict.{ready, judged_is}

judged_as : (t cs cs' rs rs' : List ℕ) (k k' : ℕ) → cs ≡ cs' → rs ≡ rs' → k ≡ k' → Judged t cs' rs' k' → Judged t cs rs k
judged_as t cs cs' rs rs' k k' e f g h = rw (e, f, g) h

-- whether a block is finished, and then what follows
unfinished_then : {A : Type 0} (w : ℕ) (t : List ℕ) (b : Block) (r : Answer A) → refuse_unfinished w t b r ≡ and_then (refuse_unfinished w t b (good tt)) r
unfolding refuse_unfinished
unfinished_then w t b r =
    let no = not (listable (own_list b)) in
    let faults = differing b.records (map record_of (batches_of w t (own_list b))) in
    ap (refuse no unfinished₁₈ 0) (first_then 0 faults (good tt) r) ∙ refuse_then no unfinished₁₈ 0 (refuse_first 0 faults (good tt)) r

module _ (t s : List ℕ) (at : ℕ) (before after : Arena) (r : Result Decoded Refusal) (d : Decodes t s at before after r) where
  abbrev answer : Read Block
  answer = decoded 8 t s at (room_in before)

  -- strict reading is decode
  as_decode : strictly_decoded 8 t s at (room_in before) ≡ answer → StrictlyDecodes t s at before after r
  as_decode same = record { reply = d.reply ∙ ap (decoded_of at) (sym same); runs = d.runs ∙ ap (λ (a : Read Block). filled before (leaves no_block (item_of a))) (sym same) }

  -- ---- decode refused

  pub refused_way : (e : Refusal) → r ≡ Err e → (left : Result Decoded Refusal) → IsErrAnd left (λ y. y ≡ e) → StrictlyDecodes t s at before after left
  unfolding strictly_decoded
  refused_way e h left q =
      let a = refused_answer t s at before after r d e h in
      let w = as_decode (rw a) in
      record { reply = handed left e q ∙ (ap told (sym h) ∙ w.reply); runs = w.runs }

  -- ---- decode took a block

  module _ (m : Decoded) (h : r ≡ Ok m) where
    abbrev n : ℕ
    n = m.operations

    abbrev k : ℕ
    k = m.batches

    x : Took t s at before after r d k n
    x = took t s at before after r d m h

    abbrev b : Block
    b = x.block

    same : (take n after.codes ≡ codes b.ops) × (take (record_size * k) after.records ≡ records_bytes b.records)
    same = let e = begins t s at before after r d k n x in (ap (λ (a : Arena). a.codes) e, ap (λ (a : Arena). a.records) e)

    abbrev records : List ℕ
    records = take (record_size * k) after.records

    many : length records / record_size ≡ k
    many = let l = length-take (record_size * k) after.records in omega (arith, l, (room t s at before after r d k n x).2)

    pub asks : (n ≤ length after.codes) × (record_size * k ≤ length after.records) × Judged t (take n after.codes) records (length records / record_size)
    asks = (
      (room t s at before after r d k n x).0,
      (room t s at before after r d k n x).2,
      judged_as t _ _ _ _ _ _ same.0 same.1 (many ∙ sym x.batches) (ready 8 width_8 t s at (room_in before) b x.next x.is),
    )

    abbrev walk : Answer Unit
    walk = verdict_in 8 t (take n after.codes) records (length records / record_size)

    verdict : walk ≡ refuse_unfinished 8 t b (good tt)
    verdict = (let e = same in let f = many ∙ sym x.batches in λ j. verdict_in 8 t (e.0 j) (e.1 j) (f j)) ∙ judged_is 8 width_8 t s at (room_in before) b x.next x.is

    strictly : strictly_decoded 8 t s at (room_in before) ≡ and_then (refuse_unfinished 8 t b (good tt)) (found b x.next)
    unfolding strictly_decoded
    strictly = rw x.is (unfinished_then 8 t b (found b x.next))

    -- the block is finished
    pub passed_way : walk ≡ good tt → StrictlyDecodes t s at before after (Ok m)
    passed_way v =
        let g = sym verdict ∙ v in
        let w = as_decode (strictly ∙ (rw g (sym x.is))) in
        record { reply = ap told (sym h) ∙ w.reply; runs = w.runs }

    -- it is not
    pub late_way : (e : Refusal) → walk ≡ refused (number_of e) (place_of e) → (after' : Arena) → after' ≡ tailless 0 0 after → StrictlyDecodes t s at before after' (Err e)
    unfolding filled no_block codes values in_row
    late_way e v after' z =
        let g = sym verdict ∙ v in
        let q : strictly_decoded 8 t s at (room_in before) ≡ refused (number_of e) (place_of e) = strictly ∙ rw g in
        let l = lengths t s at before after r d k n x in
        record { reply = rw q; runs = rw (q, z, l.0, l.1, l.2) }
