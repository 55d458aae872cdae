-- From the inner functions' contracts to compare's. Assumes nothing.
use mathlib.Core.Path.{◌≡◌, refl, sym, ap, ap₂, ◌∙◌}
use mathlib.Core.List.{List, ◌++◌}
use Prim.Native.Nat.{ℕ, ◌+◌, ◌-◌, ◌*◌, ◌/◌, ◌≤◌, ◌<◌, min}
use native.Mathlib.Nat.{zero-add}
use native.Mathlib.Omega.{arith}
use borrow.Author.Tests.{lt-ltb, le-ltb}
use lib.IntN.{ℤ}
use lib.ListN.{length, drop}
use lib.Seq.{sets, sets-eq, take-append_seam}
use Rattle.std.specs.Prelude.{Result, Ok, Err, IsErrAnd}
use Rattle.std.specs.Result.{result_unwrap_or}
use Rattle.rules.specs.Lists.{in_row}
use Rattle.rules.specs.Answer.{Read}
use Rattle.rules.specs.Operations.{codes, values}
use Rattle.rules.specs.Record.{Block, no_block, record_size, records_bytes, records_in}
use Rattle.rules.specs.Compare.{batch_total, padded_total, Entry, wholes, batches_apart, totals_apart, blocks_apart, entry_size}
use Rattle.rules.specs.Functions as rule
use Rattle.rules.specs.Functions.{Arena, arena, block_in, room_in, filled, decoded, Side, marked, reported, refused_by, report_left}
use Rattle.rules.proofs.Records.{records_length}
use Rattle.rules.proofs.Sizes.{length_codes, length_values, length_records}
use Rattle.refusal.specs.declared.Refusal.{Refusal}
use Rattle.refusal.specs.Told.{number_of, place_of}
use Rattle.word.specs.Numbers.{zeroed}
use Rattle.claims.specs.Demand3.{lent}
use Rattle.claims.proofs.ReadThenChecked.{encodable}
use Rattle.claims.proofs.Passes.{decode_passes}
use Rattle.claims.proofs.Arena.{block_in_lem}
use Rattle.claims.proofs.Compare.{compare}
use Rattle.decoder.specs.declared.Decoded.{Decoded}
use Rattle.decoder.specs.Replies.{Decodes}
use Rattle.decoder.specs.Stages.{tailless}
use Rattle.decoder.proofs.Taken.{refused_answer, Took, took, taken_left, lengths, room, begins}
use Rattle.comparison.specs.declared.Report as lent_report
use Rattle.comparison.specs.declared.Totals.{Totals}
use Rattle.comparison.specs.declared.Refused.{Refused}
use Rattle.comparison.specs.declared.Refused.TheVariants.{First, Second, Report}
use Rattle.comparison.specs.Replies.{Marked, room_for, Reports}
use Rattle.comparison.specs.Model.{common_from, missing_from, totals_of, totals_for, Adds, answer_in, Written, Taken, front, Begins, headless}
use Rattle.comparison.proofs.Entries.{numbers, numbers_length}
use Rattle.comparison.proofs.Batches.{all_batches}
use Rattle.comparison.proofs.Flags.{all_zeroed}

-- ---- every entry of two blocks

module _ (cs vs rs ds us ss : List ℕ) where
  abbrev a : Arena
  a = arena cs vs rs

  abbrev c : Arena
  c = arena ds us ss

  batches_are : (k l m : ℕ) → k ≡ length rs / record_size → l ≡ length ss / record_size → m ≡ min k l
      → common_from m a 0 c 0 0 ++ (missing_from (k - m) m 2 ++ missing_from (l - m) m 1) ≡ batches_apart 0 (wholes (block_in a)) (wholes (block_in c))
  unfolding block_in records_in
  batches_are k l m e f h = rw (sym e, sym f) (rw (zero-add m) at (sym (all_batches k l m a 0 c 0 0 h)))

  pub blocks_are : (x y : Totals) (m : ℕ) → x ≡ totals_of (block_in a) → y ≡ totals_of (block_in c) → m ≡ min x.batches y.batches
      → (common_from m a 0 c 0 0 ++ (missing_from (x.batches - m) m 2 ++ missing_from (y.batches - m) m 1)) ++ totals_for x y ≡ blocks_apart (block_in a) (block_in c)
  unfolding blocks_apart totals_apart totals_for batch_total block_in
  blocks_are x y m e f h =
      ap₂ (λ (p q : List Entry). p ++ q)
      (batches_are x.batches y.batches m (ap (λ (t : Totals). t.batches) e ∙ length_records rs) (ap (λ (t : Totals). t.batches) f ∙ length_records ss) h)
      (ap₂ totals_for e f)

pub adds_as : (es fs : List Entry) (x y : lent_report.Report) → es ≡ fs → Adds es x y → Adds fs x y
adds_as es fs x y e h = rw e at h

-- batches that a block has are whole records
pub whole_records : (cs vs rs : List ℕ) (x : Totals) (m : ℕ) → x ≡ totals_of (block_in (arena cs vs rs)) → m ≤ x.batches → record_size * m ≤ length rs
unfolding batch_total block_in
whole_records cs vs rs x m e h = let k = ap (λ (t : Totals). t.batches) e ∙ length_records rs in omega arith

-- ---- what is written of them, where there is room and where there is not

module _ (es : List Entry) (before after : List ℤ) (n : ℕ) (count : n ≡ length es) (run : after ≡ sets before 0 (numbers es)) where
  pub too_many : room_for before < n → Written (answer_in (room_for before) es) after (Err Report)
  unfolding in_row
  too_many h = rw (lt-ltb (room_for before) (length es) (omega arith)) (record { reply = refl; front = refl })

  pub enough : n ≤ room_for before → Written (answer_in (room_for before) es) after (Ok n)
  enough h =
      let e = numbers_length es in
      rw (le-ltb (room_for before) (length es) (omega arith))
      (record {
        reply = ap (λ (k : ℕ). Ok k) count;
        front = rw (run, sets-eq (numbers es) before 0 (omega arith), sym e) (take-append_seam (numbers es) (drop (0 + length (numbers es)) before));
      })

pub written_as : (x y : rule.Compared) (after : List ℤ) (r : Result ℕ Refused) → x ≡ y → Written x after r → Written y after r
written_as x y after r e h = rw e at h

-- ---- and what is left of it

told_count : {m n : ℕ} → ◌≡◌ {A = Result ℕ Marked} (Ok m) (Ok n) → m ≡ n
told_count e = cc

clash_told : {x : Marked} {n : ℕ} → ◌≡◌ {A = Result ℕ Marked} (Err x) (Ok n) → ⊥
clash_told e = cc

clash_back : {x : Marked} {n : ℕ} → ◌≡◌ {A = Result ℕ Marked} (Ok n) (Err x) → ⊥
clash_back e = cc

pub settled : (x : rule.Compared) (before mid : List ℤ) (r : Result ℕ Refused) → length mid ≡ length before → Written x mid r → Reports x before (zeroed mid (entry_size * result_unwrap_or r 0)) r
unfolding report_left in_row
settled (reported es) before mid (Ok n) l w = let e : n ≡ length es = told_count w.reply in record { reply = w.reply; report = rw (e, l, w.front) }
settled (reported es) before mid (Err e) l w = absurd (clash_told w.reply)
settled (refused_by m n p) before mid (Ok k) l w = absurd (clash_back w.reply)
settled (refused_by m n p) before mid (Err e) l w = record { reply = w.reply; report = rw l }

-- ---- one block, by decode's contract

module _ (t s : List ℕ) (at : ℕ) (before after : Arena) (r : Result Decoded Refusal) (d : Decodes t s at before after r) where
  abbrev answer : Read Block
  answer = decoded 8 t s at (room_in before)

  pub refused_marked : (e : Refusal) → r ≡ Err e → (mark : ℕ) (f : Block → rule.Compared) → marked mark answer f ≡ refused_by mark (number_of e) (place_of e)
  refused_marked e h mark f = rw (refused_answer t s at before after r d e h)

  pub first_written : (f : Block → rule.Compared) (out : List ℤ) (e : Refusal) → r ≡ Err e → Written (marked 1 answer f) out (Err (First e))
  unfolding in_row
  first_written f out e h = rw (refused_marked e h 1 f) (record { reply = refl; front = refl })

  pub second_written : (f : Block → rule.Compared) (out : List ℤ) (q : Result ℕ Refused) → IsErrAnd r (λ e. IsErrAnd q (λ y. y ≡ Second e)) → Written (marked 2 answer f) out q
  unfolding in_row
  second_written f out q h = go r refl q h
    where
      go : (r' : Result Decoded Refusal) → r ≡ r' → (q : Result ℕ Refused) → IsErrAnd r' (λ e. IsErrAnd q (λ y. y ≡ Second e)) → Written (marked 2 answer f) out q
      go (Ok m) h q k = absurd k
      go (Err e) h (Ok n) k = absurd k
      go (Err e) h (Err y) k = rw (refused_marked e h 2 f, k) (record { reply = refl; front = refl })

  module _ (m : Decoded) (h : r ≡ Ok m) where
    abbrev n : ℕ
    n = m.operations

    abbrev k : ℕ
    k = m.batches

    x : Took t s at before after r d k n
    x = took t s at before after r d m h

    abbrev b : Block
    b = x.block

    lies : front n k after ≡ lent b
    lies = begins t s at before after r d k n x

    block_is : block_in (front n k after) ≡ b
    block_is = ap block_in lies ∙ block_in_lem b (encodable 8 t s at (room_in before) b x.next x.is).sized

    taken : Taken (lent b)
    unfolding padded_total
    taken =
        let side : Side = record { table = t; bytes = s; at = at; room = room_in before } in
        let raw = (compare 8 (omega arith)).raw side b x.next x.is in
        let e = encodable 8 t s at (room_in before) b x.next x.is in
        record {
          structured = (decode_passes 8 t s at (room_in before) b x.next x.is).structure;
          paddings = rw (block_in_lem b e.sized) (omega (arith, raw, length_codes b.ops));
        }

    pub taken_begins : Begins after n k
    taken_begins = let w = room t s at before after r d k n x in record { codes = w.0; values = w.1; records = w.2; taken = rw lies taken }

    pub goes_on : (mark : ℕ) (f : Block → rule.Compared) → f (block_in (front n k after)) ≡ marked mark answer f
    goes_on mark f = ap f block_is ∙ (let e = sym x.is in ap (λ (q : Read Block). marked mark q f) e)

    pub emptied : (z : Arena) → z ≡ headless n k after → z ≡ filled before no_block
    unfolding filled no_block codes values in_row
    emptied z e =
        let w = room t s at before after r d k n x in
        let l = lengths t s at before after r d k n x in
        let long = records_length b.records (encodable 8 t s at (room_in before) b x.next x.is).sized ∙ ap (λ (j : ℕ). record_size * j) x.batches in
        let p = all_zeroed (length before.codes) n (codes b.ops) (length_codes b.ops ∙ x.ops) (omega (arith, w, l)) in
        let q = all_zeroed (length before.values) n (values b.ops) (length_values b.ops ∙ x.ops) (omega (arith, w, l)) in
        let o = all_zeroed (length before.records) (record_size * k) (records_bytes b.records) long (omega (arith, w, l)) in
        e ∙ ap (headless n k) (taken_left t s at before after r d k n x) ∙ (λ j. arena (p j) (q j) (o j))

-- a room that was never used
pub cleared : (a z : Arena) → z ≡ tailless 0 0 a → z ≡ filled a no_block
unfolding filled no_block codes values in_row
cleared a z e = e
