-- The tables lead each raw operation to its padded place and back, and a padding to the next raw operation. Assumes nothing.
use mathlib.Core.Path.{◌≡◌, refl, sym, ap, ◌∙◌}
use mathlib.Core.Bool.{Bool, true, false, not}
use mathlib.Core.List.{List, [], ◌∷◌, map}
use mathlib.Core.Option.{none, some}
use Prim.Native.Nat.{ℕ, zero, suc, ◌+◌, ◌-◌, ◌/◌, ◌≤◌, ◌<◌}
use native.Mathlib.Nat.{add-zero, zero-add}
use native.Mathlib.Omega.{arith}
use borrow.Author.Tests.{lt-ltb, le-ltb, le-leb, ltb-false, not-false}
use lib.ListN.{length, get_or, take, length-append}
use lib.Seq.{take-length}
use lib.Dec.{ltb}
use Rattle.rules.specs.Lists.{fitted, total}
use Rattle.rules.specs.Answer.{Answer, good, refused}
use Rattle.rules.specs.Record.{Record, Block, record_size, record_at, records_from, records_in}
use Rattle.rules.specs.Checks.{ninth, structure_faults, padding_faults}
use Rattle.rules.specs.Lookups.{marks_in, marks, raw_entries, padded_entries, raw_table, padded_table, raw_at, padded_at, largest, padded_index, raw_index}
use Rattle.rules.specs.Functions.{Arena, block_in, within, structure_checked, table_of, table_left}
use Rattle.rules.proofs.Answer.{passed, value, no_fault, all_passed}
use Rattle.rules.proofs.Operations.{length_operations}
use Rattle.rules.proofs.Runs.{fitted_front}
use Rattle.rules.proofs.Sizes.{marks_in_lem}
use Rattle.op_batch.proofs.Right.{rise}
use Rattle.checks.specs.Batch.{Fits}
use Rattle.checks.proofs.Groups.{Laid, laid}
use Rattle.checks.proofs.Walk.{equal_lengths, few_codes}
use Rattle.checks.proofs.Passed.{checked, all_fit}
use Rattle.std.specs.Prelude.{Ok}
use Rattle.prefix.specs.Tables.{marks_at, tabled_of, Answered}
use Rattle.prefix.specs.Claims.{raws, place_of, TablesLead, AllMarked, TablesLeft}
use Rattle.prefix.proofs.Entries.{marks_turn, marks_end}

-- ---- the raw table

raw_length : (k : ℕ) (ms : List Bool) → length (raw_entries k ms) ≡ suc (raws ms)
unfolding raw_entries raws
raw_length k [] = refl
raw_length k (true ∷ ms) = raw_length (k + 1) ms
raw_length k (false ∷ ms) = ap suc (raw_length k ms)

raw_entry : (k : ℕ) (ms : List Bool) (i : ℕ) → i < raws ms → i + get_or (raw_entries k ms) i 0 ≡ k + place_of i ms
unfolding raw_entries raws place_of
raw_entry k [] i h = absurd (omega arith)
raw_entry k (true ∷ ms) i h = omega (arith, raw_entry (k + 1) ms i h)
raw_entry k (false ∷ ms) zero h = omega arith
raw_entry k (false ∷ ms) (suc i) h = omega (arith, raw_entry k ms i (omega arith))

raw_last : (k : ℕ) (ms : List Bool) → raws ms + get_or (raw_entries k ms) (raws ms) 0 ≡ k + length ms
unfolding raw_entries raws
raw_last k [] = omega arith
raw_last k (true ∷ ms) = omega (arith, raw_last (k + 1) ms)
raw_last k (false ∷ ms) = omega (arith, raw_last k ms)

place_inside : (ms : List Bool) (i : ℕ) → i < raws ms → place_of i ms < length ms
unfolding raws place_of
place_inside [] i h = absurd (omega arith)
place_inside (true ∷ ms) i h = omega (arith, place_inside ms i h)
place_inside (false ∷ ms) zero h = omega arith
place_inside (false ∷ ms) (suc i) h = omega (arith, place_inside ms i (omega arith))

-- ---- the padded table

padded_length : (k : ℕ) (ms : List Bool) → length (padded_entries k ms) ≡ suc (length ms)
unfolding padded_entries
padded_length k [] = refl
padded_length k (true ∷ ms) = ap suc (padded_length (k + 1) ms)
padded_length k (false ∷ ms) = ap suc (padded_length k ms)

-- an entry is the paddings before its place: the rest before it is raw
padded_entry : (k : ℕ) (ms : List Bool) (p : ℕ) → p ≤ length ms → get_or (padded_entries k ms) p 0 + raws (take p ms) ≡ k + p
unfolding padded_entries raws
padded_entry k [] zero h = omega arith
padded_entry k [] (suc p) h = absurd (omega arith)
padded_entry k (true ∷ ms) zero h = omega arith
padded_entry k (false ∷ ms) zero h = omega arith
padded_entry k (true ∷ ms) (suc p) h = omega (arith, padded_entry (k + 1) ms p (omega arith))
padded_entry k (false ∷ ms) (suc p) h = omega (arith, padded_entry k ms p (omega arith))

place_raws : (ms : List Bool) (i : ℕ) → i < raws ms → raws (take (place_of i ms) ms) ≡ i
unfolding raws place_of
place_raws [] i h = absurd (omega arith)
place_raws (true ∷ ms) i h = place_raws ms i h
place_raws (false ∷ ms) zero h = refl
place_raws (false ∷ ms) (suc i) h = ap suc (place_raws ms i (omega arith))

-- ---- what stands before a place, and what after a padding

before : (ms : List Bool) (p j : ℕ) → j < raws (take p ms) → place_of j ms < p
unfolding raws place_of
before [] zero j h = absurd (omega arith)
before [] (suc p) j h = absurd (omega arith)
before (m ∷ ms) zero j h = absurd (omega arith)
before (true ∷ ms) (suc p) j h = omega (arith, before ms p j h)
before (false ∷ ms) (suc p) zero h = omega arith
before (false ∷ ms) (suc p) (suc j) h = omega (arith, before ms p j (omega arith))

after : (ms : List Bool) (p j : ℕ) → get_or ms p false ≡ true → raws (take p ms) ≤ j → j < raws ms → p < place_of j ms
unfolding raws place_of
after [] p j e h k = absurd (omega arith)
after (true ∷ ms) zero j e h k = omega arith
after (false ∷ ms) zero j e h k = let z : ◌≡◌ {A = ℕ} 0 1 = cc in absurd (omega arith)
after (true ∷ ms) (suc p) j e h k = omega (arith, after ms p j e h k)
after (false ∷ ms) (suc p) zero e h k = absurd (omega arith)
after (false ∷ ms) (suc p) (suc j) e h k = omega (arith, after ms p j e (omega arith) (omega arith))

counted : (ms : List Bool) (p : ℕ) → raws (take p ms) ≤ raws ms
unfolding raws
counted [] zero = omega arith
counted [] (suc p) = omega arith
counted (m ∷ ms) zero = omega arith
counted (true ∷ ms) (suc p) = counted ms p
counted (false ∷ ms) (suc p) = omega (arith, counted ms p)

-- ---- the lookups

to_padded : (ms : List Bool) (i p : ℕ) → i ≤ raws ms → p ≤ largest → i + get_or (raw_entries 0 ms) i 0 ≡ p → padded_index (raw_entries 0 ms) (raw_at i) ≡ some (padded_at p)
unfolding padded_index
to_padded ms i p h l e = rw (lt-ltb i (length (raw_entries 0 ms)) (omega (arith, raw_length 0 ms)), e, le-leb p largest l)

to_raw : (ms : List Bool) (p : ℕ) → p ≤ length ms → raw_index (padded_entries 0 ms) (padded_at p) ≡ some (raw_at (raws (take p ms)))
unfolding raw_index
to_raw ms p h =
    let e = padded_entry 0 ms p h in
    let d : p - get_or (padded_entries 0 ms) p 0 ≡ raws (take p ms) = omega arith in
    rw (lt-ltb p (length (padded_entries 0 ms)) (omega (arith, padded_length 0 ms)), le-leb (get_or (padded_entries 0 ms) p 0) p (omega arith), d)

past_raw : (ms : List Bool) (i : ℕ) → raws ms < i → padded_index (raw_entries 0 ms) (raw_at i) ≡ none
unfolding padded_index
past_raw ms i h = rw (le-ltb i (length (raw_entries 0 ms)) (omega (arith, raw_length 0 ms)))

past_padded : (ms : List Bool) (p : ℕ) → length ms < p → raw_index (padded_entries 0 ms) (padded_at p) ≡ none
unfolding raw_index
past_padded ms p h = rw (le-ltb p (length (padded_entries 0 ms)) (omega (arith, padded_length 0 ms)))

pub tables_lead : TablesLead
unfolding raw_table padded_table
tables_lead b l =
    let ms = marks b.records in
    record {
      there = λ i h. let q = place_inside ms i h in to_padded ms i (place_of i ms) (omega arith) (omega arith) (omega (arith, raw_entry 0 ms i h));
      back = λ i h. to_raw ms (place_of i ms) (omega (arith, place_inside ms i h)) ∙ ap (λ (k : ℕ). some (raw_at k)) (place_raws ms i h);
      padding = λ p h e. (raws (take p ms), (to_raw ms p (omega arith), record { before = before ms p; after = λ j. after ms p j e; counted = counted ms p }));
      ends = (
        to_padded ms (raws ms) (length ms) (omega arith) l (omega (arith, raw_last 0 ms)),
        to_raw ms (length ms) (omega arith) ∙ ap (λ (xs : List Bool). some (raw_at (raws xs))) (take-length ms),
      );
      past = λ i. (past_raw ms i, past_padded ms i);
    }

-- ---- each operation has a mark

module _ (r : Record) (x : Laid r) where
  batch_marks : (k g : ℕ) → g + k ≡ 8 → length (marks_at r g) + get_or r.starts g 0 ≡ ninth r
  batch_marks zero g h = let e : g ≡ 8 = omega arith in omega (arith, ap length (marks_end r x g e), ap (λ (i : ℕ). get_or r.starts i 0) e)
  batch_marks (suc k) g h =
      let size = get_or r.starts (g + 1) 0 - get_or r.starts g 0 in
      let flag = get_or r.flags g 0 in
      omega (
        arith,
        ap length (marks_turn r x g (omega arith)),
        length-append (marks_in size flag) (marks_at r (g + 1)),
        marks_in_lem size flag,
        rise x.width r x.sound x.starts g (omega arith),
        batch_marks k (g + 1) (omega arith),
      )

marks_all : (k : ℕ) (s : List ℕ) (b : ℕ) → ((j : ℕ) → j < k → Fits (record_at s (b + j))) → length (marks (records_from k s b)) ≡ total (map ninth (records_from k s b))
unfolding marks records_from total marks_at
marks_all zero s b h = refl
marks_all (suc k) s b h =
    let r = record_at s b in
    let x = laid s b (rw (add-zero b) at (h 0 (omega arith))) in
    let one = batch_marks r x 8 0 (omega arith) in
    let more = marks_all k s (b + 1) (λ j l. let e : b + 1 + j ≡ b + suc j = omega arith in rw e (h (suc j) (omega arith))) in
    omega (arith, length-append (marks_at r 0) (marks (records_from k s (b + 1))), one, x.sound.first, more)

pub all_marked : AllMarked
unfolding block_in records_in
all_marked w room a h =
    let k = checked w a.codes a.values a.records h in
    marks_all (length a.records / record_size) a.records 0 (λ j l. rw (zero-add j) (all_fit w a.codes a.values a.records room k.1 j l))
    ∙ k.1.sum
    ∙ length_operations a.codes a.values (equal_lengths a.codes a.values a.records k.0)

-- ---- what the two functions left

record WasMade (d : Answer (List ℕ)) (n : ℕ) : Type 0 where
  entries : List ℕ
  answer : d ≡ good entries
  many : n ≡ length entries

was_made : (d : Answer (List ℕ)) (n : ℕ) → good n ≡ tabled_of d → WasMade d n
was_made (good es) n e = record { entries = es; answer = refl; many = cc }
was_made (refused k p) n e = cc

module _ (table : Block → List ℕ) (w : ℕ) (a : Arena) (room : ℕ) (es : List ℕ) (h : table_of table w a room ≡ good es) where
  record Passed : Type 0 where
    structure : structure_checked w a ≡ good tt
    fits : length (table (block_in a)) ≤ room
    entries : table (block_in a) ≡ es

  has_passed : Passed
  unfolding table_of structure_checked
  has_passed =
      let b = block_in a in
      let i = passed (not (within a)) 3 0 _ es h in
      let s = no_fault 0 (structure_faults w b) _ es i.1 in
      let p = no_fault 0 (padding_faults b) _ es s.1 in
      let r = passed (ltb room (length (table b))) 13 0 _ es p.1 in
      record {
        structure = rw (not-false (within a) i.0) (all_passed 0 (structure_faults w b) (good tt) s.0);
        fits = ltb-false room (length (table b)) r.0;
        entries = value (table b) es r.1;
      }

left_front : (out out' es : List ℕ) (n : ℕ) → n ≡ length es → length es ≤ length out → out' ≡ fitted (length out) es → take n out' ≡ es
left_front out out' es n e l h = rw (e, h) (fitted_front (length out) es l)

-- the table, in the front of the run that was lent for it
was_left : (table : Block → List ℕ) (w : ℕ) (a : Arena) (out out' : List ℕ) (n : ℕ) → Answered (table_of table w a (length out)) (Ok n) out out' → (structure_checked w a ≡ good tt) × (take n out' ≡ table (block_in a))
unfolding table_left
was_left table w a out out' n h =
    let m = was_made (table_of table w a (length out)) n h.reply in
    let p = has_passed table w a (length out) m.entries m.answer in
    let l : length m.entries ≤ length out = rw p.entries at p.fits in
    (p.structure, left_front out out' m.entries n m.many l (h.left ∙ ap (table_left out) m.answer) ∙ sym p.entries)

pub tables_left : TablesLeft
tables_left a rawRun rawRun' paddedRun paddedRun' n m h k =
    let r = was_left raw_table 8 a rawRun rawRun' n h in
    let p = was_left padded_table 8 a paddedRun paddedRun' m k in
    let few : length (marks (block_in a).records) ≤ largest = omega (arith, all_marked 8 (omega arith) a r.0, few_codes a.codes a.values a.records (checked 8 a.codes a.values a.records r.0).0) in
    rw (r.1, p.1) (tables_lead (block_in a) few)
