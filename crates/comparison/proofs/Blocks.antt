-- What the structure check says of one block's arena, batch by batch. Assumes nothing.
use mathlib.Core.Path.{◌≡◌, refl, sym, ◌∙◌}
use mathlib.Core.Bool.{true}
use mathlib.Core.List.{List, [], ◌∷◌, map}
use Prim.Native.Nat.{ℕ, zero, suc, ◌+◌, ◌-◌, ◌*◌, ◌/◌, ◌≤◌, ◌<◌}
use native.Mathlib.Omega.{arith}
use Rattle.std.specs.Prelude.{Option, sum_by}
use Rattle.std.specs.List.{range_with_len}
use Rattle.std.proofs.lemmas.List.Sums.{sum_by-cons}
use lib.ListN.{length, get_or, drop, length-take}
use lib.Dec.{eqb}
use Rattle.rules.specs.Lists.{total}
use Rattle.std.specs.Int.{to_le_bytes, w64}
use Rattle.rules.specs.Digits.{number}
use Rattle.rules.specs.Operations.{operations}
use Rattle.rules.specs.Record.{Record, differences, part, record_size, record_at, records_from, records_in}
use Rattle.rules.specs.Checks.{ninth, starts_right}
use Rattle.rules.specs.Functions.{Arena, arena, block_in}
use Rattle.rules.specs.Compare.{batch_total, padded_total, paddings_in, padding_total, raw_total, Entry, Whole, same_op}
use Rattle.rules.proofs.Operations.{length_operations}
use Rattle.rules.proofs.Sizes.{length_records}
use Rattle.op_batch.proofs.Right.{ninth_small}
use Rattle.checks.specs.Batch.{Fits, Structured, Lies}
use Rattle.checks.proofs.Walk.{equal_lengths, few_codes, few_records}
use Rattle.checks.proofs.Passed.{checked, all_fit}
use Rattle.checks.proofs.Batches.{rest, rest_turn, rest_all, lies}
use Rattle.checks.proofs.Groups.{Laid, laid, right_starts, Bytes, differences_bytes, differences_length, flags_small}
use Rattle.claims.proofs.ItemsWrittenThenRead.{digits_number}
use Rattle.comparison.specs.declared.Apart.{Apart}
use Rattle.comparison.specs.declared.Totals.{Totals}
use Rattle.comparison.specs.declared.Report.{Report}
use Rattle.comparison.specs.Model.{FirstApart, apart_from, whole_at, apart_of, Near, entries_for, common_from, totals_of, Few, Adds, Taken}
use Rattle.comparison.proofs.Places.{numbers_found, apart_near, bytes_are}
use Rattle.comparison.proofs.Entries.{Ahead, ahead_turn, ahead_none}
use Rattle.comparison.proofs.Batches.{batch_entries}

pub structured : {a : Arena} → Taken a → Structured a
structured t = record { width = 8; room = omega arith; passed = t.structured }

-- ---- the limits

module _ (cs vs rs : List ℕ) (c : Structured (arena cs vs rs)) where
  pub equal : length cs ≡ length vs
  equal = equal_lengths cs vs rs (checked c.width cs vs rs c.passed).0

  pub few_ops : length cs ≤ 65535
  few_ops = few_codes cs vs rs (checked c.width cs vs rs c.passed).0

  pub few_batches : length rs / record_size ≤ 16384
  few_batches = few_records cs vs rs (checked c.width cs vs rs c.passed).0

  pub fits_at : (b : ℕ) → b < length rs / record_size → Fits (record_at rs b)
  fits_at b h = all_fit c.width cs vs rs c.room (checked c.width cs vs rs c.passed).1 b h

-- ---- one batch

sizes_eight : (s : List ℕ) → length s ≡ 9 → starts_right s ≡ true → (length (differences s) ≡ 8) × Bytes (differences s)
sizes_eight [] h r = absurd (omega arith)
sizes_eight (a ∷ s) h r = (omega (arith, differences_length a s), differences_bytes a s r)

module _ (cs vs rs : List ℕ) (b from : ℕ) (x : Lies (arena cs vs rs) b from) where
  abbrev r : Record
  r = record_at rs b

  pub of_eight : Laid r
  of_eight = laid rs b x.fits

  pub small : ninth r ≤ 72
  small = ninth_small of_eight.width r of_eight.sound of_eight.starts

  pub starts_right_lem : starts_right r.starts ≡ true
  starts_right_lem = right_starts r x.fits

  pub sizes_bytes : (length (differences r.starts) ≡ 8) × Bytes (differences r.starts)
  sizes_bytes = sizes_eight r.starts of_eight.starts starts_right_lem

  pub flags_bytes : Bytes r.flags
  flags_bytes = flags_small r.flags of_eight.sound.flags

  -- what is found of it has a place in it
  pub near : (q : Whole) (d : Apart) → d ≡ apart_of (whole_at (arena cs vs rs) b from) q → Near d
  unfolding apart_of
  near q d e =
      rw e
      (record {
        number = apart_near eqb 0 72 r.numbers q.batch.numbers (omega (arith, of_eight.numbers));
        flag = apart_near eqb 0 72 r.flags q.batch.flags (omega (arith, of_eight.flags));
        length = apart_near eqb 0 72 (differences r.starts) (differences q.batch.starts) (omega (arith, sizes_bytes.0));
        operation = apart_near same_op 0 72 (part (ninth r) (operations cs vs) from) q.ops (omega (arith, length-take (ninth r) (drop from (operations cs vs)), small));
      })

-- eight bytes, from the numbers that they make
pub bytes_found : (xs ys : List ℕ) (m n : ℕ) (r : Option ℕ) → length xs ≡ 8 → Bytes xs → length ys ≡ 8 → Bytes ys → m ≡ number 256 xs → n ≡ number 256 ys
    → FirstApart 8 (λ i. get_or (to_le_bytes w64 m) i 0 ≡ get_or (to_le_bytes w64 n) i 0) r → r ≡ apart_from eqb 0 xs ys
bytes_found xs ys m n r l h k g e i o =
    let p = back xs m l h e in
    let q = back ys n k g i in
    numbers_found 8 (to_le_bytes w64 m) (to_le_bytes w64 n) r refl refl o ∙ (λ j. apart_from eqb 0 (p j) (q j))
  where
    back : (xs : List ℕ) (v : ℕ) → length xs ≡ 8 → Bytes xs → v ≡ number 256 xs → to_le_bytes w64 v ≡ xs
    back xs v l h e = bytes_are v ∙ rw (e, sym l) (digits_number 256 xs h)

-- ---- paddings, batch by batch

abbrev pub paddings_at : List ℕ → ℕ → ℕ
paddings_at s b = paddings_in (record_at s b)

paddings_each : (s : List ℕ) (b k : ℕ) → sum_by (paddings_at s) (range_with_len b k) ≡ total (map paddings_in (records_from k s b))
unfolding total records_from
paddings_each s b zero = refl
paddings_each s b (suc k) = sum_by-cons (paddings_at s) b (range_with_len (b + 1) k) ∙ rw (paddings_each s (b + 1) k) refl

pub paddings_all : (cs vs rs : List ℕ) → sum_by (paddings_at rs) (range_with_len 0 (length rs / record_size)) ≡ padding_total (block_in (arena cs vs rs))
unfolding padding_total block_in records_in
paddings_all cs vs rs = paddings_each rs 0 (length rs / record_size)

pub paddings_few : (cs vs rs : List ℕ) → Taken (arena cs vs rs) → sum_by (paddings_at rs) (range_with_len 0 (length rs / record_size)) ≤ 65535
paddings_few cs vs rs t = omega (arith, paddings_all cs vs rs, t.paddings, few_ops cs vs rs (structured t))

-- ---- a walk along the first k batches, which is at the b-th: its operations begin at a place

pub record Along (cs vs rs : List ℕ) (k b from : ℕ) : Type 0 where
  pub structured : Structured (arena cs vs rs)
  pub whole : record_size * k ≤ length rs
  ahead : from + rest (length rs / record_size) rs b ≡ length cs

module _ (cs vs rs : List ℕ) (k : ℕ) where
  pub along_first : Taken (arena cs vs rs) → record_size * k ≤ length rs → Along cs vs rs k 0 0
  along_first t h = let c = structured t in record { structured = c; whole = h; ahead = omega (arith, rest_all cs vs rs c) }

  module _ (b from : ℕ) (w : Along cs vs rs k b from) where
    pub few : k ≤ 16384
    few = omega (arith, few_batches cs vs rs w.structured, w.whole)

    module _ (h : b < k) where
      pub along_lies : Lies (arena cs vs rs) b from
      along_lies = lies cs vs rs w.structured b from (omega (arith, w.whole)) w.ahead

      pub along_room : (s : ℕ) → s ≡ ninth (record_at rs b) → from + s ≤ 65535
      along_room s e = omega (arith, along_lies.inside, few_ops cs vs rs w.structured)

      pub along_next : (s : ℕ) → s ≡ ninth (record_at rs b) → Along cs vs rs k (b + 1) (from + s)
      along_next s e = record { structured = w.structured; whole = w.whole; ahead = omega (arith, w.ahead, rest_turn (length rs / record_size) rs b (omega (arith, w.whole))) }

-- and along those of another
module _ (k : ℕ) (a c : Arena) (all : List Entry) (first : Report) where
  pub common_turn : (b from at : ℕ) (x y : Report) → b < k → Ahead (common_from (k - b) a from c at b) x all first → Adds (entries_for b (apart_of (whole_at a b from) (whole_at c b at))) x y
      → Ahead (common_from (k - (b + 1)) a (from + ninth (record_at a.records b)) c (at + ninth (record_at c.records b)) (b + 1)) y all first
  unfolding common_from
  common_turn b from at x y h e f =
      let o : k - b ≡ suc (k - (b + 1)) = omega arith in
      ahead_turn (entries_for b (apart_of (whole_at a b from) (whole_at c b at))) (common_from (k - (b + 1)) a (from + ninth (record_at a.records b)) c (at + ninth (record_at c.records b)) (b + 1)) x y all first
      (rw (o, batch_entries b (whole_at a b from) (whole_at c b at)) at e) f

  pub common_end : (b from at : ℕ) (x : Report) → k ≤ b → Ahead (common_from (k - b) a from c at b) x all first → Adds all first x
  unfolding common_from
  common_end b from at x h e = let o : k - b ≡ 0 = omega arith in ahead_none x all first (rw o at e)

-- the totals
abbrev pub totals : ℕ → ℕ → ℕ → ℕ → Totals
totals k n r p = record { batches = k; padded = n; raw = r; paddings = p }

pub totals_are : (cs vs rs : List ℕ) (p : ℕ) → Taken (arena cs vs rs) → p ≡ padding_total (block_in (arena cs vs rs))
    → (totals (length rs / record_size) (length cs) (length cs - p) p ≡ totals_of (block_in (arena cs vs rs))) × Few (totals (length rs / record_size) (length cs) (length cs - p) p)
unfolding batch_total padded_total raw_total block_in
totals_are cs vs rs p x e =
    let c = structured x in
    let n = sym (length_operations cs vs (equal cs vs rs c)) in
    let k = sym (length_records rs) in (
      λ j. totals (k j) (n j) (n j - e j) (e j),
      record { batches = few_batches cs vs rs c; padded = few_ops cs vs rs c; raw = omega (arith, few_ops cs vs rs c); paddings = omega (arith, x.paddings, few_ops cs vs rs c) },
    )
