-- Tables that cross as bytes: more room than the longest table has makes no difference. Assumes nothing.
use mathlib.Core.Path.{◌≡◌, refl, ap, ◌∙◌}
use mathlib.Core.Bool.{Bool, true, false, not, ◌&&◌}
use mathlib.Core.List.{List, [], ◌∷◌}
use Prim.Native.Nat.{ℕ, suc, ◌+◌, ◌/◌, ◌%◌, ◌≤◌, min, zero-le}
use native.Mathlib.Omega.{arith}
use borrow.Author.Tests.{lt-ltb, le-ltb, ltb-true, ltb-false, leb-true, not-false}
use lib.ListN.{length}
use lib.Dec.{leb, ltb, eqb}
use Rattle.rules.specs.Lists.{fitted}
use Rattle.rules.specs.Answer.{Answer, good, refuse_first}
use Rattle.rules.specs.Record.{word_bytes, record_size}
use Rattle.rules.specs.Checks.{structure_faults, padding_faults}
use Rattle.rules.specs.Lookups.{marks, raw_entries, padded_entries, raw_table, padded_table}
use Rattle.rules.specs.Functions.{Arena, block_in, within, structure_checked, table_of, table_left, leaves}
use Rattle.rules.proofs.Operations.{true_left, true_right}
use Rattle.prefix.specs.declared.Prefix.{Prefix}
use Rattle.prefix.specs.declared.Prefix.TheVariants.{RawToPadded, PaddedToRaw}
use Rattle.prefix.specs.Tables.{table_by, table_from}
use Rattle.prefix.proofs.Claims.{all_marked}
use Rattle.exports.specs.Replies.{table_reply, Tables, TablesBytes}
use Rattle.exports.specs.declared.TableReply.{TableReply}
use Rattle.exports.proofs.Guards.{same_refuse, same_first, short_refuse, short_first}
use Rattle.exports.proofs.Rooms.{written_out}

-- ---- the longest table

entries : (which : Prefix) (k : ℕ) (ms : List Bool) → length (table_from which k ms) ≤ suc (length ms)
unfolding raw_entries padded_entries
entries PaddedToRaw k [] = omega arith
entries PaddedToRaw k (true ∷ ms) = omega (arith, entries PaddedToRaw (k + 1) ms)
entries PaddedToRaw k (false ∷ ms) = omega (arith, entries PaddedToRaw k ms)
entries RawToPadded k [] = omega arith
entries RawToPadded k (true ∷ ms) = omega (arith, entries RawToPadded (k + 1) ms)
entries RawToPadded k (false ∷ ms) = omega (arith, entries RawToPadded k ms)

few_operations : (a : Arena) → within a ≡ true → length a.codes ≤ 65535
unfolding within
few_operations a h =
    let r = eqb (length a.records % record_size) 0 && leb (length a.records / record_size) 16384 in
    let b = leb (length a.codes) 65535 in
    leb-true (length a.codes) 65535 (true_left b r (true_right (eqb (length a.codes) (length a.values)) (b && r) h))

module _ (which : Prefix) (a : Arena) where
  by_marks : (p : Prefix) → length (table_by p (block_in a)) ≤ suc (length (marks (block_in a).records))
  unfolding raw_table padded_table
  by_marks PaddedToRaw = entries PaddedToRaw 0 (marks (block_in a).records)
  by_marks RawToPadded = entries RawToPadded 0 (marks (block_in a).records)

  longest : not (within a) ≡ false → ◌≡◌ {A = Answer Unit} (refuse_first 0 (structure_faults 8 (block_in a)) (good tt)) (good tt) → length (table_by which (block_in a)) ≤ 65536
  unfolding structure_checked
  longest w s =
      let h = not-false (within a) w in
      let checked : structure_checked 8 a ≡ good tt = rw h s in
      omega (arith, by_marks which, all_marked 8 (omega arith) a checked, few_operations a h)

  ltb_min : (k m : ℕ) → m ≤ 65536 → ltb (min k 65536) m ≡ ltb k m
  ltb_min k m h = go (ltb k m) refl
    where
      go : (b : Bool) → ltb k m ≡ b → ltb (min k 65536) m ≡ b
      go true e = lt-ltb (min k 65536) m (omega (arith, ltb-true k m e))
      go false e = le-ltb (min k 65536) m (omega (arith, ltb-false k m e))

  table_same : (k : ℕ) → table_of (table_by which) 8 a (min k 65536) ≡ table_of (table_by which) 8 a k
  unfolding table_of
  table_same k =
      same_refuse (not (within a)) 3 0 _ _ (λ w. same_first 0 (structure_faults 8 (block_in a)) _ _ (λ s. same_first 0 (padding_faults (block_in a)) _ _ (λ _.
      rw (ltb_min k (length (table_by which (block_in a))) (longest w s)))))

-- a table that was made fits
table_short : (m : ℕ) (which : Prefix) (a : Arena) → length (leaves [] (table_of (table_by which) 8 a m)) ≤ m
unfolding table_of
table_short m which a =
    let size : Answer (List ℕ) → ℕ = λ d. length (leaves [] d) in
    short_refuse size m (λ n p. zero-le) (not (within a)) 3 0 _ (λ _. short_first size m (λ n p. zero-le) 0 (structure_faults 8 (block_in a)) _ (short_first size m (λ n p. zero-le) 0 (padding_faults (block_in a)) _
    (short_refuse size m (λ n p. zero-le) (ltb m (length (table_by which (block_in a)))) 13 0 _ (λ b. ltb-false m (length (table_by which (block_in a))) b))))

-- ---- a table written out

module _ (which : Prefix) (a : Arena) (wk ov : List ℕ) (e : length wk ≡ min (length ov / 8) 65536) where
  tables_out : (r : TableReply) (wk' ov' : List ℕ) → r ≡ table_reply (table_of (table_by which) 8 a (length wk)) → wk' ≡ table_left wk (table_of (table_by which) 8 a (length wk))
      → ov' ≡ fitted (length ov) (word_bytes wk') → TablesBytes (table_of (table_by which) 8 a (length ov / 8)) r ov ov'
  unfolding table_left
  tables_out r wk' ov' x y z =
      let d = table_of (table_by which) 8 a (length wk) in
      let same : d ≡ table_of (table_by which) 8 a (length ov / 8) = rw e (table_same which a (length ov / 8)) in
      record {
        reply = x ∙ ap table_reply same;
        left = z ∙ ap (λ (l : List ℕ). fitted (length ov) (word_bytes l)) y ∙ written_out (length ov) (length wk) (leaves [] d) (table_short (length wk) which a) ∙ ap (λ (q : Answer (List ℕ)). fitted (length ov) (word_bytes (leaves [] q))) same;
      }

pub table_out : (which : Prefix) (a : Arena) {wk wk' ov ov' : List ℕ} {r : TableReply} → Tables (table_of (table_by which) 8 a (length wk)) r wk wk' → length wk ≡ min (length ov / 8) 65536
    → ov' ≡ fitted (length ov) (word_bytes wk') → TablesBytes (table_of (table_by which) 8 a (length ov / 8)) r ov ov'
table_out which a {wk} {wk'} {ov} {ov'} {r} d e o = tables_out which a wk ov e r wk' ov' d.reply d.left o
