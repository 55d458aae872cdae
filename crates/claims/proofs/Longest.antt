-- The longest report there can be is reached: two blocks of 16,384 batches that differ in all five ways in each, and in three totals. Assumes nothing.
use mathlib.Core.Path.{◌≡◌, refl, sym, ◌∙◌}
use mathlib.Core.Bool.{false, true}
use mathlib.Core.List.{List, [], ◌∷◌, map, append-nil}
use Prim.Native.Nat.{ℕ, zero, suc, ◌+◌, ◌-◌, ◌*◌, ◌≤◌}
use native.Mathlib.Omega.{arith}
use borrow.Author.Tests.{ne_eqb}
use lib.ListN.{length, length-append, length-map}
use Rattle.rules.specs.Lists.{total, in_row, All}
use Rattle.rules.specs.Operations.{Op, good_table}
use Rattle.rules.specs.Batching.{Group, ops, imm}
use Rattle.rules.specs.Record.{record_of, ops_of, padded_of, block_of}
use Rattle.rules.specs.Block.{block_bytes}
use Rattle.rules.specs.Functions.{Side, most}
use Rattle.rules.specs.Compare.{batch_total, padded_total, paddings_in, padding_total, raw_total, unless, wholes_of, batches_apart, total_apart, totals_apart, blocks_apart}
use Rattle.rules.specs.Open.{document}
use Rattle.rules.specs.Examples.{table_t, op}
use Rattle.rules.proofs.Operations.{Admissible, to_admissible}
use Rattle.claims.specs.Compare.{Takes, Reached}
use Rattle.claims.proofs.Lists.{all_append}
use Rattle.claims.proofs.Sizes.{block_size}
use Rattle.claims.proofs.WrittenThenRead.{Writable, block_back}
use Rattle.claims.proofs.Compare.{total_self}

-- one operation; a push, an operation and a padding
abbrev small : List Group
small = ops (op 2 0 ∷ []) false ∷ []

abbrev large : List Group
large = ops (op 1 5 ∷ op 2 0 ∷ op 0 0 ∷ []) true ∷ imm 5 ∷ []

-- n batches of these groups
many : ℕ → List Group → List (List Group)
many zero gs = []
many (suc n) gs = gs ∷ many n gs

-- ---- five entries for each batch

five : (n b : ℕ) → length (batches_apart b (wholes_of (map record_of (many n small)) (padded_of (many n small))) (wholes_of (map record_of (many n large)) (padded_of (many n large)))) ≡ 5 * n
unfolding many document
five zero b = refl
five (suc n) b = omega (arith, five n (b + 1))

-- ---- the totals: batches, padded operations, paddings

record Totals (bs : List (List Group)) (k n p : ℕ) : Type 0 where
  batches : length bs ≡ k
  padded : length (padded_of bs) ≡ n
  paddings : total (map paddings_in (map record_of bs)) ≡ p

small_totals : (n : ℕ) → Totals (many n small) n n 0
unfolding many document
small_totals zero = record { batches = refl; padded = refl; paddings = refl }
small_totals (suc n) = let h = small_totals n in record { batches = omega (arith, h.batches); padded = omega (arith, h.padded); paddings = omega (arith, h.paddings) }

large_totals : (n : ℕ) → Totals (many n large) n (3 * n) n
unfolding many document
large_totals zero = record { batches = refl; padded = refl; paddings = refl }
large_totals (suc n) = let h = large_totals n in record { batches = omega (arith, h.batches); padded = omega (arith, h.padded); paddings = omega (arith, h.paddings) }

one : (kind m n : ℕ) → (m ≡ n → ⊥) → length (total_apart kind m n) ≡ 1
unfolding total_apart unless
one kind m n h = rw (ne_eqb m n h)

report_length : (n : ℕ) → 1 ≤ n → length (blocks_apart (block_of (many n small)) (block_of (many n large))) ≡ 5 * n + 3
unfolding blocks_apart totals_apart batch_total padded_total raw_total padding_total block_of
report_length n l =
    let a = small_totals n in
    let b = large_totals n in
    let m₇ = length (map record_of (many n small)) in
    let n₇ = length (map record_of (many n large)) in
    let m₈ = length (padded_of (many n small)) in
    let n₈ = length (padded_of (many n large)) in
    let m₁₀ = total (map paddings_in (map record_of (many n small))) in
    let n₁₀ = total (map paddings_in (map record_of (many n large))) in
    let e : m₇ ≡ n₇ = omega (arith, a.batches, b.batches, length-map (many n small) record_of, length-map (many n large) record_of) in
    let as_many : length (total_apart 7 m₇ n₇) ≡ 0 = rw (e, total_self 7 n₇) in
    simp length-append
    (omega (arith, five n 0, as_many, one 8 m₈ n₈ (λ h. omega (arith, a.padded, b.padded)), one 9 (m₈ - m₁₀) (n₈ - n₁₀) (λ h. omega (arith, a.padded, b.padded, a.paddings, b.paddings)), one 10 m₁₀ n₁₀ (λ h. omega (arith, a.paddings, b.paddings))))

-- ---- both are taken

table_good : good_table table_t ≡ true
unfolding document
table_good = refl

all_many : (P : List Group → Type 0) (n : ℕ) (gs : List Group) → P gs → All P (many n gs)
unfolding many
all_many P zero gs h = tt
all_many P (suc n) gs h = (h, all_many P n gs h)

all_padded : (P : Op → Type 0) (n : ℕ) (gs : List Group) → All P (ops_of gs) → All P (padded_of (many n gs))
unfolding many in_row
all_padded P zero gs h = tt
all_padded P (suc n) gs h = all_append P (ops_of gs) (padded_of (many n gs)) h (all_padded P n gs h)

small_allowed : All (Admissible table_t) (ops_of small)
unfolding document
small_allowed = (to_admissible table_t (op 2 0) refl, tt)

large_allowed : All (Admissible table_t) (ops_of large)
unfolding document
large_allowed = (to_admissible table_t (op 1 5) refl, (to_admissible table_t (op 2 0) refl, (to_admissible table_t (op 0 0) refl, tt)))

module _ (w : ℕ) (w4 : 4 ≤ w) (w8 : w ≤ 8) where
  small_written : Writable w w8 table_t small
  unfolding document
  small_written = record { most = omega arith; groups = (record { some = omega arith; nine = omega arith; closed = refl; padding = tt }, tt); follow = tt }

  large_written : Writable w w8 table_t large
  unfolding document
  large_written = record { most = omega arith; groups = (record { some = omega arith; nine = omega arith; closed = refl; padding = refl }, (tt, tt)); follow = (refl, tt) }

  abbrev side : List (List Group) → Side
  side bs = record { table = table_t; bytes = block_bytes table_t (block_of bs); at = 0; room = most }

  takes : (n : ℕ) (gs : List Group) → Writable w w8 table_t gs → All (Admissible table_t) (ops_of gs) → length (padded_of (many n gs)) ≤ 65535 → length (many n gs) ≤ 16384
      → Takes w (side (many n gs)) (block_of (many n gs)) (0 + length (block_bytes table_t (block_of (many n gs))))
  unfolding block_of
  takes n gs wr ok few less =
      let bs = many n gs in
      let c = block_bytes table_t (block_of bs) in
      let z : length c ≤ 671742 = block_size table_t (block_of bs) few (omega (arith, length-map bs record_of)) in
      block_back w w8 table_t bs c 0 most (all_many (Writable w w8 table_t) n gs wr) (all_padded (Admissible table_t) n gs ok) few less
      (record { before = []; after = []; whole = sym (append-nil c); place = refl }) (record { table = table_good; buffer = omega arith; place = omega arith; codes = few; values = few; records = less })

  pub reached : Reached w
  reached =
      let n : ℕ = 16384 in
      let a = small_totals n in
      let b = large_totals n in
      record {
        x = side (many n small);
        y = side (many n large);
        a = block_of (many n small);
        b = block_of (many n large);
        next₁ = _;
        next₂ = _;
        first = takes n small small_written small_allowed (omega (arith, a.padded)) (omega (arith, a.batches));
        second = takes n large large_written large_allowed (omega (arith, b.padded)) (omega (arith, b.batches));
        is = report_length n (omega arith) ∙ refl;
      }
