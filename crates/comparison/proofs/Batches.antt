-- The batches of two arenas, one after the other, are the definitions' batches. Assumes nothing.
use mathlib.Core.Path.{◌≡◌, refl, sym, ap, ◌∙◌}
use mathlib.Core.Bool.{Bool, true, false, cond, not}
use mathlib.Core.List.{List, [], ◌∷◌, ◌++◌, append_assoc, append-nil}
use Prim.Native.Nat.{ℕ, zero, suc, ◌+◌, ◌-◌, min}
use native.Mathlib.Nat.{add-zero, sub-zero}
use native.Mathlib.Omega.{arith}
use lib.ListN.{drop}
use lib.Seq.{drop-drop}
use lib.Dec.{eqb}
use Rattle.rules.specs.Operations.{Op, operations}
use Rattle.rules.specs.Record.{record_at, records_from, differences}
use Rattle.rules.specs.Checks.{ninth}
use Rattle.rules.specs.Functions.{Arena}
use Rattle.rules.specs.Compare.{Entry, entry_at, unless, Whole, same_op, wholes_of, batch_apart, batches_apart}
use Rattle.comparison.specs.Model.{whole_at, apart_of, entries_for, common_from, missing_from}
use Rattle.comparison.proofs.Places.{apart_noted}

-- ---- one batch

count_noted : (e : Entry) (t : Bool) → unless t e ≡ cond (not t) (e ∷ []) []
unfolding unless
count_noted e true = refl
count_noted e false = refl

pub batch_entries : (b : ℕ) (p q : Whole) → batch_apart b p q ≡ entries_for b (apart_of p q)
unfolding batch_apart entries_for apart_of
batch_entries b p q =
    rw (
      apart_noted eqb 1 b 0 p.batch.numbers q.batch.numbers,
      apart_noted eqb 2 b 0 p.batch.flags q.batch.flags,
      apart_noted eqb 3 b 0 (differences p.batch.starts) (differences q.batch.starts),
      apart_noted same_op 4 b 0 p.ops q.ops,
      count_noted (entry_at 5 b 0) (eqb p.batch.count q.batch.count),
    )

-- ---- all batches

abbrev ops_in : Arena → List Op
ops_in a = operations a.codes a.values

-- k batches of an arena from the b-th on, whose operations begin at a place
abbrev pub wholes_from : ℕ → Arena → ℕ → ℕ → List Whole
wholes_from k a b from = wholes_of (records_from k a.records b) (drop from (ops_in a))

wholes_turn : (k : ℕ) (a : Arena) (b from : ℕ) → wholes_from (suc k) a b from ≡ whole_at a b from ∷ wholes_from k a (b + 1) (from + ninth (record_at a.records b))
unfolding wholes_of records_from
wholes_turn k a b from = let r = record_at a.records b in rw (drop-drop (ninth r) from (ops_in a))

wholes_none : (a : Arena) (b from : ℕ) → wholes_from 0 a b from ≡ []
unfolding wholes_of records_from
wholes_none a b from = refl

lacks_first : (k : ℕ) (c : Arena) (b at : ℕ) → batches_apart b [] (wholes_from k c b at) ≡ missing_from k b 1
unfolding batches_apart missing_from
lacks_first zero c b at = rw (wholes_none c b at)
lacks_first (suc k) c b at = rw (wholes_turn k c b at, lacks_first k c (b + 1) (at + ninth (record_at c.records b)))

lacks_second : (k : ℕ) (a : Arena) (b from : ℕ) → batches_apart b (wholes_from k a b from) [] ≡ missing_from k b 2
unfolding batches_apart missing_from
lacks_second zero a b from = rw (wholes_none a b from)
lacks_second (suc k) a b from = rw (wholes_turn k a b from, lacks_second k a (b + 1) (from + ninth (record_at a.records b)))

-- those that both have, and then those that one lacks
pub all_batches : (k l m : ℕ) (a : Arena) (from : ℕ) (c : Arena) (at b : ℕ) → m ≡ min k l
    → batches_apart b (wholes_from k a b from) (wholes_from l c b at) ≡ common_from m a from c at b ++ (missing_from (k - m) (b + m) 2 ++ missing_from (l - m) (b + m) 1)
unfolding batches_apart common_from missing_from
all_batches zero l zero a from c at b h = rw (wholes_none a b from, lacks_first l c b at, sub-zero l, add-zero b)
all_batches zero l (suc m) a from c at b h = absurd (omega arith)
all_batches (suc k) zero zero a from c at b h = rw (wholes_none c b at, lacks_second (suc k) a b from, sub-zero (suc k), add-zero b) (sym (append-nil (missing_from (suc k) b 2)))
all_batches (suc k) zero (suc m) a from c at b h = absurd (omega arith)
all_batches (suc k) (suc l) zero a from c at b h = absurd (omega arith)
all_batches (suc k) (suc l) (suc m) a from c at b h =
    let e : b + suc m ≡ b + 1 + m = omega arith in
    let f : suc k - suc m ≡ k - m = omega arith in
    let g : suc l - suc m ≡ l - m = omega arith in
    let one = batch_apart b (whole_at a b from) (whole_at c b at) in
    let next = common_from m a (from + ninth (record_at a.records b)) c (at + ninth (record_at c.records b)) (b + 1) in
    rw (wholes_turn k a b from, wholes_turn l c b at, e, f, g)
    (ap (λ (r : List Entry). one ++ r) (all_batches k l m a (from + ninth (record_at a.records b)) c (at + ninth (record_at c.records b)) (b + 1) (omega arith))
    ∙ sym (append_assoc one next (missing_from (k - m) (b + 1 + m) 2 ++ missing_from (l - m) (b + 1 + m) 1)))
