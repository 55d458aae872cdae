-- The walk over the batches of an arena that passed the structure check, to the first with a fault of any kind. Assumes nothing.
use mathlib.Core.Path.{◌≡◌, refl, sym, ◌∙◌}
use mathlib.Core.List.{List, ◌∷◌, map}
use Prim.Native.Nat.{ℕ, ◌+◌, ◌-◌, ◌/◌, ◌≤◌, ◌<◌}
use native.Mathlib.Nat.{sub-zero}
use native.Mathlib.Omega.{arith}
use lib.ListN.{length}
use Rattle.rules.specs.Lists.{total}
use Rattle.rules.specs.Answer.{Answer, good, refused, refuse_first}
use Rattle.rules.specs.Operations.{operations}
use Rattle.rules.specs.Record.{record_size, record_at, records_from, records_in}
use Rattle.rules.specs.Checks.{Held, ninth, held_from, held}
use Rattle.rules.specs.Functions.{Arena, arena, block_in}
use Rattle.rules.proofs.Answer.{first_turn, first_stop, first_done}
use Rattle.rules.proofs.Operations.{length_operations}
use Rattle.operation.specs.Verdict.{one_fault}
use Rattle.operation.proofs.Faults.{faulted}
use Rattle.checks.specs.Batch.{held_at, Structured, Lies}
use Rattle.checks.proofs.Walk.{records_turn, records_end, equal_lengths}
use Rattle.checks.proofs.Passed.{checked, all_fit}

-- the operations of the batches from the b-th of n on
unfoldable pub rest : ℕ → List ℕ → ℕ → ℕ
rest n s b = total (map ninth (records_from (n - b) s b))

pub rest_turn : (n : ℕ) (s : List ℕ) (b : ℕ) → b < n → rest n s b ≡ ninth (record_at s b) + rest n s (b + 1)
unfolding rest total
rest_turn n s b h = rw (records_turn n s b h)

rest_none : (n : ℕ) (s : List ℕ) (b : ℕ) → n ≤ b → rest n s b ≡ 0
unfolding rest total
rest_none n s b h = rw (records_end n s b h)

module _ (cs vs rs : List ℕ) (c : Structured (arena cs vs rs)) where
  pub rest_all : rest (length rs / record_size) rs 0 ≡ length cs
  unfolding rest records_in
  rest_all = let k = checked c.width cs vs rs c.passed in rw sub-zero (k.1.sum ∙ length_operations cs vs (equal_lengths cs vs rs k.0))

  pub lies : (b from : ℕ) → b < length rs / record_size → from + rest (length rs / record_size) rs b ≡ length cs → Lies (arena cs vs rs) b from
  lies b from h e =
      let k = checked c.width cs vs rs c.passed in
      record {
        equal = equal_lengths cs vs rs k.0;
        whole = omega arith;
        fits = all_fit c.width cs vs rs c.room k.1 b h;
        inside = omega (arith, rest_turn (length rs / record_size) rs b h);
      }

-- what the walk finds from the b-th of n batches on, whose operations begin at a place
unfoldable fault_from : (Held → ℕ) → ℕ → Arena → ℕ → ℕ → Answer Unit
fault_from fault n a b from = refuse_first b (map fault (held_from (records_from (n - b) a.records b) (operations a.codes a.values) from)) (good tt)

module _ (fault : Held → ℕ) (n : ℕ) (a : Arena) (b from : ℕ) where
  abbrev more : List ℕ
  more = map fault (held_from (records_from (n - (b + 1)) a.records (b + 1)) (operations a.codes a.values) (from + ninth (record_at a.records b)))

  one : b < n → fault_from fault n a b from ≡ refuse_first b (fault (held_at a b from) ∷ more) (good tt)
  unfolding fault_from held_from
  one h = rw (records_turn n a.records b h)

  turn : b < n → fault (held_at a b from) ≡ 0 → fault_from fault n a (b + 1) (from + ninth (record_at a.records b)) ≡ fault_from fault n a b from
  unfolding fault_from
  turn h e = sym (one h ∙ first_turn b (fault (held_at a b from)) more (good tt) e)

  stop : b < n → (m : ℕ) → m ≡ fault (held_at a b from) → (m ≡ 0 → ⊥) → fault_from fault n a b from ≡ refused m b
  stop h m e f = one h ∙ rw (sym e) (first_stop b m more (good tt) f)

  done : n ≤ b → fault_from fault n a b from ≡ good tt
  unfolding fault_from held_from
  done h = rw (records_end n a.records b h) (first_done b (good tt))

begin : (fault : Held → ℕ) (a : Arena) → fault_from fault (length a.records / record_size) a 0 0 ≡ refuse_first 0 (map fault (held (block_in a))) (good tt)
unfolding fault_from held block_in records_in
begin fault a = rw sub-zero

-- ---- the walk came to the b-th of n batches, whose operations begin at a place, and found no fault

pub record Came (fault : Held → ℕ) (cs vs rs : List ℕ) (n b from : ℕ) : Type 0 where
  pub structured : Structured (arena cs vs rs)
  pub all : n ≡ length rs / record_size
  ahead : from + rest (length rs / record_size) rs b ≡ length cs
  same : fault_from fault (length rs / record_size) (arena cs vs rs) b from ≡ fault_from fault (length rs / record_size) (arena cs vs rs) 0 0

pub came_first : (fault : Held → ℕ) (cs vs rs : List ℕ) → Structured (arena cs vs rs) → Came fault cs vs rs (length rs / record_size) 0 0
came_first fault cs vs rs c = record { structured = c; all = refl; ahead = omega (arith, rest_all cs vs rs c); same = refl }

module _ (fault : Held → ℕ) (cs vs rs : List ℕ) (n b from : ℕ) (w : Came fault cs vs rs n b from) where
  abbrev answer : Answer Unit
  answer = refuse_first 0 (map fault (held (block_in (arena cs vs rs)))) (good tt)

  pub came_last : n ≤ b → (from ≡ length cs) × (good tt ≡ answer)
  came_last h = (
    omega (arith, w.ahead, w.all, rest_none (length rs / record_size) rs b (omega (arith, w.all))),
    sym (done fault (length rs / record_size) (arena cs vs rs) b from (omega (arith, w.all))) ∙ w.same ∙ begin fault (arena cs vs rs),
  )

  module _ (h : b < n) where
    pub came_lies : Lies (arena cs vs rs) b from
    came_lies = lies cs vs rs w.structured b from (omega (arith, w.all)) w.ahead

    pub came_stop : (k p : ℕ) → refused k p ≡ one_fault (fault (held_at (arena cs vs rs) b from)) b → refused k p ≡ answer
    came_stop k p e =
        let f = faulted (fault (held_at (arena cs vs rs) b from)) b k p e in
        rw (← f.number, ← f.place) (sym (stop fault (length rs / record_size) (arena cs vs rs) b from (omega (arith, w.all)) _ refl f.some) ∙ w.same ∙ begin fault (arena cs vs rs))

    -- past the batch, by its ninth start
    module _ (s : ℕ) (e : s ≡ ninth (record_at rs b)) where
      pub came_room : from + s ≤ length cs
      came_room = omega (arith, came_lies.inside)

      pub came_next : fault (held_at (arena cs vs rs) b from) ≡ 0 → Came fault cs vs rs n (b + 1) (from + s)
      came_next z =
          record {
            structured = w.structured;
            all = w.all;
            ahead = omega (arith, w.ahead, rest_turn (length rs / record_size) rs b (omega (arith, w.all)));
            same = rw e (turn fault (length rs / record_size) (arena cs vs rs) b from (omega (arith, w.all)) z) ∙ w.same;
          }
