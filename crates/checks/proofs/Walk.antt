-- The walk over the records to the first that fails the structure test, with the sum of the ninth starts; and what a passed check says. Assumes nothing.
use mathlib.Core.Path.{◌≡◌, refl, sym, ◌∙◌}
use mathlib.Core.Bool.{true, false, cond, ◌&&◌}
use mathlib.Core.List.{List, [], ◌∷◌, ◌++◌, map}
use Prim.Native.Nat.{ℕ, suc, ◌+◌, ◌-◌, ◌*◌, ◌/◌, ◌%◌, ◌≤◌, ◌<◌}
use native.Mathlib.Nat.{add_assoc, add-zero, zero-add, sub-zero}
use native.Mathlib.Omega.{arith}
use borrow.Author.Tests.{eq-eqb, ne_eqb, eqb-true, leb-true}
use lib.ListN.{length}
use lib.Dec.{leb, eqb}
use Rattle.rules.specs.Lists.{total}
use Rattle.rules.specs.Answer.{Answer, good, refused, refuse_first}
use Rattle.rules.specs.Refusals.{bad_structure₁₅}
use Rattle.rules.specs.Record.{Record, record_size, record_at, records_from, records_in}
use Rattle.rules.specs.Checks.{ninth, record_right, structure_faults}
use Rattle.rules.specs.Functions.{arena, block_in, within}
use Rattle.rules.proofs.Operations.{length_operations, true_left, true_right}
use Rattle.op_batch.proofs.Right.{sound, starts_length, ninth_small}

-- ---- the records of a run from the b-th of n on

pub records_turn : (n : ℕ) (s : List ℕ) (b : ℕ) → b < n → records_from (n - b) s b ≡ record_at s b ∷ records_from (n - (b + 1)) s (b + 1)
unfolding records_from
records_turn n s b h = let e : n - b ≡ suc (n - (b + 1)) = omega arith in rw e

pub records_end : (n : ℕ) (s : List ℕ) (b : ℕ) → n ≤ b → records_from (n - b) s b ≡ []
unfolding records_from
records_end n s b h = let e : n - b ≡ 0 = omega arith in rw e

-- ---- the walk

-- the faults of records where others with this sum came before, and the operations are m
unfoldable faults_of : ℕ → List Record → ℕ → ℕ → List ℕ
faults_of w rs sum m = map (λ (r : Record). cond (record_right w r) 0 15) rs ++ (cond (eqb (sum + total (map ninth rs)) m) 0 15 ∷ [])

-- what the walk finds from the b-th of n records on
left : ℕ → ℕ → List ℕ → ℕ → ℕ → ℕ → Answer Unit
left w n s m b sum = refuse_first b (faults_of w (records_from (n - b) s b) sum m) (good tt)

start : (w : ℕ) (cs vs rs : List ℕ) → length cs ≡ length vs
    → left w (length rs / record_size) rs (length cs) 0 0 ≡ refuse_first 0 (structure_faults w (block_in (arena cs vs rs))) (good tt)
unfolding left faults_of structure_faults block_in records_in
start w cs vs rs h = rw (sub-zero, zero-add, length_operations cs vs h)

module _ (w n : ℕ) (s : List ℕ) (m b sum : ℕ) where
  turn : b < n → record_right w (record_at s b) ≡ true → left w n s m (b + 1) (sum + ninth (record_at s b)) ≡ left w n s m b sum
  unfolding left faults_of refuse_first total
  turn h e = rw (records_turn n s b h, e, add_assoc sum (ninth (record_at s b)) (total (map ninth (records_from (n - (b + 1)) s (b + 1)))))

  stop : b < n → record_right w (record_at s b) ≡ false → left w n s m b sum ≡ refused bad_structure₁₅ b
  unfolding left faults_of refuse_first
  stop h e = rw (records_turn n s b h, e)

  short : b ≡ n → (sum ≡ m → ⊥) → left w n s m b sum ≡ refused bad_structure₁₅ n
  unfolding left faults_of refuse_first total
  short h f = rw (records_end n s b (omega arith), add-zero sum, ne_eqb sum m f, h)

  done : n ≤ b → sum ≡ m → left w n s m b sum ≡ good tt
  unfolding left faults_of refuse_first total
  done h e = rw (records_end n s b h, add-zero sum, eq-eqb sum m e)

-- the walk came to the b-th of n records, and those before it pass and have this sum
pub record Summed (w : ℕ) (cs vs rs : List ℕ) (n b sum : ℕ) : Type 0 where
  pub equal : length cs ≡ length vs
  pub all : n ≡ length rs / record_size
  pub here : b ≤ n
  pub small : sum ≤ 72 * b
  same : left w n rs (length cs) b sum ≡ refuse_first 0 (structure_faults w (block_in (arena cs vs rs))) (good tt)

pub summed_first : (w : ℕ) (cs vs rs : List ℕ) → length cs ≡ length vs → Summed w cs vs rs (length rs / record_size) 0 0
summed_first w cs vs rs e = record { equal = e; all = refl; here = omega arith; small = omega arith; same = start w cs vs rs e }

module _ (w : ℕ) (cs vs rs : List ℕ) (n b sum : ℕ) (x : Summed w cs vs rs n b sum) where
  abbrev answer : Answer Unit
  answer = refuse_first 0 (structure_faults w (block_in (arena cs vs rs))) (good tt)

  pub summed_stop : b < n → record_right w (record_at rs b) ≡ false → refused bad_structure₁₅ b ≡ answer
  summed_stop h e = sym (stop w n rs (length cs) b sum h e) ∙ x.same

  pub summed_short : n ≤ b → (sum ≡ length cs → ⊥) → refused bad_structure₁₅ n ≡ answer
  summed_short h f = sym (short w n rs (length cs) b sum (omega (arith, x.here)) f) ∙ x.same

  pub summed_done : n ≤ b → sum ≡ length cs → good tt ≡ answer
  summed_done h e = sym (done w n rs (length cs) b sum h e) ∙ x.same

  pub summed_next : b < n → record_right w (record_at rs b) ≡ true → (s : ℕ) → s ≡ ninth (record_at rs b) → Summed w cs vs rs n (b + 1) (sum + s)
  summed_next h r s e =
      record {
        equal = x.equal;
        all = x.all;
        here = omega arith;
        small = omega (arith, x.small, ninth_small w (record_at rs b) (sound w (record_at rs b) r) (starts_length rs b));
        same = rw e (turn w n rs (length cs) b sum h r) ∙ x.same;
      }

-- ---- what an arena within the limits has

pub equal_lengths : (cs vs rs : List ℕ) → within (arena cs vs rs) ≡ true → length cs ≡ length vs
unfolding within
equal_lengths cs vs rs h = eqb-true (length cs) (length vs) (true_left (eqb (length cs) (length vs)) _ h)

pub few_codes : (cs vs rs : List ℕ) → within (arena cs vs rs) ≡ true → length cs ≤ 65535
unfolding within
few_codes cs vs rs h = leb-true (length cs) 65535 (true_left (leb (length cs) 65535) _ (true_right (eqb (length cs) (length vs)) _ h))

pub few_records : (cs vs rs : List ℕ) → within (arena cs vs rs) ≡ true → length rs / record_size ≤ 16384
unfolding within
few_records cs vs rs h =
    let a = eqb (length cs) (length vs) in
    let b = leb (length cs) 65535 in
    let c = eqb (length rs % record_size) 0 in
    let d = leb (length rs / record_size) 16384 in
    leb-true (length rs / record_size) 16384 (true_right c d (true_right b (c && d) (true_right a (b && (c && d)) h)))
