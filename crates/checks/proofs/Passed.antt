-- What a passed structure check says of an arena; how a check's answer leads on to what comes after it. Assumes nothing.
use mathlib.Core.Path.{◌≡◌, refl, sym, ap, ◌∙◌}
use mathlib.Core.Bool.{Bool, true, false, cond, not}
use mathlib.Core.List.{List, [], ◌∷◌, ◌++◌, map}
use Prim.Native.Nat.{ℕ, zero, suc, ◌+◌, ◌/◌, ◌≤◌, ◌<◌}
use native.Mathlib.Nat.{add-zero, zero-add}
use native.Mathlib.Omega.{arith}
use borrow.Author.Tests.{eqb-true, not-false}
use lib.ListN.{length, get_or}
use lib.Dec.{eqb}
use Rattle.rules.specs.Lists.{total}
use Rattle.rules.specs.Answer.{Answer, good, refused, refuse, refuse_first}
use Rattle.rules.specs.Operations.{operations, good_table, op_fault}
use Rattle.rules.specs.Record.{Record, record_size, record_at, records_from, records_in}
use Rattle.rules.specs.Checks.{ninth, record_right, structure_faults, padding_faults}
use Rattle.rules.specs.Functions.{Arena, arena, block_in, within, structure_checked, padding_checked}
use Rattle.rules.proofs.Answer.{clash, passed, no_fault}
use Rattle.rules.proofs.Operations.{op, admitted, table_128}
use Rattle.checks.specs.Batch.{AllFit, Apt}

-- ---- a check, and then what follows it

abbrev pub and_then : {A : Type 0} → Answer Unit → Answer A → Answer A
and_then (good u) r = r
and_then (refused n p) r = refused n p

module _ {A : Type 0} where
  pub refuse_then : (b : Bool) (n p : ℕ) (d : Answer Unit) (r : Answer A) → refuse b n p (and_then d r) ≡ and_then (refuse b n p d) r
  refuse_then true n p d r = refl
  refuse_then false n p d r = refl

  pub first_then : (i : ℕ) (ns : List ℕ) (d : Answer Unit) (r : Answer A) → refuse_first i ns (and_then d r) ≡ and_then (refuse_first i ns d) r
  unfolding refuse_first
  first_then i [] d r = refl
  first_then i (zero ∷ ns) d r = first_then (i + 1) ns d r
  first_then i (suc n ∷ ns) d r = refl

  -- limits and structure, and then what follows them
  pub structure_then : (w : ℕ) (a : Arena) (r : Answer A) → refuse (not (within a)) 3 0 (refuse_first 0 (structure_faults w (block_in a)) r) ≡ and_then (structure_checked w a) r
  unfolding structure_checked
  structure_then w a r =
      ap (refuse (not (within a)) 3 0) (first_then 0 (structure_faults w (block_in a)) (good tt) r)
      ∙ refuse_then (not (within a)) 3 0 (refuse_first 0 (structure_faults w (block_in a)) (good tt)) r

  pub went_on : (d : Answer Unit) (r : Answer A) → d ≡ good tt → and_then d r ≡ r
  went_on d r h = rw h

  pub first_good : (d : Answer Unit) (r : Answer A) (a : A) → and_then d r ≡ good a → d ≡ good tt
  first_good (good u) r a h = refl
  first_good (refused n p) r a h = absurd (clash n p a h)

-- the ways out of the padding check
module _ (w : ℕ) (a : Arena) where
  abbrev padding_stage : Answer Unit
  padding_stage = refuse_first 0 (padding_faults (block_in a)) (good tt)

  padding_stages : padding_checked w a ≡ and_then (structure_checked w a) padding_stage
  unfolding padding_checked
  padding_stages = structure_then w a padding_stage

  pub padding_unstructured : (n p : ℕ) → refused n p ≡ structure_checked w a → refused n p ≡ padding_checked w a
  padding_unstructured n p e = rw (padding_stages, ← e)

  pub padding_by_batches : good tt ≡ structure_checked w a → padding_stage ≡ padding_checked w a
  padding_by_batches g = sym (padding_stages ∙ went_on (structure_checked w a) padding_stage (sym g))

  -- an arena that passed it passed the structure check
  pub padding_good : padding_checked w a ≡ good tt → structure_checked w a ≡ good tt
  padding_good h = first_good (structure_checked w a) padding_stage tt (sym padding_stages ∙ h)

-- ---- structure

-- every record passes the structure test, and their operations are those lent
pub record Records (w : ℕ) (cs vs rs : List ℕ) : Type 0 where
  pub right : (b : ℕ) → b < length rs / record_size → record_right w (record_at rs b) ≡ true
  pub sum : total (map ninth (records_in rs)) ≡ length (operations cs vs)

module _ (w : ℕ) where
  -- the k records from the b-th on pass
  abbrev Rights : List ℕ → ℕ → ℕ → Type 0
  Rights s b k = (j : ℕ) → j < k → record_right w (record_at s (b + j)) ≡ true

  more : (s : List ℕ) (b k : ℕ) → record_right w (record_at s b) ≡ true → Rights s (b + 1) k → Rights s b (suc k)
  more s b k e f zero l = rw (add-zero b) e
  more s b k e f (suc j) l = let g : b + suc j ≡ b + 1 + j = omega arith in rw g (f j (omega arith))

  abbrev faults : ℕ → List ℕ → ℕ → Bool → List ℕ
  faults k s b q = map (λ (x : Record). cond (record_right w x) 0 15) (records_from k s b) ++ (cond q 0 15 ∷ [])

  module _ {A : Type 0} where
    each : (i k : ℕ) (s : List ℕ) (b : ℕ) (q : Bool) (r : Answer A) (a : A) → refuse_first i (faults k s b q) r ≡ good a → Rights s b k × (q ≡ true) × (r ≡ good a)
    unfolding refuse_first records_from
    each i zero s b true r a h = (λ j l. absurd (omega arith), refl, h)
    each i zero s b false r a h = absurd (clash 15 i a h)
    each i (suc k) s b q r a h = go (record_right w (record_at s b)) refl (λ g. each (i + 1) k s (b + 1) q r a g) h
      where
        go : (t : Bool) → record_right w (record_at s b) ≡ t
            → (refuse_first (i + 1) (faults k s (b + 1) q) r ≡ good a → Rights s (b + 1) k × (q ≡ true) × (r ≡ good a))
            → refuse_first i (cond t 0 15 ∷ faults k s (b + 1) q) r ≡ good a → Rights s b (suc k) × (q ≡ true) × (r ≡ good a)
        go true e ih g = let p = ih g in (more s b k e p.0, p.1, p.2)
        go false e ih g = absurd (clash 15 i a g)

    -- a good answer past the structure check
    pub structured : (cs vs rs : List ℕ) (r : Answer A) (a : A) → refuse_first 0 (structure_faults w (block_in (arena cs vs rs))) r ≡ good a → Records w cs vs rs × (r ≡ good a)
    unfolding structure_faults block_in records_in
    structured cs vs rs r a h =
        let n = length rs / record_size in
        let sum = total (map ninth (records_from n rs 0)) in
        let e = each 0 n rs 0 (eqb sum (length (operations cs vs))) r a h in
        (record { right = λ b l. rw (sym (zero-add b)) (e.0 b l); sum = eqb-true sum (length (operations cs vs)) e.1 }, e.2)

  -- the public check's good answer
  pub checked : (cs vs rs : List ℕ) → structure_checked w (arena cs vs rs) ≡ good tt → (within (arena cs vs rs) ≡ true) × Records w cs vs rs
  unfolding structure_checked
  checked cs vs rs h =
      let a = arena cs vs rs in
      let p = passed (not (within a)) 3 0 (refuse_first 0 (structure_faults w (block_in a)) (good tt)) tt h in
      (not-false (within a) p.0, (structured cs vs rs (good tt) tt p.1).0)

pub all_fit : (w : ℕ) (cs vs rs : List ℕ) → w ≤ 8 → Records w cs vs rs → AllFit rs
all_fit w cs vs rs h x b l = record { width = w; room = h; right = x.right b l }

-- ---- admissible operations have opcodes that a good table knows

small : (t cs vs : List ℕ) → length cs ≡ length vs → ((k : ℕ) → k < length (map (op_fault t) (operations cs vs)) → get_or (map (op_fault t) (operations cs vs)) k 0 ≡ 0)
    → (k : ℕ) → k < length cs → get_or cs k 0 < 128
unfolding operations
small t [] vs e f k h = absurd (omega arith)
small t (c ∷ cs) [] e f k h = absurd (omega arith)
small t (c ∷ cs) (v ∷ vs) e f zero h = (admitted t (op c v) (f 0 (omega arith))).code
small t (c ∷ cs) (v ∷ vs) e f (suc k) h = small t cs vs (omega arith) (λ j l. f (suc j) (omega arith)) k (omega arith)

pub apt : (t cs vs : List ℕ) → good_table t ≡ true → length cs ≡ length vs → ◌≡◌ {A = Answer Unit} (refuse_first 0 (map (op_fault t) (operations cs vs)) (good tt)) (good tt) → Apt t cs
apt t cs vs g e h = record { table = table_128 t g; codes = small t cs vs e (no_fault 0 (map (op_fault t) (operations cs vs)) (good tt) tt h).0 }

-- ---- the structure check and the admissible operations as stages

abbrev pub structure_stage : ℕ → Arena → Answer Unit
structure_stage w a = refuse_first 0 (structure_faults w (block_in a)) (good tt)

abbrev pub admissible_stage : List ℕ → Arena → Answer Unit
admissible_stage t a = refuse_first 0 (map (op_fault t) (operations a.codes a.values)) (good tt)
