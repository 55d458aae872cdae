-- Laws of operations and their table. Assumes nothing.
use mathlib.Core.Path.{◌≡◌, refl, sym, ap}
use mathlib.Core.Bool.{Bool, true, false, cond, not, ◌&&◌}
use mathlib.Core.List.{List, [], ◌∷◌}
use Prim.Native.Nat.{ℕ, zero, suc, ◌+◌, ◌≤◌, ◌<◌}
use native.Mathlib.Nat.{le_of_suc-le-suc, not-suc-le-zero}
use native.Mathlib.Numerals.{add-one}
use native.Mathlib.Omega.{arith}
use borrow.Author.Tests.{ltb-true, eqb-true}
use lib.ListN.{length, get_or, take, drop, drop_of_length-le}
use lib.Seq.{drop-cons}
use lib.Dec.{leb, ltb, eqb}
use Rattle.rules.specs.Lists.{every}
use Rattle.rules.specs.Operations.{Op, operations, codes, values, kind_of, good_table, noop, assigned, valued, has_immediate, field, value_right, admissible, code_fault, value_fault, op_fault}
use Rattle.rules.specs.Answer.{found, refuse}
use Rattle.rules.specs.Digits.{le_at}
use Rattle.rules.specs.Bytes.{value_at, op_at}
use Rattle.rules.specs.Record.{part}
use Rattle.rules.proofs.Answer.{first_guard}

-- ---- tests

pub true_left : (a b : Bool) → (a && b) ≡ true → a ≡ true
true_left true b h = refl
true_left false b h = h

pub true_right : (a b : Bool) → (a && b) ≡ true → b ≡ true
true_right true b h = h
true_right false b h = let y : ◌≡◌ {A = ℕ} 0 1 = cc in absurd (omega arith)

pub true_both : (a b : Bool) → a ≡ true → b ≡ true → (a && b) ≡ true
true_both a b h k = rw (h, k)

pub none_left : (a : Bool) → a ≡ (a && true)
none_left true = refl
none_left false = refl

-- past the end of a list every test passes
module _ {A : Type 0} (d : A) (test : A → Bool) (xs : List A) (i : ℕ) where
  pub every_end : length xs ≤ i → every test (drop i xs) ≡ true
  unfolding every
  every_end h = rw (drop_of_length-le xs {i = i} h)

-- ---- the table

-- within the table an opcode's kind is what stands there
pub kind_at : (t : List ℕ) (c : ℕ) → c < length t → kind_of t c ≡ get_or t c 0
kind_at [] c h = absurd (not-suc-le-zero h)
kind_at (k ∷ t) zero h = refl
kind_at (k ∷ t) (suc c) h = kind_at t c (le_of_suc-le-suc h)

pub table_128 : (t : List ℕ) → good_table t ≡ true → length t ≡ 128
unfolding good_table
table_128 t h = eqb-true (length t) 128 (true_left (eqb (length t) 128) (eqb (kind_of t 0) 0 && every (λ (k : ℕ). leb k 3) t) h)

pub noop_kind : (t : List ℕ) → good_table t ≡ true → kind_of t 0 ≡ 0
unfolding good_table
noop_kind t h = eqb-true (kind_of t 0) 0 (true_left (eqb (kind_of t 0) 0) (every (λ (k : ℕ). leb k 3) t) (true_right (eqb (length t) 128) (eqb (kind_of t 0) 0 && every (λ (k : ℕ). leb k 3) t) h))

pub noop_plain : (t : List ℕ) → good_table t ≡ true → has_immediate t noop ≡ false
unfolding has_immediate noop
noop_plain t h = rw (noop_kind t h)

-- ---- the operations of two runs

abbrev pub op : ℕ → ℕ → Op
op c v = record { code = c; value = v }

pub length_operations : (cs vs : List ℕ) → length cs ≡ length vs → length (operations cs vs) ≡ length cs
unfolding operations
length_operations [] vs h = refl
length_operations (c ∷ cs) [] h = absurd (omega arith)
length_operations (c ∷ cs) (v ∷ vs) h = ap suc (length_operations cs vs (omega arith))

pub operations_turn : (cs vs : List ℕ) (i : ℕ) → i < length cs → i < length vs
    → operations (drop i cs) (drop i vs) ≡ op (get_or cs i 0) (get_or vs i 0) ∷ operations (drop (i + 1) cs) (drop (i + 1) vs)
unfolding operations
operations_turn cs vs i h k = rw (add-one i, drop-cons cs i 0 h, drop-cons vs i 0 k)

pub operations_end : (cs vs : List ℕ) (i : ℕ) → length cs ≤ i → operations (drop i cs) (drop i vs) ≡ []
unfolding operations
operations_end cs vs i h = rw (drop_of_length-le cs {i = i} h)

pub codes_back : (xs : List Op) → operations (codes xs) (values xs) ≡ xs
unfolding operations codes values
codes_back [] = refl
codes_back (x ∷ xs) = ap (λ (l : List Op). x ∷ l) (codes_back xs)

-- ---- admissible

pub record Admissible (t : List ℕ) (x : Op) : Type 0 where
  pub code : x.code < 128
  pub kind : kind_of t x.code < 3
  pub plain : kind_of t x.code ≡ 0 → x.value ≡ 0
  pub small : x.value < field

value_plain : (t : List ℕ) (x : Op) → value_right t x ≡ true → kind_of t x.code ≡ 0 → x.value ≡ 0
unfolding value_right valued
value_plain t x h e = eqb-true x.value 0 (rw e at h)

value_small : (t : List ℕ) (x : Op) → value_right t x ≡ true → x.value < field
unfolding value_right
value_small t x h = go (valued t x.code) h
  where
    go : (b : Bool) → cond b (ltb x.value field) (eqb x.value 0) ≡ true → x.value < field
    go true k = ltb-true x.value field k
    go false k = omega (arith, eqb-true x.value 0 k)

pub to_admissible : (t : List ℕ) (x : Op) → admissible t x ≡ true → Admissible t x
unfolding admissible assigned
to_admissible t x h =
    let a = true_left (ltb x.code 128 && ltb (kind_of t x.code) 3) (value_right t x) h in
    let v = true_right (ltb x.code 128 && ltb (kind_of t x.code) 3) (value_right t x) h in
    record {
      code = ltb-true x.code 128 (true_left (ltb x.code 128) (ltb (kind_of t x.code) 3) a);
      kind = ltb-true (kind_of t x.code) 3 (true_right (ltb x.code 128) (ltb (kind_of t x.code) 3) a);
      plain = value_plain t x v;
      small = value_small t x v;
    }

pub fault_none : (t : List ℕ) (x : Op) → admissible t x ≡ true → op_fault t x ≡ 0
unfolding op_fault code_fault value_fault admissible
fault_none t x h = rw (true_left (assigned t x.code) (value_right t x) h, true_right (assigned t x.code) (value_right t x) h)

-- the two faults, however their tests are put: each case is computed
code_fault_lem : (t : List ℕ) (c : ℕ) → code_fault t c ≡ cond (assigned t c) 0 4
unfolding code_fault assigned
code_fault_lem t c = go (ltb c 128) (ltb (kind_of t c) 3) refl refl
  where
    go : (a k : Bool) → ltb c 128 ≡ a → ltb (kind_of t c) 3 ≡ k → code_fault t c ≡ cond (assigned t c) 0 4
    go true true p q = simp (p, q)
    go true false p q = simp (p, q)
    go false k p q = simp p

value_fault_lem : (t : List ℕ) (x : Op) → value_fault t x ≡ cond (value_right t x) 0 17
unfolding value_fault
value_fault_lem t x = go (value_right t x) (valued t x.code) refl refl
  where
    go : (v k : Bool) → value_right t x ≡ v → valued t x.code ≡ k → value_fault t x ≡ cond (value_right t x) 0 17
    go true k p q = simp p
    go false true p q = simp (p, q)
    go false false p q = simp (p, q)

pub none_fault : (t : List ℕ) (x : Op) → op_fault t x ≡ 0 → admissible t x ≡ true
unfolding op_fault admissible
none_fault t x h = go (assigned t x.code) (value_right t x) refl refl
  where
    go : (a v : Bool) → assigned t x.code ≡ a → value_right t x ≡ v → (assigned t x.code && value_right t x) ≡ true
    go true true p q = simp (p, q)
    go true false p q = let e : op_fault t x ≡ 17 = simp (code_fault_lem, value_fault_lem, p, q) in absurd (omega arith)
    go false v p q = let e : op_fault t x ≡ 4 = simp (code_fault_lem, p) in absurd (omega arith)

pub admitted : (t : List ℕ) (x : Op) → op_fault t x ≡ 0 → Admissible t x
admitted t x h = to_admissible t x (none_fault t x h)

-- ---- an operation in bytes, guard by guard

module _ (t s : List ℕ) (at i : ℕ) where
  pub op_guards : op_at t s at i
      ≡ refuse (leb (length s) at) 2 at
      (refuse (not (assigned t (get_or s at 0))) 4 i
      (cond (valued t (get_or s at 0)) (value_at t s at i (get_or s at 0)) (found (record { code = get_or s at 0; value = 0 }) (at + 1))))
  unfolding op_at
  op_guards = rw (code_fault_lem t (get_or s at 0), first_guard (assigned t (get_or s at 0)) 3)

  pub value_guards : (c : ℕ) → value_at t s at i c
      ≡ refuse (ltb (length s) (at + 9)) 2 at
      (refuse (not (value_right t (record { code = c; value = le_at 8 s (at + 1) }))) 17 i
      (found (record { code = c; value = le_at 8 s (at + 1) }) (at + 9)))
  unfolding value_at
  value_guards c = let x : Op = record { code = c; value = le_at 8 s (at + 1) } in rw (value_fault_lem t x, first_guard (value_right t x) 16)

pub value_tested : (t : List ℕ) (x : Op) → valued t x.code ≡ true → value_right t x ≡ ltb x.value field
unfolding value_right
value_tested t x h = rw h

-- ---- the operations of two runs, and of parts of them

pub codes_operations : (cs vs : List ℕ) → length cs ≡ length vs → codes (operations cs vs) ≡ cs
unfolding operations codes
codes_operations [] vs h = refl
codes_operations (c ∷ cs) [] h = absurd (omega arith)
codes_operations (c ∷ cs) (v ∷ vs) h = ap (λ (l : List ℕ). c ∷ l) (codes_operations cs vs (omega arith))

pub values_operations : (cs vs : List ℕ) → length cs ≡ length vs → values (operations cs vs) ≡ vs
unfolding operations values
values_operations [] [] h = refl
values_operations [] (v ∷ vs) h = absurd (omega arith)
values_operations (c ∷ cs) [] h = absurd (omega arith)
values_operations (c ∷ cs) (v ∷ vs) h = ap (λ (l : List ℕ). v ∷ l) (values_operations cs vs (omega arith))

nothing : (cs : List ℕ) → operations cs [] ≡ []
unfolding operations
nothing [] = refl
nothing (c ∷ cs) = refl

pub drop_operations : (at : ℕ) (cs vs : List ℕ) → drop at (operations cs vs) ≡ operations (drop at cs) (drop at vs)
unfolding operations
drop_operations zero cs vs = refl
drop_operations (suc at) [] vs = refl
drop_operations (suc at) (c ∷ cs) [] = sym (nothing (drop at cs))
drop_operations (suc at) (c ∷ cs) (v ∷ vs) = drop_operations at cs vs

take_operations : (n : ℕ) (cs vs : List ℕ) → take n (operations cs vs) ≡ operations (take n cs) (take n vs)
unfolding operations
take_operations zero cs vs = refl
take_operations (suc n) [] vs = refl
take_operations (suc n) (c ∷ cs) [] = refl
take_operations (suc n) (c ∷ cs) (v ∷ vs) = ap (λ (l : List Op). op c v ∷ l) (take_operations n cs vs)

-- the operations of parts of two runs
pub part_operations : (n at : ℕ) (cs vs : List ℕ) → part n (operations cs vs) at ≡ operations (take n (drop at cs)) (take n (drop at vs))
part_operations n at cs vs = rw (drop_operations at cs vs) (take_operations n (drop at cs) (drop at vs))
