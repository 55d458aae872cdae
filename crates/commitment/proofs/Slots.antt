-- The walk over a group's operations that only says whether all is right with them. Assumes nothing.
use mathlib.Core.Path.{◌≡◌, refl, sym, ap, ◌∙◌}
use mathlib.Core.Bool.{Bool, true, false, cond, ◌&&◌}
use mathlib.Core.List.{List, ◌∷◌}
use Prim.Native.Nat.{ℕ, zero, suc, ◌+◌, ◌-◌, ◌*◌, ◌^◌, ◌≤◌, ◌<◌}
use native.Mathlib.Nat.{mul_assoc, mul_comm, mul-le-mul_right, pow-suc, pow-le-pow_right}
use native.Mathlib.Omega.{arith}
use borrow.Author.Tests.{lt-ltb, ltb-true, ne_eqb, eqb-true}
use lib.ListN.{length, get_or, drop}
use lib.Dec.{ltb, eqb}
use Rattle.std.specs.Prelude.{Option, None, Some, option_and_then}
use Rattle.std.proofs.lemmas.List.{get_or_past, get_or_default}
use Rattle.rules.specs.Operations.{Op, operations, kind_of, has_immediate, field, assigned, valued, value_right, code_fault, value_fault, op_fault}
use Rattle.rules.specs.Record.{codes_number, immediates}
use Rattle.rules.specs.Checks.{begins}
use Rattle.rules.proofs.Digits.{split}
use Rattle.rules.proofs.Operations.{op, operations_turn, operations_end}
use Rattle.operation.proofs.Scan as scan
use Rattle.checks.specs.Batch.{span}
use Rattle.commitment.specs.Walk.{slot_after, slots_after, admissible_from}
use Rattle.checks.proofs.Groups.{span_turn, span_none}
use Rattle.commitment.proofs.Numbers.{from_on, number_turn, number_none, agrees, all_agree}

-- ---- slots

-- the group after an operation's immediate
abbrev pub after_op : List ℕ → Op → List ℕ → ℕ → Option ℕ
after_op t x ns j = slot_after (kind_of t x.code) x.value ns j

module _ (t ns : List ℕ) (c v j : ℕ) where
  -- none where the table has no kind
  pub no_kind : length t ≤ c → after_op t (op c v) ns j ≡ None
  unfolding slot_after
  no_kind h = rw (get_or_past t c 3 h)

  pub of_kind : (k : ℕ) → c < length t → k ≡ get_or t c k → after_op t (op c v) ns j ≡ slot_after k v ns j
  of_kind k h e = rw (get_or_default t c 3 k h, ← e)

-- the walk came to the i-th operation, and its immediate would belong in the j-th group
module _ (t cs vs ns : List ℕ) (e : length cs ≡ length vs) (i j : ℕ) where
  abbrev slots : Option ℕ
  slots = slots_after t (from_on cs vs i) ns j

  pub slots_done : length cs ≤ i → Some j ≡ slots
  unfolding slots_after
  slots_done h = rw (operations_end cs vs i h)

  module _ (h : i < length cs) where
    -- an opcode without a kind
    pub slots_over : length t ≤ get_or cs i 0 → None ≡ slots
    unfolding slots_after
    slots_over l = rw (operations_turn cs vs i h (omega arith), no_kind t ns (get_or cs i 0) (get_or vs i 0) j l)

    module _ (k : ℕ) (l : get_or cs i 0 < length t) (d : k ≡ get_or t (get_or cs i 0) k) where
      pub slots_stop : None ≡ slot_after k (get_or vs i 0) ns j → None ≡ slots
      unfolding slots_after
      slots_stop n = rw (operations_turn cs vs i h (omega arith), of_kind t ns (get_or cs i 0) (get_or vs i 0) j k l d, ← n)

      pub slots_turn : (m : ℕ) → Some m ≡ slot_after k (get_or vs i 0) ns j → slots_after t (from_on cs vs (i + 1)) ns m ≡ slots
      unfolding slots_after
      slots_turn m n = rw (operations_turn cs vs i h (omega arith), of_kind t ns (get_or cs i 0) (get_or vs i 0) j k l d, ← n)

-- ---- the number so far, and what the opcodes ahead add to it: n is the number, p the next opcode's unit

pub unit_next : (p i : ℕ) → p ≡ 128 ^ i → p * 128 ≡ 128 ^ (i + 1)
unit_next p i e = let d : i + 1 ≡ suc i = omega arith in rw (d, pow-suc 128 i, e)

pub unit_small : (p i : ℕ) → p ≡ 128 ^ i → i ≤ 8 → p ≤ 72057594037927936
unit_small p i e h = omega (arith, pow-le-pow_right {n = 128} (omega arith) {i = i} {j = 8} h)

pub product_small : (c p : ℕ) → c < 128 → c * p ≤ 127 * p
product_small c p h = mul-le-mul_right p (omega arith)

module _ (cs vs : List ℕ) (e : length cs ≡ length vs) (i n p s : ℕ) (h : n + p * codes_number (from_on cs vs i) ≡ s) where
  pub sum_turn : i < length cs → (c : ℕ) → c ≡ get_or cs i 0 → n + c * p + p * 128 * codes_number (from_on cs vs (i + 1)) ≡ s
  sum_turn l c d =
      let r = codes_number (from_on cs vs (i + 1)) in
      let m : n + c * p + p * 128 * r ≡ n + p * (c + 128 * r) = omega (arith, mul_assoc p 128 r, mul_comm c p) in
      m ∙ ap (λ (k : ℕ). n + p * k) (ap (λ (k : ℕ). k + 128 * r) d ∙ sym (number_turn cs vs i e l)) ∙ h

  pub sum_done : length cs ≤ i → n ≡ s
  sum_done l = let z : n ≡ n + p * 0 = omega arith in z ∙ ap (λ (k : ℕ). n + p * k) (sym (number_none cs vs i l)) ∙ h

-- ---- what a walk with no fault says of the operations

-- the group after an operation's immediate is where those of the operations after it belong, and it is admissible
record Follows (t : List ℕ) (x : Op) (ns : List ℕ) (j k : ℕ) : Type 0 where
  pub admitted : op_fault t x ≡ 0
  pub below : k ≤ 8
  pub count : (xs : List Op) → k + length (immediates t xs) ≡ j + length (immediates t (x ∷ xs))
  pub agree : (xs : List Op) → begins (drop k ns) (immediates t xs) ≡ begins (drop j ns) (immediates t (x ∷ xs))

module _ (t : List ℕ) (x : Op) (n : length t ≡ 128) where
  -- an opcode of these kinds is under 128
  has_code : (k : ℕ) → kind_of t x.code ≡ k → k < 3 → x.code < 128
  has_code k e h = split x.code 128 (λ l. l) (λ l. absurd (omega (arith, get_or_past t x.code 3 (omega arith))))

  -- of kind 0
  admits_plain : kind_of t x.code ≡ 0 → x.value ≡ 0 → op_fault t x ≡ 0
  unfolding op_fault code_fault value_fault assigned value_right valued
  admits_plain k v = rw (lt-ltb x.code 128 (has_code 0 k (omega arith)), k, v)

  -- of kinds 1 and 2
  admits_valued : (k : ℕ) → kind_of t x.code ≡ k → 0 < k → k < 3 → x.value < field → op_fault t x ≡ 0
  unfolding op_fault code_fault value_fault assigned value_right valued
  admits_valued k e p q v = rw (lt-ltb x.code 128 (has_code k e q), e, lt-ltb k 3 q, ne_eqb k 0 (λ z. absurd (omega arith)), lt-ltb x.value field v)

  module _ (ns : List ℕ) (j : ℕ) (h : j ≤ 8) where
    follows_none : op_fault t x ≡ 0 → eqb (kind_of t x.code) 1 ≡ false → Follows t x ns j j
    unfolding immediates has_immediate
    follows_none a e = record { admitted = a; below = h; count = λ xs. rw e; agree = λ xs. rw e }

    follows_placed : op_fault t x ≡ 0 → eqb (kind_of t x.code) 1 ≡ true → j < 8 → length ns ≡ 8 → get_or ns j 0 ≡ x.value → Follows t x ns j (j + 1)
    unfolding immediates has_immediate
    follows_placed a e l m v =
        record {
          admitted = a;
          below = omega arith;
          count = λ xs. rw e (omega arith);
          agree = λ xs. rw e (agrees ns j x.value (immediates t xs) (omega arith) v);
        }

    -- kind by kind, test by test
    module _ (k : ℕ) where
      plain_after : kind_of t x.code ≡ 0 → (b : Bool) → eqb x.value 0 ≡ b → cond b (Some j) None ≡ Some k → Follows t x ns j k
      plain_after e true d s = let q : j ≡ k = cc in rw (← q) (follows_none (admits_plain e (eqb-true x.value 0 d)) (rw e))
      plain_after e false d s = cc

      carried_after : kind_of t x.code ≡ 2 → (b : Bool) → ltb x.value field ≡ b → cond b (Some j) None ≡ Some k → Follows t x ns j k
      carried_after e true d s = let q : j ≡ k = cc in rw (← q) (follows_none (admits_valued 2 e (omega arith) (omega arith) (ltb-true x.value field d)) (rw e))
      carried_after e false d s = cc

      placed_after : kind_of t x.code ≡ 1 → length ns ≡ 8 → (a b c : Bool) → ltb x.value field ≡ a → ltb j 8 ≡ b → eqb (get_or ns j 0) x.value ≡ c
          → cond (a && (b && c)) (Some (j + 1)) None ≡ Some k → Follows t x ns j k
      placed_after e m true true true d f g s =
          let q : j + 1 ≡ k = cc in
          rw (← q) (follows_placed (admits_valued 1 e (omega arith) (omega arith) (ltb-true x.value field d)) (rw e) (ltb-true j 8 f) m (eqb-true (get_or ns j 0) x.value g))
      placed_after e m true true false d f g s = cc
      placed_after e m true false c d f g s = cc
      placed_after e m false b c d f g s = cc

      by_kind : length ns ≡ 8 → (i : ℕ) → kind_of t x.code ≡ i → slot_after i x.value ns j ≡ Some k → Follows t x ns j k
      unfolding slot_after
      by_kind m zero e s = plain_after e (eqb x.value 0) refl s
      by_kind m (suc zero) e s = placed_after e m (ltb x.value field) (ltb j 8) (eqb (get_or ns j 0) x.value) refl refl refl s
      by_kind m (suc (suc zero)) e s = carried_after e (ltb x.value field) refl s
      by_kind m (suc (suc (suc i))) e s = cc

-- where something came of two steps, something came of the first
gone_on : (o : Option ℕ) (f : ℕ → Option ℕ) (k : ℕ) → option_and_then f o ≡ Some k → (q : ℕ) × (o ≡ Some q) × (f q ≡ Some k)
gone_on None f k h = cc
gone_on (Some q) f k h = (q, refl, h)

module _ (t cs vs ns : List ℕ) (n : length t ≡ 128) (e : length cs ≡ length vs) (z : length ns ≡ 8) where
  -- the operations from one index up to another, their immediates in the groups from the j-th on and under the k-th
  pub record Right (i to j k : ℕ) : Type 0 where
    pub scan : admissible_from t cs vs to ≡ admissible_from t cs vs i
    pub next : k ≡ j + length (immediates t (span (operations cs vs) i to))
    pub agree : begins (drop j ns) (immediates t (span (operations cs vs) i to)) ≡ true

  right_none : (i to j k : ℕ) → i ≡ to → slots_after t (span (operations cs vs) i to) ns j ≡ Some k → Right i to j k
  unfolding slots_after immediates
  right_none i to j k h s =
      let none = span_none i to (operations cs vs) (omega arith) in
      let d : Some j ≡ Some k = rw none at s in
      let q : j ≡ k = cc in
      record { scan = ap (admissible_from t cs vs) (sym h); next = rw none (omega arith); agree = rw none (all_agree (drop j ns)) }

  right : (m i to j k : ℕ) → i + m ≡ to → to ≤ length cs → j ≤ 8 → slots_after t (span (operations cs vs) i to) ns j ≡ Some k → Right i to j k
  unfolding slots_after
  right zero i to j k h l b s = right_none i to j k (omega arith) s
  right (suc m) i to j k h l b s =
      let x = op (get_or cs i 0) (get_or vs i 0) in
      let xs = span (operations cs vs) (i + 1) to in
      let turned = span_turn i to cs vs (omega arith) l e in
      let w = gone_on (after_op t x ns j) (slots_after t xs ns) k (rw turned at s) in
      let q = w.0 in
      let f = by_kind t x n ns j b q z (kind_of t x.code) refl w.1 in
      let r = right m (i + 1) to q k (omega arith) l f.below w.2 in
      record {
        scan = r.scan ∙ scan.turn t cs vs i (omega arith) (omega arith) f.admitted;
        next = r.next ∙ f.count xs ∙ ap (λ (ys : List Op). j + length (immediates t ys)) (sym turned);
        agree = ap (λ (ys : List Op). begins (drop j ns) (immediates t ys)) turned ∙ sym (f.agree xs) ∙ r.agree;
      }

  pub all_right : (i to j k : ℕ) → i ≤ to → to ≤ length cs → j ≤ 8 → slots_after t (span (operations cs vs) i to) ns j ≡ Some k → Right i to j k
  all_right i to j k h l b s = right (to - i) i to j k (omega arith) l b s
