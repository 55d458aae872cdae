-- Operations read one after the other into two runs. Assumes nothing.
use mathlib.Core.Path.{◌≡◌, refl, sym, ap, ◌∙◌}
use mathlib.Core.Bool.{Bool, true, false, cond, not}
use mathlib.Core.List.{List, [], ◌∷◌, ◌++◌}
use Prim.Native.Nat.{ℕ, zero, suc, ◌+◌, ◌-◌, ◌*◌, ◌/◌, ◌^◌, ◌≤◌, ◌<◌}
use native.Mathlib.Nat.{le_of_suc-le-suc}
use native.Mathlib.Numerals.{add-one}
use native.Mathlib.Omega.{arith}
use borrow.Author.Tests.{ltb-true, ltb-false, lt-ltb, le-ltb, not-false}
use lib.ListN.{length, get_or, take, set}
use lib.Seq.{take-suc-set, length-take-le}
use lib.Dec.{ltb, leb}
use lib.Count.{count_trailing_zeros}
use Rattle.rules.specs.Digits.{le_at}
use Rattle.rules.specs.Answer.{refused, Read, found, row}
use Rattle.rules.specs.Refusals.{no_room₁₃}
use Rattle.rules.specs.Operations.{Op, operations, codes, values, kind_of, assigned, valued, value_right}
use Rattle.rules.specs.Bytes.{least, count_by, count_at, op_at, value_at, ops_at, batch_count_at}
use Rattle.rules.specs.Block.{Head}
use Rattle.rules.proofs.Operations.{op, true_left, codes_back, op_guards, value_guards}
use Rattle.std.specs.Prelude.{Ok}
use Rattle.wire.specs.declared.Item.{Item}
use Rattle.wire.specs.Stages.{IfFound, Staged}
use Rattle.unpacker.specs.Coded.{Coded}
use Rattle.decoder.specs.Stages.{OpsIn, items_at}
use Rattle.wire.proofs.Stages.{onto, onto_then, onto_found, if_then, if_refuse, held, found_by}
use Rattle.rules.proofs.Sizes.{length_codes, length_values}

-- ---- the operations of two runs

pub operations_snoc : (cs vs : List ℕ) (c v : ℕ) → length cs ≡ length vs → operations (cs ++ (c ∷ [])) (vs ++ (v ∷ [])) ≡ operations cs vs ++ (op c v ∷ [])
unfolding operations
operations_snoc [] [] c v h = refl
operations_snoc [] (w ∷ vs) c v h = absurd (omega arith)
operations_snoc (d ∷ cs) [] c v h = absurd (omega arith)
operations_snoc (d ∷ cs) (w ∷ vs) c v h = ap (λ (l : List Op). op d w ∷ l) (operations_snoc cs vs c v (omega arith))

-- ---- the walk

module _ (t s : List ℕ) (n at i : ℕ) where
  pub turn : (cs vs : List ℕ) (c v next : ℕ) → i < n → i < length cs → i < length vs → op_at t s at i ≡ found (op c v) next
      → onto (operations (take (i + 1) (set cs i c)) (take (i + 1) (set vs i v))) (ops_at t s (n - (i + 1)) next (i + 1))
      ≡ onto (operations (take i cs) (take i vs)) (ops_at t s (n - i) at i)
  unfolding row
  turn cs vs c v next hn hc hv h =
      let e : n - i ≡ suc (n - (i + 1)) = omega arith in
      let f : length (take i cs) ≡ length (take i vs) = length-take-le i cs (omega arith) ∙ sym (length-take-le i vs (omega arith)) in
      rw (add-one i, take-suc-set cs i c hc, take-suc-set vs i v hv, operations_snoc (take i cs) (take i vs) c v f, ← add-one i, e, h)
      (sym (onto_then (operations (take i cs) (take i vs)) (op c v) (ops_at t s (n - (i + 1)) next (i + 1))))

  pub stop : (xs : List Op) (k p : ℕ) → i < n → op_at t s at i ≡ refused k p → onto xs (ops_at t s (n - i) at i) ≡ refused k p
  unfolding row
  stop xs k p hn h = let e : n - i ≡ suc (n - (i + 1)) = omega arith in rw (e, h)

  pub done : (xs : List Op) → n ≤ i → onto xs (ops_at t s (n - i) at i) ≡ found xs at
  unfolding row
  done xs h = let e : n - i ≡ 0 = omega arith in rw e (onto_found xs at)

-- ---- what is found

-- an operation has an opcode, and reading goes on
abbrev One : ℕ → Op → ℕ → Type 0
One at x next = (x.code < 128) × (at ≤ next)

value_found : (t s : List ℕ) (at i c : ℕ) → c < 128 → IfFound (One at) (value_at t s at i c)
value_found t s at i c h =
    rw (value_guards t s at i c) (if_refuse _ (ltb (length s) (at + 9)) 2 at _ (λ _. if_refuse _ (not (value_right t _)) 17 i _ (λ _. (h, omega arith))))

op_found : (t s : List ℕ) (at i : ℕ) → IfFound (One at) (op_at t s at i)
unfolding assigned
op_found t s at i =
    let c = get_or s at 0 in
    rw (op_guards t s at i)
    (if_refuse _ (leb (length s) at) 2 at _ (λ _. if_refuse _ (not (assigned t c)) 4 i _ (λ a.
    let h : c < 128 = ltb-true c 128 (true_left (ltb c 128) (ltb (kind_of t c) 3) (not-false (assigned t c) a)) in
    kind (valued t c) (value_at t s at i c) (found (op c 0) (at + 1)) (value_found t s at i c h) (h, omega arith))))
  where
    kind : (b : Bool) (x y : Read Op) → IfFound (One at) x → IfFound (One at) y → IfFound (One at) (cond b x y)
    kind true x y p q = p
    kind false x y p q = q

one_more : (c : ℕ) (cs : List ℕ) → c < 128 → Coded cs → Coded (c ∷ cs)
one_more c cs h f zero l = h
one_more c cs h f (suc k) l = f k (le_of_suc-le-suc l)

-- n operations
ops_found : (t s : List ℕ) (n at i : ℕ) → IfFound (λ (xs : List Op) (next : ℕ). (length xs ≡ n) × Coded (codes xs) × (at ≤ next)) (ops_at t s n at i)
unfolding row codes
ops_found t s zero at i = (refl, λ k l. absurd (omega arith), omega arith)
ops_found t s (suc n) at i =
    if_then _ (op_at t s at i) _ (λ x next e. if_then _ (ops_at t s n next (i + 1)) _ (λ xs end f.
    let o = held _ (op_at t s at i) x next e (op_found t s at i) in
    let p = held _ (ops_at t s n next (i + 1)) xs end f (ops_found t s n next (i + 1)) in
    (ap suc p.0, one_more x.code (codes xs) o.0 p.1, omega (arith, o.1, p.2))))

-- the count
pub count_on : (s : List ℕ) (at : ℕ) → IfFound (λ (n next : ℕ). at ≤ next) (count_at s at)
unfolding count_at count_by
count_on s at =
    let t = count_trailing_zeros 8 (get_or s at 0) in
    let v = le_at (t + 1) s at / 2 ^ (t + 1) in
    if_refuse _ (leb (length s) at) 2 at _ (λ _. if_refuse _ (ltb 2 t) 3 0 _ (λ _. if_refuse _ (ltb (length s) (at + t + 1)) 2 at _ (λ _. if_refuse _ (ltb v (least t)) 3 0 _ (λ _. if_refuse _ (ltb 65535 v) 3 0 _ (λ _. omega arith)))))

-- five bytes for each batch
batches_found : (s : List ℕ) (at : ℕ) → IfFound (λ (k next : ℕ). (next + 5 * k ≤ length s) × (at ≤ next)) (batch_count_at s at)
unfolding batch_count_at
batches_found s at =
    if_refuse _ (ltb (length s) (at + 4)) 2 at _ (λ a. if_refuse _ (ltb ((length s - (at + 4)) / 5) (le_at 4 s at)) 5 0 _ (λ b. if_refuse _ (ltb 16384 (le_at 4 s at)) 3 0 _ (λ _.
    (omega (arith, ltb-false (length s) (at + 4) a, ltb-false ((length s - (at + 4)) / 5) (le_at 4 s at) b), omega arith))))

-- the ways that items 2 and 3 end
module _ (t s : List ℕ) (n at room : ℕ) where
  pub items_lost : (m p : ℕ) → ops_at t s n at 0 ≡ refused m p → items_at t s n at room ≡ refused m p
  unfolding items_at
  items_lost m p e = rw e

  module _ (xs : List Op) (a₂ : ℕ) (e : ops_at t s n at 0 ≡ found xs a₂) where
    pub items_uncounted : (m p : ℕ) → batch_count_at s a₂ ≡ refused m p → items_at t s n at room ≡ refused m p
    unfolding items_at
    items_uncounted m p f = rw (e, f)

    pub items_13 : (k a₃ : ℕ) → batch_count_at s a₂ ≡ found k a₃ → room < k → items_at t s n at room ≡ refused no_room₁₃ 0
    unfolding items_at
    items_13 k a₃ f h = rw (e, f, lt-ltb room k h)

    pub items_good : (k a₃ : ℕ) → batch_count_at s a₂ ≡ found k a₃ → k ≤ room → items_at t s n at room ≡ found (record { ops = xs; batches = k }) a₃
    unfolding items_at
    items_good k a₃ f h = rw (e, f, le-ltb room k h)

pub record Items (s : List ℕ) (n at room : ℕ) (h : Head) (next : ℕ) : Type 0 where
  pub many : length h.ops ≡ n
  pub coded : Coded (codes h.ops)
  pub on : at ≤ next
  pub bytes : next + 5 * h.batches ≤ length s
  pub records : h.batches ≤ room

pub items_found : (t s : List ℕ) (n at room : ℕ) → IfFound (Items s n at room) (items_at t s n at room)
unfolding items_at
items_found t s n at room =
    if_then _ (ops_at t s n at 0) _ (λ xs a₂ e. if_then _ (batch_count_at s a₂) _ (λ k a₃ f. if_refuse _ (ltb room k) 13 0 _ (λ b.
    let p = held _ (ops_at t s n at 0) xs a₂ e (ops_found t s n at 0) in
    let q = held _ (batch_count_at s a₂) k a₃ f (batches_found s a₂) in
    record { many = p.0; coded = p.1; on = omega (arith, p.2, q.1); bytes = q.0; records = ltb-false room k b })))

-- ---- the operations lie in two runs, of which the first n elements are lent to the next stage

pub record ItemsIn (t s : List ℕ) (n at room : ℕ) (cs vs : List ℕ) (k next : ℕ) : Type 0 where
  pub is : items_at t s n at room ≡ found (record { ops = operations (take n cs) (take n vs); batches = k }) next
  pub ops : OpsIn cs vs (operations (take n cs) (take n vs))
  pub many : length (operations (take n cs) (take n vs)) ≡ n
  pub even : length (take n cs) ≡ length (take n vs)
  pub coded : Coded (take n cs)
  pub on : at ≤ next
  pub bytes : next + 5 * k ≤ length s
  pub records : k ≤ room

module _ (t s : List ℕ) (n at room : ℕ) (cs vs : List ℕ) (k next : ℕ) where
  lies : (h : Head) → items_at t s n at room ≡ found h next → h.batches ≡ k → Items s n at room h next → OpsIn cs vs h.ops → ItemsIn t s n at room cs vs k next
  lies h i b f p =
      let c : take n cs ≡ codes h.ops = rw f.many at p.0 in
      let v : take n vs ≡ values h.ops = rw f.many at p.1 in
      let e : operations (take n cs) (take n vs) ≡ h.ops = rw (c, v) (codes_back h.ops) in
      record {
        is = i ∙ rw (e, ← b);
        ops = rw e p;
        many = rw e f.many;
        even = ap length c ∙ length_codes h.ops ∙ sym (ap length v ∙ length_values h.ops);
        coded = rw c f.coded;
        on = f.on;
        bytes = rw (← b) f.bytes;
        records = rw (← b) f.records;
      }

pub items_in : (t s : List ℕ) (n at room : ℕ) (cs vs : List ℕ) {i : Item ℕ} → Staged (λ (h : Head). h.batches) (λ (h : Head) (next : ℕ). OpsIn cs vs h.ops) (items_at t s n at room) (Ok i)
    → ItemsIn t s n at room cs vs i.item i.next
items_in t s n at room cs vs {i} w =
    let d = items_at t s n at room in
    let g = found_by w refl in
    lies t s n at room cs vs i.item i.next g.item g.is g.number (held _ d g.item i.next g.is (items_found t s n at room)) g.holds
