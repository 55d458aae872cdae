-- The room that a head names is enough. Assumes nothing.
use mathlib.Core.Path.{◌≡◌, refl, sym, ap, ◌∙◌}
use mathlib.Core.Bool.{Bool, true, false, cond, not, ◌&&◌}
use mathlib.Core.List.{List}
use Prim.Native.Nat.{ℕ, zero, suc, ◌+◌, ◌-◌, ◌/◌, ◌^◌, ◌≤◌}
use native.Mathlib.Omega.{arith}
use borrow.Author.Tests.{le-leb, le-ltb}
use lib.ListN.{length, get_or}
use lib.Dec.{leb, ltb}
use lib.Count.{count_trailing_zeros}
use Rattle.rules.specs.Digits.{le_at}
use Rattle.rules.specs.Answer.{Answer, good, refused, refuse, Read, found, ◌then◌, row}
use Rattle.rules.specs.Refusals.{no_room₁₃}
use Rattle.rules.specs.Operations.{good_table, assigned, valued, value_right}
use Rattle.rules.specs.Bytes.{least, count_by, count_at, value_at, op_at, ops_at, batch_count_at}
use Rattle.rules.specs.Block.{Room, Head, head_at, block_at}
use Rattle.rules.specs.Functions.{most, decoded, headed}
use Rattle.rules.proofs.Answer.{passed, came, item}
use Rattle.wire.proofs.Stages.{held}
use Rattle.head.specs.Enough.{Enough}
use Rattle.head.proofs.Heads.{ops_many, few_operations, few_batches}
use Rattle.rules.proofs.Operations.{op_guards, value_guards}

-- ---- a head that was found is found with less room, if it is enough

module _ (t s : List ℕ) (at : ℕ) (room : Room) (h : Head) (next : ℕ) (e : head_at t s at most ≡ found h next) where
  with_room : length h.ops ≤ room.codes → length h.ops ≤ room.values → h.batches ≤ room.records → head_at t s at room ≡ found h next
  unfolding head_at
  with_room c v r =
      let a = came (count_at s at) _ _ e in
      let g = passed (not (leb a.got 65535 && leb a.got 65535)) 13 0 _ _ a.rest in
      let o = came (ops_at t s a.got a.to 0) _ _ g.1 in
      let b = came (batch_count_at s o.to) _ _ o.rest in
      let k = passed (ltb 16384 b.got) 13 0 _ _ b.rest in
      let x : record { ops = o.got; batches = b.got } ≡ h = item _ h b.to next k.1 in
      let l = held _ (ops_at t s a.got a.to 0) o.got o.to o.first (ops_many t s a.got a.to 0) in
      let n : length h.ops ≡ a.got = sym (ap (λ (y : Head). length y.ops) x) ∙ l in
      let m : h.batches ≡ b.got = sym (ap (λ (y : Head). y.batches) x) in
      rw (a.first, le-leb a.got room.codes (omega arith), le-leb a.got room.values (omega arith), o.first, b.first, le-ltb room.records b.got (omega arith)) k.1

-- ---- refusals handed on

module _ {A B : Type 0} where
  handed : (n p m q : ℕ) → ◌≡◌ {A = Answer A} (refused n p) (refused m q) → ◌≡◌ {A = Answer B} (refused n p) (refused m q)
  handed n p m q h = let e : n ≡ m = cc in let f : p ≡ q = cc in rw (e, f)

  guard : (b : Bool) (n p m q : ℕ) (x : Answer A) (y : Answer B) → (x ≡ refused m q → y ≡ refused m q) → refuse b n p x ≡ refused m q → refuse b n p y ≡ refused m q
  guard true n p m q x y f h = handed n p m q h
  guard false n p m q x y f h = f h

  stage : (r : Read A) (f : A → ℕ → Answer B) (m q : ℕ) → r ≡ refused m q → (r then f) ≡ refused m q
  stage r f m q h = rw h

-- ---- 13 is not among them

abbrev Not13 : {A : Type 0} → Answer A → Type 0
Not13 r = (p : ℕ) → r ≡ refused no_room₁₃ p → ⊥

module _ {A : Type 0} where
  not_good : (a : A) → Not13 (good a)
  not_good a p h = let z : ◌≡◌ {A = ℕ} 0 1 = cc in omega arith

  not_refuse : (b : Bool) (n p : ℕ) (r : Answer A) → (n ≡ 13 → ⊥) → Not13 r → Not13 (refuse b n p r)
  not_refuse true n p r f g q h = let e : n ≡ 13 = cc in f e
  not_refuse false n p r f g q h = g q h

not_then : {A B : Type 0} (r : Read A) (f : A → ℕ → Answer B) → Not13 r → ((a : A) (n : ℕ) → r ≡ found a n → Not13 (f a n)) → Not13 (r then f)
not_then (good i) f g k p h = k i.item i.next refl p h
not_then (refused n q) f g k p h = g p (let e : n ≡ 13 = cc in let o : q ≡ p = cc in rw (e, o))

not_cond : {A : Type 0} (b : Bool) (x y : Answer A) → Not13 x → Not13 y → Not13 (cond b x y)
not_cond true x y f g = f
not_cond false x y f g = g

module _ (t s : List ℕ) where
  not_count : (at : ℕ) → Not13 (count_at s at)
  unfolding count_at count_by
  not_count at =
      let k = count_trailing_zeros 8 (get_or s at 0) in
      let v = le_at (k + 1) s at / 2 ^ (k + 1) in
      not_refuse (leb (length s) at) 2 at _ (λ e. omega arith) (not_refuse (ltb 2 k) 3 0 _ (λ e. omega arith) (not_refuse (ltb (length s) (at + k + 1)) 2 at _ (λ e. omega arith)
      (not_refuse (ltb v (least k)) 3 0 _ (λ e. omega arith) (not_refuse (ltb 65535 v) 3 0 _ (λ e. omega arith) (not_good _)))))

  not_value : (at i c : ℕ) → Not13 (value_at t s at i c)
  not_value at i c = rw (value_guards t s at i c) (not_refuse (ltb (length s) (at + 9)) 2 at _ (λ e. omega arith) (not_refuse (not (value_right t _)) 17 i _ (λ e. omega arith) (not_good _)))

  not_op : (at i : ℕ) → Not13 (op_at t s at i)
  not_op at i =
      let c = get_or s at 0 in
      rw (op_guards t s at i)
      (not_refuse (leb (length s) at) 2 at _ (λ e. omega arith) (not_refuse (not (assigned t c)) 4 i _ (λ e. omega arith) (not_cond (valued t c) (value_at t s at i c) _ (not_value at i c) (not_good _))))

  not_ops : (n at i : ℕ) → Not13 (ops_at t s n at i)
  unfolding row
  not_ops zero at i = not_good _
  not_ops (suc n) at i = not_then (op_at t s at i) _ (not_op at i) (λ x next _. not_then (ops_at t s n next (i + 1)) _ (not_ops n next (i + 1)) (λ xs end _. not_good _))

  not_batches : (at : ℕ) → Not13 (batch_count_at s at)
  unfolding batch_count_at
  not_batches at =
      let k = le_at 4 s at in
      not_refuse (ltb (length s) (at + 4)) 2 at _ (λ e. omega arith) (not_refuse (ltb ((length s - (at + 4)) / 5) k) 5 0 _ (λ e. omega arith) (not_refuse (ltb 16384 k) 3 0 _ (λ e. omega arith) (not_good _)))

  not_head : (at : ℕ) → Not13 (head_at t s at most)
  unfolding head_at
  not_head at =
      not_then (count_at s at) _ (not_count at) (λ n a₁ e.
      rw (le-leb n 65535 (held _ (count_at s at) n a₁ e (few_operations s at)))
      (not_then (ops_at t s n a₁ 0) _ (not_ops n a₁ 0) (λ xs a₂ _.
      not_then (batch_count_at s a₂) _ (not_batches a₂) (λ k a₃ f.
      rw (le-ltb 16384 k (held _ (batch_count_at s a₂) k a₃ f (few_batches s a₂))) (not_good _)))))

-- ---- both, behind what is looked at first

module _ (w : ℕ) (t s : List ℕ) (at : ℕ) where
  room_enough : (room : Room) (h : Head) (next : ℕ) → headed t s at ≡ found h next → length h.ops ≤ room.codes → length h.ops ≤ room.values → h.batches ≤ room.records
      → decoded w t s at room ≡ decoded w t s at most
  unfolding headed decoded block_at
  room_enough room h next e c v r =
      let a = passed (ltb 1048576 (length s)) 3 0 _ _ e in
      let b = passed (not (good_table t)) 14 0 _ _ a.1 in
      let d = passed (ltb (length s) at) 1 0 _ _ b.1 in
      rw (with_room t s at room h next d.1 c v r, d.1)

  same_refusal : (n p : ℕ) → headed t s at ≡ refused n p → decoded w t s at most ≡ refused n p
  unfolding headed decoded block_at
  same_refusal n p =
      guard (ltb 1048576 (length s)) 3 0 n p _ _ (guard (not (good_table t)) 14 0 n p _ _ (guard (ltb (length s) at) 1 0 n p _ _ (stage (head_at t s at most) _ n p)))

  not_13 : Not13 (headed t s at)
  unfolding headed
  not_13 =
      not_refuse (ltb 1048576 (length s)) 3 0 _ (λ e. omega arith) (not_refuse (not (good_table t)) 14 0 _ (λ e. omega arith) (not_refuse (ltb (length s) at) 1 0 _ (λ e. omega arith) (not_head t s at)))

  pub head_enough : Enough w t s at
  head_enough = record { enough = room_enough; alike = same_refusal; never = not_13 }
