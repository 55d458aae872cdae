-- M-101: which of 4 and 17 an operation has, and that it is the first operation at fault of which an answer tells. Assumes nothing.
use mathlib.Core.Path.{◌≡◌, refl, sym, ◌∙◌}
use mathlib.Core.Logic.{◌⊎◌, inl, inr}
use mathlib.Core.Bool.{Bool, true, false, cond, not, ◌&&◌, ◌||◌}
use mathlib.Core.List.{List, [], ◌∷◌, map}
use Prim.Native.Nat.{ℕ, zero, suc, ◌+◌, ◌-◌, ◌/◌, ◌≤◌, ◌<◌, ◌^◌}
use native.Mathlib.Omega.{arith}
use borrow.Author.Tests.{leb-true, ltb-true, ltb-false, leb-false, eqb-true, eqb-false, not-false}
use lib.ListN.{length, get_or, take}
use lib.Dec.{leb, ltb, eqb}
use lib.Count.{count_trailing_zeros}
use Rattle.rules.specs.Lists.{All, every}
use Rattle.rules.specs.Digits.{le_at}
use Rattle.rules.specs.Answer.{Answer, good, refused, Item, Read, found, refuse, refuse_first, ◌then◌, row}
use Rattle.rules.specs.Operations.{Op, operations, kind_of, good_table, noop, assigned, valued, field, value_right, code_fault, value_fault, op_fault}
use Rattle.rules.specs.Batching.{batches_of}
use Rattle.rules.specs.Record.{Block, block_of}
use Rattle.rules.specs.Bytes.{least, count_by, count_at, value_at, op_at, ops_at, batch_count_at}
use Rattle.rules.specs.Block.{Room, Head, Layout, block_bytes, head_at, layout_at, batches_by, block_at}
use Rattle.rules.specs.Checks.{Held, structure_faults, commitment_fault, commitment_faults, held}
use Rattle.rules.specs.Functions.{Arena, block_in, within, room_for, built, encoded, decoded, most, headed, op_here, commitment_checked}
use Rattle.rules.proofs.Answer.{clash}
use Rattle.rules.proofs.Operations.{true_left, true_right, op_guards, value_guards}
use Rattle.claims.proofs.Lists.{true_false}
use Rattle.claims.proofs.Demand1.{Holds, Fault, by_structure, by_first, by_commitment, by_layout, by_records}
use Rattle.claims.specs.Which.{BadOpcode, BadValue, Which, Told, FirstAtFault, FaultThere, ReadToFault, PassedOn}

-- ---- one operation

module _ (t : List ℕ) (g : good_table t ≡ true) (x : Op) where
  kind_small : (t : List ℕ) (c : ℕ) → every (λ (k : ℕ). leb k 3) t ≡ true → kind_of t c ≤ 3
  unfolding every
  kind_small [] c h = omega arith
  kind_small (k ∷ t) zero h = leb-true k 3 (true_left (leb k 3) _ h)
  kind_small (k ∷ t) (suc c) h = kind_small t c (true_right (leb k 3) _ h)

  kind_3 : kind_of t x.code ≤ 3
  unfolding good_table
  kind_3 = kind_small t x.code (true_right (eqb (kind_of t 0) 0) _ (true_right (eqb (length t) 128) _ g))

  bad_opcode : assigned t x.code ≡ false → BadOpcode t x
  unfolding assigned
  bad_opcode h = go (ltb x.code 128) refl h
    where
      go : (b : Bool) → ltb x.code 128 ≡ b → (b && ltb (kind_of t x.code) 3) ≡ false → BadOpcode t x
      go true e k = inr (omega (arith, kind_3, ltb-false (kind_of t x.code) 3 k))
      go false e k = inl (ltb-false x.code 128 e)

  good_opcode : assigned t x.code ≡ true → BadOpcode t x → ⊥
  unfolding assigned
  good_opcode h (inl b) = absurd (omega (arith, ltb-true x.code 128 (true_left (ltb x.code 128) _ h)))
  good_opcode h (inr b) = absurd (omega (arith, ltb-true (kind_of t x.code) 3 (true_right (ltb x.code 128) _ h)))

  bad_value : value_right t x ≡ false → BadValue t x
  unfolding value_right valued
  bad_value h = go (eqb (kind_of t x.code) 0) refl h
    where
      go : (b : Bool) → eqb (kind_of t x.code) 0 ≡ b → cond (not b) (ltb x.value field) (eqb x.value 0) ≡ false → BadValue t x
      go true e k = let z = eqb-false x.value 0 k in inr (eqb-true (kind_of t x.code) 0 e, omega arith)
      go false e k = inl (ltb-false x.value field k)

  good_value : value_right t x ≡ true → BadValue t x → ⊥
  unfolding value_right valued
  good_value h = go (eqb (kind_of t x.code) 0) refl h
    where
      go : (b : Bool) → eqb (kind_of t x.code) 0 ≡ b → cond (not b) (ltb x.value field) (eqb x.value 0) ≡ true → BadValue t x → ⊥
      go true e k (inl v) = absurd (omega (arith, eqb-true x.value 0 k))
      go true e k (inr v) = absurd (omega (arith, v.1, eqb-true x.value 0 k))
      go false e k (inl v) = absurd (omega (arith, ltb-true x.value field k))
      go false e k (inr v) = eqb-false (kind_of t x.code) 0 e v.0

  pub which : Which t x
  unfolding op_fault code_fault value_fault
  which = go (assigned t x.code) (value_right t x) refl refl
    where
      four : op_fault t x ≡ 4 → BadOpcode t x → Which t x
      four e b =
          record { four = (λ h. b, λ h. e); seventeen = (λ h. absurd (omega arith), λ q. absurd (q.0 b)); none = (λ h. absurd (omega arith), λ q. absurd (q.0 b)) }

      seventeen : op_fault t x ≡ 17 → (BadOpcode t x → ⊥) → BadValue t x → Which t x
      seventeen e a b =
          record { four = (λ h. absurd (omega arith), λ q. absurd (a q)); seventeen = (λ h. (a, b), λ h. e); none = (λ h. absurd (omega arith), λ q. absurd (q.1 b)) }

      none : op_fault t x ≡ 0 → (BadOpcode t x → ⊥) → (BadValue t x → ⊥) → Which t x
      none e a b =
          record { four = (λ h. absurd (omega arith), λ q. absurd (a q)); seventeen = (λ h. absurd (omega arith), λ q. absurd (b q.1)); none = (λ h. (a, b), λ h. e) }

      go : (a v : Bool) → assigned t x.code ≡ a → value_right t x ≡ v → Which t x
      go true true a v = none (rw (a, v)) (good_opcode a) (good_value v)
      go true false a v = seventeen (rw (a, v)) (good_opcode a) (bad_value v)
      go false v a _ = four (rw a) (bad_opcode a)

-- ---- an answer that tells 4 or 17 does not tell another number

abbrev Two : ℕ → Type 0
Two n = (n ≡ 4) ⊎ (n ≡ 17)

-- a refusal with another number
abbrev Other : ℕ → ℕ → Type 0
Other n p = Two n → ⊥

abbrev Any : {A : Type 0} → A → Type 0
Any a = Unit {0}

other : (m : ℕ) → (eqb m 4 || eqb m 17) ≡ false → (q : ℕ) → Other m q
other m h q (inl e) = let z : true ≡ false = rw e at h in true_false z
other m h q (inr e) = let z : true ≡ false = rw e at h in true_false z

module _ {A : Type 0} where
  same_number : (m q n p : ℕ) → ◌≡◌ {A = Answer A} (refused m q) (refused n p) → m ≡ n
  same_number m q n p h = cc

  pub same_place : (m q n p : ℕ) → ◌≡◌ {A = Answer A} (refused m q) (refused n p) → q ≡ p
  same_place m q n p h = cc

  -- in whatever it was refused
  same_refusal : {B : Type 0} (m q n p : ℕ) → ◌≡◌ {A = Answer A} (refused m q) (refused n p) → ◌≡◌ {A = Answer B} (refused m q) (refused n p)
  same_refusal m q n p h = rw (same_number m q n p h, same_place m q n p h)

  not_good : (a : A) (n p : ℕ) → ◌≡◌ {A = Answer A} (good a) (refused n p) → ⊥
  not_good a n p h = clash n p a (sym h)

  never : (Q : A → Type 0) (d : Answer A) (n p : ℕ) → Holds Other Q d → Told d n p → ⊥
  never Q (good a) n p h k = not_good a n p k.0
  never Q (refused m q) n p h k = h (rw (same_number m q n p k.0) k.1)

  -- a guard with another number was passed
  past : (b : Bool) (m q : ℕ) (r : Answer A) (n p : ℕ) → (eqb m 4 || eqb m 17) ≡ false → Told (refuse b m q r) n p → (b ≡ false) × Told r n p
  past true m q r n p o k = absurd (other m o q (rw (same_number m q n p k.0) k.1))
  past false m q r n p o k = (refl, k)

  -- so were faults with another number
  abbrev Later : Answer A → ℕ → ℕ → Type 0
  Later r n p = Two n → r ≡ refused n p

  later : (r d : Answer A) → d ≡ r → Holds (Later r) Any d
  later r (good a) e = tt
  later r (refused n p) e = λ two. sym e

  to_later : (r d : Answer A) (n p : ℕ) → Holds (Later r) Any d → Told d n p → Told r n p
  to_later r (good a) n p h k = absurd (not_good a n p k.0)
  to_later r (refused m q) n p h k = (h (rw (same_number m q n p k.0) k.1) ∙ k.0, k.1)

  past_structure : (w : ℕ) (b : Block) (r : Answer A) (n p : ℕ) → Told (refuse_first 0 (structure_faults w b) r) n p → Told r n p
  past_structure w b r n p k =
      to_later r _ n p (by_structure (Later r) Any w b r (λ q l two. absurd (other 15 refl q two)) (later r r refl)) k

  -- 3, 14 and 1 of whatever reads bytes
  past_first : (t s : List ℕ) (at : ℕ) (r : Answer A) (n p : ℕ)
      → Told (refuse (ltb 1048576 (length s)) 3 0 (refuse (not (good_table t)) 14 0 (refuse (ltb (length s) at) 1 0 r))) n p → (good_table t ≡ true) × Told r n p
  past_first t s at r n p k =
      let k₁ = past (ltb 1048576 (length s)) 3 0 _ n p refl k in
      let k₂ = past (not (good_table t)) 14 0 _ n p refl k₁.1 in
      (not-false _ k₂.0, (past (ltb (length s) at) 1 0 r n p refl k₂.1).1)

-- ---- the first operation of a list

record Stop (t : List ℕ) (i : ℕ) (xs : List Op) (n p : ℕ) : Type 0 where
  pub k : ℕ
  pub is : p ≡ i + k
  pub under : k < length xs
  pub fault : op_fault t (get_or xs k noop) ≡ n
  pub before : All (λ x. op_fault t x ≡ 0) (take k xs)

module _ {A : Type 0} where
  stop : (t : List ℕ) (i : ℕ) (xs : List Op) (r : Answer A) (n p : ℕ) → refuse_first i (map (op_fault t) xs) r ≡ refused n p → Stop t i xs n p ⊎ (r ≡ refused n p)
  unfolding refuse_first
  stop t i [] r n p h = inr h
  stop t i (x ∷ xs) r n p h = go (op_fault t x) refl h (λ k. stop t (i + 1) xs r n p k)
    where
      on : op_fault t x ≡ 0 → Stop t (i + 1) xs n p ⊎ (r ≡ refused n p) → Stop t i (x ∷ xs) n p ⊎ (r ≡ refused n p)
      on e (inl s) = inl (record { k = suc s.k; is = omega (arith, s.is); under = omega (arith, s.under); fault = s.fault; before = (e, s.before) })
      on e (inr k) = inr k

      go : (m : ℕ) → op_fault t x ≡ m → refuse_first i (m ∷ map (op_fault t) xs) r ≡ refused n p
          → (refuse_first (i + 1) (map (op_fault t) xs) r ≡ refused n p → Stop t (i + 1) xs n p ⊎ (r ≡ refused n p)) → Stop t i (x ∷ xs) n p ⊎ (r ≡ refused n p)
      go zero e h ih = on e (ih h)
      go (suc m) e h ih = inl (record { k = 0; is = omega (arith, same_place (suc m) i n p h); under = omega arith; fault = e ∙ same_number (suc m) i n p h; before = tt })

  -- where what follows tells another number
  first_at_fault : (t : List ℕ) (xs : List Op) (r : Answer A) (n p : ℕ) → good_table t ≡ true → (Told r n p → ⊥) → Told (refuse_first 0 (map (op_fault t) xs) r) n p → FirstAtFault t xs n p
  first_at_fault t xs r n p g f k = go (stop t 0 xs r n p k.0)
    where
      go : Stop t 0 xs n p ⊎ (r ≡ refused n p) → FirstAtFault t xs n p
      go (inl s) = let e : p ≡ s.k = omega (arith, s.is) in rw e (record { table = g; under = s.under; fault = s.fault; before = s.before })
      go (inr h) = absurd (f (h, k.1))

-- ---- an operation in bytes

fault_there : (t s : List ℕ) (at i n p : ℕ) → good_table t ≡ true → Told (op_at t s at i) n p → (p ≡ i) × FaultThere t s at n
unfolding op_fault code_fault value_fault
fault_there t s at i n p g k =
    let c = get_or s at 0 in
    let a = past (leb (length s) at) 2 at _ n p refl (rw (op_guards t s at i) at k) in
    go (assigned t c) (valued t c) refl refl (leb-false (length s) at a.0) a.1
  where
    value : (b : Bool) → valued t (get_or s at 0) ≡ true → assigned t (get_or s at 0) ≡ true → value_right t (record { code = get_or s at 0; value = le_at 8 s (at + 1) }) ≡ b → at + 9 ≤ length s
        → refuse (not b) 17 i (found {A = Op} (record { code = get_or s at 0; value = le_at 8 s (at + 1) }) (at + 9)) ≡ refused n p → (p ≡ i) × FaultThere t s at n
    value true v a e l h = absurd (not_good _ n p h)
    value false v a e l h =
        (sym (same_place 17 i n p h), record { table = g; inside = omega arith; fault = rw (a, v, e) (same_number 17 i n p h); whole = λ _. l })

    go : (a v : Bool) → assigned t (get_or s at 0) ≡ a → valued t (get_or s at 0) ≡ v → at < length s
        → Told (refuse (not a) 4 i (cond v (value_at t s at i (get_or s at 0)) (found {A = Op} (record { code = get_or s at 0; value = 0 }) (at + 1)))) n p → (p ≡ i) × FaultThere t s at n
    go false v a _ l h =
        let m = same_number 4 i n p h.0 in
        (sym (same_place 4 i n p h.0), record { table = g; inside = l; fault = rw a m; whole = λ e. absurd (omega arith) })
    go true false a v l h = absurd (not_good _ n p h.0)
    go true true a v l h =
        let b = past (ltb (length s) (at + 9)) 2 at _ n p refl (rw (value_guards t s at i (get_or s at 0)) at h) in
        value (value_right t (record { code = get_or s at 0; value = le_at 8 s (at + 1) })) v a refl (ltb-false (length s) (at + 9) b.0) b.1.0

-- ---- a row of them

record RowStop {A : Type 0} (read : ℕ → ℕ → Read A) (m at i n p : ℕ) : Type 0 where
  pub k : ℕ
  pub items : List A
  pub place : ℕ
  pub under : k < m
  pub before : row read k at i ≡ found items place
  pub here : read place (i + k) ≡ refused n p

module _ {A : Type 0} (read : ℕ → ℕ → Read A) where
  row_stop : (m at i n p : ℕ) → row read m at i ≡ refused n p → RowStop read m at i n p
  unfolding row
  row_stop zero at i n p h = absurd (not_good _ n p h)
  row_stop (suc m) at i n p h = go (read at i) refl h (λ next. row_stop m next (i + 1) n p)
    where
      rest : (x : Item A) → read at i ≡ good x → (r : Read (List A)) → row read m x.next (i + 1) ≡ r → (r then λ xs end. found (x.item ∷ xs) end) ≡ refused n p
          → (row read m x.next (i + 1) ≡ refused n p → RowStop read m x.next (i + 1) n p) → RowStop read (suc m) at i n p
      rest x e (good ys) f h ih = absurd (not_good _ n p h)
      rest x e (refused a b) f h ih =
          let s = ih (f ∙ same_refusal a b n p h) in
          let q : i + 1 + s.k ≡ i + suc s.k = omega arith in
          record { k = suc s.k; items = x.item ∷ s.items; place = s.place; under = omega (arith, s.under); before = rw (e, s.before); here = rw q at s.here }

      go : (r : Read A) → read at i ≡ r → (r then λ x next. row read m next (i + 1) then λ xs end. found (x ∷ xs) end) ≡ refused n p
          → ((next : ℕ) → row read m next (i + 1) ≡ refused n p → RowStop read m next (i + 1) n p) → RowStop read (suc m) at i n p
      go (good x) e h ih = rest x e (row read m x.next (i + 1)) refl h (ih x.next)
      go (refused a b) e h ih =
          let q : i + 0 ≡ i = omega arith in
          record { k = 0; items = []; place = at; under = omega arith; before = refl; here = rw q (e ∙ same_refusal a b n p h) }

-- ---- a block's bytes

module _ {A B : Type 0} (n p : ℕ) where
  -- what follows tells another number
  first_tells : (r : Read A) (f : A → ℕ → Answer B) → ((i : Item A) → Told (f i.item i.next) n p → ⊥) → Told (r then f) n p → Told r n p
  first_tells (good i) f h k = absurd (h i k)
  first_tells (refused m q) f h k = (same_refusal m q n p k.0, k.1)

module _ (s : List ℕ) (n p : ℕ) where
  not_count : (at : ℕ) → Told (count_at s at) n p → ⊥
  unfolding count_at count_by
  not_count at k =
      let a = past (leb (length s) at) 2 at _ n p refl k in
      let z = count_trailing_zeros 8 (get_or s at 0) in
      let b = past (ltb 2 z) 3 0 _ n p refl a.1 in
      let c = past (ltb (length s) (at + z + 1)) 2 at _ n p refl b.1 in
      let v = le_at (z + 1) s at / 2 ^ (z + 1) in
      let d = past (ltb v (least z)) 3 0 _ n p refl c.1 in
      let e = past (ltb 65535 v) 3 0 _ n p refl d.1 in
      not_good _ n p e.1.0

  not_batch_count : (at : ℕ) → Told (batch_count_at s at) n p → ⊥
  unfolding batch_count_at
  not_batch_count at k =
      let a = past (ltb (length s) (at + 4)) 2 at _ n p refl k in
      let b = past (ltb ((length s - (at + 4)) / 5) (le_at 4 s at)) 5 0 _ n p refl a.1 in
      let c = past (ltb 16384 (le_at 4 s at)) 3 0 _ n p refl b.1 in
      not_good _ n p c.1.0

  in_batch : (q : ℕ) → Other 6 q × Other 7 q × Other 8 q × Other 9 q × Other 10 q
  in_batch q = (
    other 6 refl q,
    other 7 refl q,
    other 8 refl q,
    other 9 refl q,
    other 10 refl q,
  )

  not_layout : (w k at : ℕ) → Told (layout_at w s k at) n p → ⊥
  not_layout w k at = never _ (layout_at w s k at) n p (by_layout Other s k (λ q l. in_batch q) (other 11 refl 0) w k at (omega arith))

  not_batches : (w : ℕ) (t : List ℕ) (xs : List Op) (l : Layout) → Told (batches_by w t xs l) n p → ⊥
  not_batches w t xs l =
      never _ (batches_by w t xs l) n p (by_records Other s (length l.sizes) (λ q l. in_batch q) (other 11 refl 0) w t xs l (omega arith))

  module _ (t : List ℕ) (g : good_table t ≡ true) (at : ℕ) (room : Room) where
    head_tells : Told (head_at t s at room) n p → ReadToFault t s at n p
    unfolding head_at
    head_tells k = counted (count_at s at) refl k
      where
        ops : (c : Item ℕ) → count_at s at ≡ good c → Told (ops_at t s c.item c.next 0) n p → ReadToFault t s at n p
        ops c e k =
            let r = row_stop (op_at t s) c.item c.next 0 n p k.0 in
            let f = fault_there t s r.place (0 + r.k) n p g (r.here, k.1) in
            let q : r.k ≡ p = omega (arith, f.0) in
            record { count = c.item; start = c.next; counted = e; under = omega (arith, r.under); ops = r.items; place = r.place; before = rw q at r.before; there = f.1 }

        counted : (r : Read ℕ) → count_at s at ≡ r
            → Told (r then λ m a₁. refuse (not (leb m room.codes && leb m room.values)) 13 0 (ops_at t s m a₁ 0 then λ xs a₂. batch_count_at s a₂ then λ k a₃. refuse (ltb room.records k) 13 0 (found {A = Head} (record { ops = xs; batches = k }) a₃))) n p
            → ReadToFault t s at n p
        counted (refused a b) e k = absurd (not_count at (e ∙ same_refusal a b n p k.0, k.1))
        counted (good c) e k =
            let a = past (not (leb c.item room.codes && leb c.item room.values)) 13 0 _ n p refl k in
            ops c e (first_tells n p (ops_at t s c.item c.next 0) _ (λ xs k. not_batch_count xs.next (first_tells n p (batch_count_at s xs.next) _ (λ m k.
            not_good _ n p (past (ltb room.records m.item) 13 0 _ n p refl k).1.0) k)) a.1)

    block_tells : (w : ℕ) → Told (block_at w t s at room) n p → Told (head_at t s at room) n p
    unfolding block_at
    block_tells w =
        first_tells n p (head_at t s at room) _ (λ h k. not_layout w h.item.batches h.next (first_tells n p (layout_at w s h.item.batches h.next) _ (λ l k.
        not_batches w t h.item.ops l.item (first_tells n p (batches_by w t h.item.ops l.item) _ (λ rs k. not_good _ n p k.0) k)) k))

-- ---- the theorem

module _ (w : ℕ) where
  build : (t cs vs : List ℕ) (room : Room) (n p : ℕ) → Told (built w t cs vs room) n p → FirstAtFault t (operations cs vs) n p
  unfolding built
  build t cs vs room n p k =
      let b = block_of (batches_of w t (operations cs vs)) in
      let k₁ = past (not (eqb (length cs) (length vs)) || ltb 16384 (length cs)) 3 0 _ n p refl k in
      let k₂ = past (not (good_table t)) 14 0 _ n p refl k₁.1 in
      let k₃ = past (eqb (length cs) 0) 12 0 _ n p refl k₂.1 in
      first_at_fault t (operations cs vs) _ n p (not-false _ k₂.0) (λ k. not_good b n p (past (not (room_for b room)) 13 0 _ n p refl k).1.0) k₃.1

  encode : (t : List ℕ) (a : Arena) (size at n p : ℕ) → Told (encoded w t a size at) n p → FirstAtFault t (block_in a).ops n p
  unfolding encoded
  encode t a size at n p k =
      let s = block_bytes t (block_in a) in
      let k₁ = past (not (within a) || ltb 1048576 size) 3 0 _ n p refl k in
      let k₂ = past (not (good_table t)) 14 0 _ n p refl k₁.1 in
      let k₃ = past (ltb size at) 1 0 _ n p refl k₂.1 in
      first_at_fault t (block_in a).ops _ n p (not-false _ k₂.0) (λ k. not_good s n p (past (ltb size (at + length s)) 13 0 _ n p refl k).1.0)
      (past_structure w (block_in a) _ n p k₃.1)

  commitment : (t : List ℕ) (a : Arena) (n p : ℕ) → Told (commitment_checked w t a) n p → FirstAtFault t (block_in a).ops n p
  unfolding commitment_checked commitment_faults
  commitment t a n p k =
      let k₁ = past (not (within a)) 3 0 _ n p refl k in
      let k₂ = past (not (good_table t)) 14 0 _ n p refl k₁.1 in
      let hs = held (block_in a) in
      let no : (x : Held) (q : ℕ) → q < length hs → Fault Other (commitment_fault t x) q =
      λ x q l. by_commitment Other t x q (other 8 refl q) (other 9 refl q) (other 16 refl q) in
      first_at_fault t (block_in a).ops _ n p (not-false _ k₂.0) (never Any _ n p (by_first Other Any (commitment_fault t) (length hs) no 0 hs (good tt) (omega arith) tt))
      (past_structure w (block_in a) _ n p k₂.1)

  decode : (t s : List ℕ) (at : ℕ) (room : Room) (n p : ℕ) → Told (decoded w t s at room) n p → ReadToFault t s at n p
  unfolding decoded
  decode t s at room n p k = let h = past_first t s at _ n p k in head_tells s n p t h.0 at room (block_tells s n p t h.0 at room w h.1)

  head : (t s : List ℕ) (at n p : ℕ) → Told (headed t s at) n p → ReadToFault t s at n p
  unfolding headed
  head t s at n p k = let h = past_first t s at _ n p k in head_tells s n p t h.0 at most h.1

  reader : (t s : List ℕ) (at i n p : ℕ) → Told (op_here t s at i) n p → (p ≡ i) × FaultThere t s at n
  unfolding op_here
  reader t s at i n p k = let h = past_first t s at _ n p k in fault_there t s at i n p h.0 h.1

  pub passed_on : PassedOn w
  passed_on = record { build = build; encode = encode; commitment = commitment; decode = decode; head = head; reader = reader }
