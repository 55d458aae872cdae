-- Demand 1: every answer is a result or one of document 01's refusals, and a refusal leaves nothing behind. Assumes nothing.
use mathlib.Core.Path.{◌≡◌, refl, sym, ap, subst, ◌∙◌}
use mathlib.Core.Logic.{◌⊎◌, inl, inr}
use mathlib.Core.List.{List, [], ◌∷◌, ◌++◌, map}
use mathlib.Core.Bool.{Bool, true, false, cond, not, ◌&&◌, ◌||◌}
use Prim.Native.Nat.{ℕ, zero, suc, ◌+◌, ◌-◌, ◌/◌, ◌≤◌, ◌<◌, ◌^◌}
use native.Mathlib.Omega.{arith}
use borrow.Author.Tests.{ltb-false, leb-false, eqb-true, le-leb, le-ltb}
use lib.IntN.{pos}
use lib.ListN.{length, get_or, take, drop, replicate, length-map, length-replicate}
use lib.Seq.{take_all}
use lib.Dec.{leb, ltb, eqb}
use lib.Count.{count_trailing_zeros}
use Rattle.rules.specs.Lists.{total, in_row}
use Rattle.rules.specs.Digits.{digits, le_at}
use Rattle.rules.specs.Answer.{Answer, good, refused, Item, Read, found, refuse, or_else, refuse_first, ◌then◌, row}
use Rattle.rules.specs.Operations.{Op, operations, assigned, valued, value_right, code_fault, value_fault, op_fault, good_table, codes, values}
use Rattle.rules.specs.Batching.{batches_of}
use Rattle.rules.specs.Record.{Record, Block, no_block, codes_number, block_of, cut, immediates}
use Rattle.rules.specs.Bytes.{least, count_by, count_at, value_at, op_at, ops_at, batch_count_at, up_to, sizes_at, nibbles_at, bits_at, flags_at}
use Rattle.rules.specs.Block.{Room, Head, Layout, block_bytes, placings_fault, count_from, batch_at, batches_at, head_at, layout_at, batches_by, block_at}
use Rattle.rules.specs.Checks.{Held, ninth, record_right, structure_faults, held_from, held, padding_fault, padding_faults, under_count, placing_fault, begins, groups_fault, empty_zero, commitment_fault, commitment_faults, padding_right}
use Rattle.rules.specs.Lookups.{group_of, next_group}
use Rattle.rules.specs.Functions.{Arena, arena, block_in, within, filled, room_for, built, encoded, written, decoded, strictly_decoded, Side, read_at, reported, refused_by, marked, compared, report_left, most, headed, count_here, op_here, structure_checked, padding_checked, commitment_checked, table_of, table_left, group_lookup, next_lookup}
use Rattle.rules.specs.Compare.{Entry, blocks_apart}
use Rattle.rules.proofs.Answer.{first_append}
use Rattle.rules.proofs.Runs.{zeros_fitted}
use Rattle.claims.proofs.Lists.{true_false}
use Rattle.claims.proofs.Found.{stages}
use Rattle.claims.proofs.Row.{row_made}
use Rattle.claims.proofs.Right.{Width}
use Rattle.claims.proofs.ReadThenChecked.{nibbles_made, count_limit, batch_count_limit}
use Rattle.claims.proofs.FirstDifference.{Verdict, passes, unlisted, differs, verdict}
use Rattle.claims.specs.Demand1.{Refusal, ◌of◌, OneOf, Replies, zeros, ops, batches, build_refusals, encode_refusals, decode_refusals, strict_refusals, side_refusals, compare_refusals, RepliesBy, head_refusals, told, told_batches, count_refusals, op_refusals, structure_refusals, padding_refusals, commitment_refusals, table_refusals, lookup_refusals, Demand1}

-- ---- answers whose results have one property, and whose refusals another

module _ (P : ℕ → ℕ → Type 0) where
  abbrev pub Holds : {A : Type 0} → (A → Type 0) → Answer A → Type 0
  Holds Q (good a) = Q a
  Holds Q (refused n p) = P n p

  module _ {A : Type 0} (Q : A → Type 0) where
    by_refuse : (b : Bool) (n p : ℕ) (r : Answer A) → P n p → (b ≡ false → Holds Q r) → Holds Q (refuse b n p r)
    by_refuse true n p r h k = h
    by_refuse false n p r h k = k refl

    -- where only some cases refuse
    by_case : (b : Bool) (n p : ℕ) (r : Answer A) → (b ≡ true → P n p) → (b ≡ false → Holds Q r) → Holds Q (refuse b n p r)
    by_case true n p r h k = h refl
    by_case false n p r h k = k refl

  by_then : {A B : Type 0} (Q : Item A → Type 0) (R : B → Type 0) (r : Read A) (f : A → ℕ → Answer B) → Holds Q r → ((i : Item A) → Q i → Holds R (f i.item i.next)) → Holds R (r then f)
  by_then Q R (good i) f h k = k i h
  by_then Q R (refused n p) f h k = h

  -- the same, knowing what was read
  by_stage : {A B : Type 0} (Q : Item A → Type 0) (R : B → Type 0) (r : Read A) (f : A → ℕ → Answer B) → Holds Q r → ((i : Item A) → r ≡ good i → Q i → Holds R (f i.item i.next)) → Holds R (r then f)
  by_stage Q R (good i) f h k = k i refl h
  by_stage Q R (refused n p) f h k = h

  -- no fault, or one that may refuse with this place
  abbrev pub Fault : ℕ → ℕ → Type 0
  Fault n p = (n ≡ 0) ⊎ P n p

  by_cond : (b : Bool) (n p : ℕ) → P n p → Fault (cond b 0 n) p
  by_cond true n p h = inl refl
  by_cond false n p h = inr h

  by_or_else : (m n p : ℕ) → Fault m p → Fault n p → Fault (or_else m n) p
  by_or_else zero n p h k = k
  by_or_else (suc m) n p h k = h

  pub by_first : {A B : Type 0} (Q : A → Type 0) (f : B → ℕ) (n : ℕ) → ((x : B) (p : ℕ) → p < n → Fault (f x) p) → (i : ℕ) (xs : List B) (r : Answer A) → i + length xs ≤ n → Holds Q r → Holds Q (refuse_first i (map f xs) r)
  unfolding refuse_first
  by_first Q f n h i [] r l k = k
  by_first Q f n h i (x ∷ xs) r l k = go (f x) (h x i (omega arith)) (by_first Q f n h (i + 1) xs r (omega arith) k)
    where
      go : (m : ℕ) → Fault m i → Holds Q (refuse_first (i + 1) (map f xs) r) → Holds Q (refuse_first i (m ∷ map f xs) r)
      go zero g ih = ih
      go (suc m) (inl e) ih = absurd (omega arith)
      go (suc m) (inr g) ih = g

  -- one fault, of the p-th
  by_one : {A : Type 0} (Q : A → Type 0) (p n : ℕ) (r : Answer A) → Fault n p → Holds Q r → Holds Q (refuse_first p (n ∷ []) r)
  unfolding refuse_first
  by_one Q p zero r h k = k
  by_one Q p (suc n) r (inl e) k = absurd (omega arith)
  by_one Q p (suc n) r (inr h) k = h

  -- ---- the checks' faults

  -- "15": a batch, or the batch total
  pub by_structure : {A : Type 0} (Q : A → Type 0) (w : ℕ) (b : Block) (r : Answer A) → ((p : ℕ) → p < length b.records + 1 → P 15 p) → Holds Q r → Holds Q (refuse_first 0 (structure_faults w b) r)
  unfolding structure_faults
  by_structure Q w b r h k =
      let f : Record → ℕ = λ (x : Record). cond (record_right w x) 0 15 in
      let c = eqb (total (map ninth b.records)) (length b.ops) in
      subst (Holds Q) (sym (first_append 0 (map f b.records) (cond c 0 15 ∷ []) r))
      (by_first Q f (length b.records + 1) (λ x p l. by_cond (record_right w x) 15 p (h p l)) 0 b.records (refuse_first (0 + length (map f b.records)) (cond c 0 15 ∷ []) r) (omega arith)
      (by_first Q (λ (z : Bool). cond z 0 15) (length b.records + 1) (λ z p l. by_cond z 15 p (h p l)) (0 + length (map f b.records)) (c ∷ []) r (omega (arith, length-map b.records f)) k))

  by_ops : {A : Type 0} (Q : A → Type 0) (t : List ℕ) (xs : List Op) (r : Answer A) → ((p : ℕ) → p < length xs → P 4 p × P 17 p) → Holds Q r → Holds Q (refuse_first 0 (map (op_fault t) xs) r)
  unfolding op_fault code_fault value_fault
  by_ops Q t xs r h k =
      by_first Q (op_fault t) (length xs) (λ x p l. by_or_else _ _ p (by_cond (assigned t x.code) 4 p (h p l).0) (by_cond (value_right t x) 17 p (h p l).1)) 0 xs r (omega arith) k

  by_placing : (k : ℕ) (gs : List (List Op)) (p : ℕ) → P 8 p → P 9 p → Fault (placing_fault k gs) p
  unfolding placing_fault
  by_placing zero gs p h₈ h₉ = inl refl
  by_placing (suc k) [] p h₈ h₉ = inr h₈
  by_placing (suc k) ([] ∷ gs) p h₈ h₉ = by_placing k gs p h₈ h₉
  by_placing (suc k) ((x ∷ xs) ∷ gs) p h₈ h₉ = inr h₉

  by_groups : (t : List ℕ) (gs : List (List Op)) (ns : List ℕ) (p : ℕ) → P 8 p → P 9 p → P 16 p → Fault (groups_fault t gs ns) p
  unfolding groups_fault
  by_groups t [] ns p h₈ h₉ h = inl refl
  by_groups t (g ∷ gs) [] p h₈ h₉ h = inl refl
  by_groups t ([] ∷ gs) (n ∷ ns) p h₈ h₉ h = by_groups t gs ns p h₈ h₉ h
  by_groups t ((x ∷ xs) ∷ gs) (n ∷ ns) p h₈ h₉ h =
      let vs = immediates t (x ∷ xs) in
      by_or_else _ _ p (by_cond (eqb n (codes_number (x ∷ xs))) 16 p h)
      (by_or_else _ _ p (by_placing (length vs) gs p h₈ h₉)
      (by_or_else _ _ p (by_cond (begins ns vs) 16 p h) (by_groups t gs ns p h₈ h₉ h)))

  pub by_commitment : (t : List ℕ) (x : Held) (p : ℕ) → P 8 p → P 9 p → P 16 p → Fault (commitment_fault t x) p
  unfolding commitment_fault
  by_commitment t x p h₈ h₉ h =
      by_or_else _ _ p (by_groups t (under_count x) x.batch.numbers p h₈ h₉ h) (by_cond (empty_zero t 0 (under_count x) x.batch.numbers) 16 p h)

  -- ---- decode's stages

  abbrev Any : {A : Type 0} → A → Type 0
  Any a = Unit {0}

  -- a row of n items, and a place after it that is as asked of places
  abbrev Many : {A : Type 0} → (ℕ → Type 0) → ℕ → Item (List A) → Type 0
  Many Ok n xs = (length xs.item ≡ n) × Ok xs.next

  by_row : {A : Type 0} (read : ℕ → ℕ → Read A) (Ok : ℕ → Type 0) (m : ℕ) → ((at i : ℕ) → i < m → Ok at → Holds (λ (x : Item A). Ok x.next) (read at i))
      → (n at i : ℕ) → i + n ≤ m → Ok at → Holds (Many Ok n) (row read n at i)
  unfolding row
  by_row read Ok m one zero at i l k = (refl, k)
  by_row read Ok m one (suc n) at i l k =
      by_then _ (Many Ok (suc n)) (read at i) _ (one at i (omega arith) k) λ x q.
      by_then (Many Ok n) (Many Ok (suc n)) (row read n x.next (i + 1)) _ (by_row read Ok m one n x.next (i + 1) (omega arith) q) λ xs r. (ap suc r.0, r.1)

  by_placings : (t : List ℕ) (gs : List (List Op)) (p : ℕ) → P 8 p → P 9 p → Fault (placings_fault t gs) p
  unfolding placings_fault
  by_placings t [] p h₈ h₉ = inl refl
  by_placings t (g ∷ gs) p h₈ h₉ = by_or_else _ _ p (by_placing (length (immediates t g)) gs p h₈ h₉) (by_placings t gs p h₈ h₉)

  module _ (s : List ℕ) (two : (p : ℕ) → p ≤ length s → P 2 p) where
    -- the place after an item is in the buffer, or its end
    abbrev Inside : {A : Type 0} → Item A → Type 0
    Inside i = i.next ≤ length s

    by_count : (at : ℕ) → P 3 0 → at ≤ length s → Holds Inside (count_at s at)
    unfolding count_at count_by
    by_count at three l = by_refuse Inside (leb (length s) at) 2 at _ (two at l) (λ e. go (count_trailing_zeros 8 (get_or s at 0)))
      where
        go : (z : ℕ) → Holds Inside (count_by z s at)
        go z =
            let v = le_at (z + 1) s at / 2 ^ (z + 1) in
            by_refuse Inside (ltb 2 z) 3 0 _ three λ e₁.
            by_refuse Inside (ltb (length s) (at + z + 1)) 2 at _ (two at l) λ e₂.
            by_refuse Inside (ltb v (least z)) 3 0 _ three λ e₃.
            by_refuse Inside (ltb 65535 v) 3 0 _ three λ e₄. ltb-false (length s) (at + z + 1) e₂

    by_op : (t : List ℕ) (at i : ℕ) → at ≤ length s → P 4 i × P 17 i → Holds Inside (op_at t s at i)
    unfolding op_at value_at code_fault value_fault
    by_op t at i l four =
        by_refuse Inside (leb (length s) at) 2 at _ (two at l) λ e.
        by_one Inside i _ _ (by_cond (assigned t (get_or s at 0)) 4 i four.0) (go (valued t (get_or s at 0)) (leb-false (length s) at e))
      where
        go : (v : Bool) → at < length s → Holds Inside (cond v (value_at t s at i (get_or s at 0)) (found (record { code = get_or s at 0; value = 0 }) (at + 1)))
        go true m =
            by_refuse Inside (ltb (length s) (at + 9)) 2 at _ (two at l) λ e.
            by_one Inside i _ _ (by_cond (value_right t (record { code = get_or s at 0; value = le_at 8 s (at + 1) })) 17 i four.1) (ltb-false (length s) (at + 9) e)
        go false m = omega arith

    by_ops_at : (t : List ℕ) (n at i m : ℕ) → ((p : ℕ) → p < m → P 4 p × P 17 p) → at ≤ length s → i + n ≤ m → Holds (Many (λ k. k ≤ length s) n) (ops_at t s n at i)
    by_ops_at t n at i m four l k = by_row (op_at t s) (λ k. k ≤ length s) m (λ at i h l. by_op t at i l (four i h)) n at i k l

    by_batch_count : (at : ℕ) → P 5 0 → P 3 0 → at ≤ length s → Holds Inside (batch_count_at s at)
    unfolding batch_count_at
    by_batch_count at five three l =
        by_refuse Inside (ltb (length s) (at + 4)) 2 at _ (two at l) λ e.
        by_refuse Inside (ltb ((length s - (at + 4)) / 5) (le_at 4 s at)) 5 0 _ five λ e₁.
        by_refuse Inside (ltb 16384 (le_at 4 s at)) 3 0 _ three λ e₂. ltb-false (length s) (at + 4) e

    -- no room for operations, and none for batches
    Narrow : Room → ℕ → Type 0
    Narrow room at = (n : Item ℕ) → count_at s at ≡ good n → not (leb n.item room.codes && leb n.item room.values) ≡ true → P 13 0

    Scarce : Room → Type 0
    Scarce room = (k : Item ℕ) (at : ℕ) → batch_count_at s at ≡ good k → ltb room.records k.item ≡ true → P 13 0

    by_head : (t : List ℕ) (at : ℕ) (room : Room) → P 3 0 → ((p : ℕ) → p < told (count_at s at) → P 4 p × P 17 p) → P 5 0 → Narrow room at → Scarce room → at ≤ length s → Holds Any (head_at t s at room)
    unfolding head_at Narrow Scarce
    by_head t at room three four five narrow scarce l =
        by_stage Inside Any (count_at s at) _ (by_count at three l) λ n e q₁.
        by_case Any (not (leb n.item room.codes && leb n.item room.values)) 13 0 _ (narrow n e) λ e₁.
        by_then (Many (λ k. k ≤ length s) n.item) Any (ops_at t s n.item n.next 0) _ (by_ops_at t n.item n.next 0 (told (count_at s at)) four q₁ (omega (arith, ap told e))) λ xs q₂.
        by_stage Inside Any (batch_count_at s xs.next) _ (by_batch_count xs.next five three q₂.1) λ k e₂ q₃.
        by_case Any (ltb room.records k.item) 13 0 _ (scarce k xs.next e₂) λ e₃. tt

  module _ (s : List ℕ) (most : ℕ) (batch : (p : ℕ) → p < most → P 6 p × P 7 p × P 8 p × P 9 p × P 10 p) (eleven : P 11 0) where
    by_nibbles : (w k at b : ℕ) → b + k ≤ most → Holds (Many (λ n. Unit {0}) k) (nibbles_at w s k at b)
    unfolding sizes_at
    by_nibbles w k at b l =
        by_row (sizes_at w s) (λ n. Unit {0}) most
        (λ at b h u.
        let ns = digits 16 8 (le_at 4 s at) in
        by_refuse Any (not (up_to 9 ns)) 6 b _ (batch b h).0 λ e₁. by_refuse Any (not (up_to 0 (drop w ns))) 6 b _ (batch b h).0 λ e₂. tt)
        k at b l tt

    by_flags : (w k at b : ℕ) → b + k ≤ most → Holds (Many (λ n. Unit {0}) k) (flags_at w s k at b)
    unfolding bits_at
    by_flags w k at b l =
        by_row (bits_at w s) (λ n. Unit {0}) most (λ at b h u. by_refuse Any (not (up_to 0 (drop w (digits 2 8 (get_or s at 0))))) 6 b _ (batch b h).0 λ e. tt) k at b l tt

    abbrev Few : Item Layout → Type 0
    Few l = length l.item.sizes ≤ most

    pub by_layout : (w k at : ℕ) → k ≤ most → Holds Few (layout_at w s k at)
    unfolding layout_at
    by_layout w k at l =
        by_then (Many (λ n. Unit {0}) k) Few (nibbles_at w s k at 0) _ (by_nibbles w k at 0 (omega arith)) λ i q.
        by_then (Many (λ n. Unit {0}) k) Few (flags_at w s k i.next 0) _ (by_flags w k i.next 0 (omega arith)) λ j r. omega (arith, q.0)

    module _ (w : ℕ) (t : List ℕ) (xs : List Op) where
      by_batch : (at b : ℕ) (ns fs : List ℕ) → b < most → Holds Any (batch_at w t xs at b ns fs)
      unfolding batch_at
      by_batch at b ns fs l =
          let h = batch b l in
          let gs = cut (take w ns) xs at in
          by_refuse Any (ltb (length xs) (at + total ns)) 7 b _ h.1 λ e₁.
          by_one Any b (placings_fault t gs) _ (by_placings t gs b h.2 h.3)
          (by_refuse Any (not (padding_right (take (count_from t 0 0 gs) gs) fs)) 10 b _ h.4 λ e₂. tt)

      pub by_records : (l : Layout) → length l.sizes ≤ most → Holds Any (batches_by w t xs l)
      unfolding batches_by batches_at
      by_records l k =
          by_then (Many (λ n. Unit {0}) (length l.sizes)) Any (batches_at w t xs l.sizes l.flags) _
          (by_row (λ at b. batch_at w t xs at b (get_or l.sizes b []) (get_or l.flags b [])) (λ n. Unit {0}) most (λ at b h u. by_batch at b _ _ h) (length l.sizes) 0 0 (omega arith) tt)
          λ i q. by_refuse Any (ltb i.next (length xs)) 11 0 _ eleven λ e. tt

-- ---- the theorem

module _ {A : Type 0} where
  replies : (rs : List Refusal) (Q : A → Type 0) (d : Answer A) → Holds (OneOf rs) Q d → Replies rs d
  replies rs Q (good a) h = tt
  replies rs Q (refused n p) h = h

filled_none : (a : Arena) → filled a no_block ≡ zeros a
unfolding filled no_block codes values in_row
filled_none a = λ j. arena (sym (zeros_fitted (length a.codes)) j) (sym (zeros_fitted (length a.values)) j) (sym (zeros_fitted (length a.records)) j)

lists_same : (cs vs : List ℕ) → length (operations cs vs) ≤ length cs
unfolding operations
lists_same [] vs = omega arith
lists_same (c ∷ cs) [] = omega arith
lists_same (c ∷ cs) (v ∷ vs) = omega (arith, lists_same cs vs)

-- how many places a number has among some refusals
places_for : ℕ → List Refusal → ℕ
places_for n [] = 0
places_for n (r ∷ rs) = cond (eqb n r.number) r.places (places_for n rs)

listed : (n : ℕ) (rs : List Refusal) (p : ℕ) → p < places_for n rs → OneOf rs n p
unfolding places_for
listed n [] p l = absurd (omega arith)
listed n (r ∷ rs) p l = go (eqb n r.number) refl l (listed n rs p)
  where
    go : (b : Bool) → eqb n r.number ≡ b → p < cond b r.places (places_for n rs) → (p < places_for n rs → OneOf rs n p) → OneOf (r ∷ rs) n p
    go true e l f = inl (eqb-true n r.number e, l)
    go false e l f = inr (f l)

-- among these or more
sooner : (rs qs : List Refusal) (n p : ℕ) → OneOf rs n p → OneOf (rs ++ qs) n p
sooner [] qs n p h = elim h [ ]
sooner (r ∷ rs) qs n p (inl h) = inl h
sooner (r ∷ rs) qs n p (inr h) = inr (sooner rs qs n p h)

later : (rs qs : List Refusal) (n p : ℕ) → OneOf qs n p → OneOf (rs ++ qs) n p
later [] qs n p h = h
later (r ∷ rs) qs n p h = inr (later rs qs n p h)

as_many : (rs : List Record) (xs : List Op) (at : ℕ) → length (held_from rs xs at) ≡ length rs
unfolding held_from
as_many [] xs at = refl
as_many (r ∷ rs) xs at = ap suc (as_many rs xs (at + ninth r))

module _ (w : ℕ) where
  build : (t cs vs : List ℕ) (room : Room) → Replies (build_refusals (length cs)) (built w t cs vs room)
  unfolding built places_for
  build t cs vs room =
      let rs = build_refusals (length cs) in
      let P = OneOf rs in
      let Q : Block → Type 0 = Any P in
      let b = block_of (batches_of w t (operations cs vs)) in
      let l = lists_same cs vs in
      replies rs Q (built w t cs vs room)
      (by_refuse P Q (not (eqb (length cs) (length vs)) || ltb 16384 (length cs)) 3 0 _ (listed 3 rs 0 (omega arith)) λ e₁.
      by_refuse P Q (not (good_table t)) 14 0 _ (listed 14 rs 0 (omega arith)) λ e₂.
      by_refuse P Q (eqb (length cs) 0) 12 0 _ (listed 12 rs 0 (omega arith)) λ e₃.
      by_ops P Q t (operations cs vs) _ (λ p k. (listed 4 rs p (omega arith), listed 17 rs p (omega arith)))
      (by_refuse P Q (not (room_for b room)) 13 0 _ (listed 13 rs 0 (omega arith)) λ e₄. tt))

  encode : (t : List ℕ) (a : Arena) (size at : ℕ) → Replies (encode_refusals (ops a) (batches a)) (encoded w t a size at)
  unfolding encoded places_for
  encode t a size at =
      let rs = encode_refusals (ops a) (batches a) in
      let P = OneOf rs in
      let Q : List ℕ → Type 0 = Any P in
      let b = block_in a in
      replies rs Q (encoded w t a size at)
      (by_refuse P Q (not (within a) || ltb 1048576 size) 3 0 _ (listed 3 rs 0 (omega arith)) λ e₁.
      by_refuse P Q (not (good_table t)) 14 0 _ (listed 14 rs 0 (omega arith)) λ e₂.
      by_refuse P Q (ltb size at) 1 0 _ (listed 1 rs 0 (omega arith)) λ e₃.
      by_structure P Q w b _ (λ p k. listed 15 rs p k)
      (by_ops P Q t b.ops _ (λ p k. (listed 4 rs p k, listed 17 rs p k))
      (by_refuse P Q (ltb size (at + length (block_bytes t b))) 13 0 _ (listed 13 rs 0 (omega arith)) λ e₄. tt)))

  decode : (t s : List ℕ) (at : ℕ) (room : Room) → Replies (decode_refusals (length s) (told (count_at s at)) (told_batches (head_at t s at room))) (decoded w t s at room)
  unfolding decoded block_at places_for Narrow Scarce
  decode t s at room =
      let k = told_batches (head_at t s at room) in
      let rs = decode_refusals (length s) (told (count_at s at)) k in
      let P = OneOf rs in
      let Q : Item Block → Type 0 = Any P in
      let two : (p : ℕ) → p ≤ length s → P 2 p = λ p l. listed 2 rs p (omega arith) in
      let three : P 3 0 = listed 3 rs 0 (omega arith) in
      let four : (p : ℕ) → p < told (count_at s at) → P 4 p × P 17 p = λ p l. (listed 4 rs p l, listed 17 rs p l) in
      let five : P 5 0 = listed 5 rs 0 (omega arith) in
      let batch : (p : ℕ) → p < k → P 6 p × P 7 p × P 8 p × P 9 p × P 10 p = λ p l. (listed 6 rs p l, listed 7 rs p l, listed 8 rs p l, listed 9 rs p l, listed 10 rs p l) in
      let eleven : P 11 0 = listed 11 rs 0 (omega arith) in
      let thirteen : P 13 0 = listed 13 rs 0 (omega arith) in
      replies rs Q (decoded w t s at room)
      (by_refuse P Q (ltb 1048576 (length s)) 3 0 _ three λ e₁.
      by_refuse P Q (not (good_table t)) 14 0 _ (listed 14 rs 0 (omega arith)) λ e₂.
      by_refuse P Q (ltb (length s) at) 1 0 _ (listed 1 rs 0 (omega arith)) λ e₃.
      by_stage P (Any P) Q (head_at t s at room) _ (by_head P s two t at room three four five (λ n e f. thirteen) (λ n i e f. thirteen) (ltb-false (length s) at e₃)) λ h e q₁.
      by_then P _ Q (layout_at w s h.item.batches h.next) _ (by_layout P s k batch eleven w h.item.batches h.next (omega (arith, ap told_batches e))) λ l q₂.
      by_then P _ Q (batches_by w t h.item.ops l.item) _ (by_records P s k batch eleven w t h.item.ops l.item q₂) λ r q₃. tt)

  -- the block has as many batches as it says
  as_told : (t s : List ℕ) (at : ℕ) (room : Room) (b : Block) (next : ℕ) → decoded w t s at room ≡ found b next → told_batches (head_at t s at room) ≡ length b.records
  unfolding batches_at
  as_told t s at room b next h =
      let f = stages w t s at room b next h in
      let l = f.layout in
      let i = f.items in
      ap told_batches f.head.is
      ∙ omega (arith, (nibbles_made s w f.k f.a₁ 0 l.sizes i.a₁ i.sizes).0, (row_made _ (λ (r : Record). Unit {0}) (λ at i r next e. tt) _ 0 0 b.records f.used f.records.batches).0)

  strict : Width w → (t s : List ℕ) (at : ℕ) (room : Room) → Replies (strict_refusals (length s) (told (count_at s at)) (told_batches (head_at t s at room))) (strictly_decoded w t s at room)
  unfolding strictly_decoded
  strict width t s at room = go (decoded w t s at room) refl (decode t s at room)
    where
      k : ℕ
      k = told_batches (head_at t s at room)

      rs : List Refusal
      rs = decode_refusals (length s) (told (count_at s at)) k

      more : List Refusal
      more = 18 of 1 ∷ 18 of k ∷ []

      took : (i : Item Block) → decoded w t s at room ≡ good i → Verdict w t s at room i.item i.next → Replies (rs ++ more) (strictly_decoded w t s at room)
      took i e (passes l q r) = rw r tt
      took i e (unlisted l r) = rw r (later rs more 18 0 (inl (refl, omega arith)))
      took i e (differs p q r) = rw r (later rs more 18 p (inr (inl (refl, omega (arith, q.own, as_told t s at room i.item i.next e)))))

      go : (d : Read Block) → decoded w t s at room ≡ d → Replies rs d → Replies (rs ++ more) (strictly_decoded w t s at room)
      go (good i) e h = took i e (verdict w width t s at room i.item i.next e)
      go (refused n p) e h = rw e (sooner rs more n p h)

  compare : (x y : Side) (room : ℕ) → RepliesBy (compare_refusals x y) (compared w x y room)
  unfolding compared
  compare x y room = go (read_at w x) (decode x.table x.bytes x.at x.room) (read_at w y) (decode y.table y.bytes y.at y.room)
    where
      last : (t : Bool) (es : List Entry) → RepliesBy (compare_refusals x y) (cond t (refused_by 0 13 0) (reported es))
      last true es = inl (refl, omega arith)
      last false es = tt

      go : (d : Read Block) → Replies (side_refusals x) d → (e : Read Block) → Replies (side_refusals y) e
          → RepliesBy (compare_refusals x y) (marked 1 d (λ a. marked 2 e (λ b. cond (ltb room (length (blocks_apart a b))) (refused_by 0 13 0) (reported (blocks_apart a b)))))
      go (refused n p) h e k = h
      go (good i) h (refused n p) k = k
      go (good i) h (good j) k = last (ltb room (length (blocks_apart i.item j.item))) (blocks_apart i.item j.item)

  head : (t s : List ℕ) (at : ℕ) → Replies (head_refusals (length s) (told (count_at s at))) (headed t s at)
  unfolding headed places_for Narrow Scarce
  head t s at =
      let rs = head_refusals (length s) (told (count_at s at)) in
      let P = OneOf rs in
      let Q : Item Head → Type 0 = Any P in
      let two : (p : ℕ) → p ≤ length s → P 2 p = λ p l. listed 2 rs p (omega arith) in
      let three : P 3 0 = listed 3 rs 0 (omega arith) in
      replies rs Q (headed t s at)
      (by_refuse P Q (ltb 1048576 (length s)) 3 0 _ three λ e₁.
      by_refuse P Q (not (good_table t)) 14 0 _ (listed 14 rs 0 (omega arith)) λ e₂.
      by_refuse P Q (ltb (length s) at) 1 0 _ (listed 1 rs 0 (omega arith)) λ e₃.
      by_head P s two t at most three (λ p l. (listed 4 rs p l, listed 17 rs p l)) (listed 5 rs 0 (omega arith))
      (λ n e f. let l = count_limit s w n.item at n.next e in absurd (true_false (sym f ∙ rw (le-leb n.item 65535 l))))
      (λ k i e f. let l = batch_count_limit s w k.item i k.next e in absurd (true_false (sym f ∙ le-ltb 16384 k.item l))) (ltb-false (length s) at e₃))

  reader_count : (s : List ℕ) (at : ℕ) → Replies (count_refusals (length s)) (count_here s at)
  unfolding count_here places_for
  reader_count s at =
      let rs = count_refusals (length s) in
      let P = OneOf rs in
      let two : (p : ℕ) → p ≤ length s → P 2 p = λ p l. listed 2 rs p (omega arith) in
      let three : P 3 0 = listed 3 rs 0 (omega arith) in
      replies rs (Inside P s two) (count_here s at)
      (by_refuse P (Inside P s two) (ltb 1048576 (length s)) 3 0 _ three λ e₁.
      by_refuse P (Inside P s two) (ltb (length s) at) 1 0 _ (listed 1 rs 0 (omega arith)) λ e₂. by_count P s two at three (ltb-false (length s) at e₂))

  reader_op : (t s : List ℕ) (at i : ℕ) → Replies (op_refusals (length s) i) (op_here t s at i)
  unfolding op_here places_for
  reader_op t s at i =
      let rs = op_refusals (length s) i in
      let P = OneOf rs in
      let two : (p : ℕ) → p ≤ length s → P 2 p = λ p l. listed 2 rs p (omega arith) in
      replies rs (Inside P s two) (op_here t s at i)
      (by_refuse P (Inside P s two) (ltb 1048576 (length s)) 3 0 _ (listed 3 rs 0 (omega arith)) λ e₁.
      by_refuse P (Inside P s two) (not (good_table t)) 14 0 _ (listed 14 rs 0 (omega arith)) λ e₂.
      by_refuse P (Inside P s two) (ltb (length s) at) 1 0 _ (listed 1 rs 0 (omega arith)) λ e₃. by_op P s two t at i (ltb-false (length s) at e₃) (listed 4 rs i (omega arith), listed 17 rs i (omega arith)))

  structure : (a : Arena) → Replies (structure_refusals (batches a)) (structure_checked w a)
  unfolding structure_checked places_for
  structure a =
      let rs = structure_refusals (batches a) in
      let P = OneOf rs in
      let Q : Unit {0} → Type 0 = Any P in
      replies rs Q (structure_checked w a) (by_refuse P Q (not (within a)) 3 0 _ (listed 3 rs 0 (omega arith)) λ e. by_structure P Q w (block_in a) _ (λ p k. listed 15 rs p k) tt)

  -- the padding check's faults, for the padding check and the tables
  by_padding : (P : ℕ → ℕ → Type 0) {A : Type 0} (Q : A → Type 0) (b : Block) (r : Answer A) → ((p : ℕ) → p < length b.records → P 10 p) → Holds P Q r → Holds P Q (refuse_first 0 (padding_faults b) r)
  unfolding padding_faults padding_fault held
  by_padding P Q b r h k =
      by_first P Q padding_fault (length b.records) (λ x p l. by_cond P (padding_right (under_count x) x.batch.flags) 10 p (h p l)) 0 (held b) r (omega (arith, as_many b.records b.ops 0)) k

  padding : (a : Arena) → Replies (padding_refusals (batches a)) (padding_checked w a)
  unfolding padding_checked places_for
  padding a =
      let rs = padding_refusals (batches a) in
      let P = OneOf rs in
      let Q : Unit {0} → Type 0 = Any P in
      replies rs Q (padding_checked w a)
      (by_refuse P Q (not (within a)) 3 0 _ (listed 3 rs 0 (omega arith)) λ e.
      by_structure P Q w (block_in a) _ (λ p k. listed 15 rs p k) (by_padding P Q (block_in a) _ (λ p k. listed 10 rs p k) tt))

  commitment : (t : List ℕ) (a : Arena) → Replies (commitment_refusals (ops a) (batches a)) (commitment_checked w t a)
  unfolding commitment_checked commitment_faults held places_for
  commitment t a =
      let rs = commitment_refusals (ops a) (batches a) in
      let P = OneOf rs in
      let Q : Unit {0} → Type 0 = Any P in
      let b = block_in a in
      replies rs Q (commitment_checked w t a)
      (by_refuse P Q (not (within a)) 3 0 _ (listed 3 rs 0 (omega arith)) λ e₁.
      by_refuse P Q (not (good_table t)) 14 0 _ (listed 14 rs 0 (omega arith)) λ e₂.
      by_structure P Q w b _ (λ p k. listed 15 rs p k)
      (by_ops P Q t b.ops _ (λ p k. (listed 4 rs p k, listed 17 rs p k))
      (by_first P Q (commitment_fault t) (batches a) (λ x p k. by_commitment P t x p (listed 8 rs p k) (listed 9 rs p k) (listed 16 rs p k)) 0 (held b) _ (omega (arith, as_many b.records b.ops 0)) tt)))

  table : (entries : Block → List ℕ) (a : Arena) (room : ℕ) → Replies (table_refusals (batches a)) (table_of entries w a room)
  unfolding table_of places_for
  table entries a room =
      let rs = table_refusals (batches a) in
      let P = OneOf rs in
      let Q : List ℕ → Type 0 = Any P in
      replies rs Q (table_of entries w a room)
      (by_refuse P Q (not (within a)) 3 0 _ (listed 3 rs 0 (omega arith)) λ e₁.
      by_structure P Q w (block_in a) _ (λ p k. listed 15 rs p k)
      (by_padding P Q (block_in a) _ (λ p k. listed 10 rs p k)
      (by_refuse P Q (ltb room (length (entries (block_in a)))) 13 0 _ (listed 13 rs 0 (omega arith)) λ e₂. tt)))

  module _ {A : Type 0} where
    lookup : (b : Bool) (a : A) → Replies lookup_refusals (refuse b 15 0 (good a))
    lookup true a = inl (refl, omega arith)
    lookup false a = tt

  group : (r : Record) (i : ℕ) → Replies lookup_refusals (group_lookup w r i)
  unfolding group_lookup
  group r i = lookup (not (record_right w r)) (group_of r i)

  next : (r : Record) (g : ℕ) → Replies lookup_refusals (next_lookup w r g)
  unfolding next_lookup
  next r g = lookup (not (record_right w r)) (next_group r g)

  table_zeroes : (out : List ℕ) (n p : ℕ) → table_left out (refused n p) ≡ replicate (length out) 0
  unfolding table_left
  table_zeroes out n p = sym (zeros_fitted (length out))

  compare_zeroes : (room m n p : ℕ) → report_left room (refused_by m n p) ≡ replicate room (pos 0)
  unfolding report_left in_row
  compare_zeroes room m n p = take_all room (replicate room (pos 0)) (omega (arith, length-replicate room (pos 0)))

  nothing_written : (out : List ℕ) (at n p : ℕ) → written out at (refused n p) ≡ out
  unfolding written
  nothing_written out at n p = refl

  pub demand1 : Width w → Demand1 w
  demand1 width =
      record {
        build = build;
        encode = encode;
        decode = decode;
        strict = strict width;
        compare = compare;
        head = head;
        reader_count = reader_count;
        reader_op = reader_op;
        structure = structure;
        padding = padding;
        commitment = commitment;
        table = table;
        group = group;
        next = next;
        build_zeroes = λ a n p. filled_none a;
        decode_zeroes = λ a n p. filled_none a;
        table_zeroes = table_zeroes;
        compare_zeroes = compare_zeroes;
        encode_changes_nothing = nothing_written;
      }
