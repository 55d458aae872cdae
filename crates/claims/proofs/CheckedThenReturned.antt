-- What passes the three checks, encoded and decoded. Assumes nothing.
use mathlib.Core.Path.{◌≡◌, refl, sym, ap, ap₂, ◌∙◌}
use mathlib.Core.List.{List, [], ◌∷◌, ◌++◌, map}
use mathlib.Core.Bool.{true, cond}
use Prim.Native.Nat.{ℕ, zero, suc, ◌+◌, ◌≤◌}
use native.Mathlib.Nat.{add-zero, zero-add}
use native.Mathlib.Omega.{arith}
use borrow.Author.Tests.{le-ltb, eqb-true}
use lib.ListN.{length, get_or, take, drop, length-take, length-append, length-map, drop_of_length-le}
use lib.Seq.{take_all}
use lib.Dec.{eqb}
use Rattle.rules.specs.Lists.{fitted, total, every, All}
use Rattle.rules.specs.Answer.{good, found}
use Rattle.rules.specs.Operations.{Op}
use Rattle.rules.specs.Record.{Record, Block, differences, codes_number, record_by, part, cut, immediates, NineAndEight}
use Rattle.rules.specs.Block.{count_from, block_bytes, batch_at, batches_at}
use Rattle.rules.proofs.Slots.{empty_before, slots, before, counted, counted_most, found_counts, batch_by, batch_is, total_split, length_cut, before_is, or_first, part_some, batch_by_batch, batches_is}
use Rattle.rules.specs.Checks.{ninth, record_right, held_from, held, padding_fault, placing_fault, begins, groups_fault, empty_zero, commitment_fault, ends_in_noop, padding_right}
use Rattle.rules.specs.Functions.{Arena, block_in, padding_checked, commitment_checked}
use Rattle.rules.specs.Open.{document}
use Rattle.rules.proofs.Operations.{true_left, true_right, true_both, to_admissible}
use Rattle.claims.specs.Settled.{found_count, settled, settled_block, Settled, Returns, Needed}
use Rattle.claims.proofs.WrittenThenRead.{sizes_of, Wire, read_back}
use Rattle.claims.proofs.Arena.{roomed}
use Rattle.claims.proofs.Demand3.{written_in}
use Rattle.claims.proofs.ReadThenChecked.{laid, Clear, at_most}
use Rattle.claims.proofs.Checked.{no_cond, group_right, Made, made, Facts, facts, no_padding_fault, limits, shaped_in}
use Rattle.claims.proofs.Passes.{Right, here}
use Rattle.claims.proofs.Lists.{all_map}

-- ---- the slots that the commitment check found right are those that decoding takes

module _ (t : List ℕ) (b : ℕ) where
  -- where nothing has operations and nothing is due, nothing counts
  none_counted : (ns : List ℕ) (xs : List Op) (at : ℕ) → total ns ≡ 0 → counted t 0 (cut ns xs at) ≡ 0
  unfolding counted cut total
  none_counted [] xs at h = refl
  none_counted (zero ∷ ns) xs at h = ap before (none_counted ns xs (at + 0) (omega arith))
  none_counted (suc n ∷ ns) xs at h = absurd (omega arith)

  no_slots : (ns : List ℕ) (xs : List Op) (at : ℕ) → total ns ≡ 0 → slots t b ns [] xs at ≡ found [] at
  unfolding slots total empty_before
  no_slots [] xs at h = refl
  no_slots (zero ∷ ns) xs at h = rw (no_slots ns xs at (omega arith))
  no_slots (suc n ∷ ns) xs at h = absurd (omega arith)

  -- a check that passed, taken apart one group further on

  after_gap : (gs : List (List Op)) (n : ℕ) (ns : List ℕ) → Right t b [] ([] ∷ gs) (n ∷ ns) → (n ≡ 0) × Right t b [] gs ns
  unfolding groups_fault empty_zero begins placing_fault
  after_gap gs n ns r =
      (eqb-true n 0 (true_left (eqb n 0) _ r.zeros), record { groups = r.groups; zeros = true_right (eqb n 0) _ r.zeros; values = refl; placed = refl })

  after_slot : (v : ℕ) (due : List ℕ) (gs : List (List Op)) (n : ℕ) (ns : List ℕ) → Right t b (v ∷ due) ([] ∷ gs) (n ∷ ns) → (n ≡ v) × Right t b due gs ns
  unfolding groups_fault empty_zero begins placing_fault
  after_slot v due gs n ns r =
      (eqb-true n v (true_left (eqb n v) _ r.values), record { groups = r.groups; zeros = r.zeros; values = true_right (eqb n v) _ r.values; placed = r.placed })

  after_group : (g : List Op) (gs : List (List Op)) (n : ℕ) (ns : List ℕ) → 1 ≤ length g → Right t b [] (g ∷ gs) (n ∷ ns) → (n ≡ codes_number g) × Right t b (immediates t g) gs ns
  unfolding groups_fault empty_zero
  after_group [] gs n ns l r = absurd (omega arith)
  after_group (x ∷ g) gs n ns l r = let h = group_right t (x ∷ g) gs n ns l r.groups in (h.0, record { groups = h.3; zeros = r.zeros; values = h.2; placed = h.1 })

  -- an immediate that is due has an empty group under the count to go to
  no_room : (v : ℕ) (due ns : List ℕ) → Right t b (v ∷ due) [] ns → ⊥
  unfolding placing_fault
  no_room v due ns r = let z = r.placed in omega arith

  in_the_way : (v : ℕ) (due : List ℕ) (g : List Op) (gs : List (List Op)) (ns : List ℕ) → 1 ≤ length g → Right t b (v ∷ due) (g ∷ gs) ns → ⊥
  unfolding placing_fault
  in_the_way v due [] gs ns l r = omega arith
  in_the_way v due (x ∷ g) gs ns l r = let z = r.placed in omega arith

  counted_group : (k : ℕ) (g : List Op) (gs : List (List Op)) → 1 ≤ length g → counted t k (g ∷ gs) ≡ suc (counted t (length (immediates t g)) gs)
  unfolding counted
  counted_group k [] gs l = absurd (omega arith)
  counted_group zero (x ∷ g) gs l = refl
  counted_group (suc k) (x ∷ g) gs l = refl

  slots_read : (w : ℕ) (ns due : List ℕ) (xs : List Op) (at c : ℕ) (nums : List ℕ) → c ≤ w → Right t b due (take c (cut ns xs at)) nums → total (drop c ns) ≡ 0 → length ns ≤ length nums → at + total ns ≤ length xs
      → slots t b (take w ns) due xs at ≡ found (take (counted t (length due) (cut ns xs at)) nums) (at + total ns)
  unfolding slots cut total counted empty_before
  slots_read zero ns due xs at (suc c) nums k r z l i = absurd (omega arith)
  slots_read zero ns [] xs at zero nums k r z l i = rw (none_counted ns xs at z) (ap (found []) (omega arith))
  slots_read zero ns (v ∷ due) xs at zero nums k r z l i = absurd (no_room v due nums r)
  slots_read (suc w) [] [] xs at c nums k r z l i = ap (found []) (omega arith)
  slots_read (suc w) [] (v ∷ due) xs at zero nums k r z l i = absurd (no_room v due nums r)
  slots_read (suc w) [] (v ∷ due) xs at (suc c) nums k r z l i = absurd (no_room v due nums r)
  slots_read (suc w) (n ∷ ns) due xs at c [] k r z l i = absurd (omega arith)
  slots_read (suc w) (zero ∷ ns) [] xs at zero (m ∷ nums) k r z l i =
      rw (no_slots (take w ns) xs at (omega (arith, total_split w ns)), ap before (none_counted ns xs (at + 0) (omega arith))) (ap (found []) (omega arith))
  slots_read (suc w) (zero ∷ ns) [] xs at (suc c) (m ∷ nums) k r z l i =
      let gs = cut ns xs at in
      let a = after_gap (take c gs) m nums (rw (add-zero at) at r) in
      let ih = slots_read w ns [] xs at c nums (omega arith) a.1 z (omega arith) (omega arith) in
      let j : counted t 0 gs ≤ length nums = omega (arith, counted_most t 0 gs, length_cut ns xs at) in
      rw (add-zero at, zero-add (total ns), ih, before_is (counted t 0 gs) nums j, a.0)
  slots_read (suc w) (zero ∷ ns) (v ∷ due) xs at zero (m ∷ nums) k r z l i = absurd (no_room v due (m ∷ nums) r)
  slots_read (suc w) (zero ∷ ns) (v ∷ due) xs at (suc c) (m ∷ nums) k r z l i =
      let a = after_slot v due (take c (cut ns xs at)) m nums (rw (add-zero at) at r) in
      rw (add-zero at, zero-add (total ns), slots_read w ns due xs at c nums (omega arith) a.1 z (omega arith) (omega arith), a.0)
  slots_read (suc w) (suc n ∷ ns) [] xs at zero (m ∷ nums) k r z l i = absurd (omega arith)
  slots_read (suc w) (suc n ∷ ns) [] xs at (suc c) (m ∷ nums) k r z l i =
      let g = part (suc n) xs at in
      let gs = cut ns xs (at + suc n) in
      let some = part_some n xs at (omega arith) in
      let a = after_group g (take c gs) m nums some r in
      let ih = slots_read w ns (immediates t g) xs (at + suc n) c nums (omega arith) a.1 z (omega arith) (omega arith) in
      rw (ih, counted_group 0 g gs some, a.0) (ap (found (codes_number g ∷ take (counted t (length (immediates t g)) gs) nums)) (omega arith))
  slots_read (suc w) (suc n ∷ ns) (v ∷ due) xs at zero (m ∷ nums) k r z l i = absurd (no_room v due (m ∷ nums) r)
  slots_read (suc w) (suc n ∷ ns) (v ∷ due) xs at (suc c) (m ∷ nums) k r z l i = absurd (in_the_way v due (part (suc n) xs at) (take c (cut ns xs (at + suc n))) (m ∷ nums) (part_some n xs at (omega arith)) r)

-- ---- flags

-- what is right of more groups is right of fewer
fewer_groups : (j c : ℕ) (gs : List (List Op)) (fs : List ℕ) → j ≤ c → padding_right (take c gs) fs ≡ true → padding_right (take j gs) fs ≡ true
unfolding padding_right
fewer_groups zero c gs fs l h = refl
fewer_groups (suc j) zero gs fs l h = absurd (omega arith)
fewer_groups (suc j) (suc c) [] fs l h = refl
fewer_groups (suc j) (suc c) (g ∷ gs) [] l h = refl
fewer_groups (suc j) (suc c) (g ∷ gs) (f ∷ fs) l h =
    let one = cond (eqb f 0) true (ends_in_noop g) in
    true_both one (padding_right (take j gs) fs) (true_left one _ h) (fewer_groups j c gs fs (omega arith) (true_right one _ h))

-- ---- a batch

rest_zero : (c w : ℕ) (ns : List ℕ) → c ≤ w → total (drop c ns) ≡ 0 → total (drop w ns) ≡ 0
unfolding total
rest_zero zero w ns h z = omega (arith, total_split w ns)
rest_zero (suc c) zero ns h z = absurd (omega arith)
rest_zero (suc c) (suc w) [] h z = refl
rest_zero (suc c) (suc w) (n ∷ ns) h z = rest_zero c w ns (omega arith) z

module _ (w : ℕ) (w8 : w ≤ 8) (t : List ℕ) (xs : List Op) where
  -- what the checks say of a batch whose operations begin at a place
  record Checked (at : ℕ) (r : Record) : Type 0 where
    made : Made w r
    clear : Clear w r
    inside : at + ninth r ≤ length xs
    padding : padding_fault (here r xs at) ≡ 0
    commitment : commitment_fault t (here r xs at) ≡ 0

  module _ (at b : ℕ) (r : Record) (h : Checked at r) where
    abbrev ns : List ℕ
    ns = differences r.starts

    abbrev vs : List ℕ
    vs = take (counted t 0 (cut ns xs at)) r.numbers

    inside : at + total ns ≤ length xs
    inside = omega (arith, h.made.sum, h.inside)

    walk : (v : ℕ) → r.count ≤ v → slots t b (take v ns) [] xs at ≡ found vs (at + total ns)
    unfolding commitment_fault begins placing_fault
    walk v l =
        let m = h.made in
        let q = or_first _ _ h.commitment in
        let right : Right t b [] (take r.count (cut ns xs at)) r.numbers = record { groups = q.0; zeros = no_cond _ 15 q.1; values = refl; placed = refl } in
        slots_read t b v ns [] xs at r.count r.numbers l right m.rest (omega (arith, m.many, m.shaped.numbers)) inside

    counts : count_from t 0 0 (cut ns xs at) ≡ counted t 0 (cut ns xs at)
    counts =
        let m = h.made in
        let all : take 8 ns ≡ ns = take_all 8 ns (omega (arith, m.many)) in
        found_counts t b ns xs at vs (at + total ns) inside (rw all at (walk 8 (omega (arith, m.few))))

    batch_read : batch_at w t xs at b ns r.flags ≡ found (settled t (here r xs at)) (at + ninth r)
    unfolding batch_by settled padding_fault
    batch_read =
        let m = h.made in
        let few = m.few in
        let none = rest_zero r.count w ns few m.rest in
        let e = walk w few in
        let under = (laid t b (take r.count ns) [] xs at vs (at + total ns) (walk r.count (omega arith))).short in
        let p = fewer_groups (length vs) r.count (cut ns xs at) r.flags (omega (arith, length-take r.count ns)) (no_cond _ 9 h.padding) in
        batch_is w t xs at b ns r.flags none ∙ rw (le-ltb (length xs) (at + total ns) inside, e, p, m.sum, counts)

  abbrev Batches : ℕ → List Record → Type 0
  Batches at [] = Unit {0}
  Batches at (r ∷ rs) = Checked at r × Batches (at + ninth r) rs

  batches_read : (rs : List Record) (at b : ℕ) → Batches at rs → batch_by_batch w t xs at b (map sizes_of rs) (map (λ r. r.flags) rs) ≡ found (map (settled t) (held_from rs xs at)) (at + total (map ninth rs))
  unfolding batch_by_batch held_from total
  batches_read [] at b h = ap (found []) (omega arith)
  batches_read (r ∷ rs) at b h =
      rw (batch_read at b r h.0, batches_read rs (at + ninth r) (b + 1) h.1) (ap (found (settled t (here r xs at) ∷ map (settled t) (held_from rs xs (at + ninth r)))) (omega arith))

  -- ---- a record that the bytes can say

  zeros_all : (ns : List ℕ) → total ns ≡ 0 → All (λ n. n ≤ 0) ns
  unfolding total
  zeros_all [] h = tt
  zeros_all (n ∷ ns) h = (omega arith, zeros_all ns (omega arith))

  on_wire : (at : ℕ) (r : Record) → Checked at r → Wire w w8 r
  on_wire at r h =
      let m = h.made in
      let few = m.few in
      let ns = differences r.starts in
      record {
        sizes = m.small;
        eight = m.many;
        flags = all_map (λ f k. omega (arith, k)) r.flags (at_most 1 r.flags m.bits);
        bits = m.shaped.flags;
        high = zeros_all (drop w ns) (rest_zero r.count w ns few m.rest);
        clear = at_most 0 (drop w r.flags) h.clear;
      }

  on_wires : (rs : List Record) (at : ℕ) → Batches at rs → All (Wire w w8) rs
  on_wires [] at h = tt
  on_wires (r ∷ rs) at h = (on_wire at r h.0, on_wires rs (at + ninth r) h.1)

module _ (w : ℕ) (w8 : w ≤ 8) (t : List ℕ) (xs : List Op) where
  gather : (rs : List Record) (at : ℕ) → All NineAndEight rs → All (λ r. record_right w r ≡ true) rs → All (Clear w) rs → All (λ h. padding_fault h ≡ 0) (held_from rs xs at) → All (λ h. commitment_fault t h ≡ 0) (held_from rs xs at)
      → at + total (map ninth rs) ≤ length xs → Batches w w8 t xs at rs
  unfolding held_from total
  gather [] at z r n p c l = tt
  gather (x ∷ rs) at z r n p c l =
      (record { made = made w w8 x z.0 r.0; clear = n.0; inside = omega arith; padding = p.0; commitment = c.0 }, gather rs (at + ninth x) z.1 r.1 n.1 p.1 c.1 (omega arith))

-- ---- settled or not

fitted_back : (n c : ℕ) (xs : List ℕ) → length xs ≡ n → All (λ x. x ≡ 0) (drop c xs) → fitted n (take c xs) ≡ xs
unfolding fitted
fitted_back zero c [] l h = refl
fitted_back zero c (x ∷ xs) l h = absurd (omega arith)
fitted_back (suc n) c [] l h = absurd (omega arith)
fitted_back (suc n) zero (x ∷ xs) l h = ap₂ (λ (y : ℕ) (ys : List ℕ). y ∷ ys) (sym h.0) (fitted_back n zero xs (omega arith) h.1)
fitted_back (suc n) (suc c) (x ∷ xs) l h = ap (λ (ys : List ℕ). x ∷ ys) (fitted_back n c xs (omega arith) h)

zeros_after : (n c : ℕ) (xs : List ℕ) → length xs ≡ n → fitted n (take c xs) ≡ xs → All (λ x. x ≡ 0) (drop c xs)
unfolding fitted
zeros_after n zero [] l h = tt
zeros_after n (suc c) [] l h = tt
zeros_after zero c (x ∷ xs) l h = absurd (omega arith)
zeros_after (suc n) zero (x ∷ xs) l h = (sym (ap (λ (ys : List ℕ). get_or ys 0 0) h), zeros_after n zero xs (omega arith) (ap (λ (ys : List ℕ). drop 1 ys) h))
zeros_after (suc n) (suc c) (x ∷ xs) l h = zeros_after n c xs (omega arith) (ap (λ (ys : List ℕ). drop 1 ys) h)

module _ (w : ℕ) (w8 : w ≤ 8) (t : List ℕ) (xs : List Op) where
  module _ (at : ℕ) (r : Record) (b : Checked w w8 t xs at r) where
    abbrev c : ℕ
    c = found_count t (here r xs at)

    -- decoding finds a count under nine
    count_fits : length (take c r.numbers) ≡ c
    count_fits =
        let gs = cut (differences r.starts) xs at in
        let m = b.made in
        omega (arith, counts w w8 t xs at 0 r b, length-take c r.numbers, counted_most t 0 gs, length_cut (differences r.starts) xs at, m.many, m.shaped.numbers)

    one_same : Settled t (here r xs at) → settled t (here r xs at) ≡ r
    unfolding settled record_by
    one_same h =
        let m = b.made in
        let zeros : All (λ n. n ≡ 0) (drop c r.numbers) = rw h.count at h.zeros in
        λ j. record { starts = m.starts j; flags = r.flags; numbers = fitted_back 8 c r.numbers m.shaped.numbers zeros j; count = (count_fits ∙ sym h.count) j }

    one_only : settled t (here r xs at) ≡ r → Settled t (here r xs at)
    unfolding settled record_by
    one_only e =
        let k : r.count ≡ c = sym (ap (λ (x : Record). x.count) e) ∙ count_fits in
        record { count = k; zeros = rw k (zeros_after 8 c r.numbers b.made.shaped.numbers (ap (λ (x : Record). x.numbers) e)) }

  all_same : (rs : List Record) (at : ℕ) → Batches w w8 t xs at rs → All (Settled t) (held_from rs xs at) → map (settled t) (held_from rs xs at) ≡ rs
  unfolding held_from
  all_same [] at b h = refl
  all_same (r ∷ rs) at b h = ap₂ (λ (y : Record) (ys : List Record). y ∷ ys) (one_same at r b.0 h.0) (all_same rs (at + ninth r) b.1 h.1)

  all_only : (rs : List Record) (at : ℕ) → Batches w w8 t xs at rs → map (settled t) (held_from rs xs at) ≡ rs → All (Settled t) (held_from rs xs at)
  unfolding held_from
  all_only [] at b e = tt
  all_only (r ∷ rs) at b e =
      (one_only at r b.0 (ap (λ (ys : List Record). get_or ys 0 r) e), all_only rs (at + ninth r) b.1 (ap (λ (ys : List Record). drop 1 ys) e))

-- ---- the theorem

module _ (w : ℕ) (w8 : w ≤ 8) (t : List ℕ) (a : Arena) (f : Facts w t a) (n : All (Clear w) (block_in a).records) (p : All (λ h. padding_fault h ≡ 0) (held (block_in a))) where
  abbrev b : Block
  b = block_in a

  batches : Batches w w8 t b.ops 0 b.records
  unfolding held
  batches = gather w w8 t b.ops b.records 0 (shaped_in a) f.right n p f.commitment (let s = f.sum in omega arith)

  read : batches_at w t b.ops (map sizes_of b.records) (map (λ r. r.flags) b.records) ≡ found (map (settled t) (held b)) (length b.ops)
  unfolding held
  read = batches_is w t b.ops (map sizes_of b.records) (map (λ r. r.flags) b.records) (simp length-map) ∙ rw (zero-add (total (map ninth b.records)), f.sum) at (batches_read w w8 t b.ops b.records 0 0 batches)

  returned : Returns w t a
  unfolding settled_block held
  returned =
      let few = limits a f.inside in
      record {
        writes = λ size at l k. written_in w t a size at f.inside f.table f.right f.sum f.allowed l k;
        reads = λ before after room l k.
            let r = roomed b room k in
            read_back w w8 t b (map (settled t) (held b)) (before ++ (block_bytes t b ++ after)) (length before) room
            (on_wires w w8 t b.ops b.records 0 batches) (all_map (to_admissible t) b.ops f.allowed) few.0 few.1 read
            (record { before = before; after = after; whole = refl; place = refl })
            (record { table = f.table; buffer = l; place = simp length-append (omega arith); codes = r.0; values = r.1; records = r.2 });
        same = λ h j. record { ops = b.ops; records = all_same w w8 t b.ops b.records 0 batches h j };
        only = λ h. all_only w w8 t b.ops b.records 0 batches (ap (λ (x : Block). x.records) h);
      }

-- no flag stands from the width on: with flags at and above the count kept, this is asked for where the width is under 8
pub returns_clear : (w : ℕ) (w8 : w ≤ 8) (t : List ℕ) (a : Arena) → All (Clear w) (block_in a).records → padding_checked w a ≡ good tt → commitment_checked w t a ≡ good tt → Returns w t a
returns_clear w w8 t a n p c = returned w w8 t a (facts w t a c) n (no_padding_fault w a p)

-- a record has eight flags
pub clear_8 : (r : Record) → NineAndEight r → Clear 8 r
unfolding every
clear_8 r h = rw (drop_of_length-le r.flags {i = 8} (omega (arith, h.flags)))

pub returns : (t : List ℕ) (a : Arena) → padding_checked 8 a ≡ good tt → commitment_checked 8 t a ≡ good tt → Returns 8 t a
returns t a = returns_clear 8 (omega arith) t a (all_map clear_8 (block_in a).records (shaped_in a))

pub needed : Needed
unfolding document settled settled_block
needed = record { checked = (refl, refl); changed = refl }
