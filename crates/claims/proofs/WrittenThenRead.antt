-- Decoding the bytes written for batches gives their records and operations. Assumes nothing.
use mathlib.Core.Path.{◌≡◌, refl, sym, ap, ◌∙◌, subst}
use mathlib.Core.List.{List, [], ◌∷◌, ◌++◌, append_assoc, append-nil, map}
use mathlib.Core.Bool.{true, false}
use Prim.Native.Nat.{ℕ, zero, suc, ◌+◌, ◌-◌, ◌*◌, ◌^◌, ◌≤◌, ◌<◌}
use native.Mathlib.Nat.{add-zero, zero-add, pow-zero, pow-succ', mul-suc, mul-le-mul_left}
use native.Mathlib.Omega.{arith}
use borrow.Author.Tests.{eq-eqb, le-leb, le-ltb}
use lib.ListN.{length, get_or, take, drop, replicate, length-append, length-map}
use lib.Seq.{get_or-append_seam, take-append_seam, drop-append_seam, take-append-add, drop-append-add}
use Rattle.rules.specs.Lists.{fitted, total, every, in_row, All}
use Rattle.rules.specs.Digits.{digits, number, le_bytes}
use Rattle.rules.specs.Answer.{found}
use Rattle.rules.specs.Operations.{Op, noop, good_table}
use Rattle.rules.specs.Batching.{Group, ops, imm}
use Rattle.rules.specs.Record.{Record, ops_in, ops_of, padded_of, size_of, flag_of, codes_number, number_of, starts_from, record_by, record_of, Block, block_of, differences, part, cut, immediates}
use Rattle.rules.specs.Bytes.{count_at, count_bytes, ops_at, ops_bytes, batch_count_at, nibble_bytes, flag_bytes, up_to, sizes_at, bits_at, nibbles_at, flags_at}
use Rattle.rules.specs.Block.{Room, block_bytes, batch_at, batches_at, head_at, layout_at, batches_by, block_at}
use Rattle.rules.proofs.Slots.{empty_before, slots, batch_by, batch_is, total_split, batch_by_batch, batches_is}
use Rattle.rules.specs.Checks.{ends_in_noop, padding_right}
use Rattle.rules.specs.Functions.{decoded}
use Rattle.claims.specs.Shape.{EndsInNoop}
use Rattle.claims.proofs.Shape.{RightGroup, Follow}
use Rattle.rules.proofs.Runs.{fitted_length, zeros_fitted}
use Rattle.claims.proofs.Stands.{Stands, here, first_of, rest_of, stands_fits}
use Rattle.claims.proofs.Row.{row_back, found_row}
use Rattle.claims.proofs.ItemsWrittenThenRead.{digits_number, count_back, ops_back, batch_count_stands}
use Rattle.rules.proofs.Digits.{length_digits, le_at_back}
use Rattle.rules.proofs.Operations.{Admissible}
use Rattle.rules.proofs.Sizes.{length_nibbles, length_flags}

-- ---- sizes and flags of records

pub differences_starts : (n : ℕ) (ks : List ℕ) → differences (starts_from n ks) ≡ ks
unfolding differences starts_from
differences_starts n [] = refl
differences_starts n (k ∷ []) = let e : n + k - n ≡ k = omega arith in rw e
differences_starts n (k ∷ j ∷ ks) = let e : n + k - n ≡ k = omega arith in rw (e, differences_starts (n + k) (j ∷ ks))

abbrev pub sizes_of : Record → List ℕ
sizes_of r = differences r.starts

under : (ns : List ℕ) → All (λ n. n ≤ 9) ns → All (λ n. n < 16) ns
under [] h = tt
under (n ∷ ns) h = (omega (arith, h.0), under ns h.1)

pub none_over : (m : ℕ) (ns : List ℕ) → All (λ n. n ≤ m) ns → up_to m ns ≡ true
unfolding every
none_over m [] h = refl
none_over m (n ∷ ns) h = rw (le-leb n m h.0) (none_over m ns h.1)

-- a short list filled up to n
pub fitted_is : (n : ℕ) (xs : List ℕ) → length xs ≤ n → fitted n xs ≡ xs ++ replicate (n - length xs) 0
unfolding fitted
fitted_is zero [] h = refl
fitted_is zero (x ∷ xs) h = absurd (omega arith)
fitted_is (suc n) [] h = let e : suc n - 0 ≡ suc n = omega arith in rw e (ap (λ (l : List ℕ). 0 ∷ l) (sym (zeros_fitted n)))
fitted_is (suc n) (x ∷ xs) h = let e : suc n - suc (length xs) ≡ n - length xs = omega arith in rw e (ap (λ (l : List ℕ). x ∷ l) (fitted_is n xs (omega arith)))

pub number_small : (b : ℕ) (ds : List ℕ) → All (λ d. d < b) ds → number b ds < b ^ length ds
unfolding number
number_small b [] h = rw pow-zero (omega arith)
number_small b (d ∷ ds) h =
    let ih = number_small b ds h.1 in
    let m : b * suc (number b ds) ≤ b * b ^ length ds = mul-le-mul_left b ih in
    rw pow-succ' (omega (arith, h.0, rw mul-suc at m))

-- ---- the operations of a batch

pub part_at : (pre g post : List Op) → part (length g) (pre ++ (g ++ post)) (length pre) ≡ g
part_at pre g post = rw (drop-append_seam pre (g ++ post), take-append_seam g post)

pub total_sizes : (gs : List Group) (k : ℕ) → total (map size_of gs ++ replicate k 0) ≡ length (ops_of gs)
unfolding total in_row size_of
total_sizes [] zero = refl
total_sizes [] (suc k) = rw (total_sizes [] k)
total_sizes (g ∷ gs) k = rw (total_sizes gs k) (sym (length-append (ops_in g) (ops_of gs)))

module _ (w : ℕ) (w8 : w ≤ 8) where
  -- a record as the bytes can say it
  pub record Wire (r : Record) : Type 0 where
    pub sizes : All (λ n. n ≤ 9) (differences r.starts)
    pub eight : length (differences r.starts) ≡ 8
    pub flags : All (λ n. n < 2) r.flags
    pub bits : length r.flags ≡ 8
    pub high : All (λ n. n ≤ 0) (drop w (differences r.starts))
    pub clear : All (λ n. n ≤ 0) (drop w r.flags)

  sizes_back : (r : Record) (p q : List ℕ) (b : ℕ) → Wire r → sizes_at w (p ++ (le_bytes 4 (number 16 (sizes_of r)) ++ q)) (length p) b ≡ found (sizes_of r) (length p + length (le_bytes 4 (number 16 (sizes_of r))))
  unfolding sizes_at
  sizes_back r p q b h =
      let ns = sizes_of r in
      let s : number 16 ns < 256 ^ 4 = rw h.eight at (number_small 16 ns (under ns h.sizes)) in
      let e = le_at_back 4 (number 16 ns) p q s in
      let d : digits 16 8 (number 16 ns) ≡ ns = rw h.eight at (digits_number 16 ns (under ns h.sizes)) in
      rw (e, d, none_over 9 ns h.sizes, none_over 0 (drop w ns) h.high, length_digits 256 4 (number 16 ns))

  pub nibbles_back : (rs : List Record) (p q : List ℕ) (b : ℕ) → All Wire rs
      → nibbles_at w (p ++ (nibble_bytes rs ++ q)) (length rs) (length p) b ≡ found (map sizes_of rs) (length p + length (nibble_bytes rs))
  nibbles_back = row_back (sizes_at w) (λ (r : Record). le_bytes 4 (number 16 (sizes_of r))) sizes_of Wire sizes_back

  bits_back : (r : Record) (p q : List ℕ) (b : ℕ) → Wire r → bits_at w (p ++ (number 2 r.flags ∷ q)) (length p) b ≡ found r.flags (length p + 1)
  unfolding bits_at
  bits_back r p q b h =
      let f : ℕ = number 2 r.flags in
      let e : get_or (p ++ (f ∷ q)) (length p) 0 ≡ f = get_or-append_seam p f q 0 in
      let g : digits 2 8 f ≡ r.flags = rw h.bits at (digits_number 2 r.flags h.flags) in
      rw (e, g, none_over 0 (drop w r.flags) h.clear)

  pub flags_back : (rs : List Record) (p q : List ℕ) (b : ℕ) → All Wire rs
      → flags_at w (p ++ (flag_bytes rs ++ q)) (length rs) (length p) b ≡ found (map (λ r. r.flags) rs) (length p + length (flag_bytes rs))
  flags_back = row_back (bits_at w) (λ (r : Record). number 2 r.flags ∷ []) (λ (r : Record). r.flags) Wire bits_back

  -- ---- the front of sizes that are zero from their end on

  take_zeros : (i j : ℕ) → i ≤ j → take i (replicate {A = ℕ} j 0) ≡ replicate i 0
  take_zeros zero j h = refl
  take_zeros (suc i) zero h = absurd (omega arith)
  take_zeros (suc i) (suc j) h = ap (λ (l : List ℕ). 0 ∷ l) (take_zeros i j (omega arith))

  drop_zeros : (i j : ℕ) → All (λ n. n ≤ 0) (drop i (replicate j 0))
  drop_zeros zero zero = tt
  drop_zeros zero (suc j) = (omega arith, drop_zeros zero j)
  drop_zeros (suc i) zero = tt
  drop_zeros (suc i) (suc j) = drop_zeros i j

  front : (xs : List ℕ) (e : ℕ) → length xs ≤ w → w ≤ e → take w (xs ++ replicate (e - length xs) 0) ≡ xs ++ replicate (w - length xs) 0
  front xs e h k =
      let n : w ≡ length xs + (w - length xs) = omega arith in
      rw (ap (λ (i : ℕ). take i (xs ++ replicate (e - length xs) 0)) n ∙ take-append-add xs (replicate (e - length xs) 0) (w - length xs), take_zeros (w - length xs) (e - length xs) (omega arith))

  beyond : (xs : List ℕ) (e : ℕ) → length xs ≤ w → All (λ n. n ≤ 0) (drop w (xs ++ replicate (e - length xs) 0))
  beyond xs e h =
      let n : w ≡ length xs + (w - length xs) = omega arith in
      rw (ap (λ (i : ℕ). drop i (xs ++ replicate (e - length xs) 0)) n ∙ drop-append-add xs (replicate (e - length xs) 0) (w - length xs)) (drop_zeros (w - length xs) (e - length xs))

  -- ---- a batch

  cut_back : (gs : List Group) (ns : List ℕ) (pre post : List Op) → take (length gs) (cut (map size_of gs ++ ns) (pre ++ (ops_of gs ++ post)) (length pre)) ≡ map ops_in gs
  unfolding cut in_row size_of
  cut_back [] ns pre post = refl
  cut_back (g ∷ gs) ns pre post =
      let x = ops_in g in
      let r = ops_of gs in
      let ih = cut_back gs ns (pre ++ x) post in
      let rest : take (length gs) (cut (map size_of gs ++ ns) (pre ++ (x ++ (r ++ post))) (length pre + length x)) ≡ map ops_in gs = rw (append_assoc pre x (r ++ post), length-append pre x) at ih in
      rw (append_assoc x r post, part_at pre x (r ++ post), rest)

  ends : (xs : List Op) → EndsInNoop xs → ends_in_noop xs ≡ true
  unfolding ends_in_noop noop
  ends [] h = elim h [ ]
  ends (x ∷ []) h = eq-eqb x.code 0 (ap (λ (o : Op). o.code) h)
  ends (x ∷ y ∷ xs) h = ends (y ∷ xs) h

  module _ (t : List ℕ) where
    padding_back : (gs : List Group) (k : ℕ) → All (RightGroup t) gs → padding_right (map ops_in gs) (map flag_of gs ++ replicate k 0) ≡ true
    unfolding padding_right ops_in flag_of
    padding_back [] k h = refl
    padding_back (ops xs true ∷ gs) k h = rw (ends xs h.0.padding) (padding_back gs k h.1)
    padding_back (ops xs false ∷ gs) k h = padding_back gs k h.1
    padding_back (imm v ∷ gs) k h = padding_back gs k h.1

    slots_zeros : (b k : ℕ) (xs : List Op) (at : ℕ) → slots t b (replicate k 0) [] xs at ≡ found [] at
    unfolding slots empty_before
    slots_zeros b zero xs at = refl
    slots_zeros b (suc k) xs at = rw (slots_zeros b k xs at)

    slots_back : (b k : ℕ) (gs : List Group) (due : List ℕ) (pre post : List Op) → Follow t due gs → All (RightGroup t) gs
        → slots t b (map size_of gs ++ replicate k 0) due (pre ++ (ops_of gs ++ post)) (length pre) ≡ found (map number_of gs) (length pre + length (ops_of gs))
    unfolding slots in_row size_of ops_in number_of
    slots_back b k [] [] pre post f h = slots_zeros b k (pre ++ post) (length pre) ∙ ap (found []) (omega arith)
    slots_back b k [] (u ∷ due) pre post f h = elim f [ ]
    slots_back b k (imm v ∷ gs) [] pre post f h = elim f [ ]
    slots_back b k (imm v ∷ gs) (u ∷ due) pre post f h = rw (slots_back b k gs due pre post f.1 h.1, f.0)
    slots_back b k (ops [] p ∷ gs) [] pre post f h = absurd (let z = h.0.some in omega arith)
    slots_back b k (ops (x ∷ xs) p ∷ gs) [] pre post f h =
        let g : List Op = x ∷ xs in
        let r = ops_of gs in
        let ih = slots_back b k gs (immediates t g) (pre ++ g) post f h.1 in
        let rest : slots t b (map size_of gs ++ replicate k 0) (immediates t g) (pre ++ (g ++ (r ++ post))) (length pre + length g) ≡ found (map number_of gs) (length pre + length g + length r) =
        rw (append_assoc pre g (r ++ post), length-append pre g) at ih in
        rw (append_assoc g r post, part_at pre g (r ++ post), rest, length-append g r) (ap (found (codes_number g ∷ map number_of gs)) (omega arith))
    slots_back b k (ops xs p ∷ gs) (u ∷ due) pre post f h = elim f [ ]

    -- a batch that the bytes can say: what build makes is one
    pub record Writable (gs : List Group) : Type 0 where
      pub most : length gs ≤ w
      pub groups : All (RightGroup t) gs
      pub follow : Follow t [] gs

    by_walk : (gs : List Group) (b : ℕ) (pre post : List Op) → Writable gs
        → batch_by w t (pre ++ (ops_of gs ++ post)) (length pre) b (fitted 8 (map size_of gs)) (fitted 8 (map flag_of gs)) ≡ found (record_of gs) (length pre + length (ops_of gs))
    unfolding batch_by record_of
    by_walk gs b pre post wr =
        let ns = map size_of gs ++ replicate (8 - length (map size_of gs)) 0 in
        let xs = pre ++ (ops_of gs ++ post) in
        let n : length xs ≡ length pre + (length (ops_of gs) + length post) = simp length-append in
        let e : total ns ≡ length (ops_of gs) = total_sizes gs (8 - length (map size_of gs)) in
        let m : length (map size_of gs) ≡ length gs = length-map gs size_of in
        let mm : length (map size_of gs) ≤ w = omega (arith, wr.most) in
        let cutoff : take w ns ≡ map size_of gs ++ replicate (w - length (map size_of gs)) 0 = front (map size_of gs) 8 mm w8 in
        let c : length (map number_of gs) ≡ length gs = length-map gs number_of in
        let f : length (map flag_of gs) ≡ length gs = length-map gs flag_of in
        rw (
          fitted_is 8 (map size_of gs) (omega arith),
          fitted_is 8 (map flag_of gs) (omega arith),
          le-ltb (length xs) (length pre + total ns) (omega arith),
          cutoff,
          slots_back b (w - length (map size_of gs)) gs [] pre post wr.follow wr.groups,
          c,
          cut_back gs (replicate (8 - length (map size_of gs)) 0) pre post,
          padding_back gs (8 - length (map flag_of gs)) wr.groups,
        )

    -- no group from the width on has operations
    none_past : (gs : List Group) → Writable gs → total (drop w (fitted 8 (map size_of gs))) ≡ 0
    none_past gs wr =
        let m : length (map size_of gs) ≡ length gs = length-map gs size_of in
        let mm : length (map size_of gs) ≤ w = omega (arith, wr.most) in
        let ns = map size_of gs ++ replicate (8 - length (map size_of gs)) 0 in
        let f : take w ns ≡ map size_of gs ++ replicate (w - length (map size_of gs)) 0 = front (map size_of gs) 8 mm w8 in
        let a : total (take w ns) ≡ length (ops_of gs) = rw f (total_sizes gs (w - length (map size_of gs))) in
        rw (fitted_is 8 (map size_of gs) (omega arith)) (omega (arith, a, total_split w ns, total_sizes gs (8 - length (map size_of gs))))

    batch_back : (gs : List Group) (b : ℕ) (pre post : List Op) → Writable gs
        → batch_at w t (pre ++ (ops_of gs ++ post)) (length pre) b (fitted 8 (map size_of gs)) (fitted 8 (map flag_of gs)) ≡ found (record_of gs) (length pre + length (ops_of gs))
    batch_back gs b pre post wr = batch_is w t _ (length pre) b _ _ (none_past gs wr) ∙ by_walk gs b pre post wr

    sizes_of_lem : (gs : List Group) → sizes_of (record_of gs) ≡ fitted 8 (map size_of gs)
    unfolding record_of record_by
    sizes_of_lem gs = differences_starts 0 (fitted 8 (map size_of gs))

    record_back : (gs : List Group) (b : ℕ) (pre post : List Op) → Writable gs
        → batch_at w t (pre ++ (ops_of gs ++ post)) (length pre) b (sizes_of (record_of gs)) (record_of gs).flags ≡ found (record_of gs) (length pre + length (ops_of gs))
    unfolding record_of record_by
    record_back gs b pre post wr = rw (differences_starts 0 (fitted 8 (map size_of gs))) (batch_back gs b pre post wr)

    flags_of : (gs : List Group) → (record_of gs).flags ≡ fitted 8 (map flag_of gs)
    unfolding record_of record_by
    flags_of gs = refl

    pub batches_back : (bs : List (List Group)) (b : ℕ) (pre post : List Op) → All Writable bs
        → batch_by_batch w t (pre ++ (padded_of bs ++ post)) (length pre) b (map sizes_of (map record_of bs)) (map (λ r. r.flags) (map record_of bs)) ≡ found (map record_of bs) (length pre + length (padded_of bs))
    unfolding batch_by_batch in_row
    batches_back [] b pre post h = rw add-zero
    batches_back (gs ∷ bs) b pre post h =
        let g = ops_of gs in
        let r = padded_of bs in
        let one = record_back gs b pre (r ++ post) h.0 in
        let ih = batches_back bs (b + 1) (pre ++ g) post h.1 in
        let rest : batch_by_batch w t (pre ++ (g ++ (r ++ post))) (length pre + length g) (b + 1) (map sizes_of (map record_of bs)) (map (λ r. r.flags) (map record_of bs)) ≡ found (map record_of bs) (length pre + length g + length r) =
        rw (append_assoc pre g (r ++ post), length-append pre g) at ih in
        let xs = pre ++ (g ++ (r ++ post)) in
        let zs = map sizes_of (map record_of bs) in
        let fs = map (λ r. r.flags) (map record_of bs) in
        let at = length pre in
        let turn = found_row (batch_at w t xs at b (sizes_of (record_of gs)) (record_of gs).flags) (λ next. batch_by_batch w t xs next (b + 1) zs fs) (record_of gs) (map record_of bs) (at + length g) (at + length g + length r) one rest in
        subst (λ u. batch_by_batch w t (pre ++ u) at b (sizes_of (record_of gs) ∷ zs) ((record_of gs).flags ∷ fs) ≡ found (record_of gs ∷ map record_of bs) (at + length (g ++ r))) (sym (append_assoc g r post))
        (turn ∙ ap (found (record_of gs ∷ map record_of bs)) (omega (arith, length-append g r)))

    -- ---- a record of such a batch is one that the bytes can say

    pub all_fitted : (P : ℕ → Type 0) (n : ℕ) (xs : List ℕ) → P 0 → All P xs → All P (fitted n xs)
    unfolding fitted
    all_fitted P zero xs z h = tt
    all_fitted P (suc n) [] z h = (z, all_fitted P n [] z tt)
    all_fitted P (suc n) (x ∷ xs) z h = (h.0, all_fitted P n xs z h.1)

    above : (xs : List ℕ) → length xs ≤ w → All (λ n. n ≤ 0) (drop w (fitted 8 xs))
    above xs h = rw (fitted_is 8 xs (omega (arith, w8))) (beyond xs 8 h)

    sizes_small : (gs : List Group) → All (RightGroup t) gs → All (λ n. n ≤ 9) (map size_of gs)
    unfolding size_of ops_in
    sizes_small [] h = tt
    sizes_small (ops xs p ∷ gs) h = (h.0.nine, sizes_small gs h.1)
    sizes_small (imm v ∷ gs) h = (omega arith, sizes_small gs h.1)

    flags_small : (gs : List Group) → All (λ n. n < 2) (map flag_of gs)
    unfolding flag_of
    flags_small [] = tt
    flags_small (ops xs true ∷ gs) = (omega arith, flags_small gs)
    flags_small (ops xs false ∷ gs) = (omega arith, flags_small gs)
    flags_small (imm v ∷ gs) = (omega arith, flags_small gs)

    wire : (gs : List Group) → Writable gs → Wire (record_of gs)
    wire gs wr =
        record {
          sizes = rw (sizes_of_lem gs) (all_fitted (λ n. n ≤ 9) 8 (map size_of gs) (omega arith) (sizes_small gs wr.groups));
          eight = rw (sizes_of_lem gs) (fitted_length 8 (map size_of gs));
          flags = rw (flags_of gs) (all_fitted (λ n. n < 2) 8 (map flag_of gs) (omega arith) (flags_small gs));
          bits = rw (flags_of gs) (fitted_length 8 (map flag_of gs));
          high = rw (sizes_of_lem gs) (above (map size_of gs) (simp length-map wr.most));
          clear = rw (flags_of gs) (above (map flag_of gs) (simp length-map wr.most));
        }

    wires : (bs : List (List Group)) → All Writable bs → All Wire (map record_of bs)
    wires [] h = tt
    wires (gs ∷ bs) h = (wire gs h.0, wires bs h.1)

  -- ---- a block

  -- what decoding asks of the buffer, the table and the room
  pub record Enough (t s : List ℕ) (at : ℕ) (room : Room) (n k : ℕ) : Type 0 where
    pub table : good_table t ≡ true
    pub buffer : length s ≤ 1048576
    pub place : at ≤ length s
    pub codes : n ≤ room.codes
    pub values : n ≤ room.values
    pub records : k ≤ room.records

  -- the one way through: if the stages answered so, decoding is this
  way : (t s : List ℕ) (at : ℕ) (room : Room) (n a₁ a₂ k a₃ a₄ a₅ : ℕ) (xs : List Op) (nss fss : List (List ℕ)) (rs : List Record)
      → Enough t s at room n k
      → count_at s at ≡ found n a₁ → ops_at t s n a₁ 0 ≡ found xs a₂ → batch_count_at s a₂ ≡ found k a₃ → nibbles_at w s k a₃ 0 ≡ found nss a₄ → flags_at w s k a₄ 0 ≡ found fss a₅
      → batches_at w t xs nss fss ≡ found rs (length xs)
      → decoded w t s at room ≡ found (record { ops = xs; records = rs }) a₅
  unfolding decoded block_at head_at layout_at batches_by
  way t s at room n a₁ a₂ k a₃ a₄ a₅ xs nss fss rs h e₁ e₂ e₃ e₄ e₅ e₆ =
      rw (
        le-ltb 1048576 (length s) h.buffer,
        h.table,
        le-ltb (length s) at h.place,
        e₁,
        le-leb n room.codes h.codes,
        le-leb n room.values h.values,
        e₂,
        e₃,
        le-ltb room.records k h.records,
        e₄,
        e₅,
        e₆,
        le-ltb (length xs) (length xs) (omega arith),
      )

  -- the bytes of a block whose batches are read as `out`
  pub read_back : (t : List ℕ) (blk : Block) (out : List Record) (s : List ℕ) (at : ℕ) (room : Room)
      → All Wire blk.records → All (Admissible t) blk.ops → length blk.ops ≤ 65535 → length blk.records ≤ 16384
      → batches_at w t blk.ops (map sizes_of blk.records) (map (λ r. r.flags) blk.records) ≡ found out (length blk.ops)
      → Stands (block_bytes t blk) s at → Enough t s at room (length blk.ops) (length blk.records)
      → decoded w t s at room ≡ found (record { ops = blk.ops; records = out }) (at + length (block_bytes t blk))
  unfolding block_bytes
  read_back t blk out s at room wr ok few less e₆ st h =
      let xs = blk.ops in
      let rs = blk.records in
      let c = count_bytes (length xs) in
      let o = ops_bytes t xs in
      let b = le_bytes 4 (length rs) in
      let m = nibble_bytes rs in
      let f = flag_bytes rs in
      let lb : length b ≡ 4 = length_digits 256 4 (length rs) in
      let lm : length m ≡ 4 * length rs = length_nibbles rs in
      let lf : length f ≡ length rs = length_flags rs in
      let a₁ = at + length c in
      let a₂ = a₁ + length o in
      let a₃ = a₂ + length b in
      let a₄ = a₃ + length m in
      let s₁ = rest_of c (o ++ (b ++ (m ++ f))) s at st in
      let s₂ = rest_of o (b ++ (m ++ f)) s a₁ s₁ in
      let s₃ = rest_of b (m ++ f) s a₂ s₂ in
      let s₄ = rest_of m f s a₃ s₃ in
      let fits = stands_fits f s a₄ s₄ in
      let e₁ : count_at s at ≡ found (length xs) a₁ = here (λ s at. count_at s at ≡ found (length xs) (at + length c)) c s at (first_of c (o ++ (b ++ (m ++ f))) s at st) (λ p q. count_back (length xs) p q few) in
      let e₂ : ops_at t s (length xs) a₁ 0 ≡ found xs a₂ = here (λ s at. ops_at t s (length xs) at 0 ≡ found xs (at + length o)) o s a₁ (first_of o (b ++ (m ++ f)) s a₁ s₁) (λ p q. ops_back t xs p q 0 ok) in
      let e₃ : batch_count_at s a₂ ≡ found (length rs) a₃ = batch_count_stands (length rs) s a₂ (first_of b (m ++ f) s a₂ s₂) less (omega arith) in
      let e₄ : nibbles_at w s (length rs) a₃ 0 ≡ found (map sizes_of rs) a₄ = here (λ s at. nibbles_at w s (length rs) at 0 ≡ found (map sizes_of rs) (at + length m)) m s a₃ (first_of m f s a₃ s₃) (λ p q. nibbles_back rs p q 0 wr) in
      let e₅ : flags_at w s (length rs) a₄ 0 ≡ found (map (λ r. r.flags) rs) (a₄ + length f) = here (λ s at. flags_at w s (length rs) at 0 ≡ found (map (λ r. r.flags) rs) (at + length f)) f s a₄ s₄ (λ p q. flags_back rs p q 0 wr) in
      let l : a₄ + length f ≡ at + length (c ++ (o ++ (b ++ (m ++ f)))) = simp length-append (omega arith) in
      way t s at room (length xs) a₁ a₂ (length rs) a₃ a₄ (a₄ + length f) xs (map sizes_of rs) (map (λ r. r.flags) rs) out h e₁ e₂ e₃ e₄ e₅ e₆
      ∙ ap (found (record { ops = xs; records = out })) l

  pub block_back : (t : List ℕ) (bs : List (List Group)) (s : List ℕ) (at : ℕ) (room : Room)
      → All (Writable t) bs → All (Admissible t) (padded_of bs) → length (padded_of bs) ≤ 65535 → length bs ≤ 16384
      → Stands (block_bytes t (block_of bs)) s at → Enough t s at room (length (padded_of bs)) (length bs)
      → decoded w t s at room ≡ found (block_of bs) (at + length (block_bytes t (block_of bs)))
  unfolding block_of
  block_back t bs s at room wr ok few less st h =
      let k : length (map record_of bs) ≡ length bs = length-map bs record_of in
      read_back t (block_of bs) (map record_of bs) s at room (wires t bs wr) ok few (omega arith) (batches_is w t (padded_of bs) (map sizes_of (map record_of bs)) (map (λ r. r.flags) (map record_of bs)) (simp length-map) ∙ (rw (append-nil (padded_of bs), zero-add) at (batches_back t bs 0 [] [] wr))) st (rw (sym k) at h)
