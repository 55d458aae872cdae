-- Demand 3 of the block as it is left. Assumes nothing.
use mathlib.Core.Path.{◌≡◌, refl, sym, ap, ap₂, ◌∙◌}
use mathlib.Core.List.{List, [], ◌∷◌, ◌++◌, append_assoc, append-nil, map}
use mathlib.Core.Bool.{Bool, true, false}
use Prim.Native.Nat.{ℕ, zero, suc, ◌+◌, ◌-◌, ◌≤◌}
use native.Mathlib.Nat.{add-zero}
use native.Mathlib.Omega.{arith}
use lib.ListN.{length, drop, replicate, length-append, length-map, length-replicate}
use lib.Seq.{drop_at, take_all}
use Rattle.rules.specs.Lists.{fitted, total, but_last, in_row, All}
use Rattle.rules.specs.Operations.{Op, good_table}
use Rattle.rules.specs.Batching.{Group, ops, imm, wants_noop, batches_of}
use Rattle.rules.specs.Record.{cut, immediates, ops_in, size_of, flag_of, codes_number, number_of, differences, record_by, record_of, ops_of, padded_of, block_of}
use Rattle.rules.specs.Block.{numbers_from}
use Rattle.rules.specs.Checks.{Held, held_from, held, ninth}
use Rattle.rules.specs.Lookups.{marks_in, marks_of, marks}
use Rattle.rules.specs.Strict.{unmarked}
use Rattle.rules.proofs.Operations.{noop_plain}
use Rattle.rules.proofs.Runs.{fitted_length, fitted_zeros}
use Rattle.rules.proofs.Sizes.{marks_in_lem}
use Rattle.claims.proofs.Shape.{raw_in, raw, raws, RightGroup, Follow, RightBatch, RightBatches}
use Rattle.claims.specs.Left.{Counts, ends_in_immediate, LeftGroup, Flagged, plain, padding, AllFlagged, together, all_held, LeftBatch, Left}
use Rattle.claims.proofs.Batching.{list_back}
use Rattle.claims.proofs.Right.{Width, right_batches}
use Rattle.claims.proofs.WrittenThenRead.{differences_starts, fitted_is, part_at, total_sizes}
use Rattle.claims.proofs.ReadThenChecked.{start_at}

-- ---- marks

pub none_marked : {A : Type 0} (xs : List A) → unmarked (marks_in (length xs) 0) xs ≡ xs
unfolding marks_in
none_marked [] = refl
none_marked (x ∷ []) = refl
none_marked {A} (x ∷ y ∷ xs) = ap (λ (l : List A). x ∷ l) (none_marked (y ∷ xs))

pub last_marked : {A : Type 0} (xs : List A) → unmarked (marks_in (length xs) 1) xs ≡ but_last xs
unfolding marks_in
last_marked [] = refl
last_marked (x ∷ []) = refl
last_marked {A} (x ∷ y ∷ xs) = ap (λ (l : List A). x ∷ l) (last_marked (y ∷ xs))

pub unmarked_append : {A : Type 0} (ms ns : List Bool) (xs ys : List A) → length ms ≡ length xs → unmarked (ms ++ ns) (xs ++ ys) ≡ unmarked ms xs ++ unmarked ns ys
unmarked_append [] ns [] ys e = refl
unmarked_append [] ns (x ∷ xs) ys e = absurd (omega arith)
unmarked_append (m ∷ ms) ns [] ys e = absurd (omega arith)
unmarked_append (true ∷ ms) ns (x ∷ xs) ys e = unmarked_append ms ns xs ys (omega arith)
unmarked_append {A} (false ∷ ms) ns (x ∷ xs) ys e = ap (λ (l : List A). x ∷ l) (unmarked_append ms ns xs ys (omega arith))

-- a list of marks, the operations that they are for, and those that stay
pub record Marked (ms : List Bool) (xs ys : List Op) : Type 0 where
  pub as_many : length ms ≡ length xs
  pub stay : unmarked ms xs ≡ ys

marked_append : (ms ns : List Bool) (xs ys us vs : List Op) → Marked ms xs us → Marked ns ys vs → Marked (ms ++ ns) (xs ++ ys) (us ++ vs)
marked_append ms ns xs ys us vs h k =
    record {
      as_many = length-append ms ns ∙ (ap₂ (λ (a b : ℕ). a + b) h.as_many k.as_many ∙ sym (length-append xs ys));
      stay = unmarked_append ms ns xs ys h.as_many ∙ ap₂ (λ (a b : List Op). a ++ b) h.stay k.stay;
    }

marked_group : (g : Group) → Marked (marks_in (size_of g) (flag_of g)) (ops_in g) (raw_in g)
unfolding size_of flag_of ops_in
marked_group (ops xs true) = record { as_many = marks_in_lem (length xs) 1; stay = last_marked xs }
marked_group (ops xs false) = record { as_many = marks_in_lem (length xs) 0; stay = none_marked xs }
marked_group (imm v) = record { as_many = marks_in_lem 0 0; stay = none_marked [] }

marked_batch : (gs : List Group) (k : ℕ) → Marked (marks_of (map size_of gs ++ replicate k 0) (map flag_of gs ++ replicate k 0)) (ops_of gs) (raw gs)
unfolding marks_of marks_in in_row
marked_batch [] zero = record { as_many = refl; stay = refl }
marked_batch [] (suc k) = marked_batch [] k
marked_batch (g ∷ gs) k = marked_append _ _ (ops_in g) (ops_of gs) (raw_in g) (raw gs) (marked_group g) (marked_batch gs k)

-- ---- the record of a batch that has at most eight groups

abbrev pub Short : List Group → Type 0
Short gs = length gs ≤ 8

sizes_are : (gs : List Group) → Short gs → differences (record_of gs).starts ≡ map size_of gs ++ replicate (8 - length gs) 0
unfolding record_of record_by
sizes_are gs h = let m = length-map gs size_of in differences_starts 0 (fitted 8 (map size_of gs)) ∙ (fitted_is 8 (map size_of gs) (omega arith) ∙ rw m)

flags_are : (gs : List Group) → Short gs → (record_of gs).flags ≡ map flag_of gs ++ replicate (8 - length gs) 0
unfolding record_of record_by
flags_are gs h = let m = length-map gs flag_of in fitted_is 8 (map flag_of gs) (omega arith) ∙ rw m

numbers_are : (gs : List Group) → Short gs → (record_of gs).numbers ≡ map number_of gs ++ replicate (8 - length gs) 0
unfolding record_of record_by
numbers_are gs h = let m = length-map gs number_of in fitted_is 8 (map number_of gs) (omega arith) ∙ rw m

pub count_is : (gs : List Group) → (record_of gs).count ≡ length gs
unfolding record_of record_by
count_is gs = length-map gs number_of

pub marked_record : (gs : List Group) → Short gs → Marked (marks_of (differences (record_of gs).starts) (record_of gs).flags) (ops_of gs) (raw gs)
marked_record gs h = rw (sizes_are gs h, flags_are gs h) (marked_batch gs (8 - length gs))

marked_block : (bs : List (List Group)) → All Short bs → Marked (marks (map record_of bs)) (padded_of bs) (raws bs)
unfolding marks in_row
marked_block [] h = record { as_many = refl; stay = refl }
marked_block (gs ∷ bs) h = marked_append _ _ (ops_of gs) (padded_of bs) (raw gs) (raws bs) (marked_record gs h.0) (marked_block bs h.1)

-- ---- the groups that the starts cut out

ninth_is : (gs : List Group) → Short gs → ninth (record_of gs) ≡ length (ops_of gs)
unfolding record_of record_by
ninth_is gs h =
    let ns = fitted 8 (map size_of gs) in
    let l = fitted_length 8 (map size_of gs) in
    let m = length-map gs size_of in
    let e : total ns ≡ length (ops_of gs) = rw (fitted_is 8 (map size_of gs) (omega arith)) (total_sizes gs (8 - length (map size_of gs))) in
    start_at 8 0 ns (omega arith) ∙ (rw (take_all 8 ns (omega arith)) (omega arith))

abbrev groups_of : List Group → List (List Op)
groups_of gs = map ops_in gs ++ replicate (8 - length gs) []

abbrev pub held_of : List Group → Held
held_of gs = record { batch = record_of gs; groups = groups_of gs }

cut_none : (k : ℕ) (xs : List Op) (at : ℕ) → cut (replicate k 0) xs at ≡ replicate k []
unfolding cut
cut_none zero xs at = refl
cut_none (suc k) xs at = rw add-zero (ap (λ (l : List (List Op)). [] ∷ l) (cut_none k xs at))

cut_groups : (gs : List Group) (k : ℕ) (pre post : List Op) → cut (map size_of gs ++ replicate k 0) (pre ++ (ops_of gs ++ post)) (length pre) ≡ map ops_in gs ++ replicate k []
unfolding cut in_row size_of
cut_groups [] k pre post = cut_none k (pre ++ post) (length pre)
cut_groups (g ∷ gs) k pre post =
    let x = ops_in g in
    let r = ops_of gs in
    let ih = cut_groups gs k (pre ++ x) post in
    let rest : cut (map size_of gs ++ replicate k 0) (pre ++ (x ++ (r ++ post))) (length pre + length x) ≡ map ops_in gs ++ replicate k [] = rw (append_assoc pre x (r ++ post), length-append pre x) at ih in
    rw (append_assoc x r post, part_at pre x (r ++ post), rest)

held_from_lem : (bs : List (List Group)) (pre post : List Op) → All Short bs → held_from (map record_of bs) (pre ++ (padded_of bs ++ post)) (length pre) ≡ map held_of bs
unfolding held_from in_row
held_from_lem [] pre post h = refl
held_from_lem (gs ∷ bs) pre post h =
    let x = ops_of gs in
    let r = padded_of bs in
    let ih = held_from_lem bs (pre ++ x) post h.1 in
    let rest : held_from (map record_of bs) (pre ++ (x ++ (r ++ post))) (length pre + length x) ≡ map held_of bs = rw (append_assoc pre x (r ++ post), length-append pre x) at ih in
    rw (append_assoc x r post, sizes_are gs h.0, ninth_is gs h.0, cut_groups gs (8 - length gs) pre (r ++ post), rest)

pub held_is : (bs : List (List Group)) → All Short bs → held (block_of bs) ≡ map held_of bs
unfolding held block_of
held_is bs h = rw (append-nil (padded_of bs)) at (held_from_lem bs [] [] h)

-- ---- each operation lies in one group

together_none : (k : ℕ) → together (replicate k []) ≡ []
together_none zero = refl
together_none (suc k) = together_none k

pub together_groups : (gs : List Group) (k : ℕ) → together (map ops_in gs ++ replicate k []) ≡ ops_of gs
unfolding in_row
together_groups [] k = together_none k
together_groups (g ∷ gs) k = ap (λ (l : List Op). ops_in g ++ l) (together_groups gs k)

whole : (bs : List (List Group)) → all_held (map held_of bs) ≡ padded_of bs
unfolding in_row
whole [] = refl
whole (gs ∷ bs) = ap₂ (λ (a b : List Op). a ++ b) (together_groups gs (8 - length gs)) (whole bs)

-- ---- each batch is right

module _ (t : List ℕ) where
  not_immediate : (xs : List Op) → wants_noop t xs ≡ false → ends_in_immediate t xs ≡ false
  unfolding wants_noop
  not_immediate [] h = refl
  not_immediate (x ∷ []) h = h
  not_immediate (x ∷ y ∷ xs) h = not_immediate (y ∷ xs) h

  left_group : (g : Group) → RightGroup t g → LeftGroup t (ops_in g)
  unfolding ops_in
  left_group (ops xs p) h = record { nine = h.nine; closed = not_immediate xs h.closed }
  left_group (imm v) h = record { nine = omega arith; closed = refl }

  left_none : (k : ℕ) → All (LeftGroup t) (replicate k [])
  left_none zero = tt
  left_none (suc k) = (record { nine = omega arith; closed = refl }, left_none k)

  left_groups : (gs : List Group) (k : ℕ) → All (RightGroup t) gs → All (LeftGroup t) (map ops_in gs ++ replicate k [])
  left_groups [] k h = left_none k
  left_groups (g ∷ gs) k h = (left_group g h.0, left_groups gs k h.1)

  flagged : (g : Group) → RightGroup t g → Flagged (ops_in g) (flag_of g)
  unfolding ops_in flag_of
  flagged (ops xs true) h = padding h.padding
  flagged (ops xs false) h = plain
  flagged (imm v) h = plain

  flagged_none : (k : ℕ) → AllFlagged (replicate k []) (replicate k 0)
  flagged_none zero = tt
  flagged_none (suc k) = (plain, flagged_none k)

  all_flagged : (gs : List Group) (k : ℕ) → All (RightGroup t) gs → AllFlagged (map ops_in gs ++ replicate k []) (map flag_of gs ++ replicate k 0)
  all_flagged [] k h = flagged_none k
  all_flagged (g ∷ gs) k h = (flagged g h.0, all_flagged gs k h.1)

  zeros : (k : ℕ) → All {A = ℕ} (λ n. n ≡ 0) (replicate k 0)
  zeros zero = tt
  zeros (suc k) = (refl, zeros k)

  -- one number for each group and then zeros: from the count on there are the zeros
  zeros_after : (f : Group → ℕ) (gs : List Group) (ns : List ℕ) → ns ≡ map f gs ++ replicate (8 - length gs) 0 → All (λ n. n ≡ 0) (drop (record_of gs).count ns)
  zeros_after f gs ns e = rw (e, count_is gs, drop_at (map f gs) (replicate (8 - length gs) 0) (length gs) (length-map gs f)) (zeros (8 - length gs))

  -- ---- its numbers

  numbers_none : (k : ℕ) → numbers_from t [] (replicate k []) ≡ replicate k 0
  unfolding numbers_from
  numbers_none zero = refl
  numbers_none (suc k) = ap (λ (l : List ℕ). 0 ∷ l) (numbers_none k)

  numbers_follow : (gs : List Group) (due : List ℕ) (k : ℕ) → Follow t due gs → All (RightGroup t) gs → numbers_from t due (map ops_in gs ++ replicate k []) ≡ map number_of gs ++ replicate k 0
  unfolding numbers_from ops_in number_of
  numbers_follow [] [] k f h = numbers_none k
  numbers_follow [] (u ∷ due) k f h = elim f [ ]
  numbers_follow (imm v ∷ gs) [] k f h = elim f [ ]
  numbers_follow (imm v ∷ gs) (u ∷ due) k f h = ap₂ (λ (n : ℕ) (l : List ℕ). n ∷ l) f.0 (numbers_follow gs due k f.1 h.1)
  numbers_follow (ops [] p ∷ gs) [] k f h = absurd (let z = h.0.some in omega arith)
  numbers_follow (ops (x ∷ xs) p ∷ gs) [] k f h = ap (λ (l : List ℕ). codes_number (x ∷ xs) ∷ l) (numbers_follow gs (immediates t (x ∷ xs)) k f h.1)
  numbers_follow (ops xs p ∷ gs) (u ∷ due) k f h = elim f [ ]

  numbers_right : (gs : List Group) → Short gs → Follow t [] gs → All (RightGroup t) gs → (record_of gs).numbers ≡ fitted 8 (numbers_from t [] (groups_of gs))
  unfolding record_of record_by
  numbers_right gs s f h = rw (numbers_follow gs [] (8 - length gs) f h) (sym (fitted_zeros 8 (map number_of gs) (8 - length gs)))

  pub left_batch : (w : ℕ) (gs : List Group) → Short gs → RightBatch w t gs → LeftBatch t (held_of gs)
  left_batch w gs s h =
      record {
        eight = length-append (map ops_in gs) (replicate (8 - length gs) []) ∙ omega (arith, length-map gs ops_in, length-replicate {A = List Op} (8 - length gs) []);
        groups = left_groups gs (8 - length gs) h.groups;
        numbers = numbers_right gs s h.follow h.groups;
        flags = rw (flags_are gs s) (all_flagged gs (8 - length gs) h.groups);
        no_sizes = zeros_after size_of gs _ (sizes_are gs s);
        no_flags = zeros_after flag_of gs _ (flags_are gs s);
        no_numbers = zeros_after number_of gs _ (numbers_are gs s);
      }

  left_batches : (w : ℕ) (bs : List (List Group)) → All Short bs → RightBatches w t bs → All (LeftBatch t) (map held_of bs)
  left_batches w [] s h = tt
  left_batches w (gs ∷ []) s h = (left_batch w gs s.0 h, tt)
  left_batches w (gs ∷ hs ∷ bs) s h = (left_batch w gs s.0 h.1, left_batches w (hs ∷ bs) s.1 h.2)

  counts : (w : ℕ) (bs : List (List Group)) → RightBatches w t bs → Counts w (map record_of bs)
  counts w [] h = tt
  counts w (gs ∷ []) h = (rw (count_is gs) h.power, rw (count_is gs) h.most)
  counts w (gs ∷ hs ∷ bs) h = (rw (count_is gs) h.1.power, count_is gs ∙ h.0, counts w (hs ∷ bs) h.2)

  pub shorts : (w : ℕ) → w ≤ 8 → (bs : List (List Group)) → RightBatches w t bs → All Short bs
  shorts w l [] h = tt
  shorts w l (gs ∷ []) h = (omega (arith, h.most), tt)
  shorts w l (gs ∷ hs ∷ bs) h = (omega (arith, h.1.most), shorts w l (hs ∷ bs) h.2)

  left_of : (w : ℕ) → w ≤ 8 → (xs : List Op) (bs : List (List Group)) → RightBatches w t bs → raws bs ≡ xs → Left w t xs (block_of bs)
  unfolding block_of
  left_of w l xs bs h e =
      let s = shorts w l bs h in
      let m = marked_block bs s in
      record {
        marked = m.as_many;
        back = m.stay ∙ e;
        counts = counts w bs h;
        whole = rw (held_is bs s) (whole bs);
        batches = rw (held_is bs s) (left_batches w bs s h);
      }

-- the block of a list, under a good table
pub left : (w : ℕ) (width : Width w) (t : List ℕ) → good_table t ≡ true → (xs : List Op) → Left w t xs (block_of (batches_of w t xs))
left w width t h xs = left_of t w width.eight xs (batches_of w t xs) (right_batches w width t (noop_plain t h) xs) (list_back t w xs)
