-- Decoding a batch as one walk over its groups, which is how a program goes: `slots`. It finds what `batch_at` says. Assumes nothing.
use mathlib.Core.Path.{◌≡◌, refl, sym, ap, ◌∙◌}
use mathlib.Core.Bool.{not}
use mathlib.Core.List.{List, [], ◌∷◌, ◌++◌}
use Prim.Native.Nat.{ℕ, zero, suc, ◌+◌, ◌≤◌, ◌<◌}
use native.Mathlib.Nat.{add-zero, zero-add, lt_of_not-le}
use native.Mathlib.Decide.{dec_le}
use native.Mathlib.Omega.{arith}
use borrow.Author.Tests.{le-ltb, lt-ltb}
use lib.ListN.{length, get_or, take, drop, replicate, length-append, length-take, length-drop}
use lib.Seq.{append_snoc, get_or-append_seam}
use lib.Dec.{ltb}
use Rattle.rules.specs.Lists.{fitted, total}
use Rattle.rules.specs.Answer.{Answer, good, refused, Read, found, refuse, or_else, refuse_first, ◌then◌, row}
use Rattle.rules.specs.Refusals.{no_slot₈, slot_taken₉}
use Rattle.rules.specs.Operations.{Op}
use Rattle.rules.specs.Record.{Record, part, cut, immediates, codes_number, record_by}
use Rattle.rules.specs.Checks.{placing_fault, padding_right}
use Rattle.rules.specs.Block.{placings_fault, numbers_from, count_from, batch_at, batches_at}
use Rattle.rules.proofs.Answer.{no_fault}
use Rattle.rules.proofs.Runs.{fitted_zeros}

-- an empty group counts only where one that is not stands after it
unfoldable pub empty_before : List ℕ → List ℕ
empty_before [] = []
empty_before (v ∷ vs) = 0 ∷ v ∷ vs

-- the numbers of the groups of these sizes under the count, where the immediates `due` still want a slot; the operations start at a place
unfoldable pub slots : List ℕ → ℕ → List ℕ → List ℕ → List Op → ℕ → Read (List ℕ)
slots t b [] [] xs at = found [] at
slots t b [] (v ∷ due) xs at = refused no_slot₈ b
slots t b (zero ∷ ns) [] xs at = slots t b ns [] xs at then λ vs end. found (empty_before vs) end
slots t b (zero ∷ ns) (v ∷ due) xs at = slots t b ns due xs at then λ vs end. found (v ∷ vs) end
slots t b (suc n ∷ ns) [] xs at =
    slots t b ns (immediates t (part (suc n) xs at)) xs (at + suc n) then λ vs end. found (codes_number (part (suc n) xs at) ∷ vs) end
slots t b (suc n ∷ ns) (v ∷ due) xs at = refused slot_taken₉ b

-- the b-th batch by it
unfoldable pub batch_by : ℕ → List ℕ → List Op → ℕ → ℕ → List ℕ → List ℕ → Read Record
batch_by w t xs at b ns fs =
    refuse (ltb (length xs) (at + total ns)) 7 b
    (slots t b (take w ns) [] xs at then λ vs end.
    refuse (not (padding_right (take (length vs) (cut ns xs at)) fs)) 10 b
    (found (record_by ns fs vs) end))

-- where neither of two is at fault
pub or_first : (m n : ℕ) → or_else m n ≡ 0 → (m ≡ 0) × (n ≡ 0)
or_first zero n h = (refl, h)
or_first (suc m) n h = absurd (omega arith)

-- a group that lies within the operations is not empty
pub part_some : (n : ℕ) (xs : List Op) (at : ℕ) → at + suc n ≤ length xs → 1 ≤ length (part (suc n) xs at)
part_some n xs at h = omega (arith, length-take (suc n) (drop at xs), length-drop at xs)

-- ---- the count, group by group

-- one more than a count, unless nothing counts
abbrev pub before : ℕ → ℕ
before zero = zero
before (suc n) = suc (suc n)

pub before_is : (k : ℕ) (vs : List ℕ) → k ≤ length vs → empty_before (take k vs) ≡ take (before k) (0 ∷ vs)
unfolding empty_before
before_is zero vs h = refl
before_is (suc k) [] h = absurd (omega arith)
before_is (suc k) (v ∷ vs) h = refl

-- of groups whose first k hold immediates
unfoldable pub counted : List ℕ → ℕ → List (List Op) → ℕ
counted t k [] = 0
counted t zero ([] ∷ gs) = before (counted t zero gs)
counted t (suc k) ([] ∷ gs) = suc (counted t k gs)
counted t k ((x ∷ xs) ∷ gs) = suc (counted t (length (immediates t (x ∷ xs))) gs)

module _ (t : List ℕ) where
  -- where k immediates are due, the groups from the i-th on give this count
  abbrev reach : ℕ → ℕ → ℕ → ℕ
  reach n i zero = n
  reach n i (suc c) = i + suc c

  reach_gap : (n i c : ℕ) → reach n (i + 1) c ≡ reach n i (before c)
  reach_gap n i zero = refl
  reach_gap n i (suc c) = omega arith

  reach_one : (n i k c : ℕ) → n ≡ i + 1 + k → k ≤ c → reach n (i + 1) c ≡ i + suc c
  reach_one n i k zero e h = omega arith
  reach_one n i k (suc c) e h = omega arith

  -- immediates that are placed count
  placed_count : (k : ℕ) (gs : List (List Op)) → placing_fault k gs ≡ 0 → k ≤ counted t k gs
  unfolding placing_fault counted
  placed_count zero gs h = omega arith
  placed_count (suc k) [] h = absurd (omega arith)
  placed_count (suc k) ([] ∷ gs) h = omega (arith, placed_count k gs h)
  placed_count (suc k) ((x ∷ xs) ∷ gs) h = absurd (omega arith)

  Due : ℕ → ℕ → ℕ → Type 0
  Due n i zero = Unit {0}
  Due n i (suc k) = n ≡ i + suc k

  due_from : (i k : ℕ) → Due (i + k) i k
  unfolding Due
  due_from i zero = tt
  due_from i (suc k) = refl

  count_reach : (gs : List (List Op)) (i n k : ℕ) → Due n i k → placing_fault k gs ≡ 0 → placings_fault t gs ≡ 0 → count_from t i n gs ≡ reach n i (counted t k gs)
  unfolding placing_fault placings_fault count_from counted Due immediates
  count_reach [] i n zero d h z = refl
  count_reach [] i n (suc k) d h z = absurd (omega arith)
  count_reach ([] ∷ gs) i n zero d h z = count_reach gs (i + 1) n 0 tt refl z ∙ reach_gap n i (counted t 0 gs)
  count_reach ([] ∷ gs) i n (suc k) d h z =
      count_reach gs (i + 1) n k (down k (omega (arith, d))) h z ∙ reach_one n i k (counted t k gs) (omega (arith, d)) (placed_count k gs h)
    where
      down : (k : ℕ) → n ≡ i + 1 + k → Due n (i + 1) k
      down zero e = tt
      down (suc k) e = e
  count_reach ((x ∷ xs) ∷ gs) i n zero d h z =
      let m = length (immediates t (x ∷ xs)) in
      let q = or_first (placing_fault m gs) (placings_fault t gs) z in
      count_reach gs (i + 1) (i + 1 + m) m (due_from (i + 1) m) q.0 q.1 ∙ reach_one (i + 1 + m) i m (counted t m gs) refl (placed_count m gs q.0)
  count_reach ((x ∷ xs) ∷ gs) i n (suc k) d h z = absurd (omega arith)

  pub count_is : (gs : List (List Op)) → placings_fault t gs ≡ 0 → count_from t 0 0 gs ≡ counted t 0 gs
  unfolding Due placing_fault
  count_is gs z = count_reach gs 0 0 0 tt refl z ∙ go (counted t 0 gs)
    where
      go : (c : ℕ) → reach 0 0 c ≡ c
      go zero = refl
      go (suc c) = omega arith

  pub counted_most : (k : ℕ) (gs : List (List Op)) → counted t k gs ≤ length gs
  unfolding counted
  counted_most k [] = omega arith
  counted_most zero ([] ∷ gs) = go (counted t 0 gs) (counted_most 0 gs)
    where
      go : (n : ℕ) → n ≤ length gs → before n ≤ suc (length gs)
      go zero h = omega arith
      go (suc n) h = omega arith
  counted_most (suc k) ([] ∷ gs) = omega (arith, counted_most k gs)
  counted_most zero ((x ∷ xs) ∷ gs) = omega (arith, counted_most (length (immediates t (x ∷ xs))) gs)
  counted_most (suc k) ((x ∷ xs) ∷ gs) = omega (arith, counted_most (length (immediates t (x ∷ xs))) gs)

  length_numbers : (due : List ℕ) (gs : List (List Op)) → length (numbers_from t due gs) ≡ length gs
  unfolding numbers_from
  length_numbers [] [] = refl
  length_numbers (v ∷ due) [] = refl
  length_numbers [] ([] ∷ gs) = ap suc (length_numbers [] gs)
  length_numbers (v ∷ due) ([] ∷ gs) = ap suc (length_numbers due gs)
  length_numbers [] ((x ∷ xs) ∷ gs) = ap suc (length_numbers (immediates t (x ∷ xs)) gs)
  length_numbers (v ∷ due) ((x ∷ xs) ∷ gs) = ap suc (length_numbers (immediates t (x ∷ xs)) gs)

  -- ---- the numbers under the count, and none after it

  abbrev under : List ℕ → List (List Op) → List ℕ
  under due gs = take (counted t (length due) gs) (numbers_from t due gs)

  under_gap : (gs : List (List Op)) → under [] ([] ∷ gs) ≡ empty_before (under [] gs)
  unfolding numbers_from counted
  under_gap gs = sym (before_is (counted t 0 gs) (numbers_from t [] gs) (omega (arith, counted_most 0 gs, length_numbers [] gs)))

  -- a list, and zeros after it
  record Zeros (short long : List ℕ) : Type 0 where
    more : ℕ
    same : long ≡ short ++ replicate more 0

  zeros_cons : (v : ℕ) (ss ls : List ℕ) → Zeros ss ls → Zeros (v ∷ ss) (v ∷ ls)
  zeros_cons v ss ls z = record { more = z.more; same = ap (λ (l : List ℕ). v ∷ l) z.same }

  zeros_gap : (ss ls : List ℕ) → Zeros ss ls → Zeros (empty_before ss) (0 ∷ ls)
  unfolding empty_before
  zeros_gap [] ls z = record { more = suc z.more; same = ap (λ (l : List ℕ). 0 ∷ l) z.same }
  zeros_gap (s ∷ ss) ls z = zeros_cons 0 (s ∷ ss) ls z

  zeros_after : (due : List ℕ) (gs : List (List Op)) → Zeros (under due gs) (numbers_from t due gs)
  unfolding numbers_from counted
  zeros_after [] [] = record { more = 0; same = refl }
  zeros_after (v ∷ due) [] = record { more = 0; same = refl }
  zeros_after [] ([] ∷ gs) = rw (under_gap gs) (zeros_gap (under [] gs) (numbers_from t [] gs) (zeros_after [] gs))
  zeros_after (v ∷ due) ([] ∷ gs) = zeros_cons v (under due gs) (numbers_from t due gs) (zeros_after due gs)
  zeros_after [] ((x ∷ xs) ∷ gs) = zeros_cons _ _ _ (zeros_after (immediates t (x ∷ xs)) gs)
  zeros_after (v ∷ due) ((x ∷ xs) ∷ gs) = zeros_cons _ _ _ (zeros_after (immediates t (x ∷ xs)) gs)

  fitted_under : (n : ℕ) (gs : List (List Op)) → fitted n (numbers_from t [] gs) ≡ fitted n (under [] gs)
  fitted_under n gs = let z = zeros_after [] gs in ap (fitted n) z.same ∙ fitted_zeros n (under [] gs) z.more

  -- ---- the walk

  -- a fault refuses, for the b-th batch
  abbrev faulted : {A : Type 0} → ℕ → ℕ → Answer A → Answer A
  faulted b n r = refuse_first b (n ∷ []) r

  faulted_then : {A B : Type 0} (b n : ℕ) (a : A) (e : ℕ) (f : A → ℕ → Read B) → (faulted b n (found a e) then f) ≡ faulted b n (f a e)
  unfolding refuse_first
  faulted_then b zero a e f = refl
  faulted_then b (suc n) a e f = refl

  fault_group : (k : ℕ) (g : List Op) (gs : List (List Op)) → 1 ≤ length g → placing_fault (suc k) (g ∷ gs) ≡ 9
  unfolding placing_fault
  fault_group k [] gs h = absurd (omega arith)
  fault_group k (x ∷ g) gs h = refl

  under_group : (g : List Op) (gs : List (List Op)) → 1 ≤ length g → under [] (g ∷ gs) ≡ codes_number g ∷ under (immediates t g) gs
  unfolding numbers_from counted
  under_group [] gs h = absurd (omega arith)
  under_group (x ∷ g) gs h = refl

  module _ (b : ℕ) where
    pub slots_are : (ns due : List ℕ) (xs : List Op) (at : ℕ) → at + total ns ≤ length xs
        → slots t b ns due xs at ≡ faulted b (or_else (placing_fault (length due) (cut ns xs at)) (placings_fault t (cut ns xs at))) (found (under due (cut ns xs at)) (at + total ns))
    unfolding slots total cut placing_fault placings_fault refuse_first immediates numbers_from counted
    slots_are [] [] xs at h = ap (found []) (omega arith)
    slots_are [] (v ∷ due) xs at h = refl
    slots_are (zero ∷ ns) [] xs at h =
        let gs = cut ns xs at in
        rw (add-zero at, zero-add (total ns), under_gap gs, slots_are ns [] xs at (omega arith)) (faulted_then b (placings_fault t gs) (under [] gs) (at + total ns) _)
    slots_are (zero ∷ ns) (v ∷ due) xs at h =
        let gs = cut ns xs at in
        rw (add-zero at, zero-add (total ns), slots_are ns due xs at (omega arith))
        (faulted_then b (or_else (placing_fault (length due) gs) (placings_fault t gs)) (under due gs) (at + total ns) _)
    slots_are (suc n ∷ ns) [] xs at h =
        let g = part (suc n) xs at in
        let gs = cut ns xs (at + suc n) in
        let e : at + (suc n + total ns) ≡ at + suc n + total ns = omega arith in
        rw (e, under_group g gs (part_some n xs at (omega arith)), slots_are ns (immediates t g) xs (at + suc n) (omega arith))
        (faulted_then b (or_else (placing_fault (length (immediates t g)) gs) (placings_fault t gs)) (under (immediates t g) gs) (at + suc n + total ns) _)
    slots_are (suc n ∷ ns) (v ∷ due) xs at h = rw (fault_group (length due) (part (suc n) xs at) (cut ns xs (at + suc n)) (part_some n xs at (omega arith)))

    -- where the walk finds numbers, the count is as document 01 says it
    pub found_counts : (ns : List ℕ) (xs : List Op) (at : ℕ) (vs : List ℕ) (end : ℕ) → at + total ns ≤ length xs → slots t b ns [] xs at ≡ found vs end
        → count_from t 0 0 (cut ns xs at) ≡ counted t 0 (cut ns xs at)
    unfolding placing_fault
    found_counts ns xs at vs end h e =
        count_is (cut ns xs at) ((no_fault b (placings_fault t (cut ns xs at) ∷ []) _ (record { item = vs; next = end }) (sym (slots_are ns [] xs at h) ∙ e)).0 0 (omega arith))

-- ---- a batch

pub total_split : (j : ℕ) (ks : List ℕ) → total (take j ks) + total (drop j ks) ≡ total ks
unfolding total
total_split zero ks = omega arith
total_split (suc j) [] = refl
total_split (suc j) (k ∷ ks) = omega (arith, total_split j ks)

pub cut_front : (j w : ℕ) (ns : List ℕ) (xs : List Op) (at : ℕ) → j ≤ w → take j (cut (take w ns) xs at) ≡ take j (cut ns xs at)
unfolding cut
cut_front zero w ns xs at h = refl
cut_front (suc j) zero ns xs at h = absurd (omega arith)
cut_front (suc j) (suc w) [] xs at h = refl
cut_front (suc j) (suc w) (n ∷ ns) xs at h = ap (λ (l : List (List Op)). part n xs at ∷ l) (cut_front j w ns xs (at + n) (omega arith))

pub length_cut : (ns : List ℕ) (xs : List Op) (at : ℕ) → length (cut ns xs at) ≡ length ns
unfolding cut
length_cut [] xs at = refl
length_cut (n ∷ ns) xs at = ap suc (length_cut ns xs (at + n))

module _ (w : ℕ) (t : List ℕ) (xs : List Op) (at b : ℕ) (ns fs : List ℕ) (z : total (drop w ns) ≡ 0) where
  abbrev gs : List (List Op)
  gs = cut (take w ns) xs at

  -- with no fault of placing
  module _ (h : at + total ns ≤ length xs) where
    few : length (under t [] gs) ≤ w
    few = omega (arith, length-take (counted t 0 gs) (numbers_from t [] gs), counted_most t 0 gs, length_cut (take w ns) xs at, length-take w ns)

    all : length (under t [] gs) ≡ counted t 0 gs
    all = omega (arith, length-take (counted t 0 gs) (numbers_from t [] gs), counted_most t 0 gs, length_numbers t [] gs)

    inside : (n : ℕ) → placings_fault t gs ≡ n → batch_at w t xs at b ns fs ≡ batch_by w t xs at b ns fs
    unfolding batch_at batch_by record_by refuse_first placing_fault
    inside zero e =
        let k : total (take w ns) ≡ total ns = omega (arith, total_split w ns) in
        rw (
          le-ltb (length xs) (at + total ns) h,
          slots_are t b (take w ns) [] xs at (omega arith),
          e,
          sym (cut_front (length (under t [] gs)) w ns xs at few),
          all,
          count_is t gs e,
          fitted_under t 8 gs,
          k,
        )
    inside (suc n) e = rw (le-ltb (length xs) (at + total ns) h, slots_are t b (take w ns) [] xs at (omega (arith, total_split w ns)), e)

-- the two say the same of sizes that leave groups from the width on empty
pub batch_is : (w : ℕ) (t : List ℕ) (xs : List Op) (at b : ℕ) (ns fs : List ℕ) → total (drop w ns) ≡ 0 → batch_at w t xs at b ns fs ≡ batch_by w t xs at b ns fs
unfolding batch_at batch_by
batch_is w t xs at b ns fs z = elim (dec_le (at + total ns) (length xs)) [ yes h ↦ inside w t xs at b ns fs z h _ refl | no h ↦ outside (lt_of_not-le h) ]
  where
    outside : length xs < at + total ns → batch_at w t xs at b ns fs ≡ batch_by w t xs at b ns fs
    outside h = rw (lt-ltb (length xs) (at + total ns) h)

-- ---- batch by batch along the lists of sizes and flags

unfoldable pub batch_by_batch : ℕ → List ℕ → List Op → ℕ → ℕ → List (List ℕ) → List (List ℕ) → Read (List Record)
batch_by_batch w t xs at b [] fss = found [] at
batch_by_batch w t xs at b (ns ∷ nss) [] = found [] at
batch_by_batch w t xs at b (ns ∷ nss) (fs ∷ fss) = batch_at w t xs at b ns fs then λ r next. batch_by_batch w t xs next (b + 1) nss fss then λ rs end. found (r ∷ rs) end

module _ (w : ℕ) (t : List ℕ) (xs : List Op) where
  -- from the b-th batch on, where k batches stand before these lists
  along : (ps qs : List (List ℕ)) (at b : ℕ) (nss fss : List (List ℕ)) → length ps ≡ b → length qs ≡ b → length nss ≡ length fss
      → row (λ at b. batch_at w t xs at b (get_or (ps ++ nss) b []) (get_or (qs ++ fss) b [])) (length nss) at b ≡ batch_by_batch w t xs at b nss fss
  unfolding row batch_by_batch
  along ps qs at b [] fss h k l = refl
  along ps qs at b (ns ∷ nss) [] h k l = absurd (omega arith)
  along ps qs at b (ns ∷ nss) (fs ∷ fss) h k l =
      let e : get_or (ps ++ ns ∷ nss) b [] ≡ ns = ap (λ (i : ℕ). get_or (ps ++ ns ∷ nss) i []) (sym h) ∙ get_or-append_seam ps ns nss [] in
      let f : get_or (qs ++ fs ∷ fss) b [] ≡ fs = ap (λ (i : ℕ). get_or (qs ++ fs ∷ fss) i []) (sym k) ∙ get_or-append_seam qs fs fss [] in
      rw (e, f) (go (batch_at w t xs at b ns fs) (λ next.
      rw (append_snoc ps ns nss, append_snoc qs fs fss) at (along (ps ++ (ns ∷ [])) (qs ++ (fs ∷ [])) next (b + 1) nss fss (omega (arith, length-append ps (ns ∷ []))) (omega (arith, length-append qs (fs ∷ []))) (omega arith))))
    where
      rest : ℕ → Read (List Record)
      rest next = row (λ at b. batch_at w t xs at b (get_or (ps ++ ns ∷ nss) b []) (get_or (qs ++ fs ∷ fss) b [])) (length nss) next (b + 1)

      go : (d : Read Record) → ((next : ℕ) → rest next ≡ batch_by_batch w t xs next (b + 1) nss fss)
          → (d then λ r next. rest next then λ rs end. found (r ∷ rs) end) ≡ (d then λ r next. batch_by_batch w t xs next (b + 1) nss fss then λ rs end. found (r ∷ rs) end)
      go (refused n p) ih = refl
      go (good i) ih = rw (ih i.next)

  pub batches_is : (nss fss : List (List ℕ)) → length nss ≡ length fss → batches_at w t xs nss fss ≡ batch_by_batch w t xs 0 0 nss fss
  unfolding batches_at
  batches_is nss fss l = along [] [] 0 0 nss fss refl refl l
