-- What decoding takes passes every check of encoding, and lies in an arena as it is. Assumes nothing.
use mathlib.Core.Path.{◌≡◌, refl, sym, ap, ◌∙◌}
use mathlib.Core.List.{List, [], ◌∷◌, map}
use mathlib.Core.Bool.{Bool, true, false, cond, not}
use Prim.Native.Nat.{ℕ, zero, suc, ◌+◌, ◌-◌, ◌/◌, ◌%◌, ◌^◌, ◌≤◌, ◌<◌, zero-le}
use native.Mathlib.Nat.{pow-le-pow_right}
use native.Mathlib.Omega.{arith}
use borrow.Author.Tests.{ltb-false, leb-true, le-leb, eq-eqb, not-false}
use lib.ListN.{length, get_or, take, drop, length-take}
use lib.Dec.{leb, ltb}
use lib.Count.{count_trailing_zeros}
use Rattle.rules.specs.Lists.{total, every, All}
use Rattle.rules.specs.Digits.{digits, number, le_at}
use Rattle.rules.specs.Answer.{found}
use Rattle.rules.specs.Operations.{Op, codes, assigned, valued, has_immediate, value_right, good_table, admissible}
use Rattle.rules.specs.Record.{Record, Block, starts_from, codes_number, record_by, part, cut, immediates}
use Rattle.rules.specs.Bytes.{count_by, count_at, value_at, op_at, ops_at, batch_count_at, up_to, sizes_at, bits_at, nibbles_at, flags_at}
use Rattle.rules.specs.Block.{Room, batch_at}
use Rattle.rules.proofs.Slots.{empty_before, slots, batch_by, batch_is, total_split, batch_by_batch, batches_is}
use Rattle.rules.specs.Checks.{ninth, starts_right, record_right, padding_right}
use Rattle.rules.specs.Functions.{decoded, room_for}
use Rattle.rules.proofs.Answer.{item, settle}
use Rattle.rules.proofs.Digits.{length_digits}
use Rattle.rules.proofs.Runs.{fitted_length}
use Rattle.rules.proofs.Operations.{to_admissible, true_left, true_right, true_both, op_guards, value_guards}
use Rattle.claims.proofs.Found.{clash, passed, came, Found, stages}
use Rattle.claims.proofs.Row.{row_made}
use Rattle.claims.proofs.WrittenThenRead.{number_small, all_fitted}
use Rattle.rules.proofs.Sizes.{length_codes, length_starts}
use Rattle.rules.proofs.Records.{Sized}

abbrev pub flags_right : List ℕ → Bool
flags_right fs = every (λ (f : ℕ). leb f 1) fs

-- ---- slots

pub record Laid (ns : List ℕ) (at : ℕ) (vs : List ℕ) (end : ℕ) : Type 0 where
  pub short : length vs ≤ length ns
  pub rest : total (drop (length vs) ns) ≡ 0
  pub after : end ≡ at + total ns

laid_none : (at : ℕ) → Laid [] at [] at
unfolding total
laid_none at = record { short = omega arith; rest = refl; after = omega arith }

laid_cons : (n v at from : ℕ) (ns vs : List ℕ) (end : ℕ) → from ≡ at + n → Laid ns from vs end → Laid (n ∷ ns) at (v ∷ vs) end
unfolding total
laid_cons n v at from ns vs end e l = record { short = omega (arith, l.short); rest = l.rest; after = omega (arith, l.after) }

laid_empty : (at : ℕ) (ns vs : List ℕ) (end : ℕ) → Laid ns at vs end → Laid (0 ∷ ns) at (empty_before vs) end
unfolding total empty_before
laid_empty at ns [] end l = record { short = omega arith; rest = omega (arith, l.rest); after = omega (arith, l.after) }
laid_empty at ns (v ∷ vs) end l = record { short = omega (arith, l.short); rest = l.rest; after = omega (arith, l.after) }

module _ (t : List ℕ) (b : ℕ) where
  pub laid : (ns due : List ℕ) (xs : List Op) (at : ℕ) (vs : List ℕ) (end : ℕ) → slots t b ns due xs at ≡ found vs end → Laid ns at vs end
  unfolding slots
  laid [] [] xs at vs end h = settle (λ vs end. Laid [] at vs end) [] vs at end h (laid_none at)
  laid [] (v ∷ due) xs at vs end h = absurd (clash 8 b vs end h)
  laid (zero ∷ ns) [] xs at vs end h =
      let a = came (slots t b ns [] xs at) _ vs end h in
      settle (λ vs end. Laid (0 ∷ ns) at vs end) (empty_before a.got) vs a.to end a.rest (laid_empty at ns a.got a.to (laid ns [] xs at a.got a.to a.first))
  laid (zero ∷ ns) (v ∷ due) xs at vs end h =
      let a = came (slots t b ns due xs at) _ vs end h in
      settle (λ vs end. Laid (0 ∷ ns) at vs end) (v ∷ a.got) vs a.to end a.rest (laid_cons 0 v at at ns a.got a.to (omega arith) (laid ns due xs at a.got a.to a.first))
  laid (suc n ∷ ns) [] xs at vs end h =
      let g = part (suc n) xs at in
      let a = came (slots t b ns (immediates t g) xs (at + suc n)) _ vs end h in
      settle (λ vs end. Laid (suc n ∷ ns) at vs end) (codes_number g ∷ a.got) vs a.to end a.rest
      (laid_cons (suc n) (codes_number g) at (at + suc n) ns a.got a.to refl (laid ns (immediates t g) xs (at + suc n) a.got a.to a.first))
  laid (suc n ∷ ns) (v ∷ due) xs at vs end h = absurd (clash 9 b vs end h)

-- ---- a record made from sizes and flags

pub start_at : (j n : ℕ) (ks : List ℕ) → j ≤ length ks → get_or (starts_from n ks) j 0 ≡ n + total (take j ks)
unfolding starts_from total
start_at zero n [] h = omega arith
start_at (suc j) n [] h = absurd (omega arith)
start_at zero n (k ∷ ks) h = omega arith
start_at (suc j) n (k ∷ ks) h = start_at j (n + k) ks (omega arith) ∙ omega arith

pub take_total : (ks : List ℕ) (n : ℕ) → length ks ≡ n → total (take n ks) ≡ total ks
unfolding total
take_total [] zero h = refl
take_total [] (suc n) h = absurd (omega arith)
take_total (k ∷ ks) zero h = absurd (omega arith)
take_total (k ∷ ks) (suc n) h = rw (take_total ks n (omega arith))

starts_right_lem : (n : ℕ) (ks : List ℕ) → All (λ k. k ≤ 9) ks → starts_right (starts_from n ks) ≡ true
unfolding starts_from starts_right
starts_right_lem n [] h = refl
starts_right_lem n (k ∷ []) h = rw (le-leb n (n + k) (omega arith), le-leb (n + k) (n + 9) (omega (arith, h.0)))
starts_right_lem n (k ∷ j ∷ ks) h = rw (le-leb n (n + k) (omega arith), le-leb (n + k) (n + 9) (omega (arith, h.0))) (starts_right_lem (n + k) (j ∷ ks) h.1)

first_start : (ks : List ℕ) → get_or (starts_from 0 ks) 0 0 ≡ 0
unfolding starts_from
first_start [] = refl
first_start (k ∷ ks) = refl

-- sizes as the bytes give them
pub record Sizes (w : ℕ) (ns : List ℕ) : Type 0 where
  pub high : total (drop w ns) ≡ 0
  pub many : length ns ≡ 8
  pub small : All (λ k. k ≤ 9) ns

pub record_right_lem : (w : ℕ) (ns fs vs : List ℕ) (at end : ℕ) → Sizes w ns → flags_right fs ≡ true → Laid ns at vs end → length vs ≤ w → record_right w (record_by ns fs vs) ≡ true
unfolding record_right record_by
record_right_lem w ns fs vs at end z f l c =
    let m = z.many in
    let k = l.short in
    let a = start_at (length vs) 0 ns k in
    let b = start_at 8 0 ns (omega arith) in
    let e : get_or (starts_from 0 ns) (length vs) 0 ≡ get_or (starts_from 0 ns) 8 0 = omega (arith, a, b, total_split (length vs) ns, l.rest, take_total ns 8 m) in
    rw (le-leb (length vs) w c, f, eq-eqb (get_or (starts_from 0 ns) 0 0) 0 (first_start ns), starts_right_lem 0 ns z.small) (eq-eqb (get_or (starts_from 0 ns) (length vs) 0) (get_or (starts_from 0 ns) 8 0) e)

pub ninth_is : (w : ℕ) (ns fs vs : List ℕ) → Sizes w ns → ninth (record_by ns fs vs) ≡ total ns
unfolding record_by
ninth_is w ns fs vs z = let m = z.many in omega (arith, start_at 8 0 ns (omega arith), take_total ns 8 m)

-- a batch laid in the front of sizes that are 0 after it
pub laid_front : (w : ℕ) (ns : List ℕ) (at : ℕ) (vs : List ℕ) (end : ℕ) → total (drop w ns) ≡ 0 → Laid (take w ns) at vs end → Laid ns at vs end
laid_front w ns at vs end z l =
    let a = l.rest in
    let b = l.after in
    let c = total_split w ns in
    let s = l.short in
    record {
      short = omega (arith, length-take w ns);
      rest = past w (length vs) ns (omega (arith, length-take w ns)) z a;
      after = omega arith;
    }
  where
    past : (w j : ℕ) (ns : List ℕ) → j ≤ w → total (drop w ns) ≡ 0 → total (drop j (take w ns)) ≡ 0 → total (drop j ns) ≡ 0
    past w zero ns h z a = omega (arith, total_split w ns)
    past zero (suc j) ns h z a = absurd (omega arith)
    past (suc w) (suc j) [] h z a = a
    past (suc w) (suc j) (n ∷ ns) h z a = past w j ns (omega arith) z a

-- ---- nibbles and flags

pub zeros_total : (ns : List ℕ) → up_to 0 ns ≡ true → total ns ≡ 0
unfolding every total
zeros_total [] h = refl
zeros_total (n ∷ ns) h = omega (arith, leb-true n 0 (true_left (leb n 0) (up_to 0 ns) h), zeros_total ns (true_right (leb n 0) (up_to 0 ns) h))

pub at_most : (m : ℕ) (ns : List ℕ) → up_to m ns ≡ true → All (λ k. k ≤ m) ns
unfolding every
at_most m [] h = tt
at_most m (n ∷ ns) h = (leb-true n m (true_left (leb n m) (up_to m ns) h), at_most m ns (true_right (leb n m) (up_to m ns) h))

pub bits_right : (k v : ℕ) → flags_right (digits 2 k v) ≡ true
unfolding every digits
bits_right zero v = refl
bits_right (suc k) v = rw (le-leb (v % 2) 1 (omega arith)) (bits_right k (v / 2))

-- flags as the bytes give them
pub record Bits (w : ℕ) (fs : List ℕ) : Type 0 where
  pub right : flags_right fs ≡ true
  pub many : length fs ≡ 8
  pub clear : up_to 0 (drop w fs) ≡ true

-- no flag stands from the width on
abbrev pub Clear : ℕ → Record → Type 0
Clear w r = up_to 0 (drop w r.flags) ≡ true

module _ (s : List ℕ) (w : ℕ) where
  sizes_made : (at b : ℕ) (ns : List ℕ) (next : ℕ) → sizes_at w s at b ≡ found ns next → Sizes w ns
  unfolding sizes_at
  sizes_made at b ns next h =
      let ds = digits 16 8 (le_at 4 s at) in
      let a = passed (not (up_to 9 ds)) 6 b _ ns next h in
      let z = passed (not (up_to 0 (drop w ds))) 6 b _ ns next a.1 in
      settle (λ ns next. Sizes w ns) ds ns (at + 4) next z.1 (record { high = zeros_total (drop w ds) (not-false _ z.0); many = length_digits 16 8 (le_at 4 s at); small = at_most 9 ds (not-false _ a.0) })

  pub nibbles_made : (k at b : ℕ) (nss : List (List ℕ)) (next : ℕ) → nibbles_at w s k at b ≡ found nss next → (length nss ≡ k) × All (Sizes w) nss
  nibbles_made = row_made (sizes_at w s) (Sizes w) sizes_made

  bits_made : (at b : ℕ) (fs : List ℕ) (next : ℕ) → bits_at w s at b ≡ found fs next → Bits w fs
  unfolding bits_at
  bits_made at b fs next h =
      let f = digits 2 8 (get_or s at 0) in
      let a = passed (not (up_to 0 (drop w f))) 6 b _ fs next h in
      settle (λ fs next. Bits w fs) f fs (at + 1) next a.1 (record { right = bits_right 8 (get_or s at 0); many = length_digits 2 8 (get_or s at 0); clear = not-false _ a.0 })

  pub flags_made : (k at b : ℕ) (fss : List (List ℕ)) (next : ℕ) → flags_at w s k at b ≡ found fss next → (length fss ≡ k) × All (Bits w) fss
  flags_made = row_made (bits_at w s) (Bits w) bits_made

  -- ---- counts and operations

  pub count_limit : (v at next : ℕ) → count_at s at ≡ found v next → v ≤ 65535
  unfolding count_at count_by
  count_limit v at next h =
      let a = passed (leb (length s) at) 2 at _ v next h in
      go (count_trailing_zeros 8 (get_or s at 0)) a.1
    where
      go : (t : ℕ) → count_by t s at ≡ found v next → v ≤ 65535
      go t k =
          let n = le_at (t + 1) s at / 2 ^ (t + 1) in
          let b = passed (ltb 2 t) 3 0 _ v next k in
          let c = passed (ltb (length s) (at + t + 1)) 2 at _ v next b.1 in
          let d = passed (ltb n _) 3 0 _ v next c.1 in
          let e = passed (ltb 65535 n) 3 0 _ v next d.1 in
          rw (item n v (at + t + 1) next e.1) at (ltb-false 65535 n e.0)

  pub batch_count_limit : (k at next : ℕ) → batch_count_at s at ≡ found k next → k ≤ 16384
  unfolding batch_count_at
  batch_count_limit k at next h =
      let n = le_at 4 s at in
      let a = passed (ltb (length s) (at + 4)) 2 at _ k next h in
      let b = passed (ltb ((length s - (at + 4)) / 5) n) 5 0 _ k next a.1 in
      let c = passed (ltb 16384 n) 3 0 _ k next b.1 in
      rw (item n k (at + 4) next c.1) at (ltb-false 16384 n c.0)

  module _ (t : List ℕ) where
    plain : (c : ℕ) → valued t c ≡ false → value_right t (record { code = c; value = 0 }) ≡ true
    unfolding value_right
    plain c h = rw h

    op_allowed : (at i : ℕ) (x : Op) (next : ℕ) → op_at t s at i ≡ found x next → admissible t x ≡ true
    unfolding admissible
    op_allowed at i x next h =
        let c = get_or s at 0 in
        let a = passed (leb (length s) at) 2 at _ x next (rw (op_guards t s at i) at h) in
        let d = passed (not (assigned t c)) 4 i _ x next a.1 in
        go (valued t c) refl (not-false _ d.0) d.1
      where
        go : (v : Bool) → valued t (get_or s at 0) ≡ v → assigned t (get_or s at 0) ≡ true → cond v (value_at t s at i (get_or s at 0)) (found (record { code = get_or s at 0; value = 0 }) (at + 1)) ≡ found x next → admissible t x ≡ true
        go true v k e =
            let y : Op = record { code = get_or s at 0; value = le_at 8 s (at + 1) } in
            let f = passed (ltb (length s) (at + 9)) 2 at _ x next (rw (value_guards t s at i (get_or s at 0)) at e) in
            let g = passed (not (value_right t y)) 17 i _ x next f.1 in
            settle (λ x next. admissible t x ≡ true) y x (at + 9) next g.1 (true_both _ _ k (not-false _ g.0))
        go false v k e = settle (λ x next. admissible t x ≡ true) (record { code = get_or s at 0; value = 0 }) x (at + 1) next e (true_both _ _ k (plain (get_or s at 0) v))

    pub ops_allowed : (n at i : ℕ) (xs : List Op) (next : ℕ) → ops_at t s n at i ≡ found xs next → (length xs ≡ n) × All (λ x. admissible t x ≡ true) xs
    ops_allowed = row_made (op_at t s) (λ x. admissible t x ≡ true) op_allowed

-- ---- numbers fit eight bytes

abbrev Small : ℕ → Type 0
Small n = n < 256 ^ 8

module _ (t : List ℕ) where
  abbrev Allowed : List Op → Type 0
  Allowed xs = All (λ x. admissible t x ≡ true) xs

  pub codes_below : (xs : List Op) → Allowed xs → All (λ c. c < 128) (codes xs)
  unfolding codes
  codes_below [] h = tt
  codes_below (x ∷ xs) h = ((to_admissible t x h.0).code, codes_below xs h.1)

  pub number_fits : (xs : List Op) → Allowed xs → length xs ≤ 9 → Small (codes_number xs)
  unfolding codes_number
  number_fits xs h l =
      let a : number 128 (codes xs) < 128 ^ length (codes xs) = number_small 128 (codes xs) (codes_below xs h) in
      let k : length (codes xs) ≤ 9 = omega (arith, length_codes xs) in
      let p : 0 < 128 = omega arith in
      let b : 128 ^ length (codes xs) ≤ 128 ^ 9 = pow-le-pow_right p k in
      omega arith

  pub immediates_fit : (xs : List Op) → Allowed xs → All Small (immediates t xs)
  unfolding immediates
  immediates_fit [] h = tt
  immediates_fit (x ∷ xs) h = go (has_immediate t x) (immediates_fit xs h.1)
    where
      go : (b : Bool) → All Small (immediates t xs) → All Small (cond b (x.value ∷ immediates t xs) (immediates t xs))
      go true k = (let z = (to_admissible t x h.0).small in omega arith, k)
      go false k = k

  all_take : (n : ℕ) (xs : List Op) → Allowed xs → Allowed (take n xs)
  all_take zero xs h = tt
  all_take (suc n) [] h = tt
  all_take (suc n) (x ∷ xs) h = (h.0, all_take n xs h.1)

  all_drop : (n : ℕ) (xs : List Op) → Allowed xs → Allowed (drop n xs)
  all_drop zero xs h = h
  all_drop (suc n) [] h = tt
  all_drop (suc n) (x ∷ xs) h = all_drop n xs h.1

  pub part_allowed : (n : ℕ) (xs : List Op) (at : ℕ) → Allowed xs → Allowed (part n xs at)
  part_allowed n xs at h = all_take n (drop at xs) (all_drop at xs h)

  part_short : (n : ℕ) (xs : List Op) (at : ℕ) → length (part n xs at) ≤ n
  part_short n xs at = omega (arith, length-take n (drop at xs))

  module _ (b : ℕ) where
    slots_fit : (ns due : List ℕ) (xs : List Op) (at : ℕ) (vs : List ℕ) (end : ℕ) → Allowed xs → All (λ k. k ≤ 9) ns → All Small due → slots t b ns due xs at ≡ found vs end → All Small vs
    unfolding slots empty_before
    slots_fit [] [] xs at vs end o z d h = settle (λ vs end. All Small vs) [] vs at end h tt
    slots_fit [] (v ∷ due) xs at vs end o z d h = absurd (clash 8 b vs end h)
    slots_fit (zero ∷ ns) [] xs at vs end o z d h =
        let a = came (slots t b ns [] xs at) _ vs end h in
        settle (λ vs end. All Small vs) (empty_before a.got) vs a.to end a.rest (gap a.got (slots_fit ns [] xs at a.got a.to o z.1 tt a.first))
      where
        gap : (vs : List ℕ) → All Small vs → All Small (empty_before vs)
        gap [] k = tt
        gap (v ∷ vs) k = (omega arith, k)
    slots_fit (zero ∷ ns) (v ∷ due) xs at vs end o z d h =
        let a = came (slots t b ns due xs at) _ vs end h in
        settle (λ vs end. All Small vs) (v ∷ a.got) vs a.to end a.rest (d.0, slots_fit ns due xs at a.got a.to o z.1 d.1 a.first)
    slots_fit (suc n ∷ ns) [] xs at vs end o z d h =
        let g = part (suc n) xs at in
        let q = part_allowed (suc n) xs at o in
        let a = came (slots t b ns (immediates t g) xs (at + suc n)) _ vs end h in
        settle (λ vs end. All Small vs) (codes_number g ∷ a.got) vs a.to end a.rest
        (number_fits g q (omega (arith, part_short (suc n) xs at, z.0)), slots_fit ns (immediates t g) xs (at + suc n) a.got a.to o z.1 (immediates_fit g q) a.first)
    slots_fit (suc n ∷ ns) (v ∷ due) xs at vs end o z d h = absurd (clash 9 b vs end h)

pub sized : (ns fs vs : List ℕ) → length ns ≡ 8 → length fs ≡ 8 → All Small vs → Sized (record_by ns fs vs)
unfolding record_by
sized ns fs vs l m h =
    record {
      whole = record { starts = length_starts 0 ns ∙ omega arith; flags = m; numbers = fitted_length 8 vs };
      small = all_fitted 8 (omega arith) [] Small 8 vs (omega arith) h;
    }

all_front : (P : ℕ → Type 0) (w : ℕ) (ns : List ℕ) → All P ns → All P (take w ns)
all_front P zero ns h = tt
all_front P (suc w) [] h = tt
all_front P (suc w) (n ∷ ns) h = (h.0, all_front P w ns h.1)

-- ---- batches

module _ (w : ℕ) (t : List ℕ) (xs : List Op) (o : All (λ x. admissible t x ≡ true) xs) where
  -- what a batch that was read is
  pub record Read-batch (at : ℕ) (r : Record) (next : ℕ) : Type 0 where
    pub right : record_right w r ≡ true
    pub clear : Clear w r
    pub sized : Sized r
    pub after : next ≡ at + ninth r
    pub inside : next ≤ length xs

  made_clear : (ns fs vs : List ℕ) → up_to 0 (drop w fs) ≡ true → Clear w (record_by ns fs vs)
  unfolding record_by
  made_clear ns fs vs h = h

  pub batch_made : (at b : ℕ) (ns fs : List ℕ) (r : Record) (next : ℕ) → Sizes w ns → Bits w fs → batch_at w t xs at b ns fs ≡ found r next → Read-batch at r next
  unfolding batch_by
  batch_made at b ns fs r next z f h =
      let a = passed (ltb (length xs) (at + total ns)) 7 b _ r next (sym (batch_is w t xs at b ns fs z.high) ∙ h) in
      let d = came (slots t b (take w ns) [] xs at) _ r next a.1 in
      let vs = d.got in
      let e = passed (not (padding_right (take (length vs) (cut ns xs at)) fs)) 10 b _ r next d.rest in
      let lf = laid t b (take w ns) [] xs at vs d.to d.first in
      let l = laid_front w ns at vs d.to z.high lf in
      settle (λ r next. Read-batch at r next) (record_by ns fs vs) r d.to next e.1
      (record {
        right = record_right_lem w ns fs vs at d.to z f.right l (omega (arith, lf.short, length-take w ns));
        clear = made_clear ns fs vs f.clear;
        sized = sized ns fs vs z.many f.many (slots_fit t b (take w ns) [] xs at vs d.to o (all_front (λ k. k ≤ 9) w ns z.small) tt d.first);
        after = rw (ninth_is w ns fs vs z) l.after;
        inside = rw (sym l.after) at (ltb-false (length xs) (at + total ns) a.0);
      })

  record Read-batches (at : ℕ) (rs : List Record) (next : ℕ) : Type 0 where
    right : All (λ r. record_right w r ≡ true) rs
    clear : All (Clear w) rs
    sized : All Sized rs
    after : next ≡ at + total (map ninth rs)
    inside : next ≤ length xs

  none_made : (at : ℕ) → at ≤ length xs → Read-batches at [] at
  unfolding total
  none_made at k = record { right = tt; clear = tt; sized = tt; after = omega arith; inside = k }

  more_made : (at to next : ℕ) (r : Record) (rs : List Record) → Read-batch at r to → Read-batches to rs next → Read-batches at (r ∷ rs) next
  unfolding total
  more_made at to next r rs a d = record { right = (a.right, d.right); clear = (a.clear, d.clear); sized = (a.sized, d.sized); after = omega (arith, a.after, d.after); inside = d.inside }

  batches_made : (nss fss : List (List ℕ)) (at b : ℕ) (rs : List Record) (next : ℕ) → length nss ≡ length fss → All (Sizes w) nss → All (Bits w) fss → at ≤ length xs
      → batch_by_batch w t xs at b nss fss ≡ found rs next → Read-batches at rs next × (length rs ≡ length nss)
  unfolding batch_by_batch
  batches_made [] [] at b rs next l z f k h = settle (λ rs next. Read-batches at rs next × (length rs ≡ 0)) [] rs at next h (none_made at k, refl)
  batches_made [] (fs ∷ fss) at b rs next l z f k h = absurd (omega arith)
  batches_made (ns ∷ nss) [] at b rs next l z f k h = absurd (omega arith)
  batches_made (ns ∷ nss) (fs ∷ fss) at b rs next l z f k h =
      let a = came (batch_at w t xs at b ns fs) _ rs next h in
      let d = came (batch_by_batch w t xs a.to (b + 1) nss fss) _ rs next a.rest in
      let one = batch_made at b ns fs a.got a.to z.0 f.0 a.first in
      let ih = batches_made nss fss a.to (b + 1) d.got d.to (omega arith) z.1 f.1 one.inside d.first in
      settle (λ rs next. Read-batches at rs next × (length rs ≡ suc (length nss))) (a.got ∷ d.got) rs d.to next d.rest
      (more_made at a.to d.to a.got d.got one ih.0, ap suc ih.1)

-- ---- a block

-- what encoding asks of a block, the room aside; and that the bytes can say its flags
pub record Encodable (w : ℕ) (t : List ℕ) (blk : Block) : Type 0 where
  pub table : good_table t ≡ true
  pub few : length blk.ops ≤ 65535
  pub less : length blk.records ≤ 16384
  pub right : All (λ r. record_right w r ≡ true) blk.records
  pub clear : All (Clear w) blk.records
  pub sum : total (map ninth blk.records) ≡ length blk.ops
  pub sized : All Sized blk.records
  pub allowed : All (λ x. admissible t x ≡ true) blk.ops

-- what was decoded, and the room that it had
block_made : (w : ℕ) (t s : List ℕ) (at : ℕ) (room : Room) (blk : Block) (next : ℕ) → decoded w t s at room ≡ found blk next → Encodable w t blk × (room_for blk room ≡ true)
unfolding room_for
block_made w t s at room blk next h = go (stages w t s at room blk next h)
  where
    go : Found w t s at room blk next → Encodable w t blk × (room_for blk room ≡ true)
    go f =
        let d = f.head in
        let i = f.items in
        let l = f.layout in
        let q₁ = nibbles_made s w f.k f.a₁ 0 l.sizes i.a₁ i.sizes in
        let q₂ = flags_made s w f.k i.a₁ 0 l.flags next i.flags in
        let q₄ = ops_allowed s w t d.n d.a₁ 0 blk.ops d.a₂ d.codes in
        let q₃ = batches_made w t blk.ops q₄.1 l.sizes l.flags 0 0 blk.records f.used (q₁.0 ∙ sym q₂.0) q₁.1 q₂.1 zero-le (sym (batches_is w t blk.ops l.sizes l.flags (q₁.0 ∙ sym q₂.0)) ∙ f.records.batches) in
        let g = q₃.0 in
        let fits : length blk.records ≤ room.records = omega (arith, d.many, q₃.1, q₁.0) in
        let c = true_left (leb d.n room.codes) (leb d.n room.values) d.wide in
        let v = true_right (leb d.n room.codes) (leb d.n room.values) d.wide in (
          record {
            table = f.table;
            few = omega (arith, q₄.0, count_limit s w d.n at d.a₁ d.count);
            less = omega (arith, q₃.1, q₁.0, batch_count_limit s w f.k d.a₂ f.a₁ d.batches);
            right = g.right;
            clear = g.clear;
            sum = omega (arith, g.after, g.inside, f.records.all);
            sized = g.sized;
            allowed = q₄.1;
          },
          rw (q₄.0, c, v, le-leb (length blk.records) room.records fits),
        )

pub encodable : (w : ℕ) (t s : List ℕ) (at : ℕ) (room : Room) (blk : Block) (next : ℕ) → decoded w t s at room ≡ found blk next → Encodable w t blk
encodable w t s at room blk next h = (block_made w t s at room blk next h).0

pub had_room : (w : ℕ) (t s : List ℕ) (at : ℕ) (room : Room) (blk : Block) (next : ℕ) → decoded w t s at room ≡ found blk next → room_for blk room ≡ true
had_room w t s at room blk next h = (block_made w t s at room blk next h).1
