-- The record of a batch in the making: what a closed group, a placed immediate and the count change in it, and in the lent run that holds it. Assumes nothing.
use mathlib.Core.Path.{◌≡◌, refl, sym, ap, ap₂, ◌∙◌}
use mathlib.Core.Bool.{Bool, false}
use mathlib.Core.List.{List, [], ◌∷◌, ◌++◌, map}
use Prim.Native.Nat.{ℕ, zero, suc, ◌+◌, ◌-◌, ◌*◌, ◌<◌}
use native.Mathlib.Nat.{add-zero, not-suc-le-zero}
use native.Mathlib.Numerals.{add-one}
use native.Mathlib.Omega.{arith}
use lib.ListN.{length, set, replicate, length-append, length-map, length-replicate, length-set}
use lib.Seq.{sets, length-sets}
use Rattle.rules.specs.Lists.{fitted, total, in_row}
use Rattle.rules.specs.Digits.{digits, number}
use Rattle.rules.specs.Operations.{Op, codes}
use Rattle.rules.specs.Batching.{Group, ops, imm}
use Rattle.rules.specs.Record.{Record, starts_from, record_by, ops_in, size_of, flag_of, codes_number, number_of, record_of, ops_of, record_size, record_bytes, NineAndEight}
use Rattle.rules.proofs.Runs.{fitted_length, fitted_zeros, sets_all}
use Rattle.rules.proofs.Sizes.{length_starts}
use Rattle.op_batch.specs.Stores.{starts_set, flag_set, number_set, count_set, with_starts, with_flag, with_number}
use Rattle.op_batch.proofs.Stores.{starts_set_lem, flag_set_lem, number_set_lem, count_set_lem}
use Rattle.accumulator.specs.Good.{record_groups}
use Rattle.accumulator.specs.View.{record_with}
use Rattle.rules.proofs.Records.{record_length}

-- ---- a view of each group, cut or filled up: one group replaced, one more, one more whose view is 0

module _ (f : Group → ℕ) where
  fit_replace : (n : ℕ) (xs : List Group) (g h : Group) (ys : List Group) → set (fitted n (map f (xs ++ g ∷ ys))) (length xs) (f h) ≡ fitted n (map f (xs ++ h ∷ ys))
  unfolding fitted
  fit_replace zero xs g h ys = refl
  fit_replace (suc n) [] g h ys = refl
  fit_replace (suc n) (x ∷ xs) g h ys = ap (λ (l : List ℕ). f x ∷ l) (fit_replace n xs g h ys)

  fit_more : (n : ℕ) (xs : List Group) (g : Group) → set (fitted n (map f xs)) (length xs) (f g) ≡ fitted n (map f (xs ++ (g ∷ [])))
  unfolding fitted
  fit_more zero xs g = refl
  fit_more (suc n) [] g = refl
  fit_more (suc n) (x ∷ xs) g = ap (λ (l : List ℕ). f x ∷ l) (fit_more n xs g)

  fit_none : (n : ℕ) (xs : List Group) (g : Group) → f g ≡ 0 → fitted n (map f (xs ++ (g ∷ []))) ≡ fitted n (map f xs)
  unfolding fitted
  fit_none zero xs g e = refl
  fit_none (suc n) [] g e = ap (λ (k : ℕ). k ∷ fitted n []) e
  fit_none (suc n) (x ∷ xs) g e = ap (λ (l : List ℕ). f x ∷ l) (fit_none n xs g e)

-- ---- starts

starts_none : (k n : ℕ) → starts_from n (fitted k []) ≡ replicate (suc k) n
unfolding starts_from fitted
starts_none zero n = refl
starts_none (suc k) n = ap (λ (l : List ℕ). n ∷ l) (ap (λ (m : ℕ). starts_from m (fitted k [])) (add-zero n) ∙ starts_none k n)

sets_cons : (x : ℕ) (l : List ℕ) (k : ℕ) (vs : List ℕ) → sets (x ∷ l) (suc k) vs ≡ x ∷ sets l k vs
sets_cons x l k [] = refl
sets_cons x l k (v ∷ vs) = sets_cons x (set l k v) (suc k) vs

-- one size more among k: every later start is the sum
starts_more : (k n : ℕ) (ks : List ℕ) (j m tot : ℕ) → length ks + m ≡ k → 0 < m → tot ≡ n + total ks + j
    → sets (starts_from n (fitted k ks)) (suc (length ks)) (replicate m tot) ≡ starts_from n (fitted k (ks ++ (j ∷ [])))
unfolding starts_from fitted total
starts_more zero n ks j m tot e h t = let z : 0 < 0 = omega arith in absurd (not-suc-le-zero z)
starts_more (suc k) n [] j m tot e h t =
    let q : m ≡ suc k = omega arith in
    let u : tot ≡ n + j = omega arith in
    let l = starts_from (n + 0) (fitted k []) in
    sets_cons n l 0 (replicate m tot)
    ∙ ap (λ (r : List ℕ). n ∷ r)
    (sets_all l (replicate m tot) (length-replicate m tot ∙ q ∙ sym (length_starts (n + 0) (fitted k []) ∙ ap suc (fitted_length k [])))
    ∙ ap₂ (λ (a b : ℕ). replicate a b) q u
    ∙ sym (starts_none k (n + j)))
starts_more (suc k) n (x ∷ ks) j m tot e h t =
    sets_cons n (starts_from (n + x) (fitted k ks)) (suc (length ks)) (replicate m tot)
    ∙ ap (λ (l : List ℕ). n ∷ l) (starts_more k (n + x) ks j m tot (omega arith) h (omega arith))

sizes_total : (gs : List Group) → total (map size_of gs) ≡ length (ops_of gs)
unfolding total size_of in_row
sizes_total [] = refl
sizes_total (g ∷ gs) = omega (arith, sizes_total gs, length-append (ops_in g) (ops_of gs))

-- immediates have no size
sizes_none : (n : ℕ) (vs : List ℕ) → fitted n (map size_of (map imm vs)) ≡ fitted n []
unfolding fitted size_of ops_in
sizes_none zero vs = refl
sizes_none (suc n) [] = refl
sizes_none (suc n) (v ∷ vs) = ap (λ (l : List ℕ). 0 ∷ l) (sizes_none n vs)

sizes_imm : (n : ℕ) (xs : List Group) (g : Group) (vs : List ℕ) → fitted n (map size_of (xs ++ g ∷ map imm vs)) ≡ fitted n (map size_of xs ++ (size_of g ∷ []))
unfolding fitted
sizes_imm zero xs g vs = refl
sizes_imm (suc n) [] g vs = ap (λ (l : List ℕ). size_of g ∷ l) (sizes_none n vs)
sizes_imm (suc n) (x ∷ xs) g vs = ap (λ (l : List ℕ). size_of x ∷ l) (sizes_imm n xs g vs)

starts_close : (xs : List Group) (ys : List Op) (p : Bool) (vs : List ℕ) (tot : ℕ) → length xs < record_groups → tot ≡ length (ops_of xs) + length ys
    → sets (starts_from 0 (fitted 8 (map size_of (xs ++ ops [] false ∷ map imm vs)))) (length xs + 1) (replicate (9 - (length xs + 1)) tot)
    ≡ starts_from 0 (fitted 8 (map size_of (xs ++ ops ys p ∷ map imm vs)))
unfolding size_of ops_in
starts_close xs ys p vs tot h e =
    let l : length (map size_of xs) ≡ length xs = length-map xs size_of in
    rw (sizes_imm 8 xs (ops [] false) vs, sizes_imm 8 xs (ops ys p) vs, fitted_zeros 8 (map size_of xs) 1, ← l, add-one (length (map size_of xs)))
    (starts_more 8 0 (map size_of xs) (length ys) (9 - suc (length (map size_of xs))) tot (omega arith) (omega arith) (omega (arith, sizes_total xs)))

-- ---- the record of the groups so far

whole : (c : ℕ) (gs : List Group) → NineAndEight (record_with c gs)
unfolding record_with
whole c gs =
    record {
      starts = length_starts 0 (fitted 8 (map size_of gs)) ∙ ap suc (fitted_length 8 (map size_of gs));
      flags = fitted_length 8 (map flag_of gs);
      numbers = fitted_length 8 (map number_of gs);
    }

-- a group closed: later starts, its flag, its number
abbrev close_at : ℕ → ℕ → ℕ → ℕ → Record → Record
close_at cur tot pad num r = with_number cur num (with_flag cur pad (with_starts (cur + 1) tot r))

record_close : (c : ℕ) (xs : List Group) (ys : List Op) (f : Bool) (vs : List ℕ) (tot : ℕ) → length xs < record_groups → tot ≡ length (ops_of xs) + length ys
    → close_at (length xs) tot (flag_of (ops ys f)) (codes_number ys) (record_with c (xs ++ ops [] false ∷ map imm vs)) ≡ record_with c (xs ++ ops ys f ∷ map imm vs)
unfolding record_with number_of
record_close c xs ys f vs tot h e =
    let s = starts_close xs ys f vs tot h e in
    let m = fit_replace flag_of 8 xs (ops [] false) (ops ys f) (map imm vs) in
    let k = fit_replace number_of 8 xs (ops [] false) (ops ys f) (map imm vs) in
    λ j. record { starts = s j; flags = m j; numbers = k j; count = c }

-- one more group of which only the number is seen
record_more : (c : ℕ) (gs : List Group) (g : Group) → ops_in g ≡ [] → flag_of g ≡ 0 → with_number (length gs) (number_of g) (record_with c gs) ≡ record_with c (gs ++ (g ∷ []))
unfolding record_with size_of
record_more c gs g o f =
    let s = ap (starts_from 0) (sym (fit_none size_of 8 gs g (ap length o))) in
    let m = sym (fit_none flag_of 8 gs g f) in
    let k = fit_more number_of 8 gs g in
    λ j. record { starts = s j; flags = m j; numbers = k j; count = c }

-- a group of which nothing is seen changes nothing: one that is opened, and an immediate of value 0
record_unseen : (c : ℕ) (gs : List Group) (g : Group) → ops_in g ≡ [] → flag_of g ≡ 0 → number_of g ≡ 0 → record_with c (gs ++ (g ∷ [])) ≡ record_with c gs
unfolding record_with size_of
record_unseen c gs g o f n = rw (fit_none size_of 8 gs g (ap length o), fit_none flag_of 8 gs g f, fit_none number_of 8 gs g n)

pub record_open : (c : ℕ) (gs : List Group) → record_with c (gs ++ (ops [] false ∷ [])) ≡ record_with c gs
unfolding ops_in flag_of number_of codes_number codes number
record_open c gs = record_unseen c gs (ops [] false) refl refl refl

-- with the count the record is the batch's
record_done : (gs : List Group) → record_with (length gs) gs ≡ record_of gs
unfolding record_with record_of record_by
record_done gs = rw (length-map gs number_of)

pub length_record : (gs : List Group) → length (record_bytes (record_of gs)) ≡ record_size
length_record gs = ap (λ (r : Record). length (record_bytes r)) (sym (record_done gs)) ∙ record_length (record_with (length gs) gs) (whole (length gs) gs)

-- ---- and a run that holds p and that record after it, as far as it goes

zeros : record_bytes (record_with 0 (ops [] false ∷ [])) ≡ replicate record_size 0
unfolding record_with record_bytes starts_from ops_in size_of flag_of number_of codes_number codes number in_row fitted digits
zeros = refl

-- an empty record is zeros
pub run_empty : (n : ℕ) (p : List ℕ) → fitted n (p ++ record_bytes (record_with 0 (ops [] false ∷ []))) ≡ fitted n p
run_empty n p = ap (λ (l : List ℕ). fitted n (p ++ l)) zeros ∙ fitted_zeros n p record_size

module _ (n : ℕ) (p : List ℕ) (b : ℕ) (at : length p ≡ record_size * b) where
  abbrev Run : Record → List ℕ
  Run r = fitted n (p ++ record_bytes r)

  closed_run_lem : (r : Record) → NineAndEight r → (cur tot pad num : ℕ) → cur < record_groups → number_set b cur num (flag_set b cur pad (starts_set b (cur + 1) tot (Run r))) ≡ Run (close_at cur tot pad num r)
  closed_run_lem r w cur tot pad num h =
      let r1 = with_starts (cur + 1) tot r in
      let w1 : NineAndEight r1 = record { starts = length-sets r.starts (cur + 1) (replicate (9 - (cur + 1)) tot) ∙ w.starts; flags = w.flags; numbers = w.numbers } in
      let w2 : NineAndEight (with_flag cur pad r1) = record { starts = w1.starts; flags = length-set r.flags cur pad ∙ w.flags; numbers = w.numbers } in
      ap (λ (l : List ℕ). number_set b cur num (flag_set b cur pad l)) (starts_set_lem n p b at r w (cur + 1) tot (omega arith))
      ∙ ap (number_set b cur num) (flag_set_lem n p b at r1 w1 cur pad h)
      ∙ number_set_lem n p b at (with_flag cur pad r1) w2 cur num h

  -- the group that was open is closed
  pub run_shut : (c : ℕ) (xs : List Group) (ys : List Op) (f : Bool) (vs : List ℕ) (tot : ℕ) → length xs < record_groups → tot ≡ length (ops_of xs) + length ys
      → number_set b (length xs) (codes_number ys) (flag_set b (length xs) (flag_of (ops ys f)) (starts_set b (length xs + 1) tot (Run (record_with c (xs ++ ops [] false ∷ map imm vs)))))
      ≡ Run (record_with c (xs ++ ops ys f ∷ map imm vs))
  run_shut c xs ys f vs tot h e =
      let r = record_with c (xs ++ ops [] false ∷ map imm vs) in
      closed_run_lem r (whole c (xs ++ ops [] false ∷ map imm vs)) (length xs) tot (flag_of (ops ys f)) (codes_number ys) h ∙ ap Run (record_close c xs ys f vs tot h e)

  -- an immediate is placed
  pub run_imm : (c : ℕ) (gs : List Group) (v : ℕ) → length gs < record_groups → number_set b (length gs) v (Run (record_with c gs)) ≡ Run (record_with c (gs ++ (imm v ∷ [])))
  unfolding ops_in flag_of number_of
  run_imm c gs v h = number_set_lem n p b at (record_with c gs) (whole c gs) (length gs) v h ∙ ap Run (record_more c gs (imm v) refl refl)

  -- an immediate of value 0 is there already
  pub run_zero : (c : ℕ) (gs : List Group) → length gs < record_groups → number_set b (length gs) 0 (Run (record_with c gs)) ≡ Run (record_with c gs)
  unfolding ops_in flag_of number_of
  run_zero c gs h = run_imm c gs 0 h ∙ ap Run (record_unseen c gs (imm 0) refl refl refl)

  -- the count makes the record whole
  pub run_count : (c : ℕ) (gs : List Group) → count_set b (length gs) (Run (record_with c gs)) ≡ Run (record_of gs)
  unfolding record_with
  run_count c gs = count_set_lem n p b at (record_with c gs) (whole c gs) (length gs) ∙ ap Run (record_done gs)
