-- The run of records as a memory: what a load gives after a store to a record, after a store to another, and what a store leaves alone; and what stores to a
-- record's parts do to a run that is still being filled. Assumes nothing.
use Rattle.std.proofs.Common.{◌≡◌, ℕ, zero, suc, ◌+◌, ◌-◌, ◌*◌, ◌<◌, ◌≤◌, List, [], ◌∷◌, ◌++◌, length, get_or, take, drop, set, replicate, sym, refl, ap, ◌∙◌, append_assoc, le_of_suc-le-suc, not-suc-le-zero, add-zero, arith, length-append, length-take-le, get_or-set_other}
use lib.ListN.{length-replicate}
use lib.Seq.{sets, length-sets, sets-eq}
use Rattle.rules.specs.Lists.{fitted, in_row}
use Rattle.rules.specs.Digits.{digits, le_at, le_bytes}
use Rattle.rules.specs.Record.{Record, NineAndEight, starts_from, record_size, word_bytes, record_bytes, bytes_at, words_at, record_at, flags_place, numbers_place, count_place}
use Rattle.rules.proofs.Digits.{split, length_le_bytes, length_digits}
use Rattle.rules.proofs.Records.{Sized, Alike, record_length, parts_back, record_back}
use Rattle.rules.proofs.Runs.{sets_past, sets_front, sets_over, sets_fitted, sets_next}
use Rattle.rules.proofs.Sizes.{length_words, length_starts}
use Rattle.op_batch.specs.Stores.{starts_set, flag_set, number_set, count_set, record_set, with_starts, with_flag, with_number, with_count, packed}

-- ---- a run of records as a memory

-- what a load looks at
bytes_same : (k : ℕ) (s s' : List ℕ) (at : ℕ) → ((i : ℕ) → i < k → get_or s (at + i) 0 ≡ get_or s' (at + i) 0) → bytes_at k s at ≡ bytes_at k s' at
unfolding bytes_at
bytes_same zero s s' at h = refl
bytes_same (suc k) s s' at h =
    let first : get_or s at 0 ≡ get_or s' at 0 = rw (add-zero at) at (h 0 (omega arith)) in
    rw (first, bytes_same k s s' (at + 1) (λ i l. let e : at + 1 + i ≡ at + suc i = omega arith in rw e (h (suc i) (omega arith))))

number_same : (k : ℕ) (s s' : List ℕ) (at : ℕ) → ((i : ℕ) → i < k → get_or s (at + i) 0 ≡ get_or s' (at + i) 0) → le_at k s at ≡ le_at k s' at
unfolding le_at
number_same zero s s' at h = refl
number_same (suc k) s s' at h =
    let first : get_or s at 0 ≡ get_or s' at 0 = rw (add-zero at) at (h 0 (omega arith)) in
    rw (first, number_same k s s' (at + 1) (λ i l. let e : at + 1 + i ≡ at + suc i = omega arith in rw e (h (suc i) (omega arith))))

words_same : (k : ℕ) (s s' : List ℕ) (at : ℕ) → ((i : ℕ) → i < 8 * k → get_or s (at + i) 0 ≡ get_or s' (at + i) 0) → words_at k s at ≡ words_at k s' at
unfolding words_at
words_same zero s s' at h = refl
words_same (suc k) s s' at h =
    rw (number_same 8 s s' at (λ i l. h i (omega arith)), words_same k s s' (at + 8) (λ i l. let e : at + 8 + i ≡ at + (8 + i) = omega arith in rw e (h (8 + i) (omega arith))))

record_same : (s s' : List ℕ) (b : ℕ) → ((i : ℕ) → i < record_size → get_or s (record_size * b + i) 0 ≡ get_or s' (record_size * b + i) 0) → record_at s b ≡ record_at s' b
unfolding record_at
record_same s s' b h =
    let past : (k i : ℕ) → k + i < record_size → get_or s (record_size * b + k + i) 0 ≡ get_or s' (record_size * b + k + i) 0 = λ k i l. (let e : record_size * b + k + i ≡ record_size * b + (k + i) = omega arith in rw e (h (k + i) l)) in
    rw (
      bytes_same 9 s s' (record_size * b) (λ i l. h i (omega arith)),
      bytes_same 8 s s' (record_size * b + flags_place) (λ i l. past flags_place i (omega arith)),
      words_same 8 s s' (record_size * b + numbers_place) (λ i l. past numbers_place i (omega arith)),
      h count_place (omega arith),
    )

-- what a store leaves alone
sets_other : (l : List ℕ) (i : ℕ) (vs : List ℕ) (j : ℕ) → (i ≤ j → i + length vs ≤ j) → get_or (sets l i vs) j 0 ≡ get_or l j 0
sets_other l i [] j h = refl
sets_other l i (v ∷ vs) j h =
    sets_other (set l i v) (suc i) vs j (λ k. omega (arith, h (omega arith))) ∙ get_or-set_other l i j v 0 (λ e. let k : i ≤ j = omega arith in absurd (omega (arith, h k)))

module _ (b : ℕ) (r : Record) (s : List ℕ) where
  pub stored_length : length (record_set b r s) ≡ length s
  unfolding record_set
  stored_length = length-sets s (record_size * b) (record_bytes r)

  -- a load after a store to the same record; of one whose numbers are over eight bytes the rest is as it was stored
  stands : NineAndEight r → record_size * b + record_size ≤ length s
      → record_set b r s ≡ take (record_size * b) s ++ (record_bytes r ++ drop (record_size * b + length (record_bytes r)) s)
  unfolding record_set
  stands w l =
      let n = record_length r w in
      let p = record_size * b in
      sets-eq (record_bytes r) s p (omega arith) ∙ append_assoc (take p s) (record_bytes r) (drop (p + length (record_bytes r)) s)

  pub parts_after : NineAndEight r → record_size * b + record_size ≤ length s → Alike (record_at (record_set b r s) b) r
  parts_after w l = rw (stands w l) (parts_back (take (record_size * b) s) _ r b (length-take-le (record_size * b) s (omega arith)) w)

  pub load_after : Sized r → record_size * b + record_size ≤ length s → record_at (record_set b r s) b ≡ r
  load_after h l = rw (stands h.whole l) (record_back (take (record_size * b) s) _ r b (length-take-le (record_size * b) s (omega arith)) h.whole h.small)

  -- and after a store to another
  pub load_past : (c : ℕ) → (c ≡ b → ⊥) → NineAndEight r → record_at (record_set b r s) c ≡ record_at s c
  unfolding record_set
  load_past c other w =
      let n = record_length r w in
      record_same (sets s (record_size * b) (record_bytes r)) s c (λ i l. sets_other s (record_size * b) (record_bytes r) (record_size * c + i) (λ k. past i l k n))
    where
      past : (i : ℕ) → i < record_size → record_size * b ≤ record_size * c + i → length (record_bytes r) ≡ record_size → record_size * b + length (record_bytes r) ≤ record_size * c + i
      past i l k n = split c b (λ m. absurd (omega arith)) (λ m. split b c (λ q. omega arith) (λ q. absurd (other (omega arith))))

-- ---- a run that holds some bytes p, and a record after them, as far as it goes: stores to the record's parts

-- a store to one of the parts that lie one after another
module _ (n : ℕ) (s s' : List ℕ) (k i : ℕ) (vs : List ℕ) (e : sets s k vs ≡ s') (h : k + length vs ≤ length s) where
  part1 : (p q : List ℕ) → i ≡ length p + k → sets (fitted n (p ++ (s ++ q))) i vs ≡ fitted n (p ++ (s' ++ q))
  part1 p q j =
      let a = length-append p (s ++ q) in
      let b = length-append s q in
      rw j (sets_fitted n (p ++ (s ++ q)) (length p + k) vs (omega arith) ∙ ap (fitted n) (sets_past p (s ++ q) k vs ∙ rw (sets_front s q k vs h, e)))

  part2 : (p a q : List ℕ) → i ≡ length p + length a + k → sets (fitted n (p ++ (a ++ (s ++ q)))) i vs ≡ fitted n (p ++ (a ++ (s' ++ q)))
  part2 p a q j = rw (← append_assoc p a (s ++ q), ← append_assoc p a (s' ++ q)) (part1 (p ++ a) q (omega (arith, length-append p a)))

  part3 : (p a b q : List ℕ) → i ≡ length p + length a + length b + k → sets (fitted n (p ++ (a ++ (b ++ (s ++ q))))) i vs ≡ fitted n (p ++ (a ++ (b ++ (s' ++ q))))
  part3 p a b q j = rw (← append_assoc p a (b ++ (s ++ q)), ← append_assoc p a (b ++ (s' ++ q))) (part2 (p ++ a) b q (omega (arith, length-append p a)))

  part4 : (p a b c q : List ℕ) → i ≡ length p + length a + length b + length c + k
      → sets (fitted n (p ++ (a ++ (b ++ (c ++ (s ++ q)))))) i vs ≡ fitted n (p ++ (a ++ (b ++ (c ++ (s' ++ q)))))
  part4 p a b c q j = rw (← append_assoc p a (b ++ (c ++ (s ++ q))), ← append_assoc p a (b ++ (c ++ (s' ++ q)))) (part3 (p ++ a) b c q (omega (arith, length-append p a)))

words : (r : Record) → NineAndEight r → length (word_bytes r.numbers) ≡ 64
words r w = length_words r.numbers ∙ ap (λ (k : ℕ). 8 * k) w.numbers

words_set : (ns : List ℕ) (j v : ℕ) → j < length ns → sets (word_bytes ns) (8 * j) (le_bytes 8 v) ≡ word_bytes (set ns j v)
unfolding in_row
words_set [] j v h = absurd (not-suc-le-zero h)
words_set (n ∷ ns) zero v h = sets_over (le_bytes 8 n) (word_bytes ns) (le_bytes 8 v) (length_le_bytes 8 v ∙ sym (length_le_bytes 8 n))
words_set (n ∷ ns) (suc j) v h =
    let e : 8 * suc j ≡ length (le_bytes 8 n) + 8 * j = omega (arith, length_le_bytes 8 n) in
    ap (λ (k : ℕ). sets (le_bytes 8 n ++ word_bytes ns) k (le_bytes 8 v)) e
    ∙ sets_past (le_bytes 8 n) (word_bytes ns) (8 * j) (le_bytes 8 v)
    ∙ ap (λ (l : List ℕ). le_bytes 8 n ++ l) (words_set ns j v (le_of_suc-le-suc h))

module _ (n : ℕ) (p : List ℕ) (b : ℕ) (at : length p ≡ record_size * b) (r : Record) (w : NineAndEight r) where
  pub starts_set_lem : (g v : ℕ) → g ≤ 9 → starts_set b g v (fitted n (p ++ record_bytes r)) ≡ fitted n (p ++ record_bytes (with_starts g v r))
  unfolding starts_set record_bytes
  starts_set_lem g v h =
      let l = length-replicate {A = ℕ} (9 - g) v in
      let s = w.starts in
      part1 n r.starts (sets r.starts g (replicate (9 - g) v)) g (record_size * b + g) (replicate (9 - g) v) refl (omega arith) p (r.flags ++ (word_bytes r.numbers ++ (r.count ∷ []))) (omega arith)

  pub flag_set_lem : (g v : ℕ) → g < 8 → flag_set b g v (fitted n (p ++ record_bytes r)) ≡ fitted n (p ++ record_bytes (with_flag g v r))
  unfolding flag_set record_bytes
  flag_set_lem g v h =
      let s = w.starts in
      let f = w.flags in
      part2 n r.flags (set r.flags g v) g (record_size * b + flags_place + g) (v ∷ []) refl (omega arith) p r.starts (word_bytes r.numbers ++ (r.count ∷ [])) (omega arith)

  pub number_set_lem : (g v : ℕ) → g < 8 → number_set b g v (fitted n (p ++ record_bytes r)) ≡ fitted n (p ++ record_bytes (with_number g v r))
  unfolding number_set record_bytes
  number_set_lem g v h =
      let s = w.starts in
      let f = w.flags in
      let k = w.numbers in
      let l = length_le_bytes 8 v in
      part3 n (word_bytes r.numbers) (word_bytes (set r.numbers g v)) (8 * g) (record_size * b + numbers_place + 8 * g) (le_bytes 8 v) (words_set r.numbers g v (omega arith)) (omega (arith, words r w)) p r.starts r.flags (r.count ∷ []) (omega arith)

  pub count_set_lem : (v : ℕ) → count_set b v (fitted n (p ++ record_bytes r)) ≡ fitted n (p ++ record_bytes (with_count v r))
  unfolding count_set record_bytes
  count_set_lem v =
      let s = w.starts in
      let f = w.flags in
      part4 n (r.count ∷ []) (v ∷ []) 0 (record_size * b + count_place) (v ∷ []) refl (omega arith) p r.starts r.flags (word_bytes r.numbers) [] (omega (arith, words r w))

-- ---- a record by its packed forms

module _ (v f : ℕ) (ns : List ℕ) (c : ℕ) (n : length ns ≡ 8) where
  pub packed_whole : NineAndEight (packed v f ns c)
  unfolding packed
  packed_whole = record { starts = length_starts 0 (digits 16 8 v) ∙ ap suc (length_digits 16 8 v); flags = length_digits 2 8 f; numbers = n }

  -- its four parts, stored one after the other
  pub packed_stored : (l : List ℕ) (b : ℕ)
      → set (sets (sets (sets l (record_size * b) (starts_from 0 (digits 16 8 v))) (record_size * b + flags_place) (digits 2 8 f)) (record_size * b + numbers_place) (word_bytes ns)) (record_size * b + count_place) c ≡ record_set b (packed v f ns c) l
  unfolding record_set record_bytes packed
  packed_stored l b =
      let at = record_size * b in
      let starts : length (starts_from 0 (digits 16 8 v)) ≡ 9 = length_starts 0 (digits 16 8 v) ∙ ap suc (length_digits 16 8 v) in
      let words : length (word_bytes ns) ≡ 64 = length_words ns ∙ omega arith in
      sets_next (sets (sets l at (starts_from 0 (digits 16 8 v))) (at + flags_place) (digits 2 8 f)) (at + numbers_place) (word_bytes ns) (at + count_place) (c ∷ []) (omega (arith, words))
      ∙ sets_next (sets l at (starts_from 0 (digits 16 8 v))) (at + flags_place) (digits 2 8 f) (at + numbers_place) (word_bytes ns ++ (c ∷ [])) (omega (arith, length_digits 2 8 f))
      ∙ sets_next l at (starts_from 0 (digits 16 8 v)) (at + flags_place) (digits 2 8 f ++ (word_bytes ns ++ (c ∷ []))) (omega (arith, starts))
