-- A batch has a record's sizes and flags, as numbers, exactly where starts and flags are the same; so the first that has not is the first that differs. s is
-- a run of k records. Assumes nothing.
use mathlib.Core.Path.{◌≡◌, refl, sym, ap, ap₂, ◌∙◌}
use mathlib.Core.Bool.{Bool, true, false, cond, ◌&&◌}
use mathlib.Core.List.{List, [], ◌∷◌, map}
use Prim.Native.Nat.{ℕ, zero, suc, ◌+◌, ◌-◌, ◌≤◌, ◌<◌}
use native.Mathlib.Omega.{arith}
use borrow.Author.Tests.{leb-true, lt-ltb, le-ltb, eqb-true, eq-eqb}
use Rattle.std.specs.Prelude.{Result, Ok, Err}
use lib.ListN.{length, get_or, replicate, length-map}
use lib.Dec.{leb, ltb, eqb}
use Rattle.rules.specs.Lists.{fitted, All}
use Rattle.rules.specs.Digits.{number, digits}
use Rattle.rules.specs.Answer.{Answer, refuse_first}
use Rattle.rules.specs.Refusals.{unfinished₁₈}
use Rattle.rules.specs.Batching.{Group, ops, imm}
use Rattle.rules.specs.Record.{Record, starts_from, differences, record_by, record_of, record_at, records_from, size_of, flag_of, ops_in}
use Rattle.rules.specs.Checks.{starts_right}
use Rattle.rules.specs.Strict.{same}
use Rattle.rules.proofs.Operations.{true_left, true_right}
use Rattle.rules.proofs.Digits.{split}
use Rattle.rules.proofs.Runs.{fitted_length}
use Rattle.checks.proofs.Groups.{right_starts, Bytes, differences_bytes, differences_length, flags_small}
use Rattle.checks.proofs.Walk.{records_turn, records_end}
use Rattle.claims.proofs.Shape.{RightGroup, RightBatch}
use Rattle.claims.proofs.ItemsWrittenThenRead.{digits_number}
use Rattle.claims.proofs.WrittenThenRead.{differences_starts, fitted_is}
use Rattle.claims.proofs.Shapes.{same_shape, shapes_differing, same_is, same_self}
use Rattle.refusal.specs.declared.Refusal.{Refusal}
use Rattle.refusal.specs.declared.Refusal.TheVariants.{Unfinished}
use Rattle.strict.specs.Model.{Runs, is_record, held, batches_judged}
use Rattle.strict.proofs.Records.{record_fits, laid_at}
use Rattle.strict.proofs.Drafted.{number_append, shape_by}
use Rattle.strict.proofs.Judged.{seen}

-- two tests that follow from each other
either_way : (a b : Bool) → (a ≡ true → b ≡ true) → (b ≡ true → a ≡ true) → a ≡ b
either_way true b f g = sym (f refl)
either_way false true f g = g refl
either_way false false f g = refl

-- ---- numbers of bytes

number_once : (xs ys : List ℕ) → length xs ≡ length ys → Bytes xs → Bytes ys → number 256 xs ≡ number 256 ys → xs ≡ ys
number_once xs ys l h k e = sym (digits_number 256 xs h) ∙ (ap₂ (λ (n v : ℕ). digits 256 n v) l e ∙ digits_number 256 ys k)

same_number : (xs ys : List ℕ) → length xs ≡ length ys → Bytes xs → Bytes ys → eqb (number 256 xs) (number 256 ys) ≡ same xs ys
same_number xs ys l h k =
    either_way (eqb (number 256 xs) (number 256 ys)) (same xs ys)
    (λ e. let i : xs ≡ ys = number_once xs ys l h k (eqb-true _ _ e) in rw i (same_self ys))
    (λ e. eq-eqb _ _ (ap (number 256) (same_is xs ys e)))

none_number : (n : ℕ) → number 256 (replicate n 0) ≡ 0
unfolding number
none_number zero = refl
none_number (suc n) = rw (none_number n)

fitted_number : (n : ℕ) (xs : List ℕ) → length xs ≤ n → number 256 (fitted n xs) ≡ number 256 xs
fitted_number n xs h = rw (fitted_is n xs h, number_append 256 xs (replicate (n - length xs) 0), none_number (n - length xs)) (omega arith)

-- ---- starts

starts_back : (a : ℕ) (s : List ℕ) → starts_right (a ∷ s) ≡ true → a ∷ s ≡ starts_from a (differences (a ∷ s))
unfolding starts_right starts_from differences
starts_back a [] h = refl
starts_back a (b ∷ s) h =
    let r = true_right (leb b (a + 9)) (starts_right (b ∷ s)) (true_right (leb a b) (leb b (a + 9) && starts_right (b ∷ s)) h) in
    let e : a + (b - a) ≡ b = omega (arith, leb-true a b (true_left (leb a b) (leb b (a + 9) && starts_right (b ∷ s)) h)) in
    rw e (ap (λ (l : List ℕ). a ∷ l) (starts_back b s r))

-- starts that begin at 0 and never fall are said by their sizes
same_starts : (s ns : List ℕ) → length s ≡ suc (length ns) → get_or s 0 0 ≡ 0 → starts_right s ≡ true → Bytes ns → eqb (number 256 (differences s)) (number 256 ns) ≡ same s (starts_from 0 ns)
same_starts [] ns l z h k = absurd (omega arith)
same_starts (a ∷ s) ns l z h k =
    let b = starts_back a s h in
    same_number (differences (a ∷ s)) ns (omega (arith, differences_length a s)) (differences_bytes a s h) k
    ∙ either_way (same (differences (a ∷ s)) ns) (same (a ∷ s) (starts_from 0 ns))
    (λ e. let i : a ∷ s ≡ starts_from 0 ns = b ∙ ap₂ starts_from z (same_is (differences (a ∷ s)) ns e) in rw i (same_self (starts_from 0 ns)))
    (λ e. let i : differences (a ∷ s) ≡ ns = ap differences (same_is (a ∷ s) (starts_from 0 ns) e) ∙ differences_starts 0 ns in rw i (same_self ns))

-- ---- a batch that the rules make

module _ (t : List ℕ) where
  sizes_bytes : (gs : List Group) → All (RightGroup t) gs → Bytes (map size_of gs)
  unfolding size_of ops_in
  sizes_bytes [] h = tt
  sizes_bytes (ops xs p ∷ gs) h = (omega (arith, h.0.nine), sizes_bytes gs h.1)
  sizes_bytes (imm v ∷ gs) h = (omega arith, sizes_bytes gs h.1)

  flags_bytes : (gs : List Group) → Bytes (map flag_of gs)
  unfolding flag_of
  flags_bytes [] = tt
  flags_bytes (ops xs true ∷ gs) = (omega arith, flags_bytes gs)
  flags_bytes (ops xs false ∷ gs) = (omega arith, flags_bytes gs)
  flags_bytes (imm v ∷ gs) = (omega arith, flags_bytes gs)

fitted_bytes : (n : ℕ) (xs : List ℕ) → Bytes xs → Bytes (fitted n xs)
unfolding fitted
fitted_bytes zero xs h = tt
fitted_bytes (suc n) [] h = (omega arith, fitted_bytes n [] tt)
fitted_bytes (suc n) (x ∷ xs) h = (h.0, fitted_bytes n xs h.1)

module _ (s : List ℕ) (k : ℕ) (runs : Runs s k) (w : ℕ) (wide : w ≤ 8) (t : List ℕ) where
  abbrev Made : List Group → Type 0
  Made gs = RightBatch w t gs

  same_record : (b : ℕ) (gs : List Group) → b < k → Made gs → is_record s k b (shape_by gs) ≡ same_shape (record_at s b) (record_of gs)
  unfolding is_record same_shape record_of record_by
  same_record b gs h m =
      let r = record_at s b in
      let x = laid_at s k b runs h in
      let ns = map size_of gs in
      let fs = map flag_of gs in
      let l : length ns ≤ 8 = omega (arith, length-map gs size_of, m.most) in
      let n : length fs ≤ 8 = omega (arith, length-map gs flag_of, m.most) in
      let a : eqb (number 256 (differences r.starts)) (number 256 ns) ≡ same r.starts (starts_from 0 (fitted 8 ns)) =
      ap (λ (v : ℕ). eqb (number 256 (differences r.starts)) v) (sym (fitted_number 8 ns l))
      ∙ same_starts r.starts (fitted 8 ns) (omega (arith, x.starts, fitted_length 8 ns)) x.sound.first (right_starts r (record_fits s k b runs h)) (fitted_bytes 8 ns (sizes_bytes t gs m.groups)) in
      let c : eqb (number 256 r.flags) (number 256 fs) ≡ same r.flags (fitted 8 fs) =
      ap (λ (v : ℕ). eqb (number 256 r.flags) v) (sym (fitted_number 8 fs n))
      ∙ same_number r.flags (fitted 8 fs) (x.flags ∙ sym (fitted_length 8 fs)) (flags_small r.flags x.sound.flags) (fitted_bytes 8 fs (flags_bytes t gs)) in
      ap₂ (λ (p q : Bool). ltb b k && (p && q)) a c ∙ rw (lt-ltb b k h)

  -- once one is apart, it stays so
  seen_apart : (e : Refusal) (bs : List (List Group)) → seen s k (Err e) bs ≡ Err e
  unfolding seen
  seen_apart e [] = refl
  seen_apart e (gs ∷ bs) = seen_apart e bs

  -- there is no such record
  past : (b : ℕ) (gs : List Group) → k ≤ b → is_record s k b (shape_by gs) ≡ false
  unfolding is_record
  past b gs l = rw (le-ltb b k l)

  pub said_is : (r : Answer Unit) (b : ℕ) (bs : List (List Group)) → All Made bs
      → refuse_first b (shapes_differing (records_from (k - b) s b) (map record_of bs)) r ≡ batches_judged k (seen s k (Ok b) bs) r
  unfolding refuse_first shapes_differing seen
  said_is r b [] h =
      split b k
      (λ l. rw (records_turn k s b l, lt-ltb b k l))
      (λ l. rw (records_end k s b l, le-ltb b k l))
  said_is r b (gs ∷ bs) h =
      split b k
      (λ l. ap compared (records_turn k s b l) ∙ go (same_shape (record_at s b) (record_of gs)) (said_is r (b + 1) bs h.1) ∙ onward (same_shape (record_at s b) (record_of gs)) (same_record b gs l h.0))
      (λ l. ap compared (records_end k s b l) ∙ ap (λ (e : Result ℕ Refusal). batches_judged k e r) (sym (seen_apart (Unfinished b) bs)) ∙ onward false (past b gs l))
    where
      next : Bool → Result ℕ Refusal
      next y = cond y (Ok (b + 1)) (Err (Unfinished b))

      go : (y : Bool) → refuse_first (b + 1) (shapes_differing (records_from (k - (b + 1)) s (b + 1)) (map record_of bs)) r ≡ batches_judged k (seen s k (Ok (b + 1)) bs) r
          → refuse_first b (cond y 0 unfinished₁₈ ∷ shapes_differing (records_from (k - (b + 1)) s (b + 1)) (map record_of bs)) r ≡ batches_judged k (seen s k (next y) bs) r
      go true ih = ih
      go false ih = rw (seen_apart (Unfinished b) bs)

      compared : List Record → Answer Unit
      compared rs = refuse_first b (shapes_differing rs (map record_of (gs ∷ bs))) r

      onward : (y : Bool) → is_record s k b (shape_by gs) ≡ y → batches_judged k (seen s k (next y) bs) r ≡ batches_judged k (seen s k (held s k (shape_by gs) (Ok b)) bs) r
      onward y e = ap (λ (u : Bool). batches_judged k (seen s k (next u) bs) r) (sym e)
