-- Laws of batches as lists of groups: what closing, placing and joining add. Assumes nothing.
use mathlib.Core.Path.{◌≡◌, refl, sym, ap, ap₂, ◌∙◌}
use mathlib.Core.Bool.{Bool, true, false, cond}
use mathlib.Core.List.{List, [], ◌∷◌, ◌++◌, map, append_assoc, append-nil}
use Prim.Native.Nat.{ℕ, zero, suc, ◌+◌, ◌-◌, ◌*◌, ◌^◌, ◌≤◌}
use native.Mathlib.Nat.{pow-suc, mul_assoc}
use native.Mathlib.Omega.{arith}
use borrow.Author.Tests.{ne_eqb}
use lib.Dec.{eqb}
use lib.ListN.{length, length-append, length-map}
use Rattle.rules.specs.Lists.{fitted, in_row}
use Rattle.rules.specs.Digits.{number}
use Rattle.rules.specs.Operations.{Op, noop, codes, has_immediate}
use Rattle.rules.specs.Batching.{Group, ops, imm, Batch, next_free, wants_noop, close_group, groups, turned, joined, ready, full, added, turned_times, target, ended}
use Rattle.rules.specs.Record.{ops_in, codes_number, ops_of, padded_of, record_of, record_size, record_bytes, records_bytes}
use Rattle.rules.proofs.Runs.{fitted_zeros}
use Rattle.accumulator.specs.View.{ends_in, ops_so_far}
use Rattle.accumulator.proofs.Draft.{length_record}

-- ---- a group

pub wants_ends : (t : List ℕ) (xs : List Op) → wants_noop t xs ≡ cond (eqb (length xs) 0) true (ends_in t xs)
unfolding wants_noop ends_in
wants_ends t [] = refl
wants_ends t (x ∷ xs) = rw (ne_eqb (suc (length xs)) 0 (λ e. omega arith))

wants_snoc : (t : List ℕ) (xs : List Op) (x : Op) → wants_noop t (xs ++ (x ∷ [])) ≡ has_immediate t x
unfolding wants_noop
wants_snoc t [] x = refl
wants_snoc t (y ∷ []) x = refl
wants_snoc t (y ∷ z ∷ xs) x = wants_snoc t (z ∷ xs) x

pub ends_snoc : (t : List ℕ) (xs : List Op) (x : Op) → ends_in t (xs ++ (x ∷ [])) ≡ has_immediate t x
unfolding ends_in
ends_snoc t [] x = wants_snoc t [] x
ends_snoc t (y ∷ xs) x = wants_snoc t (y ∷ xs) x

pub number_snoc : (xs : List Op) (x : Op) → codes_number (xs ++ (x ∷ [])) ≡ codes_number xs + x.code * 128 ^ length xs
unfolding codes_number codes number
number_snoc [] x = omega arith
number_snoc (y ∷ xs) x =
    let p : x.code * 128 ^ suc (length xs) ≡ x.code * 128 ^ length xs * 128 = ap (λ (k : ℕ). x.code * k) (pow-suc 128 (length xs)) ∙ sym (mul_assoc x.code (128 ^ length xs) 128) in
    omega (arith, number_snoc xs x, p)

-- the Noop that closing adds, if any
unfoldable pub pad : List ℕ → List Op → List Op
pad t xs = cond (wants_noop t xs) (noop ∷ []) []

ops_closed : (t : List ℕ) (xs : List Op) → ops_in (close_group t xs) ≡ xs ++ pad t xs
unfolding ops_in close_group pad
ops_closed t xs = go (wants_noop t xs)
  where
    go : (b : Bool) → ops_in (cond b (ops (xs ++ (noop ∷ [])) true) (ops xs false)) ≡ xs ++ cond b (noop ∷ []) []
    go true = refl
    go false = sym (append-nil xs)

-- ---- a batch in the making

ops_append : (xs ys : List Group) → ops_of (xs ++ ys) ≡ ops_of xs ++ ops_of ys
unfolding in_row
ops_append [] ys = refl
ops_append (x ∷ xs) ys = ap (λ (l : List Op). ops_in x ++ l) (ops_append xs ys) ∙ sym (append_assoc (ops_in x) (ops_of xs) (ops_of ys))

ops_imm : (vs : List ℕ) → ops_of (map imm vs) ≡ []
unfolding in_row ops_in
ops_imm [] = refl
ops_imm (v ∷ vs) = ops_imm vs

pub so_far_length : (b : Batch) → length (ops_so_far b) ≡ length (ops_of b.closed) + length b.current
unfolding ops_so_far
so_far_length b = length-append (ops_of b.closed) b.current

pub groups_ops : (t : List ℕ) (b : Batch) → ops_of (groups t b) ≡ ops_so_far b ++ pad t b.current
unfolding groups ops_so_far in_row
groups_ops t b =
    ops_append b.closed (close_group t b.current ∷ map imm b.placed)
    ∙ ap (λ (l : List Op). ops_of b.closed ++ l) (ap₂ (λ (x y : List Op). x ++ y) (ops_closed t b.current) (ops_imm b.placed) ∙ append-nil (b.current ++ pad t b.current))
    ∙ sym (append_assoc (ops_of b.closed) b.current (pad t b.current))

pub groups_length : (t : List ℕ) (b : Batch) → length (groups t b) ≡ next_free b
unfolding groups next_free
groups_length t b =
    omega (arith, length-append b.closed (close_group t b.current ∷ map imm b.placed), length-map {A = ℕ} {B = Group} b.placed imm)

so_far_turned : (t : List ℕ) (b : Batch) → ops_so_far (turned t b) ≡ ops_of (groups t b)
unfolding ops_so_far turned
so_far_turned t b = append-nil (ops_of (groups t b))

so_far_joined : (t : List ℕ) (x : Op) (b : Batch) → ops_so_far (joined t x b) ≡ ops_so_far b ++ (x ∷ [])
unfolding ops_so_far joined
so_far_joined t x b = sym (append_assoc (ops_of b.closed) b.current (x ∷ []))

pub added_length : (t : List ℕ) (x : Op) (b : Batch) → length (ops_so_far (added t x b)) ≡ length (ops_so_far (ready t x b)) + 1
unfolding added
added_length t x b = ap length (so_far_joined t x (ready t x b)) ∙ length-append (ops_so_far (ready t x b)) (x ∷ [])

pub free_turned : (t : List ℕ) (b : Batch) → next_free (turned t b) ≡ next_free b + 1
unfolding next_free turned
free_turned t b = let e : length (groups t b) ≡ length b.closed + 1 + length b.placed = groups_length t b in omega arith

pub free_times : (k : ℕ) (t : List ℕ) (b : Batch) → next_free (turned_times k t b) ≡ next_free b + k
unfolding turned_times
free_times zero t b = omega arith
free_times (suc k) t b = omega (arith, free_times k t (turned t b), free_turned t b)

pub ended_length : (t : List ℕ) (b : Batch) → next_free b ≤ target (next_free b) → length (ended t b) ≡ target (next_free b)
unfolding ended
ended_length t b h =
    let k = target (next_free b) - next_free b in
    omega (arith, groups_length t (turned_times k t b), free_times k t b)

-- ---- a view of the operations in which a Noop is 0 does not see the paddings at its end

module _ (f : Op → ℕ) (z : f noop ≡ 0) (n : ℕ) (q : List Op) where
  map_append : (xs ys : List Op) → map f (xs ++ ys) ≡ map f xs ++ map f ys
  map_append [] ys = refl
  map_append (x ∷ xs) ys = ap (λ (l : List ℕ). f x ∷ l) (map_append xs ys)

  unseen_groups : (t : List ℕ) (b : Batch) → fitted n (map f (q ++ ops_of (groups t b))) ≡ fitted n (map f (q ++ ops_so_far b))
  unfolding pad
  unseen_groups t b = ap (λ (l : List Op). fitted n (map f (q ++ l))) (groups_ops t b) ∙ go (wants_noop t b.current)
    where
      go : (w : Bool) → fitted n (map f (q ++ (ops_so_far b ++ cond w (noop ∷ []) []))) ≡ fitted n (map f (q ++ ops_so_far b))
      go true =
          ap (λ (l : List Op). fitted n (map f l)) (sym (append_assoc q (ops_so_far b) (noop ∷ [])))
          ∙ ap (fitted n) (map_append (q ++ ops_so_far b) (noop ∷ []) ∙ ap (λ (k : ℕ). map f (q ++ ops_so_far b) ++ (k ∷ [])) z)
          ∙ fitted_zeros n (map f (q ++ ops_so_far b)) 1
      go false = ap (λ (l : List Op). fitted n (map f (q ++ l))) (append-nil (ops_so_far b))

  unseen_turned : (t : List ℕ) (b : Batch) → fitted n (map f (q ++ ops_so_far (turned t b))) ≡ fitted n (map f (q ++ ops_so_far b))
  unseen_turned t b = ap (λ (l : List Op). fitted n (map f (q ++ l))) (so_far_turned t b) ∙ unseen_groups t b

  unseen_times : (k : ℕ) (t : List ℕ) (b : Batch) → fitted n (map f (q ++ ops_so_far (turned_times k t b))) ≡ fitted n (map f (q ++ ops_so_far b))
  unfolding turned_times
  unseen_times zero t b = refl
  unseen_times (suc k) t b = unseen_times k t (turned t b) ∙ unseen_turned t b

  pub unseen_ended : (t : List ℕ) (b : Batch) → fitted n (map f (q ++ ops_of (ended t b))) ≡ fitted n (map f (q ++ ops_so_far b))
  unfolding ended
  unseen_ended t b =
      let k = target (next_free b) - next_free b in
      unseen_groups t (turned_times k t b) ∙ unseen_times k t b

  pub unseen_ready : (t : List ℕ) (x : Op) (b : Batch) → fitted n (map f (q ++ ops_so_far (ready t x b))) ≡ fitted n (map f (q ++ ops_so_far b))
  unfolding ready
  unseen_ready t x b = go (full t x b)
    where
      go : (w : Bool) → fitted n (map f (q ++ ops_so_far (cond w (turned t b) b))) ≡ fitted n (map f (q ++ ops_so_far b))
      go true = unseen_turned t b
      go false = refl

  pub seen_added : (t : List ℕ) (x : Op) (b : Batch) → map f (q ++ ops_so_far (added t x b)) ≡ map f (q ++ ops_so_far (ready t x b)) ++ (f x ∷ [])
  unfolding added
  seen_added t x b =
      ap (λ (l : List Op). map f (q ++ l)) (so_far_joined t x (ready t x b))
      ∙ ap (map f) (sym (append_assoc q (ops_so_far (ready t x b)) (x ∷ [])))
      ∙ map_append (q ++ ops_so_far (ready t x b)) (x ∷ [])

-- ---- several batches

pub padded_more : (bs : List (List Group)) (b : List Group) → padded_of (bs ++ (b ∷ [])) ≡ padded_of bs ++ ops_of b
unfolding in_row
padded_more [] b = append-nil (ops_of b)
padded_more (a ∷ bs) b = ap (λ (l : List Op). ops_of a ++ l) (padded_more bs b) ∙ sym (append_assoc (ops_of a) (padded_of bs) (ops_of b))

pub records_more : (bs : List (List Group)) (b : List Group) → records_bytes (map record_of (bs ++ (b ∷ []))) ≡ records_bytes (map record_of bs) ++ record_bytes (record_of b)
unfolding in_row
records_more [] b = append-nil (record_bytes (record_of b))
records_more (a ∷ bs) b =
    ap (λ (l : List ℕ). record_bytes (record_of a) ++ l) (records_more bs b) ∙ sym (append_assoc (record_bytes (record_of a)) (records_bytes (map record_of bs)) (record_bytes (record_of b)))

pub records_length : (bs : List (List Group)) → length (records_bytes (map record_of bs)) ≡ record_size * length bs
unfolding in_row
records_length [] = refl
records_length (b ∷ bs) =
    omega (arith, length-append (record_bytes (record_of b)) (records_bytes (map record_of bs)), length_record b, records_length bs)
