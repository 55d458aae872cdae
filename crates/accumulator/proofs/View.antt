-- The accumulator's numbers and its record are views of a batch of the rules, and each method is a step of the rules seen through them. Assumes nothing.
use mathlib.Core.Path.{◌≡◌, refl, sym, ap, ap₂, ◌∙◌}
use mathlib.Core.Bool.{Bool, true, false, cond}
use mathlib.Core.List.{List, [], ◌∷◌, ◌++◌, map, append_assoc}
use Prim.Native.Nat.{ℕ, zero, suc, ◌+◌, ◌-◌, ◌*◌, ◌^◌, ◌≤◌, ◌<◌}
use native.Mathlib.Nat.{add-zero, zero-mul, pow-suc}
use native.Mathlib.Numerals.{add-one}
use native.Mathlib.Omega.{arith}
use lib.ListN.{length, length-append, length-map}
use Rattle.rules.specs.Lists.{fitted, in_row}
use Rattle.rules.specs.Digits.{number}
use Rattle.rules.specs.Operations.{Op, codes, noop, has_immediate}
use Rattle.rules.specs.Batching.{Group, ops, imm, Batch, empty, next_free, fits, wants_noop, close_group, groups, turned, full, joined, ready, added, target, turned_times, ended}
use Rattle.rules.specs.Record.{Record, flag_of, codes_number, ops_of, record_of, record_size, record_bytes}
use Rattle.op_batch.specs.Stores.{starts_set, flag_set, number_set, count_set}
use Rattle.accumulator.specs.declared.OpBatchAccumulator.{OpBatchAccumulator}
use Rattle.accumulator.specs.Good.{record_groups}
use Rattle.accumulator.specs.Model.{new_acc, fits_in, pads, pad_of, closed_run, turned_acc, slotted_acc, slotted_run, joined_acc, crosses, ready_acc, ready_run, added_acc, added_run, filled_acc, filled_run, last_acc, ended_total, ended_run}
use Rattle.accumulator.specs.View.{ends_in, acc_of, ops_so_far, drafted, record_with}
use Rattle.accumulator.proofs.Draft.{record_open, run_shut, run_imm, run_zero, run_count}
use Rattle.accumulator.proofs.Groups.{wants_ends, ends_snoc, number_snoc, pad, groups_ops, groups_length, so_far_length, free_turned, free_times, ended_length}
use Rattle.accumulator.proofs.Good.{target_bounds}

drafted_length : (b : Batch) → length (drafted b) ≡ next_free b
unfolding drafted next_free
drafted_length b = omega (arith, length-append b.closed (ops [] false ∷ map imm b.placed), length-map {A = ℕ} {B = Group} b.placed imm)

-- ---- the numbers

pub acc_empty : (t : List ℕ) → new_acc ≡ acc_of t empty
unfolding acc_of empty next_free ends_in codes_number codes number in_row
acc_empty t = refl

pub acc_next : (t : List ℕ) (b : Batch) → (acc_of t b).next ≡ next_free b
unfolding acc_of
acc_next t b = refl

pub acc_fits : (w : ℕ) (t : List ℕ) (x : Op) (b : Batch) → fits_in w (has_immediate t x) (acc_of t b) ≡ fits w t x b
unfolding acc_of fits
acc_fits w t x b = refl

pub acc_pads : (t : List ℕ) (b : Batch) → pads (acc_of t b) ≡ wants_noop t b.current
unfolding acc_of
acc_pads t b = sym (wants_ends t b.current)

pad_length : (t : List ℕ) (b : Batch) → pad_of (acc_of t b) ≡ length (pad t b.current)
unfolding pad
pad_length t b = ap (λ (w : Bool). cond w 1 0) (acc_pads t b) ∙ go (wants_noop t b.current)
  where
    go : (w : Bool) → cond w 1 0 ≡ length (cond w (noop ∷ []) [])
    go true = refl
    go false = refl

pub acc_total : (t : List ℕ) (b : Batch) → (acc_of t b).total ≡ length (ops_so_far b)
unfolding acc_of
acc_total t b = sym (so_far_length b)

-- the operations of a batch whose current group is closed
groups_total : (t : List ℕ) (b : Batch) → (acc_of t b).total + pad_of (acc_of t b) ≡ length (ops_of (groups t b))
groups_total t b =
    ap₂ (λ (x y : ℕ). x + y) (acc_total t b) (pad_length t b) ∙ sym (length-append (ops_so_far b) (pad t b.current)) ∙ sym (ap length (groups_ops t b))

pub acc_turned : (t : List ℕ) (b : Batch) → turned_acc (acc_of t b) ≡ acc_of t (turned t b)
unfolding turned_acc acc_of turned ends_in codes_number codes number
acc_turned t b =
    let e1 = sym (groups_length t b) in
    let e2 = sym (free_turned t b) in
    let e5 = groups_total t b ∙ sym (add-zero (length (ops_of (groups t b)))) in
    λ j. record { cur = e1 j; next = e2 j; inside = 0; number = 0; unit = 1; total = e5 j; tail = false }

acc_joined : (t : List ℕ) (x : Op) (b : Batch) → joined_acc x.code (has_immediate t x) (cond (has_immediate t x) (slotted_acc (acc_of t b)) (acc_of t b)) ≡ acc_of t (joined t x b)
unfolding joined_acc slotted_acc acc_of joined next_free
acc_joined t x b = go (has_immediate t x) refl
  where
    e3 : length b.current + 1 ≡ length (b.current ++ (x ∷ []))
    e3 = sym (length-append b.current (x ∷ []))

    e5 : 128 ^ length b.current * 128 ≡ 128 ^ length (b.current ++ (x ∷ []))
    e5 = sym (pow-suc 128 (length b.current)) ∙ ap (λ (k : ℕ). 128 ^ k) (sym (add-one (length b.current)) ∙ e3)

    e6 : length (ops_of b.closed) + length b.current + 1 ≡ length (ops_of b.closed) + length (b.current ++ (x ∷ []))
    e6 = omega (arith, e3)

    e2 : (i : Bool) → cond i (length b.closed + 1 + length b.placed + 1) (length b.closed + 1 + length b.placed) ≡ length b.closed + 1 + length (cond i (b.placed ++ (x.value ∷ [])) b.placed)
    e2 true = omega (arith, length-append b.placed (x.value ∷ []))
    e2 false = refl

    go : (i : Bool) → has_immediate t x ≡ i
        → joined_acc x.code i (cond i (slotted_acc (acc_of t b)) (acc_of t b))
        ≡ acc_of t (record { closed = b.closed; current = b.current ++ (x ∷ []); placed = cond i (b.placed ++ (x.value ∷ [])) b.placed })
    go true p =
        let e4 = sym (number_snoc b.current x) in
        let e7 = sym p ∙ sym (ends_snoc t b.current x) in
        λ j. record { cur = length b.closed; next = e2 true j; inside = e3 j; number = e4 j; unit = e5 j; total = e6 j; tail = e7 j }
    go false p =
        let e4 = sym (number_snoc b.current x) in
        let e7 = sym p ∙ sym (ends_snoc t b.current x) in
        λ j. record { cur = length b.closed; next = e2 false j; inside = e3 j; number = e4 j; unit = e5 j; total = e6 j; tail = e7 j }

acc_full : (t : List ℕ) (x : Op) (b : Batch) → crosses (has_immediate t x) (acc_of t b) ≡ full t x b
unfolding acc_of full
acc_full t x b = refl

pub acc_ready : (t : List ℕ) (x : Op) (b : Batch) → ready_acc (has_immediate t x) (acc_of t b) ≡ acc_of t (ready t x b)
unfolding ready_acc ready
acc_ready t x b = rw (acc_full t x b) (go (full t x b))
  where
    go : (w : Bool) → cond w (turned_acc (acc_of t b)) (acc_of t b) ≡ acc_of t (cond w (turned t b) b)
    go true = acc_turned t b
    go false = refl

pub acc_added : (t : List ℕ) (x : Op) (b : Batch) → added_acc x.code (has_immediate t x) (acc_of t b) ≡ acc_of t (added t x b)
unfolding added_acc added
acc_added t x b =
    ap (λ (a : OpBatchAccumulator). joined_acc x.code (has_immediate t x) (cond (has_immediate t x) (slotted_acc a) a)) (acc_ready t x b) ∙ acc_joined t x (ready t x b)

acc_times : (k : ℕ) (t : List ℕ) (b : Batch) → filled_acc k (acc_of t b) ≡ acc_of t (turned_times k t b)
unfolding filled_acc turned_times
acc_times zero t b = refl
acc_times (suc k) t b = ap (filled_acc k) (acc_turned t b) ∙ acc_times k t (turned t b)

-- the batch after the turns that end it, but for the last close
unfoldable last_of : List ℕ → Batch → Batch
last_of t b = turned_times (target (next_free b) - next_free b) t b

acc_last : (t : List ℕ) (b : Batch) → last_acc (acc_of t b) ≡ acc_of t (last_of t b)
unfolding last_acc last_of
acc_last t b = ap (λ (m : ℕ). filled_acc (target m - m) (acc_of t b)) (acc_next t b) ∙ acc_times (target (next_free b) - next_free b) t b

ended_last : (t : List ℕ) (b : Batch) → groups t (last_of t b) ≡ ended t b
unfolding last_of ended
ended_last t b = refl

pub ended_count : (t : List ℕ) (b : Batch) → ended_total (acc_of t b) ≡ length (ops_of (ended t b))
unfolding ended_total
ended_count t b =
    ap (λ (a : OpBatchAccumulator). a.total + pad_of a) (acc_last t b) ∙ groups_total t (last_of t b) ∙ ap (λ (l : List Group). length (ops_of l)) (ended_last t b)

-- ---- the record

noop_number : (xs : List Op) → codes_number xs ≡ codes_number (xs ++ (noop ∷ []))
unfolding noop
noop_number xs = omega (arith, number_snoc xs noop, zero-mul (128 ^ length xs))

pub closed_free : (b : Batch) → length b.closed < next_free b
unfolding next_free
closed_free b = omega arith

-- a run of n bytes that begins with p, which are nb records, and the record of a batch in the making
module _ (n : ℕ) (p : List ℕ) (nb : ℕ) (at : length p ≡ record_size * nb) (t : List ℕ) where
  abbrev Run : List Group → List ℕ
  Run gs = fitted n (p ++ record_bytes (record_with 0 gs))

  run_close : (b : Batch) → length b.closed < record_groups → closed_run nb (acc_of t b) (Run (drafted b)) ≡ Run (groups t b)
  unfolding closed_run acc_of drafted groups close_group flag_of
  run_close b h = rw (← wants_ends t b.current) (go (wants_noop t b.current))
    where
      shut : (ys : List Op) (f : Bool) (tot : ℕ) → tot ≡ length (ops_of b.closed) + length ys
          → number_set nb (length b.closed) (codes_number ys) (flag_set nb (length b.closed) (cond f 1 0) (starts_set nb (length b.closed + 1) tot (Run (b.closed ++ ops [] false ∷ map imm b.placed))))
          ≡ Run (b.closed ++ ops ys f ∷ map imm b.placed)
      shut ys f tot e = run_shut n p nb at 0 b.closed ys f b.placed tot h e

      go : (w : Bool)
          → number_set nb (length b.closed) (codes_number b.current) (flag_set nb (length b.closed) (cond w 1 0) (starts_set nb (length b.closed + 1) (length (ops_of b.closed) + length b.current + cond w 1 0) (Run (b.closed ++ ops [] false ∷ map imm b.placed))))
          ≡ Run (b.closed ++ cond w (ops (b.current ++ (noop ∷ [])) true) (ops b.current false) ∷ map imm b.placed)
      go true = rw (noop_number b.current) (shut (b.current ++ (noop ∷ [])) true (length (ops_of b.closed) + length b.current + 1) (omega (arith, length-append b.current (noop ∷ []))))
      go false = shut b.current false (length (ops_of b.closed) + length b.current + 0) (omega arith)

  run_turned : (b : Batch) → length b.closed < record_groups → closed_run nb (acc_of t b) (Run (drafted b)) ≡ Run (drafted (turned t b))
  unfolding drafted turned
  run_turned b h = run_close b h ∙ ap (λ (r : Record). fitted n (p ++ record_bytes r)) (sym (record_open 0 (groups t b)))

  run_ready : (x : Op) (b : Batch) → length b.closed < record_groups → ready_run (has_immediate t x) nb (acc_of t b) (Run (drafted b)) ≡ Run (drafted (ready t x b))
  unfolding ready_run ready
  run_ready x b h = rw (acc_full t x b) (go (full t x b))
    where
      go : (w : Bool) → cond w (closed_run nb (acc_of t b) (Run (drafted b))) (Run (drafted b)) ≡ Run (drafted (cond w (turned t b) b))
      go true = run_turned b h
      go false = refl

  run_times : (k : ℕ) (b : Batch) → next_free b + k ≤ record_groups → filled_run k nb (acc_of t b) (Run (drafted b)) ≡ Run (drafted (turned_times k t b))
  unfolding filled_run turned_times
  run_times zero b h = refl
  run_times (suc k) b h =
      ap₂ (λ (a : OpBatchAccumulator) (l : List ℕ). filled_run k nb a l) (acc_turned t b) (run_turned b (omega (arith, closed_free b)))
      ∙ run_times k (turned t b) (omega (arith, free_turned t b))

  run_last : (b : Batch) → next_free b ≤ record_groups → closed_run nb (last_acc (acc_of t b)) (filled_run (target (acc_of t b).next - (acc_of t b).next) nb (acc_of t b) (Run (drafted b))) ≡ Run (ended t b)
  unfolding last_of
  run_last b h =
      let g = target_bounds (next_free b) h in
      let k = target (next_free b) - next_free b in
      let m = free_times k t b in
      ap₂ (λ (a : OpBatchAccumulator) (l : List ℕ). closed_run nb a l) (acc_last t b) (ap (λ (m : ℕ). filled_run (target m - m) nb (acc_of t b) (Run (drafted b))) (acc_next t b) ∙ run_times k b (omega arith))
      ∙ run_close (last_of t b) (omega (arith, closed_free (turned_times k t b)))
      ∙ ap Run (ended_last t b)

  pub run_ended : (b : Batch) → next_free b ≤ record_groups → ended_run nb (acc_of t b) (Run (drafted b)) ≡ fitted n (p ++ record_bytes (record_of (ended t b)))
  unfolding ended_run
  run_ended b h =
      ap₂ (λ (l : List ℕ) (k : ℕ). count_set nb k l) (run_last b h) (ap target (acc_next t b) ∙ sym (ended_length t b (target_bounds (next_free b) h).0))
      ∙ run_count n p nb at 0 (ended t b)

  map_snoc : (vs : List ℕ) (v : ℕ) → map imm (vs ++ (v ∷ [])) ≡ map imm vs ++ (imm v ∷ [])
  map_snoc [] v = refl
  map_snoc (u ∷ vs) v = ap (λ (l : List Group). imm u ∷ l) (map_snoc vs v)

  run_slotted : (v : ℕ) (b : Batch) → next_free b < record_groups
      → slotted_run v nb (acc_of t b) (Run (drafted b)) ≡ Run (drafted (record { closed = b.closed; current = b.current; placed = b.placed ++ (v ∷ []) }))
  unfolding slotted_run drafted
  run_slotted v b h =
      let e : length (b.closed ++ ops [] false ∷ map imm b.placed) ≡ next_free b = drafted_length b in
      rw (acc_next t b, ← e, map_snoc b.placed v, ← append_assoc b.closed (ops [] false ∷ map imm b.placed) (imm v ∷ []))
      (run_imm n p nb at 0 (b.closed ++ ops [] false ∷ map imm b.placed) v (omega arith))

  -- 0 in the next free slot is there already
  pub run_kept : (b : Batch) → next_free b < record_groups → number_set nb (next_free b) 0 (Run (drafted b)) ≡ Run (drafted b)
  run_kept b h = let e = drafted_length b in rw (← e) (run_zero n p nb at 0 (drafted b) (omega arith))

  pub run_added : (x : Op) (b : Batch) → length b.closed < record_groups → (has_immediate t x ≡ true → next_free (ready t x b) < record_groups)
      → added_run (has_immediate t x) x.value nb (acc_of t b) (Run (drafted b)) ≡ Run (drafted (added t x b))
  unfolding added_run added joined drafted
  run_added x b h k = rw (acc_ready t x b, run_ready x b h) (go (has_immediate t x) k)
    where
      r : Batch
      r = ready t x b

      go : (i : Bool) → (i ≡ true → next_free r < record_groups)
          → cond i (slotted_run x.value nb (acc_of t r) (Run (drafted r))) (Run (drafted r))
          ≡ Run (r.closed ++ ops [] false ∷ map imm (cond i (r.placed ++ (x.value ∷ [])) r.placed))
      go true k = run_slotted x.value r (k refl)
      go false k = refl
