-- The work in hand and the three lent runs hold the rules' work: the driver's loop, its turn and its end. `w` is the width. Assumes nothing.
use mathlib.Core.Path.{◌≡◌, refl, sym, ap, ap₂, ◌∙◌, subst}
use mathlib.Core.Bool.{Bool, true, false, cond}
use mathlib.Core.List.{List, [], ◌∷◌, ◌++◌, map, append-nil}
use Prim.Native.Nat.{ℕ, ◌+◌, ◌-◌, ◌*◌, ◌≤◌, ◌<◌}
use native.Mathlib.Omega.{arith}
use lib.ListN.{length, get_or, drop, set, length-append, length-map}
use lib.Dec.{eqb}
use Rattle.rules.specs.Lists.{fitted, in_row}
use Rattle.rules.specs.Answer.{Answer, good, refused, refuse_first}
use Rattle.rules.specs.Operations.{Op, operations, codes, values, noop, has_immediate, op_fault}
use Rattle.rules.specs.Batching as rule
use Rattle.rules.specs.Batching.{Group, Batch, empty, next_free, fits, ready, added, ended, start, end_batch, room, step, steps, batches_of}
use Rattle.rules.specs.Record.{ops_of, padded_of, record_of, record_size, record_bytes, records_bytes, Block, block_of, no_block}
use Rattle.rules.specs.Functions.{Arena, arena, filled}
use Rattle.op_batch.specs.Stores.{number_set}
use Rattle.rules.proofs.Answer.{clash, value, first_turn, first_stop, first_done}
use Rattle.rules.proofs.Operations.{op, kind_at, admitted, operations_turn, operations_end}
use Rattle.rules.proofs.Runs.{fitted_length, fitted_set}
use Rattle.accumulator.specs.declared.OpBatchAccumulator.{OpBatchAccumulator}
use Rattle.batcher.specs.declared.Work.{Work}
use Rattle.accumulator.specs.Good.{record_groups, Good}
use Rattle.accumulator.specs.View.{acc_of, ops_so_far, drafted, record_with}
use Rattle.batcher.specs.Going.{InHand, Going}
use Rattle.std.specs.Prelude.{Result, Ok}
use Rattle.refusal.specs.declared.Refusal.{Refusal}
use Rattle.refusal.specs.Told.{told}
use Rattle.operation.specs.Verdict.{one_fault}
use Rattle.operation.proofs.Faults.{faulted}
use Rattle.batcher.specs.declared.Totals.{Totals}
use Rattle.batcher.specs.Batched.{listed, built_of, Batched}
use Rattle.accumulator.specs.Model.{new_acc, fits_in, ready_acc, added_acc, added_run, ended_total, ended_run}
use Rattle.batcher.specs.Model.{ended_work, ended_work_run, room_work, room_run, stepped_work, stepped_run, last_place}
use Rattle.accumulator.proofs.Good as good
use Rattle.batcher.proofs.Keeps.{roomy}
use Rattle.accumulator.proofs.Draft.{run_empty}
use Rattle.accumulator.proofs.Groups.{unseen_ended, unseen_ready, seen_added, added_length, padded_more, records_more, records_length}
use Rattle.accumulator.proofs.View.{acc_empty, acc_fits, acc_total, acc_next, acc_ready, acc_added, closed_free, ended_count, run_added, run_kept, run_ended}

abbrev records_of : List (List Group) → List ℕ
records_of bs = records_bytes (map record_of bs)

-- ---- one view of the operations, in which a Noop is 0

module _ (f : Op → ℕ) (z : f noop ≡ 0) (n : ℕ) (t : List ℕ) where
  -- at the end of a batch nothing is stored
  view_end : (bs : List (List Group)) (b : Batch) → fitted n (map f (padded_of bs ++ ops_so_far b)) ≡ fitted n (map f (padded_of (bs ++ (ended t b ∷ [])) ++ ops_so_far empty))
  unfolding ops_so_far empty in_row
  view_end bs b =
      sym (unseen_ended f z n (padded_of bs) t b) ∙ ap (λ (l : List Op). fitted n (map f l)) (sym (padded_more bs (ended t b)) ∙ sym (append-nil (padded_of (bs ++ (ended t b ∷ [])))))

  -- one operation is stored at the end
  view_put : (x : Op) (q : List Op) (b : Batch) (k : ℕ) → k ≡ length q + length (ops_so_far (ready t x b))
      → set (fitted n (map f (q ++ ops_so_far b))) k (f x) ≡ fitted n (map f (q ++ ops_so_far (added t x b)))
  view_put x q b k e =
      let l = map f (q ++ ops_so_far (ready t x b)) in
      let m : k ≡ length l = e ∙ sym (length-append q (ops_so_far (ready t x b))) ∙ sym (length-map (q ++ ops_so_far (ready t x b)) f) in
      ap₂ (λ (r : List ℕ) (j : ℕ). set r j (f x)) (sym (unseen_ready f z n q t x b)) m ∙ fitted_set n l (f x) ∙ ap (fitted n) (sym (seen_added f z n q t x b))

abbrev code_of : Op → ℕ
code_of x = x.code

abbrev value_of : Op → ℕ
value_of x = x.value

code_noop : code_of noop ≡ 0
unfolding noop
code_noop = refl

value_noop : value_of noop ≡ 0
unfolding noop
value_noop = refl

draft_empty : (n : ℕ) (p : List ℕ) → fitted n (p ++ record_bytes (record_with 0 (drafted empty))) ≡ fitted n p
unfolding drafted empty
draft_empty n p = run_empty n p

module _ (w : ℕ) (e : Arena) (t : List ℕ) (d : rule.Work) (s : Work) (a : Arena) (h : InHand w e t d s a) (wide : w ≤ record_groups) where
  free : next_free d.current ≤ record_groups
  free = let f : next_free d.current ≤ w = rw (acc_next t d.current) at h.good.high in omega arith

  before : length (records_of d.batches) ≡ record_size * s.batches
  before = records_length d.batches ∙ ap (λ (k : ℕ). record_size * k) (sym h.batches)

  -- 0 in the next free slot is there already
  pub held_kept : s.acc.next < record_groups → number_set s.batches s.acc.next 0 a.records ≡ a.records
  held_kept l =
      let n = ap (λ (x : OpBatchAccumulator). x.next) h.acc ∙ acc_next t d.current in
      (λ j. number_set s.batches (n j) 0 (h.records j)) ∙ run_kept (length e.records) (records_of d.batches) s.batches before t d.current (omega arith) ∙ sym h.records

  -- ---- the batch in hand is ended

  more : List (List Group)
  more = d.batches ++ (ended t d.current ∷ [])

  end_base : s.base + ended_total s.acc ≡ length (padded_of more)
  unfolding more
  end_base =
      ap₂ (λ (x y : ℕ). x + y) h.base (ap ended_total h.acc ∙ ended_count t d.current)
      ∙ sym (length-append (padded_of d.batches) (ops_of (ended t d.current)))
      ∙ sym (ap length (padded_more d.batches (ended t d.current)))

  end_records : ended_work_run s a.records ≡ fitted (length e.records) (records_of more ++ record_bytes (record_with 0 (drafted empty)))
  unfolding ended_work_run more
  end_records =
      let n = length e.records in
      (λ j. ended_run s.batches (h.acc j) (h.records j))
      ∙ run_ended n (records_of d.batches) s.batches before t d.current free
      ∙ ap (fitted n) (sym (records_more d.batches (ended t d.current)))
      ∙ sym (draft_empty n (records_of (d.batches ++ (ended t d.current ∷ []))))

  held_end : 2 ≤ w → InHand w e t (end_batch t d) (ended_work s) (arena a.codes a.values (ended_work_run s a.records))
  unfolding end_batch ended_work more codes values
  held_end two =
      record {
        acc = acc_empty t;
        good = subst (Good w) (acc_empty t) (good.new_good w two);
        base = end_base;
        batches = omega (arith, h.batches, length-append d.batches (ended t d.current ∷ []));
        codes = h.codes ∙ view_end code_of code_noop (length e.codes) t d.batches d.current;
        values = h.values ∙ view_end value_of value_noop (length e.values) t d.batches d.current;
        records = end_records;
      }

  -- ---- an operation that fits is added

  module _ (x : Op) (hc : x.code < 128) (f : fits w t x d.current ≡ true) where
    put_fits : fits_in w (has_immediate t x) (acc_of t d.current) ≡ true
    put_fits = acc_fits w t x d.current ∙ f

    put_acc : added_acc x.code (has_immediate t x) s.acc ≡ acc_of t (added t x d.current)
    put_acc = ap (added_acc x.code (has_immediate t x)) h.acc ∙ acc_added t x d.current

    abbrev put_place : ℕ
    put_place = s.base + (added_acc x.code (has_immediate t x) s.acc).total - 1

    put_place_lem : put_place ≡ length (padded_of d.batches) + length (ops_so_far (ready t x d.current))
    put_place_lem =
        let k : (added_acc x.code (has_immediate t x) s.acc).total ≡ length (ops_so_far (added t x d.current)) = ap (λ (a : OpBatchAccumulator). a.total) put_acc ∙ acc_total t (added t x d.current) in
        omega (arith, k, added_length t x d.current, h.base)

    put_slot : has_immediate t x ≡ true → next_free (ready t x d.current) < record_groups
    put_slot i =
        let r = good.ready (has_immediate t x) (acc_of t d.current) h.good put_fits in
        let f : (acc_of t (ready t x d.current)).next < w = subst (λ (a : OpBatchAccumulator). a.next < w) (acc_ready t x d.current) (good.slot_free (has_immediate t x) (ready_acc (has_immediate t x) (acc_of t d.current)) r i) in
        let k : next_free (ready t x d.current) < w = rw (acc_next t (ready t x d.current)) at f in
        omega arith

    put_records : added_run (has_immediate t x) x.value s.batches s.acc a.records
        ≡ fitted (length e.records) (records_of d.batches ++ record_bytes (record_with 0 (drafted (added t x d.current))))
    put_records =
        (λ j. added_run (has_immediate t x) x.value s.batches (h.acc j) (h.records j))
        ∙ run_added (length e.records) (records_of d.batches) s.batches before t x d.current (omega (arith, closed_free d.current, free)) put_slot

    held_put : InHand w e t (record { batches = d.batches; current = added t x d.current })
        (record { acc = added_acc x.code (has_immediate t x) s.acc; base = s.base; batches = s.batches })
        (arena (set a.codes put_place x.code) (set a.values put_place x.value) (added_run (has_immediate t x) x.value s.batches s.acc a.records))
    unfolding codes values
    held_put =
        record {
          acc = put_acc;
          good = subst (Good w) (acc_added t x d.current) (good.added_good x.code (has_immediate t x) (acc_of t d.current) hc h.good put_fits);
          base = h.base;
          batches = h.batches;
          codes = ap (λ (l : List ℕ). set l put_place x.code) h.codes ∙ view_put code_of code_noop (length e.codes) t x (padded_of d.batches) d.current put_place put_place_lem;
          values = ap (λ (l : List ℕ). set l put_place x.value) h.values ∙ view_put value_of value_noop (length e.values) t x (padded_of d.batches) d.current put_place put_place_lem;
          records = put_records;
        }

  -- ---- room is made

  held_room : 2 ≤ w → (x : Op) → InHand w e t (room w t x d) (room_work w (has_immediate t x) s) (arena a.codes a.values (room_run w (has_immediate t x) s a.records))
  unfolding room room_work room_run
  held_room two x =
      subst
      (λ (k : Bool). InHand w e t (cond (fits w t x d.current) d (end_batch t d)) (cond k s (ended_work s)) (arena a.codes a.values (cond k a.records (ended_work_run s a.records))))
      (sym (ap (fits_in w (has_immediate t x)) h.acc ∙ acc_fits w t x d.current))
      (go (fits w t x d.current))
    where
      go : (k : Bool) → InHand w e t (cond k d (end_batch t d)) (cond k s (ended_work s)) (arena a.codes a.values (cond k a.records (ended_work_run s a.records)))
      go true = h
      go false = held_end two

-- what room is made for fits
room_fits : (w : ℕ) → 2 ≤ w → (t : List ℕ) (x : Op) (d : rule.Work) → fits w t x (room w t x d).current ≡ true
unfolding room end_batch
room_fits w two t x d = go (fits w t x d.current) refl
  where
    go : (b : Bool) → fits w t x d.current ≡ b → fits w t x (cond b d (end_batch t d)).current ≡ true
    go true e = e
    go false e = sym (acc_fits w t x empty) ∙ ap (fits_in w (has_immediate t x)) (sym (acc_empty t)) ∙ good.new_fits w (has_immediate t x) two

-- the runs after a step
abbrev pub stepped_runs : ℕ → Op → Bool → Work → Arena → Arena
stepped_runs w x i s a =
    arena
    (set a.codes (last_place (stepped_work w x.code i s)) x.code)
    (set a.values (last_place (stepped_work w x.code i s)) x.value)
    (stepped_run w i x.value s a.records)

held_step : (w : ℕ) (e : Arena) (t : List ℕ) (d : rule.Work) (s : Work) (a : Arena) → InHand w e t d s a → 2 ≤ w → w ≤ record_groups → (x : Op) → x.code < 128
    → InHand w e t (step w t x d) (stepped_work w x.code (has_immediate t x) s) (stepped_runs w x (has_immediate t x) s a)
unfolding step stepped_work stepped_run
held_step w e t d s a h two wide x hc =
    held_put w e t (room w t x d) (room_work w (has_immediate t x) s) (arena a.codes a.values (room_run w (has_immediate t x) s a.records)) (held_room w e t d s a h wide two x) wide x hc (room_fits w two t x d)

-- ---- the loop

pub going_start : (w : ℕ) → 2 ≤ w → (t xs ys : List ℕ) (e : Arena) → e ≡ filled e no_block → Going w e t xs ys 0 (record { acc = new_acc; base = 0; batches = 0 }) e
unfolding filled no_block start ops_so_far empty codes values in_row
going_start w two t xs ys e z =
    record {
      work = start;
      held =
          record {
            acc = acc_empty t;
            good = subst (Good w) (acc_empty t) (good.new_good w two);
            base = refl;
            batches = refl;
            codes = ap (λ (a : Arena). a.codes) z;
            values = ap (λ (a : Arena). a.values) z;
            records = ap (λ (a : Arena). a.records) z ∙ sym (draft_empty (length e.records) []);
          };
      fine = refl;
      rest = refl;
      base = omega arith;
      batches = omega arith;
    }

pub going_good : {w : ℕ} {e : Arena} {t xs ys : List ℕ} {i : ℕ} {s : Work} {a : Arena} → Going w e t xs ys i s a → Good w s.acc
going_good {w} g = subst (Good w) (sym g.held.acc) g.held.good

pub going_lengths : {w : ℕ} {e : Arena} {t xs ys : List ℕ} {i : ℕ} {s : Work} {a : Arena} → Going w e t xs ys i s a
    → (length a.codes ≡ length e.codes) × (length a.values ≡ length e.values) × (length a.records ≡ length e.records)
going_lengths g =
    let h = g.held in
    (ap length h.codes ∙ fitted_length _ _, ap length h.values ∙ fitted_length _ _, ap length h.records ∙ fitted_length _ _)

-- of the runs as they came only the lengths matter
going_as : {w : ℕ} {e f : Arena} {t xs ys : List ℕ} {i : ℕ} {s : Work} {a : Arena} → Going w e t xs ys i s a
    → (length f.codes ≡ length e.codes) × (length f.values ≡ length e.values) × (length f.records ≡ length e.records) → Going w f t xs ys i s a
going_as g l =
    let h = g.held in
    record {
      work = g.work;
      held =
          record {
            acc = h.acc;
            good = h.good;
            base = h.base;
            batches = h.batches;
            codes = rw l.0 h.codes;
            values = rw l.1 h.values;
            records = rw l.2 h.records;
          };
      fine = g.fine;
      rest = g.rest;
      base = g.base;
      batches = g.batches;
    }

-- so that a part of the loop may start from the runs as they are
pub going_here : {w : ℕ} {e : Arena} {t xs ys : List ℕ} {i : ℕ} {s : Work} {a : Arena} → Going w e t xs ys i s a → Going w a t xs ys i s a
going_here g = going_as g (going_lengths g)

steps_turn : (w : ℕ) (t xs ys : List ℕ) (i : ℕ) (d : rule.Work) → i < length xs → i < length ys
    → steps w t (operations (drop (i + 1) xs) (drop (i + 1) ys)) (step w t (op (get_or xs i 0) (get_or ys i 0)) d) ≡ steps w t (operations (drop i xs) (drop i ys)) d
unfolding steps
steps_turn w t xs ys i d h k = rw (operations_turn xs ys i h k)

steps_end : (w : ℕ) (t xs ys : List ℕ) (i : ℕ) (d : rule.Work) → length xs ≤ i → steps w t (operations (drop i xs) (drop i ys)) d ≡ d
unfolding steps
steps_end w t xs ys i d h = rw (operations_end xs ys i h)

-- the walk to the first fault: a turn, a stop, the end
module _ (w : ℕ) (t xs ys : List ℕ) (i : ℕ) where
  abbrev answer : ℕ → Answer Block
  answer i = refuse_first i (map (op_fault t) (operations (drop i xs) (drop i ys))) (good (block_of (batches_of w t (operations xs ys))))

  fine_turn : i < length xs → i < length ys → op_fault t (op (get_or xs i 0) (get_or ys i 0)) ≡ 0 → answer (i + 1) ≡ answer i
  fine_turn h k e = rw (operations_turn xs ys i h k) (sym (first_turn i (op_fault t (op (get_or xs i 0) (get_or ys i 0))) _ _ e))

  fine_stop : i < length xs → i < length ys → (n : ℕ) → n ≡ op_fault t (op (get_or xs i 0) (get_or ys i 0)) → (n ≡ 0 → ⊥) → answer i ≡ refused n i
  fine_stop h k n e f = rw (operations_turn xs ys i h k, sym e) (first_stop i n _ _ f)

  fine_end : length xs ≤ i → answer i ≡ good (block_of (batches_of w t (operations xs ys)))
  fine_end h = rw (operations_end xs ys i h) (first_done i _)

going_step : {w : ℕ} {e : Arena} {t xs ys : List ℕ} {i : ℕ} {s : Work} {a : Arena} → Going w e t xs ys i s a → 2 ≤ w → w ≤ record_groups → i < length xs → i < length ys → (x : Op) → x ≡ op (get_or xs i 0) (get_or ys i 0) → op_fault t x ≡ 0
    → Going w e t xs ys (i + 1) (stepped_work w x.code (has_immediate t x) s) (stepped_runs w x (has_immediate t x) s a)
unfolding stepped_work
going_step {w} {e} {t} {xs} {ys} {i} {s} {a} g two wide hx hy x q f =
    let r = roomy w (has_immediate t x) s two wide (going_good g) in
    record {
      work = step w t x g.work;
      held = held_step w e t g.work s a g.held two wide x (admitted t x f).code;
      fine = fine_turn w t xs ys i hx hy (ap (op_fault t) (sym q) ∙ f) ∙ g.fine;
      rest = ap (λ (y : Op). steps w t (operations (drop (i + 1) xs) (drop (i + 1) ys)) (step w t y g.work)) q ∙ steps_turn w t xs ys i g.work hx hy ∙ g.rest;
      base = omega (arith, r.base, g.base);
      batches = omega (arith, r.batches, g.batches);
    }

-- the code's test of the kind
kind_here : (t : List ℕ) (x : Op) → x.code < length t → eqb (get_or t x.code 0) 1 ≡ has_immediate t x
unfolding has_immediate
kind_here t x h = ap (λ (k : ℕ). eqb k 1) (sym (kind_at t x.code h))

pub going_turn : {w : ℕ} {e : Arena} {t xs ys : List ℕ} {i : ℕ} {s s' : Work} {a a' : Arena} → Going w e t xs ys i s a → 2 ≤ w → w ≤ record_groups → i < length xs → i < length ys → length t ≡ 128 → op_fault t (op (get_or xs i 0) (get_or ys i 0)) ≡ 0
    → s' ≡ stepped_work w (get_or xs i 0) (eqb (get_or t (get_or xs i 0) 0) 1) s → a' ≡ stepped_runs w (op (get_or xs i 0) (get_or ys i 0)) (eqb (get_or t (get_or xs i 0) 0) 1) s a → Going w e t xs ys (i + 1) s' a'
going_turn {w} {e} {t} {xs} {ys} {i} {s} {s'} {a} {a'} g two wide hx hy ht f e1 e2 =
    let x = op (get_or xs i 0) (get_or ys i 0) in
    let k = kind_here t x (omega (arith, (admitted t x f).code)) in
    subst (λ (p : Work × Arena). Going w e t xs ys (i + 1) p.0 p.1)
    (λ j. (sym (e1 ∙ ap (λ (b : Bool). stepped_work w x.code b s) k) j, sym (e2 ∙ ap (λ (b : Bool). stepped_runs w x b s a) k) j))
    (going_step g two wide hx hy x refl f)

-- ---- the end: what is held is what the driver promises

so_far_none : (q : List Op) → q ++ ops_so_far empty ≡ q
unfolding ops_so_far empty in_row
so_far_none q = append-nil q

done : (w : ℕ) (e : Arena) (t : List ℕ) (d : rule.Work) (s : Work) (a : Arena) → d.current ≡ empty → InHand w e t d s a
    → (s.batches ≡ length (block_of d.batches).records) × (s.base ≡ length (block_of d.batches).ops) × (a ≡ filled e (block_of d.batches))
unfolding block_of filled
done w e t d s a c h =
    let q = ap (λ (b : Batch). padded_of d.batches ++ ops_so_far b) c ∙ so_far_none (padded_of d.batches) in
    let cs : a.codes ≡ fitted (length e.codes) (codes (padded_of d.batches)) = h.codes ∙ ap (λ (l : List Op). fitted (length e.codes) (codes l)) q in
    let vs : a.values ≡ fitted (length e.values) (values (padded_of d.batches)) = h.values ∙ ap (λ (l : List Op). fitted (length e.values) (values l)) q in
    let rs : a.records ≡ fitted (length e.records) (records_of d.batches) =
    h.records ∙ ap (λ (b : Batch). fitted (length e.records) (records_of d.batches ++ record_bytes (record_with 0 (drafted b)))) c ∙ draft_empty (length e.records) (records_of d.batches) in
    (h.batches ∙ sym (length-map d.batches record_of), h.base, λ j. arena (cs j) (vs j) (rs j))

end_empty : (t : List ℕ) (d : rule.Work) → (end_batch t d).current ≡ empty
unfolding end_batch
end_empty t d = refl

pub going_end : {w : ℕ} {e : Arena} {t xs ys : List ℕ} {i : ℕ} {s s' : Work} {a a' : Arena} → Going w e t xs ys i s a → 2 ≤ w → w ≤ record_groups → length xs ≤ i → s' ≡ ended_work s → a' ≡ arena a.codes a.values (ended_work_run s a.records)
    → Batched (listed w t xs ys) (Ok (record { batches = s'.batches; operations = s'.base })) e a'
unfolding batches_of
going_end {w} {e} {t} {xs} {ys} {i} {s} {s'} {a} {a'} g two wide h e1 e2 =
    let b = block_of (batches_of w t (operations xs ys)) in
    let q : g.work ≡ steps w t (operations xs ys) start = sym (steps_end w t xs ys i g.work h) ∙ g.rest in
    let r : listed w t xs ys ≡ good b = sym g.fine ∙ fine_end w t xs ys i h in
    let m = subst (λ (p : rule.Work × Work × Arena). (p.1.batches ≡ length (block_of (end_batch t p.0).batches).records) × (p.1.base ≡ length (block_of (end_batch t p.0).batches).ops) × (p.2 ≡ filled e (block_of (end_batch t p.0).batches)))
    (λ j. (q j, sym e1 j, sym e2 j))
    (done w e t (end_batch t g.work) (ended_work s) (arena a.codes a.values (ended_work_run s a.records)) (end_empty t g.work) (held_end w e t g.work s a g.held wide two)) in
    record { reply = (λ j. good (record { batches = m.0 j; operations = m.1 j })) ∙ ap built_of (sym r); runs = λ x k. m.2 ∙ ap (filled e) (value b x (sym r ∙ k)) }

-- ---- or an operation at fault

pub going_fault : {w : ℕ} {e : Arena} {t xs ys : List ℕ} {i : ℕ} {s : Work} {a : Arena} → Going w e t xs ys i s a → i < length xs → i < length ys → (n p : ℕ) → refused n p ≡ one_fault (op_fault t (op (get_or xs i 0) (get_or ys i 0))) i
    → (r : Result Totals Refusal) → told r ≡ refused n p → Batched (listed w t xs ys) r e a
going_fault {w} {e} {t} {xs} {ys} {i} {s} {a} g hx hy n p f r k =
    let d = faulted (op_fault t (op (get_or xs i 0) (get_or ys i 0))) i n p f in
    let l : listed w t xs ys ≡ refused n p = sym g.fine ∙ fine_stop w t xs ys i hx hy _ refl d.some ∙ (λ j. refused (d.number j) (d.place j)) in
    record { reply = k ∙ ap built_of (sym l); runs = λ x z. absurd (clash n p x (sym l ∙ z)) }
