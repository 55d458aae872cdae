-- What strict reading makes of a block that decode takes: it passes, or 18 has the first batch that differs, which is one of the block's. Assumes nothing.
use mathlib.Core.Path.{◌≡◌, refl, sym, ap, ap₂, ◌∙◌}
use mathlib.Core.List.{List, [], ◌∷◌, ◌++◌, map}
use mathlib.Core.Logic.{◌⊎◌, inl, inr}
use mathlib.Core.Bool.{Bool, true, false, cond}
use Prim.Native.Nat.{ℕ, zero, suc, ◌+◌, ◌≤◌, ◌<◌}
use native.Mathlib.Omega.{arith}
use lib.ListN.{length, take, drop, length-append, length-map}
use lib.Seq.{take_all}
use Rattle.rules.specs.Lists.{All}
use Rattle.rules.specs.Answer.{Answer, refused, found, refuse_first}
use Rattle.rules.specs.Operations.{Op, has_immediate, noop}
use Rattle.rules.specs.Batching.{Group, ended, added, joined, Work, start, end_batch, step, steps, batches_of}
use Rattle.rules.specs.Record.{Record, Block, record_of, ops_of, block_of}
use Rattle.rules.specs.Block.{Room}
use Rattle.rules.specs.Lookups.{marks_of, marks}
use Rattle.rules.specs.Functions.{decoded, strictly_decoded}
use Rattle.rules.specs.Strict.{own_list, listable, same_batch, differing, refuse_unfinished}
use Rattle.rules.proofs.Operations.{noop_plain}
use Rattle.claims.specs.Demand3.{Premises}
use Rattle.claims.specs.Strict.{batched, Differs}
use Rattle.claims.proofs.Shape.{raw}
use Rattle.claims.proofs.Lists.{all_append, all_map, split, true_false}
use Rattle.claims.proofs.Batching.{given, raw_ended}
use Rattle.claims.proofs.Right.{Width, right_batches, whole_batches}
use Rattle.claims.proofs.WrittenThenRead.{sizes_of}
use Rattle.claims.proofs.Left.{Short, marked_record, shorts}
use Rattle.claims.proofs.Demand3.{demand3}
use Rattle.claims.proofs.OwnList.{fit_length, decoded_fit}
use Rattle.claims.proofs.Shapes.{same_batch_is, same_batch_self, free, free_is, own_premises, held_alike}

-- ---- comparing batch by batch from the i-th on: all are the same, or the p-th of them is the first that differs

record Stops {A : Type 0} (d : Answer A) (i : ℕ) (rs qs : List Record) : Type 0 where
  p : ℕ
  is : d ≡ refused 18 (i + p)
  alike : take p rs ≡ take p qs
  apart : take (p + 1) rs ≡ take (p + 1) qs → ⊥

module _ {A : Type 0} where
  stops_here : (i : ℕ) (rs qs : List Record) → (take 1 rs ≡ take 1 qs → ⊥) → Stops {A = A} (refused 18 i) i rs qs
  stops_here i rs qs h = record { p = 0; is = ap (refused 18) (omega arith); alike = refl; apart = h }

  stops_later : (d : Answer A) (i : ℕ) (x q : Record) (rs qs : List Record) → x ≡ q → Stops d (i + 1) rs qs → Stops d i (x ∷ rs) (q ∷ qs)
  stops_later d i x q rs qs e h =
      let n = h.p in
      let s : suc n + 1 ≡ suc (n + 1) = omega arith in
      record {
        p = suc n;
        is = h.is ∙ ap (refused 18) (omega arith);
        alike = ap₂ (λ (y : Record) (l : List Record). y ∷ l) e h.alike;
        apart = rw s (λ g. h.apart (tail (take (n + 1) rs) (take (n + 1) qs) g));
      }
    where
      tail : (a b : List Record) → x ∷ a ≡ q ∷ b → a ≡ b
      tail a b g = cc

  compare : (i : ℕ) (rs qs : List Record) (r : Answer A) → ((rs ≡ qs) × (refuse_first i (differing rs qs) r ≡ r)) ⊎ Stops (refuse_first i (differing rs qs) r) i rs qs
  unfolding refuse_first differing
  compare i [] [] r = inl (refl, refl)
  compare i [] (q ∷ qs) r = inr (stops_here i [] (q ∷ qs) (λ g. let z : ◌≡◌ {A = ℕ} 0 1 = cc in omega arith))
  compare i (x ∷ rs) [] r = inr (stops_here i (x ∷ rs) [] (λ g. let z : ◌≡◌ {A = ℕ} 0 1 = cc in omega arith))
  compare i (x ∷ rs) (q ∷ qs) r = go (same_batch x q) refl (compare (i + 1) rs qs r)
    where
      go : (b : Bool) → same_batch x q ≡ b → ((rs ≡ qs) × (refuse_first (i + 1) (differing rs qs) r ≡ r)) ⊎ Stops (refuse_first (i + 1) (differing rs qs) r) (i + 1) rs qs
          → ((x ∷ rs ≡ q ∷ qs) × (refuse_first i (cond b 0 18 ∷ differing rs qs) r ≡ r)) ⊎ Stops (refuse_first i (cond b 0 18 ∷ differing rs qs) r) i (x ∷ rs) (q ∷ qs)
      go true e (inl h) = inl (ap₂ (λ (y : Record) (l : List Record). y ∷ l) (same_batch_is x q e) h.0, h.1)
      go true e (inr h) = inr (stops_later (refuse_first (i + 1) (differing rs qs) r) i x q rs qs (same_batch_is x q e) h)
      go false e h = inr (stops_here i (x ∷ rs) (q ∷ qs) (λ g. let z : x ≡ q = cc in true_false (sym (same_batch_self q) ∙ (rw z at e))))

-- ---- each batch of a list has an operation of it

module _ (w : ℕ) (width : Width w) (t : List ℕ) where
  step_some : (x : Op) (d : Work) → 1 ≤ length (given t (step w t x d).current)
  unfolding step added joined
  step_some x d = simp length-append (omega arith)

  steps_some : (xs : List Op) (d : Work) → 1 ≤ length (given t d.current) → 1 ≤ length (given t (steps w t xs d).current)
  unfolding steps
  steps_some [] d h = h
  steps_some (x ∷ xs) d h = steps_some xs (step w t x d) (step_some x d)

  last_some : (xs : List Op) → 1 ≤ length xs → 1 ≤ length (given t (steps w t xs start).current)
  unfolding steps
  last_some [] h = absurd (omega arith)
  last_some (x ∷ xs) h = steps_some xs (step w t x start) (step_some x start)

  each_some : (plain : has_immediate t noop ≡ false) (xs : List Op) → 1 ≤ length xs → All (λ gs. 1 ≤ length (raw gs)) (batches_of w t xs)
  unfolding batches_of end_batch
  each_some plain xs h =
      let d = steps w t xs start in
      let f = width.four in
      all_append (λ gs. 1 ≤ length (raw gs)) d.batches (ended t d.current ∷ []) (all_map (λ gs k. let m = k.many in omega arith) d.batches (whole_batches w width t plain xs))
      (rw (raw_ended t d.current) (last_some xs h), tt)

-- so its records from any place on leave something unmarked
pub free_append : (ms ns : List Bool) → free (ms ++ ns) ≡ free ms + free ns
free_append [] ns = omega arith
free_append (true ∷ ms) ns = free_append ms ns
free_append (false ∷ ms) ns = omega (arith, free_append ms ns)

rest_free : (bs : List (List Group)) (p : ℕ) → All Short bs → All (λ gs. 1 ≤ length (raw gs)) bs → p < length bs → 1 ≤ free (marks (drop p (map record_of bs)))
unfolding marks
rest_free [] p h k l = absurd (omega arith)
rest_free (gs ∷ bs) zero h k l =
    let m = marks_of (sizes_of (record_of gs)) (record_of gs).flags in
    let a = marked_record gs h.0 in
    omega (arith, free_append m (marks (map record_of bs)), free_is m (ops_of gs) a.as_many, ap length a.stay, k.0)
rest_free (gs ∷ bs) (suc p) h k l = rest_free bs p h.1 k.1 (omega arith)

free_split : (p : ℕ) (qs : List Record) → free (marks qs) ≡ free (marks (take p qs)) + free (marks (drop p qs))
unfolding marks
free_split zero qs = omega arith
free_split (suc p) [] = refl
free_split (suc p) (q ∷ qs) =
    let m = marks_of (sizes_of q) q.flags in
    omega (arith, free_append m (marks qs), free_append m (marks (take p qs)), free_split p qs)

-- where as much is unmarked, the first difference is at one of the first list's batches
not_extra : (rs qs : List Record) (p : ℕ) → take p rs ≡ take p qs → (take (p + 1) rs ≡ take (p + 1) qs → ⊥) → free (marks rs) ≡ free (marks qs)
    → (p < length qs → 1 ≤ free (marks (drop p qs))) → p < length rs
not_extra rs qs p a z e f =
    split p (length rs) (λ l. l)
    (λ l. let all : rs ≡ take p qs = sym (take_all p rs l) ∙ a in
    split p (length qs)
    (λ k. let g = f k in let y : free (marks rs) ≡ free (marks (take p qs)) = ap (λ (x : List Record). free (marks x)) all in absurd (omega (arith, free_split p qs)))
    (λ k. absurd (z (ap (take (p + 1)) (all ∙ take_all p qs k)))))

-- ---- the verdict

pub data Verdict (w : ℕ) (t s : List ℕ) (at : ℕ) (room : Room) (b : Block) (next : ℕ) : Type 0 where
  passes : listable (own_list b) ≡ true → b.records ≡ (batched w t (own_list b)).records → strictly_decoded w t s at room ≡ found b next → Verdict w t s at room b next
  unlisted : listable (own_list b) ≡ false → strictly_decoded w t s at room ≡ refused 18 0 → Verdict w t s at room b next
  differs : (p : ℕ) → Differs w t b p → strictly_decoded w t s at room ≡ refused 18 p → Verdict w t s at room b next

module _ (w : ℕ) (width : Width w) (t s : List ℕ) (at : ℕ) (room : Room) (b : Block) (next : ℕ) (d : decoded w t s at room ≡ found b next) where
  first_differs : Premises t (own_list b) → (p : ℕ) → take p b.records ≡ take p (batched w t (own_list b)).records → (take (p + 1) b.records ≡ take (p + 1) (batched w t (own_list b)).records → ⊥) → Differs w t b p
  unfolding block_of
  first_differs h p a z =
      let xs = own_list b in
      let bs = batches_of w t xs in
      let plain = noop_plain t h.table in
      let one = free_is (marks b.records) b.ops (fit_length (marks b.records) b.ops (decoded_fit w t s at room b next d)) in
      let l = (demand3 w width t xs h).left in
      let two = free_is (marks (batched w t (own_list b)).records) (batched w t (own_list b)).ops l.marked in
      record {
        premises = h;
        before = held_alike w width t s at room b next d h p a;
        here = z;
        own = not_extra b.records (batched w t (own_list b)).records p a z (sym one ∙ (ap length (sym l.back) ∙ two))
            (λ m. rest_free bs p (shorts t w width.eight bs (right_batches w width t plain xs)) (each_some w width t plain xs h.some) (rw (length-map bs record_of) at m));
      }

  pub verdict : Verdict w t s at room b next
  unfolding strictly_decoded refuse_unfinished block_of
  verdict = go (listable (own_list b)) refl
    where
      judged : strictly_decoded w t s at room ≡ refuse_unfinished w t b (found b next)
      judged = rw d

      go : (c : Bool) → listable (own_list b) ≡ c → Verdict w t s at room b next
      go false e = unlisted e (judged ∙ rw e)
      go true e = cases (compare 0 b.records (batched w t (own_list b)).records (found b next))
        where
          cases : ((b.records ≡ (batched w t (own_list b)).records) × (refuse_first 0 (differing b.records (batched w t (own_list b)).records) (found b next) ≡ found b next))
              ⊎ Stops (refuse_first 0 (differing b.records (batched w t (own_list b)).records) (found b next)) 0 b.records (batched w t (own_list b)).records → Verdict w t s at room b next
          cases (inl h) = passes e h.0 (judged ∙ rw e h.1)
          cases (inr h) = differs h.p (first_differs (own_premises w t s at room b next d e) h.p h.alike h.apart) (judged ∙ rw e (h.is ∙ ap (refused 18) (omega arith)))
