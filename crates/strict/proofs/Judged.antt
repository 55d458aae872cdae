-- The walk's answer is the definition's: what was added is the rules' work, and what was held against the records is what differs. `w` is the width; s is a
-- run of k records. Assumes nothing.
use mathlib.Core.Path.{◌≡◌, refl, sym, ap, ◌∙◌}
use mathlib.Core.Bool.{Bool, true, false, cond}
use mathlib.Core.List.{List, [], ◌∷◌, ◌++◌}
use Prim.Native.Nat.{ℕ, suc, ◌+◌, ◌<◌}
use native.Mathlib.Nat.{add-zero}
use native.Mathlib.Omega.{arith}
use Rattle.std.specs.Prelude.{Result, Ok}
use lib.ListN.{length, get_or}
use lib.Dec.{eqb}
use Rattle.rules.specs.Lists.{All}
use Rattle.rules.specs.Operations.{Op, codes, has_immediate}
use Rattle.rules.specs.Batching as rule
use Rattle.rules.specs.Batching.{Group, empty, start, end_batch, ended, fits, room, step, steps}
use Rattle.rules.proofs.Operations.{kind_at}
use Rattle.accumulator.specs.Model.{fits_in}
use Rattle.accumulator.proofs.View.{acc_fits}
use Rattle.refusal.specs.declared.Refusal.{Refusal}
use Rattle.strict.specs.declared.Shape.{Shape}
use Rattle.strict.specs.declared.Work.{Work}
use Rattle.strict.specs.Draft.{added_draft}
use Rattle.strict.specs.Model.{new_work, held, ended_work, room_work, stepped_work, fed}
use Rattle.strict.proofs.Drafted.{draft_of, draft_acc, draft_empty, draft_added, shape_by, draft_ended}

imm_is : (t : List ℕ) (x : Op) → x.code < length t → eqb (get_or t x.code 0) 1 ≡ has_immediate t x
unfolding has_immediate
imm_is t x h = ap (λ (j : ℕ). eqb j 1) (sym (kind_at t x.code h))

module _ (s : List ℕ) (k : ℕ) where
  -- batches held against the records, one after the other: how many are the same, or the first that is not
  unfoldable pub seen : Result ℕ Refusal → List (List Group) → Result ℕ Refusal
  seen r [] = r
  seen r (gs ∷ bs) = seen (held s k (shape_by gs) r) bs

  seen_snoc : (r : Result ℕ Refusal) (bs : List (List Group)) (gs : List Group) → seen r (bs ++ (gs ∷ [])) ≡ held s k (shape_by gs) (seen r bs)
  unfolding seen
  seen_snoc r [] gs = refl
  seen_snoc r (hs ∷ bs) gs = seen_snoc (held s k (shape_by hs) r) bs gs

  -- ---- the walk is a view of the rules' work

  unfoldable pub work_of : List ℕ → ℕ → rule.Work → Work
  work_of t n d = record { draft = draft_of t d.current; same = seen (Ok 0) d.batches; raw = n }

  pub work_start : (t : List ℕ) → new_work ≡ work_of t 0 start
  unfolding work_of start seen
  work_start t = let e = draft_empty t in λ j. record { draft = e j; same = Ok 0; raw = 0 }

  pub work_ended : (t : List ℕ) (n : ℕ) (d : rule.Work) → ended_work s k (work_of t n d) ≡ work_of t n (end_batch t d)
  unfolding ended_work work_of end_batch
  work_ended t n d =
      let e = draft_empty t in
      let h = ap (λ (x : Shape). held s k x (seen (Ok 0) d.batches)) (draft_ended t d.current) ∙ sym (seen_snoc (Ok 0) d.batches (ended t d.current)) in
      λ j. record { draft = e j; same = h j; raw = n }

  work_room : (w : ℕ) (t : List ℕ) (n : ℕ) (x : Op) (d : rule.Work) → room_work w (has_immediate t x) s k (work_of t n d) ≡ work_of t n (room w t x d)
  unfolding room_work room work_of
  work_room w t n x d = ap (λ (b : Bool). cond b (work_of t n d) (ended_work s k (work_of t n d))) fit ∙ go (fits w t x d.current)
    where
      fit : fits_in w (has_immediate t x) (work_of t n d).draft.acc ≡ fits w t x d.current
      fit = ap (fits_in w (has_immediate t x)) (draft_acc t d.current) ∙ acc_fits w t x d.current

      go : (b : Bool) → cond b (work_of t n d) (ended_work s k (work_of t n d)) ≡ work_of t n (cond b d (end_batch t d))
      go true = refl
      go false = work_ended t n d

  work_stepped : (w : ℕ) (t : List ℕ) (n : ℕ) (x : Op) (d : rule.Work) → stepped_work w x.code (has_immediate t x) s k (work_of t n d) ≡ work_of t (n + 1) (step w t x d)
  unfolding stepped_work step work_of
  work_stepped w t n x d =
      let r = room w t x d in
      let a = draft_added t x r.current in
      ap (λ (e : Work). record { draft = added_draft x.code (has_immediate t x) e.draft; same = e.same; raw = e.raw + 1 }) (work_room w t n x d)
      ∙ (λ j. record { draft = a j; same = seen (Ok 0) r.batches; raw = n + 1 })

  pub work_fed : (w : ℕ) (t : List ℕ) (n : ℕ) (xs : List Op) (d : rule.Work) → All (λ x. x.code < length t) xs → fed w t s k (codes xs) (work_of t n d) ≡ work_of t (n + length xs) (steps w t xs d)
  unfolding fed codes steps
  work_fed w t n [] d h = rw add-zero
  work_fed w t n (x ∷ xs) d h =
      let e = imm_is t x h.0 in
      let m : n + 1 + length xs ≡ n + suc (length xs) = omega arith in
      ap (λ (i : Bool). fed w t s k (codes xs) (stepped_work w x.code i s k (work_of t n d))) e
      ∙ ap (fed w t s k (codes xs)) (work_stepped w t n x d)
      ∙ work_fed w t (n + 1) xs (step w t x d) h.1
      ∙ ap (λ (j : ℕ). work_of t j (steps w t xs (step w t x d))) m
