-- The walk's numbers, operation by operation. `w` is the width; s is a run of k records. Assumes nothing.
use mathlib.Core.Path.{◌≡◌, refl, sym, ap, ◌∙◌}
use mathlib.Core.Bool.{Bool, true, false, cond, ◌&&◌}
use mathlib.Core.List.{List, [], ◌∷◌, ◌++◌}
use Prim.Native.Nat.{ℕ, ◌+◌, ◌≤◌, ◌<◌}
use native.Mathlib.Omega.{arith}
use lib.ListN.{length, get_or, take}
use Rattle.std.proofs.lemmas.List.{take_more}
use borrow.Author.Tests.{leb-true, ltb-true}
use lib.Dec.{leb, ltb, eqb}
use Rattle.rules.proofs.Operations.{true_left, true_right}
use Rattle.accumulator.specs.Model.{fits_in}
use Rattle.accumulator.proofs.Good.{new_fits}
use Rattle.strict.specs.declared.Work.{Work}
use Rattle.strict.specs.Draft.{added_draft}
use Rattle.strict.specs.Model.{ended_work, room_work, stepped_work, fed}

module _ (w : ℕ) (two : 2 ≤ w) (s : List ℕ) (k : ℕ) (e : Work) where
  -- where room is made, the operation fits
  pub room_fits : (imm : Bool) → fits_in w imm (room_work w imm s k e).draft.acc ≡ true
  unfolding room_work ended_work
  room_fits imm = go (fits_in w imm e.draft.acc) refl
    where
      go : (b : Bool) → fits_in w imm e.draft.acc ≡ b → fits_in w imm (cond b e (ended_work s k e)).draft.acc ≡ true
      go true h = h
      go false h = new_fits w imm two

pub room_raw : (w : ℕ) (imm : Bool) (s : List ℕ) (k : ℕ) (e : Work) → (room_work w imm s k e).raw ≡ e.raw
unfolding room_work ended_work
room_raw w imm s k e = go (fits_in w imm e.draft.acc)
  where
    go : (b : Bool) → (cond b e (ended_work s k e)).raw ≡ e.raw
    go true = refl
    go false = refl

-- ---- one operation after the other

pub fed_append : (w : ℕ) (t s : List ℕ) (k : ℕ) (xs ys : List ℕ) (e : Work) → fed w t s k (xs ++ ys) e ≡ fed w t s k ys (fed w t s k xs e)
unfolding fed
fed_append w t s k [] ys e = refl
fed_append w t s k (x ∷ xs) ys e = fed_append w t s k xs ys (stepped_work w x (eqb (get_or t x 0) 1) s k e)

pub fed_raw : (w : ℕ) (t s : List ℕ) (k : ℕ) (xs : List ℕ) (e : Work) → (fed w t s k xs e).raw ≡ e.raw + length xs
unfolding fed stepped_work
fed_raw w t s k [] e = omega arith
fed_raw w t s k (x ∷ xs) e =
    let imm = eqb (get_or t x 0) 1 in
    omega (arith, fed_raw w t s k xs (stepped_work w x imm s k e), room_raw w imm s k e)

-- a loop that has added the first i of them: one more
pub fed_more : (w : ℕ) (t s : List ℕ) (k : ℕ) (xs : List ℕ) (i : ℕ) (e : Work) → i < length xs → fed w t s k (get_or xs i 0 ∷ []) (fed w t s k (take i xs) e) ≡ fed w t s k (take (i + 1) xs) e
fed_more w t s k xs i e h = sym (fed_append w t s k (take i xs) (get_or xs i 0 ∷ []) e) ∙ ap (λ (l : List ℕ). fed w t s k l e) (sym (take_more xs i 0 h))

-- ---- the fast path

-- what the code's test says
pub joins_says : (n k m : ℕ) → (ltb (n + k) 9 && leb (m + k) 8) ≡ true → (n + k < 9) × (m + k ≤ 8)
joins_says n k m h = (ltb-true (n + k) 9 (true_left (ltb (n + k) 9) (leb (m + k) 8) h), leb-true (m + k) 8 (true_right (ltb (n + k) 9) (leb (m + k) 8) h))

pub joined_step : (s : List ℕ) (n : ℕ) (e : Work) (c : ℕ) (imm : Bool) → fits_in 8 imm e.draft.acc ≡ true
    → record { draft = added_draft c imm e.draft; same = e.same; raw = e.raw + 1 } ≡ stepped_work 8 c imm s n e
unfolding stepped_work room_work
joined_step s n e c imm h = rw h
