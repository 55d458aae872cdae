-- A walk over the groups of a batch: their numbers, and their immediates in the slots right after them. Assumes nothing.
use mathlib.Core.Path.{◌≡◌, refl, sym, ap, ◌∙◌}
use mathlib.Core.Bool.{true, false}
use mathlib.Core.List.{List, [], ◌∷◌, ◌++◌}
use Prim.Native.Nat.{ℕ, zero, suc, ◌+◌, ◌-◌, ◌/◌, ◌%◌, ◌≤◌, ◌<◌}
use native.Mathlib.Numerals.{add-one}
use native.Mathlib.Omega.{arith}
use borrow.Author.Tests.{leb-true}
use lib.ListN.{length, get_or, take, drop, set, length-take, length-drop}
use lib.Seq.{append_snoc, take-suc-set, length-take-le, get_or-take, get_or-drop}
use lib.Dec.{leb, eqb}
use Rattle.rules.specs.Lists.{fitted, total, every}
use Rattle.rules.specs.Digits.{digits, number}
use Rattle.rules.specs.Answer.{good, refused, Read, found, ◌then◌}
use Rattle.rules.specs.Refusals.{no_slot₈, slot_taken₉}
use Rattle.rules.specs.Operations.{Op, operations, kind_of, has_immediate}
use Rattle.rules.specs.Record.{codes_number, part, immediates}
use Rattle.rules.specs.Bytes.{up_to}
use Rattle.rules.proofs.Slots.{empty_before, slots}
use Rattle.rules.proofs.Operations.{operations_turn, operations_end, true_left, true_right, codes_operations, part_operations}
use Rattle.rules.proofs.Runs.{fitted_set, fitted_length}
use Rattle.rules.proofs.Digits.{digits_turn, digits_end}
use Rattle.unpacker.specs.Coded.{Coded}
use Rattle.unpacker.specs.Groups.{glue, behind, onward, Placed}

-- ---- immediates of the operations of two runs, from the i-th on

module _ (t cs vs : List ℕ) (i : ℕ) where
  abbrev pub due : List ℕ
  due = immediates t (operations (drop i cs) (drop i vs))

  pub due_plain : i < length cs → i < length vs → eqb (kind_of t (get_or cs i 0)) 1 ≡ false → due ≡ immediates t (operations (drop (i + 1) cs) (drop (i + 1) vs))
  unfolding immediates has_immediate
  due_plain h k e = rw (operations_turn cs vs i h k, e)

  pub due_placed : i < length cs → i < length vs → eqb (kind_of t (get_or cs i 0)) 1 ≡ true → due ≡ get_or vs i 0 ∷ immediates t (operations (drop (i + 1) cs) (drop (i + 1) vs))
  unfolding immediates has_immediate
  due_placed h k e = rw (operations_turn cs vs i h k, e)

  pub due_none : length cs ≤ i → due ≡ []
  unfolding immediates
  due_none h = rw (operations_end cs vs i h)

-- ---- numbers in a run of eight, zeros after the first g

take_fitted : (g n : ℕ) (us : List ℕ) → g ≤ n → take g (fitted n us) ≡ fitted g us
unfolding fitted
take_fitted zero n us h = refl
take_fitted (suc g) zero us h = absurd (omega arith)
take_fitted (suc g) (suc n) [] h = ap (λ (l : List ℕ). 0 ∷ l) (take_fitted g n [] (omega arith))
take_fitted (suc g) (suc n) (u ∷ us) h = ap (λ (l : List ℕ). u ∷ l) (take_fitted g n us (omega arith))

fitted_fitted : (n g : ℕ) (us : List ℕ) → length us ≤ g → fitted n (fitted g us) ≡ fitted n us
unfolding fitted
fitted_fitted zero g us h = refl
fitted_fitted (suc n) zero [] h = refl
fitted_fitted (suc n) zero (u ∷ us) h = absurd (omega arith)
fitted_fitted (suc n) (suc g) [] h = ap (λ (l : List ℕ). 0 ∷ l) (fitted_fitted n g [] (omega arith))
fitted_fitted (suc n) (suc g) (u ∷ us) h = ap (λ (l : List ℕ). u ∷ l) (fitted_fitted n g us (omega arith))

fitted_snoc : (g : ℕ) (us : List ℕ) → length us ≤ g → fitted (suc g) us ≡ fitted g us ++ (0 ∷ [])
unfolding fitted
fitted_snoc zero [] h = refl
fitted_snoc zero (u ∷ us) h = absurd (omega arith)
fitted_snoc (suc g) [] h = ap (λ (l : List ℕ). 0 ∷ l) (fitted_snoc g [] (omega arith))
fitted_snoc (suc g) (u ∷ us) h = ap (λ (l : List ℕ). u ∷ l) (fitted_snoc g us (omega arith))

-- the first c groups have numbers, and zeros stand after them
module _ (gs : List ℕ) (c g : ℕ) (n : length gs ≡ 8) (h : c ≤ g) (f : gs ≡ fitted 8 (take c gs)) where
  few : length (take c gs) ≤ g
  few = omega (arith, length-take c gs)

  front : g ≤ 8 → take g gs ≡ fitted g (take c gs)
  front l = ap (take g) f ∙ take_fitted g 8 (take c gs) l

  pub zeros_more : g ≤ 8 → gs ≡ fitted 8 (take g gs)
  zeros_more l = f ∙ sym (fitted_fitted 8 g (take c gs) few) ∙ ap (fitted 8) (sym (front l))

  pub zeros_next : g < 8 → take (g + 1) gs ≡ take g gs ++ (0 ∷ [])
  zeros_next l =
      rw (add-one g)
      (ap (take (suc g)) f ∙ take_fitted (suc g) 8 (take c gs) l ∙ fitted_snoc g (take c gs) few ∙ ap (λ (r : List ℕ). r ++ (0 ∷ [])) (sym (front (omega arith))))

-- a number more
module _ (gs : List ℕ) (g v : ℕ) (n : length gs ≡ 8) (h : g < 8) where
  pub take_next : take (g + 1) (set gs g v) ≡ take g gs ++ (v ∷ [])
  take_next = rw (add-one g) (take-suc-set gs g v (omega arith))

  pub store : gs ≡ fitted 8 (take g gs) → set gs g v ≡ fitted 8 (take (g + 1) (set gs g v))
  store f =
      ap (λ (l : List ℕ). set l g v) f
      ∙ ap (λ (k : ℕ). set (fitted 8 (take g gs)) k v) (sym (length-take-le g gs (omega arith)))
      ∙ fitted_set 8 (take g gs) v
      ∙ ap (fitted 8) (sym take_next)

-- ---- the walk

module _ (us ws : List ℕ) where
  behind_empty : (r : Read (List ℕ)) → behind us ws (r then λ vs end. found (empty_before vs) end) ≡ behind us (ws ++ (0 ∷ [])) r
  unfolding empty_before
  behind_empty (good i) = rw (go i.item)
    where
      go : (vs : List ℕ) → glue us ws (empty_before vs) ≡ glue us (ws ++ (0 ∷ [])) vs
      go [] = refl
      go (v ∷ vs) = sym (append_snoc ws 0 (v ∷ vs))
  behind_empty (refused n p) = refl

  behind_number : (v : ℕ) (r : Read (List ℕ)) → behind us ws (r then λ vs end. found (v ∷ vs) end) ≡ behind (ws ++ (v ∷ [])) (ws ++ (v ∷ [])) r
  behind_number v (good i) = rw (go i.item)
    where
      go : (vs : List ℕ) → ws ++ (v ∷ vs) ≡ glue (ws ++ (v ∷ [])) (ws ++ (v ∷ [])) vs
      go [] = refl
      go (w ∷ vs) = sym (append_snoc ws v (w ∷ vs))
  behind_number v (refused n p) = refl

module _ (w : ℕ) (t : List ℕ) (b : ℕ) (xs : List Op) where
  -- an empty group, nothing due
  pub turn_empty : (us ws : List ℕ) (g left at : ℕ) → g < w → left % 16 ≡ 0
      → behind us ws (slots t b (digits 16 (w - g) left) [] xs at) ≡ behind us (ws ++ (0 ∷ [])) (slots t b (digits 16 (w - (g + 1)) (left / 16)) [] xs at)
  unfolding slots
  turn_empty us ws g left at h e = rw (digits_turn 16 w g left h, e) (behind_empty us ws (slots t b (digits 16 (w - (g + 1)) (left / 16)) [] xs at))

  group : (us ws : List ℕ) (n : ℕ) (ns : List ℕ) (at : ℕ) → (n ≡ 0 → ⊥)
      → behind us ws (slots t b (n ∷ ns) [] xs at) ≡ behind (ws ++ (codes_number (part n xs at) ∷ [])) (ws ++ (codes_number (part n xs at) ∷ [])) (slots t b ns (immediates t (part n xs at)) xs (at + n))
  unfolding slots
  group us ws zero ns at h = absurd (h refl)
  group us ws (suc n) ns at h = behind_number us ws (codes_number (part (suc n) xs at)) (slots t b ns (immediates t (part (suc n) xs at)) xs (at + suc n))

  -- a group: its number, and its immediates are due
  pub turn_group : (us gs : List ℕ) (g left at : ℕ) → length gs ≡ 8 → w ≤ 8 → g < w → (left % 16 ≡ 0 → ⊥)
      → behind us (take g gs) (slots t b (digits 16 (w - g) left) [] xs at)
      ≡ onward w t b xs (at + left % 16) (set gs g (codes_number (part (left % 16) xs at))) (g + 1) (left / 16) (immediates t (part (left % 16) xs at))
  turn_group us gs g left at n m h e =
      rw (digits_turn 16 w g left h, take_next gs g (codes_number (part (left % 16) xs at)) n (omega arith)) (group us (take g gs) (left % 16) (digits 16 (w - (g + 1)) (left / 16)) at e)

  -- an immediate: it takes the next slot, which is an empty group under the width
  pub turn_placed : (gs : List ℕ) (g left v : ℕ) (due : List ℕ) (end : ℕ) → length gs ≡ 8 → w ≤ 8 → g < w → left % 16 ≡ 0
      → onward w t b xs end gs g left (v ∷ due) ≡ onward w t b xs end (set gs g v) (g + 1) (left / 16) due
  unfolding slots
  turn_placed gs g left v due end n m h e =
      rw (digits_turn 16 w g left h, e, take_next gs g v n (omega arith)) (behind_number (take g gs) (take g gs) v (slots t b (digits 16 (w - (g + 1)) (left / 16)) due xs end))

  pub stop_8 : (gs : List ℕ) (g left v : ℕ) (due : List ℕ) (end : ℕ) → w ≤ g → onward w t b xs end gs g left (v ∷ due) ≡ refused no_slot₈ b
  unfolding slots
  stop_8 gs g left v due end h = rw (digits_end 16 w g left h)

  taken : (n : ℕ) (ns : List ℕ) (v : ℕ) (due : List ℕ) (at : ℕ) → (n ≡ 0 → ⊥) → slots t b (n ∷ ns) (v ∷ due) xs at ≡ refused slot_taken₉ b
  unfolding slots
  taken zero ns v _ at h = absurd (h refl)
  taken (suc n) ns v _ at h = refl

  pub stop_9 : (gs : List ℕ) (g left v : ℕ) (due : List ℕ) (end : ℕ) → g < w → (left % 16 ≡ 0 → ⊥) → onward w t b xs end gs g left (v ∷ due) ≡ refused slot_taken₉ b
  stop_9 gs g left v due end h e = rw (digits_turn 16 w g left h, taken (left % 16) (digits 16 (w - (g + 1)) (left / 16)) v due end e)

  pub done : (us ws : List ℕ) (g left at : ℕ) → w ≤ g → behind us ws (slots t b (digits 16 (w - g) left) [] xs at) ≡ found us at
  unfolding slots
  done us ws g left at h = rw (digits_end 16 w g left h)

-- ---- the sizes left

pub total_end : (w g left : ℕ) → w ≤ g → total (digits 16 (w - g) left) ≡ 0
unfolding total
total_end w g left h = rw (digits_end 16 w g left h)

module _ (w g left : ℕ) (h : g < w) where
  pub total_turn : total (digits 16 (w - g) left) ≡ left % 16 + total (digits 16 (w - (g + 1)) (left / 16))
  unfolding total
  total_turn = rw (digits_turn 16 w g left h)

  pub small_first : up_to 9 (digits 16 (w - g) left) ≡ true → left % 16 ≤ 9
  unfolding every
  small_first e = leb-true (left % 16) 9 (true_left (leb (left % 16) 9) (up_to 9 (digits 16 (w - (g + 1)) (left / 16))) (rw (digits_turn 16 w g left h) at e))

  pub small_rest : up_to 9 (digits 16 (w - g) left) ≡ true → up_to 9 (digits 16 (w - (g + 1)) (left / 16)) ≡ true
  unfolding every
  small_rest e = true_right (leb (left % 16) 9) (up_to 9 (digits 16 (w - (g + 1)) (left / 16))) (rw (digits_turn 16 w g left h) at e)

  pub small_empty : left % 16 ≡ 0 → up_to 9 (digits 16 (w - g) left) ≡ up_to 9 (digits 16 (w - (g + 1)) (left / 16))
  unfolding every
  small_empty e = rw (digits_turn 16 w g left h, e)

-- ---- the immediates of a group, placed one after the other

-- a run of eight numbers
pub eight : (gs us : List ℕ) → gs ≡ fitted 8 us → length gs ≡ 8
eight gs us f = ap length f ∙ fitted_length 8 us

module _ {w : ℕ} {t : List ℕ} {b : ℕ} {due gs : List ℕ} {g deltas : ℕ} where
  module _ {rest hs : List ℕ} {h left : ℕ} (p : Placed w t b due gs g deltas rest hs h left) where
    pub place_plain : {more : List ℕ} → rest ≡ more → Placed w t b due gs g deltas more hs h left
    place_plain e = rw e at p

    module _ {v : ℕ} {more : List ℕ} (e : rest ≡ v ∷ more) where
      pub place_turn : w ≤ 8 → h < w → left % 16 ≡ 0 → Placed w t b due gs g deltas more (set hs h v) (h + 1) (left / 16)
      place_turn m l z =
          let n = eight hs (take h hs) p.numbers in
          let s = total_turn w h left l in
          record {
            walk = λ xs end. p.walk xs end ∙ rw e (turn_placed w t b xs hs h left v more end n m l z);
            up = omega (arith, p.up);
            under = omega arith;
            numbers = store hs h v n (omega arith) p.numbers;
            sizes = omega (arith, p.sizes);
            small = p.small ∙ small_empty w h left l z;
          }

      pub place_8 : w ≤ h → (xs : List Op) (end : ℕ) → onward w t b xs end gs g deltas due ≡ refused no_slot₈ b
      place_8 l xs end = p.walk xs end ∙ rw e (stop_8 w t b xs hs h left v more end l)

      pub place_9 : h < w → (left % 16 ≡ 0 → ⊥) → (xs : List Op) (end : ℕ) → onward w t b xs end gs g deltas due ≡ refused slot_taken₉ b
      place_9 l z xs end = p.walk xs end ∙ rw e (stop_9 w t b xs hs h left v more end l z)

-- ---- a part of a run, as it is lent

abbrev pub lent : List ℕ → ℕ → ℕ → List ℕ
lent cs at n = take (at + n - at) (drop at cs)

module _ (cs : List ℕ) (at n : ℕ) (h : at + n ≤ length cs) where
  pub lent_length : length (lent cs at n) ≡ n
  lent_length = simp (length-take, length-drop) (omega arith)

  pub lent_coded : Coded cs → Coded (lent cs at n)
  lent_coded f i l =
      let k : i < n = omega (arith, lent_length) in
      let m : i < at + n - at = omega arith in
      rw (get_or-take (at + n - at) (drop at cs) i 0 m, get_or-drop at cs i 0) (f (at + i) (omega arith))

lent_part : (n at : ℕ) (cs vs : List ℕ) → operations (lent cs at n) (lent vs at n) ≡ part n (operations cs vs) at
lent_part n at cs vs = let e : at + n - at ≡ n = omega arith in rw e (sym (part_operations n at cs vs))

lent_number : (n at : ℕ) (cs vs : List ℕ) → at + n ≤ length cs → length cs ≡ length vs → number 128 (lent cs at n) ≡ codes_number (part n (operations cs vs) at)
unfolding codes_number
lent_number n at cs vs h l =
    let k : at + n ≤ length vs = omega arith in
    ap (number 128) (sym (codes_operations (lent cs at n) (lent vs at n) (lent_length cs at n h ∙ sym (lent_length vs at n k))))
    ∙ ap (λ (xs : List Op). codes_number xs) (lent_part n at cs vs)

-- ---- the walk over the groups: those before g are done, and count numbers are found

pub record Walking (w : ℕ) (t : List ℕ) (b : ℕ) (cs vs : List ℕ) (at deltas : ℕ) (gs : List ℕ) (count g left from : ℕ) : Type 0 where
  pub up : count ≤ g
  pub under : g ≤ w
  pub numbers : gs ≡ fitted 8 (take count gs)
  pub room : from + total (digits 16 (w - g) left) ≤ length cs
  pub small : up_to 9 (digits 16 (w - g) left) ≡ true
  pub walk : slots t b (digits 16 w deltas) [] (operations cs vs) at ≡ behind (take count gs) (take g gs) (slots t b (digits 16 (w - g) left) [] (operations cs vs) from)

module _ {w : ℕ} {t : List ℕ} {b : ℕ} {cs vs : List ℕ} {at deltas : ℕ} where
  module _ {gs : List ℕ} {count g left from : ℕ} (a : Walking w t b cs vs at deltas gs count g left from) (m : w ≤ 8) (h : g < w) where
    n : length gs ≡ 8
    n = eight gs (take count gs) a.numbers

    pub walk_empty : left % 16 ≡ 0 → Walking w t b cs vs at deltas gs count (g + 1) (left / 16) from
    walk_empty z =
        record {
          up = omega (arith, a.up);
          under = omega arith;
          numbers = a.numbers;
          room = omega (arith, a.room, total_turn w g left h);
          small = small_rest w g left h a.small;
          walk = a.walk ∙ rw (zeros_next gs count g n a.up a.numbers (omega arith)) (turn_empty w t b (operations cs vs) (take count gs) (take g gs) g left from h z);
        }

    pub group_fits : from + left % 16 ≤ length cs
    group_fits = omega (arith, a.room, total_turn w g left h)

    pub group_small : left % 16 ≤ 9
    group_small = small_first w g left h a.small

    pub group_stored : (v : ℕ) → set gs g v ≡ fitted 8 (take (g + 1) (set gs g v))
    group_stored v = store gs g v n (omega arith) (zeros_more gs count g n a.up a.numbers (omega (arith, a.under)))

    module _ {v : ℕ} (e : v ≡ number 128 (lent cs from (left % 16))) (z : left % 16 ≡ 0 → ⊥) (l : length cs ≡ length vs) where
      abbrev pub owed : List ℕ
      owed = immediates t (operations (lent cs from (left % 16)) (lent vs from (left % 16)))

      walk_on : slots t b (digits 16 w deltas) [] (operations cs vs) at ≡ onward w t b (operations cs vs) (from + left % 16) (set gs g v) (g + 1) (left / 16) owed
      walk_on =
          a.walk ∙ turn_group w t b (operations cs vs) (take count gs) gs g left from n m h z
          ∙ rw (lent_part (left % 16) from cs vs, e, lent_number (left % 16) from cs vs group_fits l)

      pub walk_refused : {k p : ℕ} → ((xs : List Op) (end : ℕ) → onward w t b xs end (set gs g v) (g + 1) (left / 16) owed ≡ refused k p) → slots t b (digits 16 w deltas) [] (operations cs vs) at ≡ refused k p
      walk_refused r = walk_on ∙ r (operations cs vs) (from + left % 16)

      pub walk_group : {hs : List ℕ} {k rest : ℕ} → Placed w t b owed (set gs g v) (g + 1) (left / 16) [] hs k rest → Walking w t b cs vs at deltas hs k k rest (from + left % 16)
      walk_group {hs} {k} {rest} p =
          record {
            up = omega arith;
            under = p.under;
            numbers = p.numbers;
            room = omega (arith, a.room, total_turn w g left h, p.sizes);
            small = sym p.small ∙ small_rest w g left h a.small;
            walk = walk_on ∙ p.walk (operations cs vs) (from + left % 16);
          }
