-- The lookups in one batch, group by group. Assumes nothing.
use Rattle.std.proofs.Common.{◌≡◌, ℕ, zero, suc, ◌+◌, ◌-◌, ◌<◌, ◌≤◌, List, [], ◌∷◌, length, get_or, take, drop, sym, refl, ap, ◌∙◌, add-one, arith, drop_of_length-le, length-take, drop-cons, get_or-take, le-ltb, lt-ltb}
use mathlib.Core.Option.{none, some}
use Rattle.std.specs.Prelude.{MatchOption, Option, None, Some}
use Rattle.rules.proofs.Digits.{split}
use Rattle.rules.specs.Record.{differences}
use Rattle.rules.specs.Lookups.{group_from, next_from}
use Rattle.op_batch.specs.OpBatch.{first_full, next_in}

drop_next : (s : List ℕ) (g : ℕ) → g < length s → drop g s ≡ get_or s g 0 ∷ drop (g + 1) s
drop_next s g h = rw (add-one g) (drop-cons s g 0 h)

-- ---- the group of an operation, from the g-th group on

module _ (s : List ℕ) (g i : ℕ) (h : g + 1 < length s) where
  pub group_turn : get_or s (g + 1) 0 ≤ i → group_from (g + 1) (drop (g + 1) s) i ≡ group_from g (drop g s) i
  unfolding group_from
  group_turn k = rw (drop_next s g (omega arith), drop_next s (g + 1) h, le-ltb i (get_or s (g + 1) 0) k)

  pub group_stop : i < get_or s (g + 1) 0 → group_from g (drop g s) i ≡ some (record { group = g; place = i - get_or s g 0 })
  unfolding group_from
  group_stop k = rw (drop_next s g (omega arith), drop_next s (g + 1) h, lt-ltb i (get_or s (g + 1) 0) k)

pub group_end : (s : List ℕ) (g i : ℕ) → g + 1 ≡ length s → group_from g (drop g s) i ≡ none
unfolding group_from
group_end s g i h = rw (drop_next s g (omega arith), drop_of_length-le s {i = g + 1} (omega arith))

module _ (s : List ℕ) (i : ℕ) (h : length s ≡ 9) where
  -- groups that end at the operation or before it are passed
  passed : (g : ℕ) → g < 9 → ((j : ℕ) → 0 ≤ j → j < g → get_or s (j + 1) 0 ≤ i) → group_from g (drop g s) i ≡ group_from 0 s i
  passed zero l q = refl
  passed (suc g) l q = rw (sym (add-one g)) (group_turn s g i (omega arith) (q g (omega arith) (omega arith)) ∙ passed g (omega arith) (λ j a b. q j a (omega arith)))

  pub none_holds : ((g : ℕ) → 0 ≤ g → g < 8 → get_or s (g + 1) 0 ≤ i) → group_from 0 s i ≡ none
  none_holds q = sym (passed 8 (omega arith) q) ∙ group_end s 8 i (omega arith)

  -- what a search of the groups finds
  module _ (g : ℕ) (first : get_or s 0 0 ≡ 0) (x : (0 ≤ g) × (g < 8) × (i < get_or s (g + 1) 0) × ((j : ℕ) → 0 ≤ j → j < g → get_or s (j + 1) 0 ≤ i)) where
    pub starts_before : get_or s g 0 ≤ i
    starts_before = split 0 g (λ l. let e : g - 1 + 1 ≡ g = omega arith in rw e at (x.3 (g - 1) (omega arith) (omega arith))) (λ l. let e : g ≡ 0 = omega arith in rw e (omega (arith, first)))

    pub group_holds : group_from 0 s i ≡ some (record { group = g; place = i - get_or s g 0 })
    group_holds = sym (passed g (omega arith) x.3) ∙ group_stop s g i (omega arith) x.2

-- ---- the sizes of groups, and the first that is not 0

pub differences_length : (s : List ℕ) → length (differences s) ≡ length s - 1
unfolding differences
differences_length [] = refl
differences_length (a ∷ []) = refl
differences_length (a ∷ b ∷ s) = omega (arith, differences_length (b ∷ s))

pub differences_at : (s : List ℕ) (g : ℕ) → suc g < length s → get_or (differences s) g 0 ≡ get_or s (suc g) 0 - get_or s g 0
unfolding differences
differences_at [] g h = absurd (omega arith)
differences_at (a ∷ []) g h = absurd (omega arith)
differences_at (a ∷ b ∷ s) zero h = refl
differences_at (a ∷ b ∷ s) (suc g) h = differences_at (b ∷ s) g (omega arith)

abbrev sizes : ℕ → List ℕ → List ℕ
sizes count s = take count (differences s)

module _ (count : ℕ) (s : List ℕ) (h : count + 1 ≤ length s) where
  sizes_length : length (sizes count s) ≡ count
  sizes_length = rw length-take (omega (arith, differences_length s))

  module _ (g : ℕ) (k : g < count) where
    size : drop g (sizes count s) ≡ (get_or s (g + 1) 0 - get_or s g 0) ∷ drop (g + 1) (sizes count s)
    size =
        drop_next (sizes count s) g (omega (arith, sizes_length))
        ∙ ap (λ (n : ℕ). n ∷ drop (g + 1) (sizes count s)) (get_or-take count (differences s) g 0 k ∙ rw (add-one g) (differences_at s g (omega arith)))

    pub full_stop : get_or s g 0 < get_or s (g + 1) 0 → first_full g (drop g (sizes count s)) ≡ some g
    unfolding first_full
    full_stop l = rw (size, lt-ltb 0 (get_or s (g + 1) 0 - get_or s g 0) (omega arith))

    pub full_turn : get_or s (g + 1) 0 ≤ get_or s g 0 → first_full (g + 1) (drop (g + 1) (sizes count s)) ≡ first_full g (drop g (sizes count s))
    unfolding first_full
    full_turn l = rw (size, le-ltb 0 (get_or s (g + 1) 0 - get_or s g 0) (omega arith))

  pub full_end : (g : ℕ) → count ≤ g → first_full g (drop g (sizes count s)) ≡ none
  unfolding first_full
  full_end g k = rw (drop_of_length-le (sizes count s) {i = g} (omega (arith, sizes_length)))

  -- groups that are not full are passed
  walked : (k d : ℕ) → k + d ≤ count → ((j : ℕ) → k ≤ j → j < k + d → get_or s (j + 1) 0 ≤ get_or s j 0) → first_full (k + d) (drop (k + d) (sizes count s)) ≡ first_full k (drop k (sizes count s))
  walked k zero l q = let e : k + 0 ≡ k = omega arith in rw e
  walked k (suc d) l q =
      let e : k + suc d ≡ k + d + 1 = omega arith in
      rw e (full_turn (k + d) (omega arith) (q (k + d) (omega arith) (omega arith)) ∙ walked k d (omega arith) (λ j a b. q j a (omega arith)))

  reached : (k g : ℕ) → k ≤ g → g ≤ count → ((j : ℕ) → k ≤ j → j < g → get_or s (j + 1) 0 ≤ get_or s j 0) → first_full g (drop g (sizes count s)) ≡ first_full k (drop k (sizes count s))
  reached k g l m q = let e : k + (g - k) ≡ g = omega arith in rw e at (walked k (g - k) (omega arith) (λ j a b. q j a (omega arith)))

  -- what a search of the groups from k on finds
  pub next_found : (k : ℕ) (r : Option ℕ)
      → MatchOption r ((g : ℕ) → k ≤ g → g < count → get_or s (g + 1) 0 ≤ get_or s g 0) (λ g. (k ≤ g) × (g < count) × (get_or s g 0 < get_or s (g + 1) 0) × ((j : ℕ) → k ≤ j → j < g → get_or s (j + 1) 0 ≤ get_or s j 0))
      → r ≡ next_in (first_full k (drop k (sizes count s)))
  next_found k None m = ap next_in (split count k (λ l. sym (full_end k (omega arith))) (λ l. sym (full_end count (omega arith)) ∙ reached k count l (omega arith) m))
  next_found k (Some g) m = ap next_in (sym (full_stop g m.1 m.2) ∙ reached k g m.0 (omega arith) m.3)

-- ---- the next group after g is the first full one from g + 1 on

past : (k : ℕ) (ns : List ℕ) (g : ℕ) → g < k → next_from k ns g ≡ first_full k ns
unfolding next_from first_full
past k [] g h = refl
past k (n ∷ ns) g h = rw (lt-ltb g k h, past (k + 1) ns g (omega arith))

after : (j k : ℕ) (ns : List ℕ) (g : ℕ) → k + j ≡ g + 1 → next_from k ns g ≡ first_full (g + 1) (drop j ns)
unfolding next_from first_full
after zero k ns g h = let e : k ≡ g + 1 = omega arith in rw (sym e) (past k ns g (omega arith))
after (suc j) k [] g h = refl
after (suc j) k (n ∷ ns) g h = rw (le-ltb g k (omega arith)) (after j (k + 1) ns g (omega arith))

pub next_after : (ns : List ℕ) (g : ℕ) → next_from 0 ns g ≡ first_full (g + 1) (drop (g + 1) ns)
next_after ns g = after (g + 1) 0 ns g (omega arith)
