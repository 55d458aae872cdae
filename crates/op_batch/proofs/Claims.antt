-- The group lookup of a right record is the only answer that fits its starts. Assumes nothing.
use Rattle.std.proofs.Common.{◌≡◌, ℕ, zero, suc, ◌+◌, ◌-◌, ◌<◌, ◌≤◌, length, get_or, drop, sym, ap, ◌∙◌, arith}
use mathlib.Core.Option.{Option, none, some}
use Rattle.rules.specs.Record.{Record}
use Rattle.rules.specs.Checks.{ninth}
use Rattle.rules.specs.Lookups.{Place, group_from, group_of}
use Rattle.rules.proofs.Digits.{split}
use Rattle.op_batch.specs.Claims.{Fits, GroupLookups}
use Rattle.op_batch.proofs.Right.{Sound, sound, rise}
use Rattle.op_batch.proofs.Places.{group_turn, group_stop, group_end}

module _ (w : ℕ) (r : Record) (i : ℕ) (l : length r.starts ≡ 9) (x : Sound w r) where
  abbrev from : ℕ → Option Place
  from g = group_from g (drop g r.starts) i

  abbrev st : ℕ → ℕ
  st g = get_or r.starts g 0

  up : (k g : ℕ) → g + k ≤ 8 → st g ≤ st (g + k)
  up zero g h = let e : g + 0 ≡ g = omega arith in rw e (omega arith)
  up (suc k) g h =
      let e : g + suc k ≡ g + k + 1 = omega arith in
      rw e (omega (arith, up k g (omega arith), rise w r x l (g + k) (omega arith)))

  -- what fits is met on the way, and nothing before it
  met : (p : Place) → Fits r i p → (k g : ℕ) → g + k ≡ p.group → from g ≡ some p
  met p f zero g h =
      let e : g ≡ p.group = omega arith in
      rw e (group_stop r.starts p.group i (omega (arith, f.group)) f.inside ∙ ap (λ (n : ℕ). some (record { group = p.group; place = n })) (omega (arith, f.place)))
  met p f (suc k) g h =
      let e : p.group ≡ g + 1 + k = omega arith in
      let b : st (g + 1) ≤ st p.group = rw e (up k (g + 1) (omega (arith, f.group))) in
      sym (group_turn r.starts g i (omega (arith, f.group)) (omega (arith, f.place))) ∙ met p f k (g + 1) (omega arith)

  -- past the end there is none
  none_from : (k g : ℕ) → g + k ≡ 8 → ninth r ≤ i → from g ≡ none
  none_from zero g h n = group_end r.starts g i (omega arith)
  none_from (suc k) g h n =
      let e : g + 1 + k ≡ 8 = omega arith in
      let b : st (g + 1) ≤ ninth r = rw e at (up k (g + 1) (omega arith)) in
      sym (group_turn r.starts g i (omega arith) (omega arith)) ∙ none_from k (g + 1) e n

  -- under the end there is one, and it fits
  one_from : (k g : ℕ) → g + k ≡ 8 → st g ≤ i → i < ninth r → (p : Place) × ((from g ≡ some p) × Fits r i p)
  one_from zero g h a n = let e : g ≡ 8 = omega arith in absurd (omega (arith, ap st e))
  one_from (suc k) g h a n =
      split i (st (g + 1))
      (λ b. (record { group = g; place = i - st g }, (group_stop r.starts g i (omega arith) b, record { group = omega arith; place = omega arith; inside = b })))
      (λ b. let q = one_from k (g + 1) (omega arith) b n in (q.0, (sym (group_turn r.starts g i (omega arith) b) ∙ q.1.0, q.1.1)))

pub group_lookups : GroupLookups
unfolding group_of
group_lookups w r i l e =
    let x = sound w r e in
    let one : i < ninth r → (p : Place) × ((group_from 0 r.starts i ≡ some p) × Fits r i p) = λ n. one_from w r i l x 8 0 (omega arith) (omega (arith, x.first)) n in
    record {
      fits = λ p h. split i (ninth r) (λ n. let q = one n in rw (same q.0 p (sym q.1.0 ∙ h)) at q.1.1) (λ n. absurd (differ p (sym (none_from w r i l x 8 0 (omega arith) n) ∙ h)));
      only = λ p f. met w r i l x p f p.group 0 (omega arith);
      past = none_from w r i l x 8 0 (omega arith);
      found = λ n. let q = one n in (q.0, q.1.0);
    }
  where
    same : (p q : Place) → ◌≡◌ {A = Option Place} (some p) (some q) → p ≡ q
    same p q h = cc

    differ : (p : Place) → ◌≡◌ {A = Option Place} none (some p) → ⊥
    differ p h = let z : ◌≡◌ {A = ℕ} 0 1 = cc in omega arith
