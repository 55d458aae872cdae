-- The groups of one batch, one after the other. Assumes nothing.
use mathlib.Core.Path.{◌≡◌, refl, sym, ap}
use mathlib.Core.Bool.{Bool, true, ◌&&◌}
use mathlib.Core.List.{List, [], ◌∷◌}
use Prim.Native.Nat.{ℕ, suc, ◌+◌, ◌-◌, ◌≤◌, ◌<◌}
use native.Mathlib.Nat.{add-zero, sub-zero}
use native.Mathlib.Numerals.{add-one}
use native.Mathlib.Omega.{arith}
use borrow.Author.Tests.{leb-true}
use lib.ListN.{length, get_or, take}
use lib.Seq.{drop-cons}
use lib.Dec.{leb, eqb}
use Rattle.rules.specs.Lists.{every, All}
use Rattle.rules.specs.Operations.{Op, operations}
use Rattle.rules.specs.Record.{Record, differences, record_at, cut, part}
use Rattle.rules.specs.Checks.{ninth, starts_right, record_right}
use Rattle.rules.specs.Functions.{Arena}
use Rattle.rules.proofs.Operations.{op, operations_turn, drop_operations, true_left, true_right}
use Rattle.op_batch.proofs.Right.{Sound, sound, starts_length, flags_length, numbers_length, rise, below_ninth}
use Rattle.checks.specs.Batch.{Fits, Lies, groups_from, under, span}

-- what the structure test says of a record
module _ (r : Record) (x : Fits r) where
  abbrev flags : Bool
  flags = every (λ (f : ℕ). leb f 1) r.flags

  abbrev first : Bool
  first = eqb (get_or r.starts 0 0) 0

  abbrev last : Bool
  last = eqb (get_or r.starts r.count 0) (ninth r)

  rest : (flags && (first && (starts_right r.starts && last))) ≡ true
  unfolding record_right
  rest = true_right (leb r.count x.width) (flags && (first && (starts_right r.starts && last))) x.right

  pub right_flags : flags ≡ true
  right_flags = true_left flags (first && (starts_right r.starts && last)) rest

  pub right_starts : starts_right r.starts ≡ true
  right_starts = true_left (starts_right r.starts) last (true_right first (starts_right r.starts && last) (true_right flags (first && (starts_right r.starts && last)) rest))

-- ---- the sizes and flags of a record are bytes

abbrev pub Bytes : List ℕ → Type 0
Bytes ns = All (λ n. n < 256) ns

pub differences_bytes : (a : ℕ) (s : List ℕ) → starts_right (a ∷ s) ≡ true → Bytes (differences (a ∷ s))
unfolding starts_right differences
differences_bytes a [] h = tt
differences_bytes a (b ∷ s) h =
    let q = true_right (leb a b) (leb b (a + 9) && starts_right (b ∷ s)) h in
    let l = leb-true b (a + 9) (true_left (leb b (a + 9)) (starts_right (b ∷ s)) q) in
    (omega arith, differences_bytes b s (true_right (leb b (a + 9)) (starts_right (b ∷ s)) q))

pub differences_length : (a : ℕ) (s : List ℕ) → length (differences (a ∷ s)) ≡ length s
unfolding differences
differences_length a [] = refl
differences_length a (b ∷ s) = ap suc (differences_length b s)

-- flags that are 0 or 1
pub flags_small : (fs : List ℕ) → ((i : ℕ) → i < length fs → get_or fs i 0 ≤ 1) → Bytes fs
flags_small [] h = tt
flags_small (f ∷ fs) h = (omega (arith, h 0 (omega arith)), flags_small fs (λ i l. h (suc i) (omega arith)))

-- what the walks know of a batch's record
pub record Laid (r : Record) : Type 0 where
  pub starts : length r.starts ≡ 9
  pub flags : length r.flags ≡ 8
  pub numbers : length r.numbers ≡ 8
  pub width : ℕ
  pub sound : Sound width r
  pub count : r.count ≤ 8

pub laid : (s : List ℕ) (b : ℕ) → Fits (record_at s b) → Laid (record_at s b)
laid s b f =
    let x = sound f.width (record_at s b) f.right in
    record {
      starts = starts_length s b;
      flags = flags_length s b;
      numbers = numbers_length s b;
      width = f.width;
      sound = x;
      count = omega (arith, x.count, f.room);
    }

-- and of its operations, which begin at a place
pub record Lying (r : Record) (cs vs : List ℕ) (from : ℕ) : Type 0 where
  pub laid : Laid r
  pub equal : length cs ≡ length vs
  pub inside : from + ninth r ≤ length cs

pub lying : (a : Arena) (b from : ℕ) → Lies a b from → Lying (record_at a.records b) a.codes a.values from
lying a b from x = record { laid = laid a.records b x.fits; equal = x.equal; inside = x.inside }

-- ---- parts of the operations

pub part_turn : (n i : ℕ) (cs vs : List ℕ) → i < length cs → length cs ≡ length vs
    → part (suc n) (operations cs vs) i ≡ op (get_or cs i 0) (get_or vs i 0) ∷ part n (operations cs vs) (i + 1)
part_turn n i cs vs h e = rw (drop_operations i cs vs, drop_operations (i + 1) cs vs, operations_turn cs vs i h (omega arith))

pub span_turn : (i to : ℕ) (cs vs : List ℕ) → i < to → to ≤ length cs → length cs ≡ length vs
    → span (operations cs vs) i to ≡ op (get_or cs i 0) (get_or vs i 0) ∷ span (operations cs vs) (i + 1) to
span_turn i to cs vs h k e = let n : to - i ≡ suc (to - (i + 1)) = omega arith in rw n (part_turn (to - (i + 1)) i cs vs (omega arith) e)

pub span_none : (i to : ℕ) (xs : List Op) → to ≤ i → span xs i to ≡ []
span_none i to xs h = let n : to - i ≡ 0 = omega arith in rw n

-- ---- the groups from the g-th on

abbrev pub group : Record → List Op → ℕ → ℕ → List Op
group r xs from g = span xs (from + get_or r.starts g 0) (from + get_or r.starts (g + 1) 0)

module _ (r : Record) (cs vs : List ℕ) (from : ℕ) (x : Lying r cs vs from) where
  groups_turn : (g : ℕ) → g < 8 → groups_from r (operations cs vs) from g ≡ group r (operations cs vs) from g ∷ groups_from r (operations cs vs) from (g + 1)
  unfolding groups_from differences cut
  groups_turn g h =
      let s = r.starts in
      let up = x.laid.sound.rises g (omega (arith, x.laid.starts)) in
      let e : from + get_or s g 0 + (get_or s (g + 1) 0 - get_or s g 0) ≡ from + get_or s (g + 1) 0 = rw (add-one g) (omega (arith, up)) in
      let f : get_or s (g + 1) 0 - get_or s g 0 ≡ from + get_or s (g + 1) 0 - (from + get_or s g 0) = omega arith in
      rw (drop-cons s g 0 (omega (arith, x.laid.starts)), sym (add-one g), drop-cons s (g + 1) 0 (omega (arith, x.laid.starts)), e, f)

  pub under_start : under r (operations cs vs) from 0 ≡ take r.count (cut (differences r.starts) (operations cs vs) from)
  unfolding groups_from
  under_start = rw (sub-zero, x.laid.sound.first, add-zero from)

  pub under_turn : (g : ℕ) → g < r.count → under r (operations cs vs) from g ≡ group r (operations cs vs) from g ∷ under r (operations cs vs) from (g + 1)
  under_turn g h =
      let e : r.count - g ≡ suc (r.count - (g + 1)) = omega arith in
      rw (e, groups_turn g (omega (arith, x.laid.count)))

  -- where the g-th group lies
  pub in_order : (g : ℕ) → g < 8 → get_or r.starts g 0 ≤ get_or r.starts (g + 1) 0
  in_order g h = (rise x.laid.width r x.laid.sound x.laid.starts g h).0

  pub within_codes : (g : ℕ) → g < 9 → from + get_or r.starts g 0 ≤ length cs
  within_codes g h = omega (arith, below_ninth x.laid.width r x.laid.sound x.laid.starts g h, x.inside)

  pub bounds : (g : ℕ) → g < r.count → (start end : ℕ) → start ≡ get_or r.starts g 0 → end ≡ get_or r.starts (g + 1) 0
      → (start ≤ end) × (end ≤ start + 9) × (from + end ≤ length cs)
  bounds g h start end a z = omega (arith, rise x.laid.width r x.laid.sound x.laid.starts g (omega (arith, x.laid.count)), within_codes (g + 1) (omega (arith, x.laid.count)))

pub under_none : (r : Record) (xs : List Op) (from g : ℕ) → r.count ≤ g → under r xs from g ≡ []
under_none r xs from g h = let e : r.count - g ≡ 0 = omega arith in rw e
