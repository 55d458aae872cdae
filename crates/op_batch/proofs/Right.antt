-- What a record that passes the structure test has, and where its parts lie in a run. Assumes nothing.
use Rattle.std.proofs.Common.{◌≡◌, ℕ, zero, suc, ◌+◌, ◌-◌, ◌*◌, ◌/◌, ◌<◌, ◌≤◌, Bool, true, ◌&&◌, eqb, leb, List, [], ◌∷◌, length, get_or, drop, refl, ap, add-one, arith, drop_of_length-le, drop-cons, eqb-true, leb-true}
use Rattle.rules.specs.Lists.{every}
use Rattle.rules.specs.Digits.{number, le_at}
use Rattle.rules.specs.Record.{Record, bytes_at, record_at, record_size, flags_place, numbers_place}
use Rattle.rules.specs.Checks.{ninth, starts_right, record_right}
use Rattle.rules.proofs.Digits.{split}
use Rattle.rules.proofs.Operations.{true_left, true_right}
use Rattle.rules.proofs.Loads.{byte, word}
use Rattle.rules.proofs.Records.{loaded}

pub every_at : (test : ℕ → Bool) (xs : List ℕ) (i : ℕ) → every test xs ≡ true → i < length xs → test (get_or xs i 0) ≡ true
unfolding every
every_at test [] i e h = absurd (omega arith)
every_at test (x ∷ xs) zero e h = true_left (test x) (every test xs) e
every_at test (x ∷ xs) (suc i) e h = every_at test xs i (true_right (test x) (every test xs) e) (omega arith)

pub starts_at : (s : List ℕ) (g : ℕ) → starts_right s ≡ true → suc g < length s → (get_or s g 0 ≤ get_or s (suc g) 0) × (get_or s (suc g) 0 ≤ get_or s g 0 + 9)
unfolding starts_right
starts_at [] g e h = absurd (omega arith)
starts_at (a ∷ []) g e h = absurd (omega arith)
starts_at (a ∷ b ∷ s) zero e h =
    let r = true_right (leb a b) (leb b (a + 9) && starts_right (b ∷ s)) e in
    (leb-true a b (true_left (leb a b) (leb b (a + 9) && starts_right (b ∷ s)) e), leb-true b (a + 9) (true_left (leb b (a + 9)) (starts_right (b ∷ s)) r))
starts_at (a ∷ b ∷ s) (suc g) e h =
    starts_at (b ∷ s) g (true_right (leb b (a + 9)) (starts_right (b ∷ s)) (true_right (leb a b) (leb b (a + 9) && starts_right (b ∷ s)) e)) (omega arith)

-- the parts of the structure test, of any record
pub record Sound (w : ℕ) (r : Record) : Type 0 where
  pub count : r.count ≤ w
  pub flags : (i : ℕ) → i < length r.flags → get_or r.flags i 0 ≤ 1
  pub first : get_or r.starts 0 0 ≡ 0
  pub rises : (g : ℕ) → suc g < length r.starts → (get_or r.starts g 0 ≤ get_or r.starts (suc g) 0) × (get_or r.starts (suc g) 0 ≤ get_or r.starts g 0 + 9)
  pub last : get_or r.starts r.count 0 ≡ ninth r

pub sound : (w : ℕ) (r : Record) → record_right w r ≡ true → Sound w r
unfolding record_right
sound w r e =
    let a = leb r.count w in
    let b = every (λ (f : ℕ). leb f 1) r.flags in
    let c = eqb (get_or r.starts 0 0) 0 in
    let d = starts_right r.starts in
    let z = eqb (get_or r.starts r.count 0) (ninth r) in
    let e₁ = true_right a (b && (c && (d && z))) e in
    let e₂ = true_right b (c && (d && z)) e₁ in
    let e₃ = true_right c (d && z) e₂ in
    record {
      count = leb-true r.count w (true_left a (b && (c && (d && z))) e);
      flags = λ i h. leb-true (get_or r.flags i 0) 1 (every_at (λ (f : ℕ). leb f 1) r.flags i (true_left b (c && (d && z)) e₁) h);
      first = eqb-true (get_or r.starts 0 0) 0 (true_left c (d && z) e₂);
      rises = λ g h. starts_at r.starts g (true_left d z e₃) h;
      last = eqb-true (get_or r.starts r.count 0) (ninth r) (true_right d z e₃);
    }

-- a right record of nine starts: no group is over 9, no batch over 72 operations, and no start over the ninth
module _ (w : ℕ) (r : Record) (x : Sound w r) (l : length r.starts ≡ 9) where
  pub rise : (g : ℕ) → g < 8 → (get_or r.starts g 0 ≤ get_or r.starts (g + 1) 0) × (get_or r.starts (g + 1) 0 ≤ get_or r.starts g 0 + 9)
  rise g h = rw (add-one g) (x.rises g (omega arith))

  up : (g : ℕ) → g < 9 → get_or r.starts g 0 ≤ 9 * g
  up zero h = omega (arith, x.first)
  up (suc g) h = omega (arith, x.rises g (omega arith), up g (omega arith))

  pub ninth_small : ninth r ≤ 72
  ninth_small = up 8 (omega arith)

  down : (k g : ℕ) → g + k ≡ 8 → get_or r.starts g 0 ≤ ninth r
  down zero g h = let e : g ≡ 8 = omega arith in rw e (omega arith)
  down (suc k) g h = omega (arith, x.rises g (omega arith), down k (suc g) (omega arith))

  pub below_ninth : (g : ℕ) → g < 9 → get_or r.starts g 0 ≤ ninth r
  below_ninth g h = down (8 - g) g (omega arith)

-- ---- the eight flags from the g-th on, as one number

module _ (w : ℕ) (r : Record) (x : Sound w r) (l : length r.flags ≡ 8) where
  pub flagged : (g left : ℕ) → left ≡ number 256 (drop g r.flags) → 0 < left → g < 8
  unfolding number
  flagged g left e h =
      split g 8
      (λ k. k)
      (λ k. let z : number 256 (drop g r.flags) ≡ 0 = rw (drop_of_length-le r.flags {i = g} (omega arith)) in absurd (omega arith))

  pub flags_ahead : (g : ℕ) → g < 8 → number 256 (drop g r.flags) ≡ get_or r.flags g 0 + 256 * number 256 (drop (g + 1) r.flags)
  unfolding number
  flags_ahead g h = rw (add-one g, drop-cons r.flags g 0 (omega arith))

  -- a flag is 0 or 1, so that those after it are the rest
  pub flags_turn : (g left : ℕ) → left ≡ number 256 (drop g r.flags) → g < 8 → left / 256 ≡ number 256 (drop (g + 1) r.flags)
  flags_turn g left e h = omega (arith, flags_ahead g h, x.flags g (omega arith))

-- ---- records of a run

as_number : (k : ℕ) (s : List ℕ) (at : ℕ) → number 256 (bytes_at k s at) ≡ le_at k s at
unfolding bytes_at number le_at
as_number zero s at = refl
as_number (suc k) s at = ap (λ (n : ℕ). get_or s at 0 + 256 * n) (as_number k s (at + 1))

module _ (s : List ℕ) (b : ℕ) where
  pub starts_length : length (record_at s b).starts ≡ 9
  starts_length = (loaded s b).starts

  pub flags_length : length (record_at s b).flags ≡ 8
  flags_length = (loaded s b).flags

  pub numbers_length : length (record_at s b).numbers ≡ 8
  numbers_length = (loaded s b).numbers

  pub start_at : (g : ℕ) → g < 9 → get_or (record_at s b).starts g 0 ≡ get_or s (record_size * b + g) 0
  unfolding record_at
  start_at g h = byte 9 s (record_size * b) g h

  pub flag_at : (g : ℕ) → g < 8 → get_or (record_at s b).flags g 0 ≡ get_or s (record_size * b + flags_place + g) 0
  unfolding record_at
  flag_at g h = byte 8 s (record_size * b + flags_place) g h

  pub flags_at_lem : number 256 (record_at s b).flags ≡ le_at 8 s (record_size * b + flags_place)
  unfolding record_at
  flags_at_lem = as_number 8 s (record_size * b + flags_place)

  pub number_at : (g : ℕ) → g < 8 → get_or (record_at s b).numbers g 0 ≡ le_at 8 s (record_size * b + numbers_place + 8 * g)
  unfolding record_at
  number_at g h = word 8 s (record_size * b + numbers_place) g h
