-- The sizes and the flags of all batches. Assumes nothing.
use mathlib.Core.Path.{◌≡◌, refl, sym}
use mathlib.Core.Bool.{true, false, not}
use mathlib.Core.List.{List, ◌∷◌}
use Prim.Native.Nat.{ℕ, zero, suc, ◌+◌, ◌-◌, ◌*◌, ◌<◌}
use native.Mathlib.Nat.{add-zero}
use native.Mathlib.Omega.{arith}
use borrow.Author.Tests.{not-false}
use lib.ListN.{get_or, drop}
use Rattle.rules.specs.Lists.{every}
use Rattle.rules.specs.Digits.{digits, le_at}
use Rattle.rules.specs.Answer.{Answer, good, refused, Read, found, row, ◌then◌}
use Rattle.rules.specs.Refusals.{bad_nibble₆}
use Rattle.rules.specs.Bytes.{up_to, sizes_at, nibbles_at, bits_at, flags_at}
use Rattle.std.specs.Prelude.{Result}
use Rattle.refusal.specs.declared.Refusal.{Refusal}
use Rattle.refusal.specs.Told.{told}
use Rattle.wire.specs.Stages.{after, IfFound, Passed}
use Rattle.unpacker.specs.Groups.{RightSizes}
use Rattle.decoder.specs.Stages.{sizes_from, flags_from}
use Rattle.wire.proofs.Stages.{if_then, if_refuse, held}

-- ---- at width 8 the sizes are right where none is over 9, and no flag byte is refused

module _ (s : List ℕ) (at b : ℕ) where
  pub sizes_right : up_to 9 (digits 16 8 (le_at 4 s at)) ≡ true → sizes_at 8 s at b ≡ found (digits 16 8 (le_at 4 s at)) (at + 4)
  unfolding sizes_at digits every
  sizes_right h = rw h

  pub sizes_wrong : up_to 9 (digits 16 8 (le_at 4 s at)) ≡ false → sizes_at 8 s at b ≡ refused bad_nibble₆ b
  unfolding sizes_at
  sizes_wrong h = rw h

  bits_found : bits_at 8 s at b ≡ found (digits 2 8 (get_or s at 0)) (at + 1)
  unfolding bits_at digits every
  bits_found = refl

all_flags : (s : List ℕ) (k at b : ℕ) → flags_at 8 s k at b ≡ found (flags_from k s at) (at + k)
unfolding row flags_from
all_flags s zero at b = rw add-zero
all_flags s (suc k) at b = let e : at + 1 + k ≡ at + suc k = omega arith in rw (bits_found s at b, all_flags s k (at + 1) (b + 1), e)

pub flags_found : {w : ℕ} → w ≡ 8 → (s : List ℕ) (k at : ℕ) → flags_at w s k at 0 ≡ found (flags_from k s at) (at + k)
flags_found e s k at = rw e (all_flags s k at 0)

-- ---- the walk over the sizes

after_then : {A : Type 0} (x : A) (r : Read (List A)) → after (r then λ l end. found (x ∷ l) end) ≡ after r
after_then x (good i) = refl
after_then x (refused n p) = refl

module _ (s : List ℕ) (at k : ℕ) where
  -- the place after the sizes from the b-th batch's on
  abbrev pub end_from : ℕ → Answer ℕ
  end_from b = after (nibbles_at 8 s (k - b) (at + 4 * b) b)

  module _ (b : ℕ) where
    pub turn : b < k → up_to 9 (digits 16 8 (le_at 4 s (at + 4 * b))) ≡ true → end_from (b + 1) ≡ end_from b
    unfolding row
    turn h r =
        let e : k - b ≡ suc (k - (b + 1)) = omega arith in
        let f : at + 4 * (b + 1) ≡ at + 4 * b + 4 = omega arith in
        rw (e, sizes_right s (at + 4 * b) b r, f) (sym (after_then (digits 16 8 (le_at 4 s (at + 4 * b))) (nibbles_at 8 s (k - (b + 1)) (at + 4 * b + 4) (b + 1))))

    pub stop : b < k → up_to 9 (digits 16 8 (le_at 4 s (at + 4 * b))) ≡ false → end_from b ≡ refused bad_nibble₆ b
    unfolding row
    stop h r = let e : k - b ≡ suc (k - (b + 1)) = omega arith in rw (e, sizes_wrong s (at + 4 * b) b r)

    pub done : k ≡ b → end_from b ≡ good (at + 4 * k)
    unfolding row
    done h = let e : k - b ≡ 0 = omega arith in rw (e, h)

-- ---- what is found, of any width

pub record Sized (w : ℕ) (s : List ℕ) (k at : ℕ) (nss : List (List ℕ)) (next : ℕ) : Type 0 where
  pub sizes : nss ≡ sizes_from k s at
  pub to : next ≡ at + 4 * k
  pub right : (j : ℕ) → j < k → RightSizes w (le_at 4 s (at + 4 * j))

module _ (w : ℕ) (s : List ℕ) where
  sizes_found : (at b : ℕ) → IfFound (λ (ns : List ℕ) (next : ℕ). (ns ≡ digits 16 8 (le_at 4 s at)) × (next ≡ at + 4) × RightSizes w (le_at 4 s at)) (sizes_at w s at b)
  unfolding sizes_at
  sizes_found at b =
      let ns = digits 16 8 (le_at 4 s at) in
      if_refuse _ (not (up_to 9 ns)) 6 b _ (λ h. if_refuse _ (not (up_to 0 (drop w ns))) 6 b _ (λ z. (refl, refl, (not-false (up_to 9 ns) h, not-false (up_to 0 (drop w ns)) z))))

  nibbles_found : (k at b : ℕ) → IfFound (Sized w s k at) (nibbles_at w s k at b)
  unfolding row sizes_from
  nibbles_found zero at b = record { sizes = refl; to = omega arith; right = λ j l. absurd (omega arith) }
  nibbles_found (suc k) at b =
      if_then _ (sizes_at w s at b) _ (λ ns next e. if_then _ (nibbles_at w s k next (b + 1)) _ (λ nss end f.
      let p = held _ (sizes_at w s at b) ns next e (sizes_found at b) in
      let q : Sized w s k (at + 4) nss end = rw p.1 at (held _ (nibbles_at w s k next (b + 1)) nss end f (nibbles_found k next (b + 1))) in
      record { sizes = rw (p.0, q.sizes); to = omega (arith, q.to); right = λ j l. at_j j l p.2 q.right }))
    where
      at_j : (j : ℕ) → j < suc k → RightSizes w (le_at 4 s at) → ((j : ℕ) → j < k → RightSizes w (le_at 4 s (at + 4 + 4 * j))) → RightSizes w (le_at 4 s (at + 4 * j))
      at_j zero l h f = rw add-zero h
      at_j (suc j) l h f = let e : at + 4 * suc j ≡ at + 4 + 4 * j = omega arith in rw e (f j (omega arith))

pub sized_by : {w : ℕ} → w ≡ 8 → {s : List ℕ} {k at : ℕ} {r : Result ℕ Refusal} → told r ≡ after (nibbles_at 8 s k at 0) → Passed (Sized w s k at) (nibbles_at w s k at 0) r
sized_by {w} d {s} {k} {at} e = record { reply = rw d e; left = nibbles_found w s k at 0 }
