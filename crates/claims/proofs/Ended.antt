-- A batch that is ended: the least power of two that is not below next free is its group count. Assumes nothing.
use mathlib.Core.Path.{◌≡◌, refl, ◌∙◌}
use mathlib.Core.Bool.{Bool, true, false, cond}
use mathlib.Core.List.{List}
use Prim.Native.Nat.{ℕ, zero, suc, ◌+◌, ◌-◌, ◌≤◌}
use native.Mathlib.Omega.{arith}
use borrow.Author.Tests.{leb-true, leb-false}
use lib.ListN.{length, length-append, length-map}
use lib.Dec.{leb}
use Rattle.rules.specs.Batching.{Batch, next_free, groups, turned, target, turned_times, ended}
use Rattle.claims.specs.Shape.{PowerOfTwo, is1, is2, is4, is8}
use Rattle.claims.specs.Sizes.{EndedCount}

-- ---- the target

pub target_power : (n : ℕ) → PowerOfTwo (target n)
unfolding target
target_power n = go (leb n 1) (leb n 2) (leb n 4)
  where
    go : (a b c : Bool) → PowerOfTwo (cond a 1 (cond b 2 (cond c 4 8)))
    go true b c = is1
    go false true c = is2
    go false false true = is4
    go false false false = is8

pub target_up : (n : ℕ) → n ≤ 8 → n ≤ target n
unfolding target
target_up n h = go (leb n 1) refl (leb n 2) refl (leb n 4) refl
  where
    go : (a : Bool) → leb n 1 ≡ a → (b : Bool) → leb n 2 ≡ b → (c : Bool) → leb n 4 ≡ c → n ≤ cond a 1 (cond b 2 (cond c 4 8))
    go true p b q c r = leb-true n 1 p
    go false p true q c r = leb-true n 2 q
    go false p false q true r = leb-true n 4 r
    go false p false q false r = h

target_least : (n : ℕ) (k : ℕ) → PowerOfTwo k → n ≤ k → target n ≤ k
unfolding target
target_least n k p h = go (leb n 1) refl (leb n 2) refl (leb n 4) refl p h
  where
    go : (a : Bool) → leb n 1 ≡ a → (b : Bool) → leb n 2 ≡ b → (c : Bool) → leb n 4 ≡ c → {k : ℕ} → PowerOfTwo k → n ≤ k → cond a 1 (cond b 2 (cond c 4 8)) ≤ k
    go true d b e c f is1 h = omega arith
    go true d b e c f is2 h = omega arith
    go true d b e c f is4 h = omega arith
    go true d b e c f is8 h = omega arith
    go false d b e c f is1 h = absurd (omega (arith, leb-false n 1 d))
    go false d true e c f is2 h = omega arith
    go false d true e c f is4 h = omega arith
    go false d true e c f is8 h = omega arith
    go false d false e c f is2 h = absurd (omega (arith, leb-false n 2 e))
    go false d false e true f is4 h = omega arith
    go false d false e true f is8 h = omega arith
    go false d false e false f is4 h = absurd (omega (arith, leb-false n 4 f))
    go false d false e false f is8 h = omega arith

-- ---- ending a batch

module _ (t : List ℕ) where
  pub length_groups : (b : Batch) → length (groups t b) ≡ next_free b
  unfolding groups next_free
  length_groups b = simp (length-append, length-map) (omega arith)

  pub next_turned : (b : Batch) → next_free (turned t b) ≡ next_free b + 1
  unfolding turned next_free
  next_turned b = simp (length_groups b) (omega arith)

  next_times : (k : ℕ) (b : Batch) → next_free (turned_times k t b) ≡ next_free b + k
  unfolding turned_times
  next_times zero b = omega arith
  next_times (suc k) b = next_times k (turned t b) ∙ omega (arith, next_turned b)

  pub length_ended : (b : Batch) → next_free b ≤ 8 → length (ended t b) ≡ target (next_free b)
  unfolding ended
  length_ended b h = length_groups _ ∙ (next_times (target (next_free b) - next_free b) b ∙ omega (arith, target_up (next_free b) h))

pub ended_count : EndedCount
ended_count t b h =
    rw (length_ended t b h) (record { power = target_power (next_free b); enough = target_up (next_free b) h; least = target_least (next_free b) })
