-- Where two lists first differ, and the entry that says so. Assumes nothing.
use mathlib.Core.Path.{◌≡◌, refl, sym, ap, ◌∙◌}
use mathlib.Core.Bool.{Bool, true, false, cond, not, ◌&&◌}
use mathlib.Core.List.{List, [], ◌∷◌}
use Prim.Native.Nat.{ℕ, zero, suc, ◌+◌, ◌-◌, ◌≤◌, ◌<◌, min}
use native.Mathlib.Nat.{add-zero, div-div-eq-div-mul}
use native.Mathlib.Omega.{arith}
use borrow.Author.Tests.{eq-eqb, ne_eqb}
use lib.ListN.{length, get_or, take, drop}
use lib.Dec.{eqb}
use Rattle.std.specs.Prelude.{Option, None, Some, IfSome}
use Rattle.std.specs.List.{zip, position_from}
use Rattle.std.specs.Int.{to_le_bytes, w64}
use Rattle.rules.specs.Digits.{digits}
use Rattle.rules.specs.Operations.{Op, operations}
use Rattle.rules.specs.Record.{part}
use Rattle.rules.specs.Compare.{first_apart, same_op}
use Rattle.rules.proofs.Operations.{op}
use Rattle.comparison.specs.Model.{FirstApart, apart_from, noted}

module _ {A : Type 0} (same : A → A → Bool) where
  -- the entry
  pub apart_noted : (kind b i : ℕ) (xs ys : List A) → first_apart same kind b i xs ys ≡ noted kind b (apart_from same i xs ys)
  unfolding first_apart apart_from
  apart_noted kind b i [] ys = refl
  apart_noted kind b i (x ∷ xs) [] = refl
  apart_noted kind b i (x ∷ xs) (y ∷ ys) = go (same x y) (apart_noted kind b (i + 1) xs ys)
    where
      go : (t : Bool) → first_apart same kind b (i + 1) xs ys ≡ noted kind b (apart_from same (i + 1) xs ys)
          → cond t (first_apart same kind b (i + 1) xs ys) (Rattle.rules.specs.Compare.entry_at kind b i ∷ []) ≡ noted kind b (cond t (apart_from same (i + 1) xs ys) (Some i))
      go true ih = ih
      go false ih = refl

  -- only as far as both go
  pub apart_take : (i n m k : ℕ) (xs ys : List A) → n ≡ min m k → apart_from same i (take n xs) (take n ys) ≡ apart_from same i (take m xs) (take k ys)
  unfolding apart_from
  apart_take i zero zero k xs ys h = refl
  apart_take i zero (suc m) zero [] ys h = refl
  apart_take i zero (suc m) zero (x ∷ xs) ys h = refl
  apart_take i zero (suc m) (suc k) xs ys h = absurd (omega arith)
  apart_take i (suc n) zero k xs ys h = absurd (omega arith)
  apart_take i (suc n) (suc m) zero xs ys h = absurd (omega arith)
  apart_take i (suc n) (suc m) (suc k) [] ys h = refl
  apart_take i (suc n) (suc m) (suc k) (x ∷ xs) [] h = refl
  apart_take i (suc n) (suc m) (suc k) (x ∷ xs) (y ∷ ys) h = rw (apart_take (i + 1) n m k xs ys (omega arith))

  -- the place is one of the first list
  pub apart_near : (i n : ℕ) (xs ys : List A) → i + length xs ≤ n → IfSome (apart_from same i xs ys) (λ j. j < n)
  unfolding apart_from
  apart_near i n [] ys h = tt
  apart_near i n (x ∷ xs) [] h = tt
  apart_near i n (x ∷ xs) (y ∷ ys) h = go (same x y) (apart_near (i + 1) n xs ys (omega arith))
    where
      go : (t : Bool) → IfSome (apart_from same (i + 1) xs ys) (λ j. j < n) → IfSome (cond t (apart_from same (i + 1) xs ys) (Some i)) (λ j. j < n)
      go true ih = ih
      go false ih = omega arith

  module _ (d : A) where
    -- all that both have are the same
    none_apart : (i : ℕ) (xs ys : List A) → ((k : ℕ) → k < min (length xs) (length ys) → same (get_or xs k d) (get_or ys k d) ≡ true) → apart_from same i xs ys ≡ None
    unfolding apart_from
    none_apart i [] ys h = refl
    none_apart i (x ∷ xs) [] h = refl
    none_apart i (x ∷ xs) (y ∷ ys) h = rw (h 0 (omega arith)) (none_apart (i + 1) xs ys (λ k l. h (suc k) (omega arith)))

    -- all before the k-th are, and it is not
    one_apart : (i k : ℕ) (xs ys : List A) → k < min (length xs) (length ys) → ((j : ℕ) → j < k → same (get_or xs j d) (get_or ys j d) ≡ true) → same (get_or xs k d) (get_or ys k d) ≡ false
        → apart_from same i xs ys ≡ Some (i + k)
    unfolding apart_from
    one_apart i k [] ys l h e = absurd (omega arith)
    one_apart i k (x ∷ xs) [] l h e = absurd (omega arith)
    one_apart i zero (x ∷ xs) (y ∷ ys) l h e = rw (e, add-zero i)
    one_apart i (suc k) (x ∷ xs) (y ∷ ys) l h e =
        let m : i + 1 + k ≡ i + suc k = omega arith in
        rw (h 0 (omega arith)) (one_apart (i + 1) k xs ys (omega arith) (λ j g. h (suc j) (omega arith)) e ∙ rw m)

    -- what a search through n places says of them
    pub found : (n : ℕ) (P : ℕ → Type 0) (xs ys : List A) (r : Option ℕ) → n ≡ min (length xs) (length ys)
        → ((k : ℕ) → k < n → P k → same (get_or xs k d) (get_or ys k d) ≡ true) → ((k : ℕ) → k < n → (P k → ⊥) → same (get_or xs k d) (get_or ys k d) ≡ false)
        → FirstApart n P r
        → r ≡ apart_from same 0 xs ys
    found n P xs ys None e holds fails f = sym (none_apart 0 xs ys (λ k l. holds k (omega arith) (f k (omega arith))))
    found n P xs ys (Some i) e holds fails f =
        let z : 0 + i ≡ i = omega arith in
        sym (one_apart 0 i xs ys (omega (arith, f.0)) (λ j l. holds j (omega (arith, f.0)) (f.1 j l)) (fails i f.0 f.2) ∙ rw z)

-- ---- numbers

pub numbers_found : (n : ℕ) (xs ys : List ℕ) (r : Option ℕ) → length xs ≡ n → length ys ≡ n → FirstApart n (λ k. get_or xs k 0 ≡ get_or ys k 0) r → r ≡ apart_from eqb 0 xs ys
numbers_found n xs ys r l m f = found eqb 0 n (λ k. get_or xs k 0 ≡ get_or ys k 0) xs ys r (omega arith) (λ k h e. eq-eqb _ _ e) (λ k h e. ne_eqb _ _ e) f

-- the bytes of a number
pub bytes_are : (v : ℕ) → to_le_bytes w64 v ≡ digits 256 8 v
unfolding digits
bytes_are v = simp div-div-eq-div-mul

-- ---- operations

-- two operations, each as its opcode and its value
abbrev pub differ : (ℕ × ℕ) × (ℕ × ℕ) → Bool
differ p = not (eqb p.0.0 p.1.0 && eqb p.0.1 p.1.1)

abbrev pub pairs : (cs vs ds us : List ℕ) → List ((ℕ × ℕ) × (ℕ × ℕ))
pairs cs vs ds us = zip (zip cs vs) (zip ds us)

pairs_apart : (i : ℕ) (cs vs ds us : List ℕ) → position_from differ i (pairs cs vs ds us) ≡ apart_from same_op i (operations cs vs) (operations ds us)
unfolding apart_from operations same_op
pairs_apart i [] vs ds us = refl
pairs_apart i (c ∷ cs) [] ds us = refl
pairs_apart i (c ∷ cs) (v ∷ vs) [] us = refl
pairs_apart i (c ∷ cs) (v ∷ vs) (d ∷ ds) [] = refl
pairs_apart i (c ∷ cs) (v ∷ vs) (d ∷ ds) (u ∷ us) = go (eqb c d && eqb v u) (pairs_apart (i + 1) cs vs ds us)
  where
    go : (t : Bool) → position_from differ (i + 1) (pairs cs vs ds us) ≡ apart_from same_op (i + 1) (operations cs vs) (operations ds us)
        → cond (not t) (Some i) (position_from differ (i + 1) (pairs cs vs ds us)) ≡ cond t (apart_from same_op (i + 1) (operations cs vs) (operations ds us)) (Some i)
    go true ih = ih
    go false ih = refl

operations_take : (n : ℕ) (cs vs : List ℕ) → operations (take n cs) (take n vs) ≡ take n (operations cs vs)
unfolding operations
operations_take zero cs vs = refl
operations_take (suc n) [] vs = refl
operations_take (suc n) (c ∷ cs) [] = refl
operations_take (suc n) (c ∷ cs) (v ∷ vs) = ap (λ (r : List Op). op c v ∷ r) (operations_take n cs vs)

operations_drop : (n : ℕ) (cs vs : List ℕ) → operations (drop n cs) (drop n vs) ≡ drop n (operations cs vs)
unfolding operations
operations_drop zero cs vs = refl
operations_drop (suc n) [] vs = refl
operations_drop (suc n) (c ∷ cs) [] = go (drop n cs)
  where
    go : (ds : List ℕ) → operations ds [] ≡ []
    go [] = refl
    go (d ∷ ds) = refl
operations_drop (suc n) (c ∷ cs) (v ∷ vs) = operations_drop n cs vs

-- a part of each run
abbrev pub cut : ℕ → List ℕ → ℕ → List ℕ
cut n s at = take n (drop at s)

pub cut_part : (n : ℕ) (s : List ℕ) (at : ℕ) (t : List ℕ) → t ≡ take (at + n - at) (drop at s) → t ≡ cut n s at
cut_part n s at t e = let k : at + n - at ≡ n = omega arith in rw k at e

pub parts_apart : (n from at : ℕ) (cs vs ds us : List ℕ)
    → position_from differ 0 (pairs (cut n cs from) (cut n vs from) (cut n ds at) (cut n us at)) ≡ apart_from same_op 0 (part n (operations cs vs) from) (part n (operations ds us) at)
parts_apart n from at cs vs ds us =
    pairs_apart 0 (cut n cs from) (cut n vs from) (cut n ds at) (cut n us at)
    ∙ rw (operations_take n (drop from cs) (drop from vs), operations_drop from cs vs, operations_take n (drop at ds) (drop at us), operations_drop at ds us) refl
