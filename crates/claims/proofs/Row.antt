-- Items in a row: what is written is read back, what is read was written, and what is so of each item read. Assumes nothing.
use mathlib.Core.Path.{◌≡◌, refl, sym, ap, ◌∙◌, subst}
use mathlib.Core.List.{List, [], ◌∷◌, ◌++◌, append_assoc, map}
use Prim.Native.Nat.{ℕ, zero, suc, ◌+◌, ◌≤◌}
use native.Mathlib.Nat.{add-zero}
use native.Mathlib.Omega.{arith}
use lib.ListN.{length, length-append}
use Rattle.rules.specs.Lists.{in_row, All}
use Rattle.rules.specs.Answer.{Read, found, row, ◌then◌}
use Rattle.rules.proofs.Answer.{item, settle}
use Rattle.rules.proofs.Answer as L
use Rattle.claims.proofs.Found.{came}
use Rattle.claims.proofs.Stands.{Taken, none, and_then}

-- one item is found, and then the rest
pub found_row : {A : Type 0} (one : Read A) (more : ℕ → Read (List A)) (x : A) (xs : List A) (next end : ℕ) → one ≡ found x next → more next ≡ found xs end
    → (one then λ x next. more next then λ xs end. found (x ∷ xs) end) ≡ found (x ∷ xs) end
found_row one more x xs next end f g = rw (f, g)

-- ---- written, then read: `view` is what of an item is read

module _ {A B C : Type 0} (read : List B → ℕ → ℕ → Read C) (write : A → List B) (view : A → C) (P : A → Type 0) where
  pub row_back : ((x : A) (p q : List B) (i : ℕ) → P x → read (p ++ (write x ++ q)) (length p) i ≡ found (view x) (length p + length (write x)))
      → (xs : List A) (p q : List B) (i : ℕ) → All P xs
      → row (read (p ++ (in_row write xs ++ q))) (length xs) (length p) i ≡ found (map view xs) (length p + length (in_row write xs))
  unfolding row in_row
  row_back one [] p q i h = rw add-zero
  row_back one (x ∷ xs) p q i h =
      let b = write x in
      let r = in_row write xs in
      let ih = row_back one xs (p ++ b) q (i + 1) h.1 in
      let rest : row (read (p ++ (b ++ (r ++ q)))) (length xs) (length p + length b) (i + 1) ≡ found (map view xs) (length p + length b + length r) = rw (append_assoc p b (r ++ q), length-append p b) at ih in
      let s = p ++ (b ++ (r ++ q)) in
      let turn = found_row (read s (length p) i) (λ next. row (read s) (length xs) next (i + 1)) (view x) (map view xs) (length p + length b) (length p + length b + length r) (one x p (r ++ q) i h.0) rest in
      subst (λ u. row (read (p ++ u)) (suc (length xs)) (length p) i ≡ found (view x ∷ map view xs) (length p + length (b ++ r))) (sym (append_assoc b r q)) (turn ∙ ap (found (view x ∷ map view xs)) (omega (arith, length-append b r)))

module _ {A : Type 0} (read : ℕ → ℕ → Read A) where
  -- ---- read: what is so of each item

  pub row_made : (P : A → Type 0) → ((at i : ℕ) (x : A) (next : ℕ) → read at i ≡ found x next → P x)
      → (n at i : ℕ) (xs : List A) (next : ℕ) → row read n at i ≡ found xs next → (length xs ≡ n) × All P xs
  unfolding row
  row_made P one zero at i xs next h = settle (λ xs next. (length xs ≡ 0) × All P xs) [] xs at next h (refl, tt)
  row_made P one (suc n) at i xs next h =
      let a = came (read at i) _ xs next h in
      let d = came (row read n a.to (i + 1)) _ xs next a.rest in
      let ih = row_made P one n a.to (i + 1) d.got d.to d.first in
      settle (λ xs next. (length xs ≡ suc n) × All P xs) (a.got ∷ d.got) xs d.to next d.rest (ap suc ih.0, (one at i a.got a.to a.first, ih.1))

  -- ---- read, then written: the bytes of the items stand where these were read. `Room n` is what is asked of a place where n items are to be read.

  pub row_taken : (s : List ℕ) (write : A → List ℕ) (Room : ℕ → ℕ → Type 0) → ((at : ℕ) → Room 0 at → at ≤ length s)
      → ((n at i : ℕ) (x : A) (next : ℕ) → Room (suc n) at → read at i ≡ found x next → Taken (write x) s at next × Room n next)
      → (n : ℕ) (xs : List A) (at i next : ℕ) → Room n at → row read n at i ≡ found xs next → (length xs ≡ n) × Taken (in_row write xs) s at next
  unfolding row in_row
  row_taken s write Room end one zero xs at i next l h =
      let ex : [] ≡ xs = item [] xs at next h in
      rw (sym ex) (refl, record { stands = none s at (end at l); next = omega (arith, L.next [] xs at next h) })
  row_taken s write Room end one (suc n) xs at i next l h =
      let a = came (read at i) _ xs next h in
      let b = came (row read n a.to (i + 1)) _ xs next a.rest in
      let o = one n at i a.got a.to l a.first in
      let more = row_taken s write Room end one n b.got a.to (i + 1) b.to o.1 b.first in
      settle (λ xs next. (length xs ≡ suc n) × Taken (in_row write xs) s at next) (a.got ∷ b.got) xs b.to next b.rest
      (ap suc more.0, and_then (write a.got) (in_row write b.got) s at a.to b.to o.0 more.1)
