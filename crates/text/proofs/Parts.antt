-- A part of a list, and what stands before and after it. Assumes nothing.
use mathlib.Core.Path.{◌≡◌, sym, ap, ◌∙◌}
use mathlib.Core.List.{List, ◌++◌, append_assoc}
use Prim.Native.Nat.{ℕ, ◌-◌}
use native.Mathlib.Omega.{arith}
use lib.ListN.{length, take, drop}
use Rattle.std.proofs.lemmas.List.{take-append-drop, take_all, length-drop}

pub rest_of : (s : List ℕ) (n : ℕ) → (front : List ℕ) × (s ≡ front ++ take (length s - n) (drop n s))
rest_of s n = let all : take (length s - n) (drop n s) ≡ drop n s = take_all (length s - n) (drop n s) (omega (arith, length-drop n s)) in (take n s, sym (ap (λ (r : List ℕ). take n s ++ r) all ∙ take-append-drop n s))

pub part_of : (s r : List ℕ) (a b : ℕ) → (front : List ℕ) × (take a (take b s) ≡ front ++ r) → (front end : List ℕ) × (s ≡ front ++ r ++ end)
part_of s r a b (front, e) =
    let x : List ℕ = drop a (take b s) in
    let y : List ℕ = drop b s in
    let p : take b s ≡ (front ++ r) ++ x = sym (take-append-drop a (take b s)) ∙ ap (λ (l : List ℕ). l ++ x) e in
    let q : s ≡ ((front ++ r) ++ x) ++ y = sym (take-append-drop b s) ∙ ap (λ (l : List ℕ). l ++ y) p in
    (front, x ++ y, q ∙ append_assoc (front ++ r) x y)
