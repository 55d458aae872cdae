-- What a text has after a push. Assumes nothing.
use mathlib.Core.Path.{◌≡◌, refl, sym, ap, ◌∙◌}
use mathlib.Core.List.{List, [], ◌∷◌, ◌++◌}
use mathlib.Core.Bool.{true, false}
use Prim.Native.Nat.{ℕ, zero, suc, ◌+◌, ◌-◌, ◌≤◌, ◌<◌, min}
use native.Mathlib.Omega.{arith}
use lib.ListN.{length, take}
use borrow.Rule.Slice.PartMut.{put_mid}
use Rattle.std.proofs.Math.Seq.{take-append-add}
use Rattle.console.specs.Said.{said}
use Rattle.std.proofs.Common.{nat_le}
use Rattle.std.proofs.lemmas.Bool.Decides.{nat_tests}
use Rattle.std.proofs.lemmas.List.{length-append, length-take-le, take_all}
use Rattle.std.proofs.lemmas.Slice.{take-put_mid}

-- taking more than there is takes all
take_min : (t : List ℕ) (l : ℕ) → take (min (length t) l) t ≡ take l t
take_min [] l = take_all (min 0 l) [] (omega arith) ∙ sym (take_all l [] (omega arith))
take_min (x ∷ xs) zero = let e : min (length (x ∷ xs)) 0 ≡ 0 = omega arith in rw e refl
take_min (x ∷ xs) (suc l) = let e : min (length (x ∷ xs)) (suc l) ≡ suc (min (length xs) l) = omega arith in rw e (ap (λ (t : List ℕ). x ∷ t) (take_min xs l))

pub pushed : (bytes text ys old : List ℕ) (size f l n : ℕ) → take f bytes ≡ old → f ≤ size → length bytes ≡ size → length old + l ≡ size → n ≡ min (length text) l → ys ≡ take n text → take (f + n) (put_mid f (f + n - f) bytes ys) ≡ take size (old ++ text)
pushed bytes text ys old size f l n e h b d m y =
    let k : f ≤ length bytes = omega (arith, h, b) in
    let o : length old ≡ f = ap length (sym e) ∙ length-take-le f bytes k in
    let u : n ≤ length text = omega (arith, m) in
    let w : length ys ≡ n = ap length y ∙ length-take-le n text u in
    let z : f + n ≡ f + length ys = omega (arith, w) in
    let q : take f bytes ++ ys ≡ old ++ take l text = rw (e, y, m, take_min text l) refl in
    let r : take size (old ++ text) ≡ old ++ take l text = ap (λ (i : ℕ). take i (old ++ text)) (sym d) ∙ take-append-add old text l in
    take-put_mid f (f + n - f) bytes ys (f + n) z k ∙ q ∙ sym r

-- a text that is said where a page has no room for it any more, and so stands on it alone; one that stands after what the page had
pub said_alone : (old text there new : List ℕ) (l : ℕ) → length old + l ≡ 65536 → l < length text → there ≡ [] → new ≡ take 65536 (there ++ text) → new ≡ said old text
said_alone old text there new l h k t e = let n : nat_le (length old + length text) 65536 ≡ false = grind (arith, nat_tests) in rw n (e ∙ ap (λ (xs : List ℕ). take 65536 (xs ++ text)) t)

pub said_after : (old text there new : List ℕ) (l : ℕ) → length old + l ≡ 65536 → length text ≤ l → there ≡ old → new ≡ take 65536 (there ++ text) → new ≡ said old text
said_after old text there new l h k t e =
    let n : nat_le (length old + length text) 65536 ≡ true = grind (arith, nat_tests) in
    let a : length (old ++ text) ≤ 65536 = omega (arith, length-append old text) in
    rw n (e ∙ ap (λ (xs : List ℕ). take 65536 (xs ++ text)) t ∙ take_all 65536 (old ++ text) a)
